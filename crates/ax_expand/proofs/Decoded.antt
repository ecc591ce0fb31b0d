-- What was decoded is what the content spells, or how it fails.
use Rattle.std.proofs.Common.{◌≡◌, ℕ, ◌-◌, ◌*◌, ◌<◌, ◌≤◌, inl, inr, List, [], length, drop, map, Result, Ok, Err, IfOk, IfErr, refl, sym, ◌∙◌, ap, arith, subst, length-drop}
use Rattle.std.proofs.lemmas.List.{drop_all, length-map}
use Rattle.ax_bits.proofs.Words.{length-bits, bits-AreBits}
use Rattle.ax_bits.specs.Bits.{bits, AreBits}
use Rattle.ax_fspec.specs.Fields.{MarksSlots}
use Rattle.ax_fspec.specs.Fields as Field
use Rattle.ax_fspec.specs.declared.mask.SlotMask.{SlotMask}
use Rattle.ax_format.proofs.Bounds.{bounds_sound, count_of_slots}
use Rattle.ax_format.proofs.VariantTrees.{marked_value}
use Rattle.ax_format.specs.InBounds.{InBounds, SlotsInBounds}
use Rattle.ax_format.specs.Plain.{slot_tree, slots_tree, entries_tree, value_tree}
use Rattle.ax_format.specs.Reader.{got}
use Rattle.ax_format.specs.Tree.{SlotsTree, ValueTree, marked, compound}
use Rattle.ax_format.specs.declared.fault.BodyFault.{BodyFault}
use Rattle.ax_format.specs.declared.kind.Slot.{Slot}
use Rattle.ax_format.specs.declared.value.Entry.{Entry}
use Rattle.ax_format.specs.declared.value.Value.{Value}
use Rattle.ax_format.specs.declared.value.Value.TheVariants as ValueOf
use Rattle.ax_format.specs.declared.value.Value.TheVariants.{rolls-Compound}
use Rattle.ax_fspec.proofs.Continuing.{gets_after}
use Rattle.ax_fspec.proofs.Marking.{field_read, marks_bits as field_bits, field_failed as mask_failed}
use Rattle.ax_fspec.specs.Reading.{Gets, FailsAt, IsMaskOf, entries_at, kind_read}
use Rattle.ax_values.proofs.Continuing.{failed_after, failed_by_fault}
use Rattle.ax_values.specs.SlotReading.{HasFailed}
use Rattle.ax_values.specs.declared.error.DecodeError.{DecodeError}
use Rattle.ax_values.specs.declared.error.DecodeError.TheVariants as Decoding
use Rattle.ax_expand.proofs.Contents.{spelled_of, trailing_of, inside_of, one_value, never_both, fails_once}
use Rattle.ax_expand.specs.Answers.{IsContentFault, IsOrMemory, AnswersFault}
use Rattle.ax_expand.specs.Content.{SpellsContent, FailsContent, content_cause}
use Rattle.ax_expand.specs.Reading.{content_read, MarksContent, FailsToMark}
use Rattle.ax_expand.specs.declared.form.Form.{Form}
use Rattle.ax_expand.specs.declared.form.Form.TheVariants.{Fx}
use Rattle.ax_expand.specs.declared.fault.ContentCause.{ContentCause}
use Rattle.ax_expand.specs.declared.fault.ContentCause.TheVariants.{TrailingOctets}
use Rattle.ax_expand.specs.declared.fault.ContentError.{ContentError}
use Rattle.ax_expand.specs.declared.fault.ContentError.TheVariants as Failing

-- ---- a field, and the entries after it

pub front_gets : (form : Form) (ss : SlotsTree) (content marks : List ℕ) (here : ℕ) (r : Result (List Entry × ℕ) DecodeError) → MarksContent form ss content here marks
    → IfOk r (λ r. Gets (entries_at ss marks content here) content here r.1 (entries_tree r.0)) → IfOk r (λ r. Gets (content_read form ss (bits content)) content 0 r.1 (marked (entries_tree r.0)))
front_gets form ss content marks here (Ok r) m h = gets_after (content_read form ss (bits content)) (entries_at ss marks content here) content 0 here r.1 (λ es. marked es) (entries_tree r.0) m.follows h
front_gets form ss content marks here (Err e) m h = h

pub front_failed : (form : Form) (ss : SlotsTree) (content marks : List ℕ) (here : ℕ) (r : Result (List Entry × ℕ) DecodeError) → MarksContent form ss content here marks
    → IfErr r (λ e. HasFailed (entries_at ss marks content here) here e) → IfErr r (λ e. HasFailed (content_read form ss (bits content)) 0 e)
front_failed form ss content marks here (Ok r) m h = h
front_failed form ss content marks here (Err e) m h = failed_after (content_read form ss (bits content)) (entries_at ss marks content here) 0 here (λ es. marked es) e m.follows h

pub field_failed : (form : Form) (ss : SlotsTree) (content : List ℕ) (fault : BodyFault) (e : DecodeError) → FailsToMark form ss content fault → e ≡ Decoding.Fault fault → HasFailed (content_read form ss (bits content)) 0 e
field_failed form ss content fault e h is = failed_by_fault (content_read form ss (bits content)) 0 e fault is h.fails

pub marks_bits : (form : Form) (ss : SlotsTree) (content marks : List ℕ) (end : ℕ) → MarksContent form ss content end marks → AreBits marks
marks_bits form ss content marks end h = h.are_bits

pub marks_end : (form : Form) (ss : SlotsTree) (content marks : List ℕ) (end : ℕ) → MarksContent form ss content end marks → end ≤ length content
marks_end form ss content marks end h = h.within

pub slots_bounds : (ss : SlotsTree) → InBounds (compound ss) → SlotsInBounds ss
slots_bounds ss h = h.2

pub slots_few : (slots : List Slot) → InBounds (compound (slots_tree slots)) → length slots ≤ 126
slots_few slots h = omega (arith, h.1, count_of_slots (map slot_tree slots), length-map slots slot_tree)

pub slots_some : (slots : List Slot) → InBounds (compound (slots_tree slots)) → 1 ≤ length slots
slots_some slots h = omega (arith, h.0, count_of_slots (map slot_tree slots), length-map slots slot_tree)

pub ruleset fronts = (field_failed, marks_bits, marks_end, slots_bounds, slots_few)

-- ---- a compound's field

pub fx_marks : (slots : List Slot) (mask : SlotMask) (content marks : List ℕ) (end : ℕ) → IsMaskOf (map slot_tree slots) mask → MarksSlots mask content 0 end marks → MarksContent Fx (slots_tree slots) content end marks
unfolding content_read kind_read
fx_marks slots mask content marks end m h = record { within = h.within; are_bits = field_bits mask content marks 0 end h; follows = field_read (map slot_tree slots) mask content marks 0 end m h }

pub fx_fails : (slots : List Slot) (mask : SlotMask) (content : List ℕ) (fault : BodyFault) → IsMaskOf (map slot_tree slots) mask → Field.FailsToMark mask content 0 fault → FailsToMark Fx (slots_tree slots) content fault
unfolding content_read kind_read
fx_fails slots mask content fault m h = record { fails = mask_failed (map slot_tree slots) mask content 0 fault m h }

pub fx_ok : (slots : List Slot) (mask : SlotMask) (content marks : List ℕ) (r : Result ℕ BodyFault) → IsMaskOf (map slot_tree slots) mask → IfOk r (λ end. MarksSlots mask content 0 end marks) → IfOk r (λ end. MarksContent Fx (slots_tree slots) content end marks)
fx_ok slots mask content marks (Ok end) m h = fx_marks slots mask content marks end m h
fx_ok slots mask content marks (Err fault) m h = h

pub fx_err : (slots : List Slot) (mask : SlotMask) (content : List ℕ) (r : Result ℕ BodyFault) → IsMaskOf (map slot_tree slots) mask → IfErr r (λ fault. Field.FailsToMark mask content 0 fault) → IfErr r (λ fault. FailsToMark Fx (slots_tree slots) content fault)
fx_err slots mask content (Ok end) m h = h
fx_err slots mask content (Err fault) m h = fx_fails slots mask content fault m h

pub ruleset fields = (fx_ok, fx_err, slots_few, slots_some)

-- ---- all of a content

pub value_spelled : (form : Form) (ss : SlotsTree) (content : List ℕ) (end : ℕ) (v : ValueTree) → InBounds (compound ss) → Gets (content_read form ss (bits content)) content 0 end v → length content ≤ end → SpellsContent form ss v (bits content)
value_spelled form ss content end v bounds h past =
    let none : drop end content ≡ [] = drop_all end content past in
    spelled_of form ss (bits content) v (8 * (end - 0)) (bounds_sound (compound ss) bounds) (bits-AreBits content) (h.got ∙ ap (λ t. got v (8 * (end - 0)) (bits t)) none)

pub entries_spelled : (form : Form) (ss : SlotsTree) (content : List ℕ) (end : ℕ) (entries : List Entry) → InBounds (compound ss) → Gets (content_read form ss (bits content)) content 0 end (marked (entries_tree entries)) → length content ≤ end
    → SpellsContent form ss (value_tree (ValueOf.Compound entries)) (bits content)
entries_spelled form ss content end entries bounds h past =
    subst (λ v. SpellsContent form ss v (bits content)) (sym (marked_value entries)) (value_spelled form ss content end (marked (entries_tree entries)) bounds h past)

pub octets_trail : (form : Form) (ss : SlotsTree) (content : List ℕ) (end : ℕ) (v : ValueTree) → InBounds (compound ss) → Gets (content_read form ss (bits content)) content 0 end v → end < length content → FailsContent form ss (bits content) (8 * end) TrailingOctets
octets_trail form ss content end v bounds h lt =
    let y = bits (drop end content) in
    let some : 0 < length y = omega (arith, lt, length-bits (drop end content), length-drop end content) in
    subst (λ p. FailsContent form ss (bits content) p TrailingOctets) (let e : 8 * (end - 0) ≡ 8 * end = omega arith in e)
    (trailing_of form ss (bits content) v (8 * (end - 0)) y (bounds_sound (compound ss) bounds) (bits-AreBits content) some h.got)

pub fault_inside : (form : Form) (ss : SlotsTree) (content : List ℕ) (fault : BodyFault) (e : DecodeError) (c : ContentCause) → InBounds (compound ss) → HasFailed (content_read form ss (bits content)) 0 e → e ≡ Decoding.Fault fault → c ≡ content_cause fault.cause
    → FailsContent form ss (bits content) fault.bit c
fault_inside form ss content fault e c bounds h is same =
    let f : FailsAt (content_read form ss (bits content)) 0 fault = h.met fault is in
    subst (λ c. FailsContent form ss (bits content) fault.bit c) (sym same)
    (subst (λ p. FailsContent form ss (bits content) p (content_cause fault.cause)) (let e : f.place ≡ fault.bit = omega (arith, f.bit) in e)
    (inside_of form ss (bits content) f.place fault.cause (bounds_sound (compound ss) bounds) (bits-AreBits content) f.failed))

pub fault_met : (form : Form) (ss : SlotsTree) (content : List ℕ) (fault : BodyFault) (c : ContentCause) → InBounds (compound ss) → HasFailed (content_read form ss (bits content)) 0 (Decoding.Fault fault) → c ≡ content_cause fault.cause → FailsContent form ss (bits content) fault.bit c
fault_met form ss content fault c bounds h same = fault_inside form ss content fault (Decoding.Fault fault) c bounds h refl same

pub ruleset wholes = (value_spelled, octets_trail, fault_inside)

-- ---- one answer

module _ (form : Form) (ss : SlotsTree) (b : List ℕ) where
  pub where_spelled : (r : Result Value ContentError) → IfOk r (λ value. SpellsContent form ss (value_tree value) b) → IfErr r (IsContentFault form ss b) → (v : ValueTree) → SpellsContent form ss v b → IsOrMemory (λ value. value_tree value ≡ v) r
  where_spelled (Ok value) h g v s = one_value form ss (value_tree value) v b h s
  where_spelled (Err (Failing.Fault cause bit)) h g v s = absurd (never_both form ss v b bit cause s g)
  where_spelled (Err Failing.OutOfMemory) h g v s = refl

  pub where_faulty : (r : Result Value ContentError) → IfOk r (λ value. SpellsContent form ss (value_tree value) b) → IfErr r (IsContentFault form ss b) → (p : ℕ) (c : ContentCause) → FailsContent form ss b p c → AnswersFault p c r
  where_faulty (Ok value) h g p c s = never_both form ss (value_tree value) b p c h s
  where_faulty (Err (Failing.Fault cause bit)) h g p c s = let same = fails_once form ss b bit p cause c g s in inl (λ i. Failing.Fault (same.1 i) (same.0 i))
  where_faulty (Err Failing.OutOfMemory) h g p c s = inr refl
