-- Records as values, and records one after the other.
use Rattle.std.proofs.Common.{◌≡◌, ℕ, zero, suc, ◌+◌, ◌-◌, ◌<◌, ◌≤◌, List, [], ◌∷◌, ◌++◌, length, take, drop, Result, Ok, Err, IfOk, IfErr, inl, inr, refl, sym, ◌∙◌, ap, arith, subst, length-append, append_assoc, append-nil, take-append-drop, length-drop, take-add}
use Rattle.std.specs.Result.{IsErrAnd}
use Rattle.std.proofs.lemmas.List.{length-take-le, take_all}
use Rattle.ax_bits.proofs.Words.{bits-append, length-bits}
use Rattle.ax_bits.specs.Bits.{bits}
use Rattle.ax_format.proofs.BodyReader.{record_some}
use Rattle.ax_format.proofs.Once.{body_fails_once, body_never_both}
use Rattle.ax_format.specs.Bodies.{SpellsRecord, RecordsSpell, SpellsBody}
use Rattle.ax_format.specs.Plain.{record_tree, records_tree}
use Rattle.ax_format.specs.Specification.{SpecTree, record_kind}
use Rattle.ax_format.specs.Tree.{EntriesTree, ValueTree, marked}
use Rattle.ax_format.specs.declared.fault.BodyFault.{BodyFault}
use Rattle.ax_format.specs.declared.record.Record.{Record}
use Rattle.ax_fspec.specs.Reading.{IsSpelledAt, IsFaultAt}
use Rattle.ax_values.specs.Decoding.{IsRecordAt, IsRecordFaultAt, IsBodyFault, IsOrMemory, AnswersFault, IsFaultOf}
use Rattle.ax_values.specs.declared.error.DecodeError.{DecodeError}
use Rattle.ax_values.specs.declared.error.DecodeError.TheVariants as Decoding

-- ---- records as values

pub record_at : (spec : SpecTree) (body : List ℕ) (at end : ℕ) (es : EntriesTree) → IsSpelledAt (record_kind spec) body at end (marked es) → IsRecordAt spec body at end es
record_at spec body at end es h = record { forwards = h.forwards; within = h.within; spelling = record { spells = h.spelling.spells } }

value_at : (spec : SpecTree) (body : List ℕ) (at end : ℕ) (es : EntriesTree) → IsRecordAt spec body at end es → IsSpelledAt (record_kind spec) body at end (marked es)
value_at spec body at end es h = record { forwards = h.forwards; within = h.within; spelling = record { spells = h.spelling.spells } }

pub record_fault : (spec : SpecTree) (body : List ℕ) (at : ℕ) (fault : BodyFault) → IsFaultAt (record_kind spec) body at fault → IsRecordFaultAt spec body at fault
record_fault spec body at fault h = record { place = h.place; fails = record { fails = h.fails.fails }; bit = h.bit }

value_fault : (spec : SpecTree) (body : List ℕ) (at : ℕ) (fault : BodyFault) → IsRecordFaultAt spec body at fault → IsFaultAt (record_kind spec) body at fault
value_fault spec body at fault h = record { place = h.place; fails = record { fails = h.fails.fails }; bit = h.bit }

entries_same : {es fs : EntriesTree} → marked es ≡ marked fs → es ≡ fs
entries_same e = cc

module _ (spec : SpecTree) (body : List ℕ) (at : ℕ) where
  pub record_ok : (r : Result (Record × ℕ) DecodeError) → IfOk r (λ r. IsSpelledAt (record_kind spec) body at r.1 (marked (record_tree r.0))) → IfOk r (λ r. IsRecordAt spec body at r.1 (record_tree r.0))
  record_ok (Ok r) h = record_at spec body at r.1 (record_tree r.0) h
  record_ok (Err e) h = h

  pub record_err : (r : Result (Record × ℕ) DecodeError) → IfErr r (IsFaultOf (IsFaultAt (record_kind spec) body at)) → IfErr r (IsFaultOf (IsRecordFaultAt spec body at))
  record_err (Ok r) h = h
  record_err (Err (Decoding.Fault fault)) h = record_fault spec body at fault h
  record_err (Err Decoding.OutOfMemory) h = tt

  pub record_spelled : (r : Result (Record × ℕ) DecodeError) → ((v : ValueTree) (end : ℕ) → IsSpelledAt (record_kind spec) body at end v → IsOrMemory (λ r. (marked (record_tree r.0) ≡ v) × (r.1 ≡ end)) r)
      → (es : EntriesTree) (end : ℕ) → IsRecordAt spec body at end es → IsOrMemory (λ r. (record_tree r.0 ≡ es) × (r.1 ≡ end)) r
  record_spelled (Ok r) h es end s = let t = h (marked es) end (value_at spec body at end es s) in (entries_same t.0, t.1)
  record_spelled (Err e) h es end s = h (marked es) end (value_at spec body at end es s)

  pub record_faulty : (r : Result (Record × ℕ) DecodeError) → ((fault : BodyFault) → IsFaultAt (record_kind spec) body at fault → AnswersFault fault r) → (fault : BodyFault) → IsRecordFaultAt spec body at fault → AnswersFault fault r
  record_faulty r h fault s = h fault (value_fault spec body at fault s)

-- ---- a body

-- the first octets spell the records
pub record BodySoFar (spec : SpecTree) (body : List ℕ) (at : ℕ) (made : List Record) : Type 0 where
  pub within : at ≤ length body
  pub few : length made ≤ at
  pub spelled : RecordsSpell spec (records_tree made) (bits (take at body))

pub one_more : (spec : SpecTree) (rs : List EntriesTree) (r : EntriesTree) (x y : List ℕ) → RecordsSpell spec rs x → SpellsRecord spec r y → RecordsSpell spec (rs ++ r ∷ []) (x ++ y)
one_more spec [] r x y h g = (y, [], ap (λ x. x ++ y) h ∙ sym (append-nil y), g, refl)
one_more spec (s ∷ rs) r x y (u, v, e, h, t) g = (u, v ++ y, ap (λ x. x ++ y) e ∙ append_assoc u v y, h, one_more spec rs r v y t g)

map_more : (made : List Record) (r : Record) → records_tree (made ++ r ∷ []) ≡ records_tree made ++ record_tree r ∷ []
map_more [] r = refl
map_more (s ∷ made) r = ap (λ x. record_tree s ∷ x) (map_more made r)

pub forwards_record : (spec : SpecTree) (body : List ℕ) (at end : ℕ) (es : EntriesTree) → IsRecordAt spec body at end es → at < end
forwards_record spec body at end es h = some (end - at) refl
  where
    some : (n : ℕ) → end - at ≡ n → at < end
    some zero e = absurd (let one = record_some spec es (bits (take (end - at) (drop at body))) h.spelling in let none : length (bits (take (end - at) (drop at body))) ≡ 0 = ap (λ n. length (bits (take n (drop at body)))) e in omega arith)
    some (suc n) e = omega arith

pub body_more : (spec : SpecTree) (body : List ℕ) (at end : ℕ) (made : List Record) (r : Record) → BodySoFar spec body at made → IsRecordAt spec body at end (record_tree r) → BodySoFar spec body end (made ++ r ∷ [])
body_more spec body at end made r h g = record {
  within = g.within;
  few = omega (arith, h.few, length-append made (r ∷ []), forwards_record spec body at end (record_tree r) g);
  spelled = subst (λ b. RecordsSpell spec (records_tree (made ++ r ∷ [])) b) (sym joined)
      (subst (λ rs. RecordsSpell spec rs (bits (take at body) ++ bits (take (end - at) (drop at body)))) (sym (map_more made r))
      (one_more spec (records_tree made) (record_tree r) (bits (take at body)) (bits (take (end - at) (drop at body))) h.spelled g.spelling));
}
  where
    joined : bits (take end body) ≡ bits (take at body) ++ bits (take (end - at) (drop at body))
    joined = ap (λ n. bits (take n body)) (let e : end ≡ at + (end - at) = omega (arith, g.forwards) in e) ∙ ap bits (take-add at (end - at) body) ∙ bits-append (take at body) (take (end - at) (drop at body))

some_records : (made : List Record) (spec : SpecTree) (b : List ℕ) → RecordsSpell spec (records_tree made) b → 0 < length b → 0 < length (records_tree made)
some_records [] spec b h some = absurd (omega (arith, ap length h))
some_records (r ∷ made) spec b h some = omega arith

pub body_all : (spec : SpecTree) (body : List ℕ) (at : ℕ) (made : List Record) → BodySoFar spec body at made → length body ≤ at → 1 ≤ length body → SpellsBody spec (records_tree made) (bits body)
body_all spec body at made h past some =
    let whole : bits (take at body) ≡ bits body = ap bits (take_all at body past) in
    let s : RecordsSpell spec (records_tree made) (bits body) = subst (RecordsSpell spec (records_tree made)) whole h.spelled in
    record { some = some_records made spec (bits body) s (omega (arith, length-bits body)); spelled = s }

pub body_fault : (spec : SpecTree) (body : List ℕ) (at : ℕ) (made : List Record) (fault : BodyFault) → BodySoFar spec body at made → at < length body → IsRecordFaultAt spec body at fault → IsBodyFault spec body fault
body_fault spec body at made fault h lt g = record {
  fails = record {
    records = records_tree made;
    before = bits (take at body);
    left = bits (drop at body);
    split = ap bits (sym (take-append-drop at body)) ∙ bits-append (take at body) (drop at body);
    spelled = h.spelled;
    some = omega (arith, length-bits (drop at body), length-drop at body);
    place = g.place;
    counted = omega (arith, g.bit, length-bits (take at body), length-take-le at body h.within);
    fails = g.fails;
  };
}

-- ---- one answer for a body

module _ (spec : SpecTree) (body : List ℕ) where
  pub body_err : (at : ℕ) (made : List Record) (e : DecodeError) → BodySoFar spec body at made → at < length body → IsFaultOf (IsRecordFaultAt spec body at) e → IsFaultOf (IsBodyFault spec body) e
  body_err at made (Decoding.Fault fault) h lt g = body_fault spec body at made fault h lt g
  body_err at made Decoding.OutOfMemory h lt g = tt

  pub names_passed : {B : Type 0} (r : Result B DecodeError) (e : DecodeError) → IsErrAnd r (λ d. d ≡ e) → IsFaultOf (IsBodyFault spec body) e → IfErr r (IsFaultOf (IsBodyFault spec body))
  names_passed (Ok b) e h g = absurd h
  names_passed (Err d) e h g = subst (IsFaultOf (IsBodyFault spec body)) (sym h) g

  pub err_spelled : {B : Type 0} (P : B → Type 0) (r : Result B DecodeError) (e : DecodeError) → IsErrAnd r (λ d. d ≡ e) → IsFaultOf (IsBodyFault spec body) e → (rs : List EntriesTree) → SpellsBody spec rs (bits body) → IsOrMemory P r
  err_spelled P (Ok b) e h g rs s = absurd h
  err_spelled P (Err d) (Decoding.Fault fault) h g rs s = absurd (body_never_both spec (bits body) rs fault.bit fault.cause s g.fails)
  err_spelled P (Err d) Decoding.OutOfMemory h g rs s = h

  pub err_faulty : {B : Type 0} (r : Result B DecodeError) (e : DecodeError) → IsErrAnd r (λ d. d ≡ e) → IsFaultOf (IsBodyFault spec body) e → (fault : BodyFault) → IsBodyFault spec body fault → AnswersFault fault r
  err_faulty (Ok b) e h g fault s = absurd h
  err_faulty (Err d) (Decoding.Fault other) h g fault s =
      let t = body_fails_once spec (bits body) other.bit fault.bit other.cause fault.cause g.fails s.fails in inl (h ∙ (λ i. Decoding.Fault (record { cause = t.1 i; bit = t.0 i })))
  err_faulty (Err d) Decoding.OutOfMemory h g fault s = inr h
