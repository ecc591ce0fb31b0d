-- A presence field whose last octet marks something is the least one.
use Rattle.std.proofs.Common.{◌≡◌, ℕ, zero, suc, ◌+◌, ◌-◌, ◌*◌, ◌<◌, ◌≤◌, ◌⊎◌, inl, inr, Bool, true, false, cond, IsTrue, List, [], ◌∷◌, ◌++◌, length, take, drop, get_or, refl, sym, ◌∙◌, ap, arith, subst, length-append, length-drop, append_assoc, append-nil}
use Rattle.std.proofs.lemmas.List.{take_at, drop_at, get_or-drop, length-take-le}
use Rattle.ax_bits.proofs.Pieces.{number-word}
use Rattle.ax_bits.proofs.Words.{length-word, length-bits, bits-AreBits}
use Rattle.ax_bits.specs.Bits.{bits, word, number_of, AreOctets}
use Rattle.ax_fspec.proofs.FieldLaws.{least_alike, alike_set}
use Rattle.ax_fspec.proofs.FieldsWritten.{least_true, least_false}
use Rattle.ax_fspec.specs.Fields.{MarksSlots}
use Rattle.ax_fspec.specs.declared.mask.SlotMask.{SlotMask}
use Rattle.ax_format.proofs.Bounds.{bounds_sound, count_of_slots}
use Rattle.ax_format.proofs.Least.{later_slot, here, not_here, marks_of_spelled}
use Rattle.ax_format.proofs.Meets.{Meets, entries_meets}
use Rattle.ax_format.specs.Canonical.{canon, marks_of, entries_canon}
use Rattle.ax_format.specs.Failing.{EntriesFail}
use Rattle.ax_format.specs.InBounds.{InBounds}
use Rattle.ax_format.specs.Presence.{Presence, octets_needed, none_marked, later_marks, least_presence, NoneUndefined}
use Rattle.ax_format.specs.Spelling.{EntriesSpell}
use Rattle.ax_format.specs.Tree.{EntriesTree, no_entries, entry_and, SlotsTree, no_slots, slot_and, SlotTree, spare_slot, subitem, slots_of, slot_count, defined_slots, compound, marked}
use Rattle.ax_fspec.proofs.AtOctets.{octets_parts}
use Rattle.ax_fspec.proofs.Marking.{field_read, marks_bits}
use Rattle.ax_fspec.specs.Reading.{Gets, IsMaskOf, kind_read, entries_at}
use Rattle.ax_walk.proofs.Leading.{leads_by}
use Rattle.ax_walk.specs.Walking.{Leads, along, along_mark, NeedsLast}

-- ---- octets with no mark

none_number : (b : List ℕ) → IsTrue (none_marked b) → number_of b ≡ 0
none_number [] h = refl
none_number (zero ∷ b) h = let e = none_number b h in omega arith
none_number (suc x ∷ b) h = cc

none_after : (a b : List ℕ) → none_marked b ≡ false → none_marked (a ++ b) ≡ false
none_after [] b h = h
none_after (zero ∷ a) b h = none_after a b h
none_after (suc x ∷ a) b h = refl

none_with_zero : (a : List ℕ) → IsTrue (none_marked a) → IsTrue (none_marked (a ++ 0 ∷ []))
none_with_zero [] h = refl
none_with_zero (zero ∷ a) h = none_with_zero a h
none_with_zero (suc x ∷ a) h = cc

is_false : (b : Bool) → (IsTrue b → ⊥) → b ≡ false
is_false true h = absurd (h refl)
is_false false h = refl

-- the last of the octets, or d
abbrev pub last_of : ℕ → List ℕ → ℕ
last_of d [] = d
last_of d (x ∷ xs) = last_of x xs

pub last_window : (n : ℕ) (xs : List ℕ) (d : ℕ) → n < length xs → last_of d (take (suc n) xs) ≡ get_or xs n 0
last_window n [] d lt = absurd (omega arith)
last_window zero (x ∷ xs) d lt = refl
last_window (suc n) (x ∷ xs) d lt = last_window n xs x (omega arith)

-- ---- the first octet of a field

record FirstOctet (x : ℕ) (xs seven y : List ℕ) (c : ℕ) : Type 0 where
  octet : word 8 x ≡ seven ++ c ∷ []
  rest : bits xs ≡ y

first_octet : (x : ℕ) (xs seven y : List ℕ) (c : ℕ) → bits (x ∷ xs) ≡ seven ++ c ∷ y → length seven ≡ 7 → FirstOctet x xs seven y c
first_octet x xs seven y c e l =
    let w = word 8 x in
    let front = seven ++ c ∷ [] in
    let long : length front ≡ 8 = omega (arith, length-append seven (c ∷ [])) in
    let same : w ++ bits xs ≡ front ++ y = e ∙ sym (append_assoc seven (c ∷ []) y) in record {
      octet = sym (take_at w (bits xs) 8 (length-word 8 x)) ∙ ap (take 8) same ∙ take_at front y 8 long;
      rest = sym (drop_at w (bits xs) 8 (length-word 8 x)) ∙ ap (drop 8) same ∙ drop_at front y 8 long;
    }

no_octets : (xs : List ℕ) → bits xs ≡ [] → xs ≡ []
no_octets [] e = refl
no_octets (x ∷ xs) e = absurd (let l : length (bits (x ∷ xs)) ≡ 0 = ap length e in omega (arith, length-bits (x ∷ xs)))

marked_last : (x : ℕ) (xs seven : List ℕ) → x < 256 → (last_of x xs ≡ 0 → ⊥) → FirstOctet x xs seven [] 0 → none_marked seven ≡ false
marked_last x xs seven lt some f =
    let alone : xs ≡ [] = no_octets xs f.rest in
    is_false (none_marked seven) (λ none. (
    let zeros : IsTrue (none_marked (word 8 x)) = subst (λ b. IsTrue (none_marked b)) (sym f.octet) (none_with_zero seven none) in
    let z : x ≡ 0 = sym (number-word 8 x lt) ∙ none_number (word 8 x) zeros in
    some (ap (last_of x) alone ∙ z)))

presence_none : (k : ℕ) (ms : List ℕ) → Presence k ms [] → ⊥
presence_none zero ms h = h
presence_none (suc k) ms (seven, l, bit, inl (e, f)) = let n : 0 ≡ length (seven ++ 0 ∷ []) = ap length f in absurd (omega (arith, length-append seven (0 ∷ [])))
presence_none (suc k) ms (seven, l, bit, inr (more, y, e, f, t)) = let n : 0 ≡ length (seven ++ 1 ∷ y) = ap length f in absurd (omega (arith, length-append seven (1 ∷ y)))

-- a field whose last octet isn't 0 marks something there
marked_octets : (k : ℕ) (ms xs : List ℕ) (d : ℕ) → AreOctets xs → Presence k ms (bits xs) → (last_of d xs ≡ 0 → ⊥) → none_marked ms ≡ false
marked_octets k ms [] d octets h some = absurd (presence_none k ms h)
marked_octets zero ms (x ∷ xs) d octets h some = absurd h
marked_octets (suc k) ms (x ∷ xs) d octets (seven, l, bit, inl (e, f)) some = ap none_marked e ∙ marked_last x xs seven octets.0 some (first_octet x xs seven [] 0 f l)
marked_octets (suc k) ms (x ∷ xs) d octets (seven, l, bit, inr (more, y, e, f, t)) some =
    let o = first_octet x xs seven y 1 f l in
    ap none_marked e ∙ none_after seven more (marked_octets k more xs x octets.1 (subst (Presence k more) (sym o.rest) t) some)

none_of : (xs : List ℕ) → length xs ≡ 0 → xs ≡ []
none_of [] e = refl
none_of (x ∷ xs) e = absurd (omega arith)

at_last : (k : ℕ) (more : List ℕ) (x : ℕ) (xs : List ℕ) (d : ℕ) → (length (x ∷ xs) ≤ 1) ⊎ (last_of d (x ∷ xs) ≡ 0 → ⊥) → Presence k more (bits xs) → last_of x xs ≡ 0 → ⊥
at_last k more x xs d (inl few) p = absurd (presence_none k more (subst (λ xs. Presence k more (bits xs)) (none_of xs (omega arith)) p))
at_last k more x xs d (inr some) p = some

-- a field of one octet, or whose last octet isn't 0, is the least one
pub least_octets : (k : ℕ) (ms xs : List ℕ) (d : ℕ) → AreOctets xs → Presence k ms (bits xs) → (length xs ≤ 1) ⊎ (last_of d xs ≡ 0 → ⊥) → least_presence k ms ≡ bits xs
least_octets k ms [] d octets h need = absurd (presence_none k ms h)
least_octets zero ms (x ∷ xs) d octets h need = absurd h
least_octets (suc k) ms (x ∷ xs) d octets (seven, l, bit, inl (e, f)) need =
    ap (least_presence (suc k)) (e ∙ sym (append-nil seven))
    ∙ least_true k (seven ++ []) (omega (arith, length-append seven [])) (ap none_marked (drop_at seven [] 7 l)) ∙ ap (λ s. s ++ 0 ∷ []) (take_at seven [] 7 l) ∙ sym f
least_octets (suc k) ms (x ∷ xs) d octets (seven, l, bit, inr (more, y, e, f, t)) need =
    let o = first_octet x xs seven y 1 f l in
    let later : Presence k more (bits xs) = subst (Presence k more) (sym o.rest) t in
    let last : last_of x xs ≡ 0 → ⊥ = at_last k more x xs d need later in
    let on : none_marked more ≡ false = marked_octets k more xs x octets.1 later last in
    ap (least_presence (suc k)) e
    ∙ least_false k (seven ++ more) (omega (arith, length-append seven more)) (ap none_marked (drop_at seven more 7 l) ∙ on)
    ∙ (λ i. take_at seven more 7 l i ++ 1 ∷ least_presence k (drop_at seven more 7 l i))
    ∙ ap (λ z. seven ++ 1 ∷ z) (least_octets k more xs x octets.1 later (inr last) ∙ o.rest) ∙ sym f

-- ---- entries along their marks

pub along_is : (s : ℕ) (ss : SlotsTree) (ms : List ℕ) (es : EntriesTree) (b : List ℕ) → EntriesSpell s ss ms es b → entries_canon s ss es ≡ along ss ms es
along_is s no_slots ms no_entries b h = refl
along_is s no_slots ms (entry_and t v es) b h = absurd h
along_is s (slot_and spare_slot ss) ms es b h = along_is (s + 1) ss (later_marks ms) es b h.1
along_is s (slot_and (subitem name k) ss) ms no_entries b h =
    along_is (s + 1) ss (later_marks ms) no_entries b h.1 ∙ sym (ap (λ m. along_mark m k (along ss (later_marks ms)) no_entries) h.0)
along_is s (slot_and (subitem name k) ss) ms (entry_and t v es) b (inl (m, e, x, y, f, p, q)) =
    ap (λ b. cond b (canon k v ++ entries_canon (s + 1) ss es) (entries_canon (s + 1) ss (entry_and t v es))) (here t s e)
    ∙ ap (λ z. canon k v ++ z) (along_is (s + 1) ss (later_marks ms) es y q) ∙ sym (ap (λ m. along_mark m k (along ss (later_marks ms)) (entry_and t v es)) m)
along_is s (slot_and (subitem name k) ss) ms (entry_and t v es) b (inr (z, q)) =
    ap (λ b. cond b (canon k v ++ entries_canon (s + 1) ss es) (entries_canon (s + 1) ss (entry_and t v es))) (not_here t s (later_slot (s + 1) ss (later_marks ms) t v es b q))
    ∙ along_is (s + 1) ss (later_marks ms) (entry_and t v es) b q ∙ sym (ap (λ m. along_mark m k (along ss (later_marks ms)) (entry_and t v es)) z)

-- ---- after the field

octets_taken : (n : ℕ) (xs : List ℕ) → AreOctets xs → AreOctets (take n xs)
octets_taken zero xs h = tt
octets_taken (suc n) [] h = tt
octets_taken (suc n) (x ∷ xs) h = (h.0, octets_taken n xs h.1)

octets_left : (n : ℕ) (xs : List ℕ) → AreOctets xs → AreOctets (drop n xs)
octets_left zero xs h = h
octets_left (suc n) [] h = tt
octets_left (suc n) (x ∷ xs) h = octets_left n xs h.1

module _ (slots : List SlotTree) (mask : SlotMask) (body marks : List ℕ) (at here : ℕ) (octets : AreOctets body) (bounds : InBounds (compound (slots_of slots))) (m : IsMaskOf slots mask) (h : MarksSlots mask body at here marks) where
  window : List ℕ
  window = take (here - at) (drop at body)

  field_marks : List ℕ
  field_marks = take (7 * h.field.octets) marks

  presence : Presence (octets_needed (slot_count (slots_of slots))) field_marks (bits window)
  unfolding field_marks window
  presence = subst (λ n. Presence (octets_needed n) (take (7 * h.field.octets) marks) (bits (take (here - at) (drop at body)))) (m.count ∙ sym (count_of_slots slots)) h.field.field.field

  window_count : length window ≡ here - at
  unfolding window
  window_count = length-take-le (here - at) (drop at body) (omega (arith, length-drop at body, h.within, h.begins))

  needs : NeedsLast body at here → (length window ≤ 1) ⊎ (last_of 0 window ≡ 0 → ⊥)
  unfolding window
  needs (inl few) = inl (omega (arith, window_count))
  needs (inr some) = inr (λ z. some (sym last ∙ z))
    where
      last : last_of 0 window ≡ get_or body (here - 1) 0
      last = ap (λ n. last_of 0 (take n (drop at body))) (let e : here - at ≡ suc (here - at - 1) = omega (arith, h.begins) in e)
          ∙ last_window (here - at - 1) (drop at body) 0 (omega (arith, length-drop at body, h.within, h.begins)) ∙ get_or-drop at body (here - at - 1) 0
          ∙ ap (λ n. get_or body n 0) (let e : at + (here - at - 1) ≡ here - 1 = omega (arith, h.begins) in e)

  -- the entries that were read after the field
  pub spelled : (es : EntriesTree) (end : ℕ) → Gets (entries_at (slots_of slots) marks body here) body here end es → NoneUndefined (defined_slots (slots_of slots)) marks → (x : List ℕ) × EntriesSpell 1 (slots_of slots) marks es x
  unfolding entries_at
  spelled es end g clear =
      let t = subst (λ r. Meets (EntriesSpell 1 (slots_of slots) marks) (EntriesFail (slots_of slots) marks (bits (drop here body))) (bits (drop here body)) r) g.got (entries_meets 1 (slots_of slots) marks (bits (drop here body)) (bounds_sound (compound (slots_of slots)) bounds).1 clear (marks_bits mask body marks at here h) (bits-AreBits (drop here body))) in
      (t.0, t.3)

  pub field_leads : (least : Bool) → NoneUndefined (defined_slots (slots_of slots)) marks → (IsTrue least → NeedsLast body at here)
      → Leads (along (slots_of slots) marks) (entries_at (slots_of slots) marks body here) (canon (compound (slots_of slots))) (kind_read (compound (slots_of slots)) body at) body at here least
  unfolding window field_marks
  field_leads least clear need =
      let ss = slots_of slots in
      let k = octets_needed (slot_count ss) in
      leads_by (along ss marks) (entries_at ss marks body here) (canon (compound ss)) (kind_read (compound ss) body at) body at here (λ es. marked es) least h.within (field_read slots mask body marks at here m h)
      (λ es end f g c. (
      let s = spelled es end g clear in
      let field : least_presence k (marks_of 1 ss es) ≡ bits window =
      least_alike k (marks_of 1 ss es) marks (marks_of_spelled 1 ss marks es s.0 s.1) ∙ sym (least_alike k field_marks marks (alike_set (7 * h.field.octets) marks h.field.no_other))
      ∙ least_octets k field_marks window 0 (octets_taken (here - at) (drop at body) (octets_left at body octets)) presence (needs (need f)) in
      append_assoc (least_presence k (marks_of 1 ss es)) (entries_canon 1 ss es) (bits (drop end body))
      ∙ (λ i. field i ++ (along_is 1 ss marks es s.0 s.1 i ++ bits (drop end body))) ∙ ap (λ z. bits window ++ z) c ∙ sym (octets_parts body at here (omega (arith, h.begins)))))
