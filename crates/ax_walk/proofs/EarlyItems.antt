-- Items of the first seven slots, found by the marks of the first presence octet.
use Rattle.std.proofs.Common.{◌≡◌, ℕ, zero, suc, ◌+◌, ◌-◌, ◌*◌, ◌/◌, ◌%◌, ◌^◌, ◌<◌, ◌≤◌, inl, inr, ◌==◌, if◌then◌else◌, true, false, IsTrue, Some, None, List, [], ◌∷◌, ◌++◌, length, take, drop, set, get_or, bit_and, refl, sym, ◌∙◌, ap, arith, subst, append_assoc, take-append-drop}
use Rattle.std.proofs.Math.Nat.{div-div-eq-div-mul, pow-suc}
use Rattle.std.proofs.lemmas.List.{take_at, drop_at, get_or_at, get_or_append_left, length-map}
use Rattle.std.proofs.lemmas.Bool.{eqb-true}
use Rattle.std.proofs.lemmas.Nat.{and_mask}
use Rattle.ax_bits.proofs.Pieces.{word-split}
use Rattle.ax_bits.proofs.Words.{length-word, bits-AreBits}
use Rattle.ax_bits.specs.Bits.{bits, word, AreBits}
use Rattle.ax_fspec.proofs.Sets.{length-seven}
use Rattle.ax_fspec.specs.Marks.{seven, slots_from}
use Rattle.ax_fspec.specs.Marks as Marks
use Rattle.ax_format.proofs.Bounds.{count_of_slots}
use Rattle.ax_format.proofs.Meets.{Meets, MarksAre, presence_bits, presence_meets}
use Rattle.ax_format.specs.At.{slot_value}
use Rattle.ax_format.specs.InBounds.{InBounds, SlotsInBounds}
use Rattle.ax_format.specs.Failing.{PresenceFails}
use Rattle.ax_format.specs.Presence.{Presence, octets_needed, first_mark, later_marks, NoneUndefined}
use Rattle.ax_format.specs.Reader.{Read, got, failed, after, both, read, entries_read, mark_read, marked_read, presence_read}
use Rattle.ax_format.specs.Tree.{ValueTree, marked, EntriesTree, entry_and, SlotsTree, no_slots, slot_and, spare_slot, subitem, slots_of, slot_count, defined_slots}
use Rattle.ax_fspec.proofs.AtOctets.{octets_parts}
use Rattle.ax_fspec.specs.Reading.{entries_at}
use Rattle.ax_codec.specs.Meaning.{meanings, linked_slot, linked_slots}
use Rattle.ax_codec.specs.Table.{record_kind_at}
use Rattle.ax_codec.specs.declared.node.Node.{Node}
use Rattle.ax_walk.proofs.FieldRows.{field_presence}
use Rattle.ax_walk.proofs.Found.{Left, not_same}
use Rattle.ax_walk.proofs.MarkedSteps.{NextMarked, next_marked}
use Rattle.ax_walk.specs.InPlace.{FollowsEntries, SpellInOrder, StandsInPlace, entries_before}
use Rattle.ax_walk.specs.Rows.{IsField, marks_of}
use Rattle.ax_walk.specs.Values.{IsAll, IsGot, IsOne, value_read, entries_found, value_in, entries_in}

-- ---- slots that aren't marked have no entry

after_value : (s t n : ℕ) (v : ValueTree) (r : Read EntriesTree) → (t ≡ s → ⊥) → slot_value s (entries_found r) ≡ None → slot_value s (entries_found (after n (λ es. entry_and t v es) r)) ≡ None
after_value s t n v (got es m y) apart e = ap (λ b. if b then Some v else slot_value s es) (not_same t s apart) ∙ e
after_value s t n v (failed p c) apart e = refl

both_value : (s t : ℕ) (r : Read ValueTree) (go : List ℕ → Read EntriesTree) → (t ≡ s → ⊥) → ((y : List ℕ) → slot_value s (entries_found (go y)) ≡ None) → slot_value s (entries_found (both (λ v es. entry_and t v es) r go)) ≡ None
both_value s t (got v n y) go apart e = after_value s t n v (go y) apart (e y)
both_value s t (failed p c) go apart e = refl

first_at : (ms : List ℕ) → first_mark ms ≡ get_or ms 0 0
first_at [] = refl
first_at (m ∷ ms) = refl

later_at : (ms : List ℕ) (i : ℕ) → get_or (later_marks ms) i 0 ≡ get_or ms (suc i) 0
later_at [] i = refl
later_at (m ∷ ms) i = refl

next_none : (t s : ℕ) (ms : List ℕ) → ((i : ℕ) → s ≡ t + i → get_or ms i 0 ≡ 0) → (i : ℕ) → s ≡ t + 1 + i → get_or (later_marks ms) i 0 ≡ 0
next_none t s ms none i e = later_at ms i ∙ none (suc i) (let f : s ≡ t + suc i = omega (arith, e) in f)

pub not_read : (t : ℕ) (ss : SlotsTree) (ms b : List ℕ) (s : ℕ) → ((i : ℕ) → s ≡ t + i → get_or ms i 0 ≡ 0) → slot_value s (entries_found (entries_read t ss ms b)) ≡ None
not_read t no_slots ms b s none = refl
not_read t (slot_and spare_slot ss) ms b s none = not_read (t + 1) ss (later_marks ms) b s (next_none t s ms none)
not_read t (slot_and (subitem name k) ss) ms b s none = by (first_mark ms) refl (λ y. not_read (t + 1) ss (later_marks ms) y s (next_none t s ms none))
  where
    by : (m : ℕ) → first_mark ms ≡ m → ((y : List ℕ) → slot_value s (entries_found (entries_read (t + 1) ss (later_marks ms) y)) ≡ None) → slot_value s (entries_found (mark_read m t (read k) (entries_read (t + 1) ss (later_marks ms)) b)) ≡ None
    by zero e rest = rest b
    by (suc m) e rest = both_value s t (read k b) (entries_read (t + 1) ss (later_marks ms)) (λ f. (let no : suc m ≡ 0 = sym e ∙ first_at ms ∙ none 0 (let g : s ≡ t + 0 = omega (arith, f) in g) in omega (arith, no))) rest

-- ---- the bits of the first presence octet

pub early_bit : (x s : ℕ) → 1 ≤ s → s ≤ 7 → bit_and (x / 2 ^ (8 - s)) 1 ≡ get_or (seven (x / 2)) (s - 1) 0
unfolding seven
early_bit x s some few =
    let p = s - 1 in
    let r = 7 - s in
    let width : p + suc r ≡ 7 = omega arith in
    let n = x / 2 in
    let at : get_or (word 7 n) p 0 ≡ n / 2 ^ r % 2 = ap (λ k. get_or (word k n) p 0) (sym width) ∙ ap (λ k. get_or k p 0) (word-split p (suc r) n) ∙ get_or_at (word p (n / 2 ^ suc r)) (n / 2 ^ r % 2) (word r n) 0 p (length-word p (n / 2 ^ suc r)) in
    let up : 8 - s ≡ suc r = omega arith in
    let shifted : x / 2 ^ (8 - s) ≡ n / 2 ^ r = ap (λ k. x / 2 ^ k) up ∙ ap (λ k. x / k) (pow-suc 2 r ∙ (let e : 2 ^ r * 2 ≡ 2 * 2 ^ r = omega arith in e)) ∙ sym (div-div-eq-div-mul x 2 (2 ^ r)) in
    and_mask (x / 2 ^ (8 - s)) 1 ∙ ap (λ k. k % 2) shifted ∙ sym at

bit_of : (n : ℕ) → n < 2 → (n == 1) ≡ false → n ≡ 0
bit_of zero lt h = refl
bit_of (suc zero) lt h = absurd (let no : true ≡ false = h in cc)
bit_of (suc (suc n)) lt h = absurd (omega arith)

pub early_unset : (x s : ℕ) → 1 ≤ s → s ≤ 7 → (bit_and (x / 2 ^ (8 - s)) 1 == 1) ≡ false → get_or (seven (x / 2)) (s - 1) 0 ≡ 0
early_unset x s some few h = sym (early_bit x s some few) ∙ bit_of (bit_and (x / 2 ^ (8 - s)) 1) (omega (arith, and_mask (x / 2 ^ (8 - s)) 1)) h

pub early_set : (x s : ℕ) → 1 ≤ s → s ≤ 7 → IsTrue (bit_and (x / 2 ^ (8 - s)) 1 == 1) → get_or (seven (x / 2)) (s - 1) 0 ≡ 1
early_set x s some few h = sym (early_bit x s some few) ∙ eqb-true (bit_and (x / 2 ^ (8 - s)) 1) 1 h

-- ---- a presence field is read in one way, whatever slots are defined

fronts : (s t a b : List ℕ) → length s ≡ 7 → length t ≡ 7 → s ++ a ≡ t ++ b → (s ≡ t) × (a ≡ b)
fronts s t a b l m e = (sym (take_at s a 7 l) ∙ ap (take 7) e ∙ take_at t b 7 m, sym (drop_at s a 7 l) ∙ ap (drop 7) e ∙ drop_at t b 7 m)

same_field : (k : ℕ) (ms ns x w y z : List ℕ) → Presence k ms x → Presence k ns w → x ++ y ≡ w ++ z → (ms ≡ ns) × (y ≡ z)
same_field zero ms ns x w y z f g e = absurd f
same_field (suc k) ms ns x w y z (s, l, bit, inl (e, p)) (t, m, other, inl (f, q)) h =
    let front = fronts s t (0 ∷ y) (0 ∷ z) l m (sym (append_assoc s (0 ∷ []) y) ∙ ap (λ c. c ++ y) (sym p) ∙ h ∙ ap (λ c. c ++ z) q ∙ append_assoc t (0 ∷ []) z) in
    let rest : y ≡ z = (let o = front.1 in cc) in
    (e ∙ front.0 ∙ sym f, rest)
same_field (suc k) ms ns x w y z (s, l, bit, inl (e, p)) (t, m, other, inr (more, v, f, q, g)) h =
    let front = fronts s t (0 ∷ y) (1 ∷ (v ++ z)) l m (sym (append_assoc s (0 ∷ []) y) ∙ ap (λ c. c ++ y) (sym p) ∙ h ∙ ap (λ c. c ++ z) q ∙ append_assoc t (1 ∷ v) z) in
    absurd (let o = front.1 in cc)
same_field (suc k) ms ns x w y z (s, l, bit, inr (more, v, e, p, f)) (t, m, other, inl (g, q)) h =
    let front = fronts s t (1 ∷ (v ++ y)) (0 ∷ z) l m (sym (append_assoc s (1 ∷ v) y) ∙ ap (λ c. c ++ y) (sym p) ∙ h ∙ ap (λ c. c ++ z) q ∙ append_assoc t (0 ∷ []) z) in
    absurd (let o = front.1 in cc)
same_field (suc k) ms ns x w y z (s, l, bit, inr (more, v, e, p, f)) (t, m, other, inr (mores, u, g, q, i)) h =
    let front = fronts s t (1 ∷ (v ++ y)) (1 ∷ (u ++ z)) l m (sym (append_assoc s (1 ∷ v) y) ∙ ap (λ c. c ++ y) (sym p) ∙ h ∙ ap (λ c. c ++ z) q ∙ append_assoc t (1 ∷ u) z) in
    let rest : v ++ y ≡ u ++ z = (let o = front.1 in cc) in
    let later = same_field k more mores v u y z f i rest in
    (e ∙ (λ j. front.0 j ++ later.0 j) ∙ sym g, later.1)

-- ---- the marks of a value of these slots, by its presence octets

abbrev pub early_marks : List ℕ → ℕ → List ℕ
early_marks body at = marks_of (take at body)

pub record Early (nodes : List Node) (links body : List ℕ) (at : ℕ) : Type 0 where
  pub presence : Presence (octets_needed (length links)) (early_marks body at) (bits (take at body))
  pub clear : NoneUndefined (defined_slots (slots_of (linked_slots (meanings nodes) links))) (early_marks body at)
  pub are_bits : AreBits (early_marks body at)
  pub within : at ≤ length body
  pub some : IsGot (entries_at (slots_of (linked_slots (meanings nodes) links)) (early_marks body at) body at)
  pub same : entries_found (entries_at (slots_of (linked_slots (meanings nodes) links)) (early_marks body at) body at) ≡ entries_in (value_in (record_kind_at nodes links) body)

entries_got : (n : ℕ) (r : Read EntriesTree) → IsAll (after n (λ es. marked es) r) → IsGot r
entries_got n (got es m y) h = tt
entries_got n (failed p c) h = absurd h

entries_same : (n : ℕ) (r : Read EntriesTree) → entries_found r ≡ entries_in (value_read (after n (λ es. marked es) r))
entries_same n (got es m y) = refl
entries_same n (failed p c) = refl

module _ (nodes : List Node) (links body : List ℕ) (at : ℕ) (bounds : InBounds (record_kind_at nodes links)) (one : IsOne (record_kind_at nodes links) body) (f : IsField body 0 at) (few : at ≤ octets_needed (length links)) where
  abbrev ss : SlotsTree
  ss = slots_of (linked_slots (meanings nodes) links)

  abbrev k : ℕ
  k = octets_needed (slot_count ss)

  slot_number : length links ≡ slot_count ss
  slot_number = sym (length-map links (linked_slot (meanings nodes))) ∙ sym (count_of_slots (linked_slots (meanings nodes) links))

  parts : bits body ≡ bits (take at body) ++ bits (drop at body)
  parts = octets_parts body 0 at (omega arith) ∙ ap (λ n. bits (take n body) ++ bits (drop at body)) (let e : at - 0 ≡ at = omega arith in e)

  by_read : (r : Read (List ℕ)) → presence_read k (defined_slots ss) (bits body) ≡ r → Meets (MarksAre k (defined_slots ss)) (PresenceFails k (defined_slots ss) (bits body)) (bits body) r → IsAll (marked_read r (entries_read 1 ss)) → Early nodes links body at
  unfolding entries_at value_in record_kind_at
  by_read (failed p c) e meets all = absurd all
  by_read (got ms n y) e (x, split, long, marks) all =
      let own : Presence k (early_marks body at) (bits (take at body)) = field_presence k body 0 at f (subst (λ n. at ≤ octets_needed n) slot_number few) in
      let same = same_field k ms (early_marks body at) x (bits (take at body)) y (bits (drop at body)) marks.0 own (sym split ∙ parts) in
      let found : entries_read 1 ss ms y ≡ entries_read 1 ss (early_marks body at) (bits (drop at body)) = (λ i. entries_read 1 ss (same.0 i) (same.1 i)) in record {
        presence = field_presence (octets_needed (length links)) body 0 at f few;
        clear = subst (NoneUndefined (defined_slots ss)) same.0 marks.1;
        are_bits = subst AreBits same.0 (presence_bits k ms x marks.0);
        within = omega (arith, f.within);
        some = subst IsGot found (entries_got n (entries_read 1 ss ms y) all);
        same = ap entries_found (sym found) ∙ entries_same n (entries_read 1 ss ms y) ∙ ap (λ p. entries_in (value_read (marked_read p (entries_read 1 ss)))) (sym e);
      }

  pub early : Early nodes links body at
  unfolding record_kind_at
  early = by_read (presence_read k (defined_slots ss) (bits body)) refl (presence_meets k (defined_slots ss) (bits body) (bits-AreBits body) (let some = bounds.0 in omega arith)) one.all

-- the mark of a slot, by the first octet
pub early_at : (body : List ℕ) (at i : ℕ) → 0 < at → at ≤ length body → i < 7 → get_or (early_marks body at) i 0 ≡ get_or (seven (get_or body 0 0 / 2)) i 0
early_at [] at i some le few = absurd (omega arith)
early_at (x ∷ xs) zero i some le few = absurd (omega arith)
early_at (x ∷ xs) (suc n) i some le few = get_or_append_left (seven (x / 2)) (marks_of (take n xs)) 0 i (omega (arith, length-seven (x / 2)))

-- ---- the marks behind the first so many

abbrev pub cleared : ℕ → List ℕ → List ℕ
cleared zero ms = ms
cleared (suc i) [] = []
cleared (suc i) (m ∷ ms) = 0 ∷ cleared i ms

cleared_set : (i : ℕ) (ms : List ℕ) → cleared (suc i) ms ≡ set (cleared i ms) i 0
cleared_set zero [] = refl
cleared_set zero (m ∷ ms) = refl
cleared_set (suc i) [] = refl
cleared_set (suc i) (m ∷ ms) = ap (λ z. 0 ∷ z) (cleared_set i ms)

cleared_first : (s i : ℕ) (ms : List ℕ) → get_or ms i 0 ≡ 1 → slots_from s (cleared i ms) ≡ (s + i) ∷ slots_from s (cleared (suc i) ms)
cleared_first s zero [] one = absurd (omega (arith, one))
cleared_first s zero (zero ∷ ms) one = absurd (omega (arith, one))
cleared_first s zero (suc m ∷ ms) one = ap (λ t. t ∷ slots_from (s + 1) ms) (let e : s ≡ s + 0 = omega arith in e)
cleared_first s (suc i) [] one = absurd (omega (arith, one))
cleared_first s (suc i) (m ∷ ms) one = cleared_first (s + 1) i ms one ∙ ap (λ t. t ∷ slots_from (s + 1) (cleared (suc i) ms)) (let e : s + 1 + i ≡ s + suc i = omega arith in e)

cleared_same : (i : ℕ) (ms : List ℕ) → get_or ms i 0 ≡ 0 → cleared i ms ≡ cleared (suc i) ms
cleared_same zero [] none = refl
cleared_same zero (m ∷ ms) none = ap (λ x. x ∷ ms) none
cleared_same (suc i) [] none = refl
cleared_same (suc i) (m ∷ ms) none = ap (λ z. 0 ∷ z) (cleared_same i ms none)

cleared_at : (n i : ℕ) (ms : List ℕ) → i < n → get_or (cleared n ms) i 0 ≡ 0
cleared_at zero i ms lt = absurd (omega arith)
cleared_at (suc n) i [] lt = refl
cleared_at (suc n) zero (m ∷ ms) lt = refl
cleared_at (suc n) (suc i) (m ∷ ms) lt = cleared_at n i ms (omega arith)

-- ---- slot after slot

module _ (nodes : List Node) (links marks body : List ℕ) (t : ℕ) (some : 1 ≤ t) where
  next_place : suc (t - 1) ≡ t
  next_place = omega arith

  next_left : cleared (suc (t - 1)) marks ≡ cleared t marks
  next_left = ap (λ n. cleared n marks) next_place

  -- where its mark is set
  pub early_next : (at here slot : ℕ) → SlotsInBounds (slots_of (linked_slots (meanings nodes) links)) → Left (linked_slots (meanings nodes) links) marks (cleared (t - 1) marks) body at here slot → get_or marks (t - 1) 0 ≡ 1 → NextMarked nodes links (cleared (t - 1) marks) (cleared t marks) t
  early_next at here slot bounds h one =
      let first : Marks.slots_of (cleared (t - 1) marks) ≡ t ∷ slots_from 1 (cleared (suc (t - 1)) marks) = cleared_first 1 (t - 1) marks one ∙ ap (λ n. n ∷ slots_from 1 (cleared (suc (t - 1)) marks)) (let e : 1 + (t - 1) ≡ t = omega arith in e) in
      next_marked nodes links (cleared (t - 1) marks) (cleared t marks) (slots_from 1 (cleared (suc (t - 1)) marks)) t bounds h.clear h.are_bits first (sym next_left ∙ cleared_set (t - 1) marks)

  -- and where it isn't
  pub early_same : get_or marks (t - 1) 0 ≡ 0 → cleared (t - 1) marks ≡ cleared t marks
  early_same none = cleared_same (t - 1) marks none ∙ next_left

pub early_none : (nodes : List Node) (links marks body : List ℕ) (at here slot : ℕ) → Left (linked_slots (meanings nodes) links) marks (cleared slot marks) body at here slot → None ≡ slot_value slot (entries_found (entries_at (slots_of (linked_slots (meanings nodes) links)) marks body at))
unfolding entries_at
early_none nodes links marks body at here slot h =
    sym (not_read 1 (slots_of (linked_slots (meanings nodes) links)) (cleared slot marks) (bits (drop here body)) slot (λ i e. cleared_at slot i marks (omega (arith, e)))) ∙ h.same

-- ---- in its place

pub early_place : (nodes : List Node) (links body : List ℕ) (at slot : ℕ) (octets : List ℕ) → Early nodes links body at → FollowsEntries nodes links slot (entries_found (entries_at (slots_of (linked_slots (meanings nodes) links)) (early_marks body at) body at)) body at octets → StandsInPlace nodes links slot body octets
early_place nodes links body at slot octets e f = record {
  field = take at body;
  marks = early_marks body at;
  presence = e.presence;
  front = f.front;
  rest = f.rest;
  split = sym (take-append-drop at body) ∙ ap (λ r. take at body ++ r) f.split;
  before = subst (λ es. SpellInOrder nodes links (entries_before slot es) f.front) e.same f.before;
}
