-- Moves that keep their slots: the set of the new slots is that of the old ones that move.
use Rattle.std.proofs.Common.{◌≡◌, ℕ, zero, suc, ◌+◌, ◌-◌, ◌<◌, ◌≤◌, ◌⊎◌, inl, inr, Bool, false, IsTrue, List, [], ◌∷◌, ◌++◌, length, get_or, set, min, replicate, Some, None, refl, sym, ◌∙◌, ap, arith, subst, append_assoc, length-append}
use Rattle.std.proofs.lemmas.Bool.{cases_eq}
use Rattle.std.proofs.lemmas.List.{get_or-set_other, get_or-set_same, get_or_append_left, get_or_at, length-set, set_at}
use Rattle.ax_bits.specs.Bits.{AreBits, bits}
use Rattle.ax_relation.specs.Moves.{MovesTree}
use Rattle.ax_relation.specs.PlainMoves.{move_tree, moves_tree}
use Rattle.ax_relation.specs.declared.moves.Move.{Move, out-Move}
use Rattle.ax_fspec.specs.Marks.{AreMarks, IsMarked, common_marks, no_marks, slots_from, slots_of}
use Rattle.ax_moves.proofs.Entries.{move_is}
use Rattle.ax_moves.proofs.MovedMarks.{set_with, size_none}
use Rattle.ax_moves.proofs.MovesBySlot.{found_from}
use Rattle.ax_moves.specs.BySlot.{IsFrom, KeepSlots, KeepsSlot, StayInSlots, StaysInSlot, found_canon, found_marks, found_move, slots_marks, with_slot_by}
use Rattle.ax_moves.specs.Octets.{with_slot_where, move_marks}
use Rattle.ax_format.specs.At.{slot_value}
use Rattle.ax_format.specs.Tree.{ValueTree, EntriesTree}
use Rattle.ax_moves.specs.Wholes.{whole_entries, whole_slots}
use Rattle.ax_codec.specs.declared.node.Node.{Node}
use Rattle.ax_walk.specs.Placing.{HoldsValue, window_octets, window_value}
use Rattle.ax_walk.specs.declared.places.PlacedSlots.{PlacedSlots}
use Rattle.ax_walk.specs.declared.places.Window.{Window}

-- ---- which slots stay, one after the other

pub none_stay : (nodes : List Node) (links : List ℕ) (moves : List Move) (stays : List Bool) → stays ≡ [] → StayInSlots nodes links moves 0 stays
none_stay nodes links moves stays e = record { size = ap length e; at = λ s lt. absurd (omega arith) }

pub stay_next : (nodes : List Node) (links : List ℕ) (moves : List Move) (n : ℕ) (stays new : List Bool) (one : Bool) → StayInSlots nodes links moves n stays → new ≡ stays ++ one ∷ [] → (IsTrue one → StaysInSlot nodes links (moves_tree moves) n)
    → StayInSlots nodes links moves (n + 1) new
stay_next nodes links moves n stays new one h put own = record {
  size = ap length put ∙ length-append stays (one ∷ []) ∙ (let e : length stays + 1 ≡ n + 1 = omega (arith, h.size) in e);
  at = λ s lt said. by s (cases_eq s n) lt (sym (ap (λ x. get_or x s false) put) ∙ said);
}
  where
    by : (s : ℕ) → (s ≡ n) ⊎ (s ≡ n → ⊥) → s < n + 1 → IsTrue (get_or (stays ++ one ∷ []) s false) → StaysInSlot nodes links (moves_tree moves) s
    by s (inl e) lt said =
        let is : get_or (stays ++ one ∷ []) s false ≡ one = get_or_at stays one [] false s (h.size ∙ sym e) in
        subst (StaysInSlot nodes links (moves_tree moves)) (sym e) (own (sym is ∙ said))
    by s (inr d) lt said =
        let less : s < n = omega (arith, lt, d) in
        h.at s less (sym (get_or_append_left stays (one ∷ []) false s (omega (arith, h.size, less))) ∙ said)

pub ruleset staying = (none_stay, stay_next)

-- what the move makes of a value that stays
pub stays_there : (w : PlacedSlots) (moves : List Move) (stays : List Bool) (slot : ℕ) (window : Window) → StayInSlots w.codec.now.nodes w.slots.now moves 127 stays → HoldsValue w.codec.now.nodes w.slots.now w.body.now slot window
    → slot_value slot (whole_entries w) ≡ Some (window_value w.codec.now.nodes w.slots.now w.body.now slot window) → IsTrue window.least → IsTrue (get_or stays slot false)
    → found_canon (found_move slot (moves_tree moves)) (whole_slots w) (whole_entries w) ≡ bits (window_octets window w.body.now)
stays_there w moves stays slot window known there value least said = known.at slot there.small said (whole_entries w) (window_octets window w.body.now) there.link there.bounds there.one value ∙ there.least least

-- ---- which slots are kept, one after the other

-- of slots below n, the entries that move keep their slots, and those of this set move
pub record KeptBelow (moves : List Move) (n : ℕ) (kept : List ℕ) : Type 0 where
  pub size : length kept ≡ 126
  pub at : (s : ℕ) → 1 ≤ s → s < n → KeepsSlot (moves_tree moves) s (get_or kept (s - 1) 0)
  pub none : (i : ℕ) → n ≤ i + 1 → get_or kept i 0 ≡ 0

pub none_at : (n i : ℕ) → ◌≡◌ {A = ℕ} (get_or (replicate {A = ℕ} n 0) i 0) 0
none_at zero i = refl
none_at (suc n) zero = refl
none_at (suc n) (suc i) = none_at n i

pub kept_none : (moves : List Move) (kept : List ℕ) → kept ≡ no_marks → KeptBelow moves 1 kept
unfolding no_marks
kept_none moves kept e = record {
  size = ap length e ∙ size_none;
  at = λ s some lt. absurd (omega arith);
  none = λ i le. ap (λ x. get_or x i 0) e ∙ none_at 126 i;
}

module _ (moves : List Move) (n : ℕ) (kept : List ℕ) (some : 1 ≤ n) (h : KeptBelow moves n kept) where
  pub kept_skips : found_move n (moves_tree moves) ≡ None → KeptBelow moves (n + 1) kept
  kept_skips is = record {
    size = h.size;
    at = λ s one lt. by s one lt (cases_eq s n);
    none = λ i le. h.none i (omega arith);
  }
    where
      here : KeepsSlot (moves_tree moves) n (get_or kept (n - 1) 0)
      here es v set there = ap (λ o. found_marks o es set) is ∙ ap (λ m. with_slot_by m n set) (sym (h.none (n - 1) (omega arith)))

      by : (s : ℕ) → 1 ≤ s → s < n + 1 → (s ≡ n) ⊎ (s ≡ n → ⊥) → KeepsSlot (moves_tree moves) s (get_or kept (s - 1) 0)
      by s one lt (inl e) = subst (λ k. KeepsSlot (moves_tree moves) k (get_or kept (k - 1) 0)) (sym e) here
      by s one lt (inr d) = h.at s one (omega (arith, lt, d))

  pub kept_adds : (one : Move) (new : List ℕ) → n ≤ 126 → found_move n (moves_tree moves) ≡ Some (move_tree one) → (out-Move one).new ≡ n → new ≡ set kept (n - 1) 1 → KeptBelow moves (n + 1) new
  kept_adds one new few is own put = record {
    size = ap length put ∙ length-set kept (n - 1) 1 ∙ h.size;
    at = λ s pos lt. by s pos lt (cases_eq s n);
    none = λ i le. ap (λ x. get_or x i 0) put ∙ get_or-set_other kept (n - 1) i 1 0 (λ e. absurd (omega (arith, some, le, e))) ∙ h.none i (omega arith);
  }
    where
      old : (out-Move one).old ≡ n
      old = subst (IsFrom n) (move_is one) (found_from n (moves_tree moves) (move_tree one) is)

      mark : get_or new (n - 1) 0 ≡ 1
      mark = ap (λ x. get_or x (n - 1) 0) put ∙ get_or-set_same kept (n - 1) 1 0 (omega (arith, some, few, h.size))

      here : KeepsSlot (moves_tree moves) n 1
      here es v set there =
          ap (λ o. found_marks o es set) is ∙ ap (λ t. move_marks t es set) (move_is one)
          ∙ (λ i. with_slot_where (slot_value (old i) es) (own i) set) ∙ ap (λ o. with_slot_where o n set) there

      other : (s : ℕ) → 1 ≤ s → (s ≡ n → ⊥) → get_or new (s - 1) 0 ≡ get_or kept (s - 1) 0
      other s pos d = ap (λ x. get_or x (s - 1) 0) put ∙ get_or-set_other kept (n - 1) (s - 1) 1 0 (λ e. d (omega (arith, pos, some, e)))

      by : (s : ℕ) → 1 ≤ s → s < n + 1 → (s ≡ n) ⊎ (s ≡ n → ⊥) → KeepsSlot (moves_tree moves) s (get_or new (s - 1) 0)
      by s pos lt (inl e) = subst (λ k. KeepsSlot (moves_tree moves) k (get_or new (k - 1) 0)) (sym e) (subst (KeepsSlot (moves_tree moves) n) (sym mark) here)
      by s pos lt (inr d) = subst (KeepsSlot (moves_tree moves) s) (sym (other s pos d)) (h.at s pos (omega (arith, lt, d)))

pub kept_all : (moves : List Move) (n : ℕ) (kept : List ℕ) → 127 ≤ n → KeptBelow moves n kept → KeepSlots moves kept
kept_all moves n kept le h s some few = h.at s some (omega arith)

-- ---- the set of the new slots

-- each slot that is marked has an entry, where the first mark is that of slot a
abbrev pub Present : ℕ → List ℕ → EntriesTree → Type 0
Present a marks es = (i : ℕ) → get_or marks i 0 ≡ 1 → (v : ValueTree) × (slot_value (a + i) es ≡ Some v)

one_slot : (m s : ℕ) (front : List ℕ) (n : ℕ) → m < 2 → 1 ≤ s → s ≤ 126 → length front ≡ s - 1 → with_slot_by m s (front ++ replicate (suc n) 0) ≡ (front ++ m ∷ []) ++ replicate n 0
one_slot zero s front n bit some few size = sym (append_assoc front (0 ∷ []) (replicate n 0))
one_slot (suc zero) s front n bit some few size = set_with s (front ++ 0 ∷ replicate n 0) some few ∙ set_at front 0 (replicate n 0) 1 (s - 1) size ∙ sym (append_assoc front (1 ∷ []) (replicate n 0))
one_slot (suc (suc m)) s front n bit some few size = absurd (omega arith)

grown : (front : List ℕ) (m a : ℕ) → 1 ≤ a → length front ≡ a - 1 → length (front ++ m ∷ []) ≡ a + 1 - 1
grown front m a some size = length-append front (m ∷ []) ∙ (let e : length front + 1 ≡ a + 1 - 1 = omega arith in e)

next_kept : (all : List ℕ) (a k : ℕ) (kept : List ℕ) → 1 ≤ a → ((i : ℕ) → get_or (k ∷ kept) i 0 ≡ get_or all (a - 1 + i) 0) → (i : ℕ) → get_or kept i 0 ≡ get_or all (a + 1 - 1 + i) 0
next_kept all a k kept some is i = is (suc i) ∙ ap (λ j. get_or all j 0) (let e : a - 1 + suc i ≡ a + 1 - 1 + i = omega arith in e)

next_present : (a m : ℕ) (marks : List ℕ) (es : EntriesTree) → Present a (m ∷ marks) es → Present (a + 1) marks es
next_present a m marks es there i one = let t = there (suc i) one in (t.0, ap (λ j. slot_value j es) (let e : a + 1 + i ≡ a + suc i = omega arith in e) ∙ t.1)

module _ (ms : MovesTree) (es : EntriesTree) (all : List ℕ) (keeps : (s : ℕ) → 1 ≤ s → s < 127 → KeepsSlot ms s (get_or all (s - 1) 0)) where
  kept_from : (a : ℕ) (marks kept front : List ℕ) → AreBits marks → AreBits kept → length kept ≡ length marks → 1 ≤ a → a - 1 + length marks ≤ 126 → length front ≡ a - 1 → ((i : ℕ) → get_or kept i 0 ≡ get_or all (a - 1 + i) 0) → Present a marks es
      → slots_marks (slots_from a marks) ms es (front ++ replicate (length marks) 0) ≡ front ++ common_marks marks kept
  kept_from a [] kept front ones others same some few size is there = refl
  kept_from a (m ∷ marks) [] front ones others same some few size is there = absurd (omega arith)
  kept_from a (zero ∷ marks) (k ∷ kept) front ones others same some few size is there =
      let least : 0 ≡ min 0 k = omega arith in
      ap (slots_marks (slots_from (a + 1) marks) ms es) (sym (append_assoc front (0 ∷ []) (replicate (length marks) 0)))
      ∙ kept_from (a + 1) marks kept (front ++ 0 ∷ []) ones.1 others.1 (omega arith) (omega arith) (omega arith) (grown front 0 a some size) (next_kept all a k kept some is) (next_present a 0 marks es there)
      ∙ append_assoc front (0 ∷ []) (common_marks marks kept) ∙ ap (λ n. front ++ n ∷ common_marks marks kept) least
  kept_from a (suc zero ∷ marks) (k ∷ kept) front ones others same some few size is there =
      let t = there 0 refl in
      let least : k ≡ min 1 k = omega (arith, others.0) in
      let value : slot_value a es ≡ Some t.0 = ap (λ j. slot_value j es) (let e : a ≡ a + 0 = omega arith in e) ∙ t.1 in
      let mark : get_or all (a - 1) 0 ≡ k = ap (λ j. get_or all j 0) (let e : a - 1 ≡ a - 1 + 0 = omega arith in e) ∙ sym (is 0) in
      let own : found_marks (found_move a ms) es (front ++ replicate (suc (length marks)) 0) ≡ (front ++ k ∷ []) ++ replicate (length marks) 0
      = keeps a some (omega arith) es t.0 (front ++ replicate (suc (length marks)) 0) value ∙ ap (λ x. with_slot_by x a (front ++ replicate (suc (length marks)) 0)) mark ∙ one_slot k a front (length marks) others.0 some (omega arith) size in
      ap (slots_marks (slots_from (a + 1) marks) ms es) own
      ∙ kept_from (a + 1) marks kept (front ++ k ∷ []) ones.1 others.1 (omega arith) (omega arith) (omega arith) (grown front k a some size) (next_kept all a k kept some is) (next_present a 1 marks es there)
      ∙ append_assoc front (k ∷ []) (common_marks marks kept) ∙ ap (λ n. front ++ n ∷ common_marks marks kept) least
  kept_from a (suc (suc m) ∷ marks) (k ∷ kept) front ones others same some few size is there = absurd (let lt : suc (suc m) < 2 = ones.0 in omega arith)

pub kept_marks : (moves : List Move) (es : EntriesTree) (marks kept : List ℕ) → KeepSlots moves kept → AreMarks marks → AreMarks kept → ((s : ℕ) → IsMarked marks s → (v : ValueTree) × (slot_value s es ≡ Some v))
    → common_marks marks kept ≡ slots_marks (slots_of marks) (moves_tree moves) es no_marks
unfolding no_marks
kept_marks moves es marks kept keeps own others there =
    let size : replicate (length marks) 0 ≡ replicate 126 0 = ap (λ n. replicate n 0) own.size in
    sym (kept_from (moves_tree moves) es kept keeps 1 marks kept [] own.each others.each (omega (arith, own.size, others.size)) (omega arith) (omega (arith, own.size)) refl (λ i. ap (λ j. get_or kept j 0) (let e : i ≡ 1 - 1 + i = omega arith in e))
    (λ i one. there (1 + i) (omega arith, ap (λ j. get_or marks j 0) (let e : 1 + i - 1 ≡ i = omega arith in e) ∙ one)))
    ∙ ap (slots_marks (slots_of marks) (moves_tree moves) es) size
