-- What moves to one new slot.
use Rattle.std.proofs.Common.{◌≡◌, ℕ, suc, ◌+◌, ◌-◌, ◌⊎◌, inl, inr, Bool, true, false, cond, bytes_eq, List, [], ◌∷◌, Option, Some, None, option_map, option_and_then, refl, ◌∙◌, ap, arith, subst}
use Rattle.ax_relation.specs.Moves.{move_from, moves_from, move_where, moves_below}
use Rattle.ax_relation.proofs.Lookups.{found_is, named_from}
use Rattle.ax_relation.proofs.MovedNamed.{source_value, new_value}
use Rattle.ax_relation.specs.Moved.{moved}
use Rattle.ax_format.specs.At.{slot_value}
use Rattle.ax_format.specs.InBounds.{InBounds, SlotsInBounds}
use Rattle.ax_format.specs.Lengths.{kind_after}
use Rattle.ax_format.specs.Naming.{found_or, slot_named}
use Rattle.ax_format.specs.Same.{common_parts}
use Rattle.ax_format.specs.Shared.{is_shared_kind}
use Rattle.ax_format.specs.Tree.{KindTree, SlotsTree, no_slots, slot_and, spare_slot, subitem, EntriesTree}

-- the move from an old slot of that number and kind, and what the new slot gets
pub record Moves (t : ℕ) (name : List ℕ) (l : KindTree) (ss : SlotsTree) (es : EntriesTree) : Type 0 where
  pub old : ℕ
  pub kind : KindTree
  pub found : slot_named 1 name ss ≡ Some (old, kind)
  pub shared : is_shared_kind kind l ≡ true
  pub move : move_where t l (slot_named 1 name ss) (moves_below l) ≡ move_from old t (common_parts kind l) (moves_from (moves_below l kind)) ∷ []
  pub value : new_value name l ss es ≡ option_map (moved l kind) (slot_value old es)

abbrev pub Stays : ℕ → List ℕ → KindTree → SlotsTree → EntriesTree → Type 0
Stays t name l ss es = (move_where t l (slot_named 1 name ss) (moves_below l) ≡ []) × (new_value name l ss es ≡ None)

-- one value moves, or none
pub slot_cases : (t : ℕ) (name : List ℕ) (l : KindTree) (ss : SlotsTree) (es : EntriesTree) → Moves t name l ss es ⊎ Stays t name l ss es
slot_cases t name l ss es = by_found (slot_named 1 name ss) refl
  where
    by_shared : (s : ℕ × KindTree) (b : Bool) → slot_named 1 name ss ≡ Some s → is_shared_kind s.1 l ≡ b → Moves t name l ss es ⊎ Stays t name l ss es
    by_shared s true found shared = inl (record {
      old = s.0;
      kind = s.1;
      found = found;
      shared = shared;
      move = ap (λ o. move_where t l o (moves_below l)) found ∙ ap (λ b. cond b (move_from s.0 t (common_parts s.1 l) (moves_from (moves_below l s.1)) ∷ []) []) shared;
      value = ap (option_and_then (source_value l es)) found ∙ ap (λ b. cond b (option_map (moved l s.1) (slot_value s.0 es)) None) shared;
    })
    by_shared s false found shared = inr (
      ap (λ o. move_where t l o (moves_below l)) found ∙ ap (λ b. cond b (move_from s.0 t (common_parts s.1 l) (moves_from (moves_below l s.1)) ∷ []) []) shared,
      ap (option_and_then (source_value l es)) found ∙ ap (λ b. cond b (option_map (moved l s.1) (slot_value s.0 es)) None) shared,
    )

    by_found : (o : Option (ℕ × KindTree)) → slot_named 1 name ss ≡ o → Moves t name l ss es ⊎ Stays t name l ss es
    by_found None found = inr (ap (λ o. move_where t l o (moves_below l)) found, ap (option_and_then (source_value l es)) found)
    by_found (Some s) found = by_shared s (is_shared_kind s.1 l) found refl

-- the slot of a name has its kind
pub named_kind : (n : ℕ) (name : List ℕ) (ss : SlotsTree) (s : ℕ) (k : KindTree) → slot_named n name ss ≡ Some (s, k) → kind_after (s - n) ss ≡ Some k
named_kind n name no_slots s k e = cc
named_kind n name (slot_and spare_slot ss) s k e =
    let le = named_from (n + 1) name ss s k e in
    let i : s - n ≡ suc (s - (n + 1)) = omega arith in ap (λ i. kind_after i (slot_and spare_slot ss)) i ∙ named_kind (n + 1) name ss s k e
named_kind n name (slot_and (subitem own l) ss) s k e = by (bytes_eq own name) e (λ f. named_kind (n + 1) name ss s k f)
  where
    by : (b : Bool) → found_or (cond b (Some l) None) n (slot_named (n + 1) name ss) ≡ Some (s, k) → (slot_named (n + 1) name ss ≡ Some (s, k) → kind_after (s - (n + 1)) ss ≡ Some k)
        → kind_after (s - n) (slot_and (subitem own l) ss) ≡ Some k
    by true e later =
        let f = found_is (n, l) (s, k) e in
        let i : s - n ≡ 0 = let g = f.0 in omega arith in ap (λ i. kind_after i (slot_and (subitem own l) ss)) i ∙ ap (λ x. Some x) f.1
    by false e later =
        let le = named_from (n + 1) name ss s k e in
        let i : s - n ≡ suc (s - (n + 1)) = omega arith in ap (λ i. kind_after i (slot_and (subitem own l) ss)) i ∙ later e

-- and keeps its bounds
pub named_bounds : (n : ℕ) (name : List ℕ) (ss : SlotsTree) (s : ℕ) (k : KindTree) → slot_named n name ss ≡ Some (s, k) → SlotsInBounds ss → InBounds k
named_bounds n name no_slots s k e b = cc
named_bounds n name (slot_and spare_slot ss) s k e b = named_bounds (n + 1) name ss s k e b
named_bounds n name (slot_and (subitem own l) ss) s k e b = by (bytes_eq own name) e (λ f. named_bounds (n + 1) name ss s k f b.1)
  where
    by : (t : Bool) → found_or (cond t (Some l) None) n (slot_named (n + 1) name ss) ≡ Some (s, k) → (slot_named (n + 1) name ss ≡ Some (s, k) → InBounds k) → InBounds k
    by true e later = subst InBounds (found_is (n, l) (s, k) e).1 b.0
    by false e later = later e
