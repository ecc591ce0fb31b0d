-- The moves to the new slots, one slot at a time.
use Rattle.std.proofs.Common.{◌≡◌, ℕ, ◌+◌, ◌<◌, ◌≤◌, true, false, cond, List, [], ◌∷◌, ◌++◌, length, map, drop, get_or, Option, Some, None, refl, sym, ◌∙◌, ap, append_assoc, append-nil}
use Rattle.std.proofs.lemmas.List.{drop_all, map-append}
use Rattle.std.specs.Borrow.{Bor}
use Rattle.ax_edition.specs.Index.{found, FindsBelow}
use Rattle.ax_relation.specs.Below.{slot_below}
use Rattle.ax_relation.specs.Moves.{MoveTree, move_from, moves_from, move_where, moves_below, moves_of, slot_moves}
use Rattle.ax_relation.specs.PlainMoves.{move_tree}
use Rattle.ax_edition.specs.SlotItems.{item_slot, items_tree}
use Rattle.ax_edition.specs.declared.index.Index.{Index}
use Rattle.ax_relation.specs.declared.moves.Move.{Move}
use Rattle.ax_format.proofs.Namings.{from_place}
use Rattle.ax_format.specs.Plain.{slot_tree, slots_tree}
use Rattle.ax_format.specs.Same.{common_parts}
use Rattle.ax_format.specs.Shared.{is_shared_kind}
use Rattle.ax_format.specs.Tree.{KindTree, fixed, extended, counted, by_fx, explicit, compound, SlotTree, SlotsTree, slots_of, slot_and, spare_slot, subitem}
use Rattle.ax_format.specs.declared.kind.Slot.{Slot}
use Rattle.ax_format.specs.declared.spec.Item.{Item}

-- ---- one move

module _ (t : ℕ) (l : KindTree) (o : Option (ℕ × KindTree)) (moves : List Move) where
  pub move_put : (s c : ℕ) (k : KindTree) (made below : List Move) (m : Move) → o ≡ Some (s, k) → is_shared_kind k l ≡ true → c ≡ common_parts k l → map move_tree below ≡ moves_below l k
      → move_tree m ≡ move_from s t c (moves_from (map move_tree below)) → made ≡ moves ++ m ∷ [] → map move_tree made ≡ map move_tree moves ++ move_where t l o (moves_below l)
  move_put s c k made below m found shared parts b whole e =
      ap (map move_tree) e ∙ map-append move_tree moves (m ∷ []) ∙ ap (λ x. map move_tree moves ++ x ∷ []) (whole ∙ (λ i. move_from s t (parts i) (moves_from (b i))))
      ∙ ap (λ x. map move_tree moves ++ cond x (move_from s t (common_parts k l) (moves_from (moves_below l k)) ∷ []) []) (sym shared) ∙ ap (λ q. map move_tree moves ++ move_where t l q (moves_below l)) (sym found)

  pub none_found : o ≡ None → map move_tree moves ≡ map move_tree moves ++ move_where t l o (moves_below l)
  none_found found = sym (append-nil (map move_tree moves)) ∙ ap (λ q. map move_tree moves ++ move_where t l q (moves_below l)) (sym found)

  pub none_shared : (s : ℕ) (k : KindTree) → o ≡ Some (s, k) → is_shared_kind k l ≡ false → map move_tree moves ≡ map move_tree moves ++ move_where t l o (moves_below l)
  none_shared s k found shared =
      sym (append-nil (map move_tree moves)) ∙ ap (λ x. map move_tree moves ++ cond x (move_from s t (common_parts k l) (moves_from (moves_below l k)) ∷ []) []) (sym shared)
      ∙ ap (λ q. map move_tree moves ++ move_where t l q (moves_below l)) (sym found)

pub ruleset puts = (move_put, none_found, none_shared)

-- ---- kinds

pub compound_moves : (l k : KindTree) (ts : SlotsTree) (index : Index) (made : List MoveTree) → l ≡ compound ts → FindsBelow (Some k) index → made ≡ moves_of 1 ts (found index) → made ≡ moves_below l k
compound_moves l k ts index made is h m =
    let rules : found index ≡ (λ name. slot_below name k) = λ i name. h.finds name i in m ∙ ap (moves_of 1 ts) rules ∙ ap (λ x. moves_below x k) (sym is)

pub leaf_moves : (l k : KindTree) → ((ts : SlotsTree) → l ≡ compound ts → ⊥) → [] ≡ moves_below l k
leaf_moves (compound ts) k not = absurd (not ts refl)
leaf_moves (fixed f) k not = refl
leaf_moves (extended last ps) k not = refl
leaf_moves (counted size l) k not = refl
leaf_moves (by_fx f) k not = refl
leaf_moves explicit k not = refl

pub ruleset kinds = (compound_moves, leaf_moves)

-- ---- slots, and items as slots

first_moves : (t : ℕ) (s : SlotTree) (ts : SlotsTree) (rule : List ℕ → Option (ℕ × KindTree)) → moves_of t (slot_and s ts) rule ≡ slot_moves t s rule ++ moves_of (t + 1) ts rule
first_moves t spare_slot ts rule = refl
first_moves t (subitem name l) ts rule = refl

module _ {A : Type 0} (tree : A → SlotTree) (i n : ℕ) (ts : List A) (rule : List ℕ → Option (ℕ × KindTree)) where
  step : (s : A) (made new all : List MoveTree) → new ≡ made ++ slot_moves (n + 1) (tree s) rule → made ++ moves_of (n + 1) (slots_of (map tree (drop i ts))) rule ≡ all
      → i < length ts → s ≡ get_or ts i s → new ++ moves_of (n + 1 + 1) (slots_of (map tree (drop (i + 1) ts))) rule ≡ all
  step s made new all e h within is =
      let later = moves_of (n + 1 + 1) (slots_of (map tree (drop (i + 1) ts))) rule in
      ap (λ l. l ++ later) e ∙ append_assoc made (slot_moves (n + 1) (tree s) rule) later
      ∙ ap (λ l. made ++ l) (sym (ap (λ x. moves_of (n + 1) (slots_of (map tree x)) rule) (from_place ts i s within is) ∙ first_moves (n + 1) (tree s) (slots_of (map tree (drop (i + 1) ts))) rule)) ∙ h

  end : (made all : List MoveTree) → made ++ moves_of (n + 1) (slots_of (map tree (drop i ts))) rule ≡ all → length ts ≤ i → made ≡ all
  end made all h past = sym (append-nil made) ∙ ap (λ l. made ++ l) (sym (ap (λ x. moves_of (n + 1) (slots_of (map tree x)) rule) (drop_all i ts past))) ∙ h

pub slots_step : (i n : ℕ) (ts : List Slot) (rule : List ℕ → Option (ℕ × KindTree)) (s : Slot) (made new all : List MoveTree) → new ≡ made ++ slot_moves (n + 1) (slot_tree s) rule
    → made ++ moves_of (n + 1) (slots_tree (drop i ts)) rule ≡ all → i < length ts → s ≡ get_or ts i s
    → new ++ moves_of (n + 1 + 1) (slots_tree (drop (i + 1) ts)) rule ≡ all
slots_step i n ts rule = step slot_tree i n ts rule

pub slots_end : (i n : ℕ) (ts : List Slot) (rule : List ℕ → Option (ℕ × KindTree)) (made all : List MoveTree) → made ++ moves_of (n + 1) (slots_tree (drop i ts)) rule ≡ all → length ts ≤ i → made ≡ all
slots_end i n ts rule = end slot_tree i n ts rule

pub ruleset slots = (slots_step, slots_end)

pub items_step : (i n : ℕ) (ts : List (Option (Bor Item))) (rule : List ℕ → Option (ℕ × KindTree)) (s : Option (Bor Item)) (made new all : List MoveTree) → new ≡ made ++ slot_moves (n + 1) (item_slot s) rule
    → made ++ moves_of (n + 1) (items_tree (drop i ts)) rule ≡ all → i < length ts → s ≡ get_or ts i s
    → new ++ moves_of (n + 1 + 1) (items_tree (drop (i + 1) ts)) rule ≡ all
items_step i n ts rule = step item_slot i n ts rule

pub items_end : (i n : ℕ) (ts : List (Option (Bor Item))) (rule : List ℕ → Option (ℕ × KindTree)) (made all : List MoveTree) → made ++ moves_of (n + 1) (items_tree (drop i ts)) rule ≡ all → length ts ≤ i → made ≡ all
items_end i n ts rule = end item_slot i n ts rule

pub ruleset items = (items_step, items_end)
