-- A number of kinds that falls from a kind to those inside it.
use Rattle.std.proofs.Common.{◌≡◌, ℕ, zero, suc, ◌+◌, ◌≤◌, List, [], ◌∷◌, drop, ap, ◌∙◌, Box, Global, arith}
use Rattle.ax_format.proofs.VariantTrees.{compound_tree}
use Rattle.ax_format.specs.Plain.{kind_tree, slot_tree, slots_tree}
use Rattle.ax_format.specs.Tree.{KindTree, fixed, extended, counted, by_fx, explicit, compound, SlotTree, spare_slot, subitem, SlotsTree, no_slots, slot_and}
use Rattle.ax_format.specs.declared.kind.Counter.{Counter}
use Rattle.ax_format.specs.declared.kind.Kind.{Kind}
use Rattle.ax_format.specs.declared.kind.Kind.TheVariants as KindOf
use Rattle.ax_format.specs.declared.kind.Slot.{Slot}
use Rattle.ax_format.specs.declared.kind.Slot.TheVariants as SlotOf
use Rattle.ax_rescale.proofs.CountedKinds.{counted_is}
use Rattle.ax_rescale.proofs.EntrySteps.{sub_is}

abbrev mutual
  pub weight : KindTree → ℕ
  weight (fixed f) = 0
  weight (extended last ps) = 0
  weight (counted size k) = suc (weight k)
  weight (by_fx f) = 0
  weight explicit = 0
  weight (compound ss) = suc (weights ss)

  pub slot_weight : SlotTree → ℕ
  slot_weight spare_slot = 0
  slot_weight (subitem name k) = suc (weight k)

  pub weights : SlotsTree → ℕ
  weights no_slots = 0
  weights (slot_and s ss) = slot_weight s + weights ss

pub inner_weight : (old k : Kind) (size : Counter) (inner : Box Kind Global) → old ≡ KindOf.Counted size inner → k ≡ inner.value → weight (kind_tree old) ≡ suc (weight (kind_tree k))
inner_weight old k size inner e is = ap weight (counted_is old k size inner e is)

pub slots_weight : (old : Kind) (slots : List Slot) → old ≡ KindOf.Compound slots → weight (kind_tree old) ≡ suc (weights (slots_tree slots))
slots_weight old slots e = ap weight (ap kind_tree e ∙ compound_tree slots)

pub sub_weight : (slot : Slot) (name : List ℕ) (k : Kind) → slot ≡ SlotOf.Sub name k → slot_weight (slot_tree slot) ≡ suc (weight (kind_tree k))
sub_weight slot name k e = ap slot_weight (sub_is slot name k e)

later_weights : (xs : List Slot) (i : ℕ) → weights (slots_tree (drop i xs)) ≤ weights (slots_tree xs)
later_weights [] zero = omega arith
later_weights [] (suc i) = omega arith
later_weights (x ∷ xs) zero = omega arith
later_weights (x ∷ xs) (suc i) = let le = later_weights xs i in omega (arith, le)

pub member_weight : (xs : List Slot) (i : ℕ) (x : Slot) → drop i xs ≡ x ∷ drop (i + 1) xs → slot_weight (slot_tree x) ≤ weights (slots_tree xs)
member_weight xs i x h =
    let here : weights (slots_tree (drop i xs)) ≡ slot_weight (slot_tree x) + weights (slots_tree (drop (i + 1) xs)) = ap (λ ys. weights (slots_tree ys)) h in
    let le = later_weights xs i in omega (arith, here, le)
