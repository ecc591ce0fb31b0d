-- Kinds that are the same in two editions are equal once names and contents are set aside, and so spell alike.
use Rattle.std.proofs.Common.{◌≡◌, ℕ, zero, suc, true, List, [], ◌∷◌, map, option_map, refl, sym, ◌∙◌, ap}
use Rattle.ax_relation.proofs.SameKinds.{same_kinds}
use Rattle.ax_format.specs.Canonical.{canon}
use Rattle.ax_format.specs.Lengths.{kind_after}
use Rattle.ax_format.specs.Same.{emptied_fixed, emptied_members, emptied, emptied_slots, is_same}
use Rattle.ax_format.specs.Tree.{FixedTree, element, group, MembersTree, no_members, member_and, named, spare, KindTree, fixed, extended, counted, by_fx, explicit, compound, SlotsTree, no_slots, slot_and, spare_slot, subitem, ValueTree}
use Rattle.ax_format.specs.declared.content.Content.TheVariants.{Raw}
use Rattle.ax_codec.proofs.BareKinds.{bare_canon}
use Rattle.ax_codec.specs.Bare.{bare_fixed, bare_members, bare_kind, bare_slots}

mutual
  fixed_emptied : (f : FixedTree) → bare_fixed (emptied_fixed f) ≡ bare_fixed f
  fixed_emptied (element w c) = refl
  fixed_emptied (group ms) = ap group (members_emptied ms)

  members_emptied : (ms : MembersTree) → bare_members (emptied_members ms) ≡ bare_members ms
  members_emptied no_members = refl
  members_emptied (member_and (named name f) ms) = λ i. member_and (named [] (fixed_emptied f i)) (members_emptied ms i)
  members_emptied (member_and (spare w) ms) = ap (member_and (named [] (element w Raw))) (members_emptied ms)

parts_emptied : (ps : List MembersTree) → map bare_members (map emptied_members ps) ≡ map bare_members ps
parts_emptied [] = refl
parts_emptied (p ∷ ps) = λ i. members_emptied p i ∷ parts_emptied ps i

mutual
  kind_emptied : (k : KindTree) → bare_kind (emptied k) ≡ bare_kind k
  kind_emptied (fixed f) = ap fixed (fixed_emptied f)
  kind_emptied (extended last ps) = ap (extended last) (parts_emptied ps)
  kind_emptied (counted size k) = ap (counted size) (kind_emptied k)
  kind_emptied (by_fx f) = ap by_fx (fixed_emptied f)
  kind_emptied explicit = refl
  kind_emptied (compound ss) = ap compound (slots_emptied ss)

  slots_emptied : (ss : SlotsTree) → bare_slots (emptied_slots ss) ≡ bare_slots ss
  slots_emptied no_slots = refl
  slots_emptied (slot_and spare_slot ss) = ap (slot_and spare_slot) (slots_emptied ss)
  slots_emptied (slot_and (subitem name k) ss) = λ i. slot_and (subitem [] (kind_emptied k i)) (slots_emptied ss i)

-- the old kind, names and contents set aside, spells a value as the new one does
pub same_canon : (k l : KindTree) (v : ValueTree) → is_same k l ≡ true → canon (bare_kind k) v ≡ canon l v
same_canon k l v e =
    let bare : bare_kind k ≡ bare_kind l = sym (kind_emptied k) ∙ ap bare_kind (same_kinds k l e) ∙ kind_emptied l in
    ap (λ x. canon x v) bare ∙ bare_canon l v

pub bare_after : (i : ℕ) (ss : SlotsTree) → kind_after i (bare_slots ss) ≡ option_map bare_kind (kind_after i ss)
bare_after i no_slots = refl
bare_after zero (slot_and spare_slot ss) = refl
bare_after zero (slot_and (subitem name k) ss) = refl
bare_after (suc i) (slot_and spare_slot ss) = bare_after i ss
bare_after (suc i) (slot_and (subitem name k) ss) = bare_after i ss
