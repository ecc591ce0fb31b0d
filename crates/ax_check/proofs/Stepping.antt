-- Steps down a kind to an element.
use Rattle.std.proofs.Common.{◌≡◌, ℕ, zero, suc, List, [], ◌∷◌, map, slice_get, Some, None, option_and_then, refl, sym, ◌∙◌, ap}
use Rattle.ax_check.specs.Places.{fixed_of_member, member_fixed, part_fixed, fixed_element, kind_element, element_at}
use Rattle.ax_format.specs.Lengths.{slot_kind}
use Rattle.ax_format.specs.Lookup.{item_of_frn}
use Rattle.ax_format.specs.Plain.{kind_tree, member_tree, members_tree, part_tree, spec_tree}
use Rattle.ax_format.specs.Tree.{FixedTree, element, group, MembersTree, KindTree, extended, compound, SlotsTree}
use Rattle.ax_format.specs.declared.kind.LastPart.{LastPart}
use Rattle.ax_format.specs.declared.content.Content.{Content}
use Rattle.ax_format.specs.declared.kind.Member.{Member}
use Rattle.ax_format.specs.declared.kind.Part.{Part}
use Rattle.ax_format.specs.declared.place.Place.{Place}
use Rattle.ax_format.specs.declared.spec.Item.{Item}
use Rattle.ax_format.specs.declared.spec.Spec.{Spec}
use Rattle.ax_format.proofs.ItemKinds.{kind_of_item, kind_of_frn}

-- ---- by number

pub member_some : (ms : List Member) (n : ℕ) (m : Member) → slice_get ms n ≡ Some m → member_fixed n (members_tree ms) ≡ fixed_of_member (member_tree m)
member_some [] n m e = absurd (cc)
member_some (x ∷ ms) zero m e = ap fixed_of_member (ap member_tree (same x m e))
  where
    same : (x m : Member) → Some x ≡ Some m → x ≡ m
    same x m e = cc
member_some (x ∷ ms) (suc n) m e = member_some ms n m e

pub member_past : (ms : List Member) (n : ℕ) → slice_get ms n ≡ None → member_fixed n (members_tree ms) ≡ None
member_past [] n e = refl
member_past (x ∷ ms) zero e = absurd (cc)
member_past (x ∷ ms) (suc n) e = member_past ms n e

pub ruleset members = (member_some, member_past)

pub part_some : (ps : List Part) (n i : ℕ) (p : Part) → slice_get ps n ≡ Some p → part_fixed n i (map part_tree ps) ≡ member_fixed i (part_tree p)
part_some [] n i p e = absurd (cc)
part_some (x ∷ ps) zero i p e = ap (member_fixed i) (ap part_tree (same x p e))
  where
    same : (x p : Part) → Some x ≡ Some p → x ≡ p
    same x p e = cc
part_some (x ∷ ps) (suc n) i p e = part_some ps n i p e

pub part_past : (ps : List Part) (n i : ℕ) → slice_get ps n ≡ None → part_fixed n i (map part_tree ps) ≡ None
part_past [] n i e = refl
part_past (x ∷ ps) zero i e = absurd (cc)
part_past (x ∷ ps) (suc n) i e = part_past ps n i e

pub ruleset parts = (part_some, part_past)

-- ---- walks over fixed kinds

pub ends_here : (steps : List ℕ) (f : FixedTree) (w : ℕ) (c : Content) → steps ≡ [] → f ≡ element w c → fixed_element steps f ≡ Some f
ends_here steps f w c e h = ap (λ s. fixed_element s f) e ∙ ap (fixed_element []) h ∙ ap Some (sym h)

pub goes_down : (steps later : List ℕ) (n : ℕ) (f inner : FixedTree) (ms : MembersTree) → steps ≡ n ∷ later → f ≡ group ms → member_fixed n ms ≡ Some inner → fixed_element steps f ≡ fixed_element later inner
goes_down steps later n f inner ms e g found = ap (λ s. fixed_element s f) e ∙ ap (fixed_element (n ∷ later)) g ∙ ap (option_and_then (fixed_element later)) found

pub no_way_down : (steps later : List ℕ) (n : ℕ) (f : FixedTree) (ms : MembersTree) → steps ≡ n ∷ later → f ≡ group ms → member_fixed n ms ≡ None → fixed_element steps f ≡ None
no_way_down steps later n f ms e g none = ap (λ s. fixed_element s f) e ∙ ap (fixed_element (n ∷ later)) g ∙ ap (option_and_then (fixed_element later)) none

pub no_element : (steps : List ℕ) (f : FixedTree) (ms : MembersTree) → steps ≡ [] → f ≡ group ms → fixed_element steps f ≡ None
no_element steps f ms e g = ap (λ s. fixed_element s f) e ∙ ap (fixed_element []) g

pub past_element : (steps later : List ℕ) (n : ℕ) (f : FixedTree) (w : ℕ) (c : Content) → steps ≡ n ∷ later → f ≡ element w c → fixed_element steps f ≡ None
past_element steps later n f w c e g = ap (λ s. fixed_element s f) e ∙ ap (fixed_element (n ∷ later)) g

pub ruleset fixed_walks = (ends_here, goes_down, no_way_down, no_element, past_element)

-- ---- walks over kinds

pub into_slot : (steps later : List ℕ) (n : ℕ) (k inner : KindTree) (ss : SlotsTree) → steps ≡ n ∷ later → k ≡ compound ss → slot_kind ss n ≡ Some inner → kind_element steps k ≡ kind_element later inner
into_slot steps later n k inner ss e g found = ap (λ s. kind_element s k) e ∙ ap (kind_element (n ∷ later)) g ∙ ap (option_and_then (kind_element later)) found

pub no_slot : (steps later : List ℕ) (n : ℕ) (k : KindTree) (ss : SlotsTree) → steps ≡ n ∷ later → k ≡ compound ss → slot_kind ss n ≡ None → kind_element steps k ≡ None
no_slot steps later n k ss e g none = ap (λ s. kind_element s k) e ∙ ap (kind_element (n ∷ later)) g ∙ ap (option_and_then (kind_element later)) none

pub into_part : (last : LastPart) (steps below later : List ℕ) (p i : ℕ) (k : KindTree) (inner : FixedTree) (ps : List MembersTree) → steps ≡ p ∷ below → below ≡ i ∷ later → k ≡ extended last ps → part_fixed p i ps ≡ Some inner
    → kind_element steps k ≡ fixed_element later inner
into_part last steps below later p i k inner ps e f g found =
    ap (λ s. kind_element s k) (e ∙ ap (λ b. p ∷ b) f) ∙ ap (kind_element (p ∷ i ∷ later)) g ∙ ap (option_and_then (fixed_element later)) found

pub no_part : (last : LastPart) (steps below later : List ℕ) (p i : ℕ) (k : KindTree) (ps : List MembersTree) → steps ≡ p ∷ below → below ≡ i ∷ later → k ≡ extended last ps → part_fixed p i ps ≡ None → kind_element steps k ≡ None
no_part last steps below later p i k ps e f g none = ap (λ s. kind_element s k) (e ∙ ap (λ b. p ∷ b) f) ∙ ap (kind_element (p ∷ i ∷ later)) g ∙ ap (option_and_then (fixed_element later)) none

pub no_step : (last : LastPart) (steps : List ℕ) (k : KindTree) (ps : List MembersTree) → steps ≡ [] → k ≡ extended last ps → kind_element steps k ≡ None
no_step last steps k ps e g = ap (λ s. kind_element s k) e ∙ ap (kind_element []) g

pub one_step : (last : LastPart) (steps below : List ℕ) (p : ℕ) (k : KindTree) (ps : List MembersTree) → steps ≡ p ∷ below → below ≡ [] → k ≡ extended last ps → kind_element steps k ≡ None
one_step last steps below p k ps e f g = ap (λ s. kind_element s k) (e ∙ ap (λ b. p ∷ b) f) ∙ ap (kind_element (p ∷ [])) g

pub no_slot_step : (steps : List ℕ) (k : KindTree) (ss : SlotsTree) → steps ≡ [] → k ≡ compound ss → kind_element steps k ≡ None
no_slot_step steps k ss e g = ap (λ s. kind_element s k) e ∙ ap (kind_element []) g

pub ruleset kind_walks = (into_slot, no_slot, into_part, no_part, no_step, one_step, no_slot_step)

-- ---- items

pub item_there : (spec : Spec) (place : Place) (item : Item) → item_of_frn place.frn spec.uap spec.items ≡ Some item → element_at (spec_tree spec) place ≡ kind_element place.steps (kind_tree item.kind)
item_there spec place item e = ap (option_and_then (kind_element place.steps)) (kind_of_frn spec place.frn ∙ ap kind_of_item e)

pub no_item : (spec : Spec) (place : Place) → item_of_frn place.frn spec.uap spec.items ≡ None → element_at (spec_tree spec) place ≡ None
no_item spec place e = ap (option_and_then (kind_element place.steps)) (kind_of_frn spec place.frn ∙ ap kind_of_item e)

pub ruleset whole = (item_there, no_item)
