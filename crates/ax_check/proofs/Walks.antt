-- Walks down a kind by names.
use Rattle.std.proofs.Common.{◌≡◌, ℕ, Bool, true, false, List, [], ◌∷◌, ◌++◌, map, Option, Some, None, option_map, option_and_then, refl, sym, ◌∙◌, ap, subst, append_assoc, append-nil}
use Rattle.ax_check.specs.Places.{fixed_steps, kind_steps, place_at, place_of}
use Rattle.ax_format.specs.Naming.{member_named, part_named, slot_named, frn_of}
use Rattle.ax_check.specs.Walking.{Leads}
use Rattle.ax_format.proofs.Lookups.{named_tree}
use Rattle.ax_format.specs.Lookup.{item_named}
use Rattle.ax_format.specs.Plain.{item_tree, kind_tree, spec_tree}
use Rattle.ax_format.specs.Specification.{ItemTree, first_named}
use Rattle.ax_format.specs.Tree.{FixedTree, group, element, MembersTree, KindTree, fixed, extended, compound, SlotsTree}
use Rattle.ax_format.specs.declared.kind.LastPart.{LastPart}
use Rattle.ax_format.specs.declared.place.Place.{Place}
use Rattle.ax_format.specs.declared.spec.Item.{Item}
use Rattle.ax_format.specs.declared.spec.Spec.{Spec}

-- no name is left
pub no_name : (names : List (List ℕ)) (f : FixedTree) (steps : List ℕ) → names ≡ [] → Leads (fixed_steps names f) steps steps true
no_name names f steps e = subst (λ n. Leads (fixed_steps n f) steps steps true) (sym e) (refl, sym (append-nil steps))

pub no_group : (names later : List (List ℕ)) (name : List ℕ) (f : FixedTree) (old new : List ℕ) → names ≡ name ∷ later → ((ms : MembersTree) → f ≡ group ms → ⊥) → Leads (fixed_steps names f) old new false
no_group names later name (group ms) old new e not = absurd (not ms refl)
no_group names later name (element w c) old new e not = subst (λ n. Leads (fixed_steps n (element w c)) old new false) (sym e) refl

pub no_member : (names later : List (List ℕ)) (name : List ℕ) (f : FixedTree) (ms : MembersTree) (old new : List ℕ) → names ≡ name ∷ later → f ≡ group ms → member_named 0 name ms ≡ None → Leads (fixed_steps names f) old new false
no_member names later name f ms old new e g none =
    subst (λ n. Leads (fixed_steps n f) old new false) (sym e)
    (subst (λ h. Leads (fixed_steps (name ∷ later) h) old new false) (sym g) (subst (λ o. Leads (option_and_then (λ m. option_map (λ steps. m.0 ∷ steps) (fixed_steps later m.1)) o) old new false) (sym none) refl))

longer : (o : Option (List ℕ)) (step : ℕ) (old between new : List ℕ) (leads : Bool) → between ≡ old ++ step ∷ [] → Leads o between new leads → Leads (option_map (λ steps. step ∷ steps) o) old new leads
longer None step old between new leads e h = h
longer (Some steps) step old between new leads e h = (h.0, h.1 ∙ ap (λ l. l ++ steps) e ∙ append_assoc old (step ∷ []) steps)

pub to_member : (names later : List (List ℕ)) (name : List ℕ) (f inner : FixedTree) (ms : MembersTree) (n : ℕ) (old between new : List ℕ) (leads : Bool)
    → names ≡ name ∷ later → f ≡ group ms → member_named 0 name ms ≡ Some (n, inner) → between ≡ old ++ n ∷ [] → Leads (fixed_steps later inner) between new leads → Leads (fixed_steps names f) old new leads
to_member names later name f inner ms n old between new leads e g found b h =
    subst (λ l. Leads (fixed_steps l f) old new leads) (sym e)
    (subst (λ k. Leads (fixed_steps (name ∷ later) k) old new leads) (sym g)
    (subst (λ o. Leads (option_and_then (λ m. option_map (λ steps. m.0 ∷ steps) (fixed_steps later m.1)) o) old new leads) (sym found) (longer (fixed_steps later inner) n old between new leads b h)))

pub ruleset fixed_walks = (no_name, no_group, no_member, to_member)

-- ---- kinds

pub no_name_left : (names : List (List ℕ)) (k : KindTree) (steps : List ℕ) → names ≡ [] → Leads (kind_steps names k) steps steps true
no_name_left names k steps e = subst (λ n. Leads (kind_steps n k) steps steps true) (sym e) (refl, sym (append-nil steps))

-- a name that leads nowhere
pub nowhere : (names later : List (List ℕ)) (name : List ℕ) (k : KindTree) (old new : List ℕ) → names ≡ name ∷ later → kind_steps (name ∷ later) k ≡ None → Leads (kind_steps names k) old new false
nowhere names later name k old new e none = subst (λ o. Leads o old new false) (sym (ap (λ n. kind_steps n k) e ∙ none)) refl

pub no_slot : (later : List (List ℕ)) (name : List ℕ) (k : KindTree) (ss : SlotsTree) → k ≡ compound ss → slot_named 1 name ss ≡ None → kind_steps (name ∷ later) k ≡ None
no_slot later name k ss e none = ap (kind_steps (name ∷ later)) e ∙ ap (option_and_then (λ s. option_map (λ steps. s.0 ∷ steps) (kind_steps later s.1))) none

pub as_fixed : (names later : List (List ℕ)) (name : List ℕ) (k : KindTree) (f : FixedTree) (old new : List ℕ) (leads : Bool) → names ≡ name ∷ later → k ≡ fixed f → Leads (fixed_steps names f) old new leads → Leads (kind_steps names k) old new leads
as_fixed names later name k f old new leads e g h =
    subst (λ o. Leads o old new leads) (ap (λ n. fixed_steps n f) e ∙ sym (ap (λ n. kind_steps n k) e ∙ ap (kind_steps (name ∷ later)) g)) h

pub to_slot : (names later : List (List ℕ)) (name : List ℕ) (k inner : KindTree) (ss : SlotsTree) (n : ℕ) (old between new : List ℕ) (leads : Bool)
    → names ≡ name ∷ later → k ≡ compound ss → slot_named 1 name ss ≡ Some (n, inner) → between ≡ old ++ n ∷ [] → Leads (kind_steps later inner) between new leads → Leads (kind_steps names k) old new leads
to_slot names later name k inner ss n old between new leads e g found b h =
    subst (λ o. Leads o old new leads)
    (sym (ap (λ l. kind_steps l k) e ∙ ap (kind_steps (name ∷ later)) g ∙ ap (option_and_then (λ s. option_map (λ steps. s.0 ∷ steps) (kind_steps later s.1))) found))
    (longer (kind_steps later inner) n old between new leads b h)

two_longer : (o : Option (List ℕ)) (p m : ℕ) → option_map (λ steps. p ∷ steps) (option_map (λ steps. m ∷ steps) o) ≡ option_map (λ steps. p ∷ m ∷ steps) o
two_longer None p m = refl
two_longer (Some steps) p m = refl

pub no_part : (last : LastPart) (later : List (List ℕ)) (name : List ℕ) (ps : List MembersTree) (old new : List ℕ) → part_named 0 name ps ≡ None → Leads (kind_steps (name ∷ later) (extended last ps)) old new false
no_part last later name ps old new none =
    subst (λ o. Leads o old new false) (sym (ap (option_and_then (λ p. option_map (λ steps. p.0 ∷ p.1.0 ∷ steps) (fixed_steps later p.1.1))) none)) refl

pub to_part : (last : LastPart) (later : List (List ℕ)) (name : List ℕ) (inner : FixedTree) (ps : List MembersTree) (p m : ℕ) (old first between new : List ℕ) (leads : Bool)
    → part_named 0 name ps ≡ Some (p, (m, inner)) → first ≡ old ++ p ∷ [] → between ≡ first ++ m ∷ [] → Leads (fixed_steps later inner) between new leads
    → Leads (kind_steps (name ∷ later) (extended last ps)) old new leads
to_part last later name inner ps p m old first between new leads found f b h =
    subst (λ o. Leads o old new leads)
    (sym (ap (option_and_then (λ q. option_map (λ steps. q.0 ∷ q.1.0 ∷ steps) (fixed_steps later q.1.1))) found ∙ sym (two_longer (fixed_steps later inner) p m)))
    (longer (option_map (λ steps. m ∷ steps) (fixed_steps later inner)) p old first new leads f (longer (fixed_steps later inner) m first between new leads b h))

pub ruleset part_walks = (no_part, to_part)

pub as_parts : (last : LastPart) (names later : List (List ℕ)) (name : List ℕ) (k : KindTree) (ps : List MembersTree) (old new : List ℕ) (leads : Bool) → names ≡ name ∷ later → k ≡ extended last ps
    → Leads (kind_steps (name ∷ later) (extended last ps)) old new leads → Leads (kind_steps names k) old new leads
as_parts last names later name k ps old new leads e g h = subst (λ o. Leads o old new leads) (sym (ap (λ n. kind_steps n k) e ∙ ap (kind_steps (name ∷ later)) g)) h

pub ruleset kind_walks = (no_name_left, nowhere, no_slot, as_fixed, as_parts, to_slot)

-- ---- whole paths

abbrev rest_of : List (List ℕ) → ℕ → Option ItemTree → Option Place
rest_of names frn o = option_and_then (λ item. option_map (place_at frn) (kind_steps names item.kind)) o

none_either : (names : List (List ℕ)) (o : Option ℕ) → option_and_then (λ frn. rest_of names frn None) o ≡ None
none_either names None = refl
none_either names (Some n) = refl

pub no_first : (spec : Spec) (path : List (List ℕ)) → path ≡ [] → None ≡ place_of (spec_tree spec) path
no_first spec path e = sym (ap (place_of (spec_tree spec)) e)

pub no_frn : (spec : Spec) (path names : List (List ℕ)) (name : List ℕ) → path ≡ name ∷ names → None ≡ frn_of 1 name spec.uap → None ≡ place_of (spec_tree spec) path
no_frn spec path names name e none = ap (option_and_then (λ frn. rest_of names frn (first_named name (map item_tree spec.items)))) none ∙ sym (ap (place_of (spec_tree spec)) e)

pub no_item : (spec : Spec) (path names : List (List ℕ)) (name : List ℕ) → path ≡ name ∷ names → item_named name spec.items ≡ None → None ≡ place_of (spec_tree spec) path
no_item spec path names name e none =
    sym (ap (place_of (spec_tree spec)) e
    ∙ ap (λ o. option_and_then (λ frn. rest_of names frn o) (frn_of 1 name spec.uap)) (named_tree name spec.items ∙ ap (option_map item_tree) none)
    ∙ none_either names (frn_of 1 name spec.uap))

known_place : (spec : Spec) (path names : List (List ℕ)) (name : List ℕ) (frn : ℕ) (item : Item) → path ≡ name ∷ names → Some frn ≡ frn_of 1 name spec.uap → item_named name spec.items ≡ Some item
    → place_of (spec_tree spec) path ≡ option_map (place_at frn) (kind_steps names (kind_tree item.kind))
known_place spec path names name frn item e f i =
    ap (place_of (spec_tree spec)) e ∙ ap (option_and_then (λ n. rest_of names n (first_named name (map item_tree spec.items)))) (sym f)
    ∙ ap (rest_of names frn) (named_tree name spec.items ∙ ap (option_map item_tree) i)

lost : (o : Option (List ℕ)) (frn : ℕ) (new : List ℕ) (leads : Bool) → leads ≡ false → Leads o [] new leads → None ≡ option_map (place_at frn) o
lost None frn new leads e h = refl
lost (Some steps) frn new leads e h = absurd (cc)

there : (o : Option (List ℕ)) (frn : ℕ) (new : List ℕ) (leads : Bool) → leads ≡ true → Leads o [] new leads → Some (place_at frn new) ≡ option_map (place_at frn) o
there None frn new leads e h = absurd (cc)
there (Some steps) frn new leads e h = ap (λ l. Some (place_at frn l)) h.1

pub no_place : (spec : Spec) (path names : List (List ℕ)) (name : List ℕ) (frn : ℕ) (item : Item) (new : List ℕ) (leads : Bool) → path ≡ name ∷ names → Some frn ≡ frn_of 1 name spec.uap
    → item_named name spec.items ≡ Some item → leads ≡ false → Leads (kind_steps names (kind_tree item.kind)) [] new leads → None ≡ place_of (spec_tree spec) path
no_place spec path names name frn item new leads e f i l h = lost (kind_steps names (kind_tree item.kind)) frn new leads l h ∙ sym (known_place spec path names name frn item e f i)

pub the_place : (spec : Spec) (path names : List (List ℕ)) (name : List ℕ) (frn : ℕ) (item : Item) (new : List ℕ) (leads : Bool) → path ≡ name ∷ names → Some frn ≡ frn_of 1 name spec.uap
    → item_named name spec.items ≡ Some item → leads ≡ true → Leads (kind_steps names (kind_tree item.kind)) [] new leads → Some (place_at frn new) ≡ place_of (spec_tree spec) path
the_place spec path names name frn item new leads e f i l h = there (kind_steps names (kind_tree item.kind)) frn new leads l h ∙ sym (known_place spec path names name frn item e f i)

pub ruleset resolved = (no_first, no_frn, no_item, no_place, the_place)
