-- The flaws of items, found one item at a time.
use Rattle.std.proofs.Common.{◌≡◌, ℕ, ◌+◌, ◌<◌, ◌≤◌, Bool, true, false, ◌||◌, List, [], ◌∷◌, ◌++◌, length, map, drop, get_or, bytes_eq, refl, sym, ◌∙◌, ap, subst, append_assoc, append-nil}
use Rattle.std.proofs.lemmas.List.{drop_all}
use Rattle.ax_check.proofs.FlawLists.{same_more, same_through}
use Rattle.ax_format.proofs.Namings.{from_place}
use Rattle.ax_check.specs.Members.{item_flaws, item_names}
use Rattle.ax_check.specs.Names.{AreSame}
use Rattle.ax_format.specs.Flaws.{flaw_where, is_among, items_flaws, kind_flaws}
use Rattle.ax_format.specs.Paths.{at}
use Rattle.ax_format.specs.Plain.{item_tree}
use Rattle.ax_format.specs.Specification.{ItemTree}
use Rattle.ax_format.specs.declared.flaw.Flaw.{Flaw}
use Rattle.ax_format.specs.declared.flaw.FlawKind.TheVariants.{DuplicateItem, NotOctets}
use Rattle.ax_format.specs.declared.spec.Item.{Item}

-- these names and those of the items
abbrev pub names_after : List (List ℕ) → List Item → List (List ℕ)
names_after earlier [] = earlier
names_after earlier (item ∷ items) = names_after (item.name ∷ earlier) items

items_same : (path : List ℕ) (a b : List (List ℕ)) (items : List ItemTree) → AreSame a b → items_flaws path a items ≡ items_flaws path b items
items_same path a b [] h = refl
items_same path a b (item ∷ items) h = λ i.
    flaw_where (h.same item.name i) DuplicateItem (at path item.name) ++ kind_flaws NotOctets (at path item.name) item.kind ++ items_same path (item.name ∷ a) (item.name ∷ b) items (same_more item.name a b h) i

after_same : (a b : List (List ℕ)) (items : List Item) → AreSame a b → AreSame (names_after a items) (names_after b items)
after_same a b [] h = h
after_same a b (item ∷ items) h = after_same (item.name ∷ a) (item.name ∷ b) items (same_more item.name a b h)

-- a name is among those after the items where it was among those before or is an item's
among_after : (name : List ℕ) (a : List (List ℕ)) (items : List Item) → is_among name (names_after a items) ≡ (is_among name a || is_among name (item_names items))
among_after name a [] = or_false (is_among name a)
  where
    or_false : (b : Bool) → b ≡ (b || false)
    or_false true = refl
    or_false false = refl
among_after name a (item ∷ items) = among_after name (item.name ∷ a) items ∙ joined (bytes_eq name item.name) (is_among name a) (is_among name (item_names items))
  where
    joined : (x y z : Bool) → ((x || y) || z) ≡ (y || (x || z))
    joined true true z = refl
    joined true false z = refl
    joined false y z = refl

pub item_start : (path : List ℕ) (names : List (List ℕ)) (items : List Item) (found : List Flaw) → names ≡ []
    → found ++ items_flaws path names (map item_tree items) ≡ found ++ items_flaws path [] (map item_tree items)
item_start path names items found none = ap (λ a. found ++ items_flaws path a (map item_tree items)) none

pub name_start : (names : List (List ℕ)) (items : List Item) → names ≡ [] → AreSame (names_after names items) (item_names items)
name_start names items none = record { same = λ n. ap (λ a. is_among n (names_after a items)) none ∙ among_after n [] items }

pub item_step : (path : List ℕ) (i : ℕ) (a b : List (List ℕ)) (items : List Item) (item : Item) (found new all : List Flaw) → i < length items → item ≡ get_or items i item
    → new ≡ found ++ item_flaws path a (item_tree item) → AreSame b (item.name ∷ a) → found ++ items_flaws path a (map item_tree (drop i items)) ≡ all
    → new ++ items_flaws path b (map item_tree (drop (i + 1) items)) ≡ all
item_step path i a b items item found new all within is e same h =
    let rest = map item_tree (drop (i + 1) items) in
    let first = ap (λ x. items_flaws path a (map item_tree x)) (from_place items i item within is) in
    ap (λ l. l ++ items_flaws path b rest) e ∙ append_assoc found (item_flaws path a (item_tree item)) (items_flaws path b rest)
    ∙ ap (λ l. found ++ (item_flaws path a (item_tree item) ++ l)) (items_same path b (item.name ∷ a) rest same) ∙ ap (λ l. found ++ l) (sym first) ∙ h

pub name_step : (i : ℕ) (a b all : List (List ℕ)) (items : List Item) (item : Item) → i < length items → item ≡ get_or items i item → AreSame b (item.name ∷ a)
    → AreSame (names_after a (drop i items)) all → AreSame (names_after b (drop (i + 1) items)) all
name_step i a b all items item within is same h =
    let rest = drop (i + 1) items in
    same_through (names_after b rest) (names_after a (drop i items)) all
    (subst (AreSame (names_after b rest)) (sym (ap (names_after a) (from_place items i item within is))) (after_same b (item.name ∷ a) rest same)) h

pub item_end : (path : List ℕ) (i : ℕ) (a : List (List ℕ)) (items : List Item) (found all : List Flaw) → length items ≤ i → found ++ items_flaws path a (map item_tree (drop i items)) ≡ all → found ≡ all
item_end path i a items found all past h = sym (append-nil found) ∙ ap (λ l. found ++ l) (sym (ap (λ x. items_flaws path a (map item_tree x)) (drop_all i items past))) ∙ h

pub name_end : (i : ℕ) (a all : List (List ℕ)) (items : List Item) → length items ≤ i → AreSame (names_after a (drop i items)) all → AreSame a all
name_end i a all items past h = subst (λ x. AreSame x all) (ap (names_after a) (drop_all i items past)) h

pub ruleset items = (item_start, name_start, item_step, name_step, item_end, name_end)
