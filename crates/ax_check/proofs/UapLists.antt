-- The flaws of the UAP, found one slot at a time.
use Rattle.std.proofs.Common.{◌≡◌, ℕ, ◌+◌, ◌<◌, ◌≤◌, ◌==◌, nat_lt, Bool, true, false, cond, ◌||◌, if◌then◌else◌, List, [], ◌∷◌, ◌++◌, length, map, drop, get_or, bytes_eq, codes, Option, Some, is_some, refl, sym, ◌∙◌, ap, append_assoc, append-nil}
use Rattle.std.proofs.lemmas.List.{drop_all}
use Rattle.std.proofs.lemmas.Slice.Eq.{bytes_eq-Decides}
use Rattle.ax_check.proofs.FlawLists.{same_more}
use Rattle.ax_format.proofs.Namings.{from_place}
use Rattle.ax_check.specs.Members.{count_flaws, uap_slot_flaws, with_uap_slot, item_names, uap_part_flaws}
use Rattle.ax_check.specs.Names.{AreSame}
use Rattle.ax_format.specs.Flaws.{flaw_where, is_among, items_flaws, uap_flaws}
use Rattle.ax_format.specs.Paths.{at, three_digits}
use Rattle.ax_format.specs.OfCode.{spec_flaws}
use Rattle.ax_format.specs.Plain.{item_tree}
use Rattle.ax_format.specs.Specification.{ItemTree, first_named}
use Rattle.ax_format.specs.declared.flaw.Flaw.{Flaw}
use Rattle.ax_format.specs.declared.flaw.FlawKind.TheVariants.{RepeatedInUap, UnknownInUap, Empty, TooManySlots}
use Rattle.ax_format.specs.declared.spec.Item.{Item}
use Rattle.ax_format.specs.declared.spec.Spec.{Spec}
use Rattle.ax_format.specs.declared.spec.UapSlot.{UapSlot}
use Rattle.ax_format.specs.declared.spec.UapSlot.TheVariants as Uap

turned : (a b : List ℕ) → bytes_eq a b ≡ bytes_eq b a
turned a b = by (bytes_eq a b) (bytes_eq b a) refl refl
  where
    by : (p q : Bool) → bytes_eq a b ≡ p → bytes_eq b a ≡ q → bytes_eq a b ≡ bytes_eq b a
    by true q e f = e ∙ sym ((bytes_eq-Decides b a).1 (sym ((bytes_eq-Decides a b).0 e)))
    by false true e f = (bytes_eq-Decides a b).1 (sym ((bytes_eq-Decides b a).0 f)) ∙ sym f
    by false false e f = e ∙ sym f

found_or : (b : Bool) (item : ItemTree) (o : Option ItemTree) (there : Bool) → is_some o ≡ there → is_some (cond b (Some item) o) ≡ (b || there)
found_or true item o there e = refl
found_or false item o there e = e

-- an item has the name exactly where the name is among the items'
known_item : (name : List ℕ) (items : List Item) → is_some (first_named name (map item_tree items)) ≡ is_among name (item_names items)
known_item name [] = refl
known_item name (item ∷ items) =
    found_or (bytes_eq item.name name) (item_tree item) (first_named name (map item_tree items)) (is_among name (item_names items)) (known_item name items)
    ∙ ap (λ b. b || is_among name (item_names items)) (turned item.name name)

uap_same : (path : List ℕ) (items : List ItemTree) (a b : List (List ℕ)) (ss : List UapSlot) → AreSame a b → uap_flaws path items a ss ≡ uap_flaws path items b ss
uap_same path items a b [] h = refl
uap_same path items a b (Uap.Spare ∷ ss) h = uap_same path items a b ss h
uap_same path items a b (Uap.Item name ∷ ss) h = λ i.
    (if is_some (first_named name items) then flaw_where (h.same name i) RepeatedInUap (at path name) else flaw_where true UnknownInUap (at path name))
    ++ uap_same path items (name ∷ a) (name ∷ b) ss (same_more name a b h) i

first_uap : (path : List ℕ) (items : List Item) (known a : List (List ℕ)) (s : UapSlot) (ss : List UapSlot) → AreSame known (item_names items)
    → uap_flaws path (map item_tree items) a (s ∷ ss) ≡ uap_slot_flaws path known a s ++ uap_flaws path (map item_tree items) (with_uap_slot a s) ss
first_uap path items known a Uap.Spare ss h = refl
first_uap path items known a (Uap.Item name) ss h =
    ap (λ b. (if b then flaw_where (is_among name a) RepeatedInUap (at path name) else flaw_where true UnknownInUap (at path name)) ++ uap_flaws path (map item_tree items) (name ∷ a) ss)
    (known_item name items ∙ sym (h.same name))

pub uap_start : (path : List ℕ) (spec : Spec) (names : List (List ℕ)) (found noted : List Flaw) → names ≡ [] → noted ≡ found ++ count_flaws path (length spec.uap)
    → noted ++ uap_flaws path (map item_tree spec.items) names spec.uap ≡ found ++ uap_part_flaws path spec
uap_start path spec names found noted none n =
    (λ i. n i ++ uap_flaws path (map item_tree spec.items) (none i) spec.uap) ∙ append_assoc found (count_flaws path (length spec.uap)) (uap_flaws path (map item_tree spec.items) [] spec.uap)

pub uap_step : (path : List ℕ) (items : List Item) (known : List (List ℕ)) (i : ℕ) (a b : List (List ℕ)) (ss : List UapSlot) (s : UapSlot) (found new all : List Flaw) → i < length ss → s ≡ get_or ss i s
    → AreSame known (item_names items) → new ≡ found ++ uap_slot_flaws path known a s → AreSame b (with_uap_slot a s) → found ++ uap_flaws path (map item_tree items) a (drop i ss) ≡ all
    → new ++ uap_flaws path (map item_tree items) b (drop (i + 1) ss) ≡ all
uap_step path items known i a b ss s found new all within is names e same h =
    let rest = drop (i + 1) ss in
    let tail = uap_flaws path (map item_tree items) in
    let first = ap (tail a) (from_place ss i s within is) ∙ first_uap path items known a s rest names in
    ap (λ l. l ++ tail b rest) e ∙ append_assoc found (uap_slot_flaws path known a s) (tail b rest)
    ∙ ap (λ l. found ++ (uap_slot_flaws path known a s ++ l)) (uap_same path (map item_tree items) b (with_uap_slot a s) rest same) ∙ ap (λ l. found ++ l) (sym first) ∙ h

pub uap_end : (path : List ℕ) (items : List Item) (i : ℕ) (a : List (List ℕ)) (ss : List UapSlot) (found all : List Flaw) → length ss ≤ i
    → found ++ uap_flaws path (map item_tree items) a (drop i ss) ≡ all → found ≡ all
uap_end path items i a ss found all past h = sym (append-nil found) ∙ ap (λ l. found ++ l) (sym (ap (uap_flaws path (map item_tree items) a) (drop_all i ss past))) ∙ h

pub ruleset slots = (uap_start, uap_step, uap_end)

four : (a b c d : List Flaw) → a ++ (b ++ c ++ d) ≡ a ++ b ++ c ++ d
four a b c d = sym (append_assoc a (b ++ c) d) ∙ ap (λ l. l ++ d) (sym (append_assoc a b c))

-- the flaws of the items, then those at the UAP's path
pub both_parts : (start of_items of_uap between all : List Flaw) → between ≡ start ++ of_items → all ≡ between ++ of_uap → all ≡ start ++ (of_items ++ of_uap)
both_parts start of_items of_uap between all e f = f ∙ ap (λ l. l ++ of_uap) e ∙ append_assoc start of_items of_uap

pub at_category : (path : List ℕ) (spec : Spec) (start all : List Flaw) → path ≡ three_digits spec.category
    → all ≡ start ++ (items_flaws path [] (map item_tree spec.items) ++ uap_part_flaws (at path (codes "uap")) spec) → all ≡ start ++ spec_flaws spec
at_category path spec start all p e =
    let digits = three_digits spec.category in
    let uap = at digits (codes "uap") in
    e ∙ (λ i. start ++ (items_flaws (p i) [] (map item_tree spec.items) ++ uap_part_flaws (at (p i) (codes "uap")) spec))
    ∙ ap (λ l. start ++ l) (four (items_flaws digits [] (map item_tree spec.items)) (flaw_where (length spec.uap == 0) Empty uap) (flaw_where (nat_lt 126 (length spec.uap)) TooManySlots uap)
    (uap_flaws uap (map item_tree spec.items) [] spec.uap))
