-- The first of a name, over lists from a place on.
use Rattle.std.proofs.Common.{◌≡◌, ℕ, suc, ◌+◌, ◌<◌, ◌≤◌, true, false, if◌then◌else◌, List, ◌∷◌, length, map, drop, get_or, Option, Some, None, sym, ◌∙◌, ap, add-one, drop-cons}
use Rattle.std.proofs.lemmas.List.{drop_all}
use Rattle.ax_format.specs.Naming.{found_or, fixed_named, member_named, part_named, kind_named, slot_named, frn_of, is_slot_of}
use Rattle.ax_format.specs.Plain.{member_tree, members_tree, part_tree, slot_tree, slots_tree}
use Rattle.ax_format.specs.Tree.{FixedTree, KindTree}
use Rattle.ax_format.specs.declared.kind.Member.{Member}
use Rattle.ax_format.specs.declared.kind.Part.{Part}
use Rattle.ax_format.specs.declared.kind.Slot.{Slot}
use Rattle.ax_format.specs.declared.spec.UapSlot.{UapSlot}

pub from_place : {A : Type 0} (xs : List A) (i : ℕ) (x : A) → i < length xs → x ≡ get_or xs i x → drop i xs ≡ x ∷ drop (i + 1) xs
from_place xs i x within e = drop-cons xs i x within ∙ ap (λ y. y ∷ drop (suc i) xs) (sym e) ∙ ap (λ n. x ∷ drop n xs) (sym (add-one i))

-- ---- members

pub member_other : (name : List ℕ) (ms : List Member) (i n : ℕ) (m : Member) (all : Option (ℕ × FixedTree)) → i < length ms → m ≡ get_or ms i m → fixed_named name (member_tree m) ≡ None
    → member_named n name (members_tree (drop i ms)) ≡ all → member_named (n + 1) name (members_tree (drop (i + 1) ms)) ≡ all
member_other name ms i n m all within is none h =
    sym (ap (λ o. found_or o n (member_named (n + 1) name (members_tree (drop (i + 1) ms)))) none) ∙ sym (ap (λ x. member_named n name (members_tree x)) (from_place ms i m within is)) ∙ h

pub member_here : (name : List ℕ) (ms : List Member) (i n : ℕ) (m : Member) (f : FixedTree) (all : Option (ℕ × FixedTree)) → i < length ms → m ≡ get_or ms i m → fixed_named name (member_tree m) ≡ Some f
    → member_named n name (members_tree (drop i ms)) ≡ all → all ≡ Some (n, f)
member_here name ms i n m f all within is here h =
    sym h ∙ ap (λ x. member_named n name (members_tree x)) (from_place ms i m within is) ∙ ap (λ o. found_or o n (member_named (n + 1) name (members_tree (drop (i + 1) ms)))) here

pub member_none : (name : List ℕ) (ms : List Member) (i n : ℕ) (all : Option (ℕ × FixedTree)) → length ms ≤ i → member_named n name (members_tree (drop i ms)) ≡ all → all ≡ None
member_none name ms i n all past h = sym h ∙ ap (λ x. member_named n name (members_tree x)) (drop_all i ms past)

pub ruleset members = (member_other, member_here, member_none)

-- ---- parts

pub part_other : (name : List ℕ) (ps : List Part) (i n : ℕ) (p : Part) (all : Option (ℕ × (ℕ × FixedTree))) → i < length ps → p ≡ get_or ps i p → member_named 0 name (part_tree p) ≡ None
    → part_named n name (map part_tree (drop i ps)) ≡ all → part_named (n + 1) name (map part_tree (drop (i + 1) ps)) ≡ all
part_other name ps i n p all within is none h =
    sym (ap (λ o. found_or o n (part_named (n + 1) name (map part_tree (drop (i + 1) ps)))) none) ∙ sym (ap (λ x. part_named n name (map part_tree x)) (from_place ps i p within is)) ∙ h

pub part_here : (name : List ℕ) (ps : List Part) (i n : ℕ) (p : Part) (f : ℕ × FixedTree) (all : Option (ℕ × (ℕ × FixedTree))) → i < length ps → p ≡ get_or ps i p → member_named 0 name (part_tree p) ≡ Some f
    → part_named n name (map part_tree (drop i ps)) ≡ all → all ≡ Some (n, f)
part_here name ps i n p f all within is here h =
    sym h ∙ ap (λ x. part_named n name (map part_tree x)) (from_place ps i p within is) ∙ ap (λ o. found_or o n (part_named (n + 1) name (map part_tree (drop (i + 1) ps)))) here

pub part_none : (name : List ℕ) (ps : List Part) (i n : ℕ) (all : Option (ℕ × (ℕ × FixedTree))) → length ps ≤ i → part_named n name (map part_tree (drop i ps)) ≡ all → all ≡ None
part_none name ps i n all past h = sym h ∙ ap (λ x. part_named n name (map part_tree x)) (drop_all i ps past)

pub ruleset parts = (part_other, part_here, part_none)

-- ---- slots

pub slot_other : (name : List ℕ) (ss : List Slot) (i n : ℕ) (s : Slot) (all : Option (ℕ × KindTree)) → i < length ss → s ≡ get_or ss i s → kind_named name (slot_tree s) ≡ None
    → slot_named n name (slots_tree (drop i ss)) ≡ all → slot_named (n + 1) name (slots_tree (drop (i + 1) ss)) ≡ all
slot_other name ss i n s all within is none h =
    sym (ap (λ o. found_or o n (slot_named (n + 1) name (slots_tree (drop (i + 1) ss)))) none) ∙ sym (ap (λ x. slot_named n name (slots_tree x)) (from_place ss i s within is)) ∙ h

pub slot_here : (name : List ℕ) (ss : List Slot) (i n : ℕ) (s : Slot) (k : KindTree) (all : Option (ℕ × KindTree)) → i < length ss → s ≡ get_or ss i s → kind_named name (slot_tree s) ≡ Some k
    → slot_named n name (slots_tree (drop i ss)) ≡ all → all ≡ Some (n, k)
slot_here name ss i n s k all within is here h =
    sym h ∙ ap (λ x. slot_named n name (slots_tree x)) (from_place ss i s within is) ∙ ap (λ o. found_or o n (slot_named (n + 1) name (slots_tree (drop (i + 1) ss)))) here

pub slot_none : (name : List ℕ) (ss : List Slot) (i n : ℕ) (all : Option (ℕ × KindTree)) → length ss ≤ i → slot_named n name (slots_tree (drop i ss)) ≡ all → all ≡ None
slot_none name ss i n all past h = sym h ∙ ap (λ x. slot_named n name (slots_tree x)) (drop_all i ss past)

pub ruleset slots = (slot_other, slot_here, slot_none)

-- ---- slots of the UAP

pub frn_other : (name : List ℕ) (ss : List UapSlot) (i n : ℕ) (s : UapSlot) (all : Option ℕ) → i < length ss → s ≡ get_or ss i s → is_slot_of name s ≡ false
    → frn_of n name (drop i ss) ≡ all → frn_of (n + 1) name (drop (i + 1) ss) ≡ all
frn_other name ss i n s all within is none h =
    sym (ap (λ b. if b then Some n else frn_of (n + 1) name (drop (i + 1) ss)) none) ∙ sym (ap (frn_of n name) (from_place ss i s within is)) ∙ h

pub frn_here : (name : List ℕ) (ss : List UapSlot) (i n : ℕ) (s : UapSlot) (all : Option ℕ) → i < length ss → s ≡ get_or ss i s → is_slot_of name s ≡ true
    → frn_of n name (drop i ss) ≡ all → Some n ≡ all
frn_here name ss i n s all within is here h =
    sym (ap (λ b. if b then Some n else frn_of (n + 1) name (drop (i + 1) ss)) here) ∙ sym (ap (frn_of n name) (from_place ss i s within is)) ∙ h

pub frn_none : (name : List ℕ) (ss : List UapSlot) (i n : ℕ) (all : Option ℕ) → length ss ≤ i → frn_of n name (drop i ss) ≡ all → None ≡ all
frn_none name ss i n all past h = sym (ap (frn_of n name) (drop_all i ss past)) ∙ h

pub ruleset uap = (frn_other, frn_here, frn_none)
