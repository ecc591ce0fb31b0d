-- Sums that are capped at 2^64 - 1, over lists from a place on.
use Rattle.std.proofs.Common.{◌≡◌, ℕ, zero, suc, ◌+◌, ◌*◌, ◌/◌, ◌<◌, ◌≤◌, ◌-◌, min, List, [], ◌∷◌, length, map, drop, get_or, Option, Some, None, slice_get, refl, sym, ◌∙◌, ap, arith, add-one, drop-cons, length-drop}
use Rattle.std.proofs.lemmas.List.{drop_all, length-map}
use Rattle.ax_format.proofs.RecordFitting.{entries_split}
use Rattle.ax_format.specs.Lookup.{item_of_frn}
use Rattle.ax_format.specs.Specification.{record_slots}
use Rattle.ax_format.specs.Lengths.{record_octets, records_octets, capped, octets, each_octets, entries_octets, octets_where, last_slot, presence_octets, unit_octets, parts_octets, slot_kind, kind_after, kind_of_slot}
use Rattle.ax_format.specs.Plain.{entries_tree, kind_tree, spec_tree, member_tree, members_tree, part_tree, slot_tree, slots_tree, value_tree, values_tree, lists_tree}
use Rattle.ax_format.specs.Tree.{MembersTree, member_and, MemberTree, named, spare, KindTree, ValueTree, ValuesTree, value_count, ListsTree, no_lists, list_and, entry_and}
use Rattle.ax_format.specs.Widths.{member_width, members_width, fx_width}
use Rattle.ax_format.specs.declared.kind.Member.{Member}
use Rattle.ax_format.specs.declared.kind.Part.{Part}
use Rattle.ax_format.specs.declared.kind.Slot.{Slot}
use Rattle.ax_format.specs.declared.record.Record.{Record}
use Rattle.ax_format.specs.declared.spec.Item.{Item}
use Rattle.ax_format.specs.declared.spec.Spec.{Spec}
use Rattle.ax_format.specs.declared.value.Entry.{Entry}
use Rattle.ax_format.specs.declared.value.Value.{Value}
use Rattle.ax_format.proofs.ItemKinds.{kind_of_item, kind_of_frn}
use Rattle.ax_format.specs.declared.kind.LastPart.{LastPart}

-- ---- sums

sum_more : (total one rest : ℕ) → capped (capped (total + capped one) + rest) ≡ capped (total + (one + rest))
sum_more total one rest = omega arith

-- a sum capped and a term capped, where the term was in front of what is left
pub taken : (total new one left rest all : ℕ) → left ≡ one + rest → capped (total + left) ≡ capped all → new ≡ capped (total + capped one) → capped (new + rest) ≡ capped all
taken total new one left rest all e h n = ap (λ x. capped (x + rest)) n ∙ sum_more total one rest ∙ ap (λ x. capped (total + x)) (sym e) ∙ h

-- ---- members

from_place : {A : Type 0} (xs : List A) (i : ℕ) (x : A) → i < length xs → x ≡ get_or xs i x → drop i xs ≡ x ∷ drop (i + 1) xs
from_place xs i x within e = drop-cons xs i x within ∙ ap (λ y. y ∷ drop (suc i) xs) (sym e) ∙ ap (λ n. x ∷ drop n xs) (sym (add-one i))

member_first : (m : MemberTree) (ms : MembersTree) → members_width (member_and m ms) ≡ member_width m + members_width ms
member_first (named name f) ms = refl
member_first (spare w) ms = refl

pub member_taken : (ms : List Member) (i : ℕ) (m : Member) (total new all : ℕ) → i < length ms → m ≡ get_or ms i m
    → capped (total + members_width (members_tree (drop i ms))) ≡ capped all → new ≡ capped (total + capped (member_width (member_tree m)))
    → capped (new + members_width (members_tree (drop (i + 1) ms))) ≡ capped all
member_taken ms i m total new all within e h n =
    taken total new (member_width (member_tree m)) (members_width (members_tree (drop i ms))) (members_width (members_tree (drop (i + 1) ms))) all
    (ap (λ x. members_width (members_tree x)) (from_place ms i m within e) ∙ member_first (member_tree m) (members_tree (drop (i + 1) ms))) h n

pub members_done : (ms : List Member) (i total all : ℕ) → length ms ≤ i → total ≤ 18446744073709551615 → capped (total + members_width (members_tree (drop i ms))) ≡ capped all → total ≡ capped all
members_done ms i total all past small h =
    let none : members_width (members_tree (drop i ms)) ≡ 0 = ap (λ x. members_width (members_tree x)) (drop_all i ms past) in
    omega (arith, none, h)

pub ruleset widths = (member_taken, members_done)

-- ---- parts

pub part_taken : (last : LastPart) (p : MembersTree) (ps : List MembersTree) (vs : ValuesTree) (ls : ListsTree) (total new all : ℕ)
    → capped (total + parts_octets last (p ∷ ps) (list_and vs ls)) ≡ capped all → new ≡ capped (total + capped (capped (members_width p) + fx_width last (length ps)) / 8)
    → capped (new + parts_octets last ps ls) ≡ capped all
part_taken last p ps vs ls total new all h n =
    let fx = fx_width last (length ps) in
    taken total new (unit_octets fx (members_width p)) (parts_octets last (p ∷ ps) (list_and vs ls)) (parts_octets last ps ls) all refl h (n ∙ small (capped (members_width p) + fx))
  where
    small : (w : ℕ) → capped (total + capped w / 8) ≡ capped (total + capped (capped w / 8))
    small w = omega arith

pub no_parts : (last : LastPart) (ps : List MembersTree) (ls : ListsTree) (total all : ℕ) → ps ≡ [] → total ≤ 18446744073709551615 → capped (total + parts_octets last ps ls) ≡ capped all → total ≡ capped all
no_parts last ps ls total all e small h = let none : parts_octets last ps ls ≡ 0 = ap (λ x. parts_octets last x ls) e in omega (arith, none, h)

without_lists : (last : LastPart) (ps : List MembersTree) → parts_octets last ps no_lists ≡ 0
without_lists last [] = refl
without_lists last (p ∷ ps) = refl

pub no_lists_left : (last : LastPart) (ps : List MembersTree) (ls : ListsTree) (total all : ℕ) → ls ≡ no_lists → total ≤ 18446744073709551615 → capped (total + parts_octets last ps ls) ≡ capped all → total ≡ capped all
no_lists_left last ps ls total all e small h = let none : parts_octets last ps ls ≡ 0 = ap (parts_octets last ps) e ∙ without_lists last ps in omega (arith, none, h)

-- the same from a place on
-- how many parts stand after part i
parts_after : (ps : List Part) (i others : ℕ) → i < length ps → others + (i + 1) ≡ length ps → others ≡ length (map part_tree (drop (i + 1) ps))
parts_after ps i others within count = omega (arith, length-map (drop (i + 1) ps) part_tree, length-drop (i + 1) ps, count)

pub part_there : (last : LastPart) (ps : List Part) (i others : ℕ) (p : Part) (ls later : List (List Value)) (vs : List Value) (total new all : ℕ) → i < length ps → others + (i + 1) ≡ length ps → p ≡ get_or ps i p → ls ≡ vs ∷ later
    → capped (total + parts_octets last (map part_tree (drop i ps)) (lists_tree ls)) ≡ capped all → new ≡ capped (total + capped (capped (members_width (part_tree p)) + fx_width last others) / 8)
    → capped (new + parts_octets last (map part_tree (drop (i + 1) ps)) (lists_tree later)) ≡ capped all
part_there last ps i others p ls later vs total new all within count e is h n =
    part_taken last (part_tree p) (map part_tree (drop (i + 1) ps)) (values_tree vs) (lists_tree later) total new all
    (sym (ap (λ x. capped (total + parts_octets last (map part_tree x) (lists_tree ls))) (from_place ps i p within e) ∙ ap (λ x. capped (total + parts_octets last (map part_tree (p ∷ drop (i + 1) ps)) (lists_tree x))) is) ∙ h)
    (n ∙ ap (λ m. capped (total + capped (capped (members_width (part_tree p)) + fx_width last m) / 8)) (parts_after ps i others within count))

pub parts_done : (last : LastPart) (ps : List Part) (i : ℕ) (ls : List (List Value)) (total all : ℕ) → length ps ≤ i → total ≤ 18446744073709551615
    → capped (total + parts_octets last (map part_tree (drop i ps)) (lists_tree ls)) ≡ capped all → total ≡ capped all
parts_done last ps i ls total all past small h = no_parts last (map part_tree (drop i ps)) (lists_tree ls) total all (ap (map part_tree) (drop_all i ps past)) small h

pub lists_done : (last : LastPart) (ps : List Part) (i : ℕ) (ls : List (List Value)) (total all : ℕ) → length ls ≡ 0 → total ≤ 18446744073709551615
    → capped (total + parts_octets last (map part_tree (drop i ps)) (lists_tree ls)) ≡ capped all → total ≡ capped all
lists_done last ps i [] total all none small h = no_lists_left last (map part_tree (drop i ps)) no_lists total all refl small h
lists_done last ps i (vs ∷ ls) total all none small h = absurd (cc)

-- ---- values

value_count-is : (vs : List Value) → value_count (values_tree vs) ≡ length vs
value_count-is [] = refl
value_count-is (v ∷ vs) = ap suc (value_count-is vs)

pub run_counted : (vs : List Value) (w n u r : ℕ) → n ≡ length vs → u ≡ unit_octets 1 w → r ≡ min (n * u) 18446744073709551615 → r ≡ capped (value_count (values_tree vs) * unit_octets 1 w)
run_counted vs w n u r count unit e = e ∙ (λ i. capped ((count ∙ sym (value_count-is vs)) i * unit i))

pub value_taken : (vs : List Value) (k : KindTree) (i : ℕ) (v : Value) (total new all : ℕ) → i < length vs → v ≡ get_or vs i v
    → capped (total + each_octets (values_tree (drop i vs)) k) ≡ capped all → new ≡ capped (total + capped (octets (value_tree v) k))
    → capped (new + each_octets (values_tree (drop (i + 1) vs)) k) ≡ capped all
value_taken vs k i v total new all within e h n =
    taken total new (octets (value_tree v) k) (each_octets (values_tree (drop i vs)) k) (each_octets (values_tree (drop (i + 1) vs)) k) all
    (ap (λ x. each_octets (values_tree x) k) (from_place vs i v within e)) h n

pub values_done : (vs : List Value) (k : KindTree) (i total all : ℕ) → length vs ≤ i → total ≤ 18446744073709551615 → capped (total + each_octets (values_tree (drop i vs)) k) ≡ capped all → total ≡ capped all
values_done vs k i total all past small h =
    let none : each_octets (values_tree (drop i vs)) k ≡ 0 = ap (λ x. each_octets (values_tree x) k) (drop_all i vs past) in
    omega (arith, none, h)

pub ruleset each = (value_taken, values_done)

-- ---- entries

entry_first : (e : Entry) (es : List Entry) → entries_tree (e ∷ es) ≡ entry_and e.slot (value_tree e.value) (entries_tree es)
entry_first e es = entries_split e (e ∷ es) es refl

pub entry_taken : (es : List Entry) (ks : ℕ → Option KindTree) (i : ℕ) (e : Entry) (total new all : ℕ) → i < length es → e ≡ get_or es i e
    → capped (total + entries_octets (entries_tree (drop i es)) ks) ≡ capped all → new ≡ capped (total + capped (octets_where (ks e.slot) (octets (value_tree e.value))))
    → capped (new + entries_octets (entries_tree (drop (i + 1) es)) ks) ≡ capped all
entry_taken es ks i e total new all within is h n =
    taken total new (octets_where (ks e.slot) (octets (value_tree e.value))) (entries_octets (entries_tree (drop i es)) ks) (entries_octets (entries_tree (drop (i + 1) es)) ks) all
    (ap (λ x. entries_octets (entries_tree x) ks) (from_place es i e within is) ∙ ap (λ x. entries_octets x ks) (entry_first e (drop (i + 1) es))) h n

pub entry_last : (es : List Entry) (i t : ℕ) (e : Entry) (all : ℕ) → i < length es → e ≡ get_or es i e
    → last_slot t (entries_tree (drop i es)) ≡ all → last_slot e.slot (entries_tree (drop (i + 1) es)) ≡ all
entry_last es i t e all within is h = sym (ap (λ x. last_slot t (entries_tree x)) (from_place es i e within is) ∙ ap (last_slot t) (entry_first e (drop (i + 1) es))) ∙ h

pub entries_done : (es : List Entry) (ks : ℕ → Option KindTree) (i total t sum last result : ℕ) → length es ≤ i → capped (total + entries_octets (entries_tree (drop i es)) ks) ≡ capped sum
    → last_slot t (entries_tree (drop i es)) ≡ last → result ≡ capped (total + presence_octets t) → result ≡ capped (sum + presence_octets last)
entries_done es ks i total t sum last result past h l r =
    let none : entries_octets (entries_tree (drop i es)) ks ≡ 0 = ap (λ x. entries_octets (entries_tree x) ks) (drop_all i es past) in
    let same : t ≡ last = sym (ap (λ x. last_slot t (entries_tree x)) (drop_all i es past)) ∙ l in
    r ∙ ap (λ u. capped (total + presence_octets u)) same ∙ add_same (presence_octets last) none
  where
    add_same : (p : ℕ) → entries_octets (entries_tree (drop i es)) ks ≡ 0 → capped (total + p) ≡ capped (sum + p)
    add_same p none = omega (arith, h, none)

pub ruleset entries = (entry_taken, entry_last, entries_done)

-- ---- kinds by slot number

abbrev slot_of : Option Slot → Option KindTree
slot_of None = None
slot_of (Some s) = kind_of_slot (slot_tree s)

pub kind_at_slot : (ss : List Slot) (i : ℕ) → kind_after i (slots_tree ss) ≡ slot_of (slice_get ss i)
kind_at_slot [] i = refl
kind_at_slot (s ∷ ss) zero = refl
kind_at_slot (s ∷ ss) (suc i) = kind_at_slot ss i

pub kind_of_number : (ss : List Slot) (t : ℕ) → (t ≡ 0 → ⊥) → slot_kind (slots_tree ss) t ≡ slot_of (slice_get ss (t - 1))
kind_of_number ss zero some = absurd (some refl)
kind_of_number ss (suc i) some = let same : i ≡ suc i - 1 = omega arith in kind_at_slot ss i ∙ ap (λ j. slot_of (slice_get ss j)) same

pub slot_zero : (ss : List Slot) (t : ℕ) → t ≡ 0 → slot_kind (slots_tree ss) t ≡ None
slot_zero ss t e = ap (slot_kind (slots_tree ss)) e

pub slot_there : (ss : List Slot) (t : ℕ) (s : Slot) → (t ≡ 0 → ⊥) → slice_get ss (t - 1) ≡ Some s → slot_kind (slots_tree ss) t ≡ kind_of_slot (slot_tree s)
slot_there ss t s some e = kind_of_number ss t some ∙ ap slot_of e

pub ruleset kinds = (kind_of_number, slot_there, slot_zero)

pub item_counted : (spec : Spec) (t : ℕ) (item : Item) (v : ValueTree) → item_of_frn t spec.uap spec.items ≡ Some item
    → octets_where (slot_kind (record_slots (spec_tree spec)) t) (octets v) ≡ octets v (kind_tree item.kind)
item_counted spec t item v e = ap (λ o. octets_where o (octets v)) (kind_of_frn spec t ∙ ap kind_of_item e)

pub no_item_counted : (spec : Spec) (t : ℕ) (v : ValueTree) → item_of_frn t spec.uap spec.items ≡ None → octets_where (slot_kind (record_slots (spec_tree spec)) t) (octets v) ≡ 0
no_item_counted spec t v e = ap (λ o. octets_where o (octets v)) (kind_of_frn spec t ∙ ap kind_of_item e)

pub ruleset item_kinds = (item_counted, no_item_counted)

-- ---- records

pub record_taken : (spec : Spec) (rs : List Record) (i : ℕ) (r : Record) (total new all : ℕ) → i < length rs → r ≡ get_or rs i r
    → capped (total + records_octets spec (drop i rs)) ≡ capped all → new ≡ capped (total + capped (record_octets spec r))
    → capped (new + records_octets spec (drop (i + 1) rs)) ≡ capped all
record_taken spec rs i r total new all within e h n =
    taken total new (record_octets spec r) (records_octets spec (drop i rs)) (records_octets spec (drop (i + 1) rs)) all (ap (records_octets spec) (from_place rs i r within e)) h n

pub records_done : (spec : Spec) (rs : List Record) (i total all : ℕ) → length rs ≤ i → total ≤ 18446744073709551615 → capped (total + records_octets spec (drop i rs)) ≡ capped all → total ≡ capped all
records_done spec rs i total all past small h =
    let none : records_octets spec (drop i rs) ≡ 0 = ap (records_octets spec) (drop_all i rs past) in
    omega (arith, none, h)

pub ruleset records = (record_taken, records_done)
