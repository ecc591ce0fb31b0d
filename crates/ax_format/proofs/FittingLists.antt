-- Lists of members and values of unlike lengths.
use Rattle.std.proofs.Common.{Bool, Fits, List, [], add-one, ap, arith, drop, drop-cons, false, get_or, length, map, nat_le, nat_lt, refl, suc, sym, true, w8, ℕ, ◌&&◌, ◌+◌, ◌<◌, ◌==◌, ◌∙◌, ◌∷◌, ◌≡◌, ◌≤◌}
use Rattle.std.specs.List.{list_all}
use Rattle.ax_format.specs.Tree.{SlotsTree, slot_and, value_count}
use Rattle.ax_format.specs.declared.kind.Slot.{Slot}
use Rattle.ax_format.specs.declared.value.Entry.{Entry}
use Rattle.std.proofs.lemmas.Bool.Decides.{nat_tests}
use Rattle.std.proofs.lemmas.List.{drop_all, length-map}
use Rattle.ax_format.specs.Fitting.{entries_fit, list_count, lists_fit, members_fit, parts_fit}
use Rattle.ax_format.specs.Plain.{entries_tree, lists_tree, members_tree, part_tree, slot_tree, slots_tree, values_tree}
use Rattle.ax_format.specs.declared.kind.Part.{Part}
use Rattle.ax_format.specs.declared.kind.Member.{Member}
use Rattle.ax_format.specs.declared.value.Value.{Value}

no_members_from : (vs : List Value) → members_fit (members_tree []) (values_tree vs) ≡ (length vs == 0)
no_members_from [] = refl
no_members_from (v ∷ vs) = let h : 0 < length (v ∷ vs) = omega arith in grind (arith, nat_tests)

-- after the last member there is no value
pub members_end : (ms : List Member) (i : ℕ) (vs : List Value) (b : Bool) → length ms ≤ i → b ≡ members_fit (members_tree (drop i ms)) (values_tree vs) → (length vs == 0) ≡ b
members_end ms i vs b past e = sym (e ∙ ap (λ x. members_fit (members_tree x) (values_tree vs)) (drop_all i ms past) ∙ no_members_from vs)

list_count-is : (ls : List (List Value)) → list_count (lists_tree ls) ≡ length ls
list_count-is [] = refl
list_count-is (vs ∷ ls) = add-one _ ∙ ap suc (list_count-is ls)

with_counts : (ps : List Part) (ls : List (List Value))
    → nat_lt 0 (length ls) && (nat_le (length ls) (length ps) && lists_fit (map part_tree ps) (lists_tree ls)) ≡ parts_fit (map part_tree ps) (lists_tree ls)
with_counts ps ls = λ i. nat_lt 0 (sym (list_count-is ls) i) && (nat_le (sym (list_count-is ls) i) (sym (length-map ps part_tree) i) && lists_fit (map part_tree ps) (lists_tree ls))

tested : (m n : ℕ) (b c : Bool) → 0 < m → m ≤ n → c ≡ b → c ≡ nat_lt 0 m && (nat_le m n && b)
tested m n b c some within e = grind (arith, nat_tests)

untested : (m n : ℕ) (b : Bool) → n < m → false ≡ nat_lt 0 m && (nat_le m n && b)
untested m n b over = grind (arith, nat_tests)

pub no_list : (ps : List Part) (ls : List (List Value)) → length ls ≡ 0 → false ≡ parts_fit (map part_tree ps) (lists_tree ls)
no_list ps [] e = refl
no_list ps (l ∷ ls) e = absurd (cc)

pub too_many_lists : (ps : List Part) (ls : List (List Value)) → length ps < length ls → false ≡ parts_fit (map part_tree ps) (lists_tree ls)
too_many_lists ps ls over = untested (length ls) (length ps) (lists_fit (map part_tree ps) (lists_tree ls)) over ∙ with_counts ps ls

pub counted_parts : (ps : List Part) (ls : List (List Value)) (b : Bool) → (length ls ≡ 0 → ⊥) → length ls ≤ length ps → b ≡ lists_fit (map part_tree ps) (lists_tree ls)
    → b ≡ parts_fit (map part_tree ps) (lists_tree ls)
counted_parts ps ls b some within e = tested (length ls) (length ps) (lists_fit (map part_tree ps) (lists_tree ls)) b (omega arith) within e ∙ with_counts ps ls

value_count-is : (vs : List Value) → value_count (values_tree vs) ≡ length vs
value_count-is [] = refl
value_count-is (v ∷ vs) = ap suc (value_count-is vs)

small : (n m l : ℕ) (b c : Bool) → m ≡ n → n < l → c ≡ b → c ≡ nat_lt m l && b
small n m l b c e within same = grind (arith, nat_tests)

large : (n m l : ℕ) (b : Bool) → m ≡ n → l ≤ n → false ≡ nat_lt m l && b
large n m l b e over = grind (arith, nat_tests)

positive : (n m : ℕ) (b c : Bool) → m ≡ n → (n ≡ 0 → ⊥) → c ≡ b → c ≡ nat_lt 0 m && b
positive n m b c e some same = let h : 0 < m = omega arith in grind (arith, nat_tests)

nought : (n m : ℕ) (b : Bool) → m ≡ n → n ≡ 0 → false ≡ nat_lt 0 m && b
nought n m b e none = let h : m ≤ 0 = omega arith in grind (arith, nat_tests)

-- l is one more than the greatest count
pub few_values : (vs : List Value) (l : ℕ) (b c : Bool) → length vs < l → c ≡ b → c ≡ nat_lt (value_count (values_tree vs)) l && b
few_values vs l b c within e = small (length vs) _ l b c (value_count-is vs) within e

pub many_values : (vs : List Value) (l : ℕ) (b : Bool) → l ≤ length vs → false ≡ nat_lt (value_count (values_tree vs)) l && b
many_values vs l b over = large (length vs) _ l b (value_count-is vs) over

pub some_values : (vs : List Value) (b c : Bool) → (length vs ≡ 0 → ⊥) → c ≡ b → c ≡ nat_lt 0 (value_count (values_tree vs)) && b
some_values vs b c some e = positive (length vs) _ b c (value_count-is vs) some e

pub no_values_there : (vs : List Value) (b : Bool) → length vs ≡ 0 → false ≡ nat_lt 0 (value_count (values_tree vs)) && b
no_values_there vs b none = nought (length vs) _ b (value_count-is vs) none

pub ruleset counts = (no_list, too_many_lists, counted_parts, few_values, many_values, some_values, no_values_there)

-- the slots from place i on are the one there and those after it
pub slots_from : (ss : List Slot) (i : ℕ) (s : Slot) → i < length ss → s ≡ get_or ss i s → slots_tree (drop i ss) ≡ slot_and (slot_tree s) (slots_tree (drop (i + 1) ss))
slots_from ss i s within e = ap slots_tree (drop-cons ss i s within ∙ ap (λ x. x ∷ drop (suc i) ss) (sym e)) ∙ ap (λ n. slot_and (slot_tree s) (slots_tree (drop n ss))) (sym (add-one i))

no_slots_from : (n : ℕ) (es : List Entry) → entries_fit n (slots_tree []) (entries_tree es) ≡ (length es == 0)
no_slots_from n [] = refl
no_slots_from n (e ∷ es) = let h : 0 < length (e ∷ es) = omega arith in grind (arith, nat_tests)

-- after the last slot there is no entry
pub slots_end : (ss : List Slot) (i n : ℕ) (es : List Entry) → length ss ≤ i → entries_fit n (slots_tree (drop i ss)) (entries_tree es) ≡ (length es == 0)
slots_end ss i n es past = rw (drop_all i ss past) (no_slots_from n es)

-- the slot at place i refuses the entries, or takes those that it has
pub slot_refuses : (ss : List Slot) (i n : ℕ) (s : Slot) (es : List Entry) (b : Bool) → i < length ss → s ≡ get_or ss i s
    → ((t : SlotsTree) → entries_fit n (slot_and (slot_tree s) t) (entries_tree es) ≡ false) → b ≡ entries_fit n (slots_tree (drop i ss)) (entries_tree es) → false ≡ b
slot_refuses ss i n s es b within e refused is = sym (is ∙ ap (λ x. entries_fit n x (entries_tree es)) (slots_from ss i s within e) ∙ refused _)

pub slot_takes : (ss : List Slot) (i n : ℕ) (s : Slot) (es later : List Entry) (b : Bool) → i < length ss → s ≡ get_or ss i s
    → ((t : SlotsTree) → entries_fit n (slot_and (slot_tree s) t) (entries_tree es) ≡ entries_fit (n + 1) t (entries_tree later))
    → b ≡ entries_fit n (slots_tree (drop i ss)) (entries_tree es) → b ≡ entries_fit (n + 1) (slots_tree (drop (i + 1) ss)) (entries_tree later)
slot_takes ss i n s es later b within e taken is = is ∙ ap (λ x. entries_fit n x (entries_tree es)) (slots_from ss i s within e) ∙ taken _

-- the members of a list of octets are below 256
pub all_below : (xs : List ℕ) → ((i : ℕ) → Fits w8 (get_or xs i 0)) → list_all (λ x. nat_lt x 256) xs ≡ true
all_below [] h = refl
all_below (x ∷ xs) h =
    let fits : Fits w8 x = h 0 in
    let first : x < 256 = omega arith in
    let ih : list_all (λ y. nat_lt y 256) xs ≡ true = all_below xs (λ i. h (suc i)) in
    let test : nat_lt x 256 ≡ true = grind (arith, nat_tests) in
    λ i. test i && ih i
