-- Values at places.
use Rattle.std.proofs.Common.{◌≡◌, ℕ, zero, suc, ◌<◌, ◌≤◌, ◌+◌, ◌==◌, if◌then◌else◌, List, [], ◌∷◌, drop, length, get_or, slice_get, Option, Some, None, option_map, option_and_then, is_some, refl, sym, ◌∙◌, ap}
use Rattle.std.proofs.lemmas.Bool.{ne_eqb, eq-eqb}
use Rattle.std.proofs.lemmas.List.{drop_all}
use Rattle.ax_format.proofs.Namings.{from_place}
use Rattle.ax_format.proofs.RecordFitting.{entries_split}
use Rattle.ax_format.specs.At.{slot_value, nth_value, nth_list, value_at, number_of_value}
use Rattle.ax_format.specs.Plain.{value_tree, values_tree, lists_tree, entries_tree, value_step, entry_step}
use Rattle.ax_format.specs.Tree.{ValueTree, number, member_values, part_values, marked, ValuesTree, ListsTree, EntriesTree}
use Rattle.ax_format.specs.declared.value.Entry.{Entry}
use Rattle.ax_format.specs.declared.value.Value.{Value, fold-roll-Value}
use Rattle.ax_format.specs.declared.value.Value.TheOpen.{Value-F}
use Rattle.ax_format.specs.declared.value.Value.TheVariants.{Extended, rolls-Extended}

some_same : {A : Type 0} (x y : A) → Some x ≡ Some y → x ≡ y
some_same x y e = cc

-- ---- members and parts

pub member_there : (vs : List Value) (n : ℕ) (v : Value) → slice_get vs n ≡ Some v → Some (value_tree v) ≡ nth_value n (values_tree vs)
member_there [] n v e = absurd cc
member_there (x ∷ vs) zero v e = ap (λ y. Some (value_tree y)) (sym (some_same x v e))
member_there (x ∷ vs) (suc n) v e = member_there vs n v e

pub member_past : (vs : List Value) (n : ℕ) → slice_get vs n ≡ None → None ≡ nth_value n (values_tree vs)
member_past [] n e = refl
member_past (x ∷ vs) zero e = absurd cc
member_past (x ∷ vs) (suc n) e = member_past vs n e

pub ruleset members = (member_there, member_past)

part_is : (ls : List (List Value)) (p : ℕ) (vs : List Value) → slice_get ls p ≡ Some vs → nth_list p (lists_tree ls) ≡ values_tree vs
part_is [] p vs e = absurd cc
part_is (x ∷ ls) zero vs e = ap values_tree (some_same x vs e)
part_is (x ∷ ls) (suc p) vs e = part_is ls p vs e

pub part_there : (ls : List (List Value)) (p n : ℕ) (vs : List Value) (o : Option ValueTree) → slice_get ls p ≡ Some vs → o ≡ nth_value n (values_tree vs) → o ≡ nth_value n (nth_list p (lists_tree ls))
part_there ls p n vs o e h = h ∙ ap (nth_value n) (sym (part_is ls p vs e))

pub part_past : (ls : List (List Value)) (p n : ℕ) → slice_get ls p ≡ None → None ≡ nth_value n (nth_list p (lists_tree ls))
part_past [] p n e = refl
part_past (x ∷ ls) zero n e = absurd cc
part_past (x ∷ ls) (suc p) n e = part_past ls p n e

pub ruleset parts = (part_there, part_past)

-- ---- slots

slot_first : (n : ℕ) (e : Entry) (es : List Entry) → slot_value n (entries_tree (e ∷ es)) ≡ (if e.slot == n then Some (value_tree e.value) else slot_value n (entries_tree es))
slot_first n e es = ap (slot_value n) (entries_split e (e ∷ es) es refl)

pub slot_other : (es : List Entry) (i n : ℕ) (e : Entry) (whole : Option ValueTree) → i < length es → e ≡ get_or es i e → (e.slot ≡ n → ⊥) → slot_value n (entries_tree (drop i es)) ≡ whole → slot_value n (entries_tree (drop (i + 1) es)) ≡ whole
slot_other es i n e whole within is ne h =
    sym (ap (λ b. if b then Some (value_tree e.value) else slot_value n (entries_tree (drop (i + 1) es))) (ne_eqb e.slot n ne))
    ∙ sym (slot_first n e (drop (i + 1) es)) ∙ sym (ap (λ x. slot_value n (entries_tree x)) (from_place es i e within is)) ∙ h

pub slot_here : (es : List Entry) (i n : ℕ) (e : Entry) (whole : Option ValueTree) → i < length es → e ≡ get_or es i e → e.slot ≡ n → slot_value n (entries_tree (drop i es)) ≡ whole → Some (value_tree e.value) ≡ whole
slot_here es i n e whole within is same h =
    sym (ap (λ b. if b then Some (value_tree e.value) else slot_value n (entries_tree (drop (i + 1) es))) (eq-eqb e.slot n same))
    ∙ sym (slot_first n e (drop (i + 1) es)) ∙ sym (ap (λ x. slot_value n (entries_tree x)) (from_place es i e within is)) ∙ h

pub slot_none : (es : List Entry) (i n : ℕ) (whole : Option ValueTree) → length es ≤ i → slot_value n (entries_tree (drop i es)) ≡ whole → None ≡ whole
slot_none es i n whole past h = sym (ap (λ x. slot_value n (entries_tree x)) (drop_all i es past)) ∙ h

pub ruleset slots = (slot_other, slot_here, slot_none)

-- ---- walks

pub at_end : (steps : List ℕ) (v : ValueTree) → steps ≡ [] → Some v ≡ value_at steps v
at_end steps v e = sym (ap (λ s. value_at s v) e)

pub into_group : (steps later : List ℕ) (n : ℕ) (v inner : ValueTree) (vs : ValuesTree) (o : Option ValueTree) → steps ≡ n ∷ later → v ≡ member_values vs → Some inner ≡ nth_value n vs → o ≡ value_at later inner → o ≡ value_at steps v
into_group steps later n v inner vs o e g found h = h ∙ ap (option_and_then (value_at later)) found ∙ sym (ap (λ s. value_at s v) e ∙ ap (value_at (n ∷ later)) g)

pub no_member : (steps later : List ℕ) (n : ℕ) (v : ValueTree) (vs : ValuesTree) → steps ≡ n ∷ later → v ≡ member_values vs → None ≡ nth_value n vs → None ≡ value_at steps v
no_member steps later n v vs e g none = ap (option_and_then (value_at later)) none ∙ sym (ap (λ s. value_at s v) e ∙ ap (value_at (n ∷ later)) g)

pub into_slot : (steps later : List ℕ) (n : ℕ) (v inner : ValueTree) (es : EntriesTree) (o : Option ValueTree) → steps ≡ n ∷ later → v ≡ marked es → Some inner ≡ slot_value n es → o ≡ value_at later inner → o ≡ value_at steps v
into_slot steps later n v inner es o e g found h = h ∙ ap (option_and_then (value_at later)) found ∙ sym (ap (λ s. value_at s v) e ∙ ap (value_at (n ∷ later)) g)

pub no_slot : (steps later : List ℕ) (n : ℕ) (v : ValueTree) (es : EntriesTree) → steps ≡ n ∷ later → v ≡ marked es → None ≡ slot_value n es → None ≡ value_at steps v
no_slot steps later n v es e g none = ap (option_and_then (value_at later)) none ∙ sym (ap (λ s. value_at s v) e ∙ ap (value_at (n ∷ later)) g)

pub parts_tree : (v : Value) (ls : List (List Value)) → v ≡ Extended ls → value_tree v ≡ part_values (lists_tree ls)
parts_tree v ls is = ap value_tree (is ∙ sym (rolls-Extended ls)) ∙ fold-roll-Value ValueTree (ℕ × ValueTree) value_step entry_step (Value-F.Extended ls)

pub into_part : (steps below later : List ℕ) (p i : ℕ) (v inner : ValueTree) (ls : ListsTree) (o : Option ValueTree) → steps ≡ p ∷ below → below ≡ i ∷ later → v ≡ part_values ls → Some inner ≡ nth_value i (nth_list p ls) → o ≡ value_at later inner → o ≡ value_at steps v
into_part steps below later p i v inner ls o e f g found h =
    h ∙ ap (option_and_then (value_at later)) found ∙ sym (ap (λ s. value_at s v) (e ∙ ap (λ b. p ∷ b) f) ∙ ap (value_at (p ∷ i ∷ later)) g)

pub no_part : (steps below later : List ℕ) (p i : ℕ) (v : ValueTree) (ls : ListsTree) → steps ≡ p ∷ below → below ≡ i ∷ later → v ≡ part_values ls → None ≡ nth_value i (nth_list p ls) → None ≡ value_at steps v
no_part steps below later p i v ls e f g none = ap (option_and_then (value_at later)) none ∙ sym (ap (λ s. value_at s v) (e ∙ ap (λ b. p ∷ b) f) ∙ ap (value_at (p ∷ i ∷ later)) g)

pub one_step : (steps below : List ℕ) (p : ℕ) (v : ValueTree) (ls : ListsTree) → steps ≡ p ∷ below → below ≡ [] → v ≡ part_values ls → None ≡ value_at steps v
one_step steps below p v ls e f g = sym (ap (λ s. value_at s v) (e ∙ ap (λ b. p ∷ b) f) ∙ ap (value_at (p ∷ [])) g)

pub ruleset walks = (at_end, into_group, no_member, into_slot, no_slot, into_part, no_part, one_step)

-- ---- records

pub in_item : (steps : List ℕ) (frn : ℕ) (inner : ValueTree) (es : EntriesTree) (o : Option ValueTree) → Some inner ≡ slot_value frn es → o ≡ value_at steps inner → o ≡ value_at (frn ∷ steps) (marked es)
in_item steps frn inner es o found h = h ∙ ap (option_and_then (value_at steps)) found

pub no_item : (steps : List ℕ) (frn : ℕ) (es : EntriesTree) → None ≡ slot_value frn es → None ≡ value_at (frn ∷ steps) (marked es)
no_item steps frn es none = ap (option_and_then (value_at steps)) none

pub ruleset records = (in_item, no_item)

pub present : (o : Option Value) (v : Option ValueTree) → option_map value_tree o ≡ v → is_some o ≡ is_some v
present None v e = ap is_some e
present (Some x) v e = ap is_some e

pub ruleset presence = present

-- ---- numbers

pub number_there : (v : ValueTree) (n : ℕ) (o : Option ValueTree) → v ≡ number n → Some v ≡ o → Some n ≡ option_and_then number_of_value o
number_there v n o is h = sym (ap number_of_value is) ∙ ap (option_and_then number_of_value) h

pub none_there : (o : Option ValueTree) → None ≡ o → None ≡ option_and_then number_of_value o
none_there o h = ap (option_and_then number_of_value) h

pub ruleset numbers = (number_there, none_there)
