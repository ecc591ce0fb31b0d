-- The first lists of a value, copied one at a time.
use Rattle.std.proofs.Common.{◌≡◌, ℕ, zero, suc, ◌+◌, ◌<◌, ◌≤◌, ◌⊎◌, inl, inr, nat_lt, List, [], ◌∷◌, ◌++◌, length, take, get_or, Option, Some, refl, sym, ◌∙◌, ap, arith}
use Rattle.std.proofs.lemmas.Bool.{cases_lt}
use Rattle.std.proofs.lemmas.List.{take_more, take_all}
use Rattle.ax_relation.specs.Moved.{first_lists}
use Rattle.ax_format.proofs.VariantTrees.{lists_value as extended_value}
use Rattle.ax_format.specs.Placed.{has_part}
use Rattle.ax_format.specs.Fitting.{list_count}
use Rattle.ax_format.specs.Plain.{value_tree, value_list, lists_tree}
use Rattle.ax_format.specs.Tree.{ValueTree, part_values, list_and, values_of}
use Rattle.ax_format.specs.declared.value.Value.{Value}
use Rattle.ax_format.specs.declared.value.Value.TheVariants.{Extended}

taken : (n : ℕ) (ls : List (List Value)) → lists_tree (take n ls) ≡ first_lists n (lists_tree ls)
taken zero ls = refl
taken (suc n) [] = refl
taken (suc n) (l ∷ ls) = λ i. list_and (values_of (value_list l)) (taken n ls i)

-- all of them, where they are no more
all_taken : (n : ℕ) (ls : List (List Value)) → length ls ≤ n → lists_tree ls ≡ first_lists n (lists_tree ls)
all_taken zero [] h = refl
all_taken zero (l ∷ ls) h = absurd (omega arith)
all_taken (suc n) [] h = refl
all_taken (suc n) (l ∷ ls) h = λ i. list_and (values_of (value_list l)) (all_taken n ls (omega arith) i)

take_length : (i : ℕ) (ls : List (List Value)) → i ≤ length ls → length (take i ls) ≡ i
take_length zero ls h = refl
take_length (suc i) [] h = absurd (omega arith)
take_length (suc i) (l ∷ ls) h = ap suc (take_length i ls (omega arith))

pub firsts_cut : (n i : ℕ) (ls made : List (List Value)) → made ≡ take i ls → length made ≡ n → i < length ls → lists_tree made ≡ first_lists n (lists_tree ls)
firsts_cut n i ls made e l h =
    let size = take_length i ls (omega arith) in
    let same : i ≡ n = omega (arith, size, l, ap length e) in ap lists_tree (e ∙ ap (λ m. take m ls) same) ∙ taken n ls

-- one list more, where there are fewer yet
pub firsts_more : (n i r : ℕ) (ls made : List (List Value)) → made ≡ take i ls → r ≡ length made → (r ≡ n → ⊥) → i < length ls → i ≤ n → i + 1 ≤ n
firsts_more n i r ls made e size not h within = by (cases_lt i n)
  where
    by : (i < n) ⊎ (n ≤ i) → i + 1 ≤ n
    by (inl l) = omega arith
    by (inr l) = absurd (not (omega (arith, size, ap length e, take_length i ls (omega arith))))

pub firsts_next : (i : ℕ) (ls : List (List Value)) (item : List Value) (made new : List (List Value)) (copy : List Value) → made ≡ take i ls → new ≡ made ++ copy ∷ [] → copy ≡ item → i < length ls → item ≡ get_or ls i item → new ≡ take (i + 1) ls
firsts_next i ls item made new copy m e c h is = e ∙ (λ j. m j ++ c j ∷ []) ∙ ap (λ x. take i ls ++ x ∷ []) is ∙ sym (take_more ls i item h)

pub firsts_all : (n i : ℕ) (ls made : List (List Value)) → made ≡ take i ls → i ≤ n → length ls ≤ i → lists_tree made ≡ first_lists n (lists_tree ls)
firsts_all n i ls made e within past = ap lists_tree (e ∙ take_all i ls past) ∙ all_taken n ls (omega arith)

-- ---- how many lists there are

count_is : (ls : List (List Value)) → length ls ≡ list_count (lists_tree ls)
count_is [] = refl
count_is (l ∷ ls) = let h = count_is ls in omega arith

pub has_part_is : (i : ℕ) (part : Option ℕ) (v : ValueTree) (ls : List (List Value)) → part ≡ Some i → v ≡ part_values (lists_tree ls) → nat_lt i (length ls) ≡ has_part part v
has_part_is i part v ls p is = ap (nat_lt i) (count_is ls) ∙ (λ j. has_part (sym p j) (sym is j))

pub lists_value : (value : Value) (lists : List (List Value)) → value ≡ Extended lists → value_tree value ≡ part_values (lists_tree lists)
lists_value value lists e = ap value_tree e ∙ extended_value lists
