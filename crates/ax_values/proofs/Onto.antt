-- Lists that were made so far, in front of what is still read.
use Rattle.std.proofs.Common.{◌≡◌, ℕ, List, [], ◌∷◌, ◌++◌, map, refl, ap}
use Rattle.ax_format.specs.Plain.{value_tree, value_list, values_tree}
use Rattle.ax_format.specs.Tree.{ValueTree, ValuesTree, no_values, value_and, values_of, ListsTree, no_lists, list_and, lists_of, EntriesTree, no_entries, entry_and, entries_of}
use Rattle.ax_format.specs.declared.value.Value.{Value}

abbrev pub values_onto : List ValueTree → ValuesTree → ValuesTree
values_onto [] vs = vs
values_onto (v ∷ made) vs = value_and v (values_onto made vs)

pub values_onto_none : (made : List ValueTree) → values_onto made no_values ≡ values_of made
values_onto_none [] = refl
values_onto_none (v ∷ made) = ap (λ vs. value_and v vs) (values_onto_none made)

pub values_onto_more : (made : List Value) (v : Value) (vs : ValuesTree) → values_onto (map value_tree (made ++ v ∷ [])) vs ≡ values_onto (map value_tree made) (value_and (value_tree v) vs)
values_onto_more [] v vs = refl
values_onto_more (w ∷ made) v vs = ap (λ us. value_and (value_tree w) us) (values_onto_more made v vs)

abbrev pub lists_onto : List (List ValueTree) → ListsTree → ListsTree
lists_onto [] ls = ls
lists_onto (vs ∷ made) ls = list_and (values_of vs) (lists_onto made ls)

pub lists_onto_none : (made : List (List ValueTree)) → lists_onto made no_lists ≡ lists_of made
lists_onto_none [] = refl
lists_onto_none (vs ∷ made) = ap (λ ls. list_and (values_of vs) ls) (lists_onto_none made)

pub lists_onto_more : (made : List (List Value)) (vs : List Value) (ls : ListsTree) → lists_onto (map value_list (made ++ vs ∷ [])) ls ≡ lists_onto (map value_list made) (list_and (values_tree vs) ls)
lists_onto_more [] vs ls = refl
lists_onto_more (ws ∷ made) vs ls = ap (λ ks. list_and (values_tree ws) ks) (lists_onto_more made vs ls)

abbrev pub entries_onto : List (ℕ × ValueTree) → EntriesTree → EntriesTree
entries_onto [] es = es
entries_onto (e ∷ made) es = entry_and e.0 e.1 (entries_onto made es)

pub entries_onto_none : (made : List (ℕ × ValueTree)) → entries_onto made no_entries ≡ entries_of made
entries_onto_none [] = refl
entries_onto_none (e ∷ made) = ap (λ es. entry_and e.0 e.1 es) (entries_onto_none made)

pub entries_onto_more : (made : List (ℕ × ValueTree)) (t : ℕ) (v : ValueTree) (es : EntriesTree) → entries_onto (made ++ (t, v) ∷ []) es ≡ entries_onto made (entry_and t v es)
entries_onto_more [] t v es = refl
entries_onto_more (e ∷ made) t v es = ap (λ us. entry_and e.0 e.1 us) (entries_onto_more made t v es)
