-- The ways out of the functions that list kinds.
use Rattle.std.proofs.Common.{◌≡◌, ℕ, suc, ◌+◌, ◌<◌, ◌≤◌, List, [], ◌∷◌, length, drop, get_or, map, codes, refl, sym, ◌∙◌, ap, subst, add-one}
use Rattle.std.specs.List.{AllByRecursion}
use Rattle.std.proofs.lemmas.List.{drop_all}
use Rattle.ax_format.specs.Fitting.{list_count}
use Rattle.ax_format.specs.Plain.{part_tree, value_tree, values_tree, lists_tree, entries_tree}
use Rattle.ax_format.specs.Shape.{MembersShape, PartsShape, EachShape}
use Rattle.ax_format.specs.Tree.{FixedTree, MembersTree, KindTree, SlotsTree, by_fx, compound, ListsTree, no_lists, list_and, ValueTree, value_count, occurrences, marked}
use Rattle.ax_format.specs.declared.kind.Part.{Part}
use Rattle.ax_format.specs.declared.value.Entry.{Entry}
use Rattle.ax_format.specs.declared.value.Value.{Value}
use Rattle.ax_text_form.specs.Listable.{MembersListable}
use Rattle.ax_text_form.specs.Printing.{as_lines, Puts}
use Rattle.ax_text_form.specs.ShowText.{count_line, fixed_lines, members_lines, parts_lines, each_lines, occurrence, entry_count, kind_lines, entries_lines}
use Rattle.ax_text_form.specs.ValueText.{Texts, one_onto}
use Rattle.ax_text_form.proofs.EntryWays.{entry_tree_first, entry_shape, entry_next, entries_ended}
use Rattle.ax_text_form.proofs.ListedKinds.{slot_listable}
use Rattle.ax_text_form.proofs.FixedWays.{empty}
use Rattle.ax_text_form.proofs.Printed.{none_put, both_put, Leaves, leaves_all, leaves_fewer, leaves_none, from_place}

-- ---- counts

list_count_is : (ls : List (List Value)) → list_count (lists_tree ls) ≡ length ls
list_count_is [] = refl
list_count_is (vs ∷ ls) = ap (λ n. n + 1) (list_count_is ls) ∙ add-one (length ls)

value_count_is : (vs : List Value) → value_count (values_tree vs) ≡ length vs
value_count_is [] = refl
value_count_is (v ∷ vs) = ap suc (value_count_is vs)

entry_count_is : (es : List Entry) → entry_count (entries_tree es) ≡ length es
entry_count_is [] = refl
entry_count_is (e ∷ es) = ap entry_count (entry_tree_first e es) ∙ ap (λ n. n + 1) (entry_count_is es) ∙ add-one (length es)

counted_put : (path word : List ℕ) (n m : ℕ) (onto : Texts → Texts) (a b c : List ℕ) → n ≡ m → Puts as_lines (one_onto (count_line path word n)) a b → Puts as_lines onto b c → Puts as_lines (λ rest. count_line path word m ∷ onto rest) a c
counted_put path word n m onto a b c e p q = subst (λ n. Puts as_lines (λ rest. count_line path word n ∷ onto rest) a c) e (both_put (one_onto (count_line path word n)) onto a b c p q)

pub extended_put : (path : List ℕ) (ps : List Part) (ls : List (List Value)) (n : ℕ) (a b c : List ℕ) → n ≡ length ls → Puts as_lines (one_onto (count_line path (codes "parts") n)) a b → Puts as_lines (parts_lines (map part_tree ps) path (lists_tree ls)) b c
    → Puts as_lines (λ rest. count_line path (codes "parts") (list_count (lists_tree ls)) ∷ parts_lines (map part_tree ps) path (lists_tree ls) rest) a c
extended_put path ps ls n a b c e p q = counted_put path (codes "parts") n (list_count (lists_tree ls)) (parts_lines (map part_tree ps) path (lists_tree ls)) a b c (e ∙ sym (list_count_is ls)) p q

pub counted_lines : (path : List ℕ) (k : KindTree) (vs : List Value) (n : ℕ) (a b c : List ℕ) → n ≡ length vs → Puts as_lines (one_onto (count_line path (codes "occurrences") n)) a b → Puts as_lines (each_lines (kind_lines k) path 0 (values_tree vs)) b c
    → Puts as_lines (λ rest. count_line path (codes "occurrences") (value_count (values_tree vs)) ∷ each_lines (kind_lines k) path 0 (values_tree vs) rest) a c
counted_lines path k vs n a b c e p q = counted_put path (codes "occurrences") n (value_count (values_tree vs)) (each_lines (kind_lines k) path 0 (values_tree vs)) a b c (e ∙ sym (value_count_is vs)) p q

pub run_lines : (path : List ℕ) (f : FixedTree) (vs : List Value) (n : ℕ) (a b c : List ℕ) → n ≡ length vs → Puts as_lines (one_onto (count_line path (codes "occurrences") n)) a b → Puts as_lines (each_lines (fixed_lines f) path 0 (values_tree vs)) b c
    → Puts as_lines (kind_lines (by_fx f) path (occurrences (values_tree vs))) a c
run_lines path f vs n a b c e p q = counted_put path (codes "occurrences") n (value_count (values_tree vs)) (each_lines (fixed_lines f) path 0 (values_tree vs)) a b c (e ∙ sym (value_count_is vs)) p q

pub compound_put : (path : List ℕ) (ss : SlotsTree) (es : List Entry) (n : ℕ) (a b c : List ℕ) → n ≡ length es → Puts as_lines (one_onto (count_line path (codes "subitems") n)) a b → Puts as_lines (entries_lines path 1 ss (entries_tree es)) b c
    → Puts as_lines (kind_lines (compound ss) path (marked (entries_tree es))) a c
compound_put path ss es n a b c e p q = counted_put path (codes "subitems") n (entry_count (entries_tree es)) (entries_lines path 1 ss (entries_tree es)) a b c (e ∙ sym (entry_count_is es)) p q

pub ruleset counted_ways = counted_lines

pub ruleset compound_ways = compound_put

-- ---- parts

-- each list has its part's shape
abbrev pub ListsFit : List MembersTree → ListsTree → Type 0
ListsFit (p ∷ ps) (list_and vs ls) = MembersShape p vs × ListsFit ps ls
ListsFit _ _ = Unit {0}

no_list_fits : (ps : List MembersTree) → ListsFit ps no_lists
no_list_fits [] = tt
no_list_fits (p ∷ ps) = tt

lists_fit : (ps : List MembersTree) (ls : ListsTree) → PartsShape ps ls → ListsFit ps ls
lists_fit ps no_lists h = absurd h
lists_fit [] (list_and vs ls) h = absurd h
lists_fit (p ∷ ps) (list_and vs no_lists) h = (h, no_list_fits ps)
lists_fit (p ∷ ps) (list_and vs (list_and ws ls)) h = (h.0, lists_fit ps (list_and ws ls) h.1)

-- parts and lists that are left
pub record PartsLeft (path : List ℕ) (whole : Texts → Texts) (old now : List ℕ) (ps : List Part) (ls : List (List Value)) : Type 0 where
  pub listable : AllByRecursion MembersListable (map part_tree ps)
  pub shape : ListsFit (map part_tree ps) (lists_tree ls)
  pub left : Leaves as_lines whole (parts_lines (map part_tree ps) path (lists_tree ls)) old now

pub parts_first : (path : List ℕ) (ps left : List Part) (ls right : List (List Value)) (out : List ℕ) → left ≡ ps → right ≡ ls → AllByRecursion MembersListable (map part_tree ps) → PartsShape (map part_tree ps) (lists_tree ls)
    → PartsLeft path (parts_lines (map part_tree ps) path (lists_tree ls)) out out left right
parts_first path ps left ls right out e f l h =
    subst (λ left. PartsLeft path (parts_lines (map part_tree ps) path (lists_tree ls)) out out left right) (sym e)
    (subst (λ right. PartsLeft path (parts_lines (map part_tree ps) path (lists_tree ls)) out out ps right) (sym f)
    (record { listable = l; shape = lists_fit (map part_tree ps) (lists_tree ls) h; left = leaves_all (parts_lines (map part_tree ps) path (lists_tree ls)) out }))

at_first : (path : List ℕ) (whole : Texts → Texts) (old now : List ℕ) (p : Part) (left ps : List Part) (vs : List Value) (right ls : List (List Value)) → PartsLeft path whole old now left right → left ≡ p ∷ ps → right ≡ vs ∷ ls → PartsLeft path whole old now (p ∷ ps) (vs ∷ ls)
at_first path whole old now p left ps vs right ls h e f = subst (λ right. PartsLeft path whole old now (p ∷ ps) right) f (subst (λ left. PartsLeft path whole old now left right) e h)

pub part_listable : (path : List ℕ) (whole : Texts → Texts) (old now : List ℕ) (p : Part) (left ps : List Part) (vs : List Value) (right ls : List (List Value)) → PartsLeft path whole old now left right → left ≡ p ∷ ps → right ≡ vs ∷ ls → MembersListable (part_tree p)
part_listable path whole old now p left ps vs right ls h e f = (at_first path whole old now p left ps vs right ls h e f).listable.0

pub part_shape : (path : List ℕ) (whole : Texts → Texts) (old now : List ℕ) (p : Part) (left ps : List Part) (vs : List Value) (right ls : List (List Value)) → PartsLeft path whole old now left right → left ≡ p ∷ ps → right ≡ vs ∷ ls → MembersShape (part_tree p) (values_tree vs)
part_shape path whole old now p left ps vs right ls h e f = (at_first path whole old now p left ps vs right ls h e f).shape.0

pub part_next : (path : List ℕ) (whole : Texts → Texts) (old now new : List ℕ) (p : Part) (left ps : List Part) (vs : List Value) (right ls : List (List Value)) → PartsLeft path whole old now left right → left ≡ p ∷ ps → right ≡ vs ∷ ls
    → Puts as_lines (members_lines (part_tree p) path (values_tree vs)) now new → PartsLeft path whole old new ps ls
part_next path whole old now new p left ps vs right ls h e f w =
    let t = at_first path whole old now p left ps vs right ls h e f in record {
      listable = t.listable.1;
      shape = t.shape.1;
      left = leaves_fewer whole (parts_lines (part_tree p ∷ map part_tree ps) path (lists_tree (vs ∷ ls))) (members_lines (part_tree p) path (values_tree vs)) (parts_lines (map part_tree ps) path (lists_tree ls)) old now new t.left (λ rest. refl) w;
    }

no_list_left : (path : List ℕ) (ps : List MembersTree) (rest : Texts) → parts_lines ps path no_lists rest ≡ rest
no_list_left path [] rest = refl
no_list_left path (p ∷ ps) rest = refl

pub parts_ended : (path : List ℕ) (whole : Texts → Texts) (old now : List ℕ) (ps : List Part) (ls : List (List Value)) → PartsLeft path whole old now ps ls → length ps ≡ 0 → Puts as_lines whole old now
parts_ended path whole old now ps ls h e = leaves_none whole (parts_lines (map part_tree ps) path (lists_tree ls)) old now h.left (λ rest. ap (λ ps. parts_lines (map part_tree ps) path (lists_tree ls) rest) (empty ps e))

pub lists_ended : (path : List ℕ) (whole : Texts → Texts) (old now : List ℕ) (ps : List Part) (ls : List (List Value)) → PartsLeft path whole old now ps ls → length ls ≡ 0 → Puts as_lines whole old now
lists_ended path whole old now ps ls h e =
    leaves_none whole (parts_lines (map part_tree ps) path (lists_tree ls)) old now h.left (λ rest. ap (λ ls. parts_lines (map part_tree ps) path (lists_tree ls) rest) (empty ls e) ∙ no_list_left path (map part_tree ps) rest)

pub ruleset parts_ways = (part_listable, part_shape, parts_ended, lists_ended)

-- ---- occurrences

abbrev pub OfValue : Type 0
OfValue = List ℕ → ValueTree → Texts → Texts

-- occurrences that are left, each of a shape; the first of them has the number i
pub record EachLeft (R : ValueTree → Type 0) (lines : OfValue) (path : List ℕ) (whole : Texts → Texts) (old now : List ℕ) (i : ℕ) (vs : List Value) : Type 0 where
  pub shape : EachShape R (values_tree vs)
  pub left : Leaves as_lines whole (each_lines lines path i (values_tree vs)) old now

pub each_first : (R : ValueTree → Type 0) (lines : OfValue) (path : List ℕ) (vs : List Value) (out : List ℕ) → EachShape R (values_tree vs) → EachLeft R lines path (each_lines lines path 0 (values_tree vs)) out out 0 vs
each_first R lines path vs out h = record { shape = h; left = leaves_all (each_lines lines path 0 (values_tree vs)) out }

module _ (R : ValueTree → Type 0) (lines : OfValue) (path : List ℕ) (whole : Texts → Texts) (old now : List ℕ) (i : ℕ) (all : List Value) where
  each_here : (v : Value) → EachLeft R lines path whole old now i (drop i all) → i < length all → v ≡ get_or all i v → EachLeft R lines path whole old now i (v ∷ drop (i + 1) all)
  each_here v h lt e = subst (λ vs. EachLeft R lines path whole old now i vs) (from_place all i v lt e) h

  pub each_shape : (v : Value) → EachLeft R lines path whole old now i (drop i all) → i < length all → v ≡ get_or all i v → R (value_tree v)
  each_shape v h lt e = (each_here v h lt e).shape.0

  pub each_next : (v : Value) (inner new : List ℕ) → EachLeft R lines path whole old now i (drop i all) → i < length all → v ≡ get_or all i v → inner ≡ occurrence path i → Puts as_lines (lines inner (value_tree v)) now new
      → EachLeft R lines path whole old new (i + 1) (drop (i + 1) all)
  each_next v inner new h lt e is p =
      let t = each_here v h lt e in
      let later = drop (i + 1) all in record {
        shape = t.shape.1;
        left = leaves_fewer whole (each_lines lines path i (values_tree (v ∷ later))) (lines (occurrence path i) (value_tree v)) (each_lines lines path (i + 1) (values_tree later)) old now new t.left (λ rest. refl)
            (subst (λ inner. Puts as_lines (lines inner (value_tree v)) now new) is p);
      }

  pub each_ended : EachLeft R lines path whole old now i (drop i all) → length all ≤ i → Puts as_lines whole old now
  each_ended h past = leaves_none whole (each_lines lines path i (values_tree (drop i all))) old now h.left (λ rest. ap (λ vs. each_lines lines path i (values_tree vs) rest) (drop_all i all past))

pub ruleset each_ways = (each_first, each_shape, each_next, each_ended)

-- ---- entries

pub ruleset entry_ways = none_put

pub ruleset entries_ways = (entry_shape, entry_next, entries_ended, slot_listable)
