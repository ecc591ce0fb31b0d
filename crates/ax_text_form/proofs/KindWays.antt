-- The ways out of the functions that print kinds.
use Rattle.std.proofs.Common.{◌≡◌, ℕ, ◌+◌, ◌<◌, ◌≤◌, List, [], ◌∷◌, length, drop, get_or, map, refl, ◌∙◌, ap, subst}
use Rattle.std.proofs.lemmas.List.{drop_all}
use Rattle.ax_format.specs.Plain.{part_tree, value_tree, values_tree, lists_tree}
use Rattle.ax_format.specs.Shape.{EachShape}
use Rattle.ax_format.specs.Tree.{MembersTree, no_lists, ValueTree, ValuesTree}
use Rattle.ax_format.specs.declared.kind.Part.{Part}
use Rattle.ax_format.specs.declared.value.Value.{Value}
use Rattle.ax_text_form.specs.Printing.{after_spaces, Puts}
use Rattle.ax_text_form.specs.ValueText.{Texts, part_word, opening, closing, one_onto, in_braces, members_onto, part_onto, parts_onto, each_onto}
use Rattle.ax_text_form.proofs.FixedWays.{empty}
use Rattle.ax_text_form.proofs.Printed.{none_put, both_put, braces_put, Leaves, leaves_all, leaves_fewer, leaves_none, from_place}

pub part_put : (p : MembersTree) (vs : ValuesTree) (a b c d e : List ℕ) → Puts after_spaces (one_onto part_word) a b → Puts after_spaces (one_onto opening) b c → Puts after_spaces (members_onto p vs) c d → Puts after_spaces (one_onto closing) d e → Puts after_spaces (part_onto p vs) a e
part_put p vs a b c d e f g h k = both_put (one_onto part_word) (in_braces (members_onto p vs)) a b e f (braces_put (members_onto p vs) b c d e g h k)

pub ruleset kind_ways = (none_put, braces_put)

-- ---- parts

abbrev pub some_parts : List Part → List (List Value) → Texts → Texts
some_parts ps ls = parts_onto (map part_tree ps) (lists_tree ls)

pub parts_first : (ps : List Part) (ls : List (List Value)) (out : List ℕ) → Leaves after_spaces (some_parts ps ls) (some_parts ps ls) out out
parts_first ps ls out = leaves_all (some_parts ps ls) out

no_list_left : (ps : List MembersTree) (rest : Texts) → parts_onto ps no_lists rest ≡ rest
no_list_left [] rest = refl
no_list_left (p ∷ ps) rest = refl

pub parts_ended : (whole : Texts → Texts) (old now : List ℕ) (ps : List Part) (ls : List (List Value)) → Leaves after_spaces whole (some_parts ps ls) old now → length ps ≡ 0 → Puts after_spaces whole old now
parts_ended whole old now ps ls h e = leaves_none whole (some_parts ps ls) old now h (λ rest. ap (λ ps. some_parts ps ls rest) (empty ps e))

pub lists_ended : (whole : Texts → Texts) (old now : List ℕ) (ps : List Part) (ls : List (List Value)) → Leaves after_spaces whole (some_parts ps ls) old now → length ls ≡ 0 → Puts after_spaces whole old now
lists_ended whole old now ps ls h e = leaves_none whole (some_parts ps ls) old now h (λ rest. ap (λ ls. some_parts ps ls rest) (empty ls e) ∙ no_list_left (map part_tree ps) rest)

pub ruleset parts_ways = (parts_first, parts_ended, lists_ended)

-- ---- occurrences

-- values that are left, each of a shape
pub record EachLeft (R : ValueTree → Type 0) (onto : ValueTree → Texts → Texts) (whole : Texts → Texts) (old now : List ℕ) (vs : List Value) : Type 0 where
  pub shape : EachShape R (values_tree vs)
  pub left : Leaves after_spaces whole (each_onto onto (values_tree vs)) old now

pub each_first : (R : ValueTree → Type 0) (onto : ValueTree → Texts → Texts) (vs : List Value) (out : List ℕ) → EachShape R (values_tree vs) → EachLeft R onto (each_onto onto (values_tree vs)) out out vs
each_first R onto vs out h = record { shape = h; left = leaves_all (each_onto onto (values_tree vs)) out }

each_here : (R : ValueTree → Type 0) (onto : ValueTree → Texts → Texts) (whole : Texts → Texts) (old now : List ℕ) (all : List Value) (i : ℕ) (v : Value) → EachLeft R onto whole old now (drop i all) → i < length all → v ≡ get_or all i v
    → EachLeft R onto whole old now (v ∷ drop (i + 1) all)
each_here R onto whole old now all i v h lt e = subst (λ vs. EachLeft R onto whole old now vs) (from_place all i v lt e) h

pub each_shape : (R : ValueTree → Type 0) (onto : ValueTree → Texts → Texts) (whole : Texts → Texts) (old now : List ℕ) (all : List Value) (i : ℕ) (v : Value) → EachLeft R onto whole old now (drop i all) → i < length all → v ≡ get_or all i v → R (value_tree v)
each_shape R onto whole old now all i v h lt e = (each_here R onto whole old now all i v h lt e).shape.0

pub each_next : (R : ValueTree → Type 0) (onto : ValueTree → Texts → Texts) (whole : Texts → Texts) (old now new : List ℕ) (all : List Value) (i : ℕ) (v : Value) → EachLeft R onto whole old now (drop i all) → i < length all → v ≡ get_or all i v
    → Puts after_spaces (onto (value_tree v)) now new → EachLeft R onto whole old new (drop (i + 1) all)
each_next R onto whole old now new all i v h lt e p =
    let t = each_here R onto whole old now all i v h lt e in
    let later = drop (i + 1) all in
    record { shape = t.shape.1; left = leaves_fewer whole (each_onto onto (values_tree (v ∷ later))) (onto (value_tree v)) (each_onto onto (values_tree later)) old now new t.left (λ rest. refl) p }

pub each_ended : (R : ValueTree → Type 0) (onto : ValueTree → Texts → Texts) (whole : Texts → Texts) (old now : List ℕ) (all : List Value) (i : ℕ) → EachLeft R onto whole old now (drop i all) → length all ≤ i → Puts after_spaces whole old now
each_ended R onto whole old now all i h past = leaves_none whole (each_onto onto (values_tree (drop i all))) old now h.left (λ rest. ap (λ vs. each_onto onto (values_tree vs) rest) (drop_all i all past))

abbrev pub anything : ValueTree → Type 0
anything v = Unit {0}

pub each_anything : (vs : List Value) → EachShape anything (values_tree vs)
each_anything [] = tt
each_anything (v ∷ vs) = (tt, each_anything vs)

pub ruleset each_ways = (each_first, each_shape, each_next, each_ended)

pub ruleset run_ways = (each_first, each_next, each_ended, each_anything)
