-- What two extended items have in common, and the first lists of a value.
use Rattle.std.proofs.Common.{Bool, List, None, Option, Some, [], ap, arith, cond, false, length, length-append, map, nat_lt, refl, subst, suc, sym, take, true, zero, ℕ, ◌%◌, ◌++◌, ◌+◌, ◌∙◌, ◌∷◌, ◌≡◌, ◌≤◌}
use Rattle.std.proofs.lemmas.Bool.{le-ltb, lt-ltb, ltb-false, ltb-true}
use Rattle.ax_bits.proofs.Words.{length-word}
use Rattle.ax_bits.specs.Bits.{word}
use Rattle.ax_relation.proofs.SameKinds.{members_are, members_same}
use Rattle.ax_relation.proofs.SameShape.{members_bits, members_shape, members_spelling}
use Rattle.ax_format.specs.Same.{are_same_members, common, emptied_members}
use Rattle.ax_format.specs.Migrated.{kept_where}
use Rattle.ax_relation.specs.Moved.{first_lists}
use Rattle.ax_format.specs.Named.{NamedEntry, part_entry, part_leaf}
use Rattle.ax_format.specs.Canonical.{members_canon, parts_canon}
use Rattle.ax_format.specs.Shape.{MembersShape, PartsShape}
use Rattle.ax_format.specs.Whole.{PartsWhole}
use Rattle.ax_format.specs.Widths.{fx_width, members_width}
use Rattle.ax_format.specs.declared.kind.LastPart.{LastPart}
use Rattle.ax_format.specs.declared.kind.LastPart.TheVariants.{WithFx, WithoutFx}
use Rattle.ax_format.specs.Tree.{ListsTree, MembersTree, ValuesTree, list_and, no_lists}

pub kept_none : (b : Bool) → kept_where b None ≡ None
kept_none true = refl
kept_none false = refl

-- ---- numbers

pub none_below_none : (i : ℕ) → nat_lt i 0 ≡ false
none_below_none i = le-ltb i 0 (omega arith)

pub same_test : (i c : ℕ) → nat_lt i c ≡ nat_lt (suc i) (suc c)
same_test i c = by (nat_lt i c) refl
  where
    by : (b : Bool) → nat_lt i c ≡ b → nat_lt i c ≡ nat_lt (suc i) (suc c)
    by true e = let h = ltb-true i c e in e ∙ sym (lt-ltb (suc i) (suc c) (omega arith))
    by false e = let h = ltb-false i c e in e ∙ sym (le-ltb (suc i) (suc c) (omega arith))

-- ---- the entries of parts

no_part : (i : ℕ) (qs : List MembersTree) → part_entry i qs no_lists ≡ None
no_part i [] = refl
no_part i (q ∷ qs) = refl

none_kept : (i : ℕ) (entry : Option NamedEntry) → None ≡ kept_where (nat_lt i 0) entry
none_kept i entry = sym (ap (λ b. kept_where b entry) (none_below_none i))

-- the parts in common have the same entries in both, and no other is left
pub part_kept : (i : ℕ) (ps qs : List MembersTree) (ls : ListsTree) → part_entry i qs (first_lists (common ps qs) ls) ≡ kept_where (nat_lt i (common ps qs)) (part_entry i ps ls)
part_kept i [] qs ls = no_part i qs ∙ sym (kept_none (nat_lt i 0))
part_kept i (p ∷ ps) [] ls = none_kept i (part_entry i (p ∷ ps) ls)
part_kept i (p ∷ ps) (q ∷ qs) ls = by (are_same_members p q) refl i ls (λ j ms. part_kept j ps qs ms)
  where
    by : (b : Bool) → are_same_members p q ≡ b → (i : ℕ) (ls : ListsTree) → ((j : ℕ) (ms : ListsTree) → part_entry j qs (first_lists (common ps qs) ms) ≡ kept_where (nat_lt j (common ps qs)) (part_entry j ps ms))
        → part_entry i (q ∷ qs) (first_lists (cond b (suc (common ps qs)) 0) ls) ≡ kept_where (nat_lt i (cond b (suc (common ps qs)) 0)) (part_entry i (p ∷ ps) ls)
    by true e i no_lists later = sym (kept_none (nat_lt i (suc (common ps qs))))
    by true e zero (list_and vs ls) later =
        ap (λ m. Some (part_leaf m vs)) (sym (members_are p q e)) ∙ sym (ap (λ b. kept_where b (Some (part_leaf (emptied_members p) vs))) (lt-ltb 0 (suc (common ps qs)) (omega arith)))
    by true e (suc i) (list_and vs ls) later = later i ls ∙ ap (λ b. kept_where b (part_entry i ps ls)) (same_test i (common ps qs))
    by false e i ls later = none_kept i (part_entry i (p ∷ ps) ls)

-- ---- their shape

same_members_shape : (p q : MembersTree) (vs : ValuesTree) → are_same_members p q ≡ true → MembersShape p vs → MembersShape q vs
same_members_shape p q vs e h =
    let Q : Type 0 → Type 0 = λ t. t in
    let R : MembersTree → Type 0 = λ x. MembersShape x vs in subst Q (members_shape q vs) (subst R (members_are p q e) (subst Q (sym (members_shape p vs)) h))

-- the first lists of a value have the shape of the other item's parts, where there is a part in common
pub first_shape : (ps qs : List MembersTree) (ls : ListsTree) → nat_lt 0 (common ps qs) ≡ true → PartsShape ps ls → PartsShape qs (first_lists (common ps qs) ls)
first_shape [] qs ls some h = cc
first_shape (p ∷ ps) [] ls some h = cc
first_shape (p ∷ ps) (q ∷ qs) no_lists some h = absurd h
first_shape (p ∷ ps) (q ∷ qs) (list_and vs no_lists) some h = by (are_same_members p q) refl some
  where
    none : (n : ℕ) → first_lists n no_lists ≡ no_lists
    none zero = refl
    none (suc n) = refl

    by : (b : Bool) → are_same_members p q ≡ b → nat_lt 0 (cond b (suc (common ps qs)) 0) ≡ true → PartsShape (q ∷ qs) (first_lists (cond b (suc (common ps qs)) 0) (list_and vs no_lists))
    by true e some =
        let P : ListsTree → Type 0 = λ x. PartsShape (q ∷ qs) (list_and vs x) in subst P (sym (none (common ps qs))) (same_members_shape p q vs e h)
    by false e some = cc
first_shape (p ∷ ps) (q ∷ qs) (list_and vs (list_and ws ls)) some h = by (are_same_members p q) refl some (λ more. first_shape ps qs (list_and ws ls) more h.1)
  where
    more : (n : ℕ) → common ps qs ≡ n → (nat_lt 0 n ≡ true → PartsShape qs (first_lists n (list_and ws ls))) → MembersShape q vs → PartsShape (q ∷ qs) (list_and vs (first_lists n (list_and ws ls)))
    more zero e later one = one
    more (suc n) e later one = (one, later (lt-ltb 0 (suc n) (omega arith)))

    by : (b : Bool) → are_same_members p q ≡ b → nat_lt 0 (cond b (suc (common ps qs)) 0) ≡ true → (nat_lt 0 (common ps qs) ≡ true → PartsShape qs (first_lists (common ps qs) (list_and ws ls)))
        → PartsShape (q ∷ qs) (first_lists (cond b (suc (common ps qs)) 0) (list_and vs (list_and ws ls)))
    by true e some later = more (common ps qs) refl later (same_members_shape p q vs e h.0)
    by false e some later = cc

-- ---- their spelling

same_members_spelling : (p q : MembersTree) (vs : ValuesTree) → are_same_members p q ≡ true → members_canon q vs ≡ members_canon p vs
same_members_spelling p q vs e = sym (members_spelling q vs) ∙ ap (λ x. members_canon x vs) (sym (members_are p q e)) ∙ members_spelling p vs

same_members_bits : (p q : MembersTree) → are_same_members p q ≡ true → members_width q ≡ members_width p
same_members_bits p q e = sym (members_bits q) ∙ ap members_width (sym (members_are p q e)) ∙ members_bits p

fx_bit : (last : LastPart) (n : ℕ) → fx_width last n ≤ 1
fx_bit last (suc n) = omega arith
fx_bit WithFx zero = omega arith
fx_bit WithoutFx zero = omega arith

-- parts of one width, whole octets with what FX bit they have, both have one or both have none
same_fx : (a b : LastPart) (n m w u : ℕ) → w ≡ u → (w + fx_width a n) % 8 ≡ 0 → (u + fx_width b m) % 8 ≡ 0 → fx_width b m ≡ fx_width a n
same_fx a b n m w u e old new = let p = fx_bit a n in let q = fx_bit b m in omega arith

-- the first lists are spelled alike in both
pub parts_alike : (a b : LastPart) (ps qs : List MembersTree) (ls : ListsTree) → PartsWhole a ps → PartsWhole b qs
    → parts_canon b qs (first_lists (common ps qs) ls) ≡ parts_canon a ps (first_lists (common ps qs) ls)
parts_alike a b [] [] ls o n = refl
parts_alike a b [] (q ∷ qs) ls o n = refl
parts_alike a b (p ∷ ps) [] ls o n = refl
parts_alike a b (p ∷ ps) (q ∷ qs) no_lists o n = by (are_same_members p q)
  where
    by : (t : Bool) → parts_canon b (q ∷ qs) (first_lists (cond t (suc (common ps qs)) 0) no_lists) ≡ parts_canon a (p ∷ ps) (first_lists (cond t (suc (common ps qs)) 0) no_lists)
    by true = refl
    by false = refl
parts_alike a b (p ∷ ps) (q ∷ qs) (list_and vs ls) o n = by (are_same_members p q) refl (parts_alike a b ps qs ls o.1 n.1)
  where
    more : (xs : ListsTree) → members_canon q vs ≡ members_canon p vs → fx_width b (length qs) ≡ fx_width a (length ps) → parts_canon b qs xs ≡ parts_canon a ps xs
        → parts_canon b (q ∷ qs) (list_and vs xs) ≡ parts_canon a (p ∷ ps) (list_and vs xs)
    more no_lists first fx later = λ i. first i ++ word (fx i) 0
    more (list_and ws xs) first fx later = λ i. first i ++ 1 ∷ later i

    by : (t : Bool) → are_same_members p q ≡ t → parts_canon b qs (first_lists (common ps qs) ls) ≡ parts_canon a ps (first_lists (common ps qs) ls)
        → parts_canon b (q ∷ qs) (first_lists (cond t (suc (common ps qs)) 0) (list_and vs ls)) ≡ parts_canon a (p ∷ ps) (first_lists (cond t (suc (common ps qs)) 0) (list_and vs ls))
    by true e later =
        more (first_lists (common ps qs) ls) (same_members_spelling p q vs e) (same_fx a b (length ps) (length qs) (members_width p) (members_width q) (sym (same_members_bits p q e)) o.0 n.0) later
    by false e later = refl

-- the first lists have no more bits than all
first_fewer : (last : LastPart) (c : ℕ) (ps : List MembersTree) (ls : ListsTree) → length (parts_canon last ps (first_lists c ls)) ≤ length (parts_canon last ps ls)
first_fewer last zero [] ls = omega arith
first_fewer last zero (p ∷ ps) ls = omega arith
first_fewer last (suc c) [] no_lists = omega arith
first_fewer last (suc c) [] (list_and vs ls) = omega arith
first_fewer last (suc c) (p ∷ ps) no_lists = omega arith
first_fewer last (suc c) (p ∷ ps) (list_and vs no_lists) = ap_le c
  where
    ap_le : (n : ℕ) → length (parts_canon last (p ∷ ps) (list_and vs (first_lists n no_lists))) ≤ length (parts_canon last (p ∷ ps) (list_and vs no_lists))
    ap_le zero = omega arith
    ap_le (suc n) = omega arith
first_fewer last (suc c) (p ∷ ps) (list_and vs (list_and ws ls)) = more c (first_fewer last c ps (list_and ws ls))
  where
    more : (n : ℕ) → length (parts_canon last ps (first_lists n (list_and ws ls))) ≤ length (parts_canon last ps (list_and ws ls))
        → length (parts_canon last (p ∷ ps) (list_and vs (first_lists n (list_and ws ls)))) ≤ length (parts_canon last (p ∷ ps) (list_and vs (list_and ws ls)))
    more zero later =
        omega (
          arith,
          length-append (members_canon p vs) (word (fx_width last (length ps)) 0),
          length-word (fx_width last (length ps)) 0,
          fx_bit last (length ps),
          length-append (members_canon p vs) (1 ∷ parts_canon last ps (list_and ws ls)),
        )
    more (suc n) later =
        omega (
          arith,
          length-append (members_canon p vs) (1 ∷ parts_canon last ps (list_and ws (first_lists n ls))),
          length-append (members_canon p vs) (1 ∷ parts_canon last ps (list_and ws ls)),
        )

pub first_shorter : (a b : LastPart) (ps qs : List MembersTree) (ls : ListsTree) → PartsWhole a ps → PartsWhole b qs
    → length (parts_canon b qs (first_lists (common ps qs) ls)) ≤ length (parts_canon a ps ls)
first_shorter a b ps qs ls o n =
    let fewer = first_fewer a (common ps qs) ps ls in
    let P : ℕ → Type 0 = λ x. x ≤ length (parts_canon a ps ls) in subst P (sym (ap length (parts_alike a b ps qs ls o n))) fewer

-- ---- how many they are

-- the first of them are equal, once tables are emptied, and no more are
pub common_first : (ps qs : List MembersTree) → take (common ps qs) (map emptied_members ps) ≡ take (common ps qs) (map emptied_members qs)
common_first [] qs = none (map emptied_members qs)
  where
    none : (xs : List MembersTree) → [] ≡ take 0 xs
    none xs = refl
common_first (p ∷ ps) [] = refl
common_first (p ∷ ps) (q ∷ qs) = by (are_same_members p q) refl (common_first ps qs)
  where
    by : (b : Bool) → are_same_members p q ≡ b → take (common ps qs) (map emptied_members ps) ≡ take (common ps qs) (map emptied_members qs)
        → take (cond b (suc (common ps qs)) 0) (map emptied_members (p ∷ ps)) ≡ take (cond b (suc (common ps qs)) 0) (map emptied_members (q ∷ qs))
    by true e later = λ i. members_are p q e i ∷ later i
    by false e later = refl

pub common_within : (ps qs : List MembersTree) → (common ps qs ≤ length ps) × (common ps qs ≤ length qs)
common_within [] qs = (omega arith, omega arith)
common_within (p ∷ ps) [] = (omega arith, omega arith)
common_within (p ∷ ps) (q ∷ qs) = by (are_same_members p q) (common_within ps qs)
  where
    by : (b : Bool) → (common ps qs ≤ length ps) × (common ps qs ≤ length qs) → (cond b (suc (common ps qs)) 0 ≤ suc (length ps)) × (cond b (suc (common ps qs)) 0 ≤ suc (length qs))
    by true h = (omega (arith, h.0), omega (arith, h.1))
    by false h = (omega arith, omega arith)

pub common_most : (ps qs : List MembersTree) (c : ℕ) → c ≤ length ps → c ≤ length qs → take c (map emptied_members ps) ≡ take c (map emptied_members qs) → c ≤ common ps qs
common_most ps qs zero a b e = omega arith
common_most [] qs (suc c) a b e = absurd (omega arith)
common_most (p ∷ ps) [] (suc c) a b e = absurd (omega arith)
common_most (p ∷ ps) (q ∷ qs) (suc c) a b e = by (are_same_members p q) refl (common_most ps qs c (omega arith) (omega arith) rest)
  where
    first : emptied_members p ≡ emptied_members q
    first = cc

    rest : take c (map emptied_members ps) ≡ take c (map emptied_members qs)
    rest = cc

    by : (t : Bool) → are_same_members p q ≡ t → c ≤ common ps qs → suc c ≤ cond t (suc (common ps qs)) 0
    by true s later = omega arith
    by false s later = let same = members_same p q first in cc
