-- Numbers, members and groups read from any bit of a body on.
use Rattle.std.proofs.Common.{◌≡◌, ℕ, ◌+◌, ◌^◌, ◌<◌, ◌≤◌, List, [], ◌∷◌, ◌++◌, length, take, drop, map, refl, sym, ◌∙◌, ap, arith, subst, length-append, get_or, suc, add-one, drop-cons}
use Rattle.std.proofs.lemmas.List.{drop-drop, drop_all}
use Rattle.ax_bits.proofs.Pieces.{number-word}
use Rattle.ax_bits.specs.Bits.{number_of, word}
use Rattle.ax_format.specs.Reader.{members_value}
use Rattle.ax_format.specs.InBounds.{MembersInBounds}
use Rattle.ax_format.specs.Plain.{member_tree, members_tree, value_tree, values_tree}
use Rattle.ax_format.specs.Tree.{MembersTree, no_members, member_and, MemberTree, named, spare, ValueTree, ValuesTree, number, no_values, value_and}
use Rattle.ax_format.specs.Widths.{width, members_width}
use Rattle.ax_format.specs.declared.kind.Member.{Member}
use Rattle.ax_format.specs.declared.value.Value.{Value}
use Rattle.ax_values.proofs.Onto.{values_onto, values_onto_none, values_onto_more}

pub number_read : (b : List ℕ) (at w n : ℕ) → n < 2 ^ w → word w n ≡ take w (drop at b) → number n ≡ number (number_of (take w (drop at b)))
number_read b at w n lt e = ap (λ n. number n) (sym (number-word w n lt) ∙ ap number_of e)

-- ---- one member and those after it

pub width_more : (m : MemberTree) (ms : MembersTree) → members_width (member_and m ms) ≡ members_width (member_and m no_members) + members_width ms
width_more (named name f) ms = omega arith
width_more (spare w) ms = omega arith

pub bounds_first : (m : MemberTree) (ms : MembersTree) → MembersInBounds (member_and m ms) → MembersInBounds (member_and m no_members)
bounds_first (named name f) ms h = (h.0, tt)
bounds_first (spare w) ms h = (h.0, tt)

pub bounds_rest : (m : MemberTree) (ms : MembersTree) → MembersInBounds (member_and m ms) → MembersInBounds ms
bounds_rest (named name f) ms h = h.1
bounds_rest (spare w) ms h = h.1

first_value : {v w : ValueTree} {vs ws : ValuesTree} → value_and v vs ≡ value_and w ws → v ≡ w
first_value e = cc

value_more : (m : MemberTree) (ms : MembersTree) (b : List ℕ) (v : ValueTree) → value_and v no_values ≡ members_value (member_and m no_members) b
    → members_value (member_and m ms) b ≡ value_and v (members_value ms (drop (members_width (member_and m no_members)) b))
value_more (named name f) ms b v e =
    let n : width f ≡ width f + 0 = omega arith in
    λ i. value_and (sym (first_value e) i) (members_value ms (drop (n i) b))
value_more (spare w) ms b v e =
    let n : w ≡ w + 0 = omega arith in
    λ i. value_and (sym (first_value e) i) (members_value ms (drop (n i) b))

-- ---- members so far

pub members_from : (all : List Member) (i : ℕ) (m : Member) → i < length all → m ≡ get_or all i m → members_tree (drop i all) ≡ member_and (member_tree m) (members_tree (drop (i + 1) all))
members_from all i m within e =
    ap members_tree (drop-cons all i m within ∙ ap (λ x. x ∷ drop (suc i) all) (sym e)) ∙ ap (λ n. member_and (member_tree m) (members_tree (drop n all))) (sym (add-one i))

-- the values of the members before place i, read from bit start up to bit at
pub record MembersSoFar (all : List Member) (i : ℕ) (made : List Value) (b : List ℕ) (start at : ℕ) : Type 0 where
  pub bounds : MembersInBounds (members_tree (drop i all))
  pub width : at + members_width (members_tree (drop i all)) ≡ start + members_width (members_tree all)
  pub values : members_value (members_tree all) (drop start b) ≡ values_onto (map value_tree made) (members_value (members_tree (drop i all)) (drop at b))
  pub count : length made ≡ i

pub members_none : (all : List Member) (b : List ℕ) (start : ℕ) → MembersInBounds (members_tree all) → MembersSoFar all 0 [] b start start
members_none all b start h = record { bounds = h; width = refl; values = refl; count = refl }

pub members_more : (all : List Member) (i : ℕ) (m : Member) (made : List Value) (v : Value) (b : List ℕ) (start at next : ℕ) → MembersSoFar all i made b start at → i < length all → m ≡ get_or all i m
    → value_and (value_tree v) no_values ≡ members_value (member_and (member_tree m) no_members) (drop at b) → next ≡ at + members_width (member_and (member_tree m) no_members)
    → MembersSoFar all (i + 1) (made ++ v ∷ []) b start next
members_more all i m made v b start at next h within e f g =
    let mt = member_tree m in
    let ms = members_tree (drop (i + 1) all) in
    let from : members_tree (drop i all) ≡ member_and mt ms = members_from all i m within e in
    let bounds : MembersInBounds (member_and mt ms) = subst MembersInBounds from h.bounds in
    let w : at + members_width (member_and mt ms) ≡ start + members_width (members_tree all) = subst (λ left. at + members_width left ≡ start + members_width (members_tree all)) from h.width in
    let more : members_width (member_and mt ms) ≡ members_width (member_and mt no_members) + members_width ms = width_more mt ms in
    let n = members_width (member_and mt no_members) in
    let place : drop n (drop at b) ≡ drop next b = drop-drop n at b ∙ ap (λ k. drop k b) (let z : at + n ≡ next = sym g in z) in
    let tail : members_value (members_tree (drop i all)) (drop at b) ≡ value_and (value_tree v) (members_value ms (drop next b)) =
    ap (λ left. members_value left (drop at b)) from ∙ value_more mt ms (drop at b) (value_tree v) f ∙ ap (λ c. value_and (value_tree v) (members_value ms c)) place in record {
      bounds = bounds_rest mt ms bounds;
      width = omega arith;
      values = h.values ∙ ap (values_onto (map value_tree made)) tail ∙ sym (values_onto_more made v (members_value ms (drop next b)));
      count = omega (arith, h.count, length-append made (v ∷ []));
    }

pub member_bounds : (all : List Member) (i : ℕ) (m : Member) (made : List Value) (b : List ℕ) (start at : ℕ) → MembersSoFar all i made b start at → i < length all → m ≡ get_or all i m → MembersInBounds (member_and (member_tree m) no_members)
member_bounds all i m made b start at h within e =
    bounds_first (member_tree m) (members_tree (drop (i + 1) all)) (subst MembersInBounds (members_from all i m within e) h.bounds)

pub member_within : (all : List Member) (i : ℕ) (m : Member) (made : List Value) (b : List ℕ) (start at : ℕ) → MembersSoFar all i made b start at → i < length all → m ≡ get_or all i m
    → at + members_width (member_and (member_tree m) no_members) ≤ start + members_width (members_tree all)
member_within all i m made b start at h within e =
    let from : members_width (members_tree (drop i all)) ≡ members_width (member_and (member_tree m) (members_tree (drop (i + 1) all))) = ap members_width (members_from all i m within e) in
    omega (arith, h.width, width_more (member_tree m) (members_tree (drop (i + 1) all)))

pub members_values : (all : List Member) (i : ℕ) (made : List Value) (b : List ℕ) (start at : ℕ) → MembersSoFar all i made b start at → length all ≤ i → values_tree made ≡ members_value (members_tree all) (drop start b)
members_values all i made b start at h past =
    let v : members_value (members_tree (drop i all)) (drop at b) ≡ no_values = ap (λ left. members_value (members_tree left) (drop at b)) (drop_all i all past) in
    sym (h.values ∙ ap (values_onto (map value_tree made)) v ∙ values_onto_none (map value_tree made))

pub members_end : (all : List Member) (i : ℕ) (made : List Value) (b : List ℕ) (start at : ℕ) → MembersSoFar all i made b start at → length all ≤ i → at ≡ start + members_width (members_tree all)
members_end all i made b start at h past =
    let w : members_width (members_tree (drop i all)) ≡ 0 = ap (λ left. members_width (members_tree left)) (drop_all i all past) in omega (arith, h.width)

pub members_few : (all : List Member) (i : ℕ) (made : List Value) (b : List ℕ) (start at : ℕ) → MembersSoFar all i made b start at → length made ≡ i
members_few all i made b start at h = h.count

pub ruleset members = (members_none, members_more, member_bounds, member_within, members_values, members_end, members_few)
