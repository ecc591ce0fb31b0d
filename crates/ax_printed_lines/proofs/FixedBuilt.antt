-- Values of fixed kinds that are built.
use Rattle.std.proofs.Common.{◌≡◌, ℕ, ◌+◌, ◌<◌, ◌≤◌, ◌^◌, List, [], ◌∷◌, ◌++◌, length, drop, get_or, refl, sym, ap, subst}
use Rattle.std.specs.Prelude.{decimal}
use Rattle.std.proofs.lemmas.List.{drop_all}
use Rattle.ax_bits.specs.Bits.{word}
use Rattle.ax_printed_lines.specs.Laid.{Lays}
use Rattle.ax_printed_lines.specs.declared.laid.LaidBits.{LaidBits}
use Rattle.ax_text_form.proofs.KindTrees.{element_tree, group_tree, named_tree, spare_tree}
use Rattle.ax_text_form.proofs.Onto.{member_more}
use Rattle.ax_format.specs.Canonical.{number_canon, fixed_canon, members_canon}
use Rattle.ax_format.specs.InBounds.{IsWidth, FixedInBounds, MembersInBounds}
use Rattle.ax_format.specs.Plain.{fixed_tree, member_tree, members_tree}
use Rattle.ax_format.specs.Shape.{NumberShape, FixedShape, MembersShape}
use Rattle.ax_format.specs.Tree.{FixedTree, group, MemberTree, named, spare, MembersTree, no_members, member_and, ValueTree, number, member_values, ValuesTree, no_values, value_and}
use Rattle.ax_format.specs.declared.content.Content.{Content}
use Rattle.ax_format.specs.declared.kind.Fixed.{Fixed}
use Rattle.ax_format.specs.declared.kind.Fixed.TheVariants.{Element, Group}
use Rattle.ax_format.specs.declared.kind.Member.{Member}
use Rattle.ax_format.specs.declared.kind.Member.TheVariants.{Named, Spare}
use Rattle.ax_text_form.proofs.Printed.{from_place}
use Rattle.ax_text_form.proofs.WordTokens.{spare_is_word}
use Rattle.ax_text_form.specs.Slots.{MemberShape}
use Rattle.ax_text_form.specs.ValueText.{opening, closing, spare_word, number_onto, fixed_onto, member_onto, members_onto}
use Rattle.ax_printed_lines.specs.Printed.{Place, Goes, IsBuilt, IsOneWord, member_canon}
use Rattle.ax_printed_lines.proofs.Building.{built_after, Partly, partly_first, partly_more, partly_done, built_bare}
use Rattle.ax_printed_lines.proofs.Going.{one_word}

-- ---- numbers

pub number_is_built : (w n : ℕ) (old new : Place) (before after : LaidBits) → n < 2 ^ w → Goes old new (decimal n ∷ []) → Lays before after (word w n) → IsBuilt (NumberShape w) (λ v. number_onto v []) (number_canon w) old new before after
number_is_built w n old new before after lt g a = record { value = number n; shape = lt; goes = g; lays = a }

-- ---- a value of a fixed kind

abbrev pub FixedIsBuilt : FixedTree → Place → Place → LaidBits → LaidBits → Type 0
FixedIsBuilt f old new before after = IsBuilt (FixedShape f) (λ v. fixed_onto f v []) (fixed_canon f) old new before after

abbrev pub MemberIsBuilt : MemberTree → Place → Place → LaidBits → LaidBits → Type 0
MemberIsBuilt m old new before after = IsBuilt (MemberShape m) (λ v. member_onto m v []) (member_canon m) old new before after

abbrev pub MembersAreBuilt : MembersTree → Place → Place → LaidBits → LaidBits → Type 0
MembersAreBuilt ms old new before after = IsBuilt (MembersShape ms) (λ vs. members_onto ms vs (closing ∷ [])) (members_canon ms) old new before after

pub element_width : (fixed : Fixed) (w : ℕ) (c : Content) → fixed ≡ Element w c → FixedInBounds (fixed_tree fixed) → IsWidth w
element_width fixed w c e h = subst FixedInBounds (element_tree fixed w c e) h

pub group_bounds : (fixed : Fixed) (ms : List Member) → fixed ≡ Group ms → FixedInBounds (fixed_tree fixed) → MembersInBounds (members_tree ms)
group_bounds fixed ms e h = subst FixedInBounds (group_tree fixed ms e) h

pub element_built : (fixed : Fixed) (w : ℕ) (c : Content) (old new : Place) (before after : LaidBits) → fixed ≡ Element w c → IsBuilt (NumberShape w) (λ v. number_onto v []) (number_canon w) old new before after → FixedIsBuilt (fixed_tree fixed) old new before after
element_built fixed w c old new before after e b = subst (λ f. FixedIsBuilt f old new before after) (sym (element_tree fixed w c e)) b

pub group_built : (fixed : Fixed) (ms : List Member) (old mid new : Place) (before after : LaidBits) → fixed ≡ Group ms → Goes old mid (opening ∷ []) → MembersAreBuilt (members_tree ms) mid new before after → FixedIsBuilt (fixed_tree fixed) old new before after
group_built fixed ms old mid new before after e g b =
    subst (λ f. FixedIsBuilt f old new before after) (sym (group_tree fixed ms e))
    (built_after (MembersShape (members_tree ms)) (λ vs. members_onto (members_tree ms) vs (closing ∷ [])) (members_canon (members_tree ms)) (FixedShape (group (members_tree ms))) (λ v. fixed_onto (group (members_tree ms)) v []) (fixed_canon (group (members_tree ms))) (opening ∷ []) old mid new before after g b
    (λ vs h. (member_values vs, h, refl, refl)))

-- ---- a member

pub named_bounds : (member : Member) (name : List ℕ) (f : Fixed) → member ≡ Named name f → MembersInBounds (member_and (member_tree member) no_members) → FixedInBounds (fixed_tree f)
named_bounds member name f e h = (subst (λ m. MembersInBounds (member_and m no_members)) (named_tree member name f e) h).0

pub spare_width : (member : Member) (w : ℕ) → member ≡ Spare w → MembersInBounds (member_and (member_tree member) no_members) → IsWidth w
spare_width member w e h = (subst (λ m. MembersInBounds (member_and m no_members)) (spare_tree member w e) h).0

pub named_built : (member : Member) (name : List ℕ) (f : Fixed) (old mid new : Place) (before after : LaidBits) → member ≡ Named name f → Goes old mid (name ∷ []) → FixedIsBuilt (fixed_tree f) mid new before after → MemberIsBuilt (member_tree member) old new before after
named_built member name f old mid new before after e goes b =
    subst (λ m. MemberIsBuilt m old new before after) (sym (named_tree member name f e))
    (built_after (FixedShape (fixed_tree f)) (λ v. fixed_onto (fixed_tree f) v []) (fixed_canon (fixed_tree f)) (MemberShape (named name (fixed_tree f))) (λ v. member_onto (named name (fixed_tree f)) v []) (member_canon (named name (fixed_tree f))) (name ∷ []) old mid new before after goes b (λ v h. (v, h, refl, refl)))

pub named_number_built : (member : Member) (name : List ℕ) (f : Fixed) (w : ℕ) (c : Content) (n : ℕ) (old new : Place) (before after : LaidBits) → member ≡ Named name f → f ≡ Element w c → Goes old new (name ∷ decimal n ∷ []) → n < 2 ^ w → Lays before after (word w n) → MemberIsBuilt (member_tree member) old new before after
named_number_built member name f w c n old new before after e is goes lt a =
    subst (λ m. MemberIsBuilt m old new before after) (sym (named_tree member name f e))
    (subst (λ k. MemberIsBuilt (named name k) old new before after) (sym (element_tree f w c is)) record { value = number n; shape = lt; goes = goes; lays = a })

pub spare_built : (member : Member) (w : ℕ) (old mid new : Place) (before after : LaidBits) → member ≡ Spare w → (IsOneWord spare_word → Goes old mid (spare_word ∷ [])) → IsBuilt (NumberShape w) (λ v. number_onto v []) (number_canon w) mid new before after → MemberIsBuilt (member_tree member) old new before after
spare_built member w old mid new before after e g b =
    subst (λ m. MemberIsBuilt m old new before after) (sym (spare_tree member w e))
    (built_after (NumberShape w) (λ v. number_onto v []) (number_canon w) (MemberShape (spare w)) (λ v. member_onto (spare w) v []) (member_canon (spare w)) (spare_word ∷ []) old mid new before after (g (one_word spare_word spare_is_word)) b (λ v h. (v, h, refl, refl)))

-- ---- members

pub record MembersLeft (ms all : MembersTree) (old now : Place) (before after : LaidBits) : Type 0 where
  pub built : Partly (MembersShape all) (λ vs. members_onto all vs (closing ∷ [])) (members_canon all) (MembersShape ms) (λ vs. members_onto ms vs (closing ∷ [])) (members_canon ms) old now before after
  pub bounds : MembersInBounds ms

pub members_first : (ms : MembersTree) (old : Place) (out : LaidBits) → MembersInBounds ms → MembersLeft ms ms old old out out
members_first ms old out h = record { built = partly_first (MembersShape ms) (λ vs. members_onto ms vs (closing ∷ [])) (members_canon ms) old out; bounds = h }

shape_and : (m : MemberTree) (ms : MembersTree) (v : ValueTree) (vs : ValuesTree) → MemberShape m v → MembersShape ms vs → MembersShape (member_and m ms) (value_and v vs)
shape_and (named name f) ms v vs a b = (a, b)
shape_and (spare w) ms v vs a b = (a, b)

canon_and : (m : MemberTree) (ms : MembersTree) (v : ValueTree) (vs : ValuesTree) → members_canon (member_and m ms) (value_and v vs) ≡ member_canon m v ++ members_canon ms vs
canon_and (named name f) ms v vs = refl
canon_and (spare w) ms v vs = refl

bounds_and : (m : MemberTree) (ms : MembersTree) → MembersInBounds (member_and m ms) → MembersInBounds (member_and m no_members) × MembersInBounds ms
bounds_and (named name f) ms h = ((h.0, tt), h.1)
bounds_and (spare w) ms h = ((h.0, tt), h.1)

one_member : (m : MemberTree) (ms all : MembersTree) (old now new : Place) (before mid after : LaidBits) → MembersLeft (member_and m ms) all old now before mid → MemberIsBuilt m now new mid after → MembersLeft ms all old new before after
one_member m ms all old now new before mid after l b = record {
  built = partly_more (MembersShape all) (λ vs. members_onto all vs (closing ∷ [])) (members_canon all) (MembersShape (member_and m ms)) (λ vs. members_onto (member_and m ms) vs (closing ∷ [])) (members_canon (member_and m ms)) (MemberShape m) (λ v. member_onto m v []) (member_canon m)
      (MembersShape ms) (λ vs. members_onto ms vs (closing ∷ [])) (members_canon ms) old now new before mid after l.built b
      (λ v vs h k. (value_and v vs, shape_and m ms v vs h k, sym (member_more m v [] (members_onto ms vs (closing ∷ []))), canon_and m ms v vs));
  bounds = (bounds_and m ms l.bounds).1;
}

module _ (list : List Member) (i : ℕ) (m : Member) (lt : i < length list) (at : m ≡ get_or list i m) where
  here : members_tree (drop i list) ≡ member_and (member_tree m) (members_tree (drop (i + 1) list))
  here = ap members_tree (from_place list i m lt at)

  pub member_bounds : (all : MembersTree) (old now : Place) (before after : LaidBits) → MembersLeft (members_tree (drop i list)) all old now before after → MembersInBounds (member_and (member_tree m) no_members)
  member_bounds all old now before after l = (bounds_and (member_tree m) (members_tree (drop (i + 1) list)) (subst MembersInBounds here l.bounds)).0

  pub member_next : (all : MembersTree) (old now new : Place) (before mid after : LaidBits) → MembersLeft (members_tree (drop i list)) all old now before mid → MemberIsBuilt (member_tree m) now new mid after → MembersLeft (members_tree (drop (i + 1) list)) all old new before after
  member_next all old now new before mid after l b = one_member (member_tree m) (members_tree (drop (i + 1) list)) all old now new before mid after (subst (λ ms. MembersLeft ms all old now before mid) here l) b

pub members_done : (list : List Member) (i : ℕ) (all : MembersTree) (old now new : Place) (before after : LaidBits) → length list ≤ i → MembersLeft (members_tree (drop i list)) all old now before after → Goes now new (closing ∷ []) → MembersAreBuilt all old new before after
members_done list i all old now new before after past l g =
    let ended : members_tree (drop i list) ≡ no_members = ap members_tree (drop_all i list past) in
    let left : MembersLeft no_members all old now before after = subst (λ ms. MembersLeft ms all old now before after) ended l in
    partly_done (MembersShape all) (λ vs. members_onto all vs (closing ∷ [])) (members_canon all) (MembersShape no_members) (λ vs. members_onto no_members vs (closing ∷ [])) (members_canon no_members) old now new before after after left.built
    (built_bare (MembersShape no_members) (λ vs. members_onto no_members vs (closing ∷ [])) (members_canon no_members) no_values now new after tt g refl)
