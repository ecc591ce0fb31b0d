-- Fixed kinds that are shown from their bits.
use Rattle.std.proofs.Common.{◌≡◌, ℕ, ◌+◌, ◌<◌, ◌≤◌, ◌^◌, List, ◌++◌, length, take, drop, drop-cons, get_or, suc, ◌∷◌, refl, sym, ◌∙◌, ap, subst, arith, add-one}
use Rattle.std.proofs.lemmas.List.{drop-drop, drop_all}
use Rattle.ax_bits.proofs.Pieces.{number-word}
use Rattle.ax_bits.specs.Bits.{number_of, word}
use Rattle.ax_format.specs.InBounds.{MembersInBounds}
use Rattle.ax_held_kinds.specs.HeldFixed.{held_member, held_members}
use Rattle.ax_format.specs.Reader.{members_value}
use Rattle.ax_format.specs.Tree.{MembersTree, member_and, MemberTree, named, spare}
use Rattle.ax_format.specs.Widths.{width, members_width}
use Rattle.ax_format.specs.declared.content.Content.{Content}
use Rattle.ax_held_kinds.specs.declared.kinds.HeldMember.{HeldMember}
use Rattle.ax_text_form.proofs.Printed.{Leaves, leaves_all, leaves_fewer, leaves_none}
use Rattle.ax_text_form.specs.Listable.{MemberListable, MembersListable}
use Rattle.ax_text_form.specs.Printing.{as_lines, Puts}
use Rattle.ax_text_form.specs.Remarks.{remark}
use Rattle.ax_text_form.specs.ShowText.{number_line, member_lines, members_lines}
use Rattle.ax_text_form.specs.ValueText.{one_onto}
use Rattle.ax_listing.specs.Shown.{member_width, member_value, MemberInBounds}

pub number_is : (b : List ℕ) (at w n : ℕ) → n < 2 ^ w → word w n ≡ take w (drop at b) → n ≡ number_of (take w (drop at b))
number_is b at w n lt e = sym (number-word w n lt) ∙ ap number_of e

pub element_shown : (w n m : ℕ) (c : Content) (path old new : List ℕ) → n ≡ m → Puts as_lines (one_onto (number_line path n ++ remark w c n)) old new → Puts as_lines (one_onto (number_line path m ++ remark w c m)) old new
element_shown w n m c path old new e p = subst (λ n. Puts as_lines (one_onto (number_line path n ++ remark w c n)) old new) e p

pub spare_shown : (n m : ℕ) (path old new : List ℕ) → n ≡ m → Puts as_lines (one_onto (number_line path n)) old new → Puts as_lines (one_onto (number_line path m)) old new
spare_shown n m path old new e p = subst (λ n. Puts as_lines (one_onto (number_line path n)) old new) e p

pub ruleset elements = (element_shown, spare_shown)

-- ---- members that are left, from bit `at` on

pub record MembersShown (all left : MembersTree) (b : List ℕ) (start at : ℕ) (path old now : List ℕ) : Type 0 where
  pub bounds : MembersInBounds left
  pub listable : MembersListable left
  pub width : at + members_width left ≡ start + members_width all
  pub lines : Leaves as_lines (members_lines all path (members_value all (drop start b))) (members_lines left path (members_value left (drop at b))) old now

pub members_first : (all : MembersTree) (b : List ℕ) (at : ℕ) (path out : List ℕ) → MembersInBounds all → MembersListable all → MembersShown all all b at at path out out
members_first all b at path out bounds l = record { bounds = bounds; listable = l; width = refl; lines = leaves_all (members_lines all path (members_value all (drop at b))) out }

first_bounds : (m : MemberTree) (ms : MembersTree) → MembersInBounds (member_and m ms) → MemberInBounds m
first_bounds (named name f) ms h = h.0
first_bounds (spare w) ms h = h.0

first_within : (m : MemberTree) (ms : MembersTree) → members_width (member_and m ms) ≡ member_width m + members_width ms
first_within (named name f) ms = refl
first_within (spare w) ms = refl

on : (b : List ℕ) (at w after : ℕ) → after ≡ at + w → drop w (drop at b) ≡ drop after b
on b at w after e = drop-drop w at b ∙ ap (λ n. drop n b) (sym e)

tree_next : (all : MembersTree) (m : MemberTree) (ms : MembersTree) (b : List ℕ) (start at after : ℕ) (path old now new : List ℕ) → MembersShown all (member_and m ms) b start at path old now
    → Puts as_lines (member_lines m path (member_value m (drop at b))) now new → after ≡ at + member_width m → MembersShown all ms b start after path old new
tree_next all (named name f) ms b start at after path old now new h p e = record {
  bounds = h.bounds.1;
  listable = h.listable.1;
  width = omega (arith, h.width, e);
  lines = leaves_fewer (members_lines all path (members_value all (drop start b))) (members_lines (member_and (named name f) ms) path (members_value (member_and (named name f) ms) (drop at b))) (member_lines (named name f) path (member_value (named name f) (drop at b)))
      (members_lines ms path (members_value ms (drop after b))) old now new h.lines (λ rest. ap (λ c. member_lines (named name f) path (member_value (named name f) (drop at b)) (members_lines ms path (members_value ms c) rest)) (on b at (width f) after e)) p;
}
tree_next all (spare w) ms b start at after path old now new h p e = record {
  bounds = h.bounds.1;
  listable = h.listable.1;
  width = omega (arith, h.width, e);
  lines = leaves_fewer (members_lines all path (members_value all (drop start b))) (members_lines (member_and (spare w) ms) path (members_value (member_and (spare w) ms) (drop at b))) (member_lines (spare w) path (member_value (spare w) (drop at b)))
      (members_lines ms path (members_value ms (drop after b))) old now new h.lines (λ rest. ap (λ c. member_lines (spare w) path (member_value (spare w) (drop at b)) (members_lines ms path (members_value ms c) rest)) (on b at w after e)) p;
}

members_from : (all : List HeldMember) (i : ℕ) (m : HeldMember) → i < length all → m ≡ get_or all i m → held_members (drop i all) ≡ member_and (held_member m) (held_members (drop (i + 1) all))
members_from all i m within e =
    ap held_members (drop-cons all i m within ∙ ap (λ x. x ∷ drop (suc i) all) (sym e)) ∙ ap (λ n. member_and (held_member m) (held_members (drop n all))) (sym (add-one i))

module _ (whole : MembersTree) (all : List HeldMember) (i : ℕ) (m : HeldMember) (b : List ℕ) (start at : ℕ) (path old now : List ℕ) (h : MembersShown whole (held_members (drop i all)) b start at path old now) (within : i < length all) (e : m ≡ get_or all i m) where
  member_here : MembersShown whole (member_and (held_member m) (held_members (drop (i + 1) all))) b start at path old now
  member_here = subst (λ left. MembersShown whole left b start at path old now) (members_from all i m within e) h

  pub member_bounds : MemberInBounds (held_member m)
  member_bounds = first_bounds (held_member m) (held_members (drop (i + 1) all)) member_here.bounds

  pub member_listable : MemberListable (held_member m)
  member_listable = member_here.listable.0

  pub member_within : at + member_width (held_member m) ≤ start + members_width whole
  member_within = let w = first_within (held_member m) (held_members (drop (i + 1) all)) in omega (arith, member_here.width, w)

  pub member_next : (after : ℕ) (new : List ℕ) → Puts as_lines (member_lines (held_member m) path (member_value (held_member m) (drop at b))) now new → after ≡ at + member_width (held_member m)
      → MembersShown whole (held_members (drop (i + 1) all)) b start after path old new
  member_next after new p f = tree_next whole (held_member m) (held_members (drop (i + 1) all)) b start at after path old now new member_here p f

module _ (whole : MembersTree) (all : List HeldMember) (i : ℕ) (b : List ℕ) (start at : ℕ) (path old now : List ℕ) (h : MembersShown whole (held_members (drop i all)) b start at path old now) (past : length all ≤ i) where
  pub members_lines_end : Puts as_lines (members_lines whole path (members_value whole (drop start b))) old now
  members_lines_end =
      leaves_none (members_lines whole path (members_value whole (drop start b))) (members_lines (held_members (drop i all)) path (members_value (held_members (drop i all)) (drop at b))) old now h.lines
      (λ rest. ap (λ ms. members_lines (held_members ms) path (members_value (held_members ms) (drop at b)) rest) (drop_all i all past))

  pub members_end : at ≡ start + members_width whole
  members_end = let w : members_width (held_members (drop i all)) ≡ 0 = ap (λ left. members_width (held_members left)) (drop_all i all past) in omega (arith, h.width)

pub ruleset members = (members_first, member_bounds, member_listable, member_within, members_lines_end, members_end)
