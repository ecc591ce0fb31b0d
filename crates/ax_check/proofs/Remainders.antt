-- Sums of widths modulo 8.
use Rattle.std.proofs.Common.{◌≡◌, ℕ, ◌+◌, ◌%◌, ◌<◌, ◌≤◌, List, length, drop, get_or, refl, ◌∙◌, ap, arith}
use Rattle.std.proofs.lemmas.List.{drop_all}
use Rattle.ax_format.proofs.Namings.{from_place}
use Rattle.ax_format.specs.Plain.{member_tree, members_tree}
use Rattle.ax_format.specs.Tree.{MembersTree, member_and, MemberTree, named, spare}
use Rattle.ax_format.specs.Widths.{member_width, members_width}
use Rattle.ax_format.specs.declared.kind.Member.{Member}

member_first : (m : MemberTree) (ms : MembersTree) → members_width (member_and m ms) ≡ member_width m + members_width ms
member_first (named name f) ms = refl
member_first (spare w) ms = refl

more : (over one rest left all new : ℕ) → left ≡ one + rest → (over + left) % 8 ≡ all % 8 → new ≡ (over + one % 8) % 8 → (new + rest) % 8 ≡ all % 8
more over one rest left all new e h n = omega arith

pub member_over : (ms : List Member) (i : ℕ) (m : Member) (over new all : ℕ) → i < length ms → m ≡ get_or ms i m
    → (over + members_width (members_tree (drop i ms))) % 8 ≡ all % 8 → new ≡ (over + member_width (member_tree m) % 8) % 8
    → (new + members_width (members_tree (drop (i + 1) ms))) % 8 ≡ all % 8
member_over ms i m over new all within e h n =
    more over (member_width (member_tree m)) (members_width (members_tree (drop (i + 1) ms))) (members_width (members_tree (drop i ms))) all new
    (ap (λ x. members_width (members_tree x)) (from_place ms i m within e) ∙ member_first (member_tree m) (members_tree (drop (i + 1) ms))) h n

pub members_over : (ms : List Member) (i over all : ℕ) → length ms ≤ i → over < 8 → (over + members_width (members_tree (drop i ms))) % 8 ≡ all % 8 → over ≡ all % 8
members_over ms i over all past small h =
    let none : members_width (members_tree (drop i ms)) ≡ 0 = ap (λ x. members_width (members_tree x)) (drop_all i ms past) in
    omega (arith, none, h)

pub ruleset widths = (member_over, members_over)
