-- How deep the braces of texts nest.
use Rattle.std.proofs.Common.{◌≡◌, ℕ, ◌+◌, ◌-◌, ◌<◌, ◌≤◌, List, length, drop, get_or, sym, subst, arith}
use Rattle.std.proofs.lemmas.List.{drop_all}
use Rattle.ax_format.specs.Characters.{IsName}
use Rattle.ax_format.specs.Plain.{member_tree, members_tree}
use Rattle.ax_format.specs.Tree.{FixedTree, group, MemberTree, named, spare, MembersTree, no_members, member_and}
use Rattle.ax_format.specs.declared.kind.Member.{Member}
use Rattle.ax_text_lines.specs.Nesting.{FixedWithin, MembersWithin}
use Rattle.ax_values.proofs.FixedRead.{members_from}

pub group_within : (most : ℕ) (ms : MembersTree) → 0 < most → MembersWithin (most - 1) ms → FixedWithin most (group ms)
group_within most ms some h = (h.0, omega (arith, some, h.1))

pub named_within : (most : ℕ) (name : List ℕ) (f : FixedTree) → IsName name → FixedWithin most f → MembersWithin most (member_and (named name f) no_members)
named_within most name f n h = ((n, h.0, tt), omega (arith, h.1))

pub ruleset kinds = (group_within, named_within)

-- ---- members, one after the other

both_within : (most : ℕ) (m : MemberTree) (ms : MembersTree) → MembersWithin most (member_and m no_members) → MembersWithin most ms → MembersWithin most (member_and m ms)
both_within most (named name f) ms h k = ((h.0.0, h.0.1, k.0), omega (arith, h.1, k.1))
both_within most (spare w) ms h k = k

-- where the members from place i on are so, all are
pub record MembersNest (most : ℕ) (all : List Member) (i : ℕ) : Type 0 where
  pub rest : MembersWithin most (members_tree (drop i all)) → MembersWithin most (members_tree all)

pub nest_begun : (most : ℕ) (all : List Member) → MembersNest most all 0
nest_begun most all = record { rest = λ h. h }

pub nest_go_on : (most : ℕ) (all : List Member) (i : ℕ) (m : Member) → MembersNest most all i → i < length all → m ≡ get_or all i m → MembersWithin most (member_and (member_tree m) no_members) → MembersNest most all (i + 1)
nest_go_on most all i m n lt e h = record {
  rest = λ k. n.rest (subst (MembersWithin most) (sym (members_from all i m lt e)) (both_within most (member_tree m) (members_tree (drop (i + 1) all)) h k));
}

pub nest_over : (most : ℕ) (all : List Member) (i : ℕ) → MembersNest most all i → length all ≤ i → MembersWithin most (members_tree all)
nest_over most all i n past = n.rest (subst (λ ms. MembersWithin most (members_tree ms)) (sym (drop_all i all past)) (tt, omega arith))

pub ruleset members = (nest_begun, nest_over)
