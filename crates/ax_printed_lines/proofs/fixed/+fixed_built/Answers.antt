use denote.Param.Weighed.{at_most}
use Rattle.std.proofs.Common.{◌≡◌, ◌<◌, ◌≤◌, ℕ, length, get_or, arith, ap, subst, rules}
use Rattle.std.proofs.lemmas.Option.{IfSome_then}
use Rattle.ax_format.proofs.kind.Member.TheLaws.{the_size}
use Rattle.ax_format.specs.Plain.{members_tree}
use Rattle.ax_printed_lines.proofs.FixedBuilt.{element_built, group_built, named_built, named_number_built, spare_built, members_first, member_bounds, member_next, members_done}
use Rattle.ax_printed_lines.proofs.fixed.+fixed_built.Goals as goal

pub fixed_built-returns-in-Element : goal.fixed_built-returns-in-Element
fixed_built-returns-in-Element t c =
    IfSome_then c.number_built.result c.number_built.ensures (λ done. element_built c.args.fixed.now c.in-Element.width c.in-Element.content c.args.cursor.now c.number_built.new.cursor c.args.out.now c.number_built.new.out c.in-Element.is)

pub fixed_built-returns-else-not-opens : goal.fixed_built-returns-else-not-opens
fixed_built-returns-else-not-opens t c =
    IfSome_then c.members_built.result c.members_built.ensures (λ done. group_built c.args.fixed.now c.in-Group.members c.args.cursor.now c.opens.new.self c.members_built.new.cursor c.args.out.now c.members_built.new.out c.in-Group.is (search rules))

pub member_built-returns-in-Named : goal.member_built-returns-in-Named
member_built-returns-in-Named t c =
    IfSome_then c.number_laid.result c.number_laid.ensures (λ done h.
    named_number_built c.args.member.now c.in-Named.name c.in-Named.fixed c.in-Element.width c.in-Element.content c.in-Some.number c.args.cursor.now c.named_number.new.self c.args.out.now c.number_laid.new.out c.in-Named.is c.in-Element.is c.in-Some.ensures.some h.0 h.1)

pub member_built-returns-else-not-takes_name : goal.member_built-returns-else-not-takes_name
member_built-returns-else-not-takes_name t c =
    IfSome_then c.fixed_built.result c.fixed_built.ensures (λ done. named_built c.args.member.now c.in-Named.name c.in-Named.fixed c.args.cursor.now c.takes_name.new.self c.fixed_built.new.cursor c.args.out.now c.fixed_built.new.out c.in-Named.is (search rules))

pub member_built-returns-else-not-takes : goal.member_built-returns-else-not-takes
member_built-returns-else-not-takes t c =
    IfSome_then c.number_built.result c.number_built.ensures (λ done. spare_built c.args.member.now c.in-Spare.width c.args.cursor.now c.takes.new.self c.number_built.new.cursor c.args.out.now c.number_built.new.out c.in-Spare.is (search rules))

pub members_built-loop-member-init : goal.members_built-loop-member-init
members_built-loop-member-init t c = members_first (members_tree c.args.members.now) c.args.cursor.now c.args.out.now c.requires

pub members_built-member_built-requires : goal.members_built-member_built-requires
members_built-member_built-requires t c =
    let all = c.args.members.now in
    let i : ℕ = c.loop-member.member-index in
    let m = c.member-item.result in
    let same = c.as_slice-member-items.ensures.members in
    let within : i < length all = subst (λ xs. i < length xs) same c.loop-member-test.true in
    let is : m ≡ get_or all i m = subst (λ xs. m ≡ get_or xs i m) same c.member-item.is in
    let small = at_most the_size all i m within in
    let same_size : the_size m ≡ the_size (get_or all i m) = ap the_size is in
    (omega (arith, small, same_size, c.decreases), member_bounds all i m within is (members_tree all) c.args.cursor.now c.loop-member.cursor c.args.out.now c.loop-member.out c.loop-member.invariant)

pub members_built-loop-member-preserved : goal.members_built-loop-member-preserved
members_built-loop-member-preserved t c =
    let all = c.args.members.now in
    let i : ℕ = c.loop-member.member-index in
    let m = c.member-item.result in
    let same = c.as_slice-member-items.ensures.members in
    let within : i < length all = subst (λ xs. i < length xs) same c.loop-member-test.true in
    let is : m ≡ get_or all i m = subst (λ xs. m ≡ get_or xs i m) same c.member-item.is in
    member_next all i m within is (members_tree all) c.args.cursor.now c.loop-member.cursor _ c.args.out.now c.loop-member.out _ c.loop-member.invariant (search rules)

pub members_built-returns : goal.members_built-returns
members_built-returns t c =
    members_done c.args.members.now c.loop-member.member-index (members_tree c.args.members.now) c.args.cursor.now c.loop-member.cursor _ c.args.out.now c.loop-member.out
    (subst (λ xs. length xs ≤ c.loop-member.member-index) c.as_slice-member-items.ensures.members c.loop-member-test.false) c.loop-member.invariant (search rules)
