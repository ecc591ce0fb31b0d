use Rattle.std.proofs.Common.{◌≡◌, ◌++◌, refl, arith, rules}
use Rattle.ax_check.proofs.FlawLists.{group_found, member_found, member_named, members_found, members_named}
use Rattle.ax_check.specs.Members.{member_flaws, with_member}
use Rattle.ax_check.specs.Names.{listed, AreSame}
use Rattle.ax_format.specs.Plain.{member_tree}
use Rattle.ax_check.proofs.fixed_flaws.+fixed.Goals as goal

pub find_in_members-loop-member-preserved : goal.find_in_members-loop-member-preserved
find_in_members-loop-member-preserved t c =
    let flaws : c.find_in_member.new.found ≡ c.loop-member.found ++ member_flaws c.args.path.now (listed c.loop-member.names.set) (member_tree c.member-item.result) = search rules in
    let names : AreSame (listed c.find_in_member.new.names.set) (with_member (listed c.loop-member.names.set) (member_tree c.member-item.result)) = search rules in (
      member_found c.args.path.now (listed c.loop-member.names.set) (listed c.find_in_member.new.names.set) c.args.members.now c.loop-member.member-index c.member-item.result c.loop-member.found c.find_in_member.new.found _ (search rules) (search rules) flaws names c.loop-member.invariant.0,
      member_named (listed c.loop-member.names.set) (listed c.find_in_member.new.names.set) _ c.args.members.now c.loop-member.member-index c.member-item.result (search rules) (search rules) names c.loop-member.invariant.1,
    )

pub find_in_group-returns : goal.find_in_group-returns
find_in_group-returns t c = grind (arith, group_found)

pub find_in_members-returns-clause-flaws : goal.find_in_members-returns-clause-flaws
find_in_members-returns-clause-flaws t c = members_found c.args.path.now (listed c.loop-member.names.set) c.args.members.now c.loop-member.member-index c.loop-member.found _ (search rules) c.loop-member.invariant.0

pub find_in_members-returns-clause-names : goal.find_in_members-returns-clause-names
find_in_members-returns-clause-names t c = members_named (listed c.loop-member.names.set) _ c.args.members.now c.loop-member.member-index (search rules) c.loop-member.invariant.1

pub find_in_members-loop-member-init : goal.find_in_members-loop-member-init
find_in_members-loop-member-init t c = (refl, record { same = λ name. refl })

pub find_in_members-returns-in_err-find_in_member-clause-flaws : goal.find_in_members-returns-in_err-find_in_member-clause-flaws
find_in_members-returns-in_err-find_in_member-clause-flaws t c = search rules

pub find_in_members-returns-in_err-find_in_member-clause-names : goal.find_in_members-returns-in_err-find_in_member-clause-names
find_in_members-returns-in_err-find_in_member-clause-names t c = search rules

pub find_in_group-returns-in_err-note : goal.find_in_group-returns-in_err-note
find_in_group-returns-in_err-note t c = search rules

pub find_in_member-returns-in_err-path-in-Spare-clause-flaws : goal.find_in_member-returns-in_err-path-in-Spare-clause-flaws
find_in_member-returns-in_err-path-in-Spare-clause-flaws t c = search rules

pub find_in_member-returns-in_err-path-in-Spare-clause-names : goal.find_in_member-returns-in_err-path-in-Spare-clause-names
find_in_member-returns-in_err-path-in-Spare-clause-names t c = search rules

pub find_in_member-returns-in_err-path-in-Named-clause-flaws : goal.find_in_member-returns-in_err-path-in-Named-clause-flaws
find_in_member-returns-in_err-path-in-Named-clause-flaws t c = search rules

pub find_in_member-returns-in_err-path-in-Named-clause-names : goal.find_in_member-returns-in_err-path-in-Named-clause-names
find_in_member-returns-in_err-path-in-Named-clause-names t c = search rules
