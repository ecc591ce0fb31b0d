use Rattle.std.proofs.Common.{rules}
use Rattle.ax_text_form.proofs.FixedWays.{some_members, member_next}
use Rattle.ax_text_form.proofs.printer.TreePrinter.+print_fixed.Goals as goal

pub members-loop-member-preserved : goal.members-loop-member-preserved
members-loop-member-preserved t c =
    let steps = c.in-Some.ensures.steps in
    member_next (some_members c.args.members.now c.args.values.now) c.args.self.now.out.items c.loop-member.self.out.items c.member.new.self.out.items c.in-Some.member.now c.loop-member.member-iterator.a.rest.now c.next.new.self.a.rest.now
    c.in-Some.value.now c.loop-member.member-iterator.b.rest.now c.next.new.self.b.rest.now c.loop-member.invariant steps.0 steps.1 (search rules)
