use borrow.Author.Tests.{ltb-true}
use Rattle.std.proofs.Common.{arith}
use Rattle.ax_fspec.proofs.Sets.{has_in_first, has_in_second, has_not}
use Rattle.ax_fspec.proofs.set.Presence.has.Goals as goal

pub returns-then-slot-gt0 : goal.returns-then-slot-gt0
returns-then-slot-gt0 c =
    let set = c.self.inside in
    has_in_first set.first set.second c.args.slot c.args.self.now c.has_mark.result c.self.view_is c.if-slot-lt64.true c.if-slot-gt0.true c.has_mark.ensures

pub returns-then-slot-lt127 : goal.returns-then-slot-lt127
returns-then-slot-lt127 c =
    let set = c.self.inside in
    has_in_second set.first set.second c.args.slot c.args.self.now c.has_mark-then-slot-lt127.result c.self.view_is c.if-slot-lt64.false c.has_mark-then-slot-lt127.ensures

pub returns-else-slot-lt127 : goal.returns-else-slot-lt127
returns-else-slot-lt127 c =
    let set = c.self.inside in
    (λ t. absurd (omega (arith, ltb-true c.args.slot 127 t)), λ m. absurd (has_not set.first set.second c.args.slot c.args.self.now c.self.view_is c.if-slot-lt127.false m))
