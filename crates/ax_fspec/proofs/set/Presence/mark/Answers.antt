use Rattle.ax_fspec.proofs.Sets.{mark_in_first, mark_in_second}
use Rattle.ax_fspec.proofs.set.Presence.mark.Goals as goal

pub returns-then-slot-lt64 : goal.returns-then-slot-lt64
returns-then-slot-lt64 c =
    let set = c.self.inside in
    let new = c.with_mark-self-inside in
    mark_in_first set.first set.second new.result c.args.slot c.args.self.now c.self.view_is c.requires.0 c.if-slot-lt64.true new.ensures.marks

pub returns-else-slot-lt64 : goal.returns-else-slot-lt64
returns-else-slot-lt64 c =
    let set = c.self.inside in
    let new = c.with_mark-self-inside-else-slot-lt64 in
    mark_in_second set.first set.second new.result c.args.slot c.args.self.now c.self.view_is c.if-slot-lt64.false new.ensures.marks
