use Rattle.ax_fspec.specs.Marks.{seven}
use Rattle.ax_fspec.proofs.Sets.{seven_in_first, seven_in_second}
use Rattle.ax_fspec.proofs.set.Presence.octet.Goals as goal

pub returns-then-octet-lt9-clause-marks : goal.returns-then-octet-lt9-clause-marks
returns-then-octet-lt9-clause-marks c =
    let set = c.self.inside in
    seven_in_first set.first set.second c.args.octet c.args.self.now (seven c.seven_marks.result) c.self.view_is c.if-octet-lt9.true c.seven_marks.ensures.marks

pub returns-else-octet-lt9-clause-marks : goal.returns-else-octet-lt9-clause-marks
returns-else-octet-lt9-clause-marks c =
    let set = c.self.inside in
    let marks = c.seven_marks-else-octet-lt9 in
    seven_in_second set.first set.second c.args.octet c.args.self.now (seven marks.result) c.self.view_is c.if-octet-lt9.false marks.ensures.marks
