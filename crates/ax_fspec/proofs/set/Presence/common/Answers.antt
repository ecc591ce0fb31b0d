use Rattle.ax_fspec.proofs.Sets.{are_marks, common_in_both}
use Rattle.ax_fspec.proofs.set.Presence.common.Goals as goal

pub returns-clause-common : goal.returns-clause-common
returns-clause-common c =
    let set = c.self.inside in
    let others = c.other.inside in
    common_in_both set.first set.second others.first others.second _ _ c.args.self.now c.args.other.now c.self.view_is c.other.view_is c.shared_marks.ensures.marks c.shared_marks-2.ensures.marks

pub returns-clause-sets : goal.returns-clause-sets
returns-clause-sets c =
    let set = c.self.inside in
    let others = c.other.inside in
    (are_marks set.first set.second c.args.self.now c.self.view_is, are_marks others.first others.second c.args.other.now c.other.view_is)
