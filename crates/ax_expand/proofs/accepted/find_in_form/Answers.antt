use Rattle.std.proofs.Common.{rules}
use Rattle.ax_expand.proofs.ExpansionFlaws.{marks_enough}
use Rattle.ax_expand.proofs.accepted.find_in_form.Goals as goal

pub returns-then-not-has_too_few_marks : goal.returns-then-not-has_too_few_marks
returns-then-not-has_too_few_marks c = marks_enough c.args.one.now c.args.found.now c.count.result c.has_too_few_marks.result c.count.ensures c.has_too_few_marks.ensures (search rules)
