use Rattle.std.proofs.Common.{refl}
use Rattle.ax_lines.specs.Taking.{refusing}
use Rattle.ax_lines.proofs.LineSteps.{takes_result, result_cut}
use Rattle.ax_lines.proofs.doing.do_line.Goals as goal

pub returns-in-Err-clause-does : goal.returns-in-Err-clause-does
returns-in-Err-clause-does g c = result_cut _ _ _ _ _ _ _ _ _ (takes_result (g.W.LineWork.command c.args.work.now) c.args.number c.args.line.now (g.W.LineWork.laid c.take.new.self) _ c.in-Ok-true.field-0-test c.in-Ok-true.ensures.takes) c.octets.ensures c.in-Err.ensures.prefix c.in-Err.ensures.rose c.write_all_of.ensures.once

pub returns-in-Err-Refused-clause-does : goal.returns-in-Err-Refused-clause-does
returns-in-Err-Refused-clause-does g c = refusing _ refl (rw c.in-Err-Refused.field-0-is at c.in-Err-Refused.ensures.takes) refl refl
