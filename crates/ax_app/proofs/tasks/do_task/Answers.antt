use Rattle.std.proofs.Common.{refl}
use Rattle.ax_app.proofs.Commands.{prepared_command}
use Rattle.ax_app.proofs.tasks.do_task.Goals as goal

pub returns-in-Help : goal.returns-in-Help
returns-in-Help g c = rw c.in-Nothing.is (rw c.in-Help.is (prepared_command _ _ _ _ refl _ c.write_out.ensures))

pub returns-in-Version : goal.returns-in-Version
returns-in-Version g c = rw c.in-Nothing.is (rw c.in-Version.is (prepared_command _ _ _ _ refl _ c.write_out-in-Version.ensures))

pub returns-in-Check : goal.returns-in-Check
returns-in-Check g c = rw c.in-One.is (rw c.in-Check.is (prepared_command _ _ _ _ (record { spec = _; one = refl; is = refl }) _ c.check.ensures))

pub returns-in-Expand : goal.returns-in-Expand
returns-in-Expand g c = rw c.in-WithExpansion.is (rw c.in-Expand.is c.expand.ensures)
