use Rattle.ax_app.proofs.Ending.{drive_completes}
use Rattle.ax_app.proofs.driving.drive.Goals as goal

pub returns-clause-completes : goal.returns-clause-completes
returns-clause-completes g c = λ input blocks octets left spelled within given none. drive_completes _ _ _ _ _ c.drive_job.result c.drive_job.ensures input blocks octets left spelled within given none
