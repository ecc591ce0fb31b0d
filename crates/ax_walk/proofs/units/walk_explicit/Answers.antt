use Rattle.std.proofs.Common.{sym, subst}
use Rattle.ax_format.specs.Tree.{explicit, content_octets}
use Rattle.ax_fspec.specs.Reading.{FailsAt, kind_read}
use Rattle.ax_walk.proofs.Plain.{plain_walks}
use Rattle.ax_walk.proofs.units.walk_explicit.Goals as goal

pub returns-in-Err-clause-fault : goal.returns-in-Err-clause-fault
returns-in-Err-clause-fault c = subst (FailsAt (kind_read explicit c.args.start.body.now c.args.start.at) c.args.start.at) (sym c.fail.ensures.fault) c.in-Err.ensures.fault

pub returns-in-Ok-clause-end : goal.returns-in-Ok-clause-end
returns-in-Ok-clause-end c = plain_walks explicit c.args.start.body.now c.args.start.at _ (content_octets c.in-Ok.content.now) c.args.notes.now.least _ _ c.in-Ok.ensures.content
