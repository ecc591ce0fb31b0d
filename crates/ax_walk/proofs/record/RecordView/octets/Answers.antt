use Rattle.ax_walk.proofs.Spelled.{record_spelled}
use Rattle.ax_walk.proofs.record.RecordView.octets.Goals as goal

pub returns-clause-spelled : goal.returns-clause-spelled
returns-clause-spelled c = record_spelled c.args.self.now.codec.now c.args.self.now.body.now c.args.self.now.record_octets
