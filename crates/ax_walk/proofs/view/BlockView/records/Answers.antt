use Rattle.ax_walk.proofs.RecordPieces.{records_shown}
use Rattle.ax_walk.proofs.view.BlockView.records.Goals as goal

pub returns : goal.returns
returns c = records_shown c.args.self.now.codec.now c.args.self.now.body.now c.args.self.now.count c.args.self.now.size.0 c.args.self.now.records
