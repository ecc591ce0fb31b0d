use Rattle.std.proofs.Common.{◌-◌, get_or, arith, refl}
use Rattle.ax_walk.proofs.NodeKinds.{octets_walk}
use Rattle.ax_walk.proofs.octets.octets_end.Goals as goal

pub returns-then-run_octets-body : goal.returns-then-run_octets-body
returns-then-run_octets-body c = λ least.
    octets_walk c.args.table.nodes.now c.args.link c.args.start.body.now c.args.start.at (get_or c.args.table.octets.now (c.args.link - 1) 0) least c.args.table.table c.requires.link.0 c.requires.link.1 c.requires.bounds (omega arith) (omega arith)
    c.args.table.octets.now c.args.table.sizes refl
