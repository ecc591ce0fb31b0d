use Rattle.std.proofs.Common.{◌-◌, arith}
use Rattle.ax_printed_lines.proofs.RunsRead.{longer_alike}
use Rattle.ax_printed_lines.proofs.runs.are_more.Goals as goal

pub returns-then-begin_alike-clause-same : goal.returns-then-begin_alike-clause-same
returns-then-begin_alike-clause-same c = λ same. longer_alike 7 (c.args.count - 7) c.args.count c.args.octets.now c.args.wanted.now (omega arith) (omega arith) (omega arith) (c.begin_alike.ensures c.if-begin_alike.true) (c.begin_alike-then-begin_alike.ensures same)
