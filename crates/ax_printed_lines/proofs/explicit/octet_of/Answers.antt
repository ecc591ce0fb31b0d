use Rattle.ax_printed_lines.proofs.ExplicitBuilt.{octet_here}
use Rattle.ax_printed_lines.proofs.explicit.octet_of.Goals as goal

pub returns : goal.returns
returns c = octet_here c.args.high c.args.low c.in_ok-high.high c.in_ok-low.low c.in_ok-high.ensures.0 c.in_ok-high.ensures.1 c.in_ok-low.ensures.0 c.in_ok-low.ensures.1
