use Rattle.ax_laws.proofs.Widths.{nine, ten}
use Rattle.ax_laws.proofs.limits.longest_width.Goals as goal

pub returns : goal.returns
returns c = record { nine = nine; ten = ten }
