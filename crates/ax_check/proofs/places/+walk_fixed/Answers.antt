use Rattle.std.proofs.Common.{rules}
use Rattle.ax_check.proofs.places.+walk_fixed.Goals as goal

pub returns-in_err-go_down : goal.returns-in_err-go_down
returns-in_err-go_down t c = search rules
