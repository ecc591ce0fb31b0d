use Rattle.std.proofs.Common.{rules}
use Rattle.ax_check.proofs.places.+walk_kind.Goals as goal

pub returns-in_err-go_down-in-Compound : goal.returns-in_err-go_down-in-Compound
returns-in_err-go_down-in-Compound t c = search rules
