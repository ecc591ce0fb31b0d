use Rattle.std.proofs.Common.{◌++◌, codes, ap}
use Rattle.ax_endpoints.proofs.Pieces.{same_text}
use Rattle.ax_command.proofs.lines.write_unused.Goals as goal

pub returns : goal.returns
returns g c = same_text _ _ _ _ _ _ _ (ap (λ t. codes "refused expansion " ++ (t ++ codes "\n")) c.category_digits.ensures) c.write_three.ensures
