use Rattle.ax_endpoints.proofs.Pieces.{same_text}
use Rattle.std.proofs.Common.{◌++◌, codes, ap}
use Rattle.ax_command.proofs.lines.write_editions.Goals as goal

pub returns : goal.returns
returns g c = same_text _ _ _ _ _ _ _ (ap (λ t. codes "refused editions" ++ t) c.two_categories.ensures) c.write_two.ensures
