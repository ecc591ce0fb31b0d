use Rattle.std.proofs.Common.{◌&&◌, nat_lt, length, sym, ◌∙◌, ap}
use Rattle.std.proofs.Math.Bool.{and-true}
use Rattle.ax_format.proofs.FittingLists.{all_below}
use Rattle.ax_format.proofs.fitting.fits_content.Goals as goal

pub returns : goal.returns
returns c = sym (ap (λ b. nat_lt (length c.args.octets.now) 255 && b) (all_below _ c.type_inv.octets) ∙ and-true _)
