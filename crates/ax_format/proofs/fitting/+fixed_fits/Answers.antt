use Rattle.std.proofs.Common.{◌∙◌}
use Rattle.ax_format.proofs.FittingLists.{members_end}
use Rattle.ax_format.proofs.fitting.+fixed_fits.Goals as goal

pub fits_members-returns : goal.fits_members-returns
fits_members-returns t c = c.is_empty.ensures ∙ members_end c.as_slice-member-items.result.now c.loop-member.member-index c.loop-member.rest.now _ c.loop-member-test.false c.loop-member.invariant
