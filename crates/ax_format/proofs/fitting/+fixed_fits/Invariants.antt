use Rattle.std.proofs.Common.{◌≡◌, drop}
use Rattle.ax_format.specs.Fitting.{members_fit}
use Rattle.ax_format.specs.Plain.{members_tree, values_tree}
use Rattle.ax_format.proofs.fitting.+fixed_fits.Given as goal

abbrev pub invariant-fits_members-loop-member : goal.invariant-fits_members-loop-member
invariant-fits_members-loop-member l = members_fit (members_tree l.members) (values_tree l.values) ≡ members_fit (members_tree (drop l.member-index l.member-items)) (values_tree l.rest)
