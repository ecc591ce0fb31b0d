use Rattle.std.proofs.Common.{arith}
use Rattle.ax_format.specs.Plain.{fixed_tree, value_tree}
use Rattle.ax_fspec.proofs.AtOctets.{fixed_gets}
use Rattle.ax_values.proofs.units.decode_single.Goals as goal

pub returns-clause-ok : goal.returns-clause-ok
returns-clause-ok c =
    fixed_gets (fixed_tree c.args.fixed.now) c.args.body.now c.args.at c.in_ok-end.end (value_tree c.in_ok-value.value) (omega (arith, c.in_ok-end.ensures.ok)) (omega (arith, c.in_ok-end.ensures.ok)) (omega (arith, c.in_ok-end.ensures.ok, c.width.ensures, c.requires.bounds.1)) c.in_ok-value.ensures.value
