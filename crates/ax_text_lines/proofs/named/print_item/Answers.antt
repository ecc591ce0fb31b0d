use Rattle.std.proofs.Common.{◌*◌, arith, drop, refl}
use Rattle.ax_bits.specs.Bits.{bits}
use Rattle.ax_format.specs.Plain.{fixed_tree}
use Rattle.ax_format.specs.Reader.{fixed_value}
use Rattle.ax_fspec.proofs.AtOctets.{fixed_gets}
use Rattle.ax_text_lines.proofs.named.print_item.Goals as goal

pub returns-clause-ok : goal.returns-clause-ok
returns-clause-ok c =
    let f = fixed_tree c.args.item.now.fixed.now in record {
      value = fixed_value f (drop (8 * c.args.at) (bits c.args.body.now));
      read = fixed_gets f c.args.body.now c.args.at c.in_ok-end.end (fixed_value f (drop (8 * c.args.at) (bits c.args.body.now))) (omega (arith, c.in_ok-end.ensures.ok)) (omega (arith, c.in_ok-end.ensures.ok)) (omega (arith, c.in_ok-end.ensures.ok, c.args.item.now.wide, c.requires.bounds.1)) refl;
      put = c.in_ok-print_named.ensures;
    }
