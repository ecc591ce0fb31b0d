use Rattle.std.proofs.lemmas.Option.{IfSome_then}
use Rattle.ax_printed_lines.proofs.FixedBuilt.{number_is_built}
use Rattle.ax_printed_lines.proofs.pieces.number_built.Goals as goal

pub returns : goal.returns
returns c =
    IfSome_then c.number_laid.result c.number_laid.ensures (λ done h. number_is_built c.args.width c.in_ok-number.number c.args.cursor.now c.number.new.self c.args.out.now c.number_laid.new.out h.0 c.in_ok-number.ensures h.1)
