use Rattle.std.proofs.Common.{◌≡◌, subst, sym, arith}
use Rattle.std.proofs.lemmas.Option.{IfSome_then}
use Rattle.ax_printed_lines.proofs.Laying.{lays_none}
use Rattle.ax_bits.specs.Bits.{word}
use Rattle.ax_printed_lines.specs.Laid.{Lays}
use Rattle.ax_format.proofs.Completions.{fx_few}
use Rattle.ax_format.specs.Widths.{fx_width}
use Rattle.ax_printed_lines.proofs.pieces.last_fx_built.Goals as goal

pub returns-then-fx_width-eq0 : goal.returns-then-fx_width-eq0
returns-then-fx_width-eq0 c =
    let none : fx_width c.args.last c.args.others ≡ 0 = omega (arith, c.fx_width.ensures) in
    subst (λ n. Lays c.args.out.now c.args.out.now (word n 0)) (sym none) (lays_none c.args.out.now)

pub returns : goal.returns
returns c =
    let one : fx_width c.args.last c.args.others ≡ 1 = omega (arith, c.fx_width.ensures, fx_few c.args.last c.args.others) in
    IfSome_then c.fx_built.result c.fx_built.ensures (λ done a. subst (λ n. Lays c.args.out.now c.fx_built.new.out (word n 0)) (sym one) a)
