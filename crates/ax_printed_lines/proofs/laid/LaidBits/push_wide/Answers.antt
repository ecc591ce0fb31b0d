use Rattle.std.proofs.Common.{◌-◌, ◌^◌, ◌/◌, ◌%◌, arith}
use Rattle.std.proofs.lemmas.Option.{IfSome_then}
use Rattle.ax_bits.specs.Bits.{word}
use Rattle.ax_printed_lines.proofs.Laying.{lays_more, lower_part, upper_below}
use Rattle.ax_printed_lines.proofs.laid.LaidBits.push_wide.Goals as goal

pub push_upper-requires-clause-fits : goal.push_upper-requires-clause-fits
push_upper-requires-clause-fits c = upper_below c.args.width c.args.value (omega (arith, c.requires.width.0)) c.requires.fits

pub returns : goal.returns
returns c = IfSome_then c.push.result c.push.ensures (λ done. lays_more c.args.self.now c.push_upper.new.self c.push.new.self (word (c.args.width - 32) (c.args.value / 2 ^ 32)) (word 32 (c.args.value % 2 ^ 32)) (word c.args.width c.args.value) (lower_part c.args.width c.args.value (omega (arith, c.requires.width.0))) c.in_ok-push_upper.ensures)
