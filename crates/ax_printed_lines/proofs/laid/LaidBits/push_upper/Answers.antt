use Rattle.std.proofs.Common.{◌-◌, arith}
use Rattle.std.proofs.lemmas.Option.{IfSome_then}
use Rattle.ax_bits.specs.Bits.{word}
use Rattle.ax_printed_lines.proofs.Laying.{lays_more, zeros_in_front}
use Rattle.ax_printed_lines.proofs.laid.LaidBits.push_upper.Goals as goal

pub returns-then-width-gt-AT_ONCE : goal.returns-then-width-gt-AT_ONCE
returns-then-width-gt-AT_ONCE c =
    IfSome_then c.push-then-width-gt-AT_ONCE.result c.push-then-width-gt-AT_ONCE.ensures (λ done. lays_more c.args.self.now c.push.new.self c.push-then-width-gt-AT_ONCE.new.self (word (c.args.width - 56) 0) (word 56 c.args.value) (word c.args.width c.args.value)
    (zeros_in_front c.args.width c.args.value (omega arith) (omega (arith, c.requires.small))) c.in_ok-push.ensures)
