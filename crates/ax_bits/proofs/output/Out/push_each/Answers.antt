use Rattle.std.proofs.Common.{◌+◌, ◌<◌, ◌≤◌, arith, length, take, get_or}
use Rattle.std.proofs.lemmas.List.{length-take-le}
use Rattle.ax_bits.specs.Bits.{word, bits}
use Rattle.ax_bits.proofs.Words.{length-bits}
use Rattle.ax_bits.proofs.Pieces.{bits_more}
use Rattle.ax_bits.proofs.Outputs.{appends_more}
use Rattle.ax_bits.proofs.output.Out.push_each.Goals as goal

pub push_bits-requires-clause-room : goal.push_bits-requires-clause-room
push_bits-requires-clause-room c =
    let octets = c.args.octets.now in
    let i = c.loop-octet.octet-index in
    let within : i ≤ length octets = omega arith in
    omega (arith, c.loop-octet.invariant.room, length-bits (take i octets), length-take-le i octets within)

pub loop-octet-preserved : goal.loop-octet-preserved
loop-octet-preserved c =
    let octets = c.args.octets.now in
    let i = c.loop-octet.octet-index in
    let inside : i < length octets = omega arith in
    appends_more c.args.self.now c.loop-octet.self _ (bits (take i octets)) (word 8 (get_or octets i 0)) (bits (take (i + 1) octets))
    (bits_more octets i inside) c.loop-octet.invariant c.push_bits.ensures
