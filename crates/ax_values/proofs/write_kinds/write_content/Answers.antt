use Rattle.std.proofs.Common.{◌+◌, ◌≤◌, length, arith, ap, subst}
use Rattle.ax_bits.proofs.Words.{length-bits}
use Rattle.ax_bits.specs.Bits.{bits}
use Rattle.ax_bits.specs.Out.{Appends, room}
use Rattle.ax_values.proofs.WrittenKinds.{octet_and, rest_room}
use Rattle.ax_values.proofs.write_kinds.write_content.Goals as goal

pub push_octets-requires : goal.push_octets-requires
push_octets-requires c =
    let xs = c.args.content.now in
    let left : length (bits xs) ≤ room c.push_octet.new.self = rest_room c.args.out.now c.push_octet.new.self (1 + length xs) (c.count.result + 1) (bits xs) c.requires.room c.push_octet.ensures in
    omega (arith, length-bits xs, ap length c.as_slice.ensures.members)

pub returns : goal.returns
returns c =
    let xs = c.args.content.now in
    octet_and c.args.out.now c.push_octet.new.self c.push_octets.new.self (c.count.result + 1) (1 + length xs) (bits xs) (omega (arith, c.count.ensures)) c.push_octet.ensures (subst (λ ys. Appends c.push_octet.new.self c.push_octets.new.self (bits ys)) c.as_slice.ensures.members c.push_octets.ensures)
