-- Each step reads the bits that are left in one octet, or fewer at the end.
use Rattle.std.proofs.Common.{◌≡◌, ◌+◌, ◌-◌, ◌%◌, take, drop, arith, ap, ◌∙◌}
use Rattle.ax_bits.specs.Bits.{word, bits}
use Rattle.ax_bits.proofs.Steps.{room_above, joined_below, next_piece, read_more}
use Rattle.ax_bits.proofs.number.bits_at.Goals as goal

pub appended-number-requires-clause-fits : goal.appended-number-requires-clause-fits
appended-number-requires-clause-fits c =
    room_above c.loop-read.number c.loop-read.read c.min-count.result c.loop-read.invariant.below (omega arith)

pub loop-read-preserved : goal.loop-read-preserved
loop-read-preserved c =
    let number = c.loop-read.number in
    let read = c.loop-read.read in
    let count = c.min-count.result in
    let piece = c.piece_of.result in
    let from = c.args.at + read in
    let rest = 8 - from % 8 - count in
    let next : word count piece ≡ take count (drop from (bits c.args.octets.now))
    = ap (word count) c.piece_of.ensures.value ∙ next_piece c.args.octets.now from count rest (omega arith) (omega arith) in
    record {
      within = omega arith;
      below = rw c.appended-number.ensures (joined_below read count number piece c.loop-read.invariant.below c.piece_of.ensures.below);
      number =
          rw c.appended-number.ensures
          (read_more (bits c.args.octets.now) c.args.at read count number piece c.piece_of.ensures.below c.loop-read.invariant.number next);
    }
