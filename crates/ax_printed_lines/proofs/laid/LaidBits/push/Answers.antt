use Rattle.std.proofs.Common.{◌+◌, ◌<◌, ◌^◌, take, sym, subst, ◌∙◌, ◌++◌, ap, arith}
use Rattle.ax_bits.specs.Bits.{bits, word}
use Rattle.ax_printed_lines.proofs.Laying.{value_laid, joined_fits, joined_below}
use Rattle.ax_printed_lines.proofs.laid.LaidBits.push.Goals as goal

pub with_value-self-requires : goal.with_value-self-requires
with_value-self-requires c =
    let room = c.make_room.new.self in
    (omega arith, joined_fits room.held c.args.value c.args.width room.width room.within.2 c.in_ok-make_room.ensures.room c.requires.fits)

pub invariant_of-self : goal.invariant_of-self
invariant_of-self c =
    let room = c.make_room.new.self in
    let below = joined_below room.held c.args.value c.args.width room.width room.within.2 c.requires.fits in
    record { within = (room.within.0, omega (arith, c.in_ok-make_room.ensures.room), subst (λ n. n < 2 ^ (room.width + c.args.width)) (sym c.with_value-self.ensures) below) }

pub returns : goal.returns
returns c =
    let room = c.make_room.new.self in
    value_laid (bits (take room.count room.buffer.now)) room.width c.args.width room.held c.args.value c.with_value-self.result c.requires.fits c.with_value-self.ensures ∙ ap (λ w. w ++ word c.args.width c.args.value) c.in_ok-make_room.ensures.same
