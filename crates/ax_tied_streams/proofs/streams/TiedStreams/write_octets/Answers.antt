use Rattle.std.proofs.Common.{take, arith}
use Rattle.ax_tied_streams.specs.Orders.{after_octets}
use Rattle.ax_tied_streams.proofs.Writes.{goes_on_octets, goes_on_then, taken_whole, taken_front}
use Rattle.ax_tied_streams.proofs.streams.TiedStreams.write_octets.Goals as goal

pub returns-then-piece-len-clause-history : goal.returns-then-piece-len-clause-history
returns-then-piece-len-clause-history g c = let e = c.hold_octets.ensures in
    goes_on_octets c.hold_octets.result _ _ c.args.piece.now c.args.piece.now (taken_whole c.hold_octets.result c.args.piece.now e.whole) e.sound e.holds e.holds_nothing

pub returns-clause-history : goal.returns-clause-history
returns-clause-history g c = let e = c.hold_octets-2.ensures in
    goes_on_then (after_octets c.args.piece.now c.hold_octets-2.result) _ _ _ c.write_held.ensures.history
    (goes_on_octets c.hold_octets-2.result _ _ c.args.piece.now (take c.min.result c.args.piece.now)
    (taken_front c.hold_octets-2.result c.args.piece.now c.min.result (omega (arith, c.min.ensures)) e.whole) e.sound e.holds e.holds_nothing)
