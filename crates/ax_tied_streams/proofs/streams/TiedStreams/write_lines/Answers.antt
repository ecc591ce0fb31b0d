use Rattle.std.proofs.Common.{take, ap, ◌∙◌, arith}
use Rattle.std.proofs.Math.Seq.{take-length}
use Rattle.ax_tied_streams.specs.Orders.{after_lines}
use Rattle.ax_tied_streams.proofs.Writes.{front_taken, goes_on_lines, goes_on_then}
use Rattle.ax_tied_streams.proofs.streams.TiedStreams.write_lines.Goals as goal

pub returns-then-piece-len-clause-history : goal.returns-then-piece-len-clause-history
returns-then-piece-len-clause-history g c = let e = c.hold_lines.ensures in
    goes_on_lines c.hold_lines.result _ _ c.args.piece.now c.args.piece.now (ap (λ k. take k c.args.piece.now) e.whole ∙ take-length c.args.piece.now) e.holds

pub returns-clause-history : goal.returns-clause-history
returns-clause-history g c = let e = c.hold_lines-2.ensures in
    goes_on_then (after_lines c.args.piece.now c.hold_lines-2.result) _ _ _ c.write_held.ensures.history
    (goes_on_lines c.hold_lines-2.result _ _ c.args.piece.now (take c.min.result c.args.piece.now)
    (front_taken c.args.piece.now c.min.result c.hold_lines-2.result (omega (arith, c.min.ensures)) e.whole) e.holds)
