use Rattle.std.proofs.Common.{ℕ, arith, length-drop}
use Rattle.std.proofs.lemmas.List.{length-take}
use Rattle.ax_tied_streams.proofs.Steps.{appends_next}
use Rattle.ax_tied_streams.proofs.puts.put.Goals as goal

pub loop-at-preserved : goal.loop-at-preserved
loop-at-preserved g c = record {
  within = omega (arith, c.in-Ok.ensures.bound, length-drop c.loop-at.at c.args.piece.now, length-take {A = ℕ}, c.loop-at.invariant.within);
  adds = appends_next _ _ _ c.args.piece.now c.loop-at.at c.in-Ok.count c.loop-at.invariant.adds c.in-Ok.ensures.bytes;
}
