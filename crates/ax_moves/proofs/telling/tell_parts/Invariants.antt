use Rattle.std.proofs.Common.{◌-◌, ◌≤◌, drop, length, IfSome}
use Rattle.ax_moves.proofs.TellingSteps.{KeysTold}
use Rattle.ax_moves.specs.Lost.{HasParts}
use Rattle.ax_walk.specs.Shown.{item_value}
use Rattle.ax_moves.proofs.telling.tell_parts.Given as goal

abbrev pub invariant-loop-index : goal.invariant-loop-index
invariant-loop-index l = record {
  told : KeysTold l.lost.name.block l.lost.name.number l.lost.depth (item_value l.item) l.lost.keys.now (drop l.index l.lost.keys.now) l.at l.end l.fn.lines l.lines;
  within : l.index ≤ length l.lost.keys.now;
  counted : IfSome l.counted (HasParts l.item);
}

abbrev pub decreases-loop-index : goal.decreases-loop-index
decreases-loop-index l = length l.lost.keys.now - l.index
