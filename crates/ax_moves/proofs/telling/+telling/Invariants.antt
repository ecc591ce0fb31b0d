use Rattle.std.proofs.Common.{◌+◌, ◌-◌, ◌*◌, ◌≤◌, drop, length}
use Rattle.ax_moves.proofs.LostRuns.{deepest}
use Rattle.ax_moves.proofs.TellingSteps.{KeysTold}
use Rattle.ax_moves.specs.Wholes.{whole_entries}
use Rattle.ax_format.specs.Tree.{marked}
use Rattle.ax_moves.proofs.telling.+telling.Given as goal

abbrev pub invariant-tell_keys-loop-index : goal.invariant-tell_keys-loop-index
invariant-tell_keys-loop-index l = record {
  told : KeysTold l.lost.name.block l.lost.name.number l.lost.depth (marked (whole_entries l.whole)) l.lost.keys.now (drop l.index l.lost.keys.now) l.at l.end l.fn.lines l.lines;
  within : l.index ≤ length l.lost.keys.now;
}

abbrev pub decreases-tell_keys-loop-index : goal.decreases-tell_keys-loop-index
decreases-tell_keys-loop-index l = length l.lost.keys.now - l.index

abbrev pub decreases-tell_keys : goal.decreases-tell_keys
decreases-tell_keys l = 3 * (deepest l.lost.now.keys.now - l.lost.now.depth)

abbrev pub decreases-tell_inside : goal.decreases-tell_inside
decreases-tell_inside l = 3 * (deepest l.lost.now.keys.now - l.lost.now.depth) + 2

abbrev pub decreases-tell_subitems : goal.decreases-tell_subitems
decreases-tell_subitems l = 3 * (deepest l.lost.now.keys.now - l.lost.now.depth) + 1
