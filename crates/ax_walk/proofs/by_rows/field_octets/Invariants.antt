use Rattle.std.proofs.Common.{◌≡◌, ℕ, ◌+◌, ◌-◌, ◌%◌, ◌<◌, ◌≤◌, length, get_or}
use Rattle.ax_format.specs.Presence.{octets_needed}
use Rattle.ax_walk.proofs.by_rows.field_octets.Given as goal

abbrev pub invariant-loop-index : goal.invariant-loop-index
invariant-loop-index l = record {
  few : l.index ≤ octets_needed l.slots;
  within : l.start.at + l.index ≤ length l.start.body.now;
  goes_on : (j : ℕ) → j < l.index → get_or l.start.body.now (l.start.at + j) 0 % 2 ≡ 1;
}

abbrev pub decreases-loop-index : goal.decreases-loop-index
decreases-loop-index l = l.slots - l.index
