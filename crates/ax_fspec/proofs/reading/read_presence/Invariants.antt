use Rattle.std.proofs.Common.{◌≡◌, ◌≤◌, ◌-◌, drop}
use Rattle.ax_format.specs.Presence.{octets_needed}
use Rattle.ax_fspec.specs.Fields.{mask_slots}
use Rattle.ax_fspec.proofs.FieldsRead.{ReadSoFar}
use Rattle.ax_fspec.proofs.reading.read_presence.Given as goal

abbrev pub invariant-loop-index : goal.invariant-loop-index
invariant-loop-index l = record {
  few : l.index ≤ octets_needed l.mask.count;
  unchanged : l.into ≡ l.fn.into;
  read : ReadSoFar (mask_slots l.mask) (drop l.at l.body) l.index l.marked;
}

abbrev pub decreases-loop-index : goal.decreases-loop-index
decreases-loop-index l = 126 - l.index
