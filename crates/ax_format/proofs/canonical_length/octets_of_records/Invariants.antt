use Rattle.std.proofs.Common.{◌≡◌, ◌≤◌, ◌+◌, drop}
use Rattle.ax_format.specs.Lengths.{capped, records_octets}
use Rattle.ax_format.proofs.canonical_length.octets_of_records.Given as goal

abbrev pub invariant-loop-one : goal.invariant-loop-one
invariant-loop-one l =
    (capped (l.total + records_octets l.spec (drop l.one-index l.records)) ≡ capped (records_octets l.spec l.records)) × (l.total ≤ 18446744073709551615)
