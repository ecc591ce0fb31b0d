use Rattle.std.proofs.Common.{◌≤◌}
use Rattle.ax_held_kinds.proofs.fields.field_octets.Given as goal

abbrev pub invariant-loop-octet : goal.invariant-loop-octet
invariant-loop-octet l = (1 ≤ l.octets) × (l.octets ≤ 18)
