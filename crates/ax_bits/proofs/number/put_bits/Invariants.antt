use Rattle.std.proofs.Common.{◌≡◌, ◌-◌, ◌/◌, ◌^◌, ◌≤◌}
use Rattle.ax_bits.specs.Bits.{word, bits}
use Rattle.ax_bits.proofs.Steps.{overwritten}
use Rattle.ax_bits.proofs.number.put_bits.Given as goal

abbrev pub invariant-loop-left : goal.invariant-loop-left
invariant-loop-left l = record {
  within : l.left ≤ l.width;
  written :
      bits l.octets ≡ overwritten (bits l.fn.octets) l.at (word (l.width - l.left) (l.value / 2 ^ l.left)) (l.width - l.left);
}

abbrev pub decreases-loop-left : goal.decreases-loop-left
decreases-loop-left l = l.left
