use Rattle.std.proofs.Common.{◌-◌, ◌≡◌, ◌^◌, ◌<◌, ◌≤◌, take, drop}
use Rattle.ax_bits.specs.Bits.{word, bits}
use Rattle.ax_bits.proofs.number.bits_at.Given as goal

abbrev pub invariant-loop-read : goal.invariant-loop-read
invariant-loop-read l = record {
  within : l.read ≤ l.width;
  below : l.number < 2 ^ l.read;
  number : word l.read l.number ≡ take l.read (drop l.at (bits l.octets));
}

abbrev pub decreases-loop-read : goal.decreases-loop-read
decreases-loop-read l = l.width - l.read
