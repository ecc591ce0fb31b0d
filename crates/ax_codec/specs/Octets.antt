-- The octets of a fixed kind.
use Rattle.std.specs.Prelude.{ℕ, ◌/◌, ◌%◌, ◌==◌, if◌then◌else◌}
use Rattle.ax_codec.specs.Meaning.{fixed_bits}
use Rattle.ax_codec.specs.declared.node.Node.{Node}

-- the octets of a fixed kind of whole octets; else 0
abbrev pub octets_of : Node → ℕ
octets_of n = if fixed_bits n % 8 == 0 then fixed_bits n / 8 else 0
