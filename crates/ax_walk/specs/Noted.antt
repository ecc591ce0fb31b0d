-- What the walk over a record notes.
use Rattle.std.specs.Prelude.{◌≡◌, Bool, IsTrue, ℕ, List}
use Rattle.ax_bits.specs.Bits.{bits}
use Rattle.ax_format.specs.Canonical.{canon}
use Rattle.ax_codec.specs.Table.{record_kind_at}
use Rattle.ax_codec.specs.declared.codec.Codec.{Codec}
use Rattle.ax_walk.specs.Values.{value_in}

-- the canonical spelling of the record that the octets spell
abbrev pub canon_in : Codec → List ℕ → List ℕ
canon_in codec octets = canon (record_kind_at codec.nodes codec.slots) (value_in (record_kind_at codec.nodes codec.slots) octets)

-- where the flag says so, the octets are that spelling
abbrev pub IsLeastRecord : Codec → List ℕ → Bool → Type 0
IsLeastRecord codec octets least = IsTrue least → canon_in codec octets ≡ bits octets
