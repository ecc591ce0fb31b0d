-- Bits that are laid over a lent buffer.
use Rattle.std.specs.Prelude.{◌≡◌, ℕ, ◌+◌, ◌*◌, List, ◌++◌, length, take, drop}
use Rattle.ax_bits.specs.Bits.{word, bits}
use Rattle.ax_printed_lines.specs.declared.laid.LaidBits.{LaidBits}

-- the bits that are laid: those of the whole octets, and those that are held
abbrev pub laid : LaidBits → List ℕ
laid out = bits (take out.count out.buffer.now) ++ word out.width out.held

-- the bits b are laid after those that were there
abbrev pub Lays : LaidBits → LaidBits → List ℕ → Type 0
Lays old new b = laid new ≡ laid old ++ b

-- room for so many octets is left after what was laid, which has n octets
pub record Leaves (old new : LaidBits) (n room : ℕ) : Type 0 where
  pub there : List ℕ
  pub lays : Lays old new there
  pub size : length there ≡ 8 * room
  pub before : length (laid old) ≡ 8 * n

-- the bits b come in place of the room of so many octets after the first n octets
abbrev pub Fills : LaidBits → LaidBits → ℕ → ℕ → List ℕ → Type 0
Fills old new n room b = laid new ≡ take (8 * n) (laid old) ++ (b ++ drop (8 * n + 8 * room) (laid old))
