-- An output over a lent buffer: bits that were written, and bits that are free.
use Rattle.std.specs.Prelude.{◌≡◌, ℕ, ◌+◌, ◌-◌, ◌*◌, List, ◌++◌, length, take, drop}
use Rattle.ax_bits.specs.Bits.{word, bits}
use Rattle.std.specs.Borrow.{GName}
use Rattle.ax_bits.specs.declared.output.Out.{Out}

-- the loan of the buffer: its lender has the buffer back as the last output of that loan left it
abbrev pub loan : Out → GName
loan out = out.buffer.ghost_name

-- the bits that were written
abbrev pub written : Out → List ℕ
written out = take out.count (bits out.buffer.now)

-- the bits of the lent buffer after those that were written
abbrev pub unwritten : Out → List ℕ
unwritten out = drop out.count (bits out.buffer.now)

-- how many bits are free
abbrev pub room : Out → ℕ
room out = 8 * length out.buffer.now - out.count

-- the bits b were written after those that were there; nothing else in the lent buffer has changed
pub record Appends (old new : Out) (b : List ℕ) : Type 0 where
  pub loan : loan new ≡ loan old
  pub written : written new ≡ written old ++ b
  pub unwritten : unwritten new ≡ drop (length b) (unwritten old)
  pub room : room new + length b ≡ room old

-- the written octet number at is x now; nothing else in the lent buffer has changed
pub record Replaces (old new : Out) (at x : ℕ) : Type 0 where
  pub loan : loan new ≡ loan old
  pub written : written new ≡ take (8 * at) (written old) ++ (word 8 x ++ drop (8 * at + 8) (written old))
  pub unwritten : unwritten new ≡ unwritten old
  pub room : room new ≡ room old
