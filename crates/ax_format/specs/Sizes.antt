-- The greatest sizes of a data block, in octets: LEN has two octets, and counts CAT and itself.
use Rattle.std.specs.Prelude.{ℕ}

abbrev pub longest_block : ℕ
longest_block = 65535

-- without CAT and LEN
abbrev pub longest_body : ℕ
longest_body = 65532
