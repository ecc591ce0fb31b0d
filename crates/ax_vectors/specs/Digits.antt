-- The digits of a hexadecimal text.
use Rattle.std.specs.Prelude.{ℕ, List, ◌==◌, not, filter}

-- a text without its blanks
abbrev pub without_blanks : List ℕ → List ℕ
without_blanks text = filter (λ octet. not (octet == 32)) text
