-- What the bits of an element mean by its sign.
use Rattle.std.specs.Prelude.{ℕ, ℤ, pos}
use Rattle.ax_bits.specs.Bits.{signed}
use Rattle.ax_format.specs.declared.content.Sign.{Sign}
use Rattle.ax_format.specs.declared.content.Sign.TheVariants.{Unsigned, Signed}

-- of w bits that spell n: the number, or in two's complement
abbrev pub by_sign : Sign → ℕ → ℕ → ℤ
by_sign Unsigned w n = pos n
by_sign Signed w n = signed w n
