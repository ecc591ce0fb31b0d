-- A number under one scale as a number under another (this project's own rule). A number of an element stands for itself, read by
-- its sign, times the scale's numerator over its denominator. Its converted number stands for exactly as much under the new
-- scale: nothing is rounded. Where no number of the new width and sign does, there is none. The unit is no part of the rule.
use Rattle.std.specs.Prelude.{◌≡◌, ℕ, ◌*◌, ◌^◌, ◌<◌, ℤ, pos, negsuc, ◌*ℤ◌, neg_ℤ}
use Rattle.ax_format.specs.Signs.{by_sign}
use Rattle.ax_format.specs.declared.content.Scale.{Scale}
use Rattle.ax_format.specs.declared.content.Sign.{Sign}

-- m in u bits stands for as much under the new scale as n in w bits does under the old one: both are quotients, and
-- multiplied by the two denominators they are equal
pub record IsConverted (w : ℕ) (old : Scale) (n u : ℕ) (new : Scale) (m : ℕ) : Type 0 where
  pub fits : m < 2 ^ u
  pub same : by_sign new.sign u m *ℤ pos (new.num * old.den) ≡ by_sign old.sign w n *ℤ pos (old.num * new.den)

-- ---- on the way

-- m in u bits means z
pub record IsSpelled (sign : Sign) (u : ℕ) (z : ℤ) (m : ℕ) : Type 0 where
  pub fits : m < 2 ^ u
  pub means : by_sign sign u m ≡ z

-- a size with the sign of a number
abbrev pub with_sign_of : ℤ → ℕ → ℤ
with_sign_of (pos n) size = pos size
with_sign_of (negsuc n) size = neg_ℤ (pos size)
