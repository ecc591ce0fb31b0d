-- Which bits tell a fault.
use Rattle.std.specs.Prelude.{◌≡◌, ℕ, ◌≤◌, List, ◌++◌, length}
use Rattle.ax_format.specs.declared.fault.BodyCause.{BodyCause}
use Rattle.ax_format.specs.declared.fault.BodyCause.TheVariants.{RunsOut, UndefinedSlot, PresenceTooLong, ExtensionPastEnd, BadExplicitLength}

-- how many bits from the place on tell a fault: the bit itself, or the whole length octet; want of bits isn't told by any
abbrev pub fault_bits : BodyCause → ℕ
fault_bits BadExplicitLength = 8
fault_bits RunsOut = 0
fault_bits UndefinedSlot = 1
fault_bits PresenceTooLong = 1
fault_bits ExtensionPastEnd = 1

-- two lists begin alike for n bits
pub record BeginAlike (n : ℕ) (b d : List ℕ) : Type 0 where
  pub common : List ℕ
  pub left : List ℕ
  pub right : List ℕ
  pub long : n ≤ length common
  pub first : b ≡ common ++ left
  pub second : d ≡ common ++ right
