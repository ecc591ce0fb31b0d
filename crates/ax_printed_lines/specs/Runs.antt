-- Numbers that are read by the steps of a template.
use Rattle.std.specs.Prelude.{◌≡◌, ℕ, ◌+◌, ◌-◌, ◌*◌, ◌^◌, ◌<◌, ◌≤◌, List, ◌∷◌, ◌++◌, take, drop}
use Rattle.ax_bits.specs.Bits.{word}
use Rattle.ax_printed_lines.specs.Printed.{Place}
use Rattle.ax_text_lines.specs.declared.literal.TemplateLiteral.{TemplateLiteral}
use Rattle.ax_text_lines.specs.Templates.{Template, printed, template_width}

-- a literal's octets, from octet i of them on
abbrev pub literal_from : TemplateLiteral → ℕ → List ℕ
literal_from literal i = take (literal.count - i) (drop i literal.octets)

-- what a template prints of a number's bits stands in front, and then what is left
pub record IsRead (t : Template) (n : ℕ) (octets left : List ℕ) : Type 0 where
  pub below : n < 2 ^ template_width t
  pub text : octets ≡ printed t (word (template_width t) n) ++ left

-- the same, where the number's bits come behind those of another
pub record IsReadBehind (t : Template) (first n : ℕ) (octets left : List ℕ) : Type 0 where
  pub more : ℕ
  pub value : n ≡ first * 2 ^ template_width t + more
  pub read : IsRead t more octets left

-- the same from a place on, in front of whose token a space is thought: what is left comes behind a space, and the braces there may
-- open 9 times more
pub record RunGoes (t : Template) (n : ℕ) (old new : Place) : Type 0 where
  pub read : IsRead t n (0x20 ∷ old.left) (0x20 ∷ new.left)
  pub level : new.level ≡ old.level
  pub room : old.level + 9 ≤ 20
