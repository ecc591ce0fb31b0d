-- What is printed of a run of bits: octets that its kind gives, and between them numbers of so many bits.
use Rattle.std.specs.Prelude.{◌≡◌, ℕ, ◌+◌, List, [], ◌∷◌, ◌++◌, Option, Some, None, take, drop, decimal}
use Rattle.ax_bits.specs.Bits.{bits, number_of}
use Rattle.ax_format.specs.InBounds.{IsWidth}
use Rattle.ax_format.specs.Tree.{FixedTree, element, group, MemberTree, MembersTree, no_members, member_and, named, spare}
use Rattle.ax_text_form.specs.ValueText.{opening, closing, spare_word, part_word}
use Rattle.ax_text_lines.specs.declared.bit_run.BitRun.{BitRun}
use Rattle.ax_text_lines.specs.declared.templates.TemplateStep.{TemplateStep}
use Rattle.ax_text_lines.specs.declared.templates.TemplateSteps.{TemplateSteps}

-- octets alone; or octets, a number of so many bits, and what comes after it
pub data Template : Type 0 where
  ends : List ℕ → Template
  and_number : List ℕ → ℕ → Template → Template

-- octets in front
abbrev pub before : List ℕ → Template → Template
before xs (ends ys) = ends (xs ++ ys)
before xs (and_number ys w r) = and_number (xs ++ ys) w r

-- ---- of kinds

-- each text after a space
abbrev pub text_then : List ℕ → Template → Template
text_then text r = before (0x20 ∷ text) r

abbrev pub number_then : ℕ → Template → Template
number_then w r = and_number (0x20 ∷ []) w r

abbrev mutual
  -- an element is its number, and a group its members in braces
  pub fixed_template : FixedTree → Template → Template
  fixed_template (element w c) r = number_then w r
  fixed_template (group ms) r = text_then opening (members_template ms (text_then closing r))

  -- a named member is its name and its value, and spare bits are `spare` and their number
  pub member_template : MemberTree → Template → Template
  member_template (named name f) r = text_then name (fixed_template f r)
  member_template (spare w) r = text_then spare_word (number_then w r)

  pub members_template : MembersTree → Template → Template
  members_template no_members r = r
  members_template (member_and m ms) r = member_template m (members_template ms r)

-- a part is `part` and its members in braces
abbrev pub part_template : MembersTree → Template → Template
part_template p r = text_then part_word (text_then opening (members_template p (text_then closing r)))

-- ---- of bits

-- the octets that are printed of the numbers that the bits begin with
abbrev pub printed : Template → List ℕ → List ℕ
printed (ends xs) b = xs
printed (and_number xs w r) b = xs ++ (decimal (number_of (take w b)) ++ printed r (drop w b))

-- those of a run of bits, and what comes after them
abbrev pub bits_from : BitRun → List ℕ
bits_from run = drop run.at (bits run.body.now)

-- the bits of the numbers together
abbrev pub template_width : Template → ℕ
template_width (ends xs) = 0
template_width (and_number xs w r) = w + template_width r

abbrev pub TemplateInBounds : Template → Type 0
TemplateInBounds (ends xs) = Unit {0}
TemplateInBounds (and_number xs w r) = IsWidth w × TemplateInBounds r

-- ---- as it is held

abbrev pub with_number : List ℕ → Option ℕ → Template → Template
with_number xs None r = before xs r
with_number xs (Some w) r = and_number xs w r

abbrev pub step_then : TemplateStep → Template → Template
step_then s r = with_number (take s.literal.count s.literal.octets) s.number r

abbrev pub steps_then : List TemplateStep → Template → Template
steps_then [] r = r
steps_then (s ∷ ss) r = step_then s (steps_then ss r)

-- steps are all of it
abbrev pub template_of : List TemplateStep → Template
template_of ss = steps_then ss (ends [])

-- steps, and the octets after them
abbrev pub whole_template : TemplateSteps → Template
whole_template s = steps_then s.steps (ends (take s.tail.count s.tail.octets))

-- the octets in front of each number and its bits, and the octets at the end
abbrev pub numbers_of : Template → List (List ℕ × ℕ)
numbers_of (ends xs) = []
numbers_of (and_number xs w r) = (xs, w) ∷ numbers_of r

abbrev pub end_of : Template → List ℕ
end_of (ends xs) = xs
end_of (and_number xs w r) = end_of r

-- steps are that template
abbrev pub AreSteps : Template → TemplateSteps → Type 0
AreSteps t ss = (numbers_of (whole_template ss) ≡ numbers_of t) × (end_of (whole_template ss) ≡ end_of t)

-- the bits of the number of a step, and its digits
abbrev pub number_width : Option ℕ → ℕ
number_width None = 0
number_width (Some w) = w

abbrev pub number_text : Option ℕ → List ℕ → List ℕ
number_text None b = []
number_text (Some w) b = decimal (number_of (take w b))

-- the octets of a step, with its number
abbrev pub step_text : TemplateStep → List ℕ → List ℕ
step_text s b = take s.literal.count s.literal.octets ++ number_text s.number b

abbrev pub NumberInBounds : Option ℕ → Type 0
NumberInBounds None = Unit {0}
NumberInBounds (Some w) = IsWidth w
