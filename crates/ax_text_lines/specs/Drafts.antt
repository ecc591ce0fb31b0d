-- Templates as they are put together.
use Rattle.std.specs.Prelude.{◌≡◌, ℕ, Option, take}
use Rattle.ax_text_lines.specs.Templates.{Template, before, steps_then, with_number}
use Rattle.ax_text_lines.specs.declared.templates.Draft.{Draft}

-- with that template after what is drafted
abbrev pub drafted : Draft → Template → Template
drafted draft r = steps_then draft.steps (before (take draft.literal.count draft.literal.octets) r)

-- so much was appended
pub record Adds (f : Template → Template) (old new : Draft) : Type 0 where
  pub add : (r : Template) → drafted new r ≡ drafted old (f r)

-- one more step was made, of the octets after the steps and of a number after them, or of none
abbrev pub MakesStep : Option ℕ → Draft → Draft → Type 0
MakesStep number old new = (r : Template) → steps_then new.steps r ≡ steps_then old.steps (with_number (take old.literal.count old.literal.octets) number r)
