-- The endings that may come of single commands alone, said a second time: a row of yes and no for each command.
use Rattle.std.specs.Prelude.{ℕ, Bool, true, false}
use Rattle.ax_app.specs.Running.{TakesMemory, MayCome}
use Rattle.ax_command.specs.declared.outcome.Outcome.TheVariants.{ReportFault, MigratedTooLong, TextRefused, FilterRefused, OtherCategory, ExpansionUnused}
use Rattle.ax_expressions.specs.declared.stop.FilterFault.{FilterFault}
use Rattle.ax_lines.specs.declared.text_fault.TextFault.{TextFault}
use Rattle.ax_words.specs.declared.line.Line.{Line}

pub record Endings : Type 0 where
  -- memory is wanting after an octet of the input was taken
  pub late_want_of_memory : Bool
  -- a line of a block can't be written
  pub failed_line : Bool
  -- a record of the new edition is too long for a block
  pub refused_length : Bool
  -- a line of the input is refused
  pub refused_line : Bool
  -- before the input: the expression, two categories, a category without RE
  pub refused_expression : Bool
  pub refused_categories : Bool
  pub refused_expansion : Bool

abbrev pub none : Endings
none = record { late_want_of_memory = false; failed_line = false; refused_length = false; refused_line = false; refused_expression = false; refused_categories = false; refused_expansion = false }

-- it may be so where the row says yes, and can't be where it says no
abbrev pub Says : Bool → Type 0 → Type 0
Says true P = P
Says false P = P → ⊥

-- each field of the row holds of the line
abbrev pub HasEndings : Line → Endings → Type 0
HasEndings line row = Says row.late_want_of_memory (TakesMemory line)
    × Says row.failed_line (MayCome ReportFault line)
    × ((block octets : ℕ) → Says row.refused_length (MayCome (MigratedTooLong block octets) line))
    × ((number : ℕ) (fault : TextFault) → Says row.refused_line (MayCome (TextRefused number fault) line))
    × ((fault : FilterFault) → Says row.refused_expression (MayCome (FilterRefused fault) line))
    × ((old new : ℕ) → Says row.refused_categories (MayCome (OtherCategory old new) line))
    × ((category : ℕ) → Says row.refused_expansion (MayCome (ExpansionUnused category) line))
