-- The line of an entry that a converted record doesn't have (this project's own rule): what is said of it, the number of the
-- block, the number of the record in it, and the path.
use Rattle.std.specs.Prelude.{ℕ, Bool, true, false, List, codes}
use Rattle.ax_report.specs.Lines.{entry_line}
use Rattle.ax_rescale.specs.declared.miss.Miss.{Miss}

abbrev pub missed_word : Bool → List ℕ
missed_word true = codes "unconverted"
missed_word false = codes "lost"

abbrev pub missed_line : ℕ → Miss → List ℕ
missed_line block m = entry_line (missed_word m.unconverted) block m.record_at m.path
