-- Where nothing stands in the way of a run over lines.
use Rattle.std.specs.Prelude.{◌≡◌, ℕ, ◌⊎◌, List, Some}
use Rattle.ax_lines.specs.Lined.{all_lines, Lined}
use Rattle.ax_lines.specs.Commands.{LineAnswer, LineCommand, HasOneAnswer, output_of, results_of, AreAnswered}
use Rattle.ax_lines.specs.Ending.{longest_line, longest_input}
use Rattle.ax_lines.specs.declared.end.LinesEnd.{LinesEnd}
use Rattle.ax_lines.specs.declared.end.LinesEnd.TheVariants.{Done, OutOfMemory}
use Rattle.ax_endpoints.specs.Changes.{SourceChange, SinkChange, Gains}
use Rattle.ax_endpoints.specs.Told.{Rose}

-- done with these answers, and what they give was written
pub record IsDoneWith {F : Type 0} (answers : List (LineAnswer F)) (o : SinkChange) (e : LinesEnd F) : Type 0 where
  pub done : e ≡ Done (results_of answers)
  pub out : Gains o (output_of answers)

-- where no line has two answers, the input is cut into lines that the command answers, and no count rose, the run is done with
-- all of them, or memory was wanting
abbrev pub Completes : {F : Type 0} → LineCommand F → ℕ → ℕ → SourceChange → SinkChange → LinesEnd F → Type 0
Completes c line_limit limit i o e =
    HasOneAnswer c
    → (input : List ℕ) (lines : List (List ℕ)) (answers : List (LineAnswer _)) → i.left ≡ Some input → Lined line_limit limit 0 input lines all_lines → AreAnswered c lines answers → ¬ (Rose i.faults i.faults') → ¬ (Rose o.faults o.faults')
    → (e ≡ OutOfMemory) ⊎ IsDoneWith answers o e

-- the same within the limits of every input
abbrev pub CompletesWhole : {F : Type 0} → LineCommand F → SourceChange → SinkChange → LinesEnd F → Type 0
CompletesWhole c i o e = Completes c longest_line longest_input i o e
