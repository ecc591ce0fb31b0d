-- What the work on one line does.
use Rattle.std.specs.Prelude.{◌≡◌, ℕ, ◌+◌, ◌≤◌, List, Bool, true, false, Result, Ok, Err}
use Rattle.ax_lines.specs.Commands.{LineCommand, LineAnswer, gives, nothing, refused, octets_in, results_in, IsAnswered}
use Rattle.ax_lines.specs.declared.end.LinesEnd.{LinesEnd}
use Rattle.ax_lines.specs.declared.end.LinesEnd.TheVariants as EndOf
use Rattle.ax_lines.specs.declared.work.LineStop.{LineStop}
use Rattle.ax_lines.specs.declared.work.LineStop.TheVariants.{Refused, OutOfMemory}
use Rattle.ax_endpoints.specs.Changes.{SinkChange, Gains, GainsNothing, GainsPart}

-- the work's answer is the command's: the octets are laid, or there are none, or the line is refused
abbrev pub TakesLine : {F : Type 0} → LineCommand F → ℕ → List ℕ → List ℕ → Result Bool (LineStop F) → Type 0
TakesLine c number octets laid (Ok true) = c number octets (gives laid)
TakesLine c number octets laid (Ok false) = c number octets nothing
TakesLine c number octets laid (Err (Refused fault)) = c number octets (refused fault)
TakesLine c number octets laid (Err OutOfMemory) = Unit {0}

-- the line is answered, and its result was written, with no fault
pub record IsWritten {F : Type 0} (c : LineCommand F) (number : ℕ) (octets : List ℕ) (o : SinkChange) (results : ℕ) : Type 0 where
  pub answer : LineAnswer F
  pub is : c number octets answer
  pub answered : IsAnswered answer
  pub gained : Gains o (octets_in answer)
  pub counted : results ≡ results_in answer
  pub quiet : o.faults' ≡ o.faults

-- the line ends the run: it is refused, or its octets weren't all written, for one fault, or memory was wanting
pub data EndsAt {F : Type 0} (c : LineCommand F) (number : ℕ) (octets : List ℕ) (o : SinkChange) (e : LinesEnd F) : Type 0 where
  refusing : (fault : F) → e ≡ EndOf.Refused number fault → c number octets (refused fault) → GainsNothing o → o.faults' ≡ o.faults → EndsAt c number octets o e
  writing : (laid : List ℕ) → e ≡ EndOf.WriteFault → c number octets (gives laid) → GainsPart o laid → o.faults' ≤ o.faults + 1 → EndsAt c number octets o e
  for_memory : e ≡ EndOf.OutOfMemory → GainsNothing o → o.faults' ≡ o.faults → EndsAt c number octets o e

abbrev pub DoesLine : {F : Type 0} → LineCommand F → ℕ → List ℕ → SinkChange → Result ℕ (LinesEnd F) → Type 0
DoesLine c number octets o (Ok results) = IsWritten c number octets o results
DoesLine c number octets o (Err e) = EndsAt c number octets o e
