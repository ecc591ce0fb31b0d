-- One line, taken and written.
use Rattle.std.proofs.Common.{◌≡◌, ℕ, ◌+◌, ◌<◌, ◌≤◌, List, Option, length, take, refl, sym, ◌∙◌, ap, subst, arith, Bool, true, Ok}
use Rattle.ax_lines.specs.Commands.{LineCommand, gives, nothing}
use Rattle.ax_lines.specs.Taking.{TakesLine, IsWritten, EndsAt, writing}
use Rattle.ax_lines.specs.declared.end.LinesEnd.TheVariants as EndOf
use Rattle.ax_endpoints.proofs.Ends.{with_end-nil}
use Rattle.ax_endpoints.specs.Changes.{SinkChange}
use Rattle.ax_endpoints.specs.Told.{with_end, Rose}

abbrev pub change : Option (List ℕ) → Option (List ℕ) → ℕ → ℕ → SinkChange
change held held' faults faults' = record { held = held; held' = held'; faults = faults; faults' = faults' }

module _ {F : Type 0} (c : LineCommand F) (number : ℕ) (octets : List ℕ) where
  -- the work says that there is a result
  pub takes_result : (laid : List ℕ) (b : Bool) → b ≡ true → TakesLine c number octets laid (Ok b) → c number octets (gives laid)
  takes_result laid b is h = let P : Bool → Type 0 = λ x. TakesLine c number octets laid (Ok x) in subst P is h

  pub result_written : (held held' : Option (List ℕ)) (faults faults' : ℕ) (laid piece : List ℕ) → c number octets (gives laid) → piece ≡ laid → held' ≡ with_end held piece → faults' ≡ faults → IsWritten c number octets (change held held' faults faults') 1
  result_written held held' faults faults' laid piece answer is added quiet = record {
    answer = gives laid;
    is = answer;
    answered = tt;
    gained = added ∙ ap (with_end held) is;
    counted = refl;
    quiet = quiet;
  }

  pub nothing_written : (held : Option (List ℕ)) (faults : ℕ) → c number octets nothing → IsWritten c number octets (change held held faults faults) 0
  nothing_written held faults answer = record {
    answer = nothing;
    is = answer;
    answered = tt;
    gained = sym (with_end-nil held);
    counted = refl;
    quiet = refl;
  }

  pub result_cut : (held held' : Option (List ℕ)) (faults faults' : ℕ) (laid piece : List ℕ) → c number octets (gives laid) → piece ≡ laid → (n : ℕ) × (n < length piece) × (held' ≡ with_end held (take n piece)) → Rose faults faults' → faults' ≤ faults + 1
      → EndsAt c number octets (change held held' faults faults') EndOf.WriteFault
  result_cut held held' faults faults' laid piece answer is (n, less, added) rose once =
      let size : length piece ≡ length laid = ap length is in
      writing laid refl answer (record { count = n; within = omega arith; gained = added ∙ ap (λ l. with_end held (take n l)) is; rose = rose }) once

pub ruleset line_steps = (result_written, nothing_written, result_cut)
