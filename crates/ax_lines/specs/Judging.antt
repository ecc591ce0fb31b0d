-- What is said of octets that end with a line feed, or pass a limit, or end with the input.
use Rattle.std.specs.Prelude.{◌≡◌, ℕ, ◌+◌, ◌<◌, ◌≤◌, List, length, min, take, drop, Option, Some, None, Result, Ok, Err}
use Rattle.ax_lines.specs.Feeds.{IsFirstFeed}
use Rattle.ax_lines.specs.Lined.{all_lines, input_too_long, line_too_long, line, end}
use Rattle.ax_lines.specs.Reader.{Shows}
use Rattle.ax_lines.specs.declared.judging.Cut.{Cut}
use Rattle.ax_lines.specs.declared.line_error.LineError.{LineError}
use Rattle.ax_lines.specs.declared.line_error.LineError.TheVariants.{InputTooLong, LineTooLong, ReadFault}
use Rattle.ax_endpoints.specs.Told.{IsAtEnd}

-- after the first line feed, or after all of them
abbrev pub IsCut : Option ℕ → ℕ → Cut → Type 0
IsCut None count cut = (cut.line ≡ count) × (cut.whole ≡ count)
IsCut (Some at) count cut = (cut.line ≡ at) × (cut.whole ≡ at + 1)

-- the line that is cut off stands at the front, and what is after it and its line feed is left
pub record CutsLine (line_limit limit given : ℕ) (octets : List ℕ) (left : Option (List ℕ)) (cut : Cut) : Type 0 where
  pub order : cut.line ≤ cut.whole
  pub within : cut.whole ≤ length octets
  pub shows : Shows line_limit limit given octets left (line (take cut.line octets) (drop cut.whole octets))

abbrev pub Judges : ℕ → ℕ → ℕ → List ℕ → Option (List ℕ) → Result (Option Cut) LineError → Type 0
Judges line_limit limit given octets left (Ok (Some cut)) = CutsLine line_limit limit given octets left cut
Judges line_limit limit given octets left (Ok None) = Shows line_limit limit given octets left (end all_lines)
Judges line_limit limit given octets left (Err InputTooLong) = Shows line_limit limit given octets left (end input_too_long)
Judges line_limit limit given octets left (Err LineTooLong) = Shows line_limit limit given octets left (end line_too_long)
Judges line_limit limit given octets left (Err ReadFault) = ⊥

-- so they are judged, whatever they are: that many, with that first line feed among them, and `room` left of the limit on the
-- input; where they are fewer than what shows a limit passed, and no line feed is among them, none is left after them
abbrev pub JudgesShown : Option ℕ → ℕ → ℕ → ℕ → Result (Option Cut) LineError → Type 0
JudgesShown feed count line_limit room result = (limit given : ℕ) (octets : List ℕ) (left : Option (List ℕ)) → given + room ≡ limit → length octets ≡ count → IsFirstFeed octets feed
    → (feed ≡ None → count < min line_limit room + 1 → IsAtEnd left) → Judges line_limit limit given octets left result
