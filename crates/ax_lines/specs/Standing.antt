-- Where the reader stands when a line is refused.
use Rattle.std.specs.Prelude.{◌≡◌, ℕ, List, length, Option, Some}
use Rattle.ax_lines.specs.Lined.{line, IsFedLine, IsNextLine}
use Rattle.ax_lines.specs.Reader.{ReaderState, IsOpen, ahead}
use Rattle.ax_lines.specs.Runs.{BeginsWith}
use Rattle.ax_lines.specs.declared.end.LinesEnd.{LinesEnd}
use Rattle.ax_lines.specs.declared.end.LinesEnd.TheVariants.{Refused}
use Rattle.ax_endpoints.specs.Changes.{SourceChange}

-- the line of that number was the last that was asked for: the reader holds what was taken past it, and wasn't asked again
pub record StandsAfter (line_limit limit : ℕ) (input : List ℕ) (left' : Option (List ℕ)) (reader : ReaderState) (number : ℕ) : Type 0 where
  pub lines : List (List ℕ)
  pub past : ℕ
  pub rest : List ℕ
  pub begins : BeginsWith line_limit limit 0 input lines past rest
  pub numbered : number ≡ length lines
  pub one : List ℕ
  pub after : List ℕ
  pub next : IsNextLine line_limit limit past rest (line one after)
  pub held : ahead reader.buffered left' ≡ Some after
  pub open_ : IsFedLine line_limit limit past rest one after → IsOpen reader

-- so it stands after the line that is refused, of a source that tells its input
abbrev pub StandsWhereRefused : {F : Type 0} → ReaderState → ReaderState → SourceChange → LinesEnd F → Type 0
StandsWhereRefused {F} old new i e = (input : List ℕ) (number : ℕ) (fault : F) → i.left ≡ Some input → e ≡ Refused number fault → StandsAfter old.line_limit old.limit input i.left' new number
