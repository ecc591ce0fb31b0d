-- Octets taken from a source and buffered in a buffer, up to the end of a line.
use Rattle.std.specs.Prelude.{◌≡◌, ℕ, ◌+◌, ◌<◌, ◌≤◌, List, ◌++◌, length, slice_range, None}
use Rattle.ax_lines.specs.Feeds.{IsPlain, IsFirstFeed}
use Rattle.ax_lines.specs.declared.reading.Buffered.{Buffered}
use Rattle.ax_endpoints.specs.Changes.{SourceChange}
use Rattle.ax_endpoints.specs.Told.{with_front, IsAtEnd}

-- these octets were taken: they stood in front of what is left now, and the number of octets taken rose by their count
pub record Took (i : SourceChange) (octets : List ℕ) : Type 0 where
  pub gives : i.left ≡ with_front octets i.left'
  pub number : i.taken' ≡ i.taken + length octets

-- after those buffered before, octets were taken: up to a line feed, or that many of both, or to the end of the input
pub record HoldsLine (i : SourceChange) (before buffer : List ℕ) (most : ℕ) (buffered : Buffered) : Type 0 where
  pub octets : List ℕ
  pub took : Took i octets
  pub window : buffered.start ≤ buffered.end
  pub within : buffered.end ≤ length buffer
  pub stands : slice_range buffer buffered.start buffered.end ≡ before ++ octets
  pub feed : IsFirstFeed (before ++ octets) buffered.feed
  pub whole : buffered.feed ≡ None → length (before ++ octets) < most → IsAtEnd i.left'

-- after those buffered before, octets were taken, fewer than that many of both, and no line feed is among them
pub record HoldsPart (i : SourceChange) (before : List ℕ) (most : ℕ) : Type 0 where
  pub octets : List ℕ
  pub took : Took i octets
  pub plain : IsPlain (before ++ octets)
  pub fewer : length (before ++ octets) < most
