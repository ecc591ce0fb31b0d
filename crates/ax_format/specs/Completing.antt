-- Which bits can be completed.
use Rattle.std.specs.Prelude.{◌≡◌, ℕ, ◌≤◌, List, [], ◌++◌, length}
use Rattle.ax_format.specs.declared.fault.BodyCause.{BodyCause}
use Rattle.ax_format.specs.declared.fault.BodyCause.TheVariants.{RunsOut}

-- the bits before the place begin something of which S holds, and where they only run out all of them do
pub record Completes (S : List ℕ → Type 0) (b : List ℕ) (p : ℕ) (c : BodyCause) : Type 0 where
  pub kept : List ℕ
  pub cut : List ℕ
  pub more : List ℕ
  pub split : b ≡ kept ++ cut
  pub far : p ≤ length kept
  pub whole : c ≡ RunsOut → cut ≡ []
  pub spelled : S (kept ++ more)
