-- The first bad text of a list that is no member of a language.
use Rattle.std.specs.Prelude.{ℕ, ◌+◌, ◌<◌, ◌≤◌, ◌++◌, length, take}
use Rattle.ax_tokens.specs.Stopping.{Texts}

-- the texts before it begin some member, and no member begins with them and with it; it is the count of the texts where
-- some member begins with all of them
pub record FirstBad (L : Texts → Type 0) (texts : Texts) (at : ℕ) : Type 0 where
  pub no_member : L texts → ⊥
  pub within : at ≤ length texts
  pub rest : Texts
  pub begins : L (take at texts ++ rest)
  pub refuses : at < length texts → (more : Texts) → L (take (at + 1) texts ++ more) → ⊥
