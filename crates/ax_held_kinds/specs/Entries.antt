-- Entries of tables as contents.
use Rattle.std.specs.Prelude.{ℕ, ◌==◌, cond, is_some, [], ◌∷◌, Option, Some, None}
use Rattle.ax_format.specs.declared.content.Content.{Content}
use Rattle.ax_format.specs.declared.content.Content.TheVariants.{Raw, Table}
use Rattle.ax_format.specs.declared.content.TableText.{TableText}

-- a table of one entry
abbrev pub alone : TableText → Content
alone entry = Table (entry ∷ [])

-- what the first entry of a number says, if there is one
abbrev pub said_by : Option TableText → Content
said_by None = Raw
said_by (Some entry) = alone entry

-- what is kept of a number, or else the entry, if it has that number
abbrev pub kept_or : Option Content → TableText → ℕ → Option Content
kept_or kept entry n = cond (is_some kept) kept (cond (entry.number == n) (Some (alone entry)) None)
