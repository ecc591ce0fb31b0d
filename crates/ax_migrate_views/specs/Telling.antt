-- The lines of the keys that a body's records lose.
use Rattle.std.specs.Prelude.{ℕ, List}
use Rattle.ax_codec.specs.declared.codec.Codec.{Codec}
use Rattle.ax_migrate_views.specs.Bodies.{TellsBody}
use Rattle.ax_migrate_views.specs.declared.bodies.ToldKeys.{ToldKeys}
use Rattle.ax_moves.specs.Lost.{key_paths}

-- those of these keys are laid, under the number of their block
abbrev pub TellsKeys : Codec → ToldKeys → List ℕ → ℕ → List ℕ → List ℕ → Type 0
TellsKeys codec lost body n old new = TellsBody codec (key_paths lost.keys.now) lost.block body n old new
