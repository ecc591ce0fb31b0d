-- What is held of two editions.
use Rattle.std.specs.Prelude.{◌≡◌, ℕ, Bool, List, None, map}
use Rattle.ax_format.specs.OfCode.{HasNoFlaw}
use Rattle.ax_format.specs.Plain.{spec_tree}
use Rattle.ax_format.specs.Shared.{Shared}
use Rattle.ax_format.specs.declared.spec.Spec.{Spec}
use Rattle.ax_relation.specs.Known.{IsKnown}
use Rattle.ax_relation.specs.PlainMoves.{move_tree}
use Rattle.ax_relation.specs.Moves.{record_moves}
use Rattle.ax_relation.specs.Paths.{relation_paths}
use Rattle.ax_relation.specs.declared.known.Known.{Known}
use Rattle.ax_relation.specs.declared.moves.Move.{Move}
use Rattle.ax_relation.specs.declared.relation.RelationPath.{RelationPath}

-- these are the paths of two editions, what is known to be shared at them, and the moves; the editions have one category and no
-- flaw
pub record AreOf (old new : Spec) (keys : List RelationPath) (shared : Known) (steps : List Move) : Type 0 where
  pub old_no_flaw : HasNoFlaw old
  pub new_no_flaw : HasNoFlaw new
  pub category : old.category ≡ new.category
  pub paths : keys ≡ relation_paths (spec_tree old) (spec_tree new)
  pub known : IsKnown (spec_tree old) (spec_tree new) shared
  pub moves : map move_tree steps ≡ record_moves (spec_tree old) (spec_tree new)

-- some two editions have these
pub record Editions (paths : List RelationPath) (known : Known) (moves : List Move) : Type 0 where
  pub old : Spec
  pub new : Spec
  pub are : AreOf old new paths known moves

abbrev pub AreOfEditions : List RelationPath → Known → List Move → Type 0
AreOfEditions paths known moves = ∥ Editions paths known moves ∥₁

-- whether the path is a named path of the old edition that the new one shares
abbrev pub shares_path : Spec → Spec → List (List ℕ) → Bool
shares_path old new path = Shared (spec_tree old) (spec_tree new) (record { names = path; part = None })
