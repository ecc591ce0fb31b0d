-- The tasks of a command over two editions.
use Rattle.std.proofs.Common.{◌≡◌, ℕ, Bool, IsTrue, Result, [], ◌∷◌, refl}
use Rattle.ax_command.specs.declared.outcome.JobStop.{JobStop}
use Rattle.ax_command.specs.declared.outcome.Outcome.{Outcome}
use Rattle.ax_command.specs.declared.outcome.Refusal.TheVariants.{OtherCategory}
use Rattle.ax_format.specs.Plain.{spec_tree}
use Rattle.ax_format.specs.Specification.{SpecTree}
use Rattle.ax_format.specs.declared.spec.Spec.{Spec}
use Rattle.ax_blocks.specs.Commands.{BlockCommand}
use Rattle.ax_endpoints.specs.Changes.{Changes}
use Rattle.ax_app.proofs.Commands.{prepared_command, takes_command}
use Rattle.ax_app.specs.Commands.{RunsAs, RunsPrepared, RunsEditions}
use Rattle.ax_app.specs.Rows.{OverEditions, answers_each, other_category}
use Rattle.ax_app.specs.Tasks.{Task, each_block, refuses}

module _ (command : SpecTree → SpecTree → BlockCommand) (old new : Spec) where
  abbrev IsTheirs : Task → Type 0
  IsTheirs task = OverEditions command (spec_tree old ∷ spec_tree new ∷ []) task

  same_answer : old.category ≡ new.category → IsTheirs (each_block (command (spec_tree old) (spec_tree new)))
  same_answer same = record { old = spec_tree old; new = spec_tree new; two = refl; is = answers_each same refl }

  pub others_refused : (one other : ℕ) → one ≡ old.category → other ≡ new.category → (old.category ≡ new.category → ⊥) → IsTheirs (refuses (OtherCategory one other))
  others_refused one other p q differ = record { old = spec_tree old; new = spec_tree new; two = refl; is = other_category differ (λ i. refuses (OtherCategory (p i) (q i))) }

  -- of a command that takes memory once it reads, and of one that took all before
  pub editions_taking : (x : Changes) (takes_memory : Bool) (result : Result Outcome JobStop) → IsTrue takes_memory → old.category ≡ new.category → RunsAs (each_block (command (spec_tree old) (spec_tree new))) x result → RunsEditions command takes_memory old new x result
  editions_taking x takes_memory result takes same h = takes_command IsTheirs takes_memory _ x (same_answer same) result takes h

  pub editions_prepared : (x : Changes) (takes_memory : Bool) (result : Result Outcome JobStop) → old.category ≡ new.category → RunsPrepared (each_block (command (spec_tree old) (spec_tree new))) x result → RunsEditions command takes_memory old new x result
  editions_prepared x takes_memory result same h = prepared_command IsTheirs takes_memory _ x (same_answer same) result h

pub ruleset editions_tasks = (others_refused)
