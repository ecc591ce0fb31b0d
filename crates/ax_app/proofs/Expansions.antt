-- The tasks of `expand`.
use Rattle.std.proofs.Common.{◌≡◌, ℕ, true, Some, None, Result, refl}
use Rattle.ax_command.specs.declared.outcome.JobStop.{JobStop}
use Rattle.ax_command.specs.declared.outcome.Outcome.{Outcome}
use Rattle.ax_command.specs.declared.outcome.Refusal.TheVariants.{OtherCategory, ExpansionUnused}
use Rattle.ax_expand.specs.Expansion.{expansion_tree}
use Rattle.ax_expand.specs.declared.expansion.Expansion.{Expansion}
use Rattle.ax_expand_work.specs.ExpandCommand.{re_frn, expand_command}
use Rattle.ax_format.specs.Plain.{spec_tree}
use Rattle.ax_format.specs.declared.spec.Spec.{Spec}
use Rattle.ax_endpoints.specs.Changes.{Changes}
use Rattle.ax_app.proofs.Commands.{takes_command}
use Rattle.ax_app.specs.Commands.{RunsAs, RunsExpand}
use Rattle.ax_app.specs.Loaded.{with_expansion}
use Rattle.ax_app.specs.Rows.{ExpandsBy, expands, unused, of_another}
use Rattle.ax_app.specs.Tasks.{each_block, refuses}

module _ (spec : Spec) (x : Expansion) where
  pub expand_ran : (frn : ℕ) (y : Changes) (result : Result Outcome JobStop) → spec.category ≡ x.category → re_frn (spec_tree spec) ≡ Some frn → RunsAs (each_block (expand_command (spec_tree spec) frn (expansion_tree x))) y result → RunsExpand spec x y result
  expand_ran frn y result same stands h =
      takes_command (ExpandsBy (with_expansion spec x)) true (each_block (expand_command (spec_tree spec) frn (expansion_tree x))) y (record { spec = spec_tree spec; x = expansion_tree x; one = refl; expansion = refl; is = expands same frn stands refl }) result refl h

  pub expand_refuses : (spec.category ≡ x.category → ⊥) → ExpandsBy (with_expansion spec x) (refuses (OtherCategory spec.category x.category))
  expand_refuses differ = record { spec = spec_tree spec; x = expansion_tree x; one = refl; expansion = refl; is = of_another differ refl }

  pub expand_unused : spec.category ≡ x.category → re_frn (spec_tree spec) ≡ None → ExpandsBy (with_expansion spec x) (refuses (ExpansionUnused spec.category))
  expand_unused same none = record { spec = spec_tree spec; x = expansion_tree x; one = refl; expansion = refl; is = unused same none refl }

pub ruleset expand_tasks = (expand_refuses, expand_unused)
