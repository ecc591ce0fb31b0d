-- The tasks of `filter`.
use Rattle.std.proofs.Common.{◌≡◌, ℕ, false, List, Result, refl, subst}
use Rattle.ax_command.specs.declared.outcome.JobStop.{JobStop}
use Rattle.ax_command.specs.declared.outcome.Outcome.{Outcome}
use Rattle.ax_command.specs.declared.outcome.Refusal.TheVariants.{FilterRefused}
use Rattle.ax_expressions.specs.Texts.{IsFilterText, IsRefused, IsStopped}
use Rattle.ax_expressions.specs.Tree.{ExprTree}
use Rattle.ax_expressions.specs.declared.stop.FilterFault.{FilterFault}
use Rattle.ax_expressions.specs.declared.stop.FilterStop.{FilterStop}
use Rattle.ax_expressions.specs.declared.stop.FilterStop.TheVariants.{Refused}
use Rattle.ax_filter_work.specs.FilterCommand.{filter_command}
use Rattle.ax_format.specs.Specification.{SpecTree}
use Rattle.ax_endpoints.specs.Changes.{Changes}
use Rattle.ax_app.proofs.Commands.{prepared_command}
use Rattle.ax_app.specs.Commands.{RunsPrepared, RunsFilter}
use Rattle.ax_app.specs.Rows.{IsFilterTask, filters, refused}
use Rattle.ax_app.specs.Tasks.{each_block, refuses}

module _ (expression : List ℕ) (specs : List SpecTree) where
  pub filter_ran : (over : List SpecTree) (e : ExprTree) (x : Changes) (result : Result Outcome JobStop) → IsFilterText specs expression e → over ≡ specs → RunsPrepared (each_block (filter_command e over)) x result → RunsFilter expression specs x result
  filter_ran over e x result h same runs =
      prepared_command (IsFilterTask expression specs) false (each_block (filter_command e specs)) x (filters e h refl) result (subst (λ s. RunsPrepared (each_block (filter_command e s)) x result) same runs)

  pub filter_refuses : (text : List ℕ) (stop : FilterStop) (fault : FilterFault) → text ≡ expression → stop ≡ Refused fault → IsStopped specs text stop → IsFilterTask expression specs (refuses (FilterRefused fault))
  filter_refuses text stop fault same is h =
      let judged : IsRefused specs text fault = subst (IsStopped specs text) is h in
      refused fault (subst (λ t. IsRefused specs t fault) same judged) refl

-- by a text that is the expression
pub named_filter : (text expression : List ℕ) (specs : List SpecTree) (x : Changes) (result : Result Outcome JobStop) → text ≡ expression → RunsFilter text specs x result → RunsFilter expression specs x result
named_filter text expression specs x result same h = subst (λ t. RunsFilter t specs x result) same h

pub ruleset filter_tasks = (filter_refuses)
