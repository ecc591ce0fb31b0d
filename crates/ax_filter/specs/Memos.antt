-- Answers that are kept.
use Rattle.std.specs.Prelude.{◌≡◌, ℕ, ◌<◌, ◌≤◌, Bool, List, Option, None, length, get_or}
use Rattle.ax_filter.specs.declared.memo.Answer.{Answer}
use Rattle.ax_filter.specs.declared.memo.Asked.{Asked}
use Rattle.ax_expressions.specs.Plans.{finds, plan_tree, says}
use Rattle.ax_expressions.specs.declared.plan.CategoryPlan.{CategoryPlan}
use Rattle.ax_expressions.specs.declared.plan.Found.{Found}
use Rattle.ax_walk.specs.Shown.{record_entries}
use Rattle.ax_walk.specs.declared.record.RecordView.{RecordView}

abbrev pub no_answer : Answer
no_answer = record { number = 0; found = None }

-- none is an answer of a record after that of the number
abbrev pub NoneLater : ℕ → List Answer → Type 0
NoneLater number answers = (i : ℕ) → i < length answers → (get_or answers i no_answer).number ≤ number

-- and each of that record is what the question of its place finds
pub record Recalls (found : ℕ → Option Found) (number : ℕ) (answers : List Answer) : Type 0 where
  pub none_later : NoneLater number answers
  pub own : (i : ℕ) → i < length answers → (get_or answers i no_answer).number ≡ number → (get_or answers i no_answer).found ≡ found i

-- what a plan says of a record that is asked
abbrev pub plan_says : CategoryPlan → Asked RecordView → Bool
plan_says plan one = says one.marked (finds one.questions.now (record_entries one.record.now)) (plan_tree plan.plan)
