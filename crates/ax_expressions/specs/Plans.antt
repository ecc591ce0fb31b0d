-- Plans as plain trees, and what they say of a record: by its marked slots and by what questions find.
use Rattle.std.specs.Prelude.{◌≡◌, ℕ, ◌-◌, ◌==◌, nat_lt, Bool, true, false, not, ◌&&◌, ◌||◌, if◌then◌else◌, List, [], ◌∷◌, ◌++◌, map, set, slice_index, slice_get, Option, Some, None, option_map, option_and_then}
use Rattle.ax_fspec.specs.Marks.{common_marks, no_marks, slots_of}
use Rattle.ax_format.specs.At.{slot_value, is_present, At}
use Rattle.ax_format.specs.declared.place.Place.{Place}
use Rattle.ax_format.specs.Tree.{EntriesTree}
use Rattle.ax_expressions.specs.Meaning.{number_of, compares, some_passes}
use Rattle.ax_expressions.specs.Tests.{TestTree, compares_there, test_tree, passes}
use Rattle.ax_expressions.specs.declared.plan.Asking.{Asking}
use Rattle.ax_expressions.specs.declared.plan.Asking.TheVariants.{Standing, Number}
use Rattle.ax_expressions.specs.declared.plan.CategoryPlan.{CategoryPlan}
use Rattle.ax_expressions.specs.declared.plan.Found.{Found}
use Rattle.ax_expressions.specs.declared.plan.Found.TheVariants as Of
use Rattle.ax_expressions.specs.declared.plan.Plan.{Plan, fold-Plan}
use Rattle.ax_expressions.specs.declared.plan.Plan.TheOpen.{Plan-F}
use Rattle.ax_expressions.specs.declared.plan.Question.{Question}
use Rattle.ax_expressions.specs.declared.plan.Want.{Want}
use Rattle.ax_expressions.specs.declared.plan.Want.TheVariants.{There, Compares}
use Rattle.ax_expressions.specs.declared.planning.Comparison.{Comparison}
use Rattle.ax_expressions.specs.declared.test.Element.{Element}
use Rattle.ax_expressions.specs.declared.test.Test.{Test}

-- ---- questions

-- the question about a place
abbrev pub question_of : Asking → Place → Question
question_of asking place = record { asking = asking; place = place }

-- what a question finds in a record
abbrev pub found_by : EntriesTree → Question → Asking → Option Found
found_by r q Standing = if is_present r q.place then Some Of.Something else None
found_by r q Number = option_map Of.Number (At r q.place)

abbrev pub found_in : EntriesTree → Question → Option Found
found_in r q = found_by r q q.asking

-- what the question of a number finds; where there is no such question, nothing
abbrev pub finds : List Question → EntriesTree → ℕ → Option Found
finds questions r n = option_and_then (found_in r) (slice_get questions n)

-- whether what is found holds
abbrev pub wanted : Want → Found → Bool
wanted There found = true
wanted (Compares op is w number) (Of.Number n) = compares op (number_of is w n) number
wanted (Compares op is w number) Of.Something = false

-- whether what a question finds in a record does
abbrev pub finds_wanted : Want → Question → EntriesTree → Bool
finds_wanted want q r = some_passes (wanted want) (found_in r q)

-- ---- slots

-- the set has the slot
abbrev pub is_slot : List ℕ → ℕ → Bool
is_slot marks s = nat_lt 0 s && (nat_lt s 127 && (slice_index marks (s - 1) == 1))

-- the set of one slot, if it is one from 1 to 126; else the empty one
abbrev pub only_slot : ℕ → List ℕ
only_slot s = if nat_lt 0 s then (if nat_lt s 127 then set no_marks (s - 1) 1 else no_marks) else no_marks

abbrev pub is_some_slot : List ℕ → Bool
is_some_slot [] = false
is_some_slot (s ∷ slots) = true

-- some slot is in both sets
abbrev pub meets : List ℕ → List ℕ → Bool
meets asked marks = is_some_slot (slots_of (common_marks asked marks))

-- ---- plans

mutual
  -- the same of each record; what a question finds below a slot; the opposite; all of some, or any of them, with the slots that
  -- they ask and what they say where none of these is marked
  pub data PlanTree : Type 0 where
    always : Bool → PlanTree
    asks : ℕ → ℕ → Want → PlanTree
    opposite : PlanTree → PlanTree
    several : Bool → List ℕ → Bool → PlansTree → PlanTree

  pub data PlansTree : Type 0 where
    no_plans : PlansTree
    plan_and : PlanTree → PlansTree → PlansTree

abbrev pub plans_of : List PlanTree → PlansTree
plans_of [] = no_plans
plans_of (p ∷ ps) = plan_and p (plans_of ps)

abbrev pub plan_step : Plan-F PlanTree → PlanTree
plan_step (Plan-F.Always holds) = always holds
plan_step (Plan-F.Asks slot question want) = asks slot question want
plan_step (Plan-F.Not p) = opposite p.value
plan_step (Plan-F.Several all asked absent ps) = several all asked absent (plans_of ps)

-- what a plan of the code says
abbrev pub plan_tree : Plan → PlanTree
plan_tree p = fold-Plan PlanTree plan_step p

-- the slots that a plan asks
abbrev pub asked_by : PlanTree → List ℕ
asked_by (always b) = no_marks
asked_by (asks slot question want) = only_slot slot
asked_by (opposite p) = asked_by p
asked_by (several all asked absent ps) = asked

-- what it says where none of them is marked
abbrev pub said_of_none : PlanTree → Bool
said_of_none (always b) = b
said_of_none (asks slot question want) = false
said_of_none (opposite p) = not (said_of_none p)
said_of_none (several all asked absent ps) = absent

-- ---- what plans say

-- both, or one of them
abbrev pub joined : Bool → Bool → Bool → Bool
joined true a b = a && b
joined false a b = a || b

-- each, or some
abbrev pub joined_all : Bool → List Bool → Bool
joined_all all [] = all
joined_all all (b ∷ bs) = joined all b (joined_all all bs)

abbrev mutual
  pub says : List ℕ → (ℕ → Option Found) → PlanTree → Bool
  says marks found (always b) = b
  says marks found (asks slot question want) = is_slot marks slot && some_passes (wanted want) (found question)
  says marks found (opposite p) = not (says marks found p)
  says marks found (several all asked absent ps) = if meets asked marks then many_say marks found all ps else absent

  pub many_say : List ℕ → (ℕ → Option Found) → Bool → PlansTree → Bool
  many_say marks found all no_plans = all
  many_say marks found all (plan_and p ps) = joined all (says marks found p) (many_say marks found all ps)

-- ---- levels

-- each of the plans of a level, or some of them
abbrev pub level_says : Bool → List Plan → List ℕ → (ℕ → Option Found) → Bool
level_says all ps marks found = many_say marks found all (plans_of (map plan_tree ps))

-- one plan says of each record what a level does
abbrev pub IsLevel : Bool → List Plan → Plan → Type 0
IsLevel all ps p = (marks : List ℕ) (found : ℕ → Option Found) → says marks found (plan_tree p) ≡ level_says all ps marks found

-- two levels say the same of each record
abbrev pub AreAlike : Bool → List Plan → List Plan → Type 0
AreAlike all ps qs = (marks : List ℕ) (found : ℕ → Option Found) → level_says all ps marks found ≡ level_says all qs marks found

-- ---- plans of tests

-- an element of a record compares so
abbrev pub compares_so : Comparison → EntriesTree → Option Element → Bool
compares_so comparison r element = compares_there comparison.op comparison.number r element

-- nothing stands in slots that aren't marked
abbrev pub MarkEach : List ℕ → EntriesTree → Type 0
MarkEach marks r = (s : ℕ) → is_slot marks s ≡ false → slot_value s r ≡ None

-- by these questions, and whatever others follow, a plan says of each record what the rule does
abbrev pub SaysAs : List Question → PlanTree → (EntriesTree → Bool) → Type 0
SaysAs questions p rule = (more : List Question) (r : EntriesTree) (marks : List ℕ) → MarkEach marks r → says marks (finds (questions ++ more) r) p ≡ rule r

-- what each of some tests says of a record of the category, or some of them
abbrev pub many_pass : Bool → ℕ → List TestTree → EntriesTree → Bool
many_pass all category ts r = joined_all all (map (passes category r) ts)

-- the old questions, and others after them
abbrev pub Grow : List Question → List Question → Type 0
Grow old new = (more : List Question) × (new ≡ old ++ more)

-- the plan of each category that has one says of its records what the test does
abbrev pub PlanEach : List Question → List CategoryPlan → Test → Type 0
PlanEach questions plans t = (category : ℕ) (p : CategoryPlan) → slice_get plans category ≡ Some p → SaysAs questions (plan_tree p.plan) (λ r. passes category r (test_tree t))
