-- The plain trees of plans, and what they say.
use Rattle.std.proofs.Common.{◌≡◌, ℕ, Bool, true, false, not, ◌&&◌, cond, List, map, Box, Global, Option, Some, None, sym, ap, ◌∙◌}
use Rattle.ax_fspec.specs.Marks.{no_marks}
use Rattle.ax_expressions.specs.Meaning.{some_passes}
use Rattle.ax_expressions.specs.Plans.{PlanTree, always, asks, opposite, several, plans_of, plan_step, plan_tree, asked_by, said_of_none, is_slot, only_slot, meets, says, many_say, wanted}
use Rattle.ax_expressions.specs.declared.plan.Found.{Found}
use Rattle.ax_expressions.specs.declared.plan.Plan.{Plan, fold-roll-Plan}
use Rattle.ax_expressions.specs.declared.plan.Plan.TheOpen.{Plan-F}
use Rattle.ax_expressions.specs.declared.plan.Plan.TheVariants as Plans
use Rattle.ax_expressions.specs.declared.plan.Want.{Want}

pub always_tree : (b : Bool) → plan_tree (Plans.Always b) ≡ always b
always_tree b = ap plan_tree (sym (Plans.rolls-Always b)) ∙ fold-roll-Plan PlanTree plan_step (Plan-F.Always b)

pub asks_tree : (slot question : ℕ) (want : Want) → plan_tree (Plans.Asks slot question want) ≡ asks slot question want
asks_tree slot question want = ap plan_tree (sym (Plans.rolls-Asks slot question want)) ∙ fold-roll-Plan PlanTree plan_step (Plan-F.Asks slot question want)

pub not_plan_tree : (box : Box Plan Global) → plan_tree (Plans.Not box) ≡ opposite (plan_tree box.value)
not_plan_tree box = ap plan_tree (sym (Plans.rolls-Not box)) ∙ fold-roll-Plan PlanTree plan_step (Plan-F.Not box)

pub several_tree : (all : Bool) (asked : List ℕ) (absent : Bool) (ps : List Plan) → plan_tree (Plans.Several all asked absent ps) ≡ several all asked absent (plans_of (map plan_tree ps))
several_tree all asked absent ps = ap plan_tree (sym (Plans.rolls-Several all asked absent ps)) ∙ fold-roll-Plan PlanTree plan_step (Plan-F.Several all asked absent ps)

-- ---- the slots that a plan asks

pub always_asks : (p : Plan) (b : Bool) → p ≡ Plans.Always b → no_marks ≡ asked_by (plan_tree p)
always_asks p b is = sym (ap asked_by (ap plan_tree is ∙ always_tree b))

pub one_asks : (p : Plan) (slot question : ℕ) (want : Want) (marks : List ℕ) → p ≡ Plans.Asks slot question want → marks ≡ only_slot slot → marks ≡ asked_by (plan_tree p)
one_asks p slot question want marks is h = h ∙ sym (ap asked_by (ap plan_tree is ∙ asks_tree slot question want))

pub not_asks : (p : Plan) (box : Box Plan Global) (marks : List ℕ) → p ≡ Plans.Not box → marks ≡ asked_by (plan_tree box.value) → marks ≡ asked_by (plan_tree p)
not_asks p box marks is h = h ∙ sym (ap asked_by (ap plan_tree is ∙ not_plan_tree box))

pub several_ask : (p : Plan) (all : Bool) (asked : List ℕ) (absent : Bool) (ps : List Plan) → p ≡ Plans.Several all asked absent ps → asked ≡ asked_by (plan_tree p)
several_ask p all asked absent ps is = sym (ap asked_by (ap plan_tree is ∙ several_tree all asked absent ps))

pub ruleset asking = (always_asks, one_asks, not_asks, several_ask)

-- ---- what it says where none of these is marked

pub always_quiet : (p : Plan) (b : Bool) → p ≡ Plans.Always b → b ≡ said_of_none (plan_tree p)
always_quiet p b is = sym (ap said_of_none (ap plan_tree is ∙ always_tree b))

pub one_quiet : (p : Plan) (slot question : ℕ) (want : Want) → p ≡ Plans.Asks slot question want → false ≡ said_of_none (plan_tree p)
one_quiet p slot question want is = sym (ap said_of_none (ap plan_tree is ∙ asks_tree slot question want))

pub not_quiet : (p : Plan) (box : Box Plan Global) (b : Bool) → p ≡ Plans.Not box → b ≡ said_of_none (plan_tree box.value) → not b ≡ said_of_none (plan_tree p)
not_quiet p box b is h = ap not h ∙ sym (ap said_of_none (ap plan_tree is ∙ not_plan_tree box))

pub several_quiet : (p : Plan) (all : Bool) (asked : List ℕ) (absent : Bool) (ps : List Plan) → p ≡ Plans.Several all asked absent ps → absent ≡ said_of_none (plan_tree p)
several_quiet p all asked absent ps is = sym (ap said_of_none (ap plan_tree is ∙ several_tree all asked absent ps))

pub ruleset quiet = (always_quiet, one_quiet, not_quiet, several_quiet)

-- ---- what the plan of a question says

module _ (marks : List ℕ) (found : ℕ → Option Found) (slot question : ℕ) (want : Want) where
  pub absent_says : is_slot marks slot ≡ false → false ≡ says marks found (asks slot question want)
  absent_says e = sym (ap (λ b. b && some_passes (wanted want) (found question)) e)

  pub none_says : is_slot marks slot ≡ true → found question ≡ None → false ≡ says marks found (asks slot question want)
  none_says e f = sym (ap (λ b. b && some_passes (wanted want) (found question)) e ∙ ap (some_passes (wanted want)) f)

  pub found_says : (n : Found) → is_slot marks slot ≡ true → found question ≡ Some n → wanted want n ≡ says marks found (asks slot question want)
  found_says n e f = sym (ap (λ b. b && some_passes (wanted want) (found question)) e ∙ ap (some_passes (wanted want)) f)

pub ruleset answering = (absent_says, none_says, found_says)

-- ---- what a plan says

module _ (marks : List ℕ) (found : ℕ → Option Found) (p : Plan) where
  pub always_says : (b : Bool) → p ≡ Plans.Always b → b ≡ says marks found (plan_tree p)
  always_says b is = sym (ap (says marks found) (ap plan_tree is ∙ always_tree b))

  asks_says : (slot question : ℕ) (want : Want) → p ≡ Plans.Asks slot question want → says marks found (plan_tree p) ≡ (is_slot marks slot && some_passes (wanted want) (found question))
  asks_says slot question want is = ap (says marks found) (ap plan_tree is ∙ asks_tree slot question want)

  pub answered : (slot question : ℕ) (want : Want) (b : Bool) → p ≡ Plans.Asks slot question want → b ≡ says marks found (asks slot question want) → b ≡ says marks found (plan_tree p)
  answered slot question want b is h = h ∙ sym (asks_says slot question want is)

  pub not_says : (box : Box Plan Global) (b : Bool) → p ≡ Plans.Not box → b ≡ says marks found (plan_tree box.value) → not b ≡ says marks found (plan_tree p)
  not_says box b is h = ap not h ∙ sym (ap (says marks found) (ap plan_tree is ∙ not_plan_tree box))

  several_says : (all : Bool) (asked : List ℕ) (absent : Bool) (ps : List Plan) → p ≡ Plans.Several all asked absent ps
      → says marks found (plan_tree p) ≡ cond (meets asked marks) (many_say marks found all (plans_of (map plan_tree ps))) absent
  several_says all asked absent ps is = ap (says marks found) (ap plan_tree is ∙ several_tree all asked absent ps)

  pub passed_over : (all : Bool) (asked : List ℕ) (absent : Bool) (ps : List Plan) → p ≡ Plans.Several all asked absent ps → meets asked marks ≡ false → absent ≡ says marks found (plan_tree p)
  passed_over all asked absent ps is e = sym (several_says all asked absent ps is ∙ ap (λ b. cond b (many_say marks found all (plans_of (map plan_tree ps))) absent) e)

  pub gone_through : (all : Bool) (asked : List ℕ) (absent : Bool) (ps : List Plan) (b : Bool) → p ≡ Plans.Several all asked absent ps → meets asked marks ≡ true → b ≡ many_say marks found all (plans_of (map plan_tree ps)) → b ≡ says marks found (plan_tree p)
  gone_through all asked absent ps b is e h = h ∙ sym (several_says all asked absent ps is ∙ ap (λ b. cond b (many_say marks found all (plans_of (map plan_tree ps))) absent) e)

pub ruleset deciding = (always_says, answered, not_says, passed_over, gone_through)
