-- Lists of plans, from a place on and up to one.
use Rattle.std.proofs.Common.{◌≡◌, ℕ, ◌+◌, ◌<◌, ◌≤◌, Bool, true, false, not, ◌&&◌, ◌||◌, List, [], ◌∷◌, ◌++◌, map, drop, length, get_or, refl, sym, ◌∙◌, ap, Option}
use Rattle.std.proofs.lemmas.List.{drop_all, map-append}
use Rattle.ax_format.proofs.Namings.{from_place}
use Rattle.ax_expressions.specs.Plans.{PlanTree, PlansTree, plan_tree, plans_of, joined, joined_all, says, many_say}
use Rattle.ax_expressions.specs.declared.plan.Found.{Found}
use Rattle.ax_expressions.specs.declared.plan.Plan.{Plan}

-- ---- joined answers

pub joined_own : (all b : Bool) → joined all all b ≡ b
joined_own true b = refl
joined_own false b = refl

pub joined_decided : (all a b : Bool) → a ≡ not all → joined all a b ≡ not all
joined_decided true a b e = ap (λ x. x && b) e
joined_decided false a b e = ap (λ x. x || b) e

pub decided_last : (all a b : Bool) → b ≡ not all → joined all a b ≡ not all
decided_last true true b e = e
decided_last true false b e = refl
decided_last false true b e = refl
decided_last false false b e = e

pub joined_more : (all a b c : Bool) → joined all a (joined all b c) ≡ joined all (joined all a b) c
joined_more true true b c = refl
joined_more true false b c = refl
joined_more false true b c = refl
joined_more false false b c = refl

pub own_last : (all a : Bool) → joined all a all ≡ a
own_last true true = refl
own_last true false = refl
own_last false true = refl
own_last false false = refl

pub joined_append : (all : Bool) (bs cs : List Bool) → joined_all all (bs ++ cs) ≡ joined all (joined_all all bs) (joined_all all cs)
joined_append all [] cs = sym (joined_own all (joined_all all cs))
joined_append all (b ∷ bs) cs = ap (joined all b) (joined_append all bs cs) ∙ joined_more all b (joined_all all bs) (joined_all all cs)

-- ---- what plans say

pub said_each : (marks : List ℕ) (found : ℕ → Option Found) (all : Bool) (ps : List PlanTree) → many_say marks found all (plans_of ps) ≡ joined_all all (map (says marks found) ps)
said_each marks found all [] = refl
said_each marks found all (p ∷ ps) = ap (joined all (says marks found p)) (said_each marks found all ps)

pub say_more : (marks : List ℕ) (found : ℕ → Option Found) (all : Bool) (ps : List PlanTree) (p : PlanTree) → many_say marks found all (plans_of (ps ++ p ∷ [])) ≡ joined all (many_say marks found all (plans_of ps)) (says marks found p)
say_more marks found all ps p =
    said_each marks found all (ps ++ p ∷ []) ∙ ap (joined_all all) (map-append (says marks found) ps (p ∷ [])) ∙ joined_append all (map (says marks found) ps) (says marks found p ∷ [])
    ∙ (λ i. joined all (sym (said_each marks found all ps) i) (own_last all (says marks found p) i))

-- ---- from a place on

abbrev plans_from : List Plan → ℕ → PlansTree
plans_from ps i = plans_of (map plan_tree (drop i ps))

next : (ps : List Plan) (i : ℕ) (p : Plan) → i < length ps → p ≡ get_or ps i p → plans_from ps i ≡ plans_of (map plan_tree (p ∷ drop (i + 1) ps))
next ps i p within is = ap (λ x. plans_of (map plan_tree x)) (from_place ps i p within is)

pub several_next : (marks : List ℕ) (found : ℕ → Option Found) (all : Bool) (ps : List Plan) (i : ℕ) (p : Plan) (whole : Bool) → i < length ps → p ≡ get_or ps i p → says marks found (plan_tree p) ≡ all
    → many_say marks found all (plans_from ps i) ≡ whole → many_say marks found all (plans_from ps (i + 1)) ≡ whole
several_next marks found all ps i p whole within is s h =
    sym (joined_own all (many_say marks found all (plans_from ps (i + 1)))) ∙ sym (ap (λ b. joined all b (many_say marks found all (plans_from ps (i + 1)))) s) ∙ sym (ap (many_say marks found all) (next ps i p within is)) ∙ h

pub several_decided : (marks : List ℕ) (found : ℕ → Option Found) (all : Bool) (ps : List Plan) (i : ℕ) (p : Plan) (whole : Bool) → i < length ps → p ≡ get_or ps i p → says marks found (plan_tree p) ≡ not all
    → many_say marks found all (plans_from ps i) ≡ whole → not all ≡ whole
several_decided marks found all ps i p whole within is s h =
    sym (joined_decided all (says marks found (plan_tree p)) (many_say marks found all (plans_from ps (i + 1))) s) ∙ sym (ap (many_say marks found all) (next ps i p within is)) ∙ h

pub several_end : (marks : List ℕ) (found : ℕ → Option Found) (all : Bool) (ps : List Plan) (i : ℕ) (whole : Bool) → length ps ≤ i → many_say marks found all (plans_from ps i) ≡ whole → all ≡ whole
several_end marks found all ps i whole past h = sym (ap (λ x. many_say marks found all (plans_of (map plan_tree x))) (drop_all i ps past)) ∙ h

pub ruleset several = (several_next, several_decided, several_end)
