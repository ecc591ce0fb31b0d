-- Levels of plans: their order, their groups, and what they say of absent items.
use Rattle.std.proofs.Common.{◌≡◌, ℕ, ◌+◌, ◌<◌, ◌≤◌, Bool, true, false, not, ◌&&◌, ◌||◌, cond, List, [], ◌∷◌, ◌++◌, map, take, length, get_or, Option, refl, sym, ◌∙◌, ap, append_assoc, append-nil, arith}
use Rattle.std.proofs.lemmas.List.{map-append, take_more, take_all}
use Rattle.std.proofs.lemmas.List.Sorted.{list_any-IsPermutation, IsPermutation-map}
use Rattle.std.specs.List.{list_any}
use Rattle.std.specs.List.Sorted.{IsPermutation}
use Rattle.ax_expressions.proofs.PlanLists.{own_last, joined_append, said_each, say_more}
use Rattle.ax_expressions.proofs.PlanTrees.{always_tree, several_tree}
use Rattle.ax_expressions.proofs.SlotSets.{only_this}
use Rattle.ax_expressions.specs.Meaning.{some_passes}
use Rattle.ax_expressions.specs.Plans.{wanted, meets, PlanTree, always, asks, opposite, several, plans_of, plan_tree, asked_by, said_of_none, joined, joined_all, says, many_say, level_says, IsLevel, AreAlike}
use Rattle.ax_expressions.specs.declared.plan.Found.{Found}
use Rattle.ax_expressions.specs.declared.plan.Plan.{Plan}
use Rattle.ax_expressions.specs.declared.plan.Plan.TheVariants as Plans

-- ---- joined levels

module _ (marks : List ℕ) (found : ℕ → Option Found) (all : Bool) where
  level_each : (ps : List Plan) → level_says all ps marks found ≡ joined_all all (map (says marks found) (map plan_tree ps))
  level_each ps = said_each marks found all (map plan_tree ps)

  pub level_append : (ps qs : List Plan) → level_says all (ps ++ qs) marks found ≡ joined all (level_says all ps marks found) (level_says all qs marks found)
  level_append ps qs =
      level_each (ps ++ qs) ∙ ap (λ x. joined_all all (map (says marks found) x)) (map-append plan_tree ps qs)
      ∙ ap (joined_all all) (map-append (says marks found) (map plan_tree ps) (map plan_tree qs))
      ∙ joined_append all (map (says marks found) (map plan_tree ps)) (map (says marks found) (map plan_tree qs))
      ∙ (λ i. joined all (sym (level_each ps) i) (sym (level_each qs) i))

  pub level_one : (p : Plan) → level_says all (p ∷ []) marks found ≡ says marks found (plan_tree p)
  level_one p = own_last all (says marks found (plan_tree p))

  pub level_more : (ps : List Plan) (p : Plan) → level_says all (ps ++ p ∷ []) marks found ≡ joined all (level_says all ps marks found) (says marks found (plan_tree p))
  level_more ps p = level_append ps (p ∷ []) ∙ ap (joined all (level_says all ps marks found)) (level_one p)

-- ---- order

some_any : (bs : List Bool) → joined_all false bs ≡ list_any (λ b. b) bs
some_any [] = refl
some_any (b ∷ bs) = ap (λ x. b || x) (some_any bs)

none_any : (bs : List Bool) → joined_all true bs ≡ not (list_any not bs)
none_any [] = refl
none_any (true ∷ bs) = none_any bs
none_any (false ∷ bs) = refl

-- what is joined doesn't depend on its order
pub joined_in_order : (all : Bool) (bs cs : List Bool) → IsPermutation bs cs → joined_all all bs ≡ joined_all all cs
joined_in_order true bs cs h = none_any bs ∙ ap not (list_any-IsPermutation not bs cs h) ∙ sym (none_any cs)
joined_in_order false bs cs h = some_any bs ∙ list_any-IsPermutation (λ b. b) bs cs h ∙ sym (some_any cs)

pub level_in_order : (all : Bool) (ps qs : List Plan) → IsPermutation ps qs → AreAlike all qs ps
level_in_order all ps qs h marks found =
    level_each marks found all qs
    ∙ sym (joined_in_order all _ _ (IsPermutation-map (says marks found) (map plan_tree ps) (map plan_tree qs) (IsPermutation-map plan_tree ps qs h)))
    ∙ sym (level_each marks found all ps)

-- ---- groups

moved : (all l p m : Bool) → joined all l (joined all m p) ≡ joined all (joined all l p) m
moved true false p m = refl
moved true true true true = refl
moved true true true false = refl
moved true true false true = refl
moved true true false false = refl
moved false true p m = refl
moved false false true true = refl
moved false false true false = refl
moved false false false true = refl
moved false false false false = refl

-- a plan that goes from what is left to what is open
pub passed_on : (all : Bool) (whole left left' made latest made' latest' latest'' : List Plan) (p : Plan) → left ≡ left' ++ p ∷ [] → latest'' ≡ latest' ++ p ∷ []
    → AreAlike all (made' ++ latest') (made ++ latest) → AreAlike all (left ++ (made ++ latest)) whole → AreAlike all (left' ++ (made' ++ latest'')) whole
passed_on all whole left left' made latest made' latest' latest'' p taken put alike h marks found =
    ap (λ x. level_says all (left' ++ (made' ++ x)) marks found) put
    ∙ ap (λ x. level_says all (left' ++ x) marks found) (sym (append_assoc made' latest' (p ∷ [])))
    ∙ level_append marks found all left' ((made' ++ latest') ++ p ∷ []) ∙ ap (joined all (level_says all left' marks found)) (level_more marks found all (made' ++ latest') p)
    ∙ moved all (level_says all left' marks found) (says marks found (plan_tree p)) (level_says all (made' ++ latest') marks found)
    ∙ (λ i. joined all (sym (level_more marks found all left' p) i) (alike marks found i)) ∙ sym (level_append marks found all (left' ++ p ∷ []) (made ++ latest))
    ∙ ap (λ x. level_says all (x ++ (made ++ latest)) marks found) (sym taken) ∙ h marks found

-- plans that were open are one group
pub closed : (all : Bool) (made latest made' : List Plan) (group : Plan) → made' ≡ made ++ group ∷ [] → IsLevel all latest group → AreAlike all made' (made ++ latest)
closed all made latest made' group put is marks found =
    ap (λ x. level_says all x marks found) put ∙ level_more marks found all made group ∙ ap (joined all (level_says all made marks found)) (is marks found) ∙ sym (level_append marks found all made latest)

pub closed_none : (all : Bool) (made latest made' latest' : List Plan) (group : Plan) → made' ≡ made ++ group ∷ [] → latest' ≡ [] → IsLevel all latest group → AreAlike all (made' ++ latest') (made ++ latest)
closed_none all made latest made' latest' group put none is marks found =
    ap (λ x. level_says all x marks found) (ap (λ x. made' ++ x) none ∙ append-nil made') ∙ closed all made latest made' group put is marks found

pub no_members : (ps : List Plan) → length ps ≡ 0 → ps ≡ []
no_members [] e = refl
no_members (p ∷ ps) e = absurd (omega (arith, e))

pub none_left : (all : Bool) (whole left rest : List Plan) → left ≡ [] → AreAlike all (left ++ rest) whole → AreAlike all rest whole
none_left all whole left rest none h marks found = sym (ap (λ x. level_says all (x ++ rest) marks found) none) ∙ h marks found

pub alike_more : (all : Bool) (ps qs rs : List Plan) → AreAlike all ps qs → AreAlike all qs rs → AreAlike all ps rs
alike_more all ps qs rs h k marks found = h marks found ∙ k marks found

pub one_plan : (all : Bool) (level whole : List Plan) (p : Plan) → level ≡ p ∷ [] → AreAlike all level whole → IsLevel all whole p
one_plan all level whole p is h marks found = sym (level_one marks found all p) ∙ sym (ap (λ x. level_says all x marks found) is) ∙ h marks found

pub no_plan : (all : Bool) (level whole : List Plan) → level ≡ [] → AreAlike all level whole → IsLevel all whole (Plans.Always all)
no_plan all level whole is h marks found = ap (says marks found) (always_tree all) ∙ sym (ap (λ x. level_says all x marks found) is) ∙ h marks found

-- ---- absent items

-- where none of its slots is marked, a plan says the same whatever questions find
pub quiet_says : (marks : List ℕ) (found : ℕ → Option Found) (p : PlanTree) → meets (asked_by p) marks ≡ false → says marks found p ≡ said_of_none p
quiet_says marks found (always b) e = refl
quiet_says marks found (asks slot question want) e = ap (λ b. b && some_passes (wanted want) (found question)) (only_this slot marks e)
quiet_says marks found (opposite p) e = ap not (quiet_says marks found p e)
quiet_says marks found (several all asked absent ps) e = ap (λ b. cond b (many_say marks found all ps) absent) e

-- the first plans say that where none of these slots is marked
abbrev pub Quiet : Bool → List Plan → ℕ → List ℕ → Bool → Type 0
Quiet all ps i asked absent = (marks : List ℕ) (found : ℕ → Option Found) → meets asked marks ≡ false → many_say marks found all (plans_of (map plan_tree (take i ps))) ≡ absent

first_more : (ps : List Plan) (i : ℕ) (p : Plan) → i < length ps → p ≡ get_or ps i p → map plan_tree (take (i + 1) ps) ≡ map plan_tree (take i ps) ++ plan_tree p ∷ []
first_more ps i p within is = ap (map plan_tree) (take_more ps i p within ∙ ap (λ x. take i ps ++ x ∷ []) (sym is)) ∙ map-append plan_tree (take i ps) (p ∷ [])

pub quiet_next : (all : Bool) (ps : List Plan) (i : ℕ) (p : Plan) (asked more asked' : List ℕ) (absent said absent' : Bool) → i < length ps → p ≡ get_or ps i p → more ≡ asked_by (plan_tree p) → said ≡ said_of_none (plan_tree p) → absent' ≡ joined all absent said
    → ((marks : List ℕ) → meets asked' marks ≡ false → (meets asked marks ≡ false) × (meets more marks ≡ false)) → Quiet all ps i asked absent → Quiet all ps (i + 1) asked' absent'
quiet_next all ps i p asked more asked' absent said absent' within is m s j apart h marks found e =
    let a = apart marks e in
    ap (λ x. many_say marks found all (plans_of x)) (first_more ps i p within is) ∙ say_more marks found all (map plan_tree (take i ps)) (plan_tree p)
    ∙ (λ k. joined all (h marks found a.0 k) ((quiet_says marks found (plan_tree p) (sym (ap (λ x. meets x marks) m) ∙ a.1) ∙ sym s) k)) ∙ sym j

quiet_all : (all : Bool) (ps : List Plan) (i : ℕ) (asked : List ℕ) (absent : Bool) → length ps ≤ i → Quiet all ps i asked absent → (marks : List ℕ) (found : ℕ → Option Found) → meets asked marks ≡ false → many_say marks found all (plans_of (map plan_tree ps)) ≡ absent
quiet_all all ps i asked absent past h marks found e = sym (ap (λ x. many_say marks found all (plans_of (map plan_tree x))) (take_all i ps past)) ∙ h marks found e

pub group_says : (all : Bool) (ps : List Plan) (i : ℕ) (asked : List ℕ) (absent : Bool) → length ps ≤ i → Quiet all ps i asked absent → (marks : List ℕ) (found : ℕ → Option Found)
    → says marks found (plan_tree (Plans.Several all asked absent ps)) ≡ many_say marks found all (plans_of (map plan_tree ps))
group_says all ps i asked absent past h marks found = ap (says marks found) (several_tree all asked absent ps) ∙ by (meets asked marks) refl
  where
    by : (b : Bool) → meets asked marks ≡ b → cond (meets asked marks) (many_say marks found all (plans_of (map plan_tree ps))) absent ≡ many_say marks found all (plans_of (map plan_tree ps))
    by true e = ap (λ b. cond b (many_say marks found all (plans_of (map plan_tree ps))) absent) e
    by false e = ap (λ b. cond b (many_say marks found all (plans_of (map plan_tree ps))) absent) e ∙ sym (quiet_all all ps i asked absent past h marks found e)

pub constant_says : (all : Bool) (ps : List Plan) (i : ℕ) (asked : List ℕ) (absent : Bool) → length ps ≤ i → Quiet all ps i asked absent → ((marks : List ℕ) → meets asked marks ≡ false) → (marks : List ℕ) (found : ℕ → Option Found)
    → says marks found (plan_tree (Plans.Always absent)) ≡ many_say marks found all (plans_of (map plan_tree ps))
constant_says all ps i asked absent past h none marks found = ap (says marks found) (always_tree absent) ∙ sym (quiet_all all ps i asked absent past h marks found (none marks))
