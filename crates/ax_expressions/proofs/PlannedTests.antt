-- Plans that say of each record what tests do.
use Rattle.std.proofs.Common.{◌≡◌, ◌⊎◌, inl, inr, ℕ, zero, suc, ◌+◌, ◌==◌, ◌<◌, ◌≤◌, Bool, true, false, not, ◌&&◌, ◌||◌, cond, List, [], ◌∷◌, ◌++◌, map, drop, take, length, get_or, slice_get, Box, Global, Result, Ok, Err, IfOk, Option, Some, None, option_map, option_and_then, is_some, refl, sym, ◌∙◌, ap, ℤ, append_assoc, append-nil}
use Rattle.std.proofs.lemmas.List.{map-append, take_more, take_all, take-append-drop}
use Rattle.ax_format.proofs.Namings.{from_place}
use Rattle.ax_format.specs.At.{slot_value, value_at, number_of_value, is_present, At}
use Rattle.ax_format.specs.Tree.{EntriesTree}
use Rattle.ax_format.specs.declared.place.Place.{Place}
use Rattle.ax_expressions.proofs.Levels.{level_more}
use Rattle.ax_expressions.proofs.PlanLists.{joined_decided, decided_last, own_last, joined_append}
use Rattle.ax_expressions.proofs.PlanTrees.{always_tree, asks_tree, not_plan_tree}
use Rattle.ax_expressions.proofs.Trees.{all_test_tree, any_test_tree, not_test_tree, at_place_tree, at_element_tree}
use Rattle.ax_expressions.specs.Meaning.{number_of, compares, some_passes}
use Rattle.ax_expressions.specs.Plans.{found_by, found_in, finds, wanted, is_slot, PlanTree, opposite, plan_tree, joined, joined_all, says, level_says, IsLevel, MarkEach, SaysAs, many_pass, Grow, PlanEach}
use Rattle.ax_expressions.specs.Tests.{TestTree, tests_of, test_tree, number_for, passes, all_pass, any_passes}
use Rattle.ax_expressions.specs.declared.expr.Op.{Op}
use Rattle.ax_expressions.specs.declared.plan.Asking.{Asking}
use Rattle.ax_expressions.specs.declared.plan.Asking.TheVariants.{Standing, Number}
use Rattle.ax_expressions.specs.declared.plan.CategoryPlan.{CategoryPlan}
use Rattle.ax_expressions.specs.declared.plan.Found.TheVariants as Of
use Rattle.ax_expressions.specs.declared.plan.Plan.{Plan}
use Rattle.ax_expressions.specs.declared.plan.Plan.TheVariants as Plans
use Rattle.ax_expressions.specs.declared.plan.Question.{Question}
use Rattle.ax_expressions.specs.declared.plan.Want.{Want}
use Rattle.ax_expressions.specs.declared.plan.Want.TheVariants.{There, Compares}
use Rattle.ax_expressions.specs.declared.test.Element.{Element}
use Rattle.ax_expressions.specs.declared.test.Test.{Test}
use Rattle.ax_expressions.specs.declared.test.Test.TheVariants as Tests

-- ---- questions

pub question_stays : (qs more : List Question) (n : ℕ) (q : Question) → slice_get qs n ≡ Some q → slice_get (qs ++ more) n ≡ Some q
question_stays [] more n q e = cc
question_stays (x ∷ qs) more zero q e = e
question_stays (x ∷ qs) more (suc n) q e = question_stays qs more n q e

found_none : (r : EntriesTree) (q : Question) (a : Asking) → slot_value q.place.frn r ≡ None → found_by r q a ≡ None
found_none r q Standing e = ap (λ o. cond (is_some (option_and_then (value_at q.place.steps) o)) (Some Of.Something) None) e
found_none r q Number e = ap (λ o. option_map Of.Number (option_and_then number_of_value (option_and_then (value_at q.place.steps) o))) e

pub place_says : (qs : List Question) (n : ℕ) (asking : Asking) (place : Place) (want : Want) → slice_get qs n ≡ Some (record { asking = asking; place = place })
    → SaysAs qs (plan_tree (Plans.Asks place.frn n want)) (λ r. some_passes (wanted want) (found_by r (record { asking = asking; place = place }) asking))
place_says qs n asking place want there more r marks m = ap (says marks (finds (qs ++ more) r)) (asks_tree place.frn n want) ∙ by (is_slot marks place.frn) refl
  where
    q : Question
    q = record { asking = asking; place = place }

    found : finds (qs ++ more) r n ≡ found_by r q asking
    found = ap (option_and_then (found_in r)) (question_stays qs more n q there)

    by : (b : Bool) → is_slot marks place.frn ≡ b → (is_slot marks place.frn && some_passes (wanted want) (finds (qs ++ more) r n)) ≡ some_passes (wanted want) (found_by r q asking)
    by true e = ap (λ b. b && some_passes (wanted want) (finds (qs ++ more) r n)) e ∙ ap (some_passes (wanted want)) found
    by false e = ap (λ b. b && some_passes (wanted want) (finds (qs ++ more) r n)) e ∙ sym (ap (some_passes (wanted want)) (found_none r q asking (m place.frn e)))

says_same : (qs : List Question) (p : PlanTree) (rule other : EntriesTree → Bool) → ((r : EntriesTree) → rule r ≡ other r) → SaysAs qs p rule → SaysAs qs p other
says_same qs p rule other same h more r marks m = h more r marks m ∙ same r

-- ---- tests of one place

standing_same : (b : Bool) → some_passes (wanted There) (cond b (Some Of.Something) None) ≡ b
standing_same true = refl
standing_same false = refl

pub number_made : {E : Type 0} (qs : List Question) (result : Result Plan E) (element : Element) (o : Option Element) (op : Op) (number : ℤ) (own : Bool) (want : Want) → o ≡ Some element → own ≡ true → want ≡ Compares op element.signed element.width number
    → IfOk result (λ made. SaysAs qs (plan_tree made) (λ r. some_passes (wanted want) (found_by r (record { asking = Number; place = element.place }) Number)))
    → IfOk result (λ made. SaysAs qs (plan_tree made) (λ r. own && some_passes (λ n. compares op n number) (option_and_then (number_for r) o)))
number_made qs (Err error) element o op number own want is e w h = h
number_made qs (Ok made) element o op number own want is e w h =
    says_same qs (plan_tree made) _ _
    (λ r. ap (λ x. some_passes (wanted x) (option_map Of.Number (At r element.place))) w ∙ by (At r element.place) ∙ sym (ap (λ b. b && some_passes (λ n. compares op n number) (option_and_then (number_for r) o)) e ∙ ap (λ o. some_passes (λ n. compares op n number) (option_and_then (number_for r) o)) is)) h
  where
    by : (found : Option ℕ) → some_passes (wanted (Compares op element.signed element.width number)) (option_map Of.Number found) ≡ some_passes (λ n. compares op n number) (option_map (number_of element.signed element.width) found)
    by None = refl
    by (Some n) = refl

pub present_made : {E : Type 0} (qs : List Question) (result : Result Plan E) (place : Place) (o : Option Place) (own : Bool) → o ≡ Some place → own ≡ true
    → IfOk result (λ made. SaysAs qs (plan_tree made) (λ r. some_passes (wanted There) (found_by r (record { asking = Standing; place = place }) Standing)))
    → IfOk result (λ made. SaysAs qs (plan_tree made) (λ r. own && some_passes (is_present r) o))
present_made qs (Err error) place o own is e h = h
present_made qs (Ok made) place o own is e h = says_same qs (plan_tree made) _ _ (λ r. standing_same (is_present r place) ∙ sym (ap (λ b. b && some_passes (is_present r) o) e ∙ ap (some_passes (is_present r)) is)) h

never : (b : Bool) → (b && false) ≡ false
never true = refl
never false = refl

pub absent_place : (qs : List Question) (o : Option Place) (own : Bool) → o ≡ None → SaysAs qs (plan_tree (Plans.Always false)) (λ r. own && some_passes (is_present r) o)
absent_place qs o own is more r marks m = ap (says marks (finds (qs ++ more) r)) (always_tree false) ∙ sym (ap (λ x. own && some_passes (is_present r) x) is ∙ never own)

pub other_place : (qs : List Question) (o : Option Place) (own : Bool) → own ≡ false → SaysAs qs (plan_tree (Plans.Always false)) (λ r. own && some_passes (is_present r) o)
other_place qs o own e more r marks m = ap (says marks (finds (qs ++ more) r)) (always_tree false) ∙ sym (ap (λ b. b && some_passes (is_present r) o) e)

pub absent_element : (qs : List Question) (o : Option Element) (op : Op) (number : ℤ) (own : Bool) → o ≡ None → SaysAs qs (plan_tree (Plans.Always false)) (λ r. own && some_passes (λ n. compares op n number) (option_and_then (number_for r) o))
absent_element qs o op number own is more r marks m = ap (says marks (finds (qs ++ more) r)) (always_tree false) ∙ sym (ap (λ x. own && some_passes (λ n. compares op n number) (option_and_then (number_for r) x)) is ∙ never own)

pub other_element : (qs : List Question) (o : Option Element) (op : Op) (number : ℤ) (own : Bool) → own ≡ false → SaysAs qs (plan_tree (Plans.Always false)) (λ r. own && some_passes (λ n. compares op n number) (option_and_then (number_for r) o))
other_element qs o op number own e more r marks m = ap (says marks (finds (qs ++ more) r)) (always_tree false) ∙ sym (ap (λ b. b && some_passes (λ n. compares op n number) (option_and_then (number_for r) o)) e)

-- ---- several tests

pub no_more : (qs : List Question) → Grow qs qs
no_more qs = ([], sym (append-nil qs))

pub grow_more : (a b c : List Question) → Grow a b → Grow b c → Grow a c
grow_more a b c g h = (g.0 ++ h.0, h.1 ∙ ap (λ x. x ++ h.0) g.1 ∙ append_assoc a g.0 h.0)

pub says_later : (qs new : List Question) (p : PlanTree) (rule : EntriesTree → Bool) → Grow qs new → SaysAs qs p rule → SaysAs new p rule
says_later qs new p rule g h more r marks m =
    ap (λ x. says marks (finds x r) p) (ap (λ x. x ++ more) g.1 ∙ append_assoc qs g.0 more) ∙ h (g.0 ++ more) r marks m

abbrev answers : ℕ → EntriesTree → List Test → List Bool
answers category r ts = map (passes category r) (map test_tree ts)

-- what the first tests say, as a level of plans
abbrev pub PlannedFirst : Bool → ℕ → List Question → List Plan → List Test → ℕ → Type 0
PlannedFirst all category qs level ts i = (more : List Question) (r : EntriesTree) (marks : List ℕ) → MarkEach marks r → level_says all level marks (finds (qs ++ more) r) ≡ joined_all all (answers category r (take i ts))

pub planned_none : (all : Bool) (category : ℕ) (qs : List Question) (ts : List Test) (level : List Plan) → level ≡ [] → PlannedFirst all category qs level ts 0
planned_none all category qs ts level none more r marks k = ap (λ ps. level_says all ps marks (finds (qs ++ more) r)) none

module _ (all : Bool) (category : ℕ) (qs new : List Question) (level : List Plan) (ts : List Test) (i : ℕ) (t : Test) (p : Plan) (within : i < length ts) (is : t ≡ get_or ts i t) (grow : Grow qs new) (h : PlannedFirst all category qs level ts i) (one : SaysAs new (plan_tree p) (λ r. passes category r (test_tree t))) where
  later : PlannedFirst all category new level ts i
  later more r marks m =
      ap (λ x. level_says all level marks (finds x r)) (ap (λ x. x ++ more) grow.1 ∙ append_assoc qs grow.0 more) ∙ h (grow.0 ++ more) r marks m

  next_answer : (r : EntriesTree) → joined_all all (answers category r (take (i + 1) ts)) ≡ joined all (joined_all all (answers category r (take i ts))) (passes category r (test_tree t))
  next_answer r =
      ap (λ x. joined_all all (answers category r x)) (take_more ts i t within ∙ ap (λ x. take i ts ++ x ∷ []) (sym is))
      ∙ ap (λ x. joined_all all (map (passes category r) x)) (map-append test_tree (take i ts) (t ∷ [])) ∙ ap (joined_all all) (map-append (passes category r) (map test_tree (take i ts)) (test_tree t ∷ []))
      ∙ joined_append all (answers category r (take i ts)) (passes category r (test_tree t) ∷ []) ∙ ap (joined all (joined_all all (answers category r (take i ts)))) (own_last all (passes category r (test_tree t)))

  -- a plan that decides nothing
  pub planned_same : (b : Bool) → p ≡ Plans.Always b → b ≡ all → PlannedFirst all category new level ts (i + 1)
  planned_same b a e more r marks m =
      let own : passes category r (test_tree t) ≡ all = sym (one more r marks m) ∙ ap (says marks (finds (new ++ more) r)) (ap plan_tree a ∙ always_tree b) ∙ e in
      later more r marks m ∙ sym (next_answer r ∙ ap (joined all (joined_all all (answers category r (take i ts)))) own ∙ own_last all (joined_all all (answers category r (take i ts))))

  -- a plan that decides
  pub planned_decided : (b : Bool) → p ≡ Plans.Always b → b ≡ not all → SaysAs new (plan_tree p) (many_pass all category (map test_tree ts))
  planned_decided b a e more r marks m =
      let said : says marks (finds (new ++ more) r) (plan_tree p) ≡ not all = ap (says marks (finds (new ++ more) r)) (ap plan_tree a ∙ always_tree b) ∙ e in
      let own : passes category r (test_tree t) ≡ not all = sym (one more r marks m) ∙ said in
      said ∙ sym (
      ap (λ x. joined_all all (answers category r x)) (sym (take-append-drop i ts) ∙ ap (λ x. take i ts ++ x) (from_place ts i t within is))
      ∙ ap (λ x. joined_all all (map (passes category r) x)) (map-append test_tree (take i ts) (t ∷ drop (i + 1) ts))
      ∙ ap (joined_all all) (map-append (passes category r) (map test_tree (take i ts)) (test_tree t ∷ map test_tree (drop (i + 1) ts)))
      ∙ joined_append all (answers category r (take i ts)) (passes category r (test_tree t) ∷ answers category r (drop (i + 1) ts))
      ∙ ap (joined all (joined_all all (answers category r (take i ts)))) (joined_decided all (passes category r (test_tree t)) (joined_all all (answers category r (drop (i + 1) ts))) own)
      ∙ decided_last all (joined_all all (answers category r (take i ts))) (not all) refl)

  -- one more plan
  pub planned_open : (level' : List Plan) → level' ≡ level ++ p ∷ [] → PlannedFirst all category new level' ts (i + 1)
  planned_open level' put more r marks m =
      ap (λ ps. level_says all ps marks (finds (new ++ more) r)) put ∙ level_more marks (finds (new ++ more) r) all level p
      ∙ (λ j. joined all (later more r marks m j) (one more r marks m j)) ∙ sym (next_answer r)

pub planned_all : (all : Bool) (category : ℕ) (qs : List Question) (level : List Plan) (ts : List Test) (i : ℕ) (whole : Plan) → length ts ≤ i → IsLevel all level whole → PlannedFirst all category qs level ts i
    → SaysAs qs (plan_tree whole) (many_pass all category (map test_tree ts))
planned_all all category qs level ts i whole past alike h more r marks m =
    alike marks (finds (qs ++ more) r) ∙ h more r marks m ∙ ap (λ x. joined_all all (answers category r x)) (take_all i ts past)

pub planned_if : {E : Type 0} (result : Result Plan E) (all : Bool) (category : ℕ) (qs : List Question) (level : List Plan) (ts : List Test) (i : ℕ) → length ts ≤ i → IfOk result (IsLevel all level) → PlannedFirst all category qs level ts i
    → IfOk result (λ made. SaysAs qs (plan_tree made) (many_pass all category (map test_tree ts)))
planned_if (Ok whole) all category qs level ts i past alike h = planned_all all category qs level ts i whole past alike h
planned_if (Err error) all category qs level ts i past alike h = alike

-- ---- tests of each kind

each_passes : (category : ℕ) (r : EntriesTree) (ts : List TestTree) → joined_all true (map (passes category r) ts) ≡ all_pass category r (tests_of ts)
each_passes category r [] = refl
each_passes category r (t ∷ ts) = ap (λ b. passes category r t && b) (each_passes category r ts)

some_passes_of : (category : ℕ) (r : EntriesTree) (ts : List TestTree) → joined_all false (map (passes category r) ts) ≡ any_passes category r (tests_of ts)
some_passes_of category r [] = refl
some_passes_of category r (t ∷ ts) = ap (λ b. passes category r t || b) (some_passes_of category r ts)

module _ {E : Type 0} (qs : List Question) (result : Result Plan E) (category : ℕ) (t : Test) where
  by_rule : (rule : EntriesTree → Bool) → ((r : EntriesTree) → rule r ≡ passes category r (test_tree t)) → (o : Result Plan E) → IfOk o (λ made. SaysAs qs (plan_tree made) rule) → IfOk o (λ made. SaysAs qs (plan_tree made) (λ r. passes category r (test_tree t)))
  by_rule rule same (Ok made) h = says_same qs (plan_tree made) rule _ same h
  by_rule rule same (Err error) h = h

  pub all_planned : (ts : List Test) → t ≡ Tests.All ts → IfOk result (λ made. SaysAs qs (plan_tree made) (many_pass true category (map test_tree ts))) → IfOk result (λ made. SaysAs qs (plan_tree made) (λ r. passes category r (test_tree t)))
  all_planned ts is h = by_rule (many_pass true category (map test_tree ts)) (λ r. each_passes category r (map test_tree ts) ∙ sym (ap (passes category r) (ap test_tree is ∙ all_test_tree ts))) result h

  pub any_planned : (ts : List Test) → t ≡ Tests.Any ts → IfOk result (λ made. SaysAs qs (plan_tree made) (many_pass false category (map test_tree ts))) → IfOk result (λ made. SaysAs qs (plan_tree made) (λ r. passes category r (test_tree t)))
  any_planned ts is h = by_rule (many_pass false category (map test_tree ts)) (λ r. some_passes_of category r (map test_tree ts) ∙ sym (ap (passes category r) (ap test_tree is ∙ any_test_tree ts))) result h

  pub present_planned : (own : ℕ) (place : Option Place) → t ≡ Tests.Present own place → IfOk result (λ made. SaysAs qs (plan_tree made) (λ r. (own == category) && some_passes (is_present r) place))
      → IfOk result (λ made. SaysAs qs (plan_tree made) (λ r. passes category r (test_tree t)))
  present_planned own place is h = by_rule (λ r. (own == category) && some_passes (is_present r) place) (λ r. sym (ap (passes category r) (ap test_tree is ∙ at_place_tree own place))) result h

  pub is_planned : (own : ℕ) (element : Option Element) (op : Op) (number : ℤ) → t ≡ Tests.Is own element op number
      → IfOk result (λ made. SaysAs qs (plan_tree made) (λ r. (own == category) && some_passes (λ n. compares op n number) (option_and_then (number_for r) element)))
      → IfOk result (λ made. SaysAs qs (plan_tree made) (λ r. passes category r (test_tree t)))
  is_planned own element op number is h =
      by_rule (λ r. (own == category) && some_passes (λ n. compares op n number) (option_and_then (number_for r) element)) (λ r. sym (ap (passes category r) (ap test_tree is ∙ at_element_tree own element op number))) result h

pub not_planned : (qs : List Question) (category : ℕ) (t : Test) (box : Box Test Global) (made : Box Plan Global) (q : Plan) → t ≡ Tests.Not box → made.value ≡ q → SaysAs qs (plan_tree q) (λ r. passes category r (test_tree box.value)) → SaysAs qs (plan_tree (Plans.Not made)) (λ r. passes category r (test_tree t))
not_planned qs category t box made q is same h more r marks m =
    ap (says marks (finds (qs ++ more) r)) (not_plan_tree made ∙ ap (λ x. opposite (plan_tree x)) same) ∙ ap not (h more r marks m) ∙ sym (ap (passes category r) (ap test_tree is ∙ not_test_tree box))

-- ---- categories

got_last : {X : Type 0} (xs : List X) (x y : X) (n : ℕ) → slice_get (xs ++ x ∷ []) n ≡ Some y → (slice_get xs n ≡ Some y) ⊎ ((n ≡ length xs) × (x ≡ y))
got_last [] x y zero e = inr (refl, cc)
got_last [] x y (suc n) e = cc
got_last (z ∷ xs) x y zero e = inl e
got_last (z ∷ xs) x y (suc n) e = by (got_last xs x y n e)
  where
    by : (slice_get xs n ≡ Some y) ⊎ ((n ≡ length xs) × (x ≡ y)) → (slice_get xs n ≡ Some y) ⊎ ((suc n ≡ suc (length xs)) × (x ≡ y))
    by (inl f) = inl f
    by (inr (f, g)) = inr (ap suc f, g)

pub none_planned : (qs : List Question) (plans : List CategoryPlan) (t : Test) → plans ≡ [] → PlanEach qs plans t
none_planned qs plans t none category p e = absurd (let f : slice_get {X = CategoryPlan} [] category ≡ Some p = sym (ap (λ x. slice_get x category) none) ∙ e in cc)

pub each_next : (qs new : List Question) (plans more : List CategoryPlan) (t : Test) (category : ℕ) (p : CategoryPlan) → PlanEach qs plans t → Grow qs new → category ≡ length plans → SaysAs new (plan_tree p.plan) (λ r. passes category r (test_tree t)) → more ≡ plans ++ p ∷ []
    → PlanEach new more t
each_next qs new plans more t category p h grow at one put c q e = by (got_last plans p q c (sym (ap (λ x. slice_get x c) put) ∙ e))
  where
    by : (slice_get plans c ≡ Some q) ⊎ ((c ≡ length plans) × (p ≡ q)) → SaysAs new (plan_tree q.plan) (λ r. passes c r (test_tree t))
    by (inl f) = says_later qs new (plan_tree q.plan) _ grow (h c q f)
    by (inr (f, g)) = λ more r marks m. ap (λ x. says marks (finds (new ++ more) r) (plan_tree x.plan)) (sym g) ∙ one more r marks m ∙ ap (λ n. passes n r (test_tree t)) (at ∙ sym f)

pub ruleset categories = (none_planned, each_next)

-- ---- the plan of a record's category

pub said_of : (qs : List Question) (plans : List CategoryPlan) (t : Test) (category : ℕ) (p : CategoryPlan) (r : EntriesTree) (marks : List ℕ) → PlanEach qs plans t → slice_get plans category ≡ Some p → MarkEach marks r
    → says marks (finds qs r) (plan_tree p.plan) ≡ passes category r (test_tree t)
said_of qs plans t category p r marks h e m = sym (ap (λ x. says marks (finds x r) (plan_tree p.plan)) (append-nil qs)) ∙ h category p e [] r marks m
