-- The plain trees of the code's variants.
use Rattle.std.proofs.Common.{◌≡◌, ℕ, ◌==◌, Bool, true, false, not, ◌&&◌, List, map, Box, Global, Option, option_and_then, refl, sym, ap, ◌∙◌, ℤ}
use Rattle.ax_format.specs.At.{is_present}
use Rattle.ax_format.specs.Tree.{EntriesTree}
use Rattle.ax_format.specs.declared.place.Place.{Place}
use Rattle.ax_expressions.specs.Meaning.{compares, some_passes}
use Rattle.ax_expressions.specs.Tests.{TestTree, all_tests, any_test, not_test, at_place, at_element, tests_of, test_step, test_tree, number_for, passes, all_pass, any_passes, element_at_path, resolved}
use Rattle.ax_expressions.specs.Faults.{place_in}
use Rattle.ax_expressions.proofs.Resolved.{each_resolved}
use Rattle.ax_format.specs.Specification.{SpecTree}
use Rattle.ax_expressions.specs.declared.expr.FullPath.{FullPath}
use Rattle.ax_expressions.specs.Tree.{ExprTree, all_of, any_of, not_of, present, compared, exprs_of, expr_step, expr_tree}
use Rattle.ax_expressions.specs.declared.expr.Expr.{Expr, fold-roll-Expr}
use Rattle.ax_expressions.specs.declared.expr.Expr.TheOpen.{Expr-F}
use Rattle.ax_expressions.specs.declared.expr.Op.{Op}
use Rattle.ax_expressions.specs.declared.test.Element.{Element}
use Rattle.ax_expressions.specs.declared.test.Test.{Test, fold-roll-Test}
use Rattle.ax_expressions.specs.declared.test.Test.TheOpen.{Test-F}
use Rattle.ax_expressions.specs.declared.test.Test.TheVariants as Tests
use Rattle.ax_expressions.specs.declared.expr.Expr.TheVariants.{All, Any, Not, Present, Is, rolls-All, rolls-Any, rolls-Not, rolls-Present, rolls-Is}

pub all_tree : (es : List Expr) → expr_tree (All es) ≡ all_of (exprs_of (map expr_tree es))
all_tree es = ap expr_tree (sym (rolls-All es)) ∙ fold-roll-Expr ExprTree expr_step (Expr-F.All es)

pub any_tree : (es : List Expr) → expr_tree (Any es) ≡ any_of (exprs_of (map expr_tree es))
any_tree es = ap expr_tree (sym (rolls-Any es)) ∙ fold-roll-Expr ExprTree expr_step (Expr-F.Any es)

pub not_tree : (box : Box Expr Global) (e : Expr) → box.value ≡ e → expr_tree (Not box) ≡ not_of (expr_tree e)
not_tree box e same = ap expr_tree (sym (rolls-Not box)) ∙ fold-roll-Expr ExprTree expr_step (Expr-F.Not box) ∙ ap (λ x. not_of (expr_tree x)) same

pub present_tree : (path : FullPath) → expr_tree (Present path) ≡ present path
present_tree path = ap expr_tree (sym (rolls-Present path)) ∙ fold-roll-Expr ExprTree expr_step (Expr-F.Present path)

is_tree : (path : FullPath) (op : Op) (number : ℤ) → expr_tree (Is path op number) ≡ compared path op number
is_tree path op number = ap expr_tree (sym (rolls-Is path op number)) ∙ fold-roll-Expr ExprTree expr_step (Expr-F.Is path op number)

-- ---- the plain trees of tests

pub all_test_tree : (ts : List Test) → test_tree (Tests.All ts) ≡ all_tests (tests_of (map test_tree ts))
all_test_tree ts = ap test_tree (sym (Tests.rolls-All ts)) ∙ fold-roll-Test TestTree test_step (Test-F.All ts)

pub any_test_tree : (ts : List Test) → test_tree (Tests.Any ts) ≡ any_test (tests_of (map test_tree ts))
any_test_tree ts = ap test_tree (sym (Tests.rolls-Any ts)) ∙ fold-roll-Test TestTree test_step (Test-F.Any ts)

pub not_test_tree : (box : Box Test Global) → test_tree (Tests.Not box) ≡ not_test (test_tree box.value)
not_test_tree box = ap test_tree (sym (Tests.rolls-Not box)) ∙ fold-roll-Test TestTree test_step (Test-F.Not box)

pub at_place_tree : (category : ℕ) (place : Option Place) → test_tree (Tests.Present category place) ≡ at_place category place
at_place_tree category place = ap test_tree (sym (Tests.rolls-Present category place)) ∙ fold-roll-Test TestTree test_step (Test-F.Present category place)

pub at_element_tree : (category : ℕ) (e : Option Element) (op : Op) (number : ℤ) → test_tree (Tests.Is category e op number) ≡ at_element category e op number
at_element_tree category e op number = ap test_tree (sym (Tests.rolls-Is category e op number)) ∙ fold-roll-Test TestTree test_step (Test-F.Is category e op number)

-- ---- what a test passes

pub all_passes : (category : ℕ) (r : EntriesTree) (t : Test) (ts : List Test) (b : Bool) → t ≡ Tests.All ts → b ≡ all_pass category r (tests_of (map test_tree ts)) → b ≡ passes category r (test_tree t)
all_passes category r t ts b is h = h ∙ sym (ap (passes category r) (ap test_tree is ∙ all_test_tree ts))

pub some_pass : (category : ℕ) (r : EntriesTree) (t : Test) (ts : List Test) (b : Bool) → t ≡ Tests.Any ts → b ≡ any_passes category r (tests_of (map test_tree ts)) → b ≡ passes category r (test_tree t)
some_pass category r t ts b is h = h ∙ sym (ap (passes category r) (ap test_tree is ∙ any_test_tree ts))

pub not_passes : (category : ℕ) (r : EntriesTree) (t : Test) (box : Box Test Global) (b : Bool) → t ≡ Tests.Not box → b ≡ passes category r (test_tree box.value) → not b ≡ passes category r (test_tree t)
not_passes category r t box b is h = ap not h ∙ sym (ap (passes category r) (ap test_tree is ∙ not_test_tree box))

pub other_place : (category own : ℕ) (r : EntriesTree) (t : Test) (place : Option Place) → t ≡ Tests.Present own place → (own == category) ≡ false → false ≡ passes category r (test_tree t)
other_place category own r t place is e = sym (ap (λ b. b && some_passes (is_present r) place) e) ∙ sym (ap (passes category r) (ap test_tree is ∙ at_place_tree own place))

pub same_place : (category own : ℕ) (r : EntriesTree) (t : Test) (place : Option Place) (b : Bool) → t ≡ Tests.Present own place → (own == category) ≡ true → b ≡ some_passes (is_present r) place → b ≡ passes category r (test_tree t)
same_place category own r t place b is e h = h ∙ sym (ap (λ b. b && some_passes (is_present r) place) e) ∙ sym (ap (passes category r) (ap test_tree is ∙ at_place_tree own place))

abbrev measure : EntriesTree → Option Element → Op → ℤ → Bool
measure r e op number = some_passes (λ n. compares op n number) (option_and_then (number_for r) e)

pub other_element : (category own : ℕ) (r : EntriesTree) (t : Test) (e : Option Element) (op : Op) (number : ℤ) → t ≡ Tests.Is own e op number → (own == category) ≡ false → false ≡ passes category r (test_tree t)
other_element category own r t e op number is h = sym (ap (λ b. b && measure r e op number) h) ∙ sym (ap (passes category r) (ap test_tree is ∙ at_element_tree own e op number))

pub same_element : (category own : ℕ) (r : EntriesTree) (t : Test) (e : Option Element) (op : Op) (number : ℤ) (b : Bool) → t ≡ Tests.Is own e op number → (own == category) ≡ true → b ≡ measure r e op number → b ≡ passes category r (test_tree t)
same_element category own r t e op number b is h k = k ∙ sym (ap (λ b. b && measure r e op number) h) ∙ sym (ap (passes category r) (ap test_tree is ∙ at_element_tree own e op number))

pub ruleset passing = (all_passes, some_pass, not_passes, other_place, same_place, other_element, same_element)

-- ---- a test that was made of an expression

pub all_made : (catalogue : List SpecTree) (e : Expr) (es : List Expr) (ts : List Test) → e ≡ All es → map test_tree ts ≡ map (λ e. resolved catalogue (expr_tree e)) es → test_tree (Tests.All ts) ≡ resolved catalogue (expr_tree e)
all_made catalogue e es ts is h = all_test_tree ts ∙ ap (λ l. all_tests (tests_of l)) h ∙ ap all_tests (each_resolved catalogue es) ∙ sym (ap (resolved catalogue) (ap expr_tree is ∙ all_tree es))

pub any_made : (catalogue : List SpecTree) (e : Expr) (es : List Expr) (ts : List Test) → e ≡ Any es → map test_tree ts ≡ map (λ e. resolved catalogue (expr_tree e)) es → test_tree (Tests.Any ts) ≡ resolved catalogue (expr_tree e)
any_made catalogue e es ts is h = any_test_tree ts ∙ ap (λ l. any_test (tests_of l)) h ∙ ap any_test (each_resolved catalogue es) ∙ sym (ap (resolved catalogue) (ap expr_tree is ∙ any_tree es))

pub not_made : (catalogue : List SpecTree) (e : Expr) (box : Box Expr Global) (made : Box Test Global) (t : Test) → e ≡ Not box → made.value ≡ t → test_tree t ≡ resolved catalogue (expr_tree box.value) → test_tree (Tests.Not made) ≡ resolved catalogue (expr_tree e)
not_made catalogue e box made t is same h = not_test_tree made ∙ ap (λ x. not_test (test_tree x)) same ∙ ap not_test h ∙ sym (ap (resolved catalogue) (ap expr_tree is ∙ not_tree box box.value refl))

pub present_made : (catalogue : List SpecTree) (e : Expr) (path : FullPath) (place : Option Place) → e ≡ Present path → place ≡ place_in catalogue path → test_tree (Tests.Present path.category place) ≡ resolved catalogue (expr_tree e)
present_made catalogue e path place is h = at_place_tree path.category place ∙ ap (at_place path.category) h ∙ sym (ap (resolved catalogue) (ap expr_tree is ∙ present_tree path))

pub is_made : (catalogue : List SpecTree) (e : Expr) (path : FullPath) (op : Op) (number : ℤ) (x : Option Element) → e ≡ Is path op number → x ≡ element_at_path catalogue path → test_tree (Tests.Is path.category x op number) ≡ resolved catalogue (expr_tree e)
is_made catalogue e path op number x is h = at_element_tree path.category x op number ∙ ap (λ y. at_element path.category y op number) h ∙ sym (ap (resolved catalogue) (ap expr_tree is ∙ is_tree path op number))

pub ruleset resolving = (all_made, any_made, not_made, present_made, is_made)
