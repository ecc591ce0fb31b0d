-- Expressions whose paths are resolved to places, as plain trees.
use Rattle.std.specs.Prelude.{ℕ, ◌==◌, Bool, false, not, ◌&&◌, ◌||◌, true, List, [], ◌∷◌, Option, Some, None, option_map, option_and_then, ℤ}
use Rattle.ax_format.specs.At.{is_present, At}
use Rattle.ax_format.specs.Specification.{SpecTree}
use Rattle.ax_format.specs.Tree.{FixedTree, element, group, EntriesTree}
use Rattle.ax_format.specs.declared.place.Place.{Place}
use Rattle.ax_expressions.specs.Faults.{place_in, element_in}
use Rattle.ax_expressions.specs.Meaning.{is_signed, number_of, compares, some_passes}
use Rattle.ax_expressions.specs.Tree.{ExprTree, all_of, any_of, not_of, present, compared, ExprsTree, no_exprs, expr_and}
use Rattle.ax_expressions.specs.declared.expr.FullPath.{FullPath}
use Rattle.ax_expressions.specs.declared.expr.Op.{Op}
use Rattle.ax_expressions.specs.declared.test.Element.{Element}
use Rattle.ax_expressions.specs.declared.test.Test.{Test, fold-Test}
use Rattle.ax_expressions.specs.declared.test.Test.TheOpen.{Test-F}

mutual
  -- all of some hold, any of them does, one doesn't; in a record of the category something stands at the place, or the
  -- element's number compares so with this one
  pub data TestTree : Type 0 where
    all_tests : TestsTree → TestTree
    any_test : TestsTree → TestTree
    not_test : TestTree → TestTree
    at_place : ℕ → Option Place → TestTree
    at_element : ℕ → Option Element → Op → ℤ → TestTree

  pub data TestsTree : Type 0 where
    no_tests : TestsTree
    test_and : TestTree → TestsTree → TestsTree

abbrev pub tests_of : List TestTree → TestsTree
tests_of [] = no_tests
tests_of (t ∷ ts) = test_and t (tests_of ts)

abbrev pub test_step : Test-F TestTree → TestTree
test_step (Test-F.All ts) = all_tests (tests_of ts)
test_step (Test-F.Any ts) = any_test (tests_of ts)
test_step (Test-F.Not t) = not_test t.value
test_step (Test-F.Present category place) = at_place category place
test_step (Test-F.Is category e op number) = at_element category e op number

-- what a test of the code says
abbrev pub test_tree : Test → TestTree
test_tree t = fold-Test TestTree test_step t

-- ---- an expression over a catalogue

abbrev pub element_for : Place → FixedTree → Option Element
element_for place (element w c) = Some (record { place = place; signed = is_signed c; width = w })
element_for place (group ms) = None

abbrev pub element_at_path : List SpecTree → FullPath → Option Element
element_at_path catalogue path = option_and_then (λ place. option_and_then (element_for place) (element_in catalogue path)) (place_in catalogue path)

abbrev mutual
  pub resolved : List SpecTree → ExprTree → TestTree
  resolved catalogue (all_of es) = all_tests (all_resolved catalogue es)
  resolved catalogue (any_of es) = any_test (all_resolved catalogue es)
  resolved catalogue (not_of e) = not_test (resolved catalogue e)
  resolved catalogue (present path) = at_place path.category (place_in catalogue path)
  resolved catalogue (compared path op number) = at_element path.category (element_at_path catalogue path) op number

  pub all_resolved : List SpecTree → ExprsTree → TestsTree
  all_resolved catalogue no_exprs = no_tests
  all_resolved catalogue (expr_and e es) = test_and (resolved catalogue e) (all_resolved catalogue es)

-- ---- the truth of a test for a record of a category

abbrev pub number_for : EntriesTree → Element → Option ℤ
number_for r e = option_map (number_of e.signed e.width) (At r e.place)

-- the number of an element is there, and compares so with this one
abbrev pub compares_there : Op → ℤ → EntriesTree → Option Element → Bool
compares_there op number r e = some_passes (λ n. compares op n number) (option_and_then (number_for r) e)

abbrev mutual
  pub passes : ℕ → EntriesTree → TestTree → Bool
  passes category r (all_tests ts) = all_pass category r ts
  passes category r (any_test ts) = any_passes category r ts
  passes category r (not_test t) = not (passes category r t)
  passes category r (at_place own place) = (own == category) && some_passes (is_present r) place
  passes category r (at_element own e op number) = (own == category) && compares_there op number r e

  pub all_pass : ℕ → EntriesTree → TestsTree → Bool
  all_pass category r no_tests = true
  all_pass category r (test_and t ts) = passes category r t && all_pass category r ts

  pub any_passes : ℕ → EntriesTree → TestsTree → Bool
  any_passes category r no_tests = false
  any_passes category r (test_and t ts) = passes category r t || any_passes category r ts
