use Rattle.std.proofs.Common.{◌≡◌, drop, map}
use Rattle.ax_expressions.specs.Tests.{test_tree, tests_of, all_pass, any_passes}
use Rattle.ax_filter.proofs.passing.+pass.Given as goal

abbrev pub invariant-all_pass-loop-test : goal.invariant-all_pass-loop-test
invariant-all_pass-loop-test g l =
    all_pass l.category (g.R.HasPlaces.entries l.one) (tests_of (map test_tree (drop l.test-index l.tests))) ≡ all_pass l.category (g.R.HasPlaces.entries l.one) (tests_of (map test_tree l.tests))

abbrev pub invariant-any_passes-loop-test : goal.invariant-any_passes-loop-test
invariant-any_passes-loop-test g l =
    any_passes l.category (g.R.HasPlaces.entries l.one) (tests_of (map test_tree (drop l.test-index l.tests))) ≡ any_passes l.category (g.R.HasPlaces.entries l.one) (tests_of (map test_tree l.tests))
