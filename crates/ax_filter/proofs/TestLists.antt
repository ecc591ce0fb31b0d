-- Lists of tests, from a place on.
use Rattle.std.proofs.Common.{◌≡◌, ℕ, ◌+◌, ◌<◌, ◌≤◌, Bool, true, false, ◌&&◌, ◌||◌, List, ◌∷◌, map, drop, length, get_or, sym, ◌∙◌, ap}
use Rattle.std.proofs.lemmas.List.{drop_all}
use Rattle.ax_format.proofs.Namings.{from_place}
use Rattle.ax_format.specs.Tree.{EntriesTree}
use Rattle.ax_expressions.specs.Tests.{test_tree, tests_of, TestsTree, passes, all_pass, any_passes}
use Rattle.ax_expressions.specs.declared.test.Test.{Test}

abbrev tests_from : List Test → ℕ → TestsTree
tests_from ts i = tests_of (map test_tree (drop i ts))

next : (ts : List Test) (i : ℕ) (t : Test) → i < length ts → t ≡ get_or ts i t → tests_of (map test_tree (drop i ts)) ≡ tests_of (map test_tree (t ∷ drop (i + 1) ts))
next ts i t within is = ap (λ x. tests_of (map test_tree x)) (from_place ts i t within is)

-- ---- all of them

pub all_next : (category : ℕ) (r : EntriesTree) (ts : List Test) (i : ℕ) (t : Test) (whole : Bool) → i < length ts → t ≡ get_or ts i t → passes category r (test_tree t) ≡ true
    → all_pass category r (tests_from ts i) ≡ whole → all_pass category r (tests_from ts (i + 1)) ≡ whole
all_next category r ts i t whole within is p h =
    sym (ap (λ b. b && all_pass category r (tests_from ts (i + 1))) p) ∙ sym (ap (all_pass category r) (next ts i t within is)) ∙ h

pub all_not : (category : ℕ) (r : EntriesTree) (ts : List Test) (i : ℕ) (t : Test) (whole : Bool) → i < length ts → t ≡ get_or ts i t → passes category r (test_tree t) ≡ false
    → all_pass category r (tests_from ts i) ≡ whole → false ≡ whole
all_not category r ts i t whole within is p h =
    sym (ap (λ b. b && all_pass category r (tests_from ts (i + 1))) p) ∙ sym (ap (all_pass category r) (next ts i t within is)) ∙ h

pub all_end : (category : ℕ) (r : EntriesTree) (ts : List Test) (i : ℕ) (whole : Bool) → length ts ≤ i → all_pass category r (tests_from ts i) ≡ whole → true ≡ whole
all_end category r ts i whole past h = sym (ap (λ x. all_pass category r (tests_of (map test_tree x))) (drop_all i ts past)) ∙ h

pub ruleset alls = (all_next, all_not, all_end)

-- ---- some of them

pub any_next : (category : ℕ) (r : EntriesTree) (ts : List Test) (i : ℕ) (t : Test) (whole : Bool) → i < length ts → t ≡ get_or ts i t → passes category r (test_tree t) ≡ false
    → any_passes category r (tests_from ts i) ≡ whole → any_passes category r (tests_from ts (i + 1)) ≡ whole
any_next category r ts i t whole within is p h =
    sym (ap (λ b. b || any_passes category r (tests_from ts (i + 1))) p) ∙ sym (ap (any_passes category r) (next ts i t within is)) ∙ h

pub any_there : (category : ℕ) (r : EntriesTree) (ts : List Test) (i : ℕ) (t : Test) (whole : Bool) → i < length ts → t ≡ get_or ts i t → passes category r (test_tree t) ≡ true
    → any_passes category r (tests_from ts i) ≡ whole → true ≡ whole
any_there category r ts i t whole within is p h =
    sym (ap (λ b. b || any_passes category r (tests_from ts (i + 1))) p) ∙ sym (ap (any_passes category r) (next ts i t within is)) ∙ h

pub any_end : (category : ℕ) (r : EntriesTree) (ts : List Test) (i : ℕ) (whole : Bool) → length ts ≤ i → any_passes category r (tests_from ts i) ≡ whole → false ≡ whole
any_end category r ts i whole past h = sym (ap (λ x. any_passes category r (tests_of (map test_tree x))) (drop_all i ts past)) ∙ h

pub ruleset anys = (any_next, any_there, any_end)
