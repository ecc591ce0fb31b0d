-- A test holds of a record exactly where the expression that it was made of does.
use Rattle.std.proofs.Common.{◌≡◌, ℕ, ◌==◌, Bool, not, ◌&&◌, ◌||◌, List, Option, Some, None, option_map, option_and_then, refl, ap}
use Rattle.ax_format.specs.At.{At}
use Rattle.ax_format.specs.Specification.{SpecTree}
use Rattle.ax_format.specs.Tree.{FixedTree, element, group, EntriesTree}
use Rattle.ax_format.specs.declared.place.Place.{Place}
use Rattle.ax_expressions.specs.Faults.{place_in, element_in}
use Rattle.ax_expressions.specs.Meaning.{is_signed, number_of, fixed_number, compares, some_passes, holds, all_hold, any_holds}
use Rattle.ax_expressions.specs.Tests.{element_for, resolved, all_resolved, number_for, passes, all_pass, any_passes}
use Rattle.ax_expressions.specs.Tree.{ExprTree, all_of, any_of, not_of, present, compared, ExprsTree, no_exprs, expr_and}

numbers : (w : ℕ) (is : Bool) (o : Option ℕ) → option_map (number_of is w) o ≡ option_and_then (λ n. Some (number_of is w n)) o
numbers w is None = refl
numbers w is (Some n) = refl

of_fixed : (r : EntriesTree) (place : Place) (f : FixedTree) → option_and_then (number_for r) (element_for place f) ≡ option_and_then (fixed_number f) (At r place)
of_fixed r place (element w c) = numbers w (is_signed c) (At r place)
of_fixed r place (group ms) = no_number (At r place)
  where
    no_number : (o : Option ℕ) → None ≡ option_and_then (fixed_number (group ms)) o
    no_number None = refl
    no_number (Some n) = refl

of_element : (r : EntriesTree) (place : Place) (o : Option FixedTree) → option_and_then (number_for r) (option_and_then (element_for place) o) ≡ option_and_then (λ f. option_and_then (fixed_number f) (At r place)) o
of_element r place None = refl
of_element r place (Some f) = of_fixed r place f

of_place : (r : EntriesTree) (f : Option FixedTree) (o : Option Place)
    → option_and_then (number_for r) (option_and_then (λ place. option_and_then (element_for place) f) o) ≡ option_and_then (λ place. option_and_then (λ g. option_and_then (fixed_number g) (At r place)) f) o
of_place r f None = refl
of_place r f (Some place) = of_element r place f

mutual
  pub same_truth : (catalogue : List SpecTree) (category : ℕ) (r : EntriesTree) (e : ExprTree) → passes category r (resolved catalogue e) ≡ holds catalogue category r e
  same_truth catalogue category r (all_of es) = all_same catalogue category r es
  same_truth catalogue category r (any_of es) = any_same catalogue category r es
  same_truth catalogue category r (not_of e) = ap not (same_truth catalogue category r e)
  same_truth catalogue category r (present path) = refl
  same_truth catalogue category r (compared path op number) =
      ap (λ o. (path.category == category) && some_passes (λ n. compares op n number) o) (of_place r (element_in catalogue path) (place_in catalogue path))

  all_same : (catalogue : List SpecTree) (category : ℕ) (r : EntriesTree) (es : ExprsTree) → all_pass category r (all_resolved catalogue es) ≡ all_hold catalogue category r es
  all_same catalogue category r no_exprs = refl
  all_same catalogue category r (expr_and e es) = (λ i. same_truth catalogue category r e i && all_same catalogue category r es i)

  any_same : (catalogue : List SpecTree) (category : ℕ) (r : EntriesTree) (es : ExprsTree) → any_passes category r (all_resolved catalogue es) ≡ any_holds catalogue category r es
  any_same catalogue category r no_exprs = refl
  any_same catalogue category r (expr_and e es) = (λ i. same_truth catalogue category r e i || any_same catalogue category r es i)
