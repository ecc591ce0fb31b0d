-- Records that have none of the items that an expression asks.
use Rattle.std.specs.Prelude.{◌≡◌, ℕ, List, Some, None}
use Rattle.ax_format.specs.At.{slot_value}
use Rattle.ax_format.specs.Specification.{SpecTree}
use Rattle.ax_format.specs.Tree.{EntriesTree}
use Rattle.ax_format.specs.declared.place.Place.{Place}
use Rattle.ax_expressions.specs.Faults.{place_in}
use Rattle.ax_expressions.specs.Tree.{ExprTree, all_of, any_of, not_of, present, compared, ExprsTree, no_exprs, expr_and}
use Rattle.ax_expressions.specs.declared.expr.FullPath.{FullPath}

-- if the path is one of the category, the record hasn't its item
abbrev pub IsWithout : List SpecTree → ℕ → EntriesTree → FullPath → Type 0
IsWithout catalogue category r path = path.category ≡ category → (place : Place) → place_in catalogue path ≡ Some place → slot_value place.frn r ≡ None

abbrev mutual
  pub HasNoneOf : List SpecTree → ℕ → EntriesTree → ExprTree → Type 0
  HasNoneOf catalogue category r (all_of es) = HasNoneOfEach catalogue category r es
  HasNoneOf catalogue category r (any_of es) = HasNoneOfEach catalogue category r es
  HasNoneOf catalogue category r (not_of e) = HasNoneOf catalogue category r e
  HasNoneOf catalogue category r (present path) = IsWithout catalogue category r path
  HasNoneOf catalogue category r (compared path op number) = IsWithout catalogue category r path

  pub HasNoneOfEach : List SpecTree → ℕ → EntriesTree → ExprsTree → Type 0
  HasNoneOfEach catalogue category r no_exprs = Unit {0}
  HasNoneOfEach catalogue category r (expr_and e es) = HasNoneOf catalogue category r e × HasNoneOfEach catalogue category r es
