-- What an expression says of a record that has none of the items that it asks.
use Rattle.std.proofs.Common.{◌≡◌, ℕ, ◌==◌, Bool, true, false, not, ◌&&◌, ◌||◌, List, Option, Some, None, option_and_then, is_some, refl, sym, ◌∙◌, ap, ℤ}
use Rattle.std.proofs.lemmas.Bool.{eqb-true}
use Rattle.ax_format.specs.At.{slot_value, value_at, number_of_value, is_present, At}
use Rattle.ax_format.specs.Specification.{SpecTree}
use Rattle.ax_format.specs.Tree.{EntriesTree, no_entries}
use Rattle.ax_format.specs.declared.place.Place.{Place}
use Rattle.ax_laws.specs.Absent.{IsWithout, HasNoneOf, HasNoneOfEach}
use Rattle.ax_expressions.specs.Faults.{place_in, element_in}
use Rattle.ax_expressions.specs.Meaning.{fixed_number, compares, some_passes, holds, all_hold, any_holds}
use Rattle.ax_expressions.specs.Tree.{ExprTree, all_of, any_of, not_of, present, compared, ExprsTree, no_exprs, expr_and}
use Rattle.ax_expressions.specs.declared.expr.FullPath.{FullPath}
use Rattle.ax_expressions.specs.declared.expr.Op.{Op}

-- ---- one path

present_same : (r : EntriesTree) (place : Place) → slot_value place.frn r ≡ None → is_present r place ≡ is_present no_entries place
present_same r place none = ap (λ o. is_some (option_and_then (value_at place.steps) o)) none

number_same : (r : EntriesTree) (place : Place) → slot_value place.frn r ≡ None → At r place ≡ At no_entries place
number_same r place none = ap (λ o. option_and_then number_of_value (option_and_then (value_at place.steps) o)) none

module _ (catalogue : List SpecTree) (category : ℕ) (r : EntriesTree) (path : FullPath) (h : IsWithout catalogue category r path) where
  of_place : (rule other : Option Place → Bool) → rule None ≡ other None → ((place : Place) → slot_value place.frn r ≡ None → rule (Some place) ≡ other (Some place))
      → ((path.category == category) && rule (place_in catalogue path)) ≡ ((path.category == category) && other (place_in catalogue path))
  of_place rule other none some = by (path.category == category) refl
    where
      at : path.category ≡ category → (o : Option Place) → place_in catalogue path ≡ o → rule (place_in catalogue path) ≡ other (place_in catalogue path)
      at own None e = ap rule e ∙ none ∙ sym (ap other e)
      at own (Some place) e = ap rule e ∙ some place (h own place e) ∙ sym (ap other e)

      by : (b : Bool) → (path.category == category) ≡ b → ((path.category == category) && rule (place_in catalogue path)) ≡ ((path.category == category) && other (place_in catalogue path))
      by true e = ap (λ b. (path.category == category) && b) (at (eqb-true path.category category e) (place_in catalogue path) refl)
      by false e = ap (λ b. b && rule (place_in catalogue path)) e ∙ sym (ap (λ b. b && other (place_in catalogue path)) e)

  of_present : holds catalogue category r (present path) ≡ holds catalogue category no_entries (present path)
  of_present = of_place (some_passes (is_present r)) (some_passes (is_present no_entries)) refl (λ place none. present_same r place none)

  of_compared : (op : Op) (number : ℤ) → holds catalogue category r (compared path op number) ≡ holds catalogue category no_entries (compared path op number)
  of_compared op number = of_place (told r) (told no_entries) refl (λ place none. ap (λ o. some_passes (λ n. compares op n number) (option_and_then (λ f. option_and_then (fixed_number f) o) (element_in catalogue path))) (number_same r place none))
    where
      told : EntriesTree → Option Place → Bool
      told one o = some_passes (λ n. compares op n number) (option_and_then (λ place. option_and_then (λ f. option_and_then (fixed_number f) (At one place)) (element_in catalogue path)) o)

-- ---- expressions

mutual
  pub absent_same : (catalogue : List SpecTree) (category : ℕ) (r : EntriesTree) (e : ExprTree) → HasNoneOf catalogue category r e → holds catalogue category r e ≡ holds catalogue category no_entries e
  absent_same catalogue category r (all_of es) h = all_absent catalogue category r es h
  absent_same catalogue category r (any_of es) h = any_absent catalogue category r es h
  absent_same catalogue category r (not_of e) h = ap not (absent_same catalogue category r e h)
  absent_same catalogue category r (present path) h = of_present catalogue category r path h
  absent_same catalogue category r (compared path op number) h = of_compared catalogue category r path h op number

  all_absent : (catalogue : List SpecTree) (category : ℕ) (r : EntriesTree) (es : ExprsTree) → HasNoneOfEach catalogue category r es → all_hold catalogue category r es ≡ all_hold catalogue category no_entries es
  all_absent catalogue category r no_exprs h = refl
  all_absent catalogue category r (expr_and e es) h = (λ i. absent_same catalogue category r e h.0 i && all_absent catalogue category r es h.1 i)

  any_absent : (catalogue : List SpecTree) (category : ℕ) (r : EntriesTree) (es : ExprsTree) → HasNoneOfEach catalogue category r es → any_holds catalogue category r es ≡ any_holds catalogue category no_entries es
  any_absent catalogue category r no_exprs h = refl
  any_absent catalogue category r (expr_and e es) h = (λ i. absent_same catalogue category r e h.0 i || any_absent catalogue category r es h.1 i)
