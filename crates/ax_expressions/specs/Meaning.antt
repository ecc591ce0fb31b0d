-- When an expression over a catalogue holds of a record (this project's own meaning).
use Rattle.std.specs.Prelude.{ℕ, ◌==◌, Bool, false, not, ◌&&◌, ◌||◌, true, if◌then◌else◌, List, Option, Some, None, option_and_then, ℤ, pos, int_lt, int_le}
use Rattle.std.specs.Ordering.{int_eq}
use Rattle.ax_bits.specs.Bits.{signed}
use Rattle.ax_format.specs.At.{is_present, At}
use Rattle.ax_format.specs.Specification.{SpecTree}
use Rattle.ax_format.specs.Tree.{FixedTree, element, group, EntriesTree}
use Rattle.ax_format.specs.declared.content.Content.{Content}
use Rattle.ax_format.specs.declared.content.Content.TheVariants.{Integer, Quantity}
use Rattle.ax_format.specs.declared.content.Sign.{Sign}
use Rattle.ax_format.specs.declared.content.Sign.TheVariants.{Signed, Unsigned}
use Rattle.ax_expressions.specs.Faults.{place_in, element_in}
use Rattle.ax_expressions.specs.Tree.{ExprTree, all_of, any_of, not_of, present, compared, ExprsTree, no_exprs, expr_and}
use Rattle.ax_expressions.specs.declared.expr.FullPath.{FullPath}
use Rattle.ax_expressions.specs.declared.expr.Op.{Op}
use Rattle.ax_expressions.specs.declared.expr.Op.TheVariants.{Equal, Unequal, Less, LessOrEqual, Greater, GreaterOrEqual}

-- ---- numbers

abbrev pub is_signed_sign : Sign → Bool
is_signed_sign Signed = true
is_signed_sign Unsigned = false

-- signed integers and signed quantities
abbrev pub is_signed : Content → Bool
is_signed (Integer sign) = is_signed_sign sign
is_signed (Quantity scale) = is_signed_sign scale.sign
is_signed _ = false

-- the number of w bits that spell n, in two's complement where it is signed; a quantity isn't scaled
abbrev pub number_of : Bool → ℕ → ℕ → ℤ
number_of is w n = if is then signed w n else pos n

-- of an element; a group has none
abbrev pub fixed_number : FixedTree → ℕ → Option ℤ
fixed_number (element w c) n = Some (number_of (is_signed c) w n)
fixed_number (group ms) n = None

abbrev pub compares : Op → ℤ → ℤ → Bool
compares Equal a b = int_eq a b
compares Unequal a b = not (int_eq a b)
compares Less a b = int_lt a b
compares LessOrEqual a b = int_le a b
compares Greater a b = int_lt b a
compares GreaterOrEqual a b = int_le b a

-- ---- at a path

-- there is one, and it passes
abbrev pub some_passes : {A : Type 0} → (A → Bool) → Option A → Bool
some_passes test None = false
some_passes test (Some x) = test x

-- something stands at the path
abbrev pub stands : List SpecTree → EntriesTree → FullPath → Bool
stands catalogue r path = some_passes (is_present r) (place_in catalogue path)

-- the number that stands at the path, if it leads to an element
abbrev pub number_at_path : List SpecTree → EntriesTree → FullPath → Option ℤ
number_at_path catalogue r path =
    option_and_then (λ place. option_and_then (λ f. option_and_then (fixed_number f) (At r place)) (element_in catalogue path)) (place_in catalogue path)

-- ---- the truth of an expression for a record of a category

abbrev mutual
  -- a path of another category stands in no record; a comparison with what isn't there is false, also by `!=`
  pub holds : List SpecTree → ℕ → EntriesTree → ExprTree → Bool
  holds catalogue category r (all_of es) = all_hold catalogue category r es
  holds catalogue category r (any_of es) = any_holds catalogue category r es
  holds catalogue category r (not_of e) = not (holds catalogue category r e)
  holds catalogue category r (present path) = (path.category == category) && stands catalogue r path
  holds catalogue category r (compared path op number) = (path.category == category) && some_passes (λ n. compares op n number) (number_at_path catalogue r path)

  -- true where there is none
  pub all_hold : List SpecTree → ℕ → EntriesTree → ExprsTree → Bool
  all_hold catalogue category r no_exprs = true
  all_hold catalogue category r (expr_and e es) = holds catalogue category r e && all_hold catalogue category r es

  -- false where there is none
  pub any_holds : List SpecTree → ℕ → EntriesTree → ExprsTree → Bool
  any_holds catalogue category r no_exprs = false
  any_holds catalogue category r (expr_and e es) = holds catalogue category r e || any_holds catalogue category r es
