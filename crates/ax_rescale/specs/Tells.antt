-- What an option tells of a relation: the one that it holds, or that there is none.
use Rattle.std.specs.Prelude.{Option, Some, None}

abbrev pub Tells : {A : Type 0} → Option A → (A → Type 0) → Type 0
Tells {A} None R = (x : A) → R x → ⊥
Tells (Some x) R = R x
