-- What the code makes by a rule, or that the rule lets nothing be made.
use Rattle.std.specs.Prelude.{Result, Option, IfOk, IfSome, IfNone}

-- what was made is what the rule asks for
abbrev pub IfMade : {A B E : Type 0} → (A → B) → (B → Type 0) → Result (Option A) E → Type 0
IfMade tree Rule result = IfOk result (λ made. IfSome made (λ one. Rule (tree one)))

-- where nothing was made, there is nothing that the rule asks for
abbrev pub IfNotMade : {A B E : Type 0} → (B → Type 0) → Result (Option A) E → Type 0
IfNotMade {B = B} Rule result = IfOk result (λ made. IfNone made ((one : B) → Rule one → ⊥))
