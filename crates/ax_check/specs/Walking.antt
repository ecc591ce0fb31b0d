-- What a walk down a kind leaves.
use Rattle.std.specs.Prelude.{◌≡◌, ℕ, Bool, true, false, List, ◌++◌, Option, Some, None}

-- the walk says whether the steps are there, and has appended them
abbrev pub Leads : Option (List ℕ) → List ℕ → List ℕ → Bool → Type 0
Leads None old new leads = leads ≡ false
Leads (Some steps) old new leads = (leads ≡ true) × (new ≡ old ++ steps)
