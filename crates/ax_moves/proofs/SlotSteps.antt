-- Where slot numbers lead.
use Rattle.std.proofs.Common.{◌≡◌, ℕ, List, ◌∷◌, option_and_then, refl}
use Rattle.ax_format.specs.At.{slot_value}
use Rattle.ax_format.specs.Tree.{ValueTree, marked}
use Rattle.ax_relation.specs.Standing.{value_below}
use Rattle.ax_walk.specs.Values.{entries_in}

pub leads : (s : ℕ) (steps : List ℕ) (v : ValueTree) → value_below (s ∷ steps) v ≡ option_and_then (value_below steps) (slot_value s (entries_in v))
leads s steps (marked es) = refl
leads s steps _ = refl
