-- Kinds without a presence field.
use Rattle.ax_format.specs.Tree.{KindTree, fixed, extended, counted, by_fx, explicit, compound}

-- a kind without a presence field at any depth
abbrev pub IsPlain : KindTree → Type 0
IsPlain (fixed f) = Unit {0}
IsPlain (extended last ps) = Unit {0}
IsPlain (counted size k) = ⊥
IsPlain (by_fx f) = Unit {0}
IsPlain explicit = Unit {0}
IsPlain (compound ss) = ⊥
