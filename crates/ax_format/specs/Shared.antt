-- Which keys two editions share (this project's own rule). A named path is shared where both have it, and both kinds are
-- compounds, or extended items with a part in common, or neither is one of these and they are the same. A part is shared
-- where it is one of those that the two items have in common.
use Rattle.std.specs.Prelude.{ℕ, nat_lt, Bool, true, false, List, [], ◌∷◌, Option, Some, None}
use Rattle.ax_format.specs.Named.{Key, kind_at}
use Rattle.ax_format.specs.Same.{is_same, common, common_parts}
use Rattle.ax_format.specs.Specification.{SpecTree, record_kind}
use Rattle.ax_format.specs.Tree.{KindTree, extended, compound}

-- a compound is never the same as another kind, nor is an extended item
abbrev pub is_shared_kind : KindTree → KindTree → Bool
is_shared_kind (compound ss) (compound ts) = true
is_shared_kind (extended last ps) (extended other qs) = nat_lt 0 (common ps qs)
is_shared_kind k l = is_same k l

-- of a kind itself, or of the part of that number
abbrev pub is_shared_at : Option ℕ → KindTree → KindTree → Bool
is_shared_at None k l = is_shared_kind k l
is_shared_at (Some i) k l = nat_lt i (common_parts k l)

abbrev pub are_shared : Option ℕ → Option KindTree → Option KindTree → Bool
are_shared part (Some k) (Some l) = is_shared_at part k l
are_shared part _ _ = false

abbrev pub shared_names : SpecTree → SpecTree → Option ℕ → List (List ℕ) → Bool
shared_names old new part [] = false
shared_names old new part (name ∷ names) = are_shared part (kind_at (name ∷ names) (record_kind old)) (kind_at (name ∷ names) (record_kind new))

abbrev pub Shared : SpecTree → SpecTree → Key → Bool
Shared old new key = shared_names old new key.part key.names

-- ---- extended items

abbrev pub in_common : Option KindTree → Option KindTree → ℕ
in_common (Some k) (Some l) = common_parts k l
in_common _ _ = 0

-- how many first parts the items at a named path have in common; 0 where they aren't both extended
abbrev pub Common : SpecTree → SpecTree → List (List ℕ) → ℕ
Common old new names = in_common (kind_at names (record_kind old)) (kind_at names (record_kind new))
