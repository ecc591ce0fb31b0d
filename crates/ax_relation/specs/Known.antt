-- What a map knows of paths: whether each is shared, and how many first parts are.
use Rattle.std.specs.Prelude.{◌≡◌, ℕ, false, if◌then◌else◌, bytes_eq, List, [], ◌∷◌, Option, Some, None, unwrap_or}
use Rattle.std.specs.HashMap.{get_by}
use Rattle.std.specs.Cmp.Lexicographic.{pointwise}
use Rattle.ax_format.specs.Same.{common_parts}
use Rattle.ax_relation.specs.Fates.{is_path}
use Rattle.ax_format.specs.Shared.{is_shared_kind, Shared, Common}
use Rattle.ax_format.specs.Specification.{SpecTree}
use Rattle.ax_format.specs.Tree.{KindTree}
use Rattle.ax_relation.specs.declared.known.Known.{Known}
use Rattle.ax_relation.specs.declared.known.Sharing.{Sharing}

-- ---- what editions share at a path

abbrev pub nothing : Sharing
nothing = record { path = false; parts = 0 }

-- of the kinds of both at the path, if there are
abbrev pub sharing_of : Option KindTree → Option KindTree → Sharing
sharing_of (Some k) (Some l) = record { path = is_shared_kind k l; parts = common_parts k l }
sharing_of _ _ = nothing

abbrev pub sharing_at : SpecTree → SpecTree → List (List ℕ) → Sharing
sharing_at old new names = record { path = Shared old new (record { names = names; part = None }); parts = Common old new names }

-- ---- what a map has

abbrev pub said : Known → List (List ℕ) → Option Sharing
said known path = get_by (λ k. pointwise bytes_eq path k.items) known.paths

-- what pairs say of a path: the last one of it counts, and else it is as before
abbrev pub said_of : List (List ℕ) → List (List (List ℕ) × Sharing) → Option Sharing → Option Sharing
said_of path [] before = before
said_of path (p ∷ pairs) before = said_of path pairs (if is_path path p.0 then Some p.1 else before)

-- the map has gained the pairs
pub record Says (pairs : List (List (List ℕ) × Sharing)) (old new : Known) : Type 0 where
  pub says : (path : List (List ℕ)) → said new path ≡ said_of path pairs (said old path)

-- the map has these pairs
pub record Knows (pairs : List (List (List ℕ) × Sharing)) (known : Known) : Type 0 where
  pub knows : (path : List (List ℕ)) → said known path ≡ said_of path pairs None

pub record IsKnown (old new : SpecTree) (known : Known) : Type 0 where
  pub sharing : (path : List (List ℕ)) → unwrap_or (said known path) nothing ≡ sharing_at old new path
