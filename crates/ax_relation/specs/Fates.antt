-- What becomes of a key that is present.
use Rattle.std.specs.Prelude.{◌≡◌, ℕ, ◌⊎◌, ◌==◌, Bool, true, false, ◌&&◌, bytes_eq, List, [], ◌∷◌, ◌+◌, if◌then◌else◌, Option, Some, None}
use Rattle.ax_format.specs.Migrated.{Lost}
use Rattle.ax_format.specs.Named.{Key, NamedEntry, Named}
use Rattle.ax_format.specs.Specification.{SpecTree}
use Rattle.ax_format.specs.Tree.{EntriesTree}

abbrev pub is_path : List (List ℕ) → List (List ℕ) → Bool
is_path [] [] = true
is_path (name ∷ names) (other ∷ others) = bytes_eq name other && is_path names others
is_path _ _ = false

abbrev pub is_part : Option ℕ → Option ℕ → Bool
is_part None None = true
is_part (Some i) (Some j) = i == j
is_part _ _ = false

abbrev pub is_key : Key → Key → Bool
is_key key other = is_path key.names other.names && is_part key.part other.part

-- how often it stands in the list
abbrev pub times : Key → List Key → ℕ
times key [] = 0
times key (other ∷ keys) = if is_key key other then times key keys + 1 else times key keys

-- with its entry in the migrated record and not lost, or lost once and not in the migrated record
abbrev pub KeptOrLost : SpecTree → SpecTree → EntriesTree → EntriesTree → Key → NamedEntry → Type 0
KeptOrLost old new entries made key entry =
    ((Named new made key ≡ Some entry) × (times key (Lost old new entries) ≡ 0)) ⊎ ((Named new made key ≡ None) × (times key (Lost old new entries) ≡ 1))
