-- What is told of the files of a library: a finite map from names to octets.
use Rattle.std.specs.Prelude.{◌≡◌, ℕ, ◌+◌, ◌<◌, List, length, Option, Some, None, option_map}
use Rattle.std.specs.List.{find}
use Rattle.std.specs.Str.{bytes_eq}

-- a file
pub record File : Type 0 where
  pub name : List ℕ
  pub octets : List ℕ

-- the file of that name and those octets
abbrev pub file : List ℕ → List ℕ → File
file name octets = record { name = name; octets = octets }

-- the octets of the first file of that name
abbrev pub octets_of : List ℕ → List File → Option (List ℕ)
octets_of name files = option_map (λ one. one.octets) (find (λ one. bytes_eq one.name name) files)

-- the file of that name has these octets, where the files are told
abbrev pub HoldsFile : Option (List File) → List ℕ → List ℕ → Type 0
HoldsFile None name octets = Unit {0}
HoldsFile (Some files) name octets = octets_of name files ≡ Some octets

-- the files are told, and none has that name
abbrev pub Lacks : Option (List File) → List ℕ → Type 0
Lacks None name = ⊥
Lacks (Some files) name = octets_of name files ≡ None

-- there are octets, and more than the limit
abbrev pub Exceeds : Option (List ℕ) → ℕ → Type 0
Exceeds None limit = ⊥
Exceeds (Some octets) limit = limit < length octets

-- the files are told, and the one of that name has more octets than the limit
abbrev pub IsLonger : Option (List File) → List ℕ → ℕ → Type 0
IsLonger None name limit = ⊥
IsLonger (Some files) name limit = Exceeds (octets_of name files) limit

-- the file of that name is longer than the limit, where the files are told; else more octets than that were taken
abbrev pub TooMany : Option (List File) → List ℕ → ℕ → ℕ → ℕ → Type 0
TooMany None name limit before after = before + limit < after
TooMany (Some files) name limit before after = IsLonger (Some files) name limit
