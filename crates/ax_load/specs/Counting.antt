-- How many octets loading takes from a library that tells its files, and where it counts a fault.
use Rattle.std.specs.Prelude.{◌≡◌, ℕ, ◌+◌, ◌⊎◌, List, [], ◌∷◌, Option, Some, None, Result, Err, length, take}
use Rattle.ax_endpoints.specs.Files.{File, octets_of}
use Rattle.ax_endpoints.specs.Told.{number_after}
use Rattle.ax_load.specs.declared.fault.LoadStop.{LoadStop}
use Rattle.ax_load.specs.declared.fault.LoadStop.TheVariants.{SpecRefused, CategoryTwice, LoadFault, OutOfMemory}
use Rattle.ax_load.specs.declared.fault.SpecFault.TheVariants.{TooLarge, BadByte, TooDeep, BadToken, Flawed}

-- how many octets a file has, none where it isn't there
abbrev pub octet_count : Option (List ℕ) → ℕ
octet_count None = 0
octet_count (Some octets) = length octets

-- the number of octets taken once these files were loaded, each once, in this order
abbrev pub taken_after : List File → List (List ℕ) → ℕ → ℕ
taken_after files [] taken = taken
taken_after files (name ∷ names) taken = taken_after files names (number_after taken (octet_count (octets_of name files)))

-- where the files are told, the octets of these were taken and no others
abbrev pub TookFiles : Option (List File) → ℕ → ℕ → List (List ℕ) → Type 0
TookFiles None taken taken' names = Unit {0}
TookFiles (Some files) taken taken' names = taken' ≡ taken_after files names taken

-- of a file that ends the run by itself: its octets, but where it couldn't be loaded, or was too large
abbrev pub TookAt : Option (List File) → ℕ → ℕ → List ℕ → LoadStop → Type 0
TookAt files taken taken' name (LoadFault n) = TookFiles files taken taken' []
TookAt files taken taken' name (SpecRefused n TooLarge) = TookFiles files taken taken' []
TookAt files taken taken' name (SpecRefused n (BadByte at)) = TookFiles files taken taken' (name ∷ [])
TookAt files taken taken' name (SpecRefused n (TooDeep token)) = TookFiles files taken taken' (name ∷ [])
TookAt files taken taken' name (SpecRefused n (BadToken token)) = TookFiles files taken taken' (name ∷ [])
TookAt files taken taken' name (SpecRefused n (Flawed flaws)) = TookFiles files taken taken' (name ∷ [])
TookAt files taken taken' name (CategoryTwice n category) = ⊥
TookAt files taken taken' name OutOfMemory = TookFiles files taken taken' [] ⊎ TookFiles files taken taken' (name ∷ [])

-- the files before the one that ends the run, and that one but where it couldn't be loaded, or was too large; where memory was
-- wanting, so many of the first
abbrev pub TookThrough : Option (List File) → ℕ → ℕ → List (List ℕ) → LoadStop → Type 0
TookThrough files taken taken' names (LoadFault n) = TookFiles files taken taken' (take n names)
TookThrough files taken taken' names (SpecRefused n TooLarge) = TookFiles files taken taken' (take n names)
TookThrough files taken taken' names (SpecRefused n (BadByte at)) = TookFiles files taken taken' (take (n + 1) names)
TookThrough files taken taken' names (SpecRefused n (TooDeep token)) = TookFiles files taken taken' (take (n + 1) names)
TookThrough files taken taken' names (SpecRefused n (BadToken token)) = TookFiles files taken taken' (take (n + 1) names)
TookThrough files taken taken' names (SpecRefused n (Flawed flaws)) = TookFiles files taken taken' (take (n + 1) names)
TookThrough files taken taken' names (CategoryTwice n category) = TookFiles files taken taken' (take (n + 1) names)
TookThrough files taken taken' names OutOfMemory = (n : ℕ) × TookFiles files taken taken' (take n names)

-- the loading doesn't end with a fault of the library
abbrev pub UnlessLoadFault : {A : Type 0} → Result A LoadStop → Type 0 → Type 0
UnlessLoadFault (Err (LoadFault n)) P = Unit {0}
UnlessLoadFault _ P = P
