-- Records that are too many for one data block, split into blocks in order (this project's own rule): each block has as many
-- of the next records as it can.
use Rattle.std.specs.Prelude.{ℕ, suc, ◌+◌, ◌≤◌, nat_le, Bool, if◌then◌else◌, List, [], ◌∷◌, ◌++◌, flat_map, Option, Some, None}
use Rattle.ax_format.specs.Blocks.{read_block}
use Rattle.ax_format.specs.CanonicalOctets.{canon_block, canon_length}
use Rattle.ax_format.specs.Sizes.{longest_block}
use Rattle.ax_format.specs.Specification.{SpecTree}
use Rattle.ax_format.specs.Tree.{EntriesTree}

-- the octets of the canonical block of these records
abbrev pub records_length : SpecTree → List EntriesTree → ℕ
records_length spec records = canon_length spec (read_block spec.category records)

abbrev pub fits_within : ℕ → SpecTree → List EntriesTree → Bool
fits_within room spec records = nat_le (records_length spec records) room

-- ---- one block

-- how many of the records come into one block after these that it has
abbrev pub fit_after : ℕ → SpecTree → List EntriesTree → List EntriesTree → ℕ
fit_after room spec taken [] = 0
fit_after room spec taken (r ∷ rs) = if fits_within room spec (taken ++ r ∷ []) then suc (fit_after room spec (taken ++ r ∷ []) rs) else 0

-- the most of the first records whose canonical block has at most so many octets
abbrev pub fit_within : ℕ → SpecTree → List EntriesTree → ℕ
fit_within room spec records = fit_after room spec [] records

abbrev pub fit_count : SpecTree → List EntriesTree → ℕ
fit_count spec records = fit_within longest_block spec records

-- ---- all blocks

-- the block has these records, and takes the next one where they fit together; else that one begins the next block
abbrev pub split_after : ℕ → SpecTree → List EntriesTree → List EntriesTree → List (List EntriesTree)
split_after room spec taken [] = taken ∷ []
split_after room spec taken (r ∷ rs) =
    if fits_within room spec (taken ++ r ∷ []) then split_after room spec (taken ++ r ∷ []) rs else taken ∷ split_after room spec (r ∷ []) rs

abbrev pub split_within : ℕ → SpecTree → List EntriesTree → List (List EntriesTree)
split_within room spec [] = []
split_within room spec (r ∷ rs) = split_after room spec (r ∷ []) rs

-- blocks of at most 65,535 octets, where no record alone has more
abbrev pub Split : SpecTree → List EntriesTree → List (List EntriesTree)
Split spec records = split_within longest_block spec records

-- their canonical octets, one block after another
abbrev pub split_octets : SpecTree → List EntriesTree → List ℕ
split_octets spec records = flat_map (λ rs. canon_block spec (read_block spec.category rs)) (Split spec records)

-- ---- records that are too long

-- the octets of the canonical block of the first record that has too many for a block of its own
abbrev pub too_long_within : ℕ → SpecTree → List EntriesTree → Option ℕ
too_long_within room spec [] = None
too_long_within room spec (r ∷ rs) = if fits_within room spec (r ∷ []) then too_long_within room spec rs else Some (records_length spec (r ∷ []))

abbrev pub first_too_long : SpecTree → List EntriesTree → Option ℕ
first_too_long spec records = too_long_within longest_block spec records

-- none of the records alone is
abbrev pub EachFits : ℕ → SpecTree → List EntriesTree → Type 0
EachFits room spec [] = Unit {0}
EachFits room spec (r ∷ rs) = (records_length spec (r ∷ []) ≤ room) × EachFits room spec rs
