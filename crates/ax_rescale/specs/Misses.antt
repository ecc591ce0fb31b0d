-- What a block's conversion misses: the missed keys of its records, which are numbered from 0; and their lines.
use Rattle.std.specs.Prelude.{ℕ, ◌+◌, is_some, List, [], ◌∷◌, ◌++◌, map, flat_map}
use Rattle.ax_format.specs.Blocks.{BlockTree, read_block, opaque_block}
use Rattle.ax_format.specs.Named.{Key, key_text}
use Rattle.ax_format.specs.Specification.{SpecTree}
use Rattle.ax_format.specs.Tree.{EntriesTree}
use Rattle.ax_rescale.specs.Conversion.{convertible, Missed}
use Rattle.ax_rescale.specs.Missed.{missed_line}
use Rattle.ax_rescale.specs.declared.miss.Miss.{Miss}

abbrev pub miss : SpecTree → SpecTree → ℕ → Key → Miss
miss old new n key = record { record_at = n; path = key_text old.category key; unconverted = is_some (convertible old new key) }

-- the first of these records has the number n
abbrev pub misses_from : SpecTree → SpecTree → ℕ → List EntriesTree → List Miss
misses_from old new n [] = []
misses_from old new n (r ∷ rs) = map (miss old new n) (Missed old new r) ++ misses_from old new (n + 1) rs

abbrev pub block_misses : SpecTree → SpecTree → BlockTree → List Miss
block_misses old new (read_block category records) = misses_from old new 0 records
block_misses old new (opaque_block category octets) = []

-- of the block of that number
abbrev pub missed_lines : ℕ → List Miss → List ℕ
missed_lines block misses = flat_map (missed_line block) misses
