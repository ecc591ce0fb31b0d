-- The command `convert`. Blocks are read under the old edition alone.
use Rattle.std.specs.Prelude.{ℕ, min, List, [], ◌∷◌, map, Option, Some, None}
use Rattle.ax_format.specs.Blocks.{BlockTree, read_block, opaque_block}
use Rattle.ax_format.specs.CanonicalOctets.{framed}
use Rattle.ax_format.specs.Specification.{SpecTree}
use Rattle.ax_format.specs.Split.{first_too_long, split_octets}
use Rattle.ax_rescale.specs.ConvertedRecord.{converted_record}
use Rattle.ax_rescale.specs.Misses.{block_misses, missed_lines}
use Rattle.ax_blocks.specs.Commands.{BlockCommand, BlockAnswer, gives, too_long}

-- the greatest number that is told stands for every greater one
abbrev pub told_octets : ℕ → ℕ
told_octets count = min count 4294967295

abbrev pub told_answer : BlockAnswer → BlockAnswer
told_answer (gives lines octets) = gives lines octets
told_answer (too_long count) = too_long (told_octets count)

-- a record that is too long for a block of its own refuses the whole block
abbrev pub unless_too_long : Option ℕ → List ℕ → List ℕ → BlockAnswer
unless_too_long (Some count) lines octets = too_long (told_octets count)
unless_too_long None lines octets = gives lines octets

-- the lines of what is missed, and the canonical forms of the blocks that the converted records are split into; an opaque block
-- as it is
abbrev pub convert_answer : SpecTree → SpecTree → ℕ → BlockTree → BlockAnswer
convert_answer old new number (read_block category records) =
    unless_too_long (first_too_long new (map (converted_record old new) records)) (missed_lines number (block_misses old new (read_block category records))) (split_octets new (map (converted_record old new) records))
convert_answer old new number (opaque_block category content) = gives [] (framed category content)

abbrev pub convert_command : SpecTree → SpecTree → BlockCommand
convert_command old new = record { catalogue = old ∷ []; answer = convert_answer old new }
