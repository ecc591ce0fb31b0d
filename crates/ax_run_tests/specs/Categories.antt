-- A made-up block command: for each block, under no catalogue, a line with its category and a mark on the output. A block of
-- category 255 is refused for its length.
use Rattle.std.specs.Prelude.{ℕ, List, [], ◌++◌, codes, if◌then◌else◌, ◌==◌}
use Rattle.ax_format.specs.Paths.{three_digits}
use Rattle.ax_format.specs.CanonicalOctets.{category_of}
use Rattle.ax_blocks.specs.Commands.{BlockAnswer, BlockCommand, gives, too_long}

abbrev pub category_line : ℕ → List ℕ
category_line category = three_digits category ++ codes "\n"

abbrev pub answer_to : List ℕ → ℕ → BlockAnswer
answer_to mark category = if category == 255 then too_long 70000 else gives (category_line category) mark

abbrev pub category_command : List ℕ → BlockCommand
category_command mark = record { catalogue = []; answer = λ number block. answer_to mark (category_of block) }
