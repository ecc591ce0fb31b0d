-- `filter`, over an expression.
use Rattle.std.specs.Prelude.{List, [], filter_map}
use Rattle.ax_filter.specs.Matching.{matching_block, filtered}
use Rattle.ax_expressions.specs.Tree.{ExprTree}
use Rattle.ax_format.specs.Blocks.{BlockTree}
use Rattle.ax_format.specs.Specification.{SpecTree}
use Rattle.ax_blocks.specs.Commands.{BlockCommand}
use Rattle.ax_blocks.specs.Made.{tree_command}

-- the canonical form of the records of each block that the expression holds of; nothing for a block without any, or an
-- opaque one
abbrev pub filter_command : ExprTree → List SpecTree → BlockCommand
filter_command e catalogue = tree_command (λ number spec block. filtered catalogue e spec block) (λ number category content. []) catalogue

-- the blocks of these records, in order; none for a block without any, or an opaque one
abbrev pub matching_blocks : List SpecTree → ExprTree → List BlockTree → List BlockTree
matching_blocks catalogue e blocks = filter_map (matching_block catalogue e) blocks
