-- The records of a block that an expression holds of, and their canonical form.
use Rattle.std.specs.Prelude.{ℕ, List, [], ◌∷◌, filter, Option, Some, None}
use Rattle.ax_format.specs.Blocks.{BlockTree, read_block, opaque_block}
use Rattle.ax_format.specs.CanonicalOctets.{canon_block}
use Rattle.ax_format.specs.Specification.{SpecTree}
use Rattle.ax_format.specs.Tree.{EntriesTree}
use Rattle.ax_expressions.specs.Meaning.{holds}
use Rattle.ax_expressions.specs.Tree.{ExprTree}

-- those of a category
abbrev pub matching : List SpecTree → ℕ → ExprTree → List EntriesTree → List EntriesTree
matching catalogue category e records = filter (λ r. holds catalogue category r e) records

-- a block of records, if there are any
abbrev pub some_block : ℕ → List EntriesTree → Option BlockTree
some_block category [] = None
some_block category (r ∷ rs) = Some (read_block category (r ∷ rs))

-- an opaque block has no records
abbrev pub matching_block : List SpecTree → ExprTree → BlockTree → Option BlockTree
matching_block catalogue e (read_block category records) = some_block category (matching catalogue category e records)
matching_block catalogue e (opaque_block category content) = None

abbrev pub canon_if : SpecTree → Option BlockTree → List ℕ
canon_if spec None = []
canon_if spec (Some block) = canon_block spec block

-- the canonical form of the records that match; nothing where none does
abbrev pub filtered : List SpecTree → ExprTree → SpecTree → BlockTree → List ℕ
filtered catalogue e spec block = canon_if spec (matching_block catalogue e block)
