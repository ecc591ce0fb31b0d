-- The command `expand`. Blocks are read under the one category file, and each content of RE by the expansion file.
use Rattle.std.specs.Prelude.{ℕ, ◌+◌, Bool, true, false, if◌then◌else◌, List, [], ◌∷◌, ◌++◌, Option, Some, None, option_and_then}
use Rattle.ax_expand.specs.Expansion.{ExpansionTree, re}
use Rattle.ax_format.specs.At.{slot_value}
use Rattle.ax_format.specs.Blocks.{BlockTree, read_block, opaque_block}
use Rattle.ax_format.specs.Naming.{frn_of}
use Rattle.ax_format.specs.Specification.{ItemTree, SpecTree, first_named}
use Rattle.ax_format.specs.Tree.{KindTree, explicit, EntriesTree}
use Rattle.ax_blocks.specs.Commands.{BlockCommand, BlockAnswer, gives}
use Rattle.ax_walk.specs.Shown.{content_in}
use Rattle.ax_expand_work.specs.Judging.{Judged, spelled, faulty, judge}
use Rattle.ax_expand_work.specs.Lines.{re_line, unread_line}

-- ---- where RE stands

abbrev pub is_explicit : KindTree → Bool
is_explicit explicit = true
is_explicit _ = false

abbrev pub where_explicit : Option ItemTree → Option ℕ → Option ℕ
where_explicit None frn = None
where_explicit (Some item) frn = if is_explicit item.kind then frn else None

-- the number of the first slot of the UAP that has an item RE of kind explicit
abbrev pub re_frn : SpecTree → Option ℕ
re_frn spec = where_explicit (first_named re spec.items) (frn_of 1 re spec.uap)

-- its content in a record, where it is marked
abbrev pub content_at : ℕ → EntriesTree → Option (List ℕ)
content_at frn entries = option_and_then content_in (slot_value frn entries)

-- ---- the lines of a record

abbrev pub spelled_line : ExpansionTree → ℕ → ℕ → Judged → List ℕ
spelled_line x block n (spelled v) = re_line x block n v
spelled_line x block n (faulty p c) = []

abbrev pub faulty_line : ℕ → ℕ → Judged → List ℕ
faulty_line block n (spelled v) = []
faulty_line block n (faulty p c) = unread_line block n p c

abbrev pub re_lines_of : ExpansionTree → ℕ → ℕ → Option (List ℕ) → List ℕ
re_lines_of x block n None = []
re_lines_of x block n (Some content) = spelled_line x block n (judge x content)

abbrev pub unread_lines_of : ExpansionTree → ℕ → ℕ → Option (List ℕ) → List ℕ
unread_lines_of x block n None = []
unread_lines_of x block n (Some content) = faulty_line block n (judge x content)

-- ---- of records, the first of which has the number n

abbrev pub re_lines : ℕ → ExpansionTree → ℕ → ℕ → List EntriesTree → List ℕ
re_lines frn x block n [] = []
re_lines frn x block n (r ∷ rs) = re_lines_of x block n (content_at frn r) ++ re_lines frn x block (n + 1) rs

abbrev pub unread_lines : ℕ → ExpansionTree → ℕ → ℕ → List EntriesTree → List ℕ
unread_lines frn x block n [] = []
unread_lines frn x block n (r ∷ rs) = unread_lines_of x block n (content_at frn r) ++ unread_lines frn x block (n + 1) rs

-- ---- the command, where RE has that number

-- the lines of contents with a fault, and those of contents that spell a value; of an opaque block, nothing
abbrev pub expand_answer : ℕ → ExpansionTree → ℕ → BlockTree → BlockAnswer
expand_answer frn x block (read_block category records) = gives (unread_lines frn x block 0 records) (re_lines frn x block 0 records)
expand_answer frn x block (opaque_block category content) = gives [] []

abbrev pub expand_command : SpecTree → ℕ → ExpansionTree → BlockCommand
expand_command spec frn x = record { catalogue = spec ∷ []; answer = expand_answer frn x }
