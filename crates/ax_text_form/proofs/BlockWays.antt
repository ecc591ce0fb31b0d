-- The ways out of the functions that print blocks.
use Rattle.std.proofs.Common.{◌≡◌, ℕ, List, [], ◌∷◌, ◌++◌, ap, ◌∙◌}
use Rattle.ax_format.specs.Paths.{three_digits}
use Rattle.ax_format.specs.Blocks.{read_block}
use Rattle.ax_format.specs.Specification.{SpecTree, record_slots}
use Rattle.ax_format.specs.Tree.{EntriesTree}
use Rattle.ax_text_form.specs.BlockText.{records_onto, RecordLine, OpaqueLine, BlockLine}
use Rattle.ax_text_form.specs.Printing.{after_spaces, Puts}
use Rattle.ax_text_form.specs.ValueText.{opening, closing, one_onto, in_braces, hex_text, entries_onto}
use Rattle.ax_text_form.proofs.Printed.{both_put, braces_put, line_put}
use Rattle.std.specs.Prelude.{codes}

pub record_line : (spec : SpecTree) (es : EntriesTree) (a b c d : List ℕ) → a ≡ codes "record" → Puts after_spaces (one_onto opening) a b → Puts after_spaces (entries_onto 1 (record_slots spec) es) b c → Puts after_spaces (one_onto closing) c d → d ≡ RecordLine spec es
record_line spec es a b c d e p q r = line_put (codes "record") (in_braces (entries_onto 1 (record_slots spec) es)) a d e (braces_put (entries_onto 1 (record_slots spec) es) a b c d p q r)

pub read_line : (spec : SpecTree) (category : ℕ) (rs : List EntriesTree) (a b c d e f : List ℕ) → a ≡ codes "block" → Puts after_spaces (one_onto (three_digits category)) a b → Puts after_spaces (one_onto opening) b c → Puts after_spaces (records_onto spec rs) c d → Puts after_spaces (one_onto closing) d e
    → f ≡ e ++ 0x0A ∷ [] → f ≡ BlockLine spec (read_block category rs)
read_line spec category rs a b c d e f h p q r s l =
    l ∙ ap (λ t. t ++ 0x0A ∷ [])
    (line_put (codes "block") (λ rest. three_digits category ∷ in_braces (records_onto spec rs) rest) a e h
    (both_put (one_onto (three_digits category)) (in_braces (records_onto spec rs)) a b e p (braces_put (records_onto spec rs) b c d e q r s)))

pub opaque_line : (category : ℕ) (content : List ℕ) (a b c d : List ℕ) → a ≡ codes "opaque" → Puts after_spaces (one_onto (three_digits category)) a b → Puts after_spaces (one_onto (hex_text content)) b c → d ≡ c ++ 0x0A ∷ [] → d ≡ OpaqueLine category content
opaque_line category content a b c d h p q l =
    l ∙ ap (λ t. t ++ 0x0A ∷ []) (line_put (codes "opaque") (λ rest. three_digits category ∷ hex_text content ∷ rest) a c h (both_put (one_onto (three_digits category)) (one_onto (hex_text content)) a b c p q))

pub ruleset record_ways = record_line

pub ruleset read_ways = read_line

pub ruleset opaque_ways = opaque_line
