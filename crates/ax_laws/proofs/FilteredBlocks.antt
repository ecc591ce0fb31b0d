-- What `filter` writes for blocks, one after another.
use Rattle.std.proofs.Common.{◌≡◌, ℕ, ◌+◌, List, [], ◌∷◌, ◌++◌, Some, refl, sym, ◌∙◌, ap}
use Rattle.std.specs.List.{cons_option}
use Rattle.ax_filter.specs.Matching.{matching, some_block, matching_block, canon_if, filtered}
use Rattle.ax_expressions.specs.Tree.{ExprTree}
use Rattle.ax_filter_work.specs.FilterCommand.{filter_command, matching_blocks}
use Rattle.ax_format.specs.Blocks.{BlockTree, read_block, opaque_block, SpellsBlock, SpellsStream}
use Rattle.ax_format.specs.CanonicalOctets.{CanonBytes, canon_over}
use Rattle.ax_format.specs.Specification.{SpecTree, spec_of}
use Rattle.ax_format.specs.Tree.{EntriesTree}
use Rattle.ax_blocks.specs.Commands.{octets_in, output_of, report_of}
use Rattle.ax_blocks.specs.Made.{over}

kept_written : (catalogue : List SpecTree) (category : ℕ) (spec : SpecTree) (kept : List EntriesTree) (rest : List BlockTree) → spec_of category catalogue ≡ Some spec
    → canon_if spec (some_block category kept) ++ CanonBytes catalogue rest ≡ CanonBytes catalogue (cons_option (some_block category kept) rest)
kept_written catalogue category spec [] rest known = refl
kept_written catalogue category spec (r ∷ rs) rest known = ap (λ o. canon_over o (read_block category (r ∷ rs)) ++ CanonBytes catalogue rest) (sym known)

one_written : (e : ExprTree) (catalogue : List SpecTree) (number : ℕ) (block : BlockTree) (front : List ℕ) (rest : List BlockTree) → SpellsBlock catalogue block front
    → octets_in ((filter_command e catalogue).answer number block) ++ CanonBytes catalogue rest ≡ CanonBytes catalogue (cons_option (matching_block catalogue e block) rest)
one_written e catalogue number (read_block category records) front rest s =
    ap (λ o. over (filtered catalogue e) o (read_block category records) ++ CanonBytes catalogue rest) s.known
    ∙ kept_written catalogue category s.spec (matching catalogue category e records) rest s.known
one_written e catalogue number (opaque_block category content) front rest s = refl

pub written : (e : ExprTree) (catalogue : List SpecTree) (blocks : List BlockTree) (octets : List ℕ) (number : ℕ) → SpellsStream catalogue blocks octets
    → output_of (filter_command e catalogue) number blocks ≡ CanonBytes catalogue (matching_blocks catalogue e blocks)
written e catalogue [] octets number s = refl
written e catalogue (block ∷ blocks) octets number (front, rest, split, spelled, more) =
    ap (λ x. octets_in ((filter_command e catalogue).answer number block) ++ x) (written e catalogue blocks rest (number + 1) more)
    ∙ one_written e catalogue number block front (matching_blocks catalogue e blocks) spelled

pub reported : (e : ExprTree) (catalogue : List SpecTree) (blocks : List BlockTree) (number : ℕ) → report_of (filter_command e catalogue) number blocks ≡ []
reported e catalogue [] number = refl
reported e catalogue (block ∷ blocks) number = reported e catalogue blocks (number + 1)
