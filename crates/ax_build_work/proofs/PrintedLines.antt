-- Lines that are read straight to octets are answered with their blocks' octets.
use Rattle.std.proofs.Common.{◌≡◌, ℕ, ◌≤◌, List, [], ◌∷◌, ◌++◌, length, Some, sym, ◌∙◌, ap, subst, arith}
use Rattle.ax_bits.specs.Bits.{bits, AreOctets}
use Rattle.ax_block_reader.proofs.Once.{printed_texts}
use Rattle.ax_block_reader.specs.BlockTexts.{canonical_length}
use Rattle.ax_text_form.specs.CatalogueBlocks.{IsBlockOf}
use Rattle.ax_build_work.specs.BuildCommand.{AnswersLine, by_tokens, deepest}
use Rattle.ax_lines.specs.Commands.{gives}
use Rattle.ax_format.proofs.CanonFramed.{length-framed}
use Rattle.ax_format.specs.Blocks.{BlockTree, read_block, opaque_block}
use Rattle.ax_format.specs.CanonicalOctets.{canon_block, canon_over, category_of, framed}
use Rattle.ax_format.specs.Specification.{SpecTree, spec_of}
use Rattle.ax_text_form.specs.BlockText.{BlockText}
use Rattle.ax_tokens.specs.Stopping.{texts_of}
use Rattle.ax_tokens.specs.Lexing.{AreTokensOf}
use Rattle.ax_tokens.specs.PlainToken.{PlainToken}
use Rattle.ax_printed_lines.specs.Laid.{laid}
use Rattle.ax_printed_lines.specs.Printed.{IsPrinted}
use Rattle.ax_printed_lines.specs.declared.laid.LaidBits.{LaidBits}
use Rattle.ax_build_work.proofs.Once.{over_known}

some_text : (spec : SpecTree) (block : BlockTree) → BlockText spec block ≡ [] → ⊥
some_text spec (read_block category records) e = absurd cc
some_text spec (opaque_block category content) e = absurd cc

-- tokens that are the text of a block with a specification are answered with its canonical form
tokens_answered : (catalogue : List SpecTree) (spec : SpecTree) (block : BlockTree) (line : List ℕ) (tokens : List PlainToken) → spec_of (category_of block) catalogue ≡ Some spec → IsBlockOf catalogue block → canonical_length catalogue block ≤ 65535 → AreTokensOf line deepest tokens
    → texts_of tokens ≡ BlockText spec block → AnswersLine catalogue line (gives (canon_block spec block))
tokens_answered catalogue spec block line [] known of within lexed same = absurd (some_text spec block (sym same))
tokens_answered catalogue spec block line (token ∷ tokens) known of within lexed same =
    by_tokens (token ∷ tokens) lexed (record {
      block = block;
      text = record { spells = record { of_catalogue = of; texts = same ∙ sym (printed_texts catalogue spec block known) }; within = within };
      canonical = sym (ap (λ o. canon_over o block) known ∙ over_known spec block);
    })

pub printed_answered : (catalogue : List SpecTree) (line : List ℕ) (category : ℕ) (octets : List ℕ) (before after : LaidBits) → IsPrinted catalogue line category before after → laid before ≡ [] → bits octets ≡ laid after → AreOctets octets → length octets ≤ 65532
    → AnswersLine catalogue line (gives (framed category octets))
printed_answered catalogue line category octets before after p none is each few =
    let same : framed category octets ≡ canon_block p.spec p.block = p.canonical octets each (is ∙ p.lays ∙ ap (λ w. w ++ p.body) none) in
    let count : canonical_length catalogue p.block ≡ length (canon_block p.spec p.block) = ap (λ o. length (canon_over o p.block)) p.known ∙ ap length (over_known p.spec p.block) in
    let within : canonical_length catalogue p.block ≤ 65535 = omega (arith, count, ap length same, length-framed category octets, few) in
    subst (λ b. AnswersLine catalogue line (gives b)) (sym same) (tokens_answered catalogue p.spec p.block line p.tokens p.known p.of_catalogue within p.lexed p.texts)
