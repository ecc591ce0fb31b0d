-- The tokens of the line of an opaque block, and what is built of them.
use Rattle.std.proofs.Common.{◌≡◌, ℕ, ◌+◌, ◌<◌, ◌≤◌, List, [], ◌∷◌, length, map, Option, Some, None, refl, sym, ◌∙◌, ap, subst, arith}
use Rattle.std.specs.Prelude.{codes}
use Rattle.ax_bits.specs.Bits.{AreOctets}
use Rattle.ax_block_reader.specs.BlockTexts.{block_texts, canonical_length, Spells}
use Rattle.ax_text_form.specs.CatalogueBlocks.{IsBlockOf}
use Rattle.ax_build_work.specs.BuildCommand.{build_command, by_tokens, deepest, IsBuiltOf}
use Rattle.ax_lines.specs.Commands.{gives}
use Rattle.ax_format.proofs.CanonFramed.{length-framed}
use Rattle.ax_format.specs.Blocks.{BlockTree, opaque_block}
use Rattle.ax_format.specs.CanonicalOctets.{canon_over, framed}
use Rattle.ax_format.specs.Paths.{three_digits}
use Rattle.ax_format.specs.Specification.{SpecTree, spec_of}
use Rattle.ax_format.specs.Streams.{FitsOver}
use Rattle.ax_text_form.proofs.WordTokens.{IsWord, category_word, opaque_is_word, hex_token}
use Rattle.ax_text_form.specs.BlockText.{OpaqueText, spaced_texts}
use Rattle.ax_text_form.specs.Tokens.{kind_of, printed_tokens, TextOver}
use Rattle.ax_text_form.specs.ValueText.{Texts, hex_text}
use Rattle.ax_tokens.specs.Stopping.{texts_of}
use Rattle.ax_tokens.proofs.Levels.{keeps_within}
use Rattle.ax_tokens.proofs.Printed.{printed_text}
use Rattle.ax_tokens.specs.Depth.{level_after, KeepsWithin}
use Rattle.ax_tokens.specs.Lexing.{IsTokenText, AreTokensOf}
use Rattle.ax_tokens.specs.Printing.{AreTokenTexts, placed}
use Rattle.ax_tokens.specs.declared.token.TokenKind.{TokenKind}

word_text : (text : List ℕ) → IsWord text → IsTokenText (kind_of text) text
word_text text w = subst (λ kind. IsTokenText kind text) (sym w.kind) w.octets

word_level : (text : List ℕ) (level : ℕ) → IsWord text → level_after (kind_of text) level ≡ level
word_level text level w = ap (λ kind. level_after kind level) w.kind

abbrev with_kinds : Texts → List (TokenKind × List ℕ)
with_kinds texts = map (λ text. (kind_of text, text)) texts

opaque_texts : (category : ℕ) (content : List ℕ) → category < 256 → AreOctets content → AreTokenTexts (with_kinds (OpaqueText category content))
opaque_texts category content small octets =
    (word_text (codes "opaque") opaque_is_word, (word_text (three_digits category) (category_word category small), (hex_token content octets, tt)))

opaque_levels : (category : ℕ) (content : List ℕ) → category < 256 → KeepsWithin deepest 0 (placed 0 (with_kinds (OpaqueText category content)))
opaque_levels category content small =
    let level = word_level (three_digits category) 0 (category_word category small) in
    (omega arith, (omega (arith, level), (omega (arith, level), tt)))

opaque_lexed : (category : ℕ) (content : List ℕ) → category < 256 → AreOctets content → AreTokensOf (spaced_texts (OpaqueText category content)) deepest (printed_tokens (OpaqueText category content))
opaque_lexed category content small octets =
    printed_text (with_kinds (OpaqueText category content)) deepest (opaque_texts category content small octets)
    (keeps_within deepest (placed 0 (with_kinds (OpaqueText category content))) (opaque_levels category content small))

pub opaque_built : (catalogue : List SpecTree) (category number : ℕ) (content : List ℕ) → spec_of category catalogue ≡ None → category < 256 → AreOctets content → 0 < length content → 3 + length content ≤ 65535
    → build_command catalogue number (spaced_texts (OpaqueText category content)) (gives (framed category content))
opaque_built catalogue category number content none small octets some few =
    let block = opaque_block category content in
    let count : canonical_length catalogue block ≡ length (framed category content) = ap (λ o. length (canon_over o block)) none in
    by_tokens (printed_tokens (OpaqueText category content)) (opaque_lexed category content small octets) (record {
      block = block;
      text = record {
        spells = record {
          of_catalogue = record {
            fits = record { fits = subst (λ o. FitsOver o block) (sym none) some; octets = octets };
            category = small;
          };
          texts = sym (ap (λ o. TextOver o block) none);
        };
        within = omega (arith, count, length-framed category content, few);
      };
      canonical = sym (ap (λ o. canon_over o block) none);
    })
