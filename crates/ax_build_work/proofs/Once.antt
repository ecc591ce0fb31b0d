-- A line has one answer, and a printed one its block's octets.
use Rattle.std.proofs.Common.{◌≡◌, ℕ, ◌<◌, ◌≤◌, List, [], ◌∷◌, Some, length, refl, sym, ◌∙◌, ap, subst, arith}
use Rattle.std.specs.List.{AllByRecursion}
use Rattle.ax_block_reader.proofs.Once.{printed_tokens}
use Rattle.ax_block_reader.specs.BlockTexts.{IsBlockText, canonical_length, Spells, IsLongText}
use Rattle.ax_text_form.specs.CatalogueBlocks.{IsBlockOf}
use Rattle.ax_build_work.specs.BuildCommand.{deepest, IsBuiltOf, IsRefusedFor, AnswersSome, AnswersTokens, AnswersLine, by_tokens, by_octet, by_brace, build_command}
use Rattle.ax_lines.specs.declared.text_fault.TextFault.{TextFault}
use Rattle.ax_lines.specs.declared.text_fault.TextFault.TheVariants.{LineTooLong, BadByte, TooDeep, BadToken, TooLong}
use Rattle.ax_lines.specs.Commands.{LineAnswer, gives, nothing, refused, HasOneAnswer}
use Rattle.ax_format.specs.Blocks.{BlockTree, read_block, opaque_block}
use Rattle.ax_format.specs.CanonicalOctets.{canon_block, canon_over, category_of}
use Rattle.ax_format.specs.Flaws.{NoFlaw}
use Rattle.ax_format.specs.Lengths.{capped}
use Rattle.ax_format.specs.Specification.{SpecTree, spec_of}
use Rattle.ax_text_form.proofs.BlocksOnce.{same_block}
use Rattle.ax_text_form.specs.Names.{IsNamed}
use Rattle.ax_text_form.specs.Tokens.{BlockTokens}
use Rattle.ax_tokens.proofs.Bad.{first_bad_once}
use Rattle.ax_tokens.specs.Stopping.{texts_of}
use Rattle.ax_tokens.proofs.Once.{tokens_once, no_bad_byte, none_too_deep, bad_byte_once, too_deep_once, one_kind}
use Rattle.ax_tokens.specs.Lexing.{AreTokensOf}
use Rattle.ax_tokens.specs.PlainToken.{PlainToken}

module _ (catalogue : List SpecTree) (good : AllByRecursion (λ spec. NoFlaw spec × IsNamed spec) catalogue) where
  -- ---- by tokens

  same_spelled : (tokens : List PlainToken) (block other : BlockTree) → Spells catalogue tokens block → Spells catalogue tokens other → block ≡ other
  same_spelled tokens block other a b = same_block catalogue block other good a.of_catalogue.fits b.of_catalogue.fits (sym a.texts ∙ b.texts)

  is_text : (tokens : List PlainToken) (block : BlockTree) → Spells catalogue tokens block → IsBlockText catalogue (texts_of tokens)
  is_text tokens block s = (block, s.of_catalogue, s.texts)

  short_not_long : (block other : BlockTree) → block ≡ other → canonical_length catalogue block ≤ 65535 → 65535 < canonical_length catalogue other → ⊥
  short_not_long block other e le gt = omega (arith, ap (canonical_length catalogue) e, le, gt)

  one_built : (tokens : List PlainToken) (octets others : List ℕ) → IsBuiltOf catalogue tokens octets → IsBuiltOf catalogue tokens others → octets ≡ others
  one_built tokens octets others h k =
      h.canonical ∙ ap (λ block. canon_over (spec_of (category_of block) catalogue) block) (same_spelled tokens h.block k.block h.text.spells k.text.spells) ∙ sym k.canonical

  long_same : (tokens : List PlainToken) (n m : ℕ) → IsLongText catalogue tokens n → IsLongText catalogue tokens m → n ≡ m
  long_same tokens n m a b = a.number ∙ ap (λ block. capped (canonical_length catalogue block)) (same_spelled tokens a.block b.block a.spells b.spells) ∙ sym b.number

  built_not_refused : (tokens : List PlainToken) (octets : List ℕ) (fault : TextFault) → IsBuiltOf catalogue tokens octets → IsRefusedFor catalogue tokens fault → ⊥
  built_not_refused tokens octets LineTooLong h k = k
  built_not_refused tokens octets (BadByte at) h k = k
  built_not_refused tokens octets (TooDeep token) h k = k
  built_not_refused tokens octets (BadToken token) h k = k.no_member (is_text tokens h.block h.text.spells)
  built_not_refused tokens octets (TooLong number) h k = short_not_long h.block k.block (same_spelled tokens h.block k.block h.text.spells k.spells) h.text.within k.above

  one_refusal : (tokens : List PlainToken) (fault other : TextFault) → IsRefusedFor catalogue tokens fault → IsRefusedFor catalogue tokens other → fault ≡ other
  one_refusal tokens LineTooLong other h k = absurd h
  one_refusal tokens (BadByte at) other h k = absurd h
  one_refusal tokens (TooDeep token) other h k = absurd h
  one_refusal tokens fault LineTooLong h k = absurd k
  one_refusal tokens fault (BadByte at) h k = absurd k
  one_refusal tokens fault (TooDeep token) h k = absurd k
  one_refusal tokens (BadToken x) (BadToken y) h k = ap BadToken (first_bad_once (IsBlockText catalogue) (texts_of tokens) x y h k)
  one_refusal tokens (BadToken x) (TooLong y) h k = absurd (h.no_member (is_text tokens k.block k.spells))
  one_refusal tokens (TooLong x) (BadToken y) h k = absurd (k.no_member (is_text tokens h.block h.spells))
  one_refusal tokens (TooLong x) (TooLong y) h k = ap TooLong (long_same tokens x y h k)

  some_once : (tokens : List PlainToken) (a b : LineAnswer TextFault) → AnswersSome catalogue tokens a → AnswersSome catalogue tokens b → a ≡ b
  some_once tokens nothing b h k = absurd h
  some_once tokens a nothing h k = absurd k
  some_once tokens (gives octets) (gives others) h k = ap gives (one_built tokens octets others h k)
  some_once tokens (gives octets) (refused fault) h k = absurd (built_not_refused tokens octets fault h k)
  some_once tokens (refused fault) (gives octets) h k = absurd (built_not_refused tokens octets fault k h)
  some_once tokens (refused fault) (refused other) h k = ap refused (one_refusal tokens fault other h k)

  answer_once : (tokens : List PlainToken) (a b : LineAnswer TextFault) → AnswersTokens catalogue tokens a → AnswersTokens catalogue tokens b → a ≡ b
  answer_once [] a b h k = h ∙ sym k
  answer_once (token ∷ tokens) a b h k = some_once (token ∷ tokens) a b h k

  -- ---- by lines

  one_line : (line : List ℕ) (a b : LineAnswer TextFault) → AnswersLine catalogue line a → AnswersLine catalogue line b → a ≡ b
  one_line line a b (by_tokens ts lexed h) (by_tokens us other k) = answer_once ts a b h (subst (λ l. AnswersTokens catalogue l b) (sym (tokens_once line ts us lexed.lexed other.lexed)) k)
  one_line line a b (by_tokens ts lexed h) (by_octet at bad is) = absurd (no_bad_byte line deepest ts at lexed bad)
  one_line line a b (by_tokens ts lexed h) (by_brace token deep is) = absurd (none_too_deep line deepest ts token lexed deep)
  one_line line a b (by_octet at bad is) (by_tokens ts lexed h) = absurd (no_bad_byte line deepest ts at lexed bad)
  one_line line a b (by_octet at bad is) (by_octet place other to) = is ∙ ap (λ n. refused (BadByte n)) (bad_byte_once line deepest at place bad other) ∙ sym to
  one_line line a b (by_octet at bad is) (by_brace token deep to) = absurd (one_kind line deepest at token bad deep)
  one_line line a b (by_brace token deep is) (by_tokens ts lexed h) = absurd (none_too_deep line deepest ts token lexed deep)
  one_line line a b (by_brace token deep is) (by_octet at bad to) = absurd (one_kind line deepest at token bad deep)
  one_line line a b (by_brace token deep is) (by_brace number other to) = is ∙ ap (λ n. refused (TooDeep n)) (too_deep_once line deepest token number deep other) ∙ sym to

  pub build_once : HasOneAnswer (build_command catalogue)
  build_once number line a b h k = one_line line a b h k

-- ---- printed lines

some_answer : (catalogue : List SpecTree) (tokens : List PlainToken) (octets : List ℕ) → 0 < length tokens → IsBuiltOf catalogue tokens octets → AnswersTokens catalogue tokens (gives octets)
some_answer catalogue [] octets some h = absurd (omega (arith, some))
some_answer catalogue (token ∷ tokens) octets some h = h

has_first : (spec : SpecTree) (block : BlockTree) → 0 < length (BlockTokens spec block)
has_first spec (read_block category records) = omega arith
has_first spec (opaque_block category content) = omega arith

pub over_known : (spec : SpecTree) (block : BlockTree) → canon_over (Some spec) block ≡ canon_block spec block
over_known spec (read_block category records) = refl
over_known spec (opaque_block category content) = refl

pub printed_built : (catalogue : List SpecTree) (spec : SpecTree) (block : BlockTree) (number : ℕ) (line : List ℕ) → spec_of (category_of block) catalogue ≡ Some spec → IsBlockOf catalogue block → canonical_length catalogue block ≤ 65535 → AreTokensOf line deepest (BlockTokens spec block)
    → build_command catalogue number line (gives (canon_block spec block))
printed_built catalogue spec block number line known of within lexed =
    by_tokens (BlockTokens spec block) lexed (some_answer catalogue (BlockTokens spec block) (canon_block spec block) (has_first spec block) (record {
      block = block;
      text = record { spells = printed_tokens catalogue spec block known of; within = within };
      canonical = sym (ap (λ o. canon_over o block) known ∙ over_known spec block);
    }))
