-- What is read is what was printed, and tokens have one answer.
use Rattle.std.proofs.Common.{◌≡◌, ℕ, ◌+◌, ◌<◌, ◌≤◌, List, [], ◌∷◌, ◌⊎◌, inl, inr, Some, map, length, refl, sym, ◌∙◌, ap, arith}
use Rattle.std.specs.List.{AllByRecursion}
use Rattle.ax_format.specs.Blocks.{BlockTree, read_block, opaque_block}
use Rattle.ax_format.specs.CanonicalOctets.{category_of}
use Rattle.ax_format.specs.Flaws.{NoFlaw}
use Rattle.ax_format.specs.Lengths.{capped}
use Rattle.ax_format.specs.Specification.{SpecTree, spec_of}
use Rattle.ax_tokens.specs.Stopping.{Texts, texts_of}
use Rattle.ax_tokens.proofs.Bad.{first_bad_once}
use Rattle.ax_tokens.specs.PlainToken.{PlainToken}
use Rattle.ax_tokens.specs.Printing.{placed}
use Rattle.ax_text_form.proofs.BlocksOnce.{same_block}
use Rattle.ax_text_form.specs.BlockText.{BlockText}
use Rattle.ax_text_form.specs.Names.{IsNamed}
use Rattle.ax_text_form.specs.Tokens.{TextOver, kind_of, BlockTokens}
use Rattle.ax_block_reader.specs.BlockTexts.{block_texts, IsBlockText, canonical_length, Spells, IsTextOf, IsLongText, IsFault}
use Rattle.ax_text_form.specs.CatalogueBlocks.{IsBlockOf}
use Rattle.ax_block_reader.specs.declared.error.TextError.{TextError}
use Rattle.ax_block_reader.specs.declared.error.TextError.TheVariants.{BadToken, TooLong, OutOfMemory}

-- ---- printed texts

over_known : (spec : SpecTree) (block : BlockTree) → TextOver (Some spec) block ≡ BlockText spec block
over_known spec (read_block category records) = refl
over_known spec (opaque_block category content) = refl

pub printed_texts : (catalogue : List SpecTree) (spec : SpecTree) (block : BlockTree) → spec_of (category_of block) catalogue ≡ Some spec → block_texts catalogue block ≡ BlockText spec block
printed_texts catalogue spec block e = ap (λ o. TextOver o block) e ∙ over_known spec block

placed_texts : (at : ℕ) (texts : Texts) → texts_of (placed at (map (λ text. (kind_of text, text)) texts)) ≡ texts
placed_texts at [] = refl
placed_texts at (text ∷ texts) = ap (λ t. text ∷ t) (placed_texts (at + length text + 1) texts)

pub printed_tokens : (catalogue : List SpecTree) (spec : SpecTree) (block : BlockTree) → spec_of (category_of block) catalogue ≡ Some spec → IsBlockOf catalogue block → Spells catalogue (BlockTokens spec block) block
printed_tokens catalogue spec block e h = record { of_catalogue = h; texts = placed_texts 0 (BlockText spec block) ∙ sym (printed_texts catalogue spec block e) }

-- ---- one answer

abbrev AllGood : List SpecTree → Type 0
AllGood catalogue = AllByRecursion (λ spec. NoFlaw spec × IsNamed spec) catalogue

same_spelled : (catalogue : List SpecTree) (tokens : List PlainToken) (block other : BlockTree) → AllGood catalogue → Spells catalogue tokens block → Spells catalogue tokens other → block ≡ other
same_spelled catalogue tokens block other g a b = same_block catalogue block other g a.of_catalogue.fits b.of_catalogue.fits (sym a.texts ∙ b.texts)

pub one_block : (catalogue : List SpecTree) (tokens : List PlainToken) (block other : BlockTree) → AllGood catalogue → IsTextOf catalogue tokens block → IsTextOf catalogue tokens other → block ≡ other
one_block catalogue tokens block other g a b = same_spelled catalogue tokens block other g a.spells b.spells

is_text : (catalogue : List SpecTree) (tokens : List PlainToken) (block : BlockTree) → Spells catalogue tokens block → IsBlockText catalogue (texts_of tokens)
is_text catalogue tokens block s = (block, s.of_catalogue, s.texts)

long_same : (catalogue : List SpecTree) (tokens : List PlainToken) (n m : ℕ) → AllGood catalogue → IsLongText catalogue tokens n → IsLongText catalogue tokens m → n ≡ m
long_same catalogue tokens n m g a b = a.number ∙ ap (λ block. capped (canonical_length catalogue block)) (same_spelled catalogue tokens a.block b.block g a.spells b.spells) ∙ sym b.number

abbrev Same : TextError → TextError → Type 0
Same a b = (a ≡ b) ⊎ ((a ≡ OutOfMemory) ⊎ (b ≡ OutOfMemory))

pub one_fault : (catalogue : List SpecTree) (tokens : List PlainToken) (a b : TextError) → AllGood catalogue → IsFault catalogue tokens a → IsFault catalogue tokens b → Same a b
one_fault catalogue tokens OutOfMemory b g h k = inr (inl refl)
one_fault catalogue tokens (BadToken x) OutOfMemory g h k = inr (inr refl)
one_fault catalogue tokens (TooLong x) OutOfMemory g h k = inr (inr refl)
one_fault catalogue tokens (BadToken x) (BadToken y) g h k = inl (ap BadToken (first_bad_once (IsBlockText catalogue) (texts_of tokens) x y h k))
one_fault catalogue tokens (BadToken x) (TooLong y) g h k = absurd (h.no_member (is_text catalogue tokens k.block k.spells))
one_fault catalogue tokens (TooLong x) (BadToken y) g h k = absurd (k.no_member (is_text catalogue tokens h.block h.spells))
one_fault catalogue tokens (TooLong x) (TooLong y) g h k = inl (ap TooLong (long_same catalogue tokens x y g h k))

short_not_long : (catalogue : List SpecTree) (block other : BlockTree) → block ≡ other → canonical_length catalogue block ≤ 65535 → 65535 < canonical_length catalogue other → ⊥
short_not_long catalogue block other e le gt = omega (arith, ap (canonical_length catalogue) e, le, gt)

pub no_fault : (catalogue : List SpecTree) (tokens : List PlainToken) (block : BlockTree) (error : TextError) → AllGood catalogue → IsTextOf catalogue tokens block → IsFault catalogue tokens error → error ≡ OutOfMemory
no_fault catalogue tokens block OutOfMemory g a h = refl
no_fault catalogue tokens block (BadToken token) g a h = absurd (h.no_member (is_text catalogue tokens block a.spells))
no_fault catalogue tokens block (TooLong octets) g a h = absurd (short_not_long catalogue block h.block (same_spelled catalogue tokens block h.block g a.spells h.spells) a.within h.above)
