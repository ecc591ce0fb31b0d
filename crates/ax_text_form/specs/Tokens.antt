-- The tokens of a block's line, and how deep its braces nest.
use Rattle.std.specs.Prelude.{ℕ, ◌+◌, ◌<◌, ◌==◌, max, if◌then◌else◌, List, [], ◌∷◌, map, Option, Some, None}
use Rattle.ax_bits.specs.Bits.{AreOctets}
use Rattle.ax_tokens.specs.Octets.{quote, open_brace, close_brace}
use Rattle.ax_tokens.specs.PlainToken.{PlainToken}
use Rattle.ax_tokens.specs.Printing.{placed}
use Rattle.ax_tokens.specs.declared.token.TokenKind.{TokenKind}
use Rattle.ax_tokens.specs.declared.token.TokenKind.TheVariants.{Word, Str, Open, Close}
use Rattle.ax_format.specs.Blocks.{BlockTree, read_block, opaque_block, Fits}
use Rattle.ax_format.specs.CanonicalOctets.{category_of}
use Rattle.ax_format.specs.Specification.{SpecTree, record_slots, spec_of}
use Rattle.ax_format.specs.Streams.{FitsOver}
use Rattle.ax_format.specs.Tree.{FixedTree, element, group, MembersTree, no_members, member_and, named, spare, KindTree, fixed, extended, counted, by_fx, explicit, compound, SlotsTree, no_slots, slot_and, spare_slot, subitem}
use Rattle.ax_text_form.specs.BlockText.{OpaqueText, BlockText}
use Rattle.ax_text_form.specs.ValueText.{Texts}

-- ---- tokens

-- the kind of token that a text is, by its first octet
abbrev pub kind_of : List ℕ → TokenKind
kind_of [] = Word
kind_of (octet ∷ rest) = if octet == quote then Str else (if octet == open_brace then Open else (if octet == close_brace then Close else Word))

-- the tokens of texts that stand with one space between
abbrev pub printed_tokens : Texts → List PlainToken
printed_tokens texts = placed 0 (map (λ text. (kind_of text, text)) texts)

abbrev pub BlockTokens : SpecTree → BlockTree → List PlainToken
BlockTokens spec block = printed_tokens (BlockText spec block)

-- ---- how deep the braces of a value may nest

abbrev mutual
  pub fixed_nesting : FixedTree → ℕ
  fixed_nesting (element w c) = 0
  fixed_nesting (group ms) = 1 + members_nesting ms

  pub members_nesting : MembersTree → ℕ
  members_nesting no_members = 0
  members_nesting (member_and (spare w) ms) = members_nesting ms
  members_nesting (member_and (named name f) ms) = max (fixed_nesting f) (members_nesting ms)

abbrev pub parts_nesting : List MembersTree → ℕ
parts_nesting [] = 0
parts_nesting (p ∷ ps) = max (1 + members_nesting p) (parts_nesting ps)

abbrev mutual
  pub kind_nesting : KindTree → ℕ
  kind_nesting (fixed f) = fixed_nesting f
  kind_nesting (extended last ps) = 1 + parts_nesting ps
  kind_nesting (counted size k) = 1 + kind_nesting k
  kind_nesting (by_fx f) = 1 + fixed_nesting f
  kind_nesting explicit = 0
  kind_nesting (compound ss) = 1 + slots_nesting ss

  pub slots_nesting : SlotsTree → ℕ
  slots_nesting no_slots = 0
  slots_nesting (slot_and spare_slot ss) = slots_nesting ss
  slots_nesting (slot_and (subitem name k) ss) = max (kind_nesting k) (slots_nesting ss)

-- a block is braces around records, and a record is braces around entries
abbrev pub block_nesting : SpecTree → ℕ
block_nesting spec = 2 + slots_nesting (record_slots spec)

-- ---- blocks of a catalogue

-- the text of a block over the specification of its category, where there is one
abbrev pub TextOver : Option SpecTree → BlockTree → Texts
TextOver (Some spec) block = BlockText spec block
TextOver None (read_block category records) = []
TextOver None (opaque_block category content) = OpaqueText category content

abbrev pub HoldsOctets : BlockTree → Type 0
HoldsOctets (read_block category records) = Unit {0}
HoldsOctets (opaque_block category content) = AreOctets content

-- a block over a specification, of a category and of octets below 256
pub record HoldsBlock (spec : SpecTree) (block : BlockTree) : Type 0 where
  pub fits : Fits spec block
  pub category : category_of block < 256
  pub octets : HoldsOctets block

-- a block that fits the specification of its category, or an opaque one where there is none
pub record IsOfCatalogue (catalogue : List SpecTree) (block : BlockTree) : Type 0 where
  pub fits : FitsOver (spec_of (category_of block) catalogue) block
  pub octets : HoldsOctets block
