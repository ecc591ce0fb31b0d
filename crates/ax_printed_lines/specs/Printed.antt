-- Lines of the texts of blocks, in which separators alone stand between tokens.
use Rattle.std.specs.Prelude.{◌≡◌, ℕ, ◌≤◌, ◌<◌, Bool, true, false, List, [], ◌∷◌, ◌++◌, length, map, slice_index, Some, IsTrue}
use Rattle.std.specs.List.{AllByRecursion, list_all}
use Rattle.hex.specs.Hex.{encode_lower, lower_digits}
use Rattle.ax_bits.specs.Bits.{bits, AreOctets}
use Rattle.ax_text_form.specs.CatalogueBlocks.{IsBlockOf}
use Rattle.ax_format.specs.Blocks.{BlockTree}
use Rattle.ax_fspec.specs.Fields.{least_field}
use Rattle.ax_format.specs.Bodies.{RecordShape, CanonBody}
use Rattle.ax_text_form.specs.BlockText.{records_onto, BlockText}
use Rattle.ax_format.specs.Canonical.{canon, fixed_canon, number_canon, marks_of}
use Rattle.ax_format.specs.CanonicalOctets.{canon_block, category_of, framed}
use Rattle.ax_format.specs.InBounds.{SlotsInBounds}
use Rattle.ax_format.specs.Presence.{octets_needed, least_presence}
use Rattle.ax_format.specs.Shape.{EntriesShape}
use Rattle.ax_format.specs.Specification.{SpecTree, spec_of}
use Rattle.ax_format.specs.Tree.{MemberTree, named, spare, SlotTree, spare_slot, subitem, SlotsTree, slot_count, ValueTree, EntriesTree}
use Rattle.ax_text_form.specs.Slots.{SlotShape, slot_onto}
use Rattle.ax_text_form.specs.Tokens.{kind_of}
use Rattle.ax_text_form.specs.ValueText.{Texts, hex_text}
use Rattle.ax_tokens.specs.Depth.{level_after}
use Rattle.ax_tokens.specs.Lexing.{IsTokenText, MayFollow, AreTokensOf}
use Rattle.ax_tokens.specs.Octets.{is_separator}
use Rattle.ax_tokens.specs.PlainToken.{PlainToken}
use Rattle.ax_tokens.specs.declared.token.TokenKind.{TokenKind}
use Rattle.ax_tokens.specs.declared.token.TokenKind.TheVariants.{Word}
use Rattle.ax_printed_lines.specs.Laid.{Lays}
use Rattle.ax_printed_lines.specs.declared.laid.LaidBits.{LaidBits}

-- ---- places

-- the octets of a line that are left, and the level of its braces there
pub record Place : Type 0 where
  pub left : List ℕ
  pub level : ℕ

-- separators stand in front, and after them what is left
pub record AfterGap (octets left : List ℕ) : Type 0 where
  pub gap : List ℕ
  pub split : octets ≡ gap ++ left
  pub each : IsTrue (list_all is_separator gap)

-- the octet stands in front, and after it separators and what is left
abbrev pub IsAfterOctet : ℕ → List ℕ → List ℕ → Type 0
IsAfterOctet octet octets left = (following : List ℕ) × (octets ≡ octet ∷ following) × AfterGap following left

-- the text of a token of that kind stands in front, separators or none after it, and then what is left
pub record Stands (kind : TokenKind) (text octets left : List ℕ) : Type 0 where
  pub gap : List ℕ
  pub split : octets ≡ text ++ (gap ++ left)
  pub each : IsTrue (list_all is_separator gap)
  pub follows : MayFollow kind (gap ++ left)

-- the texts of tokens stand in front, one after another
abbrev pub AreInFront : Texts → List ℕ → List ℕ → Type 0
AreInFront [] octets left = octets ≡ left
AreInFront (text ∷ texts) octets left = (more : List ℕ) × Stands (kind_of text) text octets more × AreInFront texts more left

-- the text is one Word
abbrev pub IsOneWord : List ℕ → Type 0
IsOneWord text = (kind_of text ≡ Word) × IsTokenText Word text

-- texts of tokens that keep the level of their braces within 20, from a level on
abbrev pub Keeps : ℕ → Texts → Type 0
Keeps level [] = Unit {0}
Keeps level (text ∷ texts) = IsTokenText (kind_of text) text × (level_after (kind_of text) level ≤ 20) × Keeps (level_after (kind_of text) level) texts

-- the texts stood there, and are read
pub record Goes (old new : Place) (texts : Texts) : Type 0 where
  pub left : AreInFront texts old.left new.left
  pub keeps : (rest : Texts) → Keeps new.level rest → Keeps old.level (texts ++ rest)

-- the text in quotes stood there, and is read, of the octets whose digits these are
abbrev pub GoesQuoted : List ℕ → Place → Place → Type 0
GoesQuoted digits old new = (octets : List ℕ) → AreOctets octets → digits ≡ encode_lower octets → Goes old new (hex_text octets ∷ [])

-- ---- what is built

-- the texts of something of that shape were read, and its canonical bits were laid
pub record IsBuilt {X : Type 0} (R : X → Type 0) (onto : X → Texts) (spell : X → List ℕ) (old new : Place) (before after : LaidBits) : Type 0 where
  pub value : X
  pub shape : R value
  pub goes : Goes old new (onto value)
  pub lays : Lays before after (spell value)

abbrev pub member_canon : MemberTree → ValueTree → List ℕ
member_canon (named name f) v = fixed_canon f v
member_canon (spare w) v = number_canon w v

abbrev pub slot_canon : SlotTree → ValueTree → List ℕ
slot_canon spare_slot v = []
slot_canon (subitem name k) v = canon k v

-- the line is the text of a block of that category under the catalogue, and the bits of the body of its canonical form were
-- laid
pub record IsPrinted (catalogue : List SpecTree) (line : List ℕ) (category : ℕ) (before after : LaidBits) : Type 0 where
  pub spec : SpecTree
  pub block : BlockTree
  pub known : spec_of (category_of block) catalogue ≡ Some spec
  pub of_catalogue : IsBlockOf catalogue block
  pub tokens : List PlainToken
  pub lexed : AreTokensOf line 20 tokens
  pub texts : map (λ t. t.text) tokens ≡ BlockText spec block
  pub body : List ℕ
  pub lays : Lays before after body
  pub canonical : (octets : List ℕ) → AreOctets octets → bits octets ≡ body → framed category octets ≡ canon_block spec block

-- ---- slots

-- 1 to 126 slots, whose kinds keep their bounds
abbrev pub AreSlots : SlotsTree → Type 0
AreSlots ss = (0 < slot_count ss) × (slot_count ss ≤ 126) × SlotsInBounds ss

-- the slot's value is built where its name comes, and nothing is done where it doesn't
abbrev pub BuildsSlot : SlotTree → Bool → Place → Place → LaidBits → LaidBits → Type 0
BuildsSlot slot true old new before after = IsBuilt (SlotShape slot) (λ v. slot_onto slot v []) (slot_canon slot) old new before after
BuildsSlot slot false old new before after = (new ≡ old) × (after ≡ before)

-- entries of these slots, of which the least presence field of the marks is theirs
abbrev pub HasMarks : SlotsTree → List ℕ → EntriesTree → Type 0
HasMarks ss marks es = EntriesShape 1 ss es × (least_field marks ≡ least_presence (octets_needed (slot_count ss)) (marks_of 1 ss es))

-- ---- octets in hexadecimal

abbrev pub digit_text : ℕ → ℕ
digit_text n = slice_index lower_digits n

-- the digits of some octets, which were laid
pub record AreDigits (digits : List ℕ) (before after : LaidBits) : Type 0 where
  pub octets : List ℕ
  pub each : AreOctets octets
  pub text : digits ≡ encode_lower octets
  pub lays : Lays before after (bits octets)

-- ---- records

-- one or more records were read, and their canonical bits were laid
abbrev pub AreRecords : SpecTree → Place → Place → LaidBits → LaidBits → Type 0
AreRecords spec old new before after = IsBuilt (λ rs. (0 < length rs) × AllByRecursion (RecordShape spec) rs) (λ rs. records_onto spec rs []) (CanonBody spec) old new before after
