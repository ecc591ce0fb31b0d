-- What was read of a body, and shown.
use Rattle.std.specs.Prelude.{◌≡◌, ℕ, List, ◌∷◌, take, drop, codes}
use Rattle.ax_bits.specs.Bits.{bits, number_of}
use Rattle.ax_format.specs.Bodies.{SpellsBody}
use Rattle.ax_format.specs.InBounds.{IsWidth, FixedInBounds}
use Rattle.ax_format.specs.Paths.{at}
use Rattle.ax_format.specs.Reader.{fixed_value, members_value}
use Rattle.ax_format.specs.Specification.{SpecTree, record_kind, record_slots}
use Rattle.ax_format.specs.Tree.{FixedTree, MembersTree, MemberTree, named, spare, KindTree, extended, compound, SlotTree, SlotsTree, spare_slot, subitem, ValueTree, number, EntriesTree, marked}
use Rattle.ax_format.specs.Widths.{width}
use Rattle.ax_format.specs.declared.kind.LastPart.{LastPart}
use Rattle.ax_fspec.specs.Reading.{kind_read}
use Rattle.ax_held_kinds.specs.HeldFixed.{held_content}
use Rattle.ax_held_kinds.specs.declared.lines.ShortElement.{ShortElement}
use Rattle.ax_listing.specs.declared.element.ListedElement.{ListedElement}
use Rattle.ax_listing.specs.declared.position.BitPosition.{BitPosition}
use Rattle.ax_listing.specs.declared.position.OctetPosition.{OctetPosition}
use Rattle.ax_text_form.specs.Printing.{as_lines, Puts}
use Rattle.ax_text_form.specs.ShowText.{number_line, element_line, count_line, fixed_lines, member_lines, members_lines, kind_lines, entries_lines, record_lines, records_lines}
use Rattle.ax_text_form.specs.ValueText.{Texts, one_onto}
use Rattle.ax_values.specs.SlotReading.{HasFailed, IsValueRead}
use Rattle.ax_values.specs.declared.error.DecodeError.{DecodeError}

-- ---- members

abbrev pub member_width : MemberTree → ℕ
member_width (named name f) = width f
member_width (spare w) = w

-- the value that the first bits spell
abbrev pub member_value : MemberTree → List ℕ → ValueTree
member_value (named name f) b = fixed_value f b
member_value (spare w) b = number (number_of (take w b))

abbrev pub MemberInBounds : MemberTree → Type 0
MemberInBounds (named name f) = FixedInBounds f
MemberInBounds (spare w) = IsWidth w

-- ---- in the bits from a bit of a body on

-- the number that the first w of them spell
abbrev pub number_from : BitPosition → ℕ → ℕ
number_from from w = number_of (take w (drop from.at (bits from.body.now)))

-- the text of an element's line
abbrev pub line_of : ListedElement → List ℕ → ℕ → List ℕ
line_of e path n = element_line e.width (held_content e.content.now) path n

-- the line of an element was put
abbrev pub ShowsElement : ListedElement → List ℕ → BitPosition → List ℕ → List ℕ → Type 0
ShowsElement e path from old new = Puts as_lines (one_onto (line_of e path (number_from from e.width))) old new

-- that of a short element was put, under a path
abbrev pub ShowsShort : ShortElement → List ℕ → BitPosition → List ℕ → List ℕ → Type 0
ShowsShort short path from old new = Puts as_lines (one_onto (element_line short.width short.content.now (at path short.name) (number_from from short.width))) old new

-- the line of w spare bits was put, under a path
abbrev pub ShowsSpare : ℕ → List ℕ → BitPosition → List ℕ → List ℕ → Type 0
ShowsSpare w path from old new = Puts as_lines (one_onto (number_line (at path (codes "spare")) (number_from from w))) old new

-- the lines of a fixed kind's value were put
abbrev pub ShowsFixed : FixedTree → List ℕ → BitPosition → List ℕ → List ℕ → Type 0
ShowsFixed f path from old new = Puts as_lines (fixed_lines f path (fixed_value f (drop from.at (bits from.body.now)))) old new

-- the lines of a member were put
abbrev pub ShowsMember : MemberTree → List ℕ → BitPosition → List ℕ → List ℕ → Type 0
ShowsMember m path from old new = Puts as_lines (member_lines m path (member_value m (drop from.at (bits from.body.now)))) old new

-- the lines of members were put
abbrev pub ShowsMembers : MembersTree → List ℕ → BitPosition → List ℕ → List ℕ → Type 0
ShowsMembers ms path from old new = Puts as_lines (members_lines ms path (members_value ms (drop from.at (bits from.body.now)))) old new

-- ---- from octet `here` of the body up to octet `end`

-- a value of this kind was read, and its lines were put
pub record Shows (k : KindTree) (path body : List ℕ) (here end : ℕ) (old new : List ℕ) : Type 0 where
  pub value : ValueTree
  pub read : IsValueRead k body here end value
  pub put : Puts as_lines (kind_lines k path value) old new

-- a value was read, and its lines were put, without the first one, which says how many there are of what the word says
pub record ShowsCounted (k : KindTree) (path word body : List ℕ) (here end : ℕ) (old new : List ℕ) (count : ℕ) : Type 0 where
  pub value : ValueTree
  pub read : IsValueRead k body here end value
  pub later : Texts → Texts
  pub put : Puts as_lines later old new
  pub first : (rest : Texts) → kind_lines k path value rest ≡ count_line path word count ∷ later rest

-- ---- from a position on

-- a value of this kind was read up to octet `end`, and its lines were put
abbrev pub ShowsFrom : KindTree → List ℕ → OctetPosition → ℕ → List ℕ → List ℕ → Type 0
ShowsFrom k path from end old new = Shows k path from.body.now from.at end old new

-- under a path and a name
abbrev pub ShowsUnder : KindTree → List ℕ → List ℕ → OctetPosition → ℕ → List ℕ → List ℕ → Type 0
ShowsUnder k path name from end old new = ShowsFrom k (at path name) from end old new

-- none was: for the first fault of what is there, or for want of memory
abbrev pub FailsFrom : KindTree → OctetPosition → DecodeError → Type 0
FailsFrom k from e = HasFailed (kind_read k from.body.now from.at) from.at e

-- a value was read, and its lines were put, without the first one: of occurrences, of parts and of subitems
abbrev pub ShowsRepeated : KindTree → List ℕ → OctetPosition → ℕ → List ℕ → List ℕ → ℕ → Type 0
ShowsRepeated k path from end old new count = ShowsCounted k path (codes "occurrences") from.body.now from.at end old new count

abbrev pub ShowsParts : LastPart → List MembersTree → List ℕ → OctetPosition → ℕ → List ℕ → List ℕ → ℕ → Type 0
ShowsParts last ps path from end old new count = ShowsCounted (extended last ps) path (codes "parts") from.body.now from.at end old new count

abbrev pub ShowsSubitems : SlotsTree → List ℕ → OctetPosition → ℕ → List ℕ → List ℕ → ℕ → Type 0
ShowsSubitems ss path from end old new count = ShowsCounted (compound ss) path (codes "subitems") from.body.now from.at end old new count

-- ---- slots

abbrev pub SlotShows : SlotTree → List ℕ → List ℕ → ℕ → ℕ → List ℕ → List ℕ → Type 0
SlotShows spare_slot path body here end old new = Unit {0}
SlotShows (subitem name k) path body here end old new = Shows k (at path name) body here end old new

-- of a slot that is defined, the value was read and shown at the path of its name
pub record IsSlotShown (slot : SlotTree) (path body : List ℕ) (here end : ℕ) (old new : List ℕ) : Type 0 where
  pub shows : SlotShows slot path body here end old new

-- ---- records

-- the entries of a record were read, and these lines of them were put
pub record ShowsEntries (spec : SpecTree) (lines : EntriesTree → Texts → Texts) (body : List ℕ) (here end : ℕ) (old new : List ℕ) : Type 0 where
  pub entries : EntriesTree
  pub read : IsValueRead (record_kind spec) body here end (marked entries)
  pub put : Puts as_lines (lines entries) old new

-- a record of that number was read and shown, from a position on
abbrev pub ShowsRecord : SpecTree → ℕ → OctetPosition → ℕ → List ℕ → List ℕ → Type 0
ShowsRecord spec i from end old new = ShowsEntries spec (record_lines spec i) from.body.now from.at end old new

-- its items were, under a path
abbrev pub ShowsItems : SpecTree → List ℕ → OctetPosition → ℕ → List ℕ → List ℕ → Type 0
ShowsItems spec path from end old new = ShowsEntries spec (entries_lines path 1 (record_slots spec)) from.body.now from.at end old new

-- the body spells records, and their lines were put
pub record ShowsRecords (spec : SpecTree) (body old new : List ℕ) : Type 0 where
  pub records : List EntriesTree
  pub spelled : SpellsBody spec records (bits body)
  pub put : Puts as_lines (records_lines spec 0 records) old new
