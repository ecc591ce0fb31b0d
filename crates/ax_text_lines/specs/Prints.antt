-- What is printed of what is read.
use Rattle.std.specs.Prelude.{◌≡◌, ℕ, ◌+◌, ◌/◌, ◌%◌, List, [], ◌∷◌, take, drop, decimal}
use Rattle.ax_bits.specs.Bits.{bits, number_of}
use Rattle.ax_format.specs.Blocks.{read_block}
use Rattle.ax_format.specs.Bodies.{SpellsBody}
use Rattle.ax_format.specs.Reader.{Read, fixed_value, members_value}
use Rattle.ax_format.specs.Specification.{SpecTree, record_kind}
use Rattle.ax_format.specs.Tree.{FixedTree, MembersTree, KindTree, fixed, EntriesTree, no_entries, entry_and, SlotTree, SlotsTree, spare_slot, subitem, marked}
use Rattle.ax_fspec.specs.Reading.{Gets, kind_read, entries_at}
use Rattle.ax_text_form.specs.BlockText.{record_onto, records_onto, BlockLine}
use Rattle.ax_text_form.specs.Printing.{after_spaces, Puts}
use Rattle.ax_text_form.specs.Slots.{slot_numbered, slot_onto}
use Rattle.ax_text_form.specs.ValueText.{Texts, one_onto, fixed_onto, members_onto, part_onto, kind_onto}

-- the texts of members, with the values that the bits begin with
abbrev pub members_read_onto : MembersTree → List ℕ → Texts → Texts
members_read_onto ms b rest = members_onto ms (members_value ms b) rest

-- the names and the values of entries, by the numbers of their slots
abbrev pub slots_onto : SlotsTree → EntriesTree → Texts → Texts
slots_onto ss no_entries rest = rest
slots_onto ss (entry_and t v es) rest = slot_onto (slot_numbered ss t) v (slots_onto ss es rest)

-- ---- in the bits from bit `at` of the body on

-- the number of w bits was printed
abbrev pub PrintsNumber : ℕ → List ℕ → ℕ → List ℕ → List ℕ → Type 0
PrintsNumber w body at old new = Puts after_spaces (one_onto (decimal (number_of (take w (drop at (bits body)))))) old new

-- the value of a fixed kind was printed
abbrev pub PrintsFixed : FixedTree → List ℕ → ℕ → List ℕ → List ℕ → Type 0
PrintsFixed f body at old new = Puts after_spaces (fixed_onto f (fixed_value f (drop at (bits body)))) old new

-- members were printed with their values
abbrev pub PrintsMembers : MembersTree → List ℕ → ℕ → List ℕ → List ℕ → Type 0
PrintsMembers ms body at old new = Puts after_spaces (members_read_onto ms (drop at (bits body))) old new

-- a part was printed with its values
abbrev pub PrintsPart : MembersTree → List ℕ → ℕ → List ℕ → List ℕ → Type 0
PrintsPart p body at old new = Puts after_spaces (part_onto p (members_value p (drop at (bits body)))) old new

-- the slot of that name and of a fixed kind
abbrev pub fixed_slot : List ℕ → FixedTree → SlotTree
fixed_slot name f = subitem name (fixed f)

-- its name was printed, and its value
abbrev pub PrintsNamed : List ℕ → FixedTree → List ℕ → ℕ → List ℕ → List ℕ → Type 0
PrintsNamed name f body at old new = Puts after_spaces (slot_onto (fixed_slot name f) (fixed_value f (drop at (bits body)))) old new

-- ---- from octet `at` of the body up to octet `end`

-- a value was read there, and its texts were printed
pub record Prints {A : Type 0} (onto : A → Texts → Texts) (found : Read A) (body : List ℕ) (at end : ℕ) (old new : List ℕ) : Type 0 where
  pub value : A
  pub read : Gets found body at end value
  pub put : Puts after_spaces (onto value) old new

-- a value of this kind was read, and printed
abbrev pub PrintsValue : KindTree → List ℕ → ℕ → ℕ → List ℕ → List ℕ → Type 0
PrintsValue k body at end old new = Prints (kind_onto k) (kind_read k body at) body at end old new

-- the entries of the marked slots were read, and printed
abbrev pub PrintsEntries : SlotsTree → List ℕ → List ℕ → ℕ → ℕ → List ℕ → List ℕ → Type 0
PrintsEntries ss marks body at end old new = Prints (slots_onto ss) (entries_at ss marks body at) body at end old new

-- nothing is read of a spare slot; of another its value, and its name was printed before it
abbrev pub SlotPrints : SlotTree → List ℕ → ℕ → ℕ → List ℕ → List ℕ → Type 0
SlotPrints spare_slot body at end old new = (end ≡ at) × (new ≡ old)
SlotPrints (subitem name k) body at end old new = Prints (slot_onto (subitem name k)) (kind_read k body at) body at end old new

-- the same, for clauses
pub record IsSlotPrinted (slot : SlotTree) (body : List ℕ) (at end : ℕ) (old new : List ℕ) : Type 0 where
  pub prints : SlotPrints slot body at end old new

-- a record was read, and its texts were printed
pub record IsRecordPrinted (spec : SpecTree) (body : List ℕ) (at end : ℕ) (old new : List ℕ) : Type 0 where
  pub entries : EntriesTree
  pub read : Gets (kind_read (record_kind spec) body at) body at end (marked entries)
  pub put : Puts after_spaces (record_onto spec entries) old new

-- the body spells records, and their texts were printed
pub record PrintsBody (spec : SpecTree) (body old new : List ℕ) : Type 0 where
  pub records : List EntriesTree
  pub spelled : SpellsBody spec records (bits body)
  pub put : Puts after_spaces (records_onto spec records) old new

-- the line is that of the block of this category whose records the body spells
pub record IsBlockPrinted (spec : SpecTree) (category : ℕ) (body line : List ℕ) : Type 0 where
  pub records : List EntriesTree
  pub spelled : SpellsBody spec records (bits body)
  pub is : line ≡ BlockLine spec (read_block category records)

-- the three last digits of a number below 1000
abbrev pub three_last : ℕ → List ℕ
three_last n = (48 + n / 100) ∷ (48 + n / 10 % 10) ∷ (48 + n % 10) ∷ []
