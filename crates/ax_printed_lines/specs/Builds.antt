-- What is built of each thing in a line: its texts are read, and its canonical bits are laid.
use Rattle.std.specs.Prelude.{ℕ, ◌≡◌, ◌^◌, ◌<◌, List, [], ◌∷◌}
use Rattle.ax_format.specs.Bodies.{RecordShape, CanonRecord}
use Rattle.ax_format.specs.Canonical.{canon, fixed_canon, members_canon, parts_canon, run_canon, each_canon, entries_canon}
use Rattle.ax_format.specs.Plain.{fixed_tree}
use Rattle.ax_format.specs.Shape.{Shape, FixedShape, MembersShape, PartsShape, EachShape, EntriesShape}
use Rattle.ax_format.specs.Specification.{SpecTree}
use Rattle.ax_format.specs.Tree.{FixedTree, fixed, MemberTree, MembersTree, KindTree, ValuesTree, compound, counted, SlotTree, subitem, SlotsTree, value_count, occurrences, marked}
use Rattle.ax_format.specs.Widths.{counter_width}
use Rattle.ax_format.specs.declared.kind.Counter.{Counter}
use Rattle.ax_format.specs.declared.kind.LastPart.{LastPart}
use Rattle.ax_text_form.specs.BlockText.{record_onto}
use Rattle.ax_text_form.specs.Slots.{MemberShape}
use Rattle.ax_text_form.specs.ValueText.{closing, fixed_onto, member_onto, members_onto, part_onto, parts_onto, kind_onto, each_onto, entries_onto}
use Rattle.ax_text_lines.specs.declared.named.TextNamed.{TextNamed}
use Rattle.ax_printed_lines.specs.Printed.{Place, IsBuilt, HasMarks, member_canon}
use Rattle.ax_printed_lines.specs.declared.laid.LaidBits.{LaidBits}

-- ---- fixed kinds

-- a value
abbrev pub BuildsFixed : FixedTree → Place → Place → LaidBits → LaidBits → Type 0
BuildsFixed f old new before after = IsBuilt (FixedShape f) (λ v. fixed_onto f v []) (fixed_canon f) old new before after

-- a member
abbrev pub BuildsMember : MemberTree → Place → Place → LaidBits → LaidBits → Type 0
BuildsMember m old new before after = IsBuilt (MemberShape m) (λ v. member_onto m v []) (member_canon m) old new before after

-- members, and the brace after them
abbrev pub BuildsMembers : MembersTree → Place → Place → LaidBits → LaidBits → Type 0
BuildsMembers ms old new before after = IsBuilt (MembersShape ms) (λ vs. members_onto ms vs (closing ∷ [])) (members_canon ms) old new before after

-- a part of an extended or closed item
abbrev pub BuildsPart : MembersTree → Place → Place → LaidBits → LaidBits → Type 0
BuildsPart ms old new before after = IsBuilt (MembersShape ms) (λ vs. part_onto ms vs []) (members_canon ms) old new before after

-- the parts that are present, and the brace after them
abbrev pub BuildsParts : LastPart → List MembersTree → Place → Place → LaidBits → LaidBits → Type 0
BuildsParts last ps old new before after = IsBuilt (PartsShape ps) (λ ls. parts_onto ps ls (closing ∷ [])) (parts_canon last ps) old new before after

-- one or more values of a fixed kind
abbrev pub AreRun : FixedTree → ValuesTree → Type 0
AreRun f vs = (0 < value_count vs) × EachShape (FixedShape f) vs

-- they, as occurrences by FX, and the brace after them
abbrev pub BuildsRun : FixedTree → Place → Place → LaidBits → LaidBits → Type 0
BuildsRun f old new before after = IsBuilt (AreRun f) (λ vs. each_onto (fixed_onto f) vs (closing ∷ [])) (run_canon f) old new before after

-- the slot of an item or subitem of a fixed kind
abbrev pub named_slot : TextNamed → SlotTree
named_slot held = subitem held.name (fixed (fixed_tree held.fixed.now))

-- ---- kinds

-- a value
abbrev pub BuildsKind : KindTree → Place → Place → LaidBits → LaidBits → Type 0
BuildsKind k old new before after = IsBuilt (Shape k) (λ v. kind_onto k v []) (canon k) old new before after

-- values that the counter can hold the number of
abbrev pub AreCounted : Counter → KindTree → ValuesTree → Type 0
AreCounted size k vs = (value_count vs < 2 ^ counter_width size) × EachShape (Shape k) vs

-- they, behind REP, and the brace after them
abbrev pub BuildsCounted : Counter → KindTree → Place → Place → LaidBits → LaidBits → Type 0
BuildsCounted size k old new before after = IsBuilt (AreCounted size k) (λ vs. each_onto (kind_onto k) vs (closing ∷ [])) (λ vs. canon (counted size k) (occurrences vs)) old new before after

-- so many values
abbrev pub AreSoMany : ℕ → KindTree → ValuesTree → Type 0
AreSoMany count k vs = (value_count vs ≡ count) × EachShape (Shape k) vs

-- they, and the brace after them
abbrev pub BuildsEach : KindTree → ℕ → Place → Place → LaidBits → LaidBits → Type 0
BuildsEach k count old new before after = IsBuilt (AreSoMany count k) (λ vs. each_onto (kind_onto k) vs (closing ∷ [])) (each_canon (canon k)) old new before after

-- ---- slots

-- the entries of these slots with those marks, and the brace after them
abbrev pub BuildsEntries : SlotsTree → List ℕ → Place → Place → LaidBits → LaidBits → Type 0
BuildsEntries ss marks old new before after = IsBuilt (HasMarks ss marks) (λ es. entries_onto 1 ss es (closing ∷ [])) (entries_canon 1 ss) old new before after

-- the entries of a compound, behind its presence field, and the brace after them
abbrev pub BuildsCompound : SlotsTree → Place → Place → LaidBits → LaidBits → Type 0
BuildsCompound ss old new before after = IsBuilt (EntriesShape 1 ss) (λ es. entries_onto 1 ss es (closing ∷ [])) (λ es. canon (compound ss) (marked es)) old new before after

-- the entries of a record, behind its FSPEC, in braces
abbrev pub BuildsRecord : SpecTree → Place → Place → LaidBits → LaidBits → Type 0
BuildsRecord spec old new before after = IsBuilt (RecordShape spec) (λ es. record_onto spec es []) (CanonRecord spec) old new before after
