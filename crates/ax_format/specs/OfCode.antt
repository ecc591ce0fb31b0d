-- The definitions over the code's types.
use Rattle.std.specs.Prelude.{◌≡◌, ℕ, ◌+◌, Bool, false, List, map, Option, Some, None, MatchOption}
use Rattle.std.specs.Borrow.{Bor}
use Rattle.ax_format.specs.Blocks.{Fits}
use Rattle.ax_format.specs.CanonicalOctets.{canon_block, canon_length}
use Rattle.ax_format.specs.Fitting.{entries_fit}
use Rattle.ax_format.specs.Flaws.{flaws_of, NoFlaw}
use Rattle.ax_format.specs.Naming.{member_named, part_named, slot_named}
use Rattle.ax_format.specs.Plain.{fixed_tree, members_tree, part_tree, kind_tree, slots_tree, entries_tree, spec_tree, record_tree, block_tree}
use Rattle.ax_format.specs.Specification.{record_slots}
use Rattle.ax_format.specs.Tree.{SlotsTree, slot_and, SlotTree}
use Rattle.ax_format.specs.declared.flaw.Flaw.{Flaw}
use Rattle.ax_format.specs.declared.kind.Fixed.{Fixed}
use Rattle.ax_format.specs.declared.kind.Kind.{Kind}
use Rattle.ax_format.specs.declared.kind.Member.{Member}
use Rattle.ax_format.specs.declared.kind.Part.{Part}
use Rattle.ax_format.specs.declared.kind.Slot.{Slot}
use Rattle.ax_format.specs.declared.record.Block.{Block}
use Rattle.ax_format.specs.declared.record.Record.{Record}
use Rattle.ax_format.specs.declared.spec.Spec.{Spec}
use Rattle.ax_format.specs.declared.value.Entry.{Entry}

abbrev pub BlockFits : Spec → Block → Type 0
BlockFits spec block = Fits (spec_tree spec) (block_tree block)

-- as a test that computes
abbrev pub record_fits : Spec → Record → Bool
record_fits spec r = entries_fit 1 (record_slots (spec_tree spec)) (record_tree r)

abbrev pub block_octets : Spec → Block → List ℕ
block_octets spec block = canon_block (spec_tree spec) (block_tree block)

abbrev pub block_length : Spec → Block → ℕ
block_length spec block = canon_length (spec_tree spec) (block_tree block)

abbrev pub spec_flaws : Spec → List Flaw
spec_flaws spec = flaws_of (spec_tree spec)

abbrev pub HasNoFlaw : Spec → Type 0
HasNoFlaw spec = NoFlaw (spec_tree spec)

-- ---- entries, slot after slot

-- these are the entries after the one of the slot with that number, if there is one, or none where that one doesn't fit
abbrev pub AreAfterSlot : ℕ → SlotTree → List Entry → Option (Bor (List Entry)) → Type 0
AreAfterSlot number slot entries later =
    MatchOption later ((ss : SlotsTree) → entries_fit number (slot_and slot ss) (entries_tree entries) ≡ false)
    (λ rest. (ss : SlotsTree) → entries_fit number (slot_and slot ss) (entries_tree entries) ≡ entries_fit (number + 1) ss (entries_tree rest.now))

-- ---- by name

-- the first member of that name, with its number from 0, or none where no member has it
abbrev pub FindsMember : List ℕ → List Member → Option (ℕ × Bor Fixed) → Type 0
FindsMember name members result =
    MatchOption result (member_named 0 name (members_tree members) ≡ None) (λ found. member_named 0 name (members_tree members) ≡ Some (found.0, fixed_tree found.1.now))

-- that among the members of all parts, with the number of its part before its own
abbrev pub FindsInParts : List ℕ → List Part → Option (ℕ × ℕ × Bor Fixed) → Type 0
FindsInParts name parts result =
    MatchOption result (part_named 0 name (map part_tree parts) ≡ None) (λ found. part_named 0 name (map part_tree parts) ≡ Some (found.0, (found.1, fixed_tree found.2.now)))

-- the first subitem of that name, with the number of its slot from 1, or none where no slot has it
abbrev pub FindsSlot : List ℕ → List Slot → Option (ℕ × Bor Kind) → Type 0
FindsSlot name slots result =
    MatchOption result (slot_named 1 name (slots_tree slots) ≡ None) (λ found. slot_named 1 name (slots_tree slots) ≡ Some (found.0, kind_tree found.1.now))
