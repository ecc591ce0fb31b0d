-- A compound, or a record: its presence field and its marked slots.
use Rattle.std.proofs.Common.{ℕ, ◌*◌, Bool, Option, Some, None, IfSome, IfNone, IsTrue, List, take, drop, subst, take-append-drop}
use Rattle.ax_bits.specs.Bits.{AreOctets}
use Rattle.ax_fspec.specs.Fields.{MarksSlots, FailsToMark}
use Rattle.ax_fspec.specs.declared.mask.SlotMask.{SlotMask}
use Rattle.ax_format.proofs.Meets.{NoneUndefined-append}
use Rattle.ax_format.proofs.Spelled.{unmarked}
use Rattle.ax_format.specs.Canonical.{canon}
use Rattle.ax_format.specs.InBounds.{InBounds, SlotsInBounds}
use Rattle.ax_format.specs.Presence.{NoneUndefined, slots_past}
use Rattle.ax_format.specs.Tree.{SlotTree, slots_of, defined_slots}
use Rattle.ax_format.specs.declared.fault.BodyFault.{BodyFault}
use Rattle.ax_codec.specs.Meaning.{meanings, linked_slots}
use Rattle.ax_codec.specs.Table.{record_kind_at}
use Rattle.ax_codec.specs.declared.node.Node.{Node}
use Rattle.ax_fspec.proofs.Marking.{field_failed}
use Rattle.ax_fspec.specs.Reading.{FailsAt, IsMaskOf, kind_read, entries_at}
use Rattle.ax_walk.proofs.FieldSteps.{field_leads}
use Rattle.ax_walk.specs.Walking.{Walks, Leads, along, NeedsLast}

pub marks_clear : (slots : List SlotTree) (mask : SlotMask) (body marks : List ℕ) (at here : ℕ) → IsMaskOf slots mask → MarksSlots mask body at here marks → NoneUndefined (defined_slots (slots_of slots)) marks
marks_clear slots mask body marks at here m h =
    let f = h.field in
    let front = take (7 * f.octets) marks in
    let rest = drop (7 * f.octets) marks in
    let ds = defined_slots (slots_of slots) in
    let clear : NoneUndefined ds front = subst (λ ds. NoneUndefined ds front) m.defined f.field.clear in
    subst (NoneUndefined ds) (take-append-drop (7 * f.octets) marks) (NoneUndefined-append ds front rest clear (unmarked rest (slots_past front ds) f.no_other))

module _ (ns : List Node) (links : List ℕ) where
  pub slots_bounds : InBounds (record_kind_at ns links) → SlotsInBounds (slots_of (linked_slots (meanings ns) links))
  unfolding record_kind_at
  slots_bounds h = h.2

  pub record_failed : (mask : SlotMask) (body : List ℕ) (at : ℕ) (fault : BodyFault) → IsMaskOf (linked_slots (meanings ns) links) mask → FailsToMark mask body at fault → FailsAt (kind_read (record_kind_at ns links) body at) at fault
  unfolding record_kind_at
  record_failed mask body at fault m h = field_failed (linked_slots (meanings ns) links) mask body at fault m h

  module _ (mask : SlotMask) (body marks : List ℕ) (at here : ℕ) (octets : AreOctets body) (bounds : InBounds (record_kind_at ns links)) (m : IsMaskOf (linked_slots (meanings ns) links) mask) (h : MarksSlots mask body at here marks) where
    pub compound_leads : (least : Bool) → (IsTrue least → NeedsLast body at here)
        → Leads (along (slots_of (linked_slots (meanings ns) links)) marks) (entries_at (slots_of (linked_slots (meanings ns) links)) marks body here) (canon (record_kind_at ns links)) (kind_read (record_kind_at ns links) body at) body at here least
    unfolding record_kind_at
    compound_leads least need = field_leads (linked_slots (meanings ns) links) mask body marks at here octets bounds m h least (marks_clear (linked_slots (meanings ns) links) mask body marks at here m h) need

    pub compound_end : (before least : Bool) (r : Option ℕ) → (IsTrue before → NeedsLast body at here) → (IsTrue least → IsTrue before)
        → IfSome r (λ end. Walks (along (slots_of (linked_slots (meanings ns) links)) marks) (entries_at (slots_of (linked_slots (meanings ns) links)) marks body here) body here end least)
        → IfSome r (λ end. Walks (canon (record_kind_at ns links)) (kind_read (record_kind_at ns links) body at) body at end least)
    compound_end before least (Some end) need falls w = (compound_leads before need).gets end least falls w
    compound_end before least None need falls w = tt

    pub compound_fault : (before : Bool) (fault : BodyFault) (r : Option ℕ) → (IsTrue before → NeedsLast body at here)
        → IfNone r (FailsAt (entries_at (slots_of (linked_slots (meanings ns) links)) marks body here) here fault) → IfNone r (FailsAt (kind_read (record_kind_at ns links) body at) at fault)
    compound_fault before fault (Some end) need l = tt
    compound_fault before fault None need l = (compound_leads before need).fails fault l
