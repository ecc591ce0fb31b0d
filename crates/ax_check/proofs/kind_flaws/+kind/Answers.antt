use Rattle.std.proofs.Common.{◌≡◌, ◌++◌, length, rules}
use Rattle.ax_check.proofs.SlotLists.{slot_start, slot_step, slot_end}
use Rattle.ax_check.specs.Members.{count_flaws, slot_flaws, with_slot}
use Rattle.ax_check.specs.Names.{listed, AreSame}
use Rattle.ax_format.specs.Plain.{slot_tree}
use Rattle.ax_check.proofs.kind_flaws.+kind.Goals as goal

pub find_in_slots-loop-slot-preserved : goal.find_in_slots-loop-slot-preserved
find_in_slots-loop-slot-preserved t c =
    let flaws : c.find_in_slot.new.found ≡ c.loop-slot.found ++ slot_flaws c.args.path.now (listed c.loop-slot.names.set) (slot_tree c.slot-item.result) = search rules in
    let names : AreSame (listed c.find_in_slot.new.names.set) (with_slot (listed c.loop-slot.names.set) (slot_tree c.slot-item.result)) = search rules in
    slot_step c.args.path.now c.loop-slot.slot-index (listed c.loop-slot.names.set) (listed c.find_in_slot.new.names.set) c.args.slots.now c.slot-item.result c.loop-slot.found c.find_in_slot.new.found _
    (search rules) (search rules) flaws names c.loop-slot.invariant

pub find_in_slots-returns : goal.find_in_slots-returns
find_in_slots-returns t c = slot_end c.args.broken c.args.path.now c.loop-slot.slot-index (listed c.loop-slot.names.set) c.args.slots.now c.args.found.now c.loop-slot.found (search rules) c.loop-slot.invariant

pub find_in_slots-loop-slot-init : goal.find_in_slots-loop-slot-init
find_in_slots-loop-slot-init t c =
    let noted : c.note_count.new.found ≡ c.args.found.now ++ count_flaws c.args.path.now (length c.args.slots.now) = search rules in
    slot_start c.args.path.now c.args.slots.now (listed c.new-names.result.set) c.args.found.now c.note_count.new.found c.new-names.ensures noted

pub find_in_slots-returns-in_err-note_count : goal.find_in_slots-returns-in_err-note_count
find_in_slots-returns-in_err-note_count t c = search rules

pub find_in_slots-returns-in_err-find_in_slot : goal.find_in_slots-returns-in_err-find_in_slot
find_in_slots-returns-in_err-find_in_slot t c = search rules

pub find_in_slot-returns-in_err-path-in-Sub-clause-flaws : goal.find_in_slot-returns-in_err-path-in-Sub-clause-flaws
find_in_slot-returns-in_err-path-in-Sub-clause-flaws t c = search rules

pub find_in_slot-returns-in_err-path-in-Sub-clause-names : goal.find_in_slot-returns-in_err-path-in-Sub-clause-names
find_in_slot-returns-in_err-path-in-Sub-clause-names t c = search rules

pub find_in_kind-returns-in_err-body-in-Counted : goal.find_in_kind-returns-in_err-body-in-Counted
find_in_kind-returns-in_err-body-in-Counted t c = search rules
