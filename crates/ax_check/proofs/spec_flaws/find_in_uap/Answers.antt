use Rattle.std.proofs.Common.{◌≡◌, ◌++◌, length, rules}
use Rattle.ax_check.proofs.UapLists.{uap_start, uap_step, uap_end}
use Rattle.ax_check.specs.Members.{count_flaws, uap_slot_flaws, with_uap_slot}
use Rattle.ax_check.specs.Names.{listed, AreSame}
use Rattle.ax_check.proofs.spec_flaws.find_in_uap.Goals as goal

pub loop-slot-preserved : goal.loop-slot-preserved
loop-slot-preserved c =
    let flaws : c.find_in_uap_slot.new.found ≡ c.loop-slot.found ++ uap_slot_flaws c.args.path.now (listed c.args.items.now.set) (listed c.loop-slot.names.set) c.slot-item.result = search rules in
    let names : AreSame (listed c.find_in_uap_slot.new.names.set) (with_uap_slot (listed c.loop-slot.names.set) c.slot-item.result) = search rules in
    uap_step c.args.path.now c.args.spec.now.items (listed c.args.items.now.set) c.loop-slot.slot-index (listed c.loop-slot.names.set) (listed c.find_in_uap_slot.new.names.set) c.args.spec.now.uap c.slot-item.result c.loop-slot.found c.find_in_uap_slot.new.found _
    (search rules) (search rules) c.requires flaws names c.loop-slot.invariant

pub loop-slot-init : goal.loop-slot-init
loop-slot-init c =
    let noted : c.note_count.new.found ≡ c.args.found.now ++ count_flaws c.args.path.now (length c.args.spec.now.uap) = search rules in
    uap_start c.args.path.now c.args.spec.now (listed c.new-names.result.set) c.args.found.now c.note_count.new.found c.new-names.ensures noted

pub returns : goal.returns
returns c = uap_end c.args.path.now c.args.spec.now.items c.loop-slot.slot-index (listed c.loop-slot.names.set) c.args.spec.now.uap c.loop-slot.found _ (search rules) c.loop-slot.invariant

pub returns-in_err-note_count : goal.returns-in_err-note_count
returns-in_err-note_count c = search rules

pub returns-in_err-find_in_uap_slot : goal.returns-in_err-find_in_uap_slot
returns-in_err-find_in_uap_slot c = search rules
