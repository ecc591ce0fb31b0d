use Rattle.std.proofs.Common.{◌≡◌, ◌<◌, ℕ, length, get_or, subst}
use Rattle.ax_format.specs.Plain.{spec_tree, entries_tree}
use Rattle.ax_format.specs.Specification.{record_slots}
use Rattle.ax_text_form.specs.Printing.{after_spaces}
use Rattle.ax_text_form.specs.Slots.{slot_onto}
use Rattle.ax_text_form.specs.ValueText.{entries_onto}
use Rattle.ax_text_form.proofs.EntryWays.{texts_made, entries_first, entry_shape, entry_next}
use Rattle.ax_text_form.proofs.printer.TreePrinter.items.Goals as goal

pub loop-entry-init : goal.loop-entry-init
loop-entry-init c = entries_first after_spaces entries_onto slot_onto texts_made (record_slots (spec_tree c.args.spec.now)) c.args.entries.now c.args.self.now.out.items c.requires

pub item-requires : goal.item-requires
item-requires c =
    let all = c.args.entries.now in
    let ss = record_slots (spec_tree c.args.spec.now) in
    let i : ℕ = c.loop-entry.entry-index in
    let e = c.entry-item.result in
    let same = c.as_slice-entry-items.ensures.members in
    entry_shape after_spaces slot_onto ss (entries_onto 1 ss (entries_tree all)) c.args.self.now.out.items c.loop-entry.self.out.items all i e c.loop-entry.invariant (subst (λ xs. i < length xs) same c.loop-entry-test.true) (subst (λ xs. e ≡ get_or xs i e) same c.entry-item.is)

pub loop-entry-preserved : goal.loop-entry-preserved
loop-entry-preserved c =
    let all = c.args.entries.now in
    let ss = record_slots (spec_tree c.args.spec.now) in
    let i : ℕ = c.loop-entry.entry-index in
    let e = c.entry-item.result in
    let same = c.as_slice-entry-items.ensures.members in
    entry_next after_spaces slot_onto ss (entries_onto 1 ss (entries_tree all)) c.args.self.now.out.items c.loop-entry.self.out.items c.item.new.self.out.items all i e c.loop-entry.invariant
    (subst (λ xs. i < length xs) same c.loop-entry-test.true) (subst (λ xs. e ≡ get_or xs i e) same c.entry-item.is) c.in_ok-item.ensures
