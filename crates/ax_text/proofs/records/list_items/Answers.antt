use Rattle.std.proofs.Common.{◌≡◌, ◌<◌, ℕ, length, get_or, subst}
use Rattle.ax_format.specs.Plain.{spec_tree, entries_tree}
use Rattle.ax_format.specs.Specification.{record_slots}
use Rattle.ax_text_form.specs.Printing.{as_lines}
use Rattle.ax_text_form.specs.ShowText.{entries_lines}
use Rattle.ax_text_form.specs.Slots.{slot_lines}
use Rattle.ax_text_form.proofs.EntryWays.{entries_first, entry_shape, entry_next}
use Rattle.ax_text_form.proofs.ListedKinds.{lines_made, slot_listable}
use Rattle.ax_text.proofs.records.list_items.Goals as goal

pub loop-entry-init : goal.loop-entry-init
loop-entry-init c =
    entries_first as_lines (entries_lines c.args.path.now) (slot_lines c.args.path.now) (lines_made c.args.path.now) (record_slots (spec_tree c.args.spec.now)) c.args.entries.now c.args.lister.now.out.octets c.requires.shape

pub list_item-requires : goal.list_item-requires
list_item-requires c =
    let all = c.args.entries.now in
    let ss = record_slots (spec_tree c.args.spec.now) in
    let path = c.args.path.now in
    let i : ℕ = c.loop-entry.entry-index in
    let e = c.entry-item.result in
    let same = c.as_slice-entry-items.ensures.members in record {
      listable = slot_listable ss e.slot c.requires.listable;
      shape = entry_shape as_lines (slot_lines path) ss (entries_lines path 1 ss (entries_tree all)) c.args.lister.now.out.octets c.loop-entry.lister.out.octets all i e c.loop-entry.invariant
          (subst (λ xs. i < length xs) same c.loop-entry-test.true) (subst (λ xs. e ≡ get_or xs i e) same c.entry-item.is);
    }

pub loop-entry-preserved : goal.loop-entry-preserved
loop-entry-preserved c =
    let all = c.args.entries.now in
    let ss = record_slots (spec_tree c.args.spec.now) in
    let path = c.args.path.now in
    let i : ℕ = c.loop-entry.entry-index in
    let e = c.entry-item.result in
    let same = c.as_slice-entry-items.ensures.members in
    entry_next as_lines (slot_lines path) ss (entries_lines path 1 ss (entries_tree all)) c.args.lister.now.out.octets c.loop-entry.lister.out.octets c.list_item.new.lister.out.octets all i e c.loop-entry.invariant
    (subst (λ xs. i < length xs) same c.loop-entry-test.true) (subst (λ xs. e ≡ get_or xs i e) same c.entry-item.is) c.in_ok-list_item.ensures
