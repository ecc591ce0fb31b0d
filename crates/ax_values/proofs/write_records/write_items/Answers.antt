use Rattle.std.proofs.Common.{◌≡◌, ◌<◌, ◌≤◌, ℕ, length, get_or, subst}
use Rattle.ax_format.specs.Canonical.{entries_canon}
use Rattle.ax_format.specs.Plain.{spec_tree, entries_tree}
use Rattle.ax_format.specs.Specification.{record_slots}
use Rattle.ax_values.proofs.WrittenKinds.{left_first, left_shape, left_room, left_next, left_ended}
use Rattle.ax_values.proofs.write_records.write_items.Goals as goal

pub loop-entry-init : goal.loop-entry-init
loop-entry-init c = left_first (record_slots (spec_tree c.args.items.now.spec.now)) c.args.out.now c.args.entries.now c.requires.entries

pub write_item-requires-clause-shape : goal.write_item-requires-clause-shape
write_item-requires-clause-shape c =
    let all = c.args.entries.now in
    let ss = record_slots (spec_tree c.args.items.now.spec.now) in
    let i : ℕ = c.loop-entry.entry-index in
    let e = c.entry-item.result in
    let same = c.as_slice-entry-items.ensures.members in
    left_shape ss c.args.out.now c.loop-entry.out (entries_canon 1 ss (entries_tree all)) all i e c.loop-entry.invariant (subst (λ xs. i < length xs) same c.loop-entry-test.true) (subst (λ xs. e ≡ get_or xs i e) same c.entry-item.is) c.requires.entries

pub write_item-requires-clause-room : goal.write_item-requires-clause-room
write_item-requires-clause-room c =
    let all = c.args.entries.now in
    let ss = record_slots (spec_tree c.args.items.now.spec.now) in
    let i : ℕ = c.loop-entry.entry-index in
    let e = c.entry-item.result in
    let same = c.as_slice-entry-items.ensures.members in
    left_room ss c.args.out.now c.loop-entry.out (entries_canon 1 ss (entries_tree all)) all i e c.loop-entry.invariant (subst (λ xs. i < length xs) same c.loop-entry-test.true) (subst (λ xs. e ≡ get_or xs i e) same c.entry-item.is) c.requires.room

pub loop-entry-preserved : goal.loop-entry-preserved
loop-entry-preserved c =
    let all = c.args.entries.now in
    let ss = record_slots (spec_tree c.args.items.now.spec.now) in
    let i : ℕ = c.loop-entry.entry-index in
    let e = c.entry-item.result in
    let same = c.as_slice-entry-items.ensures.members in
    left_next ss c.args.out.now c.loop-entry.out c.write_item.new.out (entries_canon 1 ss (entries_tree all)) all i e c.loop-entry.invariant (subst (λ xs. i < length xs) same c.loop-entry-test.true) (subst (λ xs. e ≡ get_or xs i e) same c.entry-item.is) c.write_item.ensures

pub returns : goal.returns
returns c =
    let all = c.args.entries.now in
    let ss = record_slots (spec_tree c.args.items.now.spec.now) in
    left_ended ss c.args.out.now c.loop-entry.out (entries_canon 1 ss (entries_tree all)) all c.loop-entry.entry-index c.loop-entry.invariant (subst (λ xs. length xs ≤ c.loop-entry.entry-index) c.as_slice-entry-items.ensures.members c.loop-entry-test.false)
