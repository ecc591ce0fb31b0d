use Rattle.std.proofs.Common.{◌≡◌, ◌<◌, ◌≤◌, ℕ, length, get_or, subst}
use Rattle.ax_format.specs.Bodies.{CanonBody}
use Rattle.ax_format.specs.Plain.{spec_tree, record_tree, records_tree}
use Rattle.ax_values.proofs.WrittenRecords.{records_first, record_entries, record_shape, record_room, records_next, records_ended}
use Rattle.ax_values.proofs.write_records.write_body.Goals as goal

pub loop-one-init : goal.loop-one-init
loop-one-init c = records_first (spec_tree c.args.items.now.spec.now) c.args.out.now c.args.records.now c.requires.shape

pub write_record-requires-clause-entries : goal.write_record-requires-clause-entries
write_record-requires-clause-entries c =
    let all = c.args.records.now in
    let spec = spec_tree c.args.items.now.spec.now in
    let i : ℕ = c.loop-one.one-index in
    let r = c.one-item.result in
    let same = c.as_slice-one-items.ensures.members in
    record_entries spec (record_tree r) c.requires.spec
    (record_shape spec c.args.out.now c.loop-one.out (CanonBody spec (records_tree all)) all i r c.loop-one.invariant (subst (λ xs. i < length xs) same c.loop-one-test.true) (subst (λ xs. r ≡ get_or xs i r) same c.one-item.is))

pub write_record-requires-clause-room : goal.write_record-requires-clause-room
write_record-requires-clause-room c =
    let all = c.args.records.now in
    let spec = spec_tree c.args.items.now.spec.now in
    let i : ℕ = c.loop-one.one-index in
    let r = c.one-item.result in
    let same = c.as_slice-one-items.ensures.members in
    record_room spec c.args.out.now c.loop-one.out (CanonBody spec (records_tree all)) all i r c.loop-one.invariant (subst (λ xs. i < length xs) same c.loop-one-test.true) (subst (λ xs. r ≡ get_or xs i r) same c.one-item.is) c.requires.room

pub loop-one-preserved : goal.loop-one-preserved
loop-one-preserved c =
    let all = c.args.records.now in
    let spec = spec_tree c.args.items.now.spec.now in
    let i : ℕ = c.loop-one.one-index in
    let r = c.one-item.result in
    let same = c.as_slice-one-items.ensures.members in
    records_next spec c.args.out.now c.loop-one.out c.write_record.new.out (CanonBody spec (records_tree all)) all i r c.loop-one.invariant (subst (λ xs. i < length xs) same c.loop-one-test.true) (subst (λ xs. r ≡ get_or xs i r) same c.one-item.is) c.write_record.ensures

pub returns : goal.returns
returns c =
    let all = c.args.records.now in
    let spec = spec_tree c.args.items.now.spec.now in
    records_ended spec c.args.out.now c.loop-one.out (CanonBody spec (records_tree all)) all c.loop-one.one-index c.loop-one.invariant (subst (λ xs. length xs ≤ c.loop-one.one-index) c.as_slice-one-items.ensures.members c.loop-one-test.false)
