use denote.Param.Weighed.{at_most}
use Rattle.std.proofs.Common.{◌≡◌, ◌*◌, ◌^◌, ◌<◌, ◌≤◌, ℕ, length, get_or, arith, ap, subst, sym, ◌∙◌}
use Rattle.ax_format.proofs.value.Entry.TheLaws.{the_size}
use Rattle.ax_format.proofs.value.Value.TheLaws as OfValue
use Rattle.ax_format.specs.Canonical.{canon, each_canon, entries_canon}
use Rattle.ax_format.specs.Plain.{kind_tree, values_tree, slots_tree, entries_tree}
use Rattle.ax_format.specs.Tree.{value_count}
use Rattle.ax_values.proofs.WrittenKinds.{each_first, each_shape, each_room, each_next, each_ended, count_and, count_of, left_first, left_shape, left_room, left_next, left_ended}
use Rattle.ax_bits.specs.Bits.{word}
use Rattle.ax_bits.specs.Out.{Appends}
use Rattle.ax_format.specs.Widths.{counter_width}
use Rattle.ax_format.proofs.WholeOctets.{counter_in_octets}
use Rattle.ax_values.proofs.write_kinds.+write_value.Goals as goal

pub write_counted-push_bits-requires-clause-fits : goal.write_counted-push_bits-requires-clause-fits
write_counted-push_bits-requires-clause-fits t c =
    subst (λ n. c.from.result < 2 ^ n) (counter_in_octets c.args.size ∙ sym (ap (λ n. 8 * n) c.octets.ensures))
    (subst (λ m. m < 2 ^ counter_width c.args.size) (count_of c.args.values.now ∙ sym c.count.ensures ∙ sym c.from.ensures) c.requires.shape.0)

pub write_counted-returns : goal.write_counted-returns
write_counted-returns t c =
    let vs = c.args.values.now in
    count_and c.args.size c.args.out.now c.push_bits.new.self c.write_each.new.out (value_count (values_tree vs)) (each_canon (canon (kind_tree c.args.inner.now)) (values_tree vs))
    (subst (λ w. Appends c.args.out.now c.push_bits.new.self w) (λ i. word (ap (λ n. 8 * n) c.octets.ensures i) ((c.from.ensures ∙ c.count.ensures ∙ sym (count_of vs)) i)) c.push_bits.ensures) c.write_each.ensures

pub write_each-loop-value-init : goal.write_each-loop-value-init
write_each-loop-value-init t c = each_first (kind_tree c.args.kind.now) c.args.out.now c.args.values.now c.requires.shape

pub write_each-write_value-requires : goal.write_each-write_value-requires
write_each-write_value-requires t c =
    let k = kind_tree c.args.kind.now in
    let all = c.args.values.now in
    let whole = each_canon (canon k) (values_tree all) in
    let i : ℕ = c.loop-value.value-index in
    let v = c.value-item.result in
    let same = c.as_slice-value-items.ensures.members in
    let within : i < length all = subst (λ xs. i < length xs) same c.loop-value-test.true in
    let is : v ≡ get_or all i v = subst (λ xs. v ≡ get_or xs i v) same c.value-item.is in
    let small = at_most OfValue.the_size all i v within in
    let same_size : OfValue.the_size v ≡ OfValue.the_size (get_or all i v) = ap OfValue.the_size is in
    (omega (arith, small, same_size, c.decreases), (c.requires.bounds, (each_shape k c.args.out.now c.loop-value.out whole all i v c.loop-value.invariant within is, each_room k c.args.out.now c.loop-value.out whole all i v c.loop-value.invariant within is c.requires.room)))

pub write_each-loop-value-preserved : goal.write_each-loop-value-preserved
write_each-loop-value-preserved t c =
    let k = kind_tree c.args.kind.now in
    let all = c.args.values.now in
    let whole = each_canon (canon k) (values_tree all) in
    let i : ℕ = c.loop-value.value-index in
    let v = c.value-item.result in
    let same = c.as_slice-value-items.ensures.members in
    let within : i < length all = subst (λ xs. i < length xs) same c.loop-value-test.true in
    let is : v ≡ get_or all i v = subst (λ xs. v ≡ get_or xs i v) same c.value-item.is in
    each_next k c.args.out.now c.loop-value.out c.write_value.new.out whole all i v c.loop-value.invariant within is c.write_value.ensures

pub write_each-returns : goal.write_each-returns
write_each-returns t c =
    let k = kind_tree c.args.kind.now in
    let all = c.args.values.now in
    each_ended k c.args.out.now c.loop-value.out (each_canon (canon k) (values_tree all)) all c.loop-value.value-index c.loop-value.invariant (subst (λ xs. length xs ≤ c.loop-value.value-index) c.as_slice-value-items.ensures.members c.loop-value-test.false)

pub write_entries-loop-entry-init : goal.write_entries-loop-entry-init
write_entries-loop-entry-init t c = left_first (slots_tree c.args.slots.now) c.args.out.now c.args.entries.now c.requires.entries

pub write_entries-write_entry-requires : goal.write_entries-write_entry-requires
write_entries-write_entry-requires t c =
    let all = c.args.entries.now in
    let ss = slots_tree c.args.slots.now in
    let whole = entries_canon 1 ss (entries_tree all) in
    let i : ℕ = c.loop-entry.entry-index in
    let e = c.entry-item.result in
    let same = c.as_slice-entry-items.ensures.members in
    let within : i < length all = subst (λ xs. i < length xs) same c.loop-entry-test.true in
    let is : e ≡ get_or all i e = subst (λ xs. e ≡ get_or xs i e) same c.entry-item.is in
    let small = at_most the_size all i e within in
    let same_size : the_size e ≡ the_size (get_or all i e) = ap the_size is in
    (omega (arith, small, same_size, c.decreases), (left_shape ss c.args.out.now c.loop-entry.out whole all i e c.loop-entry.invariant within is c.requires.entries, left_room ss c.args.out.now c.loop-entry.out whole all i e c.loop-entry.invariant within is c.requires.room))

pub write_entries-loop-entry-preserved : goal.write_entries-loop-entry-preserved
write_entries-loop-entry-preserved t c =
    let all = c.args.entries.now in
    let ss = slots_tree c.args.slots.now in
    let i : ℕ = c.loop-entry.entry-index in
    let e = c.entry-item.result in
    let same = c.as_slice-entry-items.ensures.members in
    left_next ss c.args.out.now c.loop-entry.out c.write_entry.new.out (entries_canon 1 ss (entries_tree all)) all i e c.loop-entry.invariant (subst (λ xs. i < length xs) same c.loop-entry-test.true) (subst (λ xs. e ≡ get_or xs i e) same c.entry-item.is) c.write_entry.ensures

pub write_entries-returns : goal.write_entries-returns
write_entries-returns t c =
    let all = c.args.entries.now in
    let ss = slots_tree c.args.slots.now in
    left_ended ss c.args.out.now c.loop-entry.out (entries_canon 1 ss (entries_tree all)) all c.loop-entry.entry-index c.loop-entry.invariant (subst (λ xs. length xs ≤ c.loop-entry.entry-index) c.as_slice-entry-items.ensures.members c.loop-entry-test.false)
