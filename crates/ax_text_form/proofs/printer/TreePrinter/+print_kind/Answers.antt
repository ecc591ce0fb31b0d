use Rattle.std.proofs.Common.{◌≡◌, ◌<◌, ◌≤◌, ℕ, ap, arith, length, get_or, rules, subst}
use denote.Param.Weighed.{at_most}
use Rattle.ax_format.proofs.value.Entry.TheLaws as entries
use Rattle.ax_format.proofs.value.Value.TheLaws as values
use Rattle.ax_format.specs.Plain.{kind_tree, values_tree, slots_tree, entries_tree}
use Rattle.ax_format.specs.Shape.{Shape}
use Rattle.ax_text_form.specs.Printing.{after_spaces}
use Rattle.ax_text_form.specs.Slots.{slot_onto}
use Rattle.ax_text_form.specs.ValueText.{kind_onto, each_onto, entries_onto}
use Rattle.ax_text_form.proofs.EntryWays.{texts_made, entries_first, entry_shape, entry_next, entries_ended}
use Rattle.ax_text_form.proofs.Pieces.{last_put}
use Rattle.ax_text_form.proofs.Printed.{braces_put}
use Rattle.ax_text_form.proofs.KindWays.{each_first, each_shape, each_next, each_ended}
use Rattle.ax_text_form.proofs.printer.TreePrinter.+print_kind.Goals as goal

pub entries-loop-entry-init : goal.entries-loop-entry-init
entries-loop-entry-init t c = entries_first after_spaces entries_onto slot_onto texts_made (slots_tree c.args.slots.now) c.args.entries.now c.args.self.now.out.items c.requires

pub entries-loop-entry-preserved : goal.entries-loop-entry-preserved
entries-loop-entry-preserved t c =
    let all = c.args.entries.now in
    let ss = slots_tree c.args.slots.now in
    let i : ℕ = c.loop-entry.entry-index in
    let e = c.entry-item.result in
    let same = c.as_slice-entry-items.ensures.members in
    entry_next after_spaces slot_onto ss (entries_onto 1 ss (entries_tree all)) c.args.self.now.out.items c.loop-entry.self.out.items c.entry.new.self.out.items all i e c.loop-entry.invariant
    (subst (λ xs. i < length xs) same c.loop-entry-test.true) (subst (λ xs. e ≡ get_or xs i e) same c.entry-item.is) (search rules)

pub entries-entry-requires : goal.entries-entry-requires
entries-entry-requires t c =
    let all = c.args.entries.now in
    let ss = slots_tree c.args.slots.now in
    let i : ℕ = c.loop-entry.entry-index in
    let e = c.entry-item.result in
    let same = c.as_slice-entry-items.ensures.members in
    let within : i < length all = subst (λ xs. i < length xs) same c.loop-entry-test.true in
    let is : e ≡ get_or all i e = subst (λ xs. e ≡ get_or xs i e) same c.entry-item.is in
    let small = at_most entries.the_size all i e within in
    let same_size : entries.the_size e ≡ entries.the_size (get_or all i e) = ap entries.the_size is in
    (omega (arith, small, same_size, c.decreases), entry_shape after_spaces slot_onto ss (entries_onto 1 ss (entries_tree all)) c.args.self.now.out.items c.loop-entry.self.out.items all i e c.loop-entry.invariant within is)

pub entries-returns : goal.entries-returns
entries-returns t c =
    let all = c.args.entries.now in
    let ss = slots_tree c.args.slots.now in
    entries_ended after_spaces slot_onto ss (entries_onto 1 ss (entries_tree all)) c.args.self.now.out.items c.loop-entry.self.out.items all c.loop-entry.entry-index c.loop-entry.invariant
    (subst (λ xs. length xs ≤ c.loop-entry.entry-index) c.as_slice-entry-items.ensures.members c.loop-entry-test.false)

pub each-loop-value-init : goal.each-loop-value-init
each-loop-value-init t c = each_first (Shape (kind_tree c.args.kind.now)) (kind_onto (kind_tree c.args.kind.now)) c.args.values.now c.args.self.now.out.items c.requires

pub each-loop-value-preserved : goal.each-loop-value-preserved
each-loop-value-preserved t c =
    let all = c.args.values.now in
    let k = kind_tree c.args.kind.now in
    let i : ℕ = c.loop-value.value-index in
    let v = c.value-item.result in
    let same = c.as_slice-value-items.ensures.members in
    each_next (Shape k) (kind_onto k) (each_onto (kind_onto k) (values_tree all)) c.args.self.now.out.items c.loop-value.self.out.items c.kind.new.self.out.items all i v c.loop-value.invariant
    (subst (λ xs. i < length xs) same c.loop-value-test.true) (subst (λ xs. v ≡ get_or xs i v) same c.value-item.is) (search rules)

pub each-kind-requires : goal.each-kind-requires
each-kind-requires t c =
    let all = c.args.values.now in
    let k = kind_tree c.args.kind.now in
    let i : ℕ = c.loop-value.value-index in
    let v = c.value-item.result in
    let same = c.as_slice-value-items.ensures.members in
    let within : i < length all = subst (λ xs. i < length xs) same c.loop-value-test.true in
    let is : v ≡ get_or all i v = subst (λ xs. v ≡ get_or xs i v) same c.value-item.is in
    let small = at_most values.the_size all i v within in
    let same_size : values.the_size v ≡ values.the_size (get_or all i v) = ap values.the_size is in
    (omega (arith, small, same_size, c.decreases), each_shape (Shape k) (kind_onto k) (each_onto (kind_onto k) (values_tree all)) c.args.self.now.out.items c.loop-value.self.out.items all i v c.loop-value.invariant within is)

pub each-returns : goal.each-returns
each-returns t c =
    let all = c.args.values.now in
    let k = kind_tree c.args.kind.now in
    each_ended (Shape k) (kind_onto k) (each_onto (kind_onto k) (values_tree all)) c.args.self.now.out.items c.loop-value.self.out.items all c.loop-value.value-index c.loop-value.invariant
    (subst (λ xs. length xs ≤ c.loop-value.value-index) c.as_slice-value-items.ensures.members c.loop-value-test.false)

pub counted-returns : goal.counted-returns
counted-returns t c = last_put c.text-2.result c.text-2.ensures (λ h. braces_put (each_onto (kind_onto (kind_tree c.args.inner.now)) (values_tree c.args.values.now)) _ _ _ _ c.in_ok-text.ensures c.in_ok-each.ensures h)
