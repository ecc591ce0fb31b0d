use denote.Param.Weighed.{at_most}
use Rattle.ax_format.proofs.value.Entry.TheLaws.{the_size}
use Rattle.ax_format.proofs.value.Value.TheLaws as values
use Rattle.std.proofs.Common.{◌≡◌, ◌+◌, ◌<◌, ◌≤◌, ℕ, length, get_or, rules, subst, ap, ◌∙◌, arith}
use Rattle.ax_format.specs.Plain.{kind_tree, values_tree, slots_tree, entries_tree}
use Rattle.ax_format.specs.Shape.{Shape}
use Rattle.ax_text_form.specs.Printing.{as_lines}
use Rattle.ax_text_form.specs.ShowText.{kind_lines, each_lines, entries_lines, occurrence}
use Rattle.ax_text_form.specs.Slots.{slot_lines}
use Rattle.ax_text_form.proofs.EntryWays.{entries_first, entry_shape, entry_next, entries_ended}
use Rattle.ax_text_form.proofs.ListedKinds.{lines_made, slot_listable}
use Rattle.ax_text.proofs.ListedValues.{each_shape, each_next, each_ended, counted_lines, compound_put}
use Rattle.ax_text_form.proofs.Pieces.{last_put}
use Rattle.ax_text.proofs.kinds.+list_kind.Goals as goal

pub list_each-loop-value-preserved : goal.list_each-loop-value-preserved
list_each-loop-value-preserved t c =
    let all = c.args.values.now in
    let k = kind_tree c.args.kind.now in
    let path = c.args.path.now in
    let i : ℕ = c.loop-value.value-index in
    let v = c.value-item.result in
    let same = c.as_slice-value-items.ensures.members in
    record {
      counted = ap (λ n. n + 1) c.loop-value.invariant.counted;
      left = each_next (Shape k) (kind_lines k) path (each_lines (kind_lines k) path 0 (values_tree all)) c.args.lister.now.out.octets c.loop-value.lister.out.octets i all v c.in_ok-inner.inner c.list_kind.new.lister.out.octets c.loop-value.invariant.left
          (subst (λ xs. i < length xs) same c.loop-value-test.true) (subst (λ xs. v ≡ get_or xs i v) same c.value-item.is) (c.in_ok-inner.ensures ∙ ap (occurrence path) c.loop-value.invariant.counted) (search rules);
    }

pub list_each-returns : goal.list_each-returns
list_each-returns t c =
    let all = c.args.values.now in
    let k = kind_tree c.args.kind.now in
    let path = c.args.path.now in
    each_ended (Shape k) (kind_lines k) path (each_lines (kind_lines k) path 0 (values_tree all)) c.args.lister.now.out.octets c.loop-value.lister.out.octets c.loop-value.value-index all c.loop-value.invariant.left
    (subst (λ xs. length xs ≤ c.loop-value.value-index) c.as_slice-value-items.ensures.members c.loop-value-test.false)

pub list_entries-loop-entry-init : goal.list_entries-loop-entry-init
list_entries-loop-entry-init t c =
    entries_first as_lines (entries_lines c.args.path.now) (slot_lines c.args.path.now) (lines_made c.args.path.now) (slots_tree c.args.slots.now) c.args.entries.now c.args.lister.now.out.octets c.requires.shape

pub list_entries-loop-entry-preserved : goal.list_entries-loop-entry-preserved
list_entries-loop-entry-preserved t c =
    let all = c.args.entries.now in
    let ss = slots_tree c.args.slots.now in
    let path = c.args.path.now in
    let i : ℕ = c.loop-entry.entry-index in
    let e = c.entry-item.result in
    let same = c.as_slice-entry-items.ensures.members in
    entry_next as_lines (slot_lines path) ss (entries_lines path 1 ss (entries_tree all)) c.args.lister.now.out.octets c.loop-entry.lister.out.octets c.list_entry.new.lister.out.octets all i e c.loop-entry.invariant
    (subst (λ xs. i < length xs) same c.loop-entry-test.true) (subst (λ xs. e ≡ get_or xs i e) same c.entry-item.is) (search rules)

pub list_counted-returns : goal.list_counted-returns
list_counted-returns t c =
    last_put c.list_each.result c.list_each.ensures (λ h. counted_lines c.args.path.now (kind_tree c.args.inner.now) c.args.values.now c.count.result c.args.lister.now.out.octets c.list_count.new.lister.out.octets c.list_each.new.lister.out.octets c.count.ensures c.in_ok-list_count.ensures h)

pub list_entries-list_entry-requires : goal.list_entries-list_entry-requires
list_entries-list_entry-requires t c =
    let all = c.args.entries.now in
    let ss = slots_tree c.args.slots.now in
    let path = c.args.path.now in
    let i : ℕ = c.loop-entry.entry-index in
    let e = c.entry-item.result in
    let same = c.as_slice-entry-items.ensures.members in
    let within : i < length all = subst (λ xs. i < length xs) same c.loop-entry-test.true in
    let is : e ≡ get_or all i e = subst (λ xs. e ≡ get_or xs i e) same c.entry-item.is in
    let small = at_most the_size all i e within in
    let same_size : the_size e ≡ the_size (get_or all i e) = ap the_size is in
    (omega (arith, small, same_size, c.decreases), (slot_listable ss e.slot c.requires.listable, entry_shape as_lines (slot_lines path) ss (entries_lines path 1 ss (entries_tree all)) c.args.lister.now.out.octets c.loop-entry.lister.out.octets all i e c.loop-entry.invariant within is))

pub list_compound-returns : goal.list_compound-returns
list_compound-returns t c =
    last_put c.list_entries.result c.list_entries.ensures (λ h. compound_put c.args.path.now (slots_tree c.args.slots.now) c.args.entries.now c.count.result _ _ _ c.count.ensures c.in_ok-list_count.ensures h)

pub list_entries-returns : goal.list_entries-returns
list_entries-returns t c =
    let all = c.args.entries.now in
    let ss = slots_tree c.args.slots.now in
    let path = c.args.path.now in
    entries_ended as_lines (slot_lines path) ss (entries_lines path 1 ss (entries_tree all)) c.args.lister.now.out.octets c.loop-entry.lister.out.octets all c.loop-entry.entry-index c.loop-entry.invariant
    (subst (λ xs. length xs ≤ c.loop-entry.entry-index) c.as_slice-entry-items.ensures.members c.loop-entry-test.false)

pub list_each-list_kind-requires : goal.list_each-list_kind-requires
list_each-list_kind-requires t c =
    let all = c.args.values.now in
    let k = kind_tree c.args.kind.now in
    let path = c.args.path.now in
    let i : ℕ = c.loop-value.value-index in
    let v = c.value-item.result in
    let same = c.as_slice-value-items.ensures.members in
    let within : i < length all = subst (λ xs. i < length xs) same c.loop-value-test.true in
    let is : v ≡ get_or all i v = subst (λ xs. v ≡ get_or xs i v) same c.value-item.is in
    let small = at_most values.the_size all i v within in
    let same_size : values.the_size v ≡ values.the_size (get_or all i v) = ap values.the_size is in
    (omega (arith, small, same_size, c.decreases), (c.requires.listable, each_shape (Shape k) (kind_lines k) path (each_lines (kind_lines k) path 0 (values_tree all)) c.args.lister.now.out.octets c.loop-value.lister.out.octets i all v c.loop-value.invariant.left within is))
