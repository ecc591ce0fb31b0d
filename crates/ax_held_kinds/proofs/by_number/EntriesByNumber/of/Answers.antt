use Rattle.std.proofs.Common.{subst, length, get_or, ◌≡◌, ◌<◌}
use Rattle.ax_held_kinds.proofs.Entries.{entry_kept}
use Rattle.ax_held_kinds.proofs.by_number.EntriesByNumber.of.Goals as goal

pub loop-entry-preserved : goal.loop-entry-preserved
loop-entry-preserved c =
    let all = c.args.entries.now in
    let i = c.loop-entry.entry-index in
    let e = c.entry-item.result in
    let same = c.as_slice-entry-items.ensures.members in
    let within : i < length all = subst (λ xs. i < length xs) same c.loop-entry-test.true in
    let is : e ≡ get_or all i e = subst (λ xs. e ≡ get_or xs i e) same c.entry-item.is in
    λ n. entry_kept all i e n _ _ within is (c.loop-entry.invariant n) (c.in_ok-keep_first.ensures n)
