use Rattle.std.proofs.Common.{◌≡◌, ℕ, ◌==◌, find, option_map, take}
use Rattle.std.specs.BTreeMap.{get}
use Rattle.std.specs.Ordering.{nat_cmp}
use Rattle.ax_held_kinds.specs.Entries.{alone}
use Rattle.ax_held_kinds.proofs.by_number.EntriesByNumber.of.Given as goal

abbrev pub invariant-loop-entry : goal.invariant-loop-entry
invariant-loop-entry l =
    (n : ℕ) → get nat_cmp l.first n ≡ option_map alone (find (λ entry. entry.number == n) (take l.entry-index l.entries))
