use Rattle.std.proofs.Common.{◌≡◌, ◌-◌, ◌≤◌, ◌++◌, length, drop}
use Rattle.ax_format.specs.Plain.{entries_tree, spec_tree}
use Rattle.ax_rescale.specs.Watching.{record_misses}
use Rattle.ax_rescale.proofs.missing.miss_record.Given as goal

abbrev pub invariant-loop-at : goal.invariant-loop-at
invariant-loop-at l =
    (l.at ≤ length l.watches)
    × (l.misses ++ record_misses (spec_tree l.converter.old.now) (spec_tree l.converter.new.now) l.one.number (entries_tree l.one.entries.now) (entries_tree l.one.made.now) (drop l.at l.converter.relation.now.paths)
    ≡ l.fn.misses ++ record_misses (spec_tree l.converter.old.now) (spec_tree l.converter.new.now) l.one.number (entries_tree l.one.entries.now) (entries_tree l.one.made.now) l.converter.relation.now.paths)

abbrev pub decreases-loop-at : goal.decreases-loop-at
decreases-loop-at l = length l.watches - l.at
