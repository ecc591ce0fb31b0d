use Rattle.std.proofs.Common.{rules}
use Rattle.ax_format.specs.Plain.{entries_tree}
use Rattle.ax_rescale.proofs.PassedEntries.{mappings_ready, passed_step}
use Rattle.ax_rescale.proofs.passing.+passing.Goals as goal

pub passed_entries-loop-one-preserved : goal.passed_entries-loop-one-preserved
passed_entries-loop-one-preserved t c = (
  passed_step c.loop-one.one-index c.args.mappings.now c.one-item.result (entries_tree c.args.entries.now) _ _ _ (search rules) (search rules) c.in_ok-pass_entry.ensures c.loop-one.invariant.0,
  mappings_ready c.loop-one.one-index c.args.mappings.now c.one-item.result (entries_tree c.args.entries.now) (search rules) (search rules) c.loop-one.invariant.1,
)
