use Rattle.std.proofs.Common.{◌≡◌, ◌++◌, drop, map}
use Rattle.ax_format.specs.Plain.{entry_tree, entries_tree}
use Rattle.ax_relation.specs.Passing.{list_of}
use Rattle.ax_rescale.specs.Mappings.{passed_by}
use Rattle.ax_rescale.specs.PlainMappings.{mappings_tree}
use Rattle.ax_rescale.specs.Ready.{MappingsReady}
use Rattle.ax_rescale.proofs.passing.+passing.Given as goal

abbrev pub invariant-passed_entries-loop-one : goal.invariant-passed_entries-loop-one
invariant-passed_entries-loop-one l =
    (map entry_tree l.made ++ list_of (passed_by (mappings_tree (drop l.one-index l.mappings)) (entries_tree l.entries)) ≡ list_of (passed_by (mappings_tree l.mappings) (entries_tree l.entries)))
    × MappingsReady (mappings_tree (drop l.one-index l.mappings)) (entries_tree l.entries)
