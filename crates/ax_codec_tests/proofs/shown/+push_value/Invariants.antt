use Rattle.std.proofs.Common.{◌+◌, ◌*◌}
use Rattle.ax_codec_tests.proofs.shown.+push_value.Given as goal

abbrev pub decreases-push_value : goal.decreases-push_value
decreases-push_value g l = 3 * goal.size-push_value g l

abbrev pub decreases-push_values : goal.decreases-push_values
decreases-push_values g l = 3 * goal.size-push_values g l + 1

abbrev pub decreases-push_entries : goal.decreases-push_entries
decreases-push_entries g l = 3 * goal.size-push_entries g l + 1

abbrev pub decreases-push_lists : goal.decreases-push_lists
decreases-push_lists g l = 3 * goal.size-push_lists g l + 2
