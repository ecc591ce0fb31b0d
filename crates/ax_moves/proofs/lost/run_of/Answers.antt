use Rattle.std.proofs.Common.{◌+◌, [], refl}
use Rattle.ax_moves.proofs.RunSteps.{first_fits, joined_behind, none_behind}
use Rattle.ax_moves.proofs.lost.run_of.Goals as goal

pub returns-in_default : goal.returns-in_default
returns-in_default c = λ d p ks l f. (first_fits d c.args.slot p ks c.first_run.result c.first_run.ensures l, none_behind (d + 1) c.args.behind.now ks c.in_default.ensures.cases)

pub returns-then-run-slot : goal.returns-then-run-slot
returns-then-run-slot c = λ d p ks l f. joined_behind d c.args.slot p ks c.args.behind.now c.in-Some.later.now c.in-Some.run'.now c.joined_run-joined.result c.in-Some.ensures.cases.0 c.joined_run-joined.ensures l f

pub returns-else-run-slot : goal.returns-else-run-slot
returns-else-run-slot c = λ d p ks l f. (
  (joined_behind d c.args.slot p ks c.args.behind.now c.in-Some.later.now c.in-Some.run'.now c.joined_run-joined.result c.in-Some.ensures.cases.0 c.joined_run-joined.ensures l f).0,
  none_behind (d + 1) [] ks refl,
)
