use Rattle.ax_view.proofs.LinkedKinds.{record_made}
use Rattle.ax_view.proofs.kinds.record_kind.Goals as goal

pub returns : goal.returns
returns c = record_made c.args.codec.now.nodes c.args.codec.now.slots c.in_ok-slots.slots c.in_ok-slots.ensures
