use Rattle.ax_vectors.proofs.Pushing.{none_free}
use Rattle.ax_vectors.proofs.bit_string.BitString.into_octets.Goals as goal

pub returns : goal.returns
returns c = none_free c.self.inside.octets.items c.self.inside.free c.args.self c.self.invariant c.self.view_is c.requires
