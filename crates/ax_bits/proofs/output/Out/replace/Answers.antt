use Rattle.std.proofs.Common.{refl}
use Rattle.ax_bits.proofs.Outputs.{replaces}
use Rattle.ax_bits.proofs.output.Out.replace.Goals as goal

pub returns : goal.returns
returns c = replaces c.args.self.now _ c.args.at c.args.octet refl c.requires refl refl
