use Rattle.std.proofs.Common.{refl}
use Rattle.ax_bits.proofs.Outputs.{appends}
use Rattle.ax_bits.proofs.Words.{length-word}
use Rattle.ax_bits.proofs.output.Out.push_bits.Goals as goal

pub returns : goal.returns
returns c =
    appends c.args.self.now _ _ c.args.width refl (length-word c.args.width c.args.value) c.requires.room refl c.put_bits.auto.octets c.put_bits.ensures
