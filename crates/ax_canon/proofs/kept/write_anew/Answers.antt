use Rattle.std.proofs.Common.{arith, refl}
use Rattle.ax_bits.proofs.Outputs.{appends_more}
use Rattle.ax_bits.proofs.Words.{length-bits}
use Rattle.ax_bits.specs.Bits.{bits}
use Rattle.ax_canon.proofs.KeptRecords.{written_anew}
use Rattle.ax_walk.specs.Noted.{canon_in}
use Rattle.ax_canon.proofs.kept.write_anew.Goals as goal

pub rewrite_field-requires-clause-room : goal.rewrite_field-requires-clause-room
rewrite_field-requires-clause-room c = omega (arith, c.requires.room, c.push_octets.ensures.room, length-bits c.args.run.now)

pub returns : goal.returns
returns c =
    appends_more c.args.out.now c.push_octets.new.self c.rewrite_field.new.out (bits c.args.run.now) (canon_in c.args.codec.now c.args.octets.now) _ refl c.push_octets.ensures
    (written_anew c.args.codec.now c.args.octets.now c.rewrite_field.result c.push_octets.new.self c.rewrite_field.new.out c.requires.record c.rewrite_field.ensures)
