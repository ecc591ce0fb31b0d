use Rattle.std.proofs.Common.{◌≡◌, length, take, arith, length-take-le}
use Rattle.std.proofs.lemmas.Simd.{take_more_put_chunk, length-put_chunk}
use Rattle.ax_text_lines.proofs.room.put_first.Goals as goal

pub returns-clause-front : goal.returns-clause-front
returns-clause-front g c =
    let front = take g.row.N c.args.octets.now in
    let long : length front ≡ g.row.N = length-take-le g.row.N c.args.octets.now c.requires.0 in
    take_more_put_chunk c.args.at c.args.room.now front _ (omega arith) c.requires.1

pub returns-clause-whole : goal.returns-clause-whole
returns-clause-whole g c = length-put_chunk c.args.at c.args.room.now (take g.row.N c.args.octets.now)
