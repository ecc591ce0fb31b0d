use Rattle.std.proofs.Common.{Result, Ok, Err, OnOk}
use Rattle.ax_vectors.proofs.KindDraws.{extended_adds}
use Rattle.ax_vectors.proofs.kinds.make_extended.Goals as goal

on_ok : {A E : Type 0} (r : Result A E) (P Q : Type 0) → (P → Q) → OnOk r P → OnOk r Q
on_ok (Ok a) P Q f p = f p
on_ok (Err e) P Q f p = tt

pub returns : goal.returns
returns c =
    on_ok c.make_parts.result _ _
    (extended_adds c.args.last c.args.parts.now c.draw.result c.count.result c.args.into.now c.make_parts.new.into c.args.draws.now c.draw.new.self c.make_parts.new.draws c.draw.ensures.drawn c.draw.ensures.state c.count.ensures)
    c.make_parts.ensures
