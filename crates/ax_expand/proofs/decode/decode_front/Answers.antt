use Rattle.ax_format.specs.Plain.{slots_tree}
use Rattle.ax_expand.proofs.Decoded.{front_gets, front_failed}
use Rattle.ax_expand.proofs.decode.decode_front.Goals as goal

pub returns-clause-ok : goal.returns-clause-ok
returns-clause-ok c = front_gets c.args.form (slots_tree c.args.slots.now) c.args.content.now c.read_field.new.into c.in_ok-here.here c.decode_marked.result c.in_ok-here.ensures.ok c.decode_marked.ensures.ok

pub returns-clause-err : goal.returns-clause-err
returns-clause-err c = front_failed c.args.form (slots_tree c.args.slots.now) c.args.content.now c.read_field.new.into c.in_ok-here.here c.decode_marked.result c.in_ok-here.ensures.ok c.decode_marked.ensures.err
