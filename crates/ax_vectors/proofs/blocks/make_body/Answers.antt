use Rattle.std.proofs.Common.{◌≡◌, ◌+◌, ◌%◌, length, subst, sym, ◌∙◌}
use Rattle.ax_format.specs.Plain.{spec_tree}
use Rattle.ax_vectors.proofs.RecordDraws.{body_drawn, body_whole}
use Rattle.ax_vectors.specs.Made.{record_made}
use Rattle.ax_vectors.specs.Making.{Adds, times}
use Rattle.ax_vectors.proofs.blocks.make_body.Goals as goal

pub into_octets-requires : goal.into_octets-requires
into_octets-requires c =
    let tree = spec_tree c.args.spec.now in
    let made = subst (λ old. Adds (times (1 + c.draw.result % 4) (record_made tree)) old c.make_each_record.new.into c.draw.new.self c.make_each_record.new.draws) c.new-bits.ensures c.in_ok-make_each_record.ensures in
    let drawn = body_drawn tree c.draw.result c.make_each_record.new.into c.args.draws.now c.draw.new.self c.make_each_record.new.draws c.draw.ensures.drawn c.draw.ensures.state made in
    subst (λ b. length b % 8 ≡ 0) (sym drawn.0) (body_whole c.args.spec.now c.args.draws.now c.requires)

pub returns-clause-body : goal.returns-clause-body
returns-clause-body c =
    let tree = spec_tree c.args.spec.now in
    let made = subst (λ old. Adds (times (1 + c.draw.result % 4) (record_made tree)) old c.make_each_record.new.into c.draw.new.self c.make_each_record.new.draws) c.new-bits.ensures c.in_ok-make_each_record.ensures in
    let drawn = body_drawn tree c.draw.result c.make_each_record.new.into c.args.draws.now c.draw.new.self c.make_each_record.new.draws c.draw.ensures.drawn c.draw.ensures.state made in
    c.into_octets.ensures ∙ drawn.0
