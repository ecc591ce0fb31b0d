use Rattle.std.proofs.Common.{subst}
use Rattle.ax_bits.specs.Bits.{bits}
use Rattle.ax_blocks.specs.Reader.{raw_tree}
use Rattle.ax_format.specs.Plain.{spec_tree}
use Rattle.ax_listing.proofs.Blocks.{read_listed}
use Rattle.ax_walk.specs.Views.{CountsRecords}
use Rattle.ax_canon.specs.Laid.{LaysBits}
use Rattle.ax_listing.proofs.block.list_read.Goals as goal

pub returns-in-Ok-list_body-clause-octets : goal.returns-in-Ok-list_body-clause-octets
returns-in-Ok-list_body-clause-octets c =
    let view = c.in-Ok.view in
    let codec = c.args.codec.now in
    let body = c.args.block.raw.now.body.now in
    let output = bits c.lay_view-octets.new.output in
    read_listed codec (spec_tree c.args.table.now.items) (raw_tree c.args.block.raw.now) c.args.block.number c.lay_view-octets.result c.count.result output c.list_body.new.lister.out.octets c.requires.no_flaw c.requires.stands c.requires.category c.list_body.ensures.small
    (subst (λ body. LaysBits codec body c.lay_view-octets.result output) c.in-Ok.ensures.body (subst (λ codec. LaysBits codec view.body.now c.lay_view-octets.result output) c.in-Ok.ensures.codec c.lay_view-octets.ensures.laid))
    (subst (λ body. CountsRecords codec body c.count.result) c.in-Ok.ensures.body (subst (λ codec. CountsRecords codec view.body.now c.count.result) c.in-Ok.ensures.codec c.count.ensures)) c.in-Ok-list_body.ensures.ok
