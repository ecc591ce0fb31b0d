use Rattle.std.proofs.Common.{subst}
use Rattle.ax_blocks.specs.Reader.{raw_tree}
use Rattle.ax_convert_work.proofs.MadeBlocks.{block_made, block_not_made}
use Rattle.ax_convert_work.specs.Making.{AreDataBlocks, IsReadBlock, NoDataBlocks, NotMade}
use Rattle.ax_format.specs.Plain.{spec_tree, block_tree}
use Rattle.ax_convert_work.proofs.making.make.Goals as goal

pub returns-in-Err-clause-stop : goal.returns-in-Err-clause-stop
returns-in-Err-clause-stop c =
    let m = c.args.converter.now in
    subst (λ old. NotMade (spec_tree old) (spec_tree m.new.now) (raw_tree c.args.raw.now) c.in-Err.stop) c.old_edition.ensures (c.in-Err.ensures.stop (spec_tree m.new.now))

pub returns-in-Ok-encode_converted-clause-made : goal.returns-in-Ok-encode_converted-clause-made
returns-in-Ok-encode_converted-clause-made c =
    let m = c.args.converter.now in
    block_made m.old.now m.new.now m.relation.now c.requires.is.related (raw_tree c.args.raw.now) c.in-Ok.block c.in-Ok-convert.converted.block
    (subst (λ old. IsReadBlock old (raw_tree c.args.raw.now) c.in-Ok.block) c.old_edition.ensures c.in-Ok.ensures.read) c.in-Ok-convert.ensures.converted c.in-Ok-convert.converted.misses c.in-Ok-encode_converted.blocks c.in-Ok-convert.ensures.misses
    (subst (λ spec. AreDataBlocks (spec_tree spec) (block_tree c.in-Ok-convert.converted.block) c.in-Ok-encode_converted.blocks) c.requires.items c.in-Ok-encode_converted.ensures.blocks)

pub returns-clause-stop : goal.returns-clause-stop
returns-clause-stop c =
    let m = c.args.converter.now in
    block_not_made m.old.now m.new.now m.relation.now c.requires.is.related (raw_tree c.args.raw.now) c.in-Ok.block c.in-Ok-convert.converted.block
    (subst (λ old. IsReadBlock old (raw_tree c.args.raw.now) c.in-Ok.block) c.old_edition.ensures c.in-Ok.ensures.read) c.in-Ok-convert.ensures.converted c.in-Err-encode_converted.stop
    (subst (λ spec. NoDataBlocks (spec_tree spec) (block_tree c.in-Ok-convert.converted.block) c.in-Err-encode_converted.stop) c.requires.items c.in-Err-encode_converted.ensures.stop)
