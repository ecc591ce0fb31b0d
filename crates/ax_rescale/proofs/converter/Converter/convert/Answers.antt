use Rattle.ax_format.specs.declared.record.Block.TheVariants as BlockOf
use Rattle.ax_rescale.proofs.ConvertedBlocks.{read_misses, read_converted, converted_fits}
use Rattle.ax_rescale.proofs.converter.Converter.convert.Goals as goal

pub returns-in_ok-made-in-Read-clause-misses : goal.returns-in_ok-made-in-Read-clause-misses
returns-in_ok-made-in-Read-clause-misses c = read_misses c.args.self.now c.requires.is c.args.block.now c.in-Read.category c.in-Read.records c.convert_records.new.misses c.new-misses.result c.in-Read.is c.requires.fits c.new-misses.ensures c.in_ok-made-in-Read.ensures.misses

pub returns-in_ok-made-in-Read-clause-fits : goal.returns-in_ok-made-in-Read-clause-fits
returns-in_ok-made-in-Read-clause-fits c = converted_fits c.args.self.now c.requires.is c.args.block.now (BlockOf.Read c.in-Read.category c.in_ok-made-in-Read.made) c.requires.fits (read_converted c.args.self.now c.requires.is c.args.block.now c.in-Read.category c.in-Read.records c.in_ok-made-in-Read.made c.in-Read.is c.requires.fits c.in_ok-made-in-Read.ensures.made)
