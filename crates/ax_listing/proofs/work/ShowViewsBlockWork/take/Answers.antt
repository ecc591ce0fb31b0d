use Rattle.ax_blocks.specs.Reader.{raw_tree}
use Rattle.ax_format.specs.Plain.{catalogue_tree}
use Rattle.ax_listing.proofs.Blocks.{listed_taken}
use Rattle.ax_listing.proofs.work.ShowViewsBlockWork.take.Goals as goal

pub returns-in-Ok-clause-takes : goal.returns-in-Ok-clause-takes
returns-in-Ok-clause-takes g c = listed_taken (catalogue_tree c.args.self.now.catalogue.now) c.args.number (raw_tree c.args.raw.now) _ _ _ c.list_block.new.room.lister.out.octets _ _ c.in-Ok.ensures.octets c.listing.ensures c.write_piece.ensures
