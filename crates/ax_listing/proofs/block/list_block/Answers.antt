use Rattle.std.proofs.Common.{sym, ◌∙◌, ap}
use Rattle.std.specs.Option.{option_copied}
use Rattle.ax_blocks.specs.Reader.{raw_tree}
use Rattle.ax_format.specs.Plain.{spec_tree, catalogue_tree}
use Rattle.ax_listing.proofs.Blocks.{stands, same_category, never, read_block_listed}
use Rattle.ax_listing.proofs.block.list_block.Goals as goal
use Rattle.ax_listing.proofs.TablesOf.{masked, known}

pub list_read-requires-clause-mask : goal.list_read-requires-clause-mask
list_read-requires-clause-mask c = masked c.in-Some-get.table.now

pub list_read-requires-clause-stands : goal.list_read-requires-clause-stands
list_read-requires-clause-stands c =
    stands c.args.codecs.now.codecs c.args.tables.now c.args.catalogue.now c.args.block.raw.now.category c.requires.tables c.get-in-Some.result c.get-in-Some.ensures.spec c.in-Some.codec.now c.in-Some-get.table c.requires.sound (sym c.get.ensures ∙ ap option_copied c.in-Some.is) c.in-Some-get.is

pub list_read-requires-clause-category : goal.list_read-requires-clause-category
list_read-requires-clause-category c = same_category c.args.codecs.now.codecs c.args.tables.now c.args.catalogue.now c.args.block.raw.now.category c.requires.tables c.get-in-Some.result c.get-in-Some.ensures.spec c.in-Some-get.table c.in-Some-get.is

pub unreachable-requires : goal.unreachable-requires
unreachable-requires c =
    never c.args.codecs.now.codecs c.args.tables.now c.args.catalogue.now c.args.block.raw.now.category c.requires.tables c.get-in-Some.result c.get-in-Some.ensures.spec c.in-Some.codec.now c.requires.sound (sym c.get.ensures ∙ ap option_copied c.in-Some.is) c.in-None-get.is

pub returns-in-Ok-clause-octets : goal.returns-in-Ok-clause-octets
returns-in-Ok-clause-octets c =
    let there = known c.args.tables.now c.args.catalogue.now c.args.block.raw.now.category c.requires.tables c.get-in-Some.result c.in-Some-get.table c.get-in-Some.ensures.spec c.in-Some-get.is in
    read_block_listed (catalogue_tree c.args.catalogue.now) c.args.block.number (raw_tree c.args.block.raw.now) (spec_tree c.in-Some-get.table.now.items) c.list_read.new.room.lister.out.octets c.args.block.raw.now.within_block there c.in-Ok.ensures.octets
