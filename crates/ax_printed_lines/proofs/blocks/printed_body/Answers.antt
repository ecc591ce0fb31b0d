use Rattle.std.proofs.Common.{◌≡◌, Some, rules}
use Rattle.ax_format.specs.Plain.{spec_tree, catalogue_tree}
use Rattle.ax_format.specs.Specification.{spec_of}
use Rattle.ax_printed_lines.proofs.LinesBuilt.{line_printed}
use Rattle.ax_printed_lines.proofs.RecordsBuilt.{record_areas}
use Rattle.ax_printed_lines.proofs.blocks.printed_body.Goals as goal

pub records_built-requires : goal.records_built-requires
records_built-requires c = record_areas (spec_tree c.in_ok-table.table.now.items) c.in_ok-table.ensures.no_flaw

pub returns : goal.returns
returns c =
    let spec = spec_tree c.in_ok-table.table.now.items in
    let known : Some spec ≡ spec_of c.in_ok-category.category (catalogue_tree c.args.tables.now) = c.in_ok-table.ensures.spec in
    line_printed (catalogue_tree c.args.tables.now) spec c.in_ok-category.category c.args.line.now known c.in_ok-table.ensures.no_flaw c.in_ok-category.ensures.octet c.new-cursor.result c.takes.new.self c.category.new.self c.opens.new.self c.records_built.new.cursor c.args.out.now c.records_built.new.out
    c.new-cursor.ensures.gap c.new-cursor.ensures.level (search rules) c.in_ok-category.ensures.goes (search rules) c.in_ok-records_built.ensures.records c.in_ok-records_built.ensures.ended.0 c.in_ok-records_built.ensures.ended.1
