use Rattle.std.proofs.Common.{rules, ◌≡◌, None}
use Rattle.std.proofs.lemmas.Result.{err_from_is_err_and}
use Rattle.ax_format.specs.Plain.{catalogue_tree}
use Rattle.ax_format.specs.Specification.{spec_of}
use Rattle.ax_block_reader.proofs.BlockWays.{no_category_lacked, category_has_one, content_lacks, opaque_is_read}
use Rattle.ax_block_reader.proofs.blocks.opaque_block.Goals as goal

pub returns-in_err-category : goal.returns-in_err-category
returns-in_err-category c =
    let p = err_from_is_err_and c.from_residual.result c.from_residual.ensures.1 in
    let none = c.in_err-category.ensures.none in
    rw (p.1, p.2) (no_category_lacked (catalogue_tree c.args.items.now) c.in_err-category.field-0.0 c.args.reader.now c.requires none.1)

pub returns-then-is_some : goal.returns-then-is_some
returns-then-is_some c =
    category_has_one (catalogue_tree c.args.items.now) c.in_ok-category.category c.args.reader.now c.requires c.in_ok-category.ensures.category.1 (search rules)

pub returns-in_err-octets : goal.returns-in_err-octets
returns-in_err-octets c =
    let p = err_from_is_err_and c.from_residual-in_err-octets.result c.from_residual-in_err-octets.ensures.1 in
    let lacked : spec_of c.in_ok-category.category (catalogue_tree c.args.items.now) ≡ None = search rules in
    rw (p.1, p.2) (content_lacks (catalogue_tree c.args.items.now) c.in_ok-category.category _ _ c.skip.new.self _ c.in_ok-category.ensures.category.0 lacked (search rules) c.in_err-octets.ensures.gives)

pub returns : goal.returns
returns c =
    let lacked : spec_of c.in_ok-category.category (catalogue_tree c.args.items.now) ≡ None = search rules in
    opaque_is_read (catalogue_tree c.args.items.now) c.in_ok-category.category c.in_ok-octets.octets _ c.skip.new.self _ c.in_ok-category.ensures.category.0 lacked (search rules) c.in_ok-octets.ensures.gives
