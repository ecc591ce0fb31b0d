use Rattle.std.proofs.Common.{rules, ◌≡◌, Some}
use Rattle.std.proofs.lemmas.Result.{err_from_is_err_and}
use Rattle.ax_format.specs.Plain.{catalogue_tree, spec_tree, records_tree}
use Rattle.ax_format.specs.OfCode.{HasNoFlaw}
use Rattle.ax_format.specs.Specification.{spec_of}
use Rattle.ax_block_reader.proofs.BlockWays.{no_category_known, category_unknown, records_lack, read_is_read}
use Rattle.ax_text_form.proofs.Readables.{record_readable}
use Rattle.ax_block_reader.proofs.blocks.read_block.Goals as goal

pub returns-in_err-category : goal.returns-in_err-category
returns-in_err-category c =
    let p = err_from_is_err_and c.from_residual.result c.from_residual.ensures.1 in
    let none = c.in_err-category.ensures.none in
    rw (p.1, p.2) (no_category_known (catalogue_tree c.args.items.now) c.in_err-category.field-0.0 c.args.reader.now c.requires none.1)

pub returns-in_default : goal.returns-in_default
returns-in_default c = category_unknown (catalogue_tree c.args.items.now) c.in_ok-category.category c.args.reader.now c.requires c.in_ok-category.ensures.category.1 (search rules)

pub braced_records-requires : goal.braced_records-requires
braced_records-requires c =
    let clean : HasNoFlaw c.in-Some.uap.now.spec.now = rw c.in-Some.is at c.get.ensures.no_flaw in
    record_readable (spec_tree c.in-Some.uap.now.spec.now) clean

pub returns-in_err-records : goal.returns-in_err-records
returns-in_err-records c =
    let p = err_from_is_err_and c.from_residual-in_err-records.result c.from_residual-in_err-records.ensures.1 in
    let known : spec_of c.in_ok-category.category (catalogue_tree c.args.items.now) ≡ Some (spec_tree c.in-Some.uap.now.spec.now) = search rules in
    rw (p.1, p.2) (records_lack (catalogue_tree c.args.items.now) c.in_ok-category.category (spec_tree c.in-Some.uap.now.spec.now) _ _ c.skip.new.self _ c.in_ok-category.ensures.category.0 known (search rules) c.in_err-records.ensures.gives)

pub returns : goal.returns
returns c =
    let known : spec_of c.in_ok-category.category (catalogue_tree c.args.items.now) ≡ Some (spec_tree c.in-Some.uap.now.spec.now) = search rules in
    read_is_read (catalogue_tree c.args.items.now) c.in_ok-category.category (spec_tree c.in-Some.uap.now.spec.now) (records_tree c.in_ok-records.records) _ c.skip.new.self _ c.in_ok-category.ensures.category.0 known (search rules) c.in_ok-records.ensures.gives
