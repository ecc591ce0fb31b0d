use Rattle.ax_format.specs.Plain.{spec_tree, entries_tree}
use Rattle.ax_format.specs.Specification.{record_kind}
use Rattle.ax_values.proofs.Continuing.{err_by_fault, err_is}
use Rattle.ax_fspec.proofs.Marking.{field_failed, marks_bits}
use Rattle.ax_values.proofs.Marking.{compound_gets, compound_failed}
use Rattle.ax_fspec.specs.Reading.{record_slot_list, kind_read}
use Rattle.ax_values.proofs.records.decode_entries.Goals as goal

pub returns-in_err-here-clause-err : goal.returns-in_err-here-clause-err
returns-in_err-here-clause-err c =
    let spec = spec_tree c.args.spec.now in
    let fault = c.in_err-here.field-0.0 in
    err_by_fault (kind_read (record_kind spec) c.args.body.now c.args.at) c.args.at c.from_residual.result fault c.from_residual.ensures.1
    (field_failed (record_slot_list spec) c.args.mask.now c.args.body.now c.args.at fault c.requires.mask c.in_err-here.ensures.err)

pub decode_marked-requires-clause-marks : goal.decode_marked-requires-clause-marks
decode_marked-requires-clause-marks c = marks_bits c.args.mask.now c.args.body.now c.read_presence.new.into c.args.at c.in_ok-here.here c.in_ok-here.ensures.ok

pub returns-in_err-entries-clause-err : goal.returns-in_err-entries-clause-err
returns-in_err-entries-clause-err c =
    let spec = spec_tree c.args.spec.now in
    let e = c.in_err-entries.field-0.0 in
    err_is (kind_read (record_kind spec) c.args.body.now c.args.at) c.args.at c.from_residual-in_err-entries.result e c.from_residual-in_err-entries.ensures.1
    (compound_failed (record_slot_list spec) c.args.mask.now c.args.body.now c.read_presence.new.into c.args.at c.in_ok-here.here e c.requires.mask c.in_ok-here.ensures.ok c.in_err-entries.ensures.err)

pub returns-clause-ok : goal.returns-clause-ok
returns-clause-ok c =
    compound_gets (record_slot_list (spec_tree c.args.spec.now)) c.args.mask.now c.args.body.now c.read_presence.new.into c.args.at c.in_ok-here.here c.in_ok-entries.end (entries_tree c.in_ok-entries.entries) c.requires.mask c.in_ok-here.ensures.ok c.in_ok-entries.ensures.ok
