use Rattle.std.proofs.Common.{refl}
use Rattle.ax_fspec.proofs.FieldsWritten.{nothing_written, room_for_one, written_more, written_all}
use Rattle.ax_fspec.proofs.writing.write_presence.Goals as goal

pub push_octet-requires : goal.push_octet-requires
push_octet-requires c = room_for_one c.args.out.now c.loop-out.out c.args.marked.now c.loop-out.octet c.loop-out.invariant c.requires

pub loop-out-preserved : goal.loop-out-preserved
loop-out-preserved c =
    written_more c.args.out.now c.loop-out.out c.push_octet.new.self c.args.marked.now c.loop-out.octet c.octet.result c.loop-out.invariant (c.loop-out-test.ensures.within refl) c.octet.ensures.fits c.octet.ensures.marks
    c.loop-out-test.ensures.marked c.push_octet.ensures

pub push_octet-requires-2 : goal.push_octet-requires-2
push_octet-requires-2 c = room_for_one c.args.out.now c.loop-out.out c.args.marked.now c.loop-out.octet c.loop-out.invariant c.requires

pub returns : goal.returns
returns c =
    written_all c.args.out.now c.loop-out.out c.push_octet-2.new.self c.args.marked.now c.loop-out.octet c.octet-2.result c.loop-out.invariant c.octet-2.ensures.fits c.octet-2.ensures.marks
    c.loop-out-test.ensures.marked c.push_octet-2.ensures

pub loop-out-init : goal.loop-out-init
loop-out-init c = nothing_written c.args.out.now c.args.marked.now
