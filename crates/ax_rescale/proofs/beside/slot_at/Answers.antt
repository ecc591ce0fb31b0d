use Rattle.ax_rescale.proofs.BesideSteps.{none_at, sub_at, spare_at}
use Rattle.ax_rescale.proofs.beside.slot_at.Goals as goal

pub returns-in_err-name : goal.returns-in_err-name
returns-in_err-name c = none_at c.args.number c.args.slots.now c.get.result c.from_residual.result c.if-number-eq0.false c.in_err-name.was c.get.ensures.value c.from_residual.ensures

pub returns-in-Sub : goal.returns-in-Sub
returns-in-Sub c = sub_at c.args.number c.args.slots.now c.get.result c.in_ok-name.field-0 c.in-Sub.name c.in-Sub.kind c.if-number-eq0.false c.in_ok-name.was c.get.ensures.value c.in-Sub.is

pub returns-in-Spare : goal.returns-in-Spare
returns-in-Spare c = spare_at c.args.number c.args.slots.now c.get.result c.in_ok-name.field-0 c.if-number-eq0.false c.in_ok-name.was c.get.ensures.value c.in-Spare.is
