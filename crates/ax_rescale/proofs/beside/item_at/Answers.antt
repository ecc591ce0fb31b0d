use Rattle.ax_rescale.proofs.BesideSteps.{no_item_at, item_at, spare_item_at}
use Rattle.ax_rescale.proofs.beside.item_at.Goals as goal

pub returns-in_err-item : goal.returns-in_err-item
returns-in_err-item c = no_item_at c.args.frn c.args.items.now c.get.result c.from_residual.result c.if-frn-eq0.false c.in_err-item.was c.get.ensures.value c.from_residual.ensures

pub returns-in-Some : goal.returns-in-Some
returns-in-Some c = item_at c.args.frn c.args.items.now c.get.result c.in_ok-item.field-0 c.in-Some.item c.if-frn-eq0.false c.in_ok-item.was c.get.ensures.value c.in-Some.is

pub returns-in-None : goal.returns-in-None
returns-in-None c = spare_item_at c.args.frn c.args.items.now c.get.result c.in_ok-item.field-0 c.if-frn-eq0.false c.in_ok-item.was c.get.ensures.value c.in-None.is
