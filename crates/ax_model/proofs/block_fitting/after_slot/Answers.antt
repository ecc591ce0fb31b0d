use Rattle.std.proofs.Common.{sym, ◌∙◌}
use Rattle.ax_format.proofs.RecordFitting.{no_entry, other_entry, no_item, here_found, here_refused}
use Rattle.ax_model.proofs.block_fitting.after_slot.Goals as goal

pub returns-in_default : goal.returns-in_default
returns-in_default c = λ ss. no_entry c.args.number _ c.args.entries.now ss c.in_default.ensures.cases

pub returns-then-from-number : goal.returns-then-from-number
returns-then-from-number c = λ ss. other_entry c.args.number _ c.in-Some.entry.now c.args.entries.now c.in-Some.later.now ss c.in-Some.ensures.cases.0 (λ e. c.if-from-number.true (c.from.ensures ∙ e))

pub returns-in-None : goal.returns-in-None
returns-in-None c = λ ss. no_item c.args.spec.now.items c.args.slot.now c.args.number c.args.entries.now ss (sym c.in-None.ensures)

pub returns-then-fits_kind : goal.returns-then-fits_kind
returns-then-fits_kind c = λ ss.
    here_found c.args.spec.now.items c.args.slot.now c.in-Some-item_of.item.now c.args.number c.in-Some.entry.now c.args.entries.now c.in-Some.later.now ss
    c.in-Some.ensures.cases.0 (sym c.in-Some-item_of.ensures) (sym c.from.ensures ∙ c.if-from-number.false) (sym c.if-fits_kind.ensures)

pub returns-else-fits_kind : goal.returns-else-fits_kind
returns-else-fits_kind c = λ ss.
    here_refused c.args.spec.now.items c.args.slot.now c.in-Some-item_of.item.now c.args.number c.in-Some.entry.now c.args.entries.now c.in-Some.later.now ss
    c.in-Some.ensures.cases.0 (sym c.in-Some-item_of.ensures) (sym c.from.ensures ∙ c.if-from-number.false) (sym c.if-fits_kind.ensures)
