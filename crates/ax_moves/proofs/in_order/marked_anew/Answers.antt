use Rattle.std.proofs.Common.{List, ℕ, Option, IfSome, ap, subst, ◌∙◌}
use Rattle.ax_fspec.specs.Marks.{AreMarks, common_marks}
use Rattle.ax_moves.proofs.KeptSlots.{kept_marks}
use Rattle.ax_moves.specs.BySlot.{KeepSlots}
use Rattle.ax_moves.specs.Wholes.{whole_entries}
use Rattle.ax_moves.proofs.in_order.marked_anew.Goals as goal

pub returns-in-Some : goal.returns-in-Some
returns-in-Some c =
    let w = c.args.whole.now in
    let keeps = subst (λ (o : Option (List ℕ)). IfSome o (KeepSlots c.args.moves.now)) c.in-Some.is c.requires.known.kept in
    c.common.ensures.common ∙ ap (λ m. common_marks m c.in-Some.kept) c.marked.ensures
    ∙ kept_marks c.args.moves.now (whole_entries w) w.places.now.marked c.in-Some.kept keeps (subst AreMarks c.marked.ensures c.common.ensures.sets.0) c.common.ensures.sets.1 (λ s one. (_, c.requires.placed.placed.values s one))
