use Rattle.std.proofs.Common.{◌∙◌, ap, rules, sym}
use Rattle.ax_format.specs.Plain.{spec_tree}
use Rattle.ax_rescale.specs.Converts.{converting_slots}
use Rattle.ax_convert_work.proofs.choosing.ConvertBlocks.new.Goals as goal

pub returns-clause-sound : goal.returns-clause-sound
returns-clause-sound c =
    let of_old = ap spec_tree c.spec.ensures.spec ∙ sym c.requires.old in
    let of_new = ap spec_tree c.spec-2.ensures.spec ∙ sym c.requires.new in
    (c.in_ok-slots.ensures ∙ (λ i. converting_slots (of_old i) (of_new i)), tt, c.in_ok-views.ensures.command, c.in_ok-trees.ensures.sound, search rules)
