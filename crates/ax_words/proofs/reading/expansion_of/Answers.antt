use Rattle.std.proofs.Common.{Some, sym, ◌∙◌, ap}
use Rattle.ax_words.proofs.Lines.{expansion_there}
use Rattle.ax_words.proofs.reading.expansion_of.Goals as goal

pub returns : goal.returns
returns c = expansion_there _ _ _ (c.in_ok-spec.ensures ∙ ap Some (sym c.in_ok-spec-2.ensures)) (c.in_ok-expansion.ensures ∙ ap Some (sym c.in_ok-expansion-2.ensures))
