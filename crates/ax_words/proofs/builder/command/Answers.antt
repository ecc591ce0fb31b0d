use Rattle.std.proofs.Common.{◌∙◌, ap, sym, get_or}
use Rattle.std.proofs.lemmas.List.Sums.{fold_more}
use Rattle.ax_words.specs.Commands.{bare, with_verb}
use Rattle.ax_words.specs.Verbs.{verbs}
use Rattle.ax_words.specs.declared.line.Verb.TheVariants.{Check}
use Rattle.ax_words.proofs.builder.command.Goals as goal

pub loop-verb-preserved : goal.loop-verb-preserved
loop-verb-preserved c =
    let verb = get_or verbs c.loop-verb.verb-index Check in
    c.in_ok-command.ensures ∙ ap (λ app. with_verb app verb) c.loop-verb.invariant ∙ sym (fold_more with_verb bare verbs c.loop-verb.verb-index Check c.loop-verb-test.true)
