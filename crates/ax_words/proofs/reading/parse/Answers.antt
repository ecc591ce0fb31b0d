use Rattle.std.proofs.Common.{sym, ◌∙◌}
use Rattle.std.specs.String.{string_bytes}
use Rattle.ax_words.proofs.Answers.{answers_line, answers_err, never_unnamed, few_texts, kind_is, found_few, found_in}
use Rattle.ax_words.proofs.Program.{parsed}
use Rattle.ax_words.proofs.reading.parse.Goals as goal

pub line_of-requires : goal.line_of-requires
line_of-requires c =
    let few = few_texts string_bytes c.args.words.now c.requires.few in
    let found = found_in _ _ c.in-Ok.matches _ _ few c.requires.plain c.in_ok-command.ensures c.in-Ok.ensures.kinds c.in-Ok.ensures.matches c.in-Some.ensures.name c.in-Some.ensures.rows in
    found_few _ _ _ found

pub returns-in-Some-verb_named : goal.returns-in-Some-verb_named
returns-in-Some-verb_named c =
    let few = few_texts string_bytes c.args.words.now c.requires.few in
    let found = found_in _ _ c.in-Ok.matches _ _ few c.requires.plain c.in_ok-command.ensures c.in-Ok.ensures.kinds c.in-Ok.ensures.matches c.in-Some.ensures.name c.in-Some.ensures.rows in
    answers_line _ _ _ c.in-Some-verb_named.verb c.line_of.result found (sym c.verb_named.ensures ∙ c.in-Some-verb_named.is) c.line_of.ensures

pub returns-in-Some : goal.returns-in-Some
returns-in-Some c =
    let few = few_texts string_bytes c.args.words.now c.requires.few in
    let found = found_in _ _ c.in-Ok.matches _ _ few c.requires.plain c.in_ok-command.ensures c.in-Ok.ensures.kinds c.in-Ok.ensures.matches c.in-Some.ensures.name c.in-Some.ensures.rows in
    absurd (never_unnamed _ _ _ found (sym c.verb_named.ensures ∙ c.in-None-verb_named.is))

pub returns : goal.returns
returns c =
    let few = few_texts string_bytes c.args.words.now c.requires.few in
    answers_err _ c.in-Err.error (parsed _ c.requires.plain few) (kind_is _ _ c.in-Err.error c.in_ok-command.ensures c.in-Err.ensures.kinds) (λ e. c.in_default.not-OutOfMemory (c.kind.ensures ∙ e))
