use Rattle.std.proofs.Common.{ap, ◌∙◌, sym, arith}
use Rattle.ax_format.specs.Plain.{spec_tree}
use Rattle.ax_grammar.specs.Rules.{whole_at}
use Rattle.ax_grammar.proofs.BadTokens.{stops_within, stops_none, names_bad, read_spells, read_is}
use Rattle.ax_grammar.proofs.reading.read_spec.Goals as goal

pub overflow_sub-result : goal.overflow_sub-result
overflow_sub-result c =
    let stopped = ap whole_at (sym c.new-reader.ensures) ∙ (rw c.in-Err-Bad.field-0-is at c.in-Err-Bad.ensures) in
    omega (arith, stops_within c.args.tokens.now c.whole.new.reader stopped, c.count.ensures.count, c.count-in-Err-Bad.ensures)

pub returns-in-Ok-clause-spells : goal.returns-in-Ok-clause-spells
returns-in-Ok-clause-spells c = read_spells c.args.tokens.now (spec_tree c.in-Ok.spec) c.whole.new.reader (ap whole_at (sym c.new-reader.ensures) ∙ c.in-Ok.ensures)

pub returns-in-Ok-clause-always_spells : goal.returns-in-Ok-clause-always_spells
returns-in-Ok-clause-always_spells c = λ spec s. read_is c.args.tokens.now (spec_tree c.in-Ok.spec) spec c.whole.new.reader (ap whole_at (sym c.new-reader.ensures) ∙ c.in-Ok.ensures) s

pub returns-in-Ok-clause-always_bad : goal.returns-in-Ok-clause-always_bad
returns-in-Ok-clause-always_bad c = λ none. none (spec_tree c.in-Ok.spec) (read_spells c.args.tokens.now (spec_tree c.in-Ok.spec) c.whole.new.reader (ap whole_at (sym c.new-reader.ensures) ∙ c.in-Ok.ensures))

pub returns-in-Err-Bad-clause-bad : goal.returns-in-Err-Bad-clause-bad
returns-in-Err-Bad-clause-bad c =
    rw (c.count.ensures.count, c.count-in-Err-Bad.ensures) (names_bad c.args.tokens.now c.whole.new.reader (ap whole_at (sym c.new-reader.ensures) ∙ (rw c.in-Err-Bad.field-0-is at c.in-Err-Bad.ensures)))

pub returns-in-Err-Bad-clause-always_spells : goal.returns-in-Err-Bad-clause-always_spells
returns-in-Err-Bad-clause-always_spells c = λ spec s. absurd (stops_none c.args.tokens.now c.whole.new.reader (ap whole_at (sym c.new-reader.ensures) ∙ (rw c.in-Err-Bad.field-0-is at c.in-Err-Bad.ensures)) spec s)
