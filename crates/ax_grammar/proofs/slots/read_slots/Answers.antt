use Rattle.std.proofs.Common.{rules}
use Rattle.ax_grammar.proofs.SlotTokens.{is_bad, ok_spells, ok_is, bad_named, bad_none}
use Rattle.ax_grammar.proofs.slots.read_slots.Goals as goal

pub returns-in-Ok-clause-spells : goal.returns-in-Ok-clause-spells
returns-in-Ok-clause-spells c =
    ok_spells c.args.tokens.now c.args.at c.from-reader.result c.closed_slots.new.self c.from-reader.ensures c.in-Ok.slots c.passed.result c.requires c.in-Ok.ensures c.passed.ensures

pub returns-in-Ok-clause-always_spells : goal.returns-in-Ok-clause-always_spells
returns-in-Ok-clause-always_spells c = λ slots close s.
    ok_is c.args.tokens.now c.args.at c.from-reader.result c.closed_slots.new.self c.from-reader.ensures c.in-Ok.slots c.passed.result slots close c.requires c.in-Ok.ensures c.passed.ensures s

pub returns-in-Err-Bad-clause-bad : goal.returns-in-Err-Bad-clause-bad
returns-in-Err-Bad-clause-bad c =
    bad_named c.args.tokens.now c.args.at c.from-reader.result c.closed_slots.new.self c.from-reader.ensures c.passed-in-Err-Bad.result c.requires (is_bad c.in-Err-Bad.field-0 _ _ (search rules) c.in-Err-Bad.ensures) c.passed-in-Err-Bad.ensures

pub returns-in-Err-Bad-clause-always_spells : goal.returns-in-Err-Bad-clause-always_spells
returns-in-Err-Bad-clause-always_spells c = λ slots close s.
    absurd (bad_none c.args.tokens.now c.args.at c.from-reader.result c.closed_slots.new.self c.from-reader.ensures slots close (is_bad c.in-Err-Bad.field-0 _ _ (search rules) c.in-Err-Bad.ensures) s)
