use Rattle.std.proofs.Common.{rules}
use Rattle.ax_expressions.proofs.Decimals.{no_parse, other_text}
use Rattle.ax_expressions.proofs.numbers.decimal_of.Goals as goal

pub returns-in_default-parse : goal.returns-in_default-parse
returns-in_default-parse c = no_parse c.args.text.now c.in-Ok.written.now _ c.parse.result (search rules) c.in_default-parse.is c.parse.ensures.value.0

pub returns-then-not-is_text_of : goal.returns-then-not-is_text_of
returns-then-not-is_text_of c = other_text c.args.text.now c.in-Ok.written.now c.in-Ok-parse.number c.parse.result (search rules) c.in-Ok-parse.is c.parse.ensures.value.0 (search rules)
