use Rattle.std.proofs.Common.{rules}
use Rattle.ax_words.proofs.Numbers.{no_parse, other_text}
use Rattle.ax_words.proofs.number.seed_of.Goals as goal

pub returns-in_default : goal.returns-in_default
returns-in_default c = no_parse c.args.word.now _ c.parse.result c.in_default.is c.parse.ensures.value.0

pub returns-then-not-is_text_of : goal.returns-then-not-is_text_of
returns-then-not-is_text_of c = other_text c.args.word.now c.in-Ok.number c.parse.result c.in-Ok.is c.parse.ensures.value.0 (search rules)
