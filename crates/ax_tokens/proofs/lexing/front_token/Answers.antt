use Rattle.std.proofs.Common.{sym, ◌∙◌, arith}
use Rattle.ax_tokens.proofs.Fronts.{word_front, nothing_front}
use Rattle.ax_tokens.proofs.lexing.front_token.Goals as goal

pub returns-in_default-clause-token : goal.returns-in_default-clause-token
returns-in_default-clause-token c =
    word_front c.args.octets.now c.word_length.result c.requires.some (sym c.is_word_octet.ensures ∙ c.if-is_word_octet.true) c.word_length.ensures

pub returns-in_default-2-clause-stops : goal.returns-in_default-2-clause-stops
returns-in_default-2-clause-stops c =
    nothing_front c.args.octets.now c.requires.some c.requires.no_gap (omega arith) (omega arith) (omega arith) (sym c.is_word_octet.ensures ∙ c.if-is_word_octet.false)
