use Rattle.std.proofs.Common.{sym, arith, rules}
use Rattle.ax_grammar.proofs.SingleTokens.{other_token, long_token, short_token}
use Rattle.ax_grammar.proofs.octets.content.Goals as goal

pub returns-then-ne-clause-content : goal.returns-then-ne-clause-content
returns-then-ne-clause-content c = sym (other_token c.args.token.now.kind c.args.token.now.text.now c.requires (search rules))

pub returns-then-content-ge4294967296-clause-content : goal.returns-then-content-ge4294967296-clause-content
returns-then-content-ge4294967296-clause-content c =
    sym (long_token c.args.token.now.kind c.args.token.now.text.now c.requires (search rules) (omega arith))

pub returns-clause-content : goal.returns-clause-content
returns-clause-content c = (short_token c.args.token.now.kind c.args.token.now.text.now c.requires (search rules) (omega arith)).0

pub returns-clause-text : goal.returns-clause-text
returns-clause-text c = (short_token c.args.token.now.kind c.args.token.now.text.now c.requires (search rules) (omega arith)).1
