use Rattle.std.proofs.Common.{length, arith}
use Rattle.ax_grammar.proofs.SingleTokens.{bound_most}
use Rattle.ax_grammar.proofs.octets.number.Goals as goal

pub returns-clause-bound : goal.returns-clause-bound
returns-clause-bound c = bound_most c.value.result (length c.args.text.now) c.args.most c.value.ensures.bound (omega arith)
