use Rattle.std.proofs.Common.{rules, arith, Ok}
use Rattle.ax_tokens.specs.PlainToken.{plain_tokens}
use Rattle.ax_tokens.proofs.Once.{always_tokens, always_bad_byte, always_too_deep}
use Rattle.ax_tokens.proofs.Slices.{slices, texts}
use Rattle.ax_tokens.proofs.lexing.tokens.Goals as goal

pub returns-in_err-found-clause-always_tokens : goal.returns-in_err-found-clause-always_tokens
returns-in_err-found-clause-always_tokens c = always_tokens c.args.text.now c.args.depth c.from_residual.result (search rules) (search rules)

pub returns-in_err-found-clause-always_bad_byte : goal.returns-in_err-found-clause-always_bad_byte
returns-in_err-found-clause-always_bad_byte c = always_bad_byte c.args.text.now c.args.depth c.from_residual.result (search rules) (search rules)

pub returns-in_err-found-clause-always_too_deep : goal.returns-in_err-found-clause-always_too_deep
returns-in_err-found-clause-always_too_deep c = always_too_deep c.args.text.now c.args.depth c.from_residual.result (search rules) (search rules)

pub returns-clause-slices : goal.returns-clause-slices
returns-clause-slices c = slices c.args.text.now c.args.depth (plain_tokens c.in_ok-found.found.items) c.in_ok-found.ensures.tokens

pub returns-clause-always_tokens : goal.returns-clause-always_tokens
returns-clause-always_tokens c = always_tokens c.args.text.now c.args.depth (Ok (plain_tokens c.in_ok-found.found.items)) c.in_ok-found.ensures.tokens tt

pub returns-clause-always_bad_byte : goal.returns-clause-always_bad_byte
returns-clause-always_bad_byte c = always_bad_byte c.args.text.now c.args.depth (Ok (plain_tokens c.in_ok-found.found.items)) c.in_ok-found.ensures.tokens tt

pub returns-clause-always_too_deep : goal.returns-clause-always_too_deep
returns-clause-always_too_deep c = always_too_deep c.args.text.now c.args.depth (Ok (plain_tokens c.in_ok-found.found.items)) c.in_ok-found.ensures.tokens tt

pub invariant_of-result : goal.invariant_of-result
invariant_of-result c = (omega (arith, c.in_ok-found.ensures.few), texts c.args.text.now c.args.depth (plain_tokens c.in_ok-found.found.items) c.in_ok-found.ensures.tokens)
