use Rattle.std.proofs.Common.{rules, ap, length, length-drop, arith}
use Rattle.std.proofs.lemmas.List.{length-map}
use Rattle.ax_tokens.specs.PlainToken.{plain_token}
use Rattle.ax_tokens.specs.Stopping.{texts_of}
use Rattle.ax_tokens.proofs.Words.{next_text}
use Rattle.ax_tokens.proofs.reader.Reader.peek.Goals as goal

pub returns-in-Some-clause-next : goal.returns-in-Some-clause-next
returns-in-Some-clause-next c = next_text c.self.inside.tokens.now c.self.inside.at c.args.self.now (plain_token c.in-Some.token.now) c.self.view_is (search rules)

pub returns-in-Some-clause-bound : goal.returns-in-Some-clause-bound
returns-in-Some-clause-bound c =
    let texts = texts_of c.self.inside.tokens.now in
    omega (arith, ap length c.self.view_is, length-drop c.self.inside.at texts, length-map c.self.inside.tokens.now (λ t. t.text), c.self.invariant.1, c.self.invariant.2)
