use Rattle.ax_tokens.proofs.Places.{text_at}
use Rattle.ax_tokens.proofs.token.Tokens.get.Goals as goal

pub returns-clause-text : goal.returns-clause-text
returns-clause-text c =
    let found = c.get.ensures.lookup in text_at c.deref.result.now c.self.inside.found.items c.args.index c.get.result c.deref.ensures.value found.0 found.1 c.self.invariant.1
