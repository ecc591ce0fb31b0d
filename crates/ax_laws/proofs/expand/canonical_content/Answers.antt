use Rattle.ax_expand.proofs.Canonical.{content_spells, content_shortest, content_apart}
use Rattle.ax_laws.proofs.expand.canonical_content.Goals as goal

pub returns-clause-spells : goal.returns-clause-spells
returns-clause-spells c = content_spells

pub returns-clause-least : goal.returns-clause-least
returns-clause-least c = content_shortest

pub returns-clause-apart : goal.returns-clause-apart
returns-clause-apart c = content_apart
