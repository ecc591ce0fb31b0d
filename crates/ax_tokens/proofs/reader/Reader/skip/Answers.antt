use Rattle.std.proofs.Common.{sym, ◌∙◌, ap, drop}
use Rattle.std.proofs.lemmas.List.{drop-drop}
use Rattle.ax_tokens.specs.Stopping.{texts_of}
use Rattle.ax_tokens.proofs.reader.Reader.skip.Goals as goal

pub returns : goal.returns
returns c = sym (drop-drop 1 c.self.inside.at (texts_of c.self.inside.tokens.now)) ∙ ap (drop 1) c.self.view_is
