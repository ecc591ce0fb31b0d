use Rattle.std.proofs.Common.{◌∙◌, ap}
use Rattle.ax_check.proofs.NameSets.{has_name}
use Rattle.ax_check.specs.Names.{listed}
use Rattle.ax_format.specs.Flaws.{is_among}
use Rattle.ax_check.proofs.names.has.Goals as goal

pub returns : goal.returns
returns c = c.contains.ensures ∙ has_name c.octets.result.now c.args.names.now.set.keys ∙ ap (λ n. is_among n (listed c.args.names.now.set)) c.octets.ensures.octets
