use Rattle.std.proofs.Common.{refl}
use Rattle.std.proofs.lemmas.Fn.{says_at}
use Rattle.ax_canon.proofs.keep.ByCallKeep.keeps.Goals as goal

pub returns-clause-says : goal.returns-clause-says
returns-clause-says g c = says_at g.F.Fn c.call.ensures refl
