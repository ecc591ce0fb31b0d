use Rattle.ax_relation.proofs.PresentPaths.{present_at_place}
use Rattle.ax_laws.proofs.editions.keys_are_present_at_their_places.Goals as goal

pub returns : goal.returns
returns c = present_at_place
