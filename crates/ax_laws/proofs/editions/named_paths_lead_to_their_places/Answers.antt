use Rattle.ax_laws.proofs.PathPlaces.{named_place_leads}
use Rattle.ax_laws.proofs.editions.named_paths_lead_to_their_places.Goals as goal

pub returns : goal.returns
returns c = named_place_leads
