-- The placed paths are the named paths, each with its place.
use Rattle.std.proofs.Common.{◌≡◌, List, [], ◌∷◌, Some, option_map, ap}
use Rattle.std.specs.List.{AllByRecursion}
use Rattle.ax_relation.proofs.DistinctNames.{record_distinct}
use Rattle.ax_relation.proofs.PlacedPaths.{StandsNamed, all_named}
use Rattle.ax_format.specs.Flaws.{NoFlaw}
use Rattle.ax_format.specs.Placed.{Placed, place_from, named_place, placed_paths}
use Rattle.ax_format.specs.Specification.{SpecTree, record_kind}

has_place : (spec : SpecTree) (ps : List Placed) → AllByRecursion (StandsNamed (record_kind spec)) ps → AllByRecursion (λ p. named_place spec p.names ≡ Some (place_from p.numbers)) ps
has_place spec [] h = tt
has_place spec (p ∷ ps) h = (ap (option_map place_from) h.0.stands.steps, has_place spec ps h.1)

pub each_has_its_place : (spec : SpecTree) → NoFlaw spec → AllByRecursion (λ p. named_place spec p.names ≡ Some (place_from p.numbers)) (placed_paths spec)
each_has_its_place spec h = has_place spec (placed_paths spec) (all_named spec (record_distinct spec h))
