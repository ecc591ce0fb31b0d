-- Where the number stands that a test compares.
use Rattle.std.specs.Prelude.{Option, None, option_map, IfSome}
use Rattle.ax_format.specs.declared.place.Place.{Place}
use Rattle.ax_codec.specs.declared.codec.Codec.{Codec}
use Rattle.ax_expressions.specs.Tests.{TestTree, all_tests, any_test, not_test, at_place, at_element}
use Rattle.ax_walk.specs.FixedSpots.{IsFixedSpot}
use Rattle.ax_walk.specs.declared.fixed_spot.FixedSpot.{FixedSpot}

-- the place of the number that a test compares; none of another test
abbrev pub compared_place : TestTree → Option Place
compared_place (all_tests ts) = None
compared_place (any_test ts) = None
compared_place (not_test t) = None
compared_place (at_place category place) = None
compared_place (at_element category e op number) = option_map (λ e. e.place) e

abbrev pub IsSpotOf : TestTree → Codec → FixedSpot → Type 0
IsSpotOf t codec spot = IfSome (compared_place t) (λ place. IsFixedSpot codec place spot)
