-- Where the line of an element stands in a listing.
use Rattle.std.specs.Prelude.{ℕ, List}
use Rattle.ax_format.specs.Paths.{at}
use Rattle.ax_text_form.specs.declared.lister.NamedPlace.{NamedPlace}

-- the element's name under the path
abbrev pub place_path : NamedPlace → List ℕ
place_path place = at place.path.now place.name.now
