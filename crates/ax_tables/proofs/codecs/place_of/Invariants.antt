use Rattle.std.proofs.Common.{◌≡◌, ◌+◌, drop}
use Rattle.ax_tables.specs.Places.{place_from}
use Rattle.ax_tables.proofs.codecs.place_of.Given as goal

abbrev pub invariant-loop-index : goal.invariant-loop-index
invariant-loop-index l = place_from (l.index + 1) l.category (drop l.index l.codecs) ≡ place_from 1 l.category l.codecs
