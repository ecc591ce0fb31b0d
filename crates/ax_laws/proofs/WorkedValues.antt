-- The worked values, converted number by number.
use Rattle.std.proofs.Common.{[], ◌∷◌, refl, arith}
use Rattle.std.specs.Prelude.{codes}
use Rattle.ax_format.specs.Tree.{by_fx, fixed, number, member_values, occurrences, marked, values_of, no_entries, entry_and}
use Rattle.ax_laws.specs.AlikeExamples.{pieces, pair, subitems, many}
use Rattle.ax_rescale.specs.Converted.{Converted}

pub group_converted : Converted (pair 8 (pieces 16 128 (codes "s"))) (pair 8 (pieces 24 256 (codes "s"))) (member_values (values_of (number 256 ∷ number 9 ∷ number 3 ∷ []))) (member_values (values_of (number 512 ∷ number 9 ∷ number 6 ∷ [])))
group_converted = (record { fits = omega arith; same = refl }, (refl, (record { fits = omega arith; same = refl }, tt)))

pub each_converted : Converted (by_fx (pieces 7 1 (codes "s"))) (by_fx (pieces 15 2 (codes "s"))) (occurrences (values_of (number 1 ∷ number 100 ∷ []))) (occurrences (values_of (number 2 ∷ number 200 ∷ [])))
each_converted = (record { fits = omega arith; same = refl }, (record { fits = omega arith; same = refl }, tt))

pub below_converted : Converted (many (subitems (fixed (pieces 16 4 (codes "s"))))) (many (subitems (fixed (pieces 24 8 (codes "s"))))) (occurrences (values_of (marked (entry_and 1 (number 5) no_entries) ∷ marked no_entries ∷ []))) (occurrences (values_of (marked (entry_and 1 (number 10) no_entries) ∷ marked no_entries ∷ [])))
below_converted = ((refl, (record { fits = omega arith; same = refl }, tt)), (tt, tt))

pub ruleset values_worked = (group_converted, each_converted, below_converted)
