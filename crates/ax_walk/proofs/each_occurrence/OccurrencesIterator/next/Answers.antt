use Rattle.ax_walk.proofs.ItemPieces.{later_occurrences, some_is}
use Rattle.ax_walk.proofs.each_occurrence.OccurrencesIterator.next.Goals as goal

pub invariant_of-self : goal.invariant_of-self
invariant_of-self c = record { occurrences = later_occurrences c.args.self.now.codec.now c.args.self.now.link c.args.self.now.by_fx c.args.self.now.count c.args.self.now.left.now c.args.self.now.occurrences c.if-self-eq0.false c.in-Some.size (some_is c.in-Some.size _ c.in-Some.ensures) c.octets_from.result.now c.octets_from.ensures }
