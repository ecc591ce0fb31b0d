use Rattle.ax_walk.proofs.ItemPieces.{counter_there, counted_made, counted_shown}
use Rattle.ax_codec.specs.Table.{kind_at}
use Rattle.ax_walk.proofs.occurrences.Occurrences.counted.Goals as goal

pub returns-in_default : goal.returns-in_default
returns-in_default c = absurd (counter_there c.args.size (kind_at c.args.codec.now.nodes c.args.inner) c.args.body.now c.requires.one c.in_default.ensures.short)

pub invariant_of-result : goal.invariant_of-result
invariant_of-result c = record { occurrences = counted_made c.args.codec.now c.args.size c.args.inner c.args.body.now c.in-Some.count c.octets.result c.octets_from.result.now c.requires.bounds c.requires.one c.in-Some.ensures.count c.octets.ensures c.octets_from.ensures c.requires.link }

pub returns : goal.returns
returns c = counted_shown c.args.codec.now c.args.size c.args.inner c.args.body.now c.in-Some.count c.octets.result c.octets_from.result.now c.requires.bounds c.requires.one c.in-Some.ensures.count c.octets.ensures c.octets_from.ensures
