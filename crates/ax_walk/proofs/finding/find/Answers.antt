use Rattle.std.proofs.Common.{◌≤◌, subst, ◌∙◌}
use Rattle.std.proofs.lemmas.List.{length-map}
use Rattle.ax_format.specs.Presence.{octets_needed}
use Rattle.ax_codec.specs.Meaning.{meanings, linked_slot}
use Rattle.ax_walk.proofs.finding.find.Goals as goal

pub find_early-requires-clause-few : goal.find_early-requires-clause-few
find_early-requires-clause-few c = subst (λ n. c.in-Some.at ≤ octets_needed n) (c.requires.mask.count ∙ length-map c.args.slots.now (linked_slot (meanings c.args.codec.now.nodes))) c.in-Some.ensures.few
