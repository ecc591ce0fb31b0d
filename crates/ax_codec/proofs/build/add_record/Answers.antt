use Rattle.std.proofs.Common.{map, sym, subst}
use Rattle.ax_format.specs.Plain.{spec_tree}
use Rattle.ax_fspec.specs.Reading.{record_slot_list}
use Rattle.ax_codec.specs.Bare.{bare_slot}
use Rattle.ax_codec.specs.Making.{SlotsAreMade}
use Rattle.ax_codec.proofs.build.add_record.Goals as goal

pub returns : goal.returns
returns c = subst (λ ns. SlotsAreMade c.args.nodes.now ns c.in_ok-links.links (map bare_slot (record_slot_list (spec_tree c.args.spec.now)))) (sym c.make_rows.ensures) c.in_ok-links.ensures
