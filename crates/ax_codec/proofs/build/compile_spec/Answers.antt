use Rattle.std.proofs.Common.{◌≡◌, map, refl, arith}
use Rattle.ax_fspec.proofs.RecordSlots.{frn_count, uap_bounds}
use Rattle.ax_format.specs.Plain.{spec_tree}
use Rattle.ax_codec.proofs.Compiling.{record_bounds_at, slots_count}
use Rattle.ax_codec.specs.Bare.{bare_slot}
use Rattle.ax_codec.specs.Meaning.{meanings, linked_slots}
use Rattle.ax_fspec.specs.Reading.{record_slot_list}
use Rattle.ax_codec.proofs.build.compile_spec.Goals as goal

pub invariant_of-result : goal.invariant_of-result
invariant_of-result c =
    let spec = spec_tree c.args.spec.now in
    let slots : linked_slots (meanings c.add_record.new.nodes) c.in_ok-slots.slots ≡ map bare_slot (record_slot_list spec) = c.in_ok-slots.ensures.means in
    record {
      table = c.in_ok-slots.ensures.grows.table;
      records = record {
        within = c.in_ok-slots.ensures.within;
        mask = c.mask_of-mask.ensures (meanings c.add_record.new.nodes);
        bounds = record_bounds_at spec c.add_record.new.nodes c.in_ok-slots.slots c.requires.flawless slots;
      };
      stands = ∣ (spec, c.requires.flawless, record { category = refl; slots = slots }) ∣₁;
    }

pub mask_of-mask-requires : goal.mask_of-mask-requires
mask_of-mask-requires c =
    let spec = c.args.spec.now in
    let n = slots_count c.new-nodes.result c.add_record.new.nodes c.in_ok-slots.slots (record_slot_list (spec_tree spec)) c.in_ok-slots.ensures in
    let b = uap_bounds spec c.requires.flawless in
    (omega (arith, n, frn_count spec, b.0), omega (arith, n, frn_count spec, b.1))
