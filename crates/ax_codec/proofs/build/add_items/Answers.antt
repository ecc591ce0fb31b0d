use Rattle.std.proofs.Common.{◌≡◌, ◌+◌, ◌<◌, List, ℕ, ◌∷◌, [], length, map, take, arith, refl, subst, sym, ap, ◌∙◌, length-append}
use Rattle.ax_format.specs.Plain.{spec_tree}
use Rattle.ax_format.specs.Tree.{SlotTree}
use Rattle.ax_codec.proofs.Compiling.{slots_next}
use Rattle.ax_codec.specs.Bare.{bare_slot}
use Rattle.ax_codec.specs.Making.{SlotsAreMade}
use Rattle.ax_fspec.proofs.RecordSlots.{frn_at, frn_count, frn_bounds}
use Rattle.ax_fspec.specs.Reading.{record_slot_list, slot_of_frn}
use Rattle.ax_codec.proofs.build.add_items.Goals as goal

pub add_item-requires-clause-bounds : goal.add_item-requires-clause-bounds
add_item-requires-clause-bounds c = frn_bounds c.args.spec.now c.loop-index.index (c.loop-index.index + 1) c.requires.spec (omega (arith, c.loop-index-test.true, c.count-index-end.ensures)) refl

pub loop-index-preserved : goal.loop-index-preserved
loop-index-preserved c =
    let spec = c.args.spec.now in
    let slots : List SlotTree = record_slot_list (spec_tree spec) in
    let i : ℕ = c.loop-index.index in
    let size : length slots ≡ length spec.uap = frn_count spec in
    let within : i < length spec.uap = omega (arith, c.loop-index-test.true, c.count-index-end.ensures) in
    record {
      made = subst (λ links. SlotsAreMade c.args.nodes.now c.add_item.new.nodes links (map bare_slot (take (i + 1) slots))) (sym c.in_ok-push.ensures.ok)
          (slots_next c.args.nodes.now c.loop-index.nodes c.add_item.new.nodes c.loop-index.links i c.in_ok-link.link slots (slot_of_frn (i + 1) spec) (omega arith) (frn_at spec i (i + 1) within refl) c.loop-index.invariant.made c.in_ok-link.ensures);
      count = ap length c.in_ok-push.ensures.ok ∙ length-append c.loop-index.links (c.in_ok-link.link ∷ []) ∙ ap (λ n. n + 1) c.loop-index.invariant.count;
    }
