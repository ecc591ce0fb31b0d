use denote.Param.Weighed.{at_most}
use Rattle.ax_format.proofs.kind.Slot.TheLaws.{the_size}
use Rattle.std.proofs.Common.{◌≡◌, ◌+◌, ◌<◌, ℕ, ◌∷◌, [], length, map, get_or, take, arith, subst, sym, ap, ◌∙◌, length-append}
use Rattle.std.proofs.lemmas.List.{length-map}
use Rattle.ax_format.proofs.Bounds.{count_of_slots}
use Rattle.ax_format.specs.InBounds.{InBounds}
use Rattle.ax_format.specs.Plain.{kind_tree, part_tree, slot_tree}
use Rattle.ax_format.specs.Tree.{extended, counted, by_fx, compound, slots_of, slot_count}
use Rattle.ax_codec.proofs.BareKinds.{bare_slots_of}
use Rattle.ax_codec.proofs.Compiling.{narrow_parts, ok_map, slots_next, slots_count}
use Rattle.ax_codec.proofs.Growing.{made_far, kind_back}
use Rattle.ax_codec.specs.Bare.{bare_kind, bare_slot}
use Rattle.ax_codec.specs.Making.{SlotsAreMade, of_kind}
use Rattle.ax_codec.specs.Meaning.{a_kind, fixed_of, kind_of, meanings}
use Rattle.ax_fspec.proofs.Marking.{map_at, slot_in_bounds}
use Rattle.ax_format.proofs.VariantTrees.{extended_tree, counted_tree, by_fx_tree, compound_tree}
use Rattle.ax_codec.proofs.build.+add_kind.Goals as goal

pub add_kind-mask_of-mask-requires : goal.add_kind-mask_of-mask-requires
add_kind-mask_of-mask-requires t c =
    let slots = map slot_tree c.in-Compound.slots in
    let b : InBounds (compound (slots_of slots)) = subst InBounds (ap kind_tree c.in-Compound.is ∙ compound_tree c.in-Compound.slots) c.requires.bounds in
    let n : length c.in_ok-links-in-Compound.links ≡ length slots = slots_count c.args.nodes.now c.add_slots.new.nodes c.in_ok-links-in-Compound.links slots c.in_ok-links-in-Compound.ensures in
    let m : slot_count (slots_of slots) ≡ length slots = count_of_slots slots in
    (omega (arith, b.0), omega (arith, b.1))

pub add_kind-add-requires-in-Compound-clause-node : goal.add_kind-add-requires-in-Compound-clause-node
add_kind-add-requires-in-Compound-clause-node t c = (c.in_ok-links-in-Compound.ensures.within, c.mask_of-mask.ensures (meanings c.add_slots.new.nodes))

pub add_kind-add_parts-requires-clause-widths : goal.add_kind-add_parts-requires-clause-widths
add_kind-add_parts-requires-clause-widths t c =
    let b : InBounds (extended c.in-Extended.last (map part_tree c.in-Extended.parts)) = subst InBounds (ap kind_tree c.in-Extended.is ∙ extended_tree c.in-Extended.last c.in-Extended.parts) c.requires.bounds in
    narrow_parts c.in-Extended.last (map part_tree c.in-Extended.parts) b.1

pub add_kind-returns-in_ok-links-in-Extended : goal.add_kind-returns-in_ok-links-in-Extended
add_kind-returns-in_ok-links-in-Extended t c =
    let made = c.in_ok-links-in-Extended.ensures in
    let ms = meanings c.add_parts.new.nodes in
    ok_map c.add.result c.add.ensures (λ link g.
    made_far c.args.nodes.now c.add_parts.new.nodes c.add.new.nodes link _ (of_kind (bare_kind (kind_tree c.args.kind.now))) made.grows g
    (ap (λ ps. a_kind (extended c.in-Extended.last ps)) made.means ∙ ap (λ k. of_kind (bare_kind k)) (sym (ap kind_tree c.in-Extended.is ∙ extended_tree c.in-Extended.last c.in-Extended.parts))))

pub add_kind-returns-in_ok-link-in-Counted : goal.add_kind-returns-in_ok-link-in-Counted
add_kind-returns-in_ok-link-in-Counted t c =
    let made = c.in_ok-link-in-Counted.ensures in
    let ms = meanings c.add_kind.new.nodes in
    ok_map c.add-in-Counted.result c.add-in-Counted.ensures (λ link g.
    made_far c.args.nodes.now c.add_kind.new.nodes c.add-in-Counted.new.nodes link _ (of_kind (bare_kind (kind_tree c.args.kind.now))) made.grows g
    (ap (λ m. a_kind (counted c.in-Counted.counter (kind_of m))) made.means ∙ ap (λ k. a_kind (counted c.in-Counted.counter k)) (kind_back (bare_kind (kind_tree c.deref.result.now))) ∙ ap (λ k. a_kind (counted c.in-Counted.counter (bare_kind (kind_tree k)))) c.deref.ensures ∙ ap (λ k. of_kind (bare_kind k)) (sym (ap kind_tree c.in-Counted.is ∙ counted_tree c.in-Counted.counter c.in-Counted.inner))))

pub add_kind-returns-in_ok-link-in-ByFx : goal.add_kind-returns-in_ok-link-in-ByFx
add_kind-returns-in_ok-link-in-ByFx t c =
    let made = c.in_ok-link-in-ByFx.ensures in
    let ms = meanings c.add_fixed-in-ByFx.new.nodes in
    ok_map c.add-in-ByFx.result c.add-in-ByFx.ensures (λ link g.
    made_far c.args.nodes.now c.add_fixed-in-ByFx.new.nodes c.add-in-ByFx.new.nodes link _ (of_kind (bare_kind (kind_tree c.args.kind.now))) made.grows g
    (ap (λ m. a_kind (by_fx (fixed_of m))) made.means ∙ ap (λ k. of_kind (bare_kind k)) (sym (ap kind_tree c.in-ByFx.is ∙ by_fx_tree c.in-ByFx.fixed))))

pub add_kind-returns-in_ok-links-in-Compound : goal.add_kind-returns-in_ok-links-in-Compound
add_kind-returns-in_ok-links-in-Compound t c =
    let made = c.in_ok-links-in-Compound.ensures in
    let ms = meanings c.add_slots.new.nodes in
    ok_map c.add-in-Compound.result c.add-in-Compound.ensures (λ link g.
    made_far c.args.nodes.now c.add_slots.new.nodes c.add-in-Compound.new.nodes link _ (of_kind (bare_kind (kind_tree c.args.kind.now))) made.grows g
    (ap (λ ss. a_kind (compound (slots_of ss))) made.means ∙ ap (λ ss. a_kind (compound ss)) (bare_slots_of (map slot_tree c.in-Compound.slots)) ∙ ap (λ k. of_kind (bare_kind k)) (sym (ap kind_tree c.in-Compound.is ∙ compound_tree c.in-Compound.slots))))

pub add_slots-add_slot-requires : goal.add_slots-add_slot-requires
add_slots-add_slot-requires t c =
    let all = c.args.slots.now in
    let i : ℕ = c.loop-slot.slot-index in
    let s = c.slot-item.result in
    let same = c.as_slice-slot-items.ensures.members in
    let within : i < length all = subst (λ xs. i < length xs) same c.loop-slot-test.true in
    let is : s ≡ get_or all i s = subst (λ xs. s ≡ get_or xs i s) same c.slot-item.is in
    let small = at_most the_size all i s within in
    let same_size : the_size s ≡ the_size (get_or all i s) = ap the_size is in
    (omega (arith, small, same_size, c.decreases), (c.loop-slot.invariant.made.grows.table, slot_in_bounds all i s c.requires.bounds within is))

pub add_slots-loop-slot-preserved : goal.add_slots-loop-slot-preserved
add_slots-loop-slot-preserved t c =
    let all = c.args.slots.now in
    let i : ℕ = c.loop-slot.slot-index in
    let s = c.slot-item.result in
    let same = c.as_slice-slot-items.ensures.members in
    let within : i < length all = subst (λ xs. i < length xs) same c.loop-slot-test.true in
    let is : s ≡ get_or all i s = subst (λ xs. s ≡ get_or xs i s) same c.slot-item.is in
    let size : length (map slot_tree all) ≡ length all = length-map all slot_tree in
    record {
      made = subst (λ links. SlotsAreMade c.args.nodes.now c.add_slot.new.nodes links (map bare_slot (take (i + 1) (map slot_tree all)))) (sym c.in_ok-push.ensures.ok)
          (slots_next c.args.nodes.now c.loop-slot.nodes c.add_slot.new.nodes c.loop-slot.links i c.in_ok-link.link (map slot_tree all) (slot_tree s) (omega arith) (map_at slot_tree all i s is) c.loop-slot.invariant.made c.in_ok-link.ensures);
      count = ap length c.in_ok-push.ensures.ok ∙ length-append c.loop-slot.links (c.in_ok-link.link ∷ []) ∙ ap (λ n. n + 1) c.loop-slot.invariant.count;
    }
