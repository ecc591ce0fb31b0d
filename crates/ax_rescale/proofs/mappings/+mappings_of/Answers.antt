use Rattle.std.proofs.Common.{List, map, Some, None, arith, rules, ◌∙◌, ap}
use Rattle.ax_rescale.proofs.MappingLists.{shared_put, alike_put, slots_step, slots_end, mapping_is, when_ok}
use Rattle.ax_rescale.specs.PlainMappings.{mapping_tree}
use Rattle.ax_rescale.specs.Mappings.{mapping_from, mappings_from}
use Rattle.ax_rescale.specs.declared.mappings.SlotMapping.{SlotMapping}
use Rattle.ax_edition.specs.Index.{found}
use Rattle.ax_format.specs.Plain.{kind_tree}
use Rattle.ax_rescale.proofs.mappings.+mappings_of.Goals as goal

pub mappings_of_slots-loop-slot-preserved : goal.mappings_of_slots-loop-slot-preserved
mappings_of_slots-loop-slot-preserved t c = (
  omega (arith, c.loop-slot.invariant.0),
  slots_step c.loop-slot.slot-index c.loop-slot.before c.args.new.now (found c.args.old.now) c.slot-item.result _ _ _ c.in_ok-mapping_to_slot.ensures c.loop-slot.invariant.1 (search rules) (search rules),
)

pub mappings_of_slots-returns : goal.mappings_of_slots-returns
mappings_of_slots-returns t c = slots_end c.loop-slot.slot-index c.loop-slot.before c.args.new.now (found c.args.old.now) _ _ c.loop-slot.invariant.1 (search rules)

pub mapping_to-returns-then-is_shared : goal.mapping_to-returns-then-is_shared
mapping_to-returns-then-is_shared t c =
    when_ok c.push.result _ _
    (shared_put c.args.new.number (kind_tree c.args.kind.now) (found c.args.old.now c.args.new.name.now) c.args.made.now c.in-Some.from c.shared_parts-parts.result (kind_tree c.in-Some.own.now) c.push.new.mappings c.in_ok-below.below _ (search rules) (search rules) (search rules) (search rules) (mapping_is c.in-Some.from c.args.new.number None c.shared_parts-parts.result c.in_ok-below.below))
    c.push.ensures

pub mapping_to-returns : goal.mapping_to-returns
mapping_to-returns t c =
    when_ok c.push-2.result _ _
    (alike_put c.args.new.number (kind_tree c.args.kind.now) (found c.args.old.now c.args.new.name.now) c.args.made.now c.in-Some.from (kind_tree c.in-Some.own.now) c.push-2.new.mappings _ (search rules) (search rules) (search rules)
    (mapping_is c.in-Some.from c.args.new.number _ 0 c.new.result ∙ ap (λ (l : List SlotMapping). mapping_from c.in-Some.from c.args.new.number (Some (record { old = kind_tree c.in-Some.own.now; new = kind_tree c.args.kind.now })) 0 (mappings_from (map mapping_tree l))) c.new.ensures))
    c.push-2.ensures
