use Rattle.std.proofs.Common.{◌≡◌, ◌++◌, ◌∷◌, [], length, map, ap, arith, rules}
use Rattle.std.proofs.lemmas.List.{length_push, map_push}
use Rattle.std.proofs.lemmas.Result.{err_from_is_err_and}
use Rattle.ax_format.specs.Plain.{slot_tree}
use Rattle.ax_grammar.specs.Parsing.{list_at}
use Rattle.ax_grammar.specs.Rules.{slot_at}
use Rattle.ax_grammar.proofs.Cases.{by_fx_gives, explicit_read, compound_gives, fixed_gives}
use Rattle.ax_format.proofs.VariantTrees.{explicit_tree}
use Rattle.ax_grammar.proofs.Lists.{few_more, few_room, list_goes_on, list_stops_before, list_stops_within, list_ends}
use Rattle.ax_grammar.proofs.Recursive.{slot_shrinks}
use Rattle.ax_grammar.proofs.reader.SpecReader.+read_kind.Goals as goal

pub closed_slots-returns-in_err-takes : goal.closed_slots-returns-in_err-takes
closed_slots-returns-in_err-takes t c =
    let p = err_from_is_err_and c.from_residual.result c.from_residual.ensures.1 in
    rw (p.1, p.2) (list_stops_before slot_at (map slot_tree c.loop-slots.slots) c.loop-slots.self c.takes.new.self (list_at slot_at c.args.self.now) c.in_err-takes.field-0.0 slot_shrinks c.in_err-takes.ensures.reads c.loop-slots.invariant.read)

pub closed_slots-returns-in_err-slot : goal.closed_slots-returns-in_err-slot
closed_slots-returns-in_err-slot t c =
    let p = err_from_is_err_and c.from_residual-in_err-slot.result c.from_residual-in_err-slot.ensures.1 in
    rw (p.1, p.2) (list_stops_within slot_at (map slot_tree c.loop-slots.slots) c.loop-slots.self c.takes.new.self c.slot.new.self (list_at slot_at c.args.self.now) c.in_err-slot.field-0.0 slot_shrinks (search rules) c.in_err-slot.ensures c.loop-slots.invariant.read)

pub closed_slots-slot-requires : goal.closed_slots-slot-requires
closed_slots-slot-requires t c = omega (arith, c.loop-slots.invariant.less, c.in_ok-takes.ensures.moves)

pub closed_slots-push-requires : goal.closed_slots-push-requires
closed_slots-push-requires t c = record {
  room = few_room (length c.loop-slots.slots) (length c.loop-slots.self) c.loop-slots.invariant.few
      (omega (arith, slot_shrinks c.takes.new.self (slot_tree c.in_ok-slot.slot) c.slot.new.self c.in_ok-slot.ensures, c.in_ok-takes.ensures.moves));
}

pub closed_slots-loop-slots-preserved : goal.closed_slots-loop-slots-preserved
closed_slots-loop-slots-preserved t c =
    let pushed : c.push.new.self ≡ c.loop-slots.slots ++ c.in_ok-slot.slot ∷ [] = c.in_ok-push.ensures.ok in
    let count = length_push c.loop-slots.slots c.in_ok-slot.slot in
    let views : map slot_tree c.push.new.self ≡ map slot_tree c.loop-slots.slots ++ slot_tree c.in_ok-slot.slot ∷ [] = rw pushed (map_push _ c.loop-slots.slots c.in_ok-slot.slot) in
    record {
      read = rw views (list_goes_on slot_at (map slot_tree c.loop-slots.slots) c.loop-slots.self c.takes.new.self c.slot.new.self (slot_tree c.in_ok-slot.slot) (list_at slot_at c.args.self.now) slot_shrinks (search rules) c.in_ok-slot.ensures c.loop-slots.invariant.read);
      less = omega (arith, c.loop-slots.invariant.less, slot_shrinks c.takes.new.self (slot_tree c.in_ok-slot.slot) c.slot.new.self c.in_ok-slot.ensures, c.in_ok-takes.ensures.moves);
      few = λ _. omega (
        arith,
        ap length pushed,
        count,
        few_more (length c.loop-slots.slots) (length c.loop-slots.self) (length c.slot.new.self) c.loop-slots.invariant.few c.in_ok-takes.ensures.bound
            (omega (arith, slot_shrinks c.takes.new.self (slot_tree c.in_ok-slot.slot) c.slot.new.self c.in_ok-slot.ensures, c.in_ok-takes.ensures.moves)),
      );
    }

pub closed_slots-loop-slots-smaller : goal.closed_slots-loop-slots-smaller
closed_slots-loop-slots-smaller t c = omega (arith, slot_shrinks c.takes.new.self (slot_tree c.in_ok-slot.slot) c.slot.new.self c.in_ok-slot.ensures, c.in_ok-takes.ensures.moves)

pub closed_slots-returns : goal.closed_slots-returns
closed_slots-returns t c = list_ends slot_at (map slot_tree c.loop-slots.slots) c.loop-slots.self c.takes.new.self (list_at slot_at c.args.self.now) slot_shrinks (search rules) c.loop-slots.invariant.read

pub kind-returns-in-ByFx : goal.kind-returns-in-ByFx
kind-returns-in-ByFx t c = by_fx_gives c.args.self.now c.skip-in-ByFx.new.self c.fixed.new.self c.fixed.result c.map.result (search rules) c.fixed.ensures c.map.ensures.cases

pub kind-returns-in-Explicit : goal.kind-returns-in-Explicit
kind-returns-in-Explicit t c = explicit_read c.args.self.now c.skip-in-Explicit.new.self _ explicit_tree (search rules)

pub kind-returns-in-Compound : goal.kind-returns-in-Compound
kind-returns-in-Compound t c = compound_gives c.args.self.now c.skip-in-Compound.new.self c.slots.new.self c.slots.result c.map-in-Compound.result (search rules) c.slots.ensures c.map-in-Compound.ensures.cases

pub kind-returns-in_default : goal.kind-returns-in_default
kind-returns-in_default t c =
    fixed_gives c.args.self.now _ c.fixed-in_default.new.self c.in_ok-keyword.field-0 c.fixed-in_default.result c.map-in_default.result c.in_default.not-Extended c.in_default.not-Closed c.in_default.not-Counted c.in_default.not-Wide c.in_default.not-ByFx c.in_default.not-Explicit c.in_default.not-Compound
    c.in_ok-keyword.ensures.reads c.fixed-in_default.ensures c.map-in_default.ensures.cases
