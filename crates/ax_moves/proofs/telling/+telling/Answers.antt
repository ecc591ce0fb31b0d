use Rattle.std.proofs.Common.{rules, ◌≡◌, ℕ, List, drop, option_map, take, ◌-◌, ◌+◌, ◌<◌, ◌≤◌, ◌∙◌, ap, arith, get_or, length, refl, subst, suc, sym}
use Rattle.ax_fspec.specs.Marks.{IsMarked}
use Rattle.ax_migration.specs.Losing.{lost_lines}
use Rattle.ax_moves.proofs.Slots.{placed_by, compound_node}
use Rattle.ax_moves.proofs.TellingSteps.{KeysTold, all_told, compound_value, deeper, own_told, slot_runs, slot_skipped, slot_told}
use Rattle.ax_moves.proofs.ToldLines.{gathers_none}
use Rattle.ax_moves.specs.Items.{IsCompoundOf}
use Rattle.ax_moves.specs.Laying.{Gathers}
use Rattle.ax_moves.specs.Lost.{losses_below}
use Rattle.ax_moves.specs.Wholes.{whole_entries}
use Rattle.ax_format.specs.Tree.{marked}
use Rattle.ax_walk.proofs.Found.{no_compound}
use Rattle.ax_walk.proofs.NodeKinds.{compound_links}
use Rattle.ax_walk.specs.Shown.{item_value}
use Rattle.ax_walk.specs.declared.places.FoundItem.{FoundItem}
use Rattle.ax_moves.proofs.telling.+telling.Goals as goal
use Rattle.ax_moves.proofs.telling.+telling.Goals.{tell_keys-in-Some-item_of, tell_keys-in_default-item_of}

pub tell_inside-tell_subitems-requires : goal.tell_inside-tell_subitems-requires
tell_inside-tell_subitems-requires t c =
    let compound : IsCompoundOf c.args.item.found.now.item c.as_slice.result.now = record { one = c.node.result.now; at = c.node.ensures; mask = c.in-Compound.mask; own = c.in-Compound.slots; is = c.in-Compound.is; same = sym c.as_slice.ensures.members } in
    (search rules, (c.requires.codec, (compound, (c.requires.runs, c.requires.room))))

pub tell_subitems-tell_keys-requires : goal.tell_subitems-tell_keys-requires
tell_subitems-tell_keys-requires t c =
    let item = c.args.compound.item.found.now.item in
    let own = item.codec.now in
    let k = c.requires.compound in
    let placed = placed_by _ own k.own item.body.now 0 c.place_subitems.new.places (length item.body.now) c.requires.codec k.same (sym c.octets.ensures.body) refl refl
    (compound_links own.nodes item.link k.one own.table item.item.some item.item.within k.at k.mask k.own k.own k.is refl)
    (c.place_subitems.ensures k.mask k.own (compound_node own.nodes item.link k.one k.mask k.own item.item.some item.item.within k.at k.is)) in
    (search rules, (placed, (c.requires.runs, c.requires.room)))

pub tell_inside-tell_parts-requires : goal.tell_inside-tell_parts-requires
tell_inside-tell_parts-requires t c =
    let item = c.args.item.found.now.item in
    record {
      leaf = no_compound item.codec.now item.link item.by_fx item.body.now c.node.result.now item.item c.node.ensures c.node.result.now refl c.in_default.not-Compound;
      runs = c.requires.runs;
      room = c.requires.room;
    }

pub tell_subitems-returns-clause-told : goal.tell_subitems-returns-clause-told
tell_subitems-returns-clause-told t c =
    let k = c.requires.compound in
    subst (λ v. Gathers (lost_lines c.args.lost.now.name.block (losses_below c.args.lost.now.name.number c.args.lost.now.depth v c.args.lost.now.keys.now)) c.args.at c.tell_keys.result c.args.lines.now c.tell_keys.new.lines)
    (compound_value c.args.compound.item.found.now.item k.one k.at k.mask k.own c.args.compound.slots.now c.octets.result.now c.args.compound.item.codec.now k.is k.same (sym c.octets.ensures.body) c.requires.codec)
    c.tell_keys.ensures.told

pub tell_keys-loop-index-preserved-in_default : goal.tell_keys-loop-index-preserved-in_default
tell_keys-loop-index-preserved-in_default t c =
    let k = c.index-keys-index.result in
    let past : length k.runs.items ≤ c.args.lost.now.depth = omega (arith, c.in_default.ensures.lookup.3, ap length c.deref.ensures.value) in
    record {
      told = own_told c.args.lost.now.name.block c.args.lost.now.name.number c.args.lost.now.depth (whole_entries c.args.whole.now) c.args.lost.now.keys.now c.loop-index.index k c.args.at c.loop-index.end c.args.lines.now c.loop-index.lines c.loop-index.invariant.told c.loop-index-test.true c.index-keys-index.is
          c.tell_own-end.result c.tell_own-end.new.lines past c.tell_own-end.ensures.told;
      within = omega (arith, c.loop-index-test.true);
    }

pub tell_keys-returns-then-is_passed-clause-told : goal.tell_keys-returns-then-is_passed-clause-told
tell_keys-returns-then-is_passed-clause-told t c =
    let k = c.index-keys-index.result in
    let r = c.in-Some.run'.now in
    let es = whole_entries c.args.whole.now in
    let within : c.args.lost.now.depth < length k.runs.items = omega (arith, c.in-Some.ensures.lookup.3.0, ap length c.deref.ensures.value) in
    all_told c.args.lost.now.name.block c.args.lost.now.name.number c.args.lost.now.depth es c.args.lost.now.keys.now c.loop-index.index k c.args.at c.loop-index.end c.args.lines.now c.loop-index.lines c.loop-index.invariant.told c.loop-index-test.true c.index-keys-index.is
    r within (c.in-Some.ensures.lookup.1 ∙ ap (λ rs. get_or rs c.args.lost.now.depth r) c.deref.ensures.value)
    c.marked-marked.result (length c.args.lost.now.keys.now - c.loop-index.index - 1) (λ s not. c.requires.placed.placed.others s (λ h. not (subst (λ m. IsMarked m s) (sym c.marked-marked.ensures) h))) refl (c.is_passed.ensures c.if-is_passed.true)

pub tell_keys-tell_inside-end-requires : goal.tell_keys-tell_inside-end-requires
tell_keys-tell_inside-end-requires t c =
    let k = c.index-keys-index.result in
    let r = c.in-Some.run'.now in
    let es = whole_entries c.args.whole.now in
    let index = c.loop-index.index in
    let within : c.args.lost.now.depth < length k.runs.items = omega (arith, c.in-Some.ensures.lookup.3.0, ap length c.deref.ensures.value) in
    let at_depth = c.in-Some.ensures.lookup.1 ∙ ap (λ rs. get_or rs c.args.lost.now.depth r) c.deref.ensures.value in
    let m = index + (c.min-count.result + 1) - index in (
      omega (arith, c.decreases, deeper c.args.lost.now.name.block c.args.lost.now.name.number c.args.lost.now.depth es c.args.lost.now.keys.now index k c.args.at c.loop-index.end c.args.lines.now c.loop-index.lines c.loop-index.invariant.told c.loop-index-test.true c.index-keys-index.is r within at_depth m),
      (
        c.in-Some-item_of.ensures.place.codec_is,
        (
          slot_runs c.args.lost.now.name.block c.args.lost.now.name.number c.args.lost.now.depth es c.args.lost.now.keys.now index k c.args.at c.loop-index.end c.args.lines.now c.loop-index.lines c.loop-index.invariant.told c.loop-index-test.true c.index-keys-index.is r within at_depth m,
          search rules,
        ),
      ),
    )

pub tell_keys-loop-index-preserved : goal.tell_keys-loop-index-preserved
tell_keys-loop-index-preserved t c =
    let k = c.index-keys-index.result in
    let r = c.in-Some.run'.now in
    let es = whole_entries c.args.whole.now in
    let index = c.loop-index.index in
    let count = c.min-count.result + 1 in
    let within : c.args.lost.now.depth < length k.runs.items = omega (arith, c.in-Some.ensures.lookup.3.0, ap length c.deref.ensures.value) in
    let at_depth = c.in-Some.ensures.lookup.1 ∙ ap (λ rs. get_or rs c.args.lost.now.depth r) c.deref.ensures.value in
    let le : count ≤ suc r.more = omega (arith, c.min-count.ensures) in
    let Told : ℕ → List ℕ → Type 0 = λ end lines. KeysTold c.args.lost.now.name.block c.args.lost.now.name.number c.args.lost.now.depth (marked es) c.args.lost.now.keys.now (drop (index + count) c.args.lost.now.keys.now) c.args.at end c.args.lines.now lines in
    record {
      told = elim c.match-item_of.branch [
        | tell_keys-in-Some-item_of w ↦ (
            let found = w.in-Some-item_of.found in
            let own : index + count - index ≡ count = omega arith in
            let here = subst (λ m. Gathers (lost_lines c.args.lost.now.name.block (losses_below c.args.lost.now.name.number (c.args.lost.now.depth + 1) (item_value found.item) (take m (drop index c.args.lost.now.keys.now)))) c.loop-index.end w.tell_inside-end.result c.loop-index.lines w.tell_inside-end.new.lines) own w.tell_inside-end.ensures.told in
            let told = slot_told c.args.lost.now.name.block c.args.lost.now.name.number c.args.lost.now.depth es c.args.lost.now.keys.now index k c.args.at c.loop-index.end c.args.lines.now c.loop-index.lines c.loop-index.invariant.told c.loop-index-test.true c.index-keys-index.is r within at_depth
            count w.tell_inside-end.result w.tell_inside-end.new.lines (item_value found.item) le w.in-Some-item_of.ensures.value here in
            subst (λ lines. Told c.match-item_of.end lines) (sym w.lines-is) (subst (λ end. Told end w.tell_inside-end.new.lines) (sym w.end-is) told))
        | tell_keys-in_default-item_of w ↦ (
            let none = sym (ap (option_map (λ (found : FoundItem). item_value found.item)) w.in_default-item_of.is) ∙ c.item_of.ensures.value in
            let told = slot_skipped c.args.lost.now.name.block c.args.lost.now.name.number c.args.lost.now.depth es c.args.lost.now.keys.now index k c.args.at c.loop-index.end c.args.lines.now c.loop-index.lines c.loop-index.invariant.told c.loop-index-test.true c.index-keys-index.is r within at_depth count le none in
            subst (λ lines. Told c.match-item_of.end lines) (sym w.lines-is) (subst (λ end. Told end c.loop-index.lines) (sym w.end-is) told))
      ];
      within = omega (arith, c.loop-index-test.true, c.min-count.ensures);
    }

pub tell_inside-returns-then-loses_nothing-clause-told : goal.tell_inside-returns-then-loses_nothing-clause-told
tell_inside-returns-then-loses_nothing-clause-told t c =
    subst (λ ls. Gathers (lost_lines c.args.lost.now.name.block ls) c.args.at c.args.at c.args.lines.now c.args.lines.now) (sym (c.loses_nothing.ensures c.if-loses_nothing.true c.args.lost.now.name.number)) (gathers_none c.args.at c.args.lines.now (omega (arith, c.ranges.at.fits)))
