use Rattle.std.proofs.Common.{◌-◌, ◌≤◌, ◌∙◌, ap, get_or, length, refl, rules, subst, sym, true, List}
use Rattle.ax_format.specs.At.{slot_value}
use Rattle.ax_format.specs.InBounds.{InBounds}
use Rattle.ax_codec.specs.Table.{kind_at}
use Rattle.ax_codec.specs.declared.node.Node.{Node}
use Rattle.ax_walk.proofs.EarlyItems.{cleared, early, early_marks, early_place}
use Rattle.ax_walk.proofs.FirstItems.{first_item}
use Rattle.ax_walk.proofs.Found.{next_found, walked_one}
use Rattle.ax_walk.proofs.MarkedSteps.{within_at}
use Rattle.ax_walk.proofs.Placed.{follows}
use Rattle.ax_walk.specs.Walking.{WalksKind}
use Rattle.ax_walk.proofs.finding.find_early.Goals as goal

pub bounds-slots-slot : goal.bounds-slots-slot
bounds-slots-slot c = let f = (first_item c.args.codec.now.nodes c.args.slots.now c.args.body.now c.args.at c.args.slot c.requires.bounds c.requires.one c.requires.field c.requires.few (c.marks_first.ensures.some c.if-marks_first.true) c.requires.slot (c.marks_first.ensures.marked c.if-marks_first.true) (c.marks_first.ensures.none c.if-marks_first.true)) in f.next.within

pub octets_end-requires-clause-link : goal.octets_end-requires-clause-link
octets_end-requires-clause-link c =
    let f = (first_item c.args.codec.now.nodes c.args.slots.now c.args.body.now c.args.at c.args.slot c.requires.bounds c.requires.one c.requires.field c.requires.few (c.marks_first.ensures.some c.if-marks_first.true) c.requires.slot (c.marks_first.ensures.marked c.if-marks_first.true) (c.marks_first.ensures.none c.if-marks_first.true)) in
    (f.next.some, subst (λ (ns : List Node). get_or c.args.slots.now (c.args.slot - 1) 0 ≤ length ns) (sym c.of.ensures) (within_at (length c.args.codec.now.nodes) c.args.slots.now (c.args.slot - 1) 0 c.requires.links f.next.within))

pub octets_end-requires-clause-bounds : goal.octets_end-requires-clause-bounds
octets_end-requires-clause-bounds c = let f = (first_item c.args.codec.now.nodes c.args.slots.now c.args.body.now c.args.at c.args.slot c.requires.bounds c.requires.one c.requires.field c.requires.few (c.marks_first.ensures.some c.if-marks_first.true) c.requires.slot (c.marks_first.ensures.marked c.if-marks_first.true) (c.marks_first.ensures.none c.if-marks_first.true)) in subst (λ (ns : List Node). InBounds (kind_at ns (get_or c.args.slots.now (c.args.slot - 1) 0))) (sym c.of.ensures) f.next.bounds

pub invariant_of-result : goal.invariant_of-result
invariant_of-result c =
    let f = (first_item c.args.codec.now.nodes c.args.slots.now c.args.body.now c.args.at c.args.slot c.requires.bounds c.requires.one c.requires.field c.requires.few (c.marks_first.ensures.some c.if-marks_first.true) c.requires.slot (c.marks_first.ensures.marked c.if-marks_first.true) (c.marks_first.ensures.none c.if-marks_first.true)) in
    let w = subst (λ (ns : List Node). WalksKind (kind_at ns (get_or c.args.slots.now (c.args.slot - 1) 0)) c.args.body.now c.args.at c.in-Some.end true) c.of.ensures (c.in-Some.ensures true) in
    record {
      item = record {
        some = f.next.some;
        within = within_at (length c.args.codec.now.nodes) c.args.slots.now (c.args.slot - 1) 0 c.requires.links f.next.within;
        bounds = f.next.bounds;
        one = walked_one (kind_at c.args.codec.now.nodes (get_or c.args.slots.now (c.args.slot - 1) 0)) c.args.body.now c.args.at c.in-Some.end w.value f.next.bounds w.read c.requires.one.few;
      };
    }

pub returns-in-Some-clause-value : goal.returns-in-Some-clause-value
returns-in-Some-clause-value c =
    let f = (first_item c.args.codec.now.nodes c.args.slots.now c.args.body.now c.args.at c.args.slot c.requires.bounds c.requires.one c.requires.field c.requires.few (c.marks_first.ensures.some c.if-marks_first.true) c.requires.slot (c.marks_first.ensures.marked c.if-marks_first.true) (c.marks_first.ensures.none c.if-marks_first.true)) in
    next_found c.args.codec.now.nodes c.args.slots.now (early_marks c.args.body.now c.args.at) (cleared (c.args.slot - 1) (early_marks c.args.body.now c.args.at)) (cleared c.args.slot (early_marks c.args.body.now c.args.at)) c.args.body.now c.args.slot c.args.at c.args.at c.args.slot f.left f.next c.in-Some.end true (subst (λ (ns : List Node). WalksKind (kind_at ns (get_or c.args.slots.now (c.args.slot - 1) 0)) c.args.body.now c.args.at c.in-Some.end true) c.of.ensures (c.in-Some.ensures true)) refl ∙ ap (slot_value c.args.slot) (early c.args.codec.now.nodes c.args.slots.now c.args.body.now c.args.at c.requires.bounds c.requires.one c.requires.field c.requires.few).same

pub returns-in-Some-clause-window : goal.returns-in-Some-clause-window
returns-in-Some-clause-window c =
    let f = (first_item c.args.codec.now.nodes c.args.slots.now c.args.body.now c.args.at c.args.slot c.requires.bounds c.requires.one c.requires.field c.requires.few (c.marks_first.ensures.some c.if-marks_first.true) c.requires.slot (c.marks_first.ensures.marked c.if-marks_first.true) (c.marks_first.ensures.none c.if-marks_first.true)) in
    early_place c.args.codec.now.nodes c.args.slots.now c.args.body.now c.args.at c.args.slot _ (early c.args.codec.now.nodes c.args.slots.now c.args.body.now c.args.at c.requires.bounds c.requires.one c.requires.field c.requires.few) (follows c.args.codec.now.nodes c.args.slots.now (early_marks c.args.body.now c.args.at) (cleared (c.args.slot - 1) (early_marks c.args.body.now c.args.at)) (cleared c.args.slot (early_marks c.args.body.now c.args.at)) c.args.body.now c.args.slot c.args.at c.args.at c.args.slot f.left f.passed f.next c.in-Some.end true (subst (λ (ns : List Node). WalksKind (kind_at ns (get_or c.args.slots.now (c.args.slot - 1) 0)) c.args.body.now c.args.at c.in-Some.end true) c.of.ensures (c.in-Some.ensures true)) refl)

pub slice_bounds-result-count : goal.slice_bounds-result-count
slice_bounds-result-count c =
    let w = subst (λ (ns : List Node). WalksKind (kind_at ns (get_or c.args.slots.now (c.args.slot - 1) 0)) c.args.body.now c.args.at c.in-Some.end true) c.of.ensures (c.in-Some.ensures true) in
    let forwards = w.read.forwards in
    let within = w.read.within in
    search rules

pub slice_bounds-result-start : goal.slice_bounds-result-start
slice_bounds-result-start c =
    let w = subst (λ (ns : List Node). WalksKind (kind_at ns (get_or c.args.slots.now (c.args.slot - 1) 0)) c.args.body.now c.args.at c.in-Some.end true) c.of.ensures (c.in-Some.ensures true) in
    let forwards = w.read.forwards in
    let within = w.read.within in
    search rules

pub slice_bounds-result-end : goal.slice_bounds-result-end
slice_bounds-result-end c =
    let w = subst (λ (ns : List Node). WalksKind (kind_at ns (get_or c.args.slots.now (c.args.slot - 1) 0)) c.args.body.now c.args.at c.in-Some.end true) c.of.ensures (c.in-Some.ensures true) in
    let forwards = w.read.forwards in
    let within = w.read.within in
    search rules
