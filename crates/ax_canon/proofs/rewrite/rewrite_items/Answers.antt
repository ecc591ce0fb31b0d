use Rattle.std.proofs.Common.{arith, sym, subst}
use Rattle.ax_canon.proofs.Pieces.{copied}
use Rattle.ax_canon.specs.Rewriting.{Rewrites}
use Rattle.ax_format.specs.InBounds.{SlotsInBounds}
use Rattle.ax_format.specs.Presence.{NoneUndefined}
use Rattle.ax_format.specs.Tree.{defined_slots}
use Rattle.ax_fspec.proofs.Marking.{marks_bits}
use Rattle.ax_fspec.specs.Reading.{entries_at}
use Rattle.ax_codec.specs.Meaning.{meanings, linked_slots}
use Rattle.ax_walk.proofs.Compounds.{marks_clear, slots_bounds}
use Rattle.ax_walk.specs.Rows.{tree_of}
use Rattle.ax_walk.specs.Walking.{along}
use Rattle.ax_canon.proofs.rewrite.rewrite_items.Goals as goal

pub rewrite_marked-requires-clause-bounds : goal.rewrite_marked-requires-clause-bounds
rewrite_marked-requires-clause-bounds c =
    let codec = c.args.codec.now in
    subst SlotsInBounds (λ i. tree_of (sym c.as_slice-nodes.ensures.members i) (sym c.as_slice-slots.ensures.members i)) (slots_bounds codec.nodes codec.slots codec.records.bounds)

pub rewrite_marked-requires-clause-marks : goal.rewrite_marked-requires-clause-marks
rewrite_marked-requires-clause-marks c = marks_bits c.args.codec.now.mask c.args.body.now c.args.items.marked c.args.at c.args.items.begin c.requires.field

pub rewrite_marked-requires-clause-clear : goal.rewrite_marked-requires-clause-clear
rewrite_marked-requires-clause-clear c =
    let codec = c.args.codec.now in
    subst (λ tree. NoneUndefined (defined_slots tree) c.args.items.marked) (λ i. tree_of (sym c.as_slice-nodes.ensures.members i) (sym c.as_slice-slots.ensures.members i))
    (marks_clear (linked_slots (meanings codec.nodes) codec.slots) codec.mask c.args.body.now c.args.items.marked c.args.at c.args.items.begin codec.records.mask c.requires.field)

pub slice_bounds-push_octets-count : goal.slice_bounds-push_octets-count
slice_bounds-push_octets-count c =
    let walked = c.in-Some.ensures.walks c.args.items.begin c.args.items.marked c.requires.field in
    omega (arith, walked.read.forwards)

pub slice_bounds-push_octets-start : goal.slice_bounds-push_octets-start
slice_bounds-push_octets-start c =
    let walked = c.in-Some.ensures.walks c.args.items.begin c.args.items.marked c.requires.field in
    omega (arith, walked.read.forwards)

pub slice_bounds-push_octets-end : goal.slice_bounds-push_octets-end
slice_bounds-push_octets-end c =
    let walked = c.in-Some.ensures.walks c.args.items.begin c.args.items.marked c.requires.field in
    omega (arith, walked.read.within)

pub returns-in-Some : goal.returns-in-Some
returns-in-Some c =
    let tree = tree_of c.args.codec.now.nodes c.args.codec.now.slots in
    let walked = c.in-Some.ensures.walks c.args.items.begin c.args.items.marked c.requires.field in
    copied (along tree c.args.items.marked) (entries_at tree c.args.items.marked c.args.body.now c.args.items.begin) c.args.body.now c.args.items.begin c.in-Some.end c.items_by_rows.new.notes.least c.args.out.now c.push_octets.new.self c.if-notes.true walked c.requires.room c.push_octets.ensures

pub returns-in_default : goal.returns-in_default
returns-in_default c =
    subst (λ tree. Rewrites (along tree c.args.items.marked) (entries_at tree c.args.items.marked c.args.body.now c.args.items.begin) c.args.body.now c.args.items.begin c.rewrite_marked.result c.args.out.now c.rewrite_marked.new.out)
    (λ i. tree_of (c.as_slice-nodes.ensures.members i) (c.as_slice-slots.ensures.members i)) c.rewrite_marked.ensures
