use Rattle.std.proofs.Common.{rules, ◌≡◌, ℕ, ◌-◌, ◌<◌, List, [], ◌∷◌, ◌++◌, arith, ap, sym, subst, refl, length, get_or, ◌∙◌, option_map, Option, IfSome, Vec, Global}
use Rattle.ax_bits.specs.Bits.{bits}
use Rattle.ax_relation.specs.PlainMoves.{move_tree, moves_tree}
use Rattle.ax_relation.specs.declared.moves.Move.{Move, out-Move}
use Rattle.ax_fspec.specs.Fields.{least_field}
use Rattle.ax_fspec.specs.Marks.{no_marks, slots_of}
use Rattle.ax_moves.proofs.Entries.{none_laid, one_laid, all_laid, nothing_moves, nothing_laid, compound_there}
use Rattle.ax_moves.proofs.ItemParts.{front_stays, octets_some}
use Rattle.ax_moves.proofs.KeepingSteps.{leaf_canon_by}
use Rattle.ax_moves.proofs.KnowingSteps.{known_at, known_below}
use Rattle.ax_moves.proofs.LaidBits.{lays_more}
use Rattle.ax_moves.proofs.MoveSizes.{below_less, member_less}
use Rattle.ax_moves.proofs.PlacesThere.{at_is, at_past, others_absent, place_laid, place_skips, places_entries, places_first, places_last, places_slots}
use Rattle.ax_moves.specs.KnownMoves.{AreOthersAbsent, FindsEach, KnowsBelow, places_canon, places_marks}
use Rattle.ax_moves.proofs.Slots.{placed_by, compound_node}
use Rattle.ax_moves.proofs.ToldLines.{gathered_bits}
use Rattle.ax_moves.specs.Items.{IsCompoundOf}
use Rattle.ax_moves.specs.Laying.{Lays}
use Rattle.ax_moves.specs.Octets.{field_by, entries_canon_by, move_canon}
use Rattle.ax_moves.specs.Wholes.{whole_slots, whole_entries}
use Rattle.ax_codec.specs.Table.{LinksWithin}
use Rattle.ax_codec.specs.declared.codec.Codec.{Codec}
use Rattle.ax_codec.specs.declared.node.Node.{Node}
use Rattle.ax_walk.proofs.NodeKinds.{compound_links, extended_links}
use Rattle.ax_walk.specs.Shown.{item_value}
use Rattle.ax_walk.specs.declared.places.FoundItem.{FoundItem}
use Rattle.ax_moves.proofs.values.+laying.Goals as goal

pub lay_entries-loop-index-init : goal.lay_entries-loop-index-init
lay_entries-loop-index-init t c = none_laid c.as_slice-moves.result.now (whole_slots c.args.whole.now) (whole_entries c.args.whole.now) c.args.at c.args.output.now c.ranges.at.fits

pub lay_entries-bounds-known-index : goal.lay_entries-bounds-known-index
lay_entries-bounds-known-index t c =
    let knows = subst (λ ks. KnowsBelow (moves_tree c.args.moves.now) ks) (sym c.as_slice-known.ensures.members) c.requires.known in
    (known_at c.args.moves.now c.as_slice-known.result.now c.loop-index.index c.index-moves-index.result knows (omega (arith, c.loop-index-test.true, ap length c.as_slice-moves.ensures.members)) (c.index-moves-index.is ∙ ap (λ ms. get_or ms c.loop-index.index c.index-moves-index.result) c.as_slice-moves.ensures.members)).0

pub lay_entries-lay_entry-end-requires : goal.lay_entries-lay_entry-end-requires
lay_entries-lay_entry-end-requires t c =
    let all = c.args.moves.now in
    let i : ℕ = c.loop-index.index in
    let m = c.index-moves-index.result in
    let same = c.as_slice-moves.ensures.members in
    let within : i < length all = omega (arith, c.loop-index-test.true, ap length same) in
    let is : m ≡ get_or all i m = c.index-moves-index.is ∙ ap (λ ms. get_or ms i m) same in
    let small = member_less all i m within is in
    let knows = subst (λ ks. KnowsBelow (moves_tree all) ks) (sym c.as_slice-known.ensures.members) c.requires.known in
    let known = (known_at all c.as_slice-known.result.now i m knows within is).1 c.index-known-index.result c.index-known-index.is in
    (omega (arith, small, c.decreases), (c.requires.placed, (known, search rules)))

pub lay_entries-loop-index-preserved : goal.lay_entries-loop-index-preserved
lay_entries-loop-index-preserved t c =
    one_laid c.as_slice-moves.result.now c.loop-index.index c.index-moves-index.result (whole_slots c.args.whole.now) (whole_entries c.args.whole.now) c.args.at c.loop-index.end c.lay_entry-end.result c.args.output.now c.loop-index.output c.lay_entry-end.new.output
    (omega (arith, c.loop-index-test.true)) c.index-moves-index.is c.loop-index.invariant c.lay_entry-end.ensures.laid

pub lay_entries-returns-clause-laid : goal.lay_entries-returns-clause-laid
lay_entries-returns-clause-laid t c =
    subst (λ (ms : List Move). Lays (entries_canon_by (moves_tree ms) (whole_slots c.args.whole.now) (whole_entries c.args.whole.now)) c.args.at c.loop-index.end c.args.output.now c.loop-index.output) c.as_slice-moves.ensures.members
    (all_laid c.as_slice-moves.result.now c.loop-index.index (whole_slots c.args.whole.now) (whole_entries c.args.whole.now) c.args.at c.loop-index.end c.args.output.now c.loop-index.output (omega (arith, c.loop-index-test.false)) c.loop-index.invariant)

pub lay_there-loop-place-init : goal.lay_there-loop-place-init
lay_there-loop-place-init t c = places_first (slots_of c.args.there.now.places) (moves_tree c.as_slice-moves.result.now) (whole_slots c.args.whole.now) (whole_entries c.args.whole.now) c.args.at c.args.output.now c.ranges.at.fits

pub lay_there-bounds-known-index : goal.lay_there-bounds-known-index
lay_there-bounds-known-index t c =
    let knows = subst (λ ks. KnowsBelow (moves_tree c.args.moves.now) ks) (sym c.as_slice-known.ensures.members) c.requires.known in
    (known_at c.args.moves.now c.as_slice-known.result.now (c.in-Some.place - 1) c.index-moves-index.result knows (omega (arith, c.if-index-moves.true, ap length c.as_slice-moves.ensures.members)) (c.index-moves-index.is ∙ ap (λ ms. get_or ms (c.in-Some.place - 1) c.index-moves-index.result) c.as_slice-moves.ensures.members)).0

pub lay_there-lay_entry-end-requires : goal.lay_there-lay_entry-end-requires
lay_there-lay_entry-end-requires t c =
    let all = c.args.moves.now in
    let i : ℕ = c.in-Some.place - 1 in
    let m = c.index-moves-index.result in
    let same = c.as_slice-moves.ensures.members in
    let within : i < length all = omega (arith, c.if-index-moves.true, ap length same) in
    let is : m ≡ get_or all i m = c.index-moves-index.is ∙ ap (λ ms. get_or ms i m) same in
    let small = member_less all i m within is in
    let knows = subst (λ ks. KnowsBelow (moves_tree all) ks) (sym c.as_slice-known.ensures.members) c.requires.known in
    let known = (known_at all c.as_slice-known.result.now i m knows within is).1 c.index-known-index.result c.index-known-index.is in
    (omega (arith, small, c.decreases), (c.requires.placed, (known, search rules)))

pub lay_there-loop-place-preserved-then-index-moves : goal.lay_there-loop-place-preserved-then-index-moves
lay_there-loop-place-preserved-then-index-moves t c =
    place_laid _ _ _ c.in-Some.place (moves_tree c.as_slice-moves.result.now) (whole_slots c.args.whole.now) (whole_entries c.args.whole.now) _ _ _ _ c.loop-place.invariant c.in-Some.ensures.some (move_tree c.index-moves-index.result) c.lay_entry-end.result c.lay_entry-end.new.output
    (at_is c.as_slice-moves.result.now (c.in-Some.place - 1) c.index-moves-index.result (omega (arith, c.if-index-moves.true)) c.index-moves-index.is) c.lay_entry-end.ensures.laid

pub lay_there-loop-place-preserved : goal.lay_there-loop-place-preserved
lay_there-loop-place-preserved t c =
    place_skips _ _ _ c.in-Some.place (moves_tree c.as_slice-moves.result.now) (whole_slots c.args.whole.now) (whole_entries c.args.whole.now) _ _ _ _ c.loop-place.invariant c.in-Some.ensures.some (at_past c.as_slice-moves.result.now (c.in-Some.place - 1) (omega (arith, c.if-index-moves.false)))

pub lay_there-returns-clause-laid : goal.lay_there-returns-clause-laid
lay_there-returns-clause-laid t c =
    subst (λ (ms : List Move). Lays (places_canon (slots_of c.args.there.now.places) (moves_tree ms) (whole_slots c.args.whole.now) (whole_entries c.args.whole.now)) c.args.at c.loop-place.end c.args.output.now c.loop-place.output) c.as_slice-moves.ensures.members
    (places_last _ _ _ _ _ _ _ _ _ c.in_default.ensures.none c.loop-place.invariant)

pub lay_entry-returns-in-None-clause-laid : goal.lay_entry-returns-in-None-clause-laid
lay_entry-returns-in-None-clause-laid t c =
    nothing_laid (move_canon (move_tree c.args.one.now) (whole_slots c.args.whole.now) (whole_entries c.args.whole.now)) c.args.at c.args.output.now
    (nothing_moves c.args.one.now (whole_slots c.args.whole.now) (whole_entries c.args.whole.now) (sym c.item_of.ensures.value ∙ ap (option_map (λ (found : FoundItem). item_value found.item)) c.in-None.is)) c.ranges.at.fits

pub lay_anew-lay_subitems-requires : goal.lay_anew-lay_subitems-requires
lay_anew-lay_subitems-requires t c =
    let compound : IsCompoundOf c.args.item.found.now.item c.as_slice.result.now = record { one = c.node.result.now; at = c.node.ensures; mask = c.in-Compound.mask; own = c.in-Compound.slots; is = c.in-Compound.is; same = sym c.as_slice.ensures.members } in
    (omega (arith, below_less c.args.one.now, c.decreases), (c.requires.codec, (compound, (c.requires.known, c.requires.room))))

pub lay_subitems-lay_whole-requires : goal.lay_subitems-lay_whole-requires
lay_subitems-lay_whole-requires t c =
    let item = c.args.compound.item.found.now.item in
    let own = item.codec.now in
    let k = c.requires.compound in
    let placed = placed_by _ own k.own item.body.now 0 c.place_subitems.new.places (length item.body.now) c.requires.codec k.same (sym c.octets.ensures.body) refl refl
    (compound_links own.nodes item.link k.one own.table item.item.some item.item.within k.at k.mask k.own k.own k.is refl)
    (c.place_subitems.ensures k.mask k.own (compound_node own.nodes item.link k.one k.mask k.own item.item.some item.item.within k.at k.is)) in
    (omega (arith, c.decreases), (placed, (known_below c.args.one.now c.args.known.now c.requires.known, c.requires.room)))

pub lay_subitems-returns-clause-laid : goal.lay_subitems-returns-clause-laid
lay_subitems-returns-clause-laid t c =
    let k = c.requires.compound in
    subst (λ b. Lays b c.args.at c.lay_whole.result c.args.output.now c.lay_whole.new.output)
    (compound_there c.args.compound.item.found.now.item k.one k.at (out-Move c.args.one.now).parts (moves_tree (out-Move c.args.one.now).below) k.mask k.own c.args.compound.slots.now c.octets.result.now c.args.compound.item.codec.now k.is k.same (sym c.octets.ensures.body) c.requires.codec)
    c.lay_whole.ensures.laid

pub lay_anew-returns-in_default : goal.lay_anew-returns-in_default
lay_anew-returns-in_default t c = record {
  laid = subst (λ b. Lays b c.args.at c.lay_item.result c.args.output.now c.lay_item.new.output) (sym (leaf_canon_by c.args.item.found.now.item c.node.result.now c.node.ensures (out-Move c.args.one.now).parts (moves_tree (out-Move c.args.one.now).below) c.requires.whole c.in_default.not-Compound c.in_default.not-Extended)) c.lay_item.ensures.laid;
  room = c.lay_item.ensures.room;
}

pub lay_whole-returns-in_default-clause-laid : goal.lay_whole-returns-in_default-clause-laid
lay_whole-returns-in_default-clause-laid t c =
    let field = subst (λ b. Lays b c.args.at c.lay_field-end.result c.args.output.now c.lay_field-end.new.output) (ap least_field c.moved_slots-marked.ensures) c.lay_field-end.ensures.laid in
    let rest = entries_canon_by (moves_tree c.args.moves.now) (whole_slots c.args.whole.now) (whole_entries c.args.whole.now) in
    let front = field_by (moves_tree c.args.moves.now) (whole_entries c.args.whole.now) in
    lays_more front rest (front ++ rest) c.args.at c.lay_field-end.result c.lay_entries.result c.args.output.now c.lay_field-end.new.output c.lay_entries.new.output refl field c.lay_entries.ensures.laid

pub lay_whole-returns-clause-laid : goal.lay_whole-returns-clause-laid
lay_whole-returns-clause-laid t c =
    let w = c.args.whole.now in
    let ms = moves_tree c.args.moves.now in
    let ss = whole_slots w in
    let es = whole_entries w in
    let there = c.moves_there.result in
    let finds = subst (λ (o : Option (Vec ℕ Global)). IfSome o (λ places. FindsEach ms places.items)) c.in-Some.is c.requires.known.0 in
    let all = others_absent w.places.now.marked c.as_slice.result.now ms es (subst (FindsEach ms) (sym c.as_slice.ensures.value) finds) (λ s m. (c.requires.placed.placed.there s m).small) c.requires.placed.placed.others in
    let none = subst (λ x. AreOthersAbsent x ms es) (sym c.moves_there.ensures) all in
    let set = c.slots_there-marked.ensures ∙ ap (λ l. places_marks (slots_of there) (moves_tree l) es no_marks) c.as_slice-2.ensures.members ∙ places_slots there ms es no_marks none in
    let field = subst (λ b. Lays b c.args.at c.lay_field-end-2.result c.args.output.now c.lay_field-end-2.new.output) (ap least_field set) c.lay_field-end-2.ensures.laid in
    let rest = subst (λ b. Lays b c.lay_field-end-2.result c.lay_there.result c.lay_field-end-2.new.output c.lay_there.new.output) (places_entries there ms ss es none) c.lay_there.ensures.laid in
    lays_more (field_by ms es) (entries_canon_by ms ss es) (field_by ms es ++ entries_canon_by ms ss es) c.args.at c.lay_field-end-2.result c.lay_there.result c.args.output.now c.lay_field-end-2.new.output c.lay_there.new.output refl field rest

pub lay_value-returns-then-is_bare-clause-laid : goal.lay_value-returns-then-is_bare-clause-laid
lay_value-returns-then-is_bare-clause-laid t c =
    subst (λ b. Lays b c.args.at c.lay_octets-then-is_bare.result c.args.output.now c.lay_octets-then-is_bare.new.output) (sym (c.is_bare.ensures c.if-is_bare.true (out-Move c.args.one.now).parts (moves_tree (out-Move c.args.one.now).below)))
    (gathered_bits (0 ∷ []) c.args.at c.lay_octets-then-is_bare.result c.args.output.now c.lay_octets-then-is_bare.new.output c.lay_octets-then-is_bare.ensures.laid)

pub lay_value-returns-then-moves_whole-clause-laid : goal.lay_value-returns-then-moves_whole-clause-laid
lay_value-returns-then-moves_whole-clause-laid t c =
    subst (λ b. Lays b c.args.at c.lay_octets.result c.args.output.now c.lay_octets.new.output) (ap bits c.octets.ensures.body ∙ sym (c.moves_whole.ensures c.if-moves_whole.true (moves_tree (out-Move c.args.one.now).below)))
    (gathered_bits c.octets.result.now c.args.at c.lay_octets.result c.args.output.now c.lay_octets.new.output c.lay_octets.ensures.laid)

pub lay_anew-front-front-requires-clause-links : goal.lay_anew-front-front-requires-clause-links
lay_anew-front-front-requires-clause-links t c =
    let item = c.args.item.found.now.item in
    let own = item.codec.now in
    let same : own.nodes ≡ c.as_slice-in-Extended.result.now = ap (λ (x : Codec). x.nodes) c.requires.codec ∙ sym c.as_slice-in-Extended.ensures.members in
    subst (λ (ns : List Node). LinksWithin (length ns) c.as_slice-in-Extended-2.result.now) same
    (extended_links own.nodes item.link c.node.result.now own.table item.item.some item.item.within c.node.ensures c.in-Extended.last c.in-Extended.parts c.as_slice-in-Extended-2.result.now c.in-Extended.is c.as_slice-in-Extended-2.ensures.members)

pub lay_anew-front-front-requires-clause-some : goal.lay_anew-front-front-requires-clause-some
lay_anew-front-front-requires-clause-some t c =
    omega (arith, ap length c.octets-octets.ensures.body, octets_some c.args.item.found.now.item c.node.result.now c.node.ensures c.in-Extended.last c.in-Extended.parts c.in-Extended.parts c.in-Extended.is refl)

pub lay_anew-returns-in-Extended-clause-laid : goal.lay_anew-returns-in-Extended-clause-laid
lay_anew-returns-in-Extended-clause-laid t c =
    let item = c.args.item.found.now.item in
    let same : c.as_slice-in-Extended.result.now ≡ item.codec.now.nodes = c.as_slice-in-Extended.ensures.members ∙ sym (ap (λ (x : Codec). x.nodes) c.requires.codec) in
    subst (λ b. Lays b c.args.at c.lay_front.result c.args.output.now c.lay_front.new.output)
    (front_stays item c.node.result.now c.node.ensures c.in-Extended.last c.in-Extended.parts c.as_slice-in-Extended-2.result.now c.in-Extended.is c.as_slice-in-Extended-2.ensures.members (out-Move c.args.one.now).parts (moves_tree (out-Move c.args.one.now).below)
    c.front-front.result c.as_slice-in-Extended.result.now c.octets-octets.result.now same c.octets-octets.ensures.body c.front-front.ensures)
    c.lay_front.ensures.laid
