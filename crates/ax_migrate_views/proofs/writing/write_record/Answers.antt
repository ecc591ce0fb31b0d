use Rattle.std.proofs.Common.{◌∙◌, ap, not, refl, subst, sym}
use Rattle.ax_migration.specs.Finding.{record_losses}
use Rattle.ax_migration.specs.Losing.{lost_lines}
use Rattle.ax_moves.proofs.LostRuns.{record_lost}
use Rattle.ax_moves.proofs.Slots.{placed_by}
use Rattle.ax_migrate_views.proofs.WritingSteps.{entries_shown, never_fails, of_none, of_some}
use Rattle.ax_format.specs.Tree.{marked}
use Rattle.ax_moves.specs.Lost.{key_paths, losses_below}
use Rattle.ax_endpoints.proofs.Pieces.{same_text}
use Rattle.ax_fspec.specs.Reading.{FailsAt, kind_read}
use Rattle.ax_codec.specs.Table.{record_kind_at}
use Rattle.ax_codec.specs.declared.codec.Codec.{Codec}
use Rattle.ax_walk.specs.Placing.{PlacesKind, entries_there}
use Rattle.ax_walk.specs.Values.{IsOne, entries_in, value_in}
use Rattle.ax_migrate_views.proofs.writing.write_record.Goals as goal

pub unreachable-requires : goal.unreachable-requires
unreachable-requires g c =
    let codec = c.args.codec.now in
    let body = c.octets-body.result.now in
    let fault = c.place_record.new.notes.fault in
    never_fails codec.nodes codec.slots body fault
    (subst (IsOne (record_kind_at codec.nodes codec.slots)) (sym c.octets-body.ensures.body) (subst (λ (x : Codec). IsOne (record_kind_at x.nodes x.slots) c.args.one.now.body.now) c.requires.codec c.args.one.now.record_octets))
    (of_none c.place_record.result (FailsAt (kind_read (record_kind_at codec.nodes codec.slots) body 0) 0 fault) c.place_record.ensures.fault (c.is_none.ensures ∙ ap not c.if-is_none.true))

pub write_keys-requires-clause-placed : goal.write_keys-requires-clause-placed
write_keys-requires-clause-placed g c =
    let codec = c.args.codec.now in
    let body = c.octets-body.result.now in
    let places = c.place_record.new.places in
    let end = of_some c.place_record.result (PlacesKind codec.nodes codec.slots body 0 places) c.place_record.ensures.end (c.is_none.ensures ∙ ap not c.if-is_none.false) in
    placed_by _ codec codec.slots body 0 places end.0 refl (sym c.as_slice.ensures.members) refl refl refl codec.records.within end.1

pub returns-clause-written : goal.returns-clause-written
returns-clause-written g c =
    let codec = c.args.codec.now in
    let one = c.args.one.now in
    let n = c.args.lost.now.name.number in
    let lost = c.args.lost.now.keys.now in
    let members = c.as_slice.ensures.members in
    let octets = c.octets-body.ensures.body in
    let own = (λ i. entries_there codec.nodes (members i) (octets i) 0) ∙ entries_shown codec.nodes codec.slots one.body.now ∙ ap (λ (x : Codec). entries_in (value_in (record_kind_at x.nodes x.slots) one.body.now)) (sym c.requires.codec) in
    same_text _ _ _ _ _ _ _
    (ap (lost_lines c.args.lost.now.name.block) (ap (λ d. losses_below n d (marked (entries_there codec.nodes c.as_slice.result.now c.octets-body.result.now 0)) lost) c.requires.whole ∙ record_lost n (entries_there codec.nodes c.as_slice.result.now c.octets-body.result.now 0) lost c.requires.runs ∙ ap (λ es. record_losses n es (key_paths lost)) own))
    c.write_keys.ensures.written
