use Rattle.std.proofs.Common.{◌≡◌, length, subst, sym, ap, ◌∙◌}
use Rattle.ax_format.specs.Plain.{kind_tree}
use Rattle.ax_fspec.specs.Reading.{IsSpelledAt}
use Rattle.ax_codec.specs.Bare.{bare_kind}
use Rattle.ax_codec.specs.Table.{record_kind_at}
use Rattle.ax_view.proofs.DecodedRecords.{record_bounds, record_spelled}
use Rattle.ax_walk.specs.Values.{value_in, entries_in}
use Rattle.ax_view.proofs.to_value.RecordViewToValue.to_value.Goals as goal

pub decode_kind-requires-clause-kind : goal.decode_kind-requires-clause-kind
decode_kind-requires-clause-kind c = record_bounds c.codec.result.now (kind_tree c.in_ok-kind.kind) c.in_ok-kind.ensures

pub returns-in-Ok : goal.returns-in-Ok
returns-in-Ok c =
    let codec = c.args.self.now.codec.now in
    let body = c.args.self.now.body.now in
    let k = kind_tree c.in_ok-kind.kind in
    let v = value_in (record_kind_at codec.nodes codec.slots) body in
    let same : bare_kind k ≡ record_kind_at codec.nodes codec.slots = subst (λ codec. bare_kind k ≡ record_kind_at codec.nodes codec.slots) c.codec.ensures c.in_ok-kind.ensures in
    let spelled = subst (λ xs. IsSpelledAt k xs 0 (length body) v) (sym c.octets.ensures.body) (record_spelled codec k same body c.args.self.now.record_octets) in
    c.entries_of.ensures ∙ ap entries_in (c.in-Ok.ensures.where_spelled v (length body) spelled).0
