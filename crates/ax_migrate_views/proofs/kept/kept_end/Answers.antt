use Rattle.std.proofs.Common.{sym, ◌∙◌}
use Rattle.ax_migrate_views.proofs.KeptRecords.{kept_at}
use Rattle.ax_migrate_views.proofs.kept.kept_end.Goals as goal

pub is_short-requires-clause-field : goal.is_short-requires-clause-field
is_short-requires-clause-field c = record { at = c.args.at; field = c.in-Ok.ensures.ok }

pub returns : goal.returns
returns c =
    kept_at c.args.rows.now.codec.now c.args.kept.now c.args.body.now c.args.at c.in-Some.found.1 c.in-Ok.begin c.in-Some.found.0 c.read_presence.new.into c.common-leaving.result c.take_first-first.new.self c.as_slice-short.result.now c.take_first-first.result c.take_first.result _
    c.in-Some.ensures.codec c.in-Some.ensures.some c.in-Some.ensures.least c.if-not-notes.false c.in-Ok.ensures.ok c.common-leaving.ensures.common c.take_first-first.ensures.marks c.take_first-first.ensures.none c.take_first-first.ensures.within c.take_first.ensures.none (sym c.is_some.ensures ∙ c.if-is_some.false) c.as_slice-short.ensures.value (c.is_short.ensures c.if-not-is_short.false)
