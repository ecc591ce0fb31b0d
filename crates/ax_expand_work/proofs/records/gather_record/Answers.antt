use Rattle.std.proofs.Common.{sym}
use Rattle.ax_codec.specs.Table.{kind_at}
use Rattle.ax_expand_work.proofs.GatheredRecords.{content_few}
use Rattle.ax_expand_work.proofs.records.gather_record.Goals as goal

pub gather_content-requires : goal.gather_content-requires
gather_content-requires c =
    content_few c.in-Some.item.by_fx (kind_at c.in-Some.item.codec.now.nodes c.in-Some.item.link) c.in-Some.item.body.now c.in-Some-explicit.content.now c.in-Some.ensures.place.whole c.in-Some.item.item.bounds c.in-Some.item.item.one (sym c.in-Some-explicit.ensures)
