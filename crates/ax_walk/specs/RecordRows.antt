-- What records of a codec are walked over by.
use Rattle.std.specs.Prelude.{◌≡◌, ◌-◌, ◌≤◌, ℕ, List, length, map, take, drop, IfSome}
use Rattle.ax_format.specs.Tree.{KindTree}
use Rattle.ax_rows.specs.Rows.{AreRows}
use Rattle.ax_codec.specs.Extents.{AreExtents}
use Rattle.ax_codec.specs.NodeRows.{EachRows}
use Rattle.ax_codec.specs.Octets.{octets_of}
use Rattle.ax_codec.specs.Table.{record_kind_at}
use Rattle.ax_codec.specs.declared.codec.Codec.{Codec}
use Rattle.ax_walk.specs.declared.compound_rows.ByRows.{ByRows}
use Rattle.ax_walk.specs.declared.record_rows.RecordRows.{RecordRows}
use Rattle.ax_walk.specs.declared.record_rows.RowWalk.{RowWalk}
use Rattle.ax_walk.specs.declared.start.Start.{Start}

-- rows of the codec's compounds, and the extent of each of its nodes
pub record AreValueRows (codec : Codec) (values : ByRows) : Type 0 where
  pub compounds : EachRows (map octets_of codec.nodes) codec.nodes values.compounds.now
  pub extents : AreExtents codec.nodes values.extents.now
  pub each : length codec.nodes ≤ length values.extents.now

-- the same, and rows of the codec's slots
pub record AreRowsOfCodec (codec : Codec) (walk : RowWalk) : Type 0 where
  pub rows : AreRows (map octets_of codec.nodes) codec.slots walk.rows.start.now walk.rows.steps.now
  pub values : AreValueRows codec walk.values

-- they are its own codec's: the slots, and their rows, if there are some
pub record AreRecordRows (records : RecordRows) : Type 0 where
  pub nodes : records.slots.table.nodes.now ≡ records.codec.now.nodes
  pub mask : records.slots.mask.now ≡ records.codec.now.mask
  pub links : records.slots.links.now ≡ records.codec.now.slots
  pub by_rows : IfSome records.by_rows (AreRowsOfCodec records.codec.now)

-- ---- what is walked over by them

abbrev pub own_kind : RecordRows → KindTree
own_kind records = record_kind_at records.codec.now.nodes records.codec.now.slots

-- the octets from the start up to octet `end`
abbrev pub octets_to : Start → ℕ → List ℕ
octets_to start end = take (end - start.at) (drop start.at start.body.now)
