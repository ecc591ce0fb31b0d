-- A record at an octet of a body.
use Rattle.std.specs.Prelude.{◌≡◌, ℕ, ◌-◌, List, take, drop}
use Rattle.ax_format.specs.declared.fault.BodyFault.{BodyFault}
use Rattle.ax_codec.specs.Table.{record_kind_at}
use Rattle.ax_codec.specs.declared.codec.Codec.{Codec}
use Rattle.ax_fspec.specs.Reading.{Gets, FailsAt, kind_read}
use Rattle.ax_walk.specs.Values.{value_in}

-- these are its octets, and the value that they spell is read there
pub record IsRecordAt (codec : Codec) (body : List ℕ) (at end : ℕ) (octets : List ℕ) : Type 0 where
  pub window : octets ≡ take (end - at) (drop at body)
  pub read : Gets (kind_read (record_kind_at codec.nodes codec.slots) body at) body at end (value_in (record_kind_at codec.nodes codec.slots) octets)

pub record IsNoRecord (codec : Codec) (body : List ℕ) (at : ℕ) : Type 0 where
  pub fault : BodyFault
  pub failed : FailsAt (kind_read (record_kind_at codec.nodes codec.slots) body at) at fault
