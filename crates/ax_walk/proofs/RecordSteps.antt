-- A record's octets alone.
use Rattle.std.proofs.Common.{ℕ, ◌-◌, ◌≤◌, Bool, List, length, take, drop, subst, sym, ap, ◌∙◌, arith, length-drop, refl}
use Rattle.std.proofs.lemmas.List.{length-take-le, append_cancel_right}
use Rattle.ax_bits.specs.Bits.{bits}
use Rattle.ax_format.specs.Canonical.{canon}
use Rattle.ax_codec.specs.Table.{record_kind_at}
use Rattle.ax_codec.specs.declared.codec.Codec.{Codec}
use Rattle.ax_fspec.proofs.AtOctets.{octets_parts}
use Rattle.ax_fspec.specs.Reading.{Gets, kind_read}
use Rattle.ax_walk.proofs.Found.{alone}
use Rattle.ax_walk.specs.Noted.{IsLeastRecord}
use Rattle.ax_walk.specs.RecordsAt.{IsRecordAt}
use Rattle.ax_walk.specs.Values.{IsOne}
use Rattle.ax_walk.specs.Walking.{Walks}

module _ (codec : Codec) (body : List ℕ) (at end : ℕ) (least : Bool) (w : Walks (canon (record_kind_at codec.nodes codec.slots)) (kind_read (record_kind_at codec.nodes codec.slots) body at) body at end least) where
  pub record_here : IsRecordAt codec body at end (take (end - at) (drop at body))
  record_here = record {
    window = refl;
    read = subst (Gets (kind_read (record_kind_at codec.nodes codec.slots) body at) body at end) (sym (alone (record_kind_at codec.nodes codec.slots) body at end w.value codec.records.bounds w.read).value) w.read;
  }

  pub record_one : length body ≤ 65532 → IsOne (record_kind_at codec.nodes codec.slots) (take (end - at) (drop at body))
  record_one few = record {
    all = (alone (record_kind_at codec.nodes codec.slots) body at end w.value codec.records.bounds w.read).all;
    few = omega (arith, w.read.forwards, w.read.within, few, length-drop at body, length-take-le (end - at) (drop at body) (omega (arith, length-drop at body, w.read.within)));
  }

  pub record_least : IsLeastRecord codec (take (end - at) (drop at body)) least
  record_least said =
      let x = bits (take (end - at) (drop at body)) in
      ap (canon (record_kind_at codec.nodes codec.slots)) (alone (record_kind_at codec.nodes codec.slots) body at end w.value codec.records.bounds w.read).value
      ∙ append_cancel_right (canon (record_kind_at codec.nodes codec.slots) w.value) x (bits (drop end body)) (w.canonical said ∙ octets_parts body at end w.read.forwards)
