-- Presence fields of which a walk tells the octets.
use Rattle.std.specs.Prelude.{ℕ, ◌<◌, ◌≤◌, List}
use Rattle.std.specs.Coded.{Coded-set, coded_ℕ, le_prop}
use Rattle.ax_format.specs.Presence.{octets_needed}
use Rattle.ax_codec.specs.declared.codec.Codec.{Codec}
use Rattle.ax_walk.specs.Rows.{IsField}

-- a presence field of the codec's records, of so many octets, stands in front of these; 0 says nothing
pub record IsFieldTold (codec : Codec) (octets : List ℕ) (count : ℕ) : Type 0 where
  pub field : 0 < count → IsField octets 0 count
  pub few : 0 < count → count ≤ octets_needed codec.mask.count

IsField-prop : (body : List ℕ) (at count : ℕ) → IsProp (IsField body at count)
IsField-prop body at count a b = λ i. record {
  some = le_prop a.some b.some i;
  within = le_prop a.within b.within i;
  goes_on = λ j lt. Coded-set coded_ℕ _ _ (a.goes_on j lt) (b.goes_on j lt) i;
  ends = Coded-set coded_ℕ _ _ a.ends b.ends i;
}

pub IsFieldTold-prop : (codec : Codec) (octets : List ℕ) (count : ℕ) → IsProp (IsFieldTold codec octets count)
IsFieldTold-prop codec octets count a b = λ i. record {
  field = λ some. IsField-prop octets 0 count (a.field some) (b.field some) i;
  few = λ some. le_prop (a.few some) (b.few some) i;
}
