-- What a view's octets spell by the definitions.
use Rattle.std.proofs.Common.{Bool, List, [], ap, arith, drop, false, length, length-drop, refl, subst, sym, take, take-append-drop, true, ℕ, ◌*◌, ◌++◌, ◌+◌, ◌∙◌, ◌∷◌, ◌≡◌}
use Rattle.std.proofs.lemmas.List.{length-take-le}
use Rattle.ax_bits.proofs.Words.{bits-AreBits, length-bits}
use Rattle.ax_bits.specs.Bits.{AreBits, bits}
use Rattle.ax_format.proofs.FixedKinds.{split_at}
use Rattle.ax_format.proofs.Meets.{bits_of, fixed_all}
use Rattle.ax_format.specs.Reader.{Read, cut, failed, fixed_read, got, read, split}
use Rattle.ax_format.specs.Tree.{FixedTree, KindTree, ValueTree, by_fx, compound, counted, explicit, extended, fixed}
use Rattle.ax_format.specs.Widths.{width}
use Rattle.ax_walk.specs.Shown.{IsSpellingWithFx, SpellsOne}
use Rattle.ax_walk.specs.Values.{IsAll, IsItemOf, IsOne, IsRecord, ItemInBounds, SpellsAny, entries_in, value_in, value_read}
use Rattle.ax_format.proofs.Bounds.{bounds_sound, record_bounds}
use Rattle.ax_format.proofs.ByReading.{spelled_by_reading}
use Rattle.ax_format.specs.Bodies.{SpellsRecord}
use Rattle.ax_format.specs.Flaws.{NoFlaw}
use Rattle.ax_format.specs.InBounds.{InBounds}
use Rattle.ax_format.specs.Specification.{SpecTree, record_kind}
use Rattle.ax_format.specs.Spelling.{Spells}
use Rattle.ax_codec.proofs.BareKinds.{bare_read, stands_record}
use Rattle.ax_codec.specs.Standing.{StandsFor}
use Rattle.ax_codec.specs.Table.{record_kind_at}
use Rattle.ax_codec.specs.declared.codec.Codec.{Codec}
use Rattle.ax_walk.proofs.ItemSteps.{is_marked}
use Rattle.ax_walk.proofs.Plain.{plain_is}
use Rattle.ax_format.specs.Canonical.{canon}
use Rattle.ax_walk.specs.Plain.{IsPlain}

pub all_spelled : (k : KindTree) (xs : List ℕ) → InBounds k → (r : Read ValueTree) → read k (bits xs) ≡ r → IsAll r → Spells k (value_read r) (bits xs)
all_spelled k xs bounds (got v n y) e h = spelled_by_reading k v (bits xs) n (bounds_sound k bounds) (bits-AreBits xs) (e ∙ ap (λ y. got v n y) h)
all_spelled k xs bounds (failed p c) e h = absurd h

pub value_spelled : (k : KindTree) (xs : List ℕ) → InBounds k → IsOne k xs → Spells k (value_in k xs) (bits xs)
unfolding value_in
value_spelled k xs bounds one = all_spelled k xs bounds (read k (bits xs)) refl one.all

pub record_spelled : (codec : Codec) (octets : List ℕ) → IsRecord codec octets → SpellsAny codec octets
unfolding value_in
record_spelled codec octets one = record { spells = λ spec clean stands. by spec clean stands }
  where
    same : (spec : SpecTree) → StandsFor codec spec → read (record_kind_at codec.nodes codec.slots) (bits octets) ≡ read (record_kind spec) (bits octets)
    same spec stands = ap (λ k. read k (bits octets)) (stands_record codec spec stands) ∙ bare_read (record_kind spec) (bits octets)

    value : (spec : SpecTree) → StandsFor codec spec → value_read (read (record_kind spec) (bits octets)) ≡ value_in (record_kind_at codec.nodes codec.slots) octets
    value spec stands = ap value_read (sym (same spec stands))

    by : (spec : SpecTree) → NoFlaw spec → StandsFor codec spec → SpellsRecord spec (entries_in (value_in (record_kind_at codec.nodes codec.slots) octets)) (bits octets)
    by spec clean stands = record {
      spells = subst (λ v. Spells (record_kind spec) v (bits octets)) (value spec stands ∙ is_marked codec.nodes codec.slots octets)
          (all_spelled (record_kind spec) octets (record_bounds spec clean) (read (record_kind spec) (bits octets)) refl (subst IsAll (same spec stands) one.all));
    }

-- the octets of a value without a presence field are its canonical spelling
pub leaf_canonical : (k : KindTree) (octets : List ℕ) → IsPlain k → InBounds k → IsOne k octets → canon k (value_in k octets) ≡ bits octets
unfolding value_in
leaf_canonical k octets plain bounds one = plain_is k (value_read (read k (bits octets))) (bits octets) plain (all_spelled k octets bounds (read k (bits octets)) refl one.all)

-- ---- an item

last_bit : (z : List ℕ) → length z ≡ 1 → (fx : ℕ) × (z ≡ fx ∷ [])
last_bit [] l = absurd (omega arith)
last_bit (a ∷ []) l = (a, refl)
last_bit (a ∷ b ∷ z) l = absurd (omega arith)

with_fx : (f : FixedTree) (xs : List ℕ) → width f + 1 ≡ 8 * length xs → IsSpellingWithFx (fixed f) (value_in (fixed f) xs) (bits xs)
unfolding value_in
with_fx f xs long =
    let front = take (width f) (bits xs) in
    let rest = drop (width f) (bits xs) in
    let joined : front ++ rest ≡ bits xs = take-append-drop (width f) (bits xs) in
    let l : length front ≡ width f = length-take-le (width f) (bits xs) (omega (arith, length-bits xs)) in
    let t = last_bit rest (omega (arith, length-drop (width f) (bits xs), length-bits xs)) in
    let cut_is : split (width f) (bits xs) ≡ cut front rest = ap (split (width f)) (sym joined) ∙ split_at front rest (width f) l in
    let bit : AreBits front = (bits_of (bits xs) front rest (sym joined) (bits-AreBits xs)).0 in
    record {
      front = front;
      fx = t.0;
      split = sym joined ∙ ap (λ z. front ++ z) t.1;
      spells = subst (λ v. Spells (fixed f) v front) (sym (ap (λ s. value_read (fixed_read f s)) cut_is)) (fixed_all f front bit l);
    }

pub item_spells : (fx : Bool) (k : KindTree) (xs : List ℕ) → ItemInBounds fx k → IsItemOf fx k xs → SpellsOne fx k (value_in k xs) (bits xs)
unfolding value_in
item_spells false k xs bounds one = record { spells = all_spelled k xs bounds (read k (bits xs)) refl one.all }
item_spells true (fixed f) xs bounds one = with_fx f xs one.fits
item_spells true (extended last ps) xs bounds one = absurd bounds
item_spells true (counted size k) xs bounds one = absurd bounds
item_spells true (by_fx f) xs bounds one = absurd bounds
item_spells true explicit xs bounds one = absurd bounds
item_spells true (compound ss) xs bounds one = absurd bounds
