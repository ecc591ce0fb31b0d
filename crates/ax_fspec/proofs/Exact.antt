-- What the code reads is what the definitions say, and only that.
use Rattle.std.proofs.Common.{◌≡◌, ℕ, ◌-◌, ◌*◌, List, take, drop, sym, ◌∙◌, ap, arith, subst}
use Rattle.std.proofs.lemmas.List.{append_cancel_right}
use Rattle.ax_bits.proofs.Words.{bits-AreBits}
use Rattle.ax_bits.specs.Bits.{bits}
use Rattle.ax_format.proofs.Bounds.{bounds_sound}
use Rattle.ax_format.proofs.ByReading.{failed_by_reading, front_by_reading}
use Rattle.ax_format.proofs.Failed.{read_failed}
use Rattle.ax_format.specs.Reader.{Read, read, got, failed}
use Rattle.ax_format.proofs.Spelled.{read_spelled}
use Rattle.ax_format.specs.InBounds.{InBounds}
use Rattle.ax_format.specs.Spelling.{Spells}
use Rattle.ax_format.specs.Tree.{KindTree, ValueTree}
use Rattle.ax_format.specs.declared.fault.BodyCause.{BodyCause}
use Rattle.ax_format.specs.declared.fault.BodyFault.{BodyFault}
use Rattle.ax_fspec.proofs.AtOctets.{octets_parts, length-octets}
use Rattle.ax_fspec.specs.Reading.{IsSpelledAt, IsFaultAt, Gets, FailsAt, kind_read}

-- ---- from the reader to the definitions, and back

pub spelled_at : (k : KindTree) (body : List ℕ) (at end : ℕ) (v : ValueTree) → InBounds k → Gets (kind_read k body at) body at end v → IsSpelledAt k body at end v
unfolding kind_read
spelled_at k body at end v bounds h =
    let b = bits (drop at body) in
    let y = bits (drop end body) in
    let x = bits (take (end - at) (drop at body)) in
    let t = front_by_reading k v b y (8 * (end - at)) (bounds_sound k bounds) (bits-AreBits (drop at body)) h.got in
    let same : t.0 ≡ x = append_cancel_right t.0 x y (sym t.1 ∙ octets_parts body at end h.forwards) in
    record { forwards = h.forwards; within = h.within; spelling = record { spells = subst (Spells k v) same t.3 } }

pub fault_at : (k : KindTree) (body : List ℕ) (at : ℕ) (fault : BodyFault) → InBounds k → FailsAt (kind_read k body at) at fault → IsFaultAt k body at fault
unfolding kind_read
fault_at k body at fault bounds h = record {
  place = h.place;
  fails = record { fails = failed_by_reading k (bits (drop at body)) h.place fault.cause (bounds_sound k bounds) (bits-AreBits (drop at body)) h.failed };
  bit = h.bit;
}

pub gets_spelled : (k : KindTree) (body : List ℕ) (at end : ℕ) (v : ValueTree) → IsSpelledAt k body at end v → Gets (kind_read k body at) body at end v
unfolding kind_read
gets_spelled k body at end v h =
    let y = bits (drop end body) in
    let x = bits (take (end - at) (drop at body)) in
    record {
      forwards = h.forwards;
      within = h.within;
      got = ap (read k) (octets_parts body at end h.forwards) ∙ read_spelled k v x y h.spelling.spells ∙ ap (λ n. got v n y) (length-octets body at end h.forwards h.within);
    }

pub fails_faulty : (k : KindTree) (body : List ℕ) (at : ℕ) (fault : BodyFault) → IsFaultAt k body at fault → FailsAt (kind_read k body at) at fault
unfolding kind_read
fails_faulty k body at fault h = record { place = h.place; failed = read_failed k (bits (drop at body)) h.place fault.cause h.fails.fails; bit = h.bit }

-- ---- one answer

got_same : {v w : ValueTree} {m n : ℕ} {y z : List ℕ} → got v m y ≡ got w n z → (v ≡ w) × (m ≡ n)
got_same e = (cc, cc)

failed_same : {p q : ℕ} {c d : BodyCause} → ◌≡◌ {A = Read ValueTree} (failed p c) (failed q d) → (p ≡ q) × (c ≡ d)
failed_same e = (cc, cc)

apart : {v : ValueTree} {n p : ℕ} {y : List ℕ} {c : BodyCause} → got v n y ≡ failed p c → ⊥
apart e = cc

pub gets_once : (r : Read ValueTree) (body : List ℕ) (at m n : ℕ) (v w : ValueTree) → Gets r body at m v → Gets r body at n w → (v ≡ w) × (m ≡ n)
gets_once r body at m n v w g h =
    let t = got_same (sym g.got ∙ h.got) in
    let lengths : 8 * (m - at) ≡ 8 * (n - at) = t.1 in (t.0, omega (arith, g.forwards, h.forwards))

pub never_both : (r : Read ValueTree) (body : List ℕ) (at end : ℕ) (v : ValueTree) (fault : BodyFault) → Gets r body at end v → FailsAt r at fault → ⊥
never_both r body at end v fault g h = apart (sym g.got ∙ h.failed)

pub fails_at_once : (r : Read ValueTree) (at : ℕ) (one other : BodyFault) → FailsAt r at one → FailsAt r at other → one ≡ other
fails_at_once r at one other g h =
    let t = failed_same (sym g.failed ∙ h.failed) in
    let bits : one.bit ≡ other.bit = omega (arith, g.bit, h.bit, t.0) in λ i. record { cause = t.1 i; bit = bits i }
