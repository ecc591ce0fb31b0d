-- Records of a body, one after the other.
use Rattle.std.proofs.Common.{◌≡◌, ℕ, zero, suc, ◌+◌, ◌-◌, ◌<◌, ◌≤◌, Bool, IsTrue, List, [], ◌∷◌, ◌++◌, length, take, drop, refl, sym, ◌∙◌, ap, arith, subst, append_assoc, append-nil, take-append-drop, length-drop, take-add}
use Rattle.std.proofs.lemmas.List.{length-take-le, take_all, append_cancel_right}
use Rattle.ax_bits.proofs.Words.{bits-append, length-bits}
use Rattle.ax_bits.specs.Bits.{bits}
use Rattle.ax_format.proofs.BodyReader.{compound_some}
use Rattle.ax_format.proofs.Bounds.{record_bounds}
use Rattle.ax_format.proofs.Once.{body_once}
use Rattle.ax_format.specs.Bodies.{SpellsRecord, RecordsSpell, SpellsBody, CanonRecord, CanonBody}
use Rattle.ax_format.specs.Canonical.{canon}
use Rattle.ax_format.specs.Flaws.{NoFlaw}
use Rattle.ax_format.specs.InBounds.{InBounds}
use Rattle.ax_format.specs.Specification.{SpecTree, record_kind, record_slots}
use Rattle.ax_format.specs.Spelling.{Spells}
use Rattle.ax_format.specs.Tree.{SlotsTree, ValueTree, marked, EntriesTree, compound, slots_of}
use Rattle.ax_format.specs.declared.fault.BodyFault.{BodyFault}
use Rattle.ax_codec.proofs.BareKinds.{bare_read, bare_canon, stands_record}
use Rattle.ax_codec.specs.Standing.{StandsFor}
use Rattle.ax_codec.specs.Meaning.{meanings, linked_slots}
use Rattle.ax_codec.specs.Table.{record_kind_at}
use Rattle.ax_codec.specs.declared.codec.Codec.{Codec}
use Rattle.ax_codec.specs.declared.node.Node.{Node}
use Rattle.ax_fspec.proofs.AtOctets.{octets_parts}
use Rattle.ax_fspec.proofs.Exact.{spelled_at, fault_at}
use Rattle.ax_fspec.proofs.Honest.{body_honest}
use Rattle.ax_fspec.specs.Reading.{Gets, FailsAt, kind_read}
use Rattle.ax_walk.specs.Views.{IsLeast, SpellsSome, FailsThere, IsHonestThere}
use Rattle.ax_walk.specs.Walking.{Walks}

-- ---- a record's value is its entries

pub record IsRecordValue (ss : SlotsTree) (v : ValueTree) (b : List ℕ) : Type 0 where
  pub entries : EntriesTree
  pub is : v ≡ marked entries
  pub spells : Spells (compound ss) (marked entries) b

pub record_value : (ss : SlotsTree) (v : ValueTree) (b : List ℕ) → Spells (compound ss) v b → IsRecordValue ss v b
record_value ss (marked es) b h = record { entries = es; is = refl; spells = h }
record_value ss _ b h = absurd h

forwards : (ss : SlotsTree) (body : List ℕ) (at end : ℕ) (v : ValueTree) → InBounds (compound ss) → Gets (kind_read (compound ss) body at) body at end v → at < end
forwards ss body at end v bounds g = some (end - at) refl
  where
    some : (n : ℕ) → end - at ≡ n → at < end
    some zero e =
        let s = spelled_at (compound ss) body at end v bounds g in
        let r = record_value ss v (bits (take (end - at) (drop at body))) s.spelling.spells in
        absurd (let one = compound_some ss r.entries (bits (take (end - at) (drop at body))) r.spells in let none : length (bits (take (end - at) (drop at body))) ≡ 0 = ap (λ n. length (bits (take n (drop at body)))) e in omega arith)
    some (suc n) e = omega arith

pub record_forwards : (ns : List Node) (links body : List ℕ) (at end : ℕ) (least : Bool) → InBounds (record_kind_at ns links) → Walks (canon (record_kind_at ns links)) (kind_read (record_kind_at ns links) body at) body at end least → at < end
unfolding record_kind_at
record_forwards ns links body at end least bounds w = forwards (slots_of (linked_slots (meanings ns) links)) body at end w.value bounds w.read

-- ---- by a specification that the codec stands for

pub walks_of : (codec : Codec) (spec : SpecTree) (body : List ℕ) (at end : ℕ) (least : Bool) → StandsFor codec spec → Walks (canon (record_kind_at codec.nodes codec.slots)) (kind_read (record_kind_at codec.nodes codec.slots) body at) body at end least
    → Walks (canon (record_kind spec)) (kind_read (record_kind spec) body at) body at end least
unfolding kind_read
walks_of codec spec body at end least h w =
    let k = record_kind spec in
    let e = stands_record codec spec h in
    let r : kind_read (record_kind_at codec.nodes codec.slots) body at ≡ kind_read k body at = ap (λ k. kind_read k body at) e ∙ bare_read k (bits (drop at body)) in record {
      value = w.value;
      read = subst (λ r. Gets r body at end w.value) r w.read;
      canonical = λ f. ap (λ x. x ++ bits (drop end body)) (sym (ap (λ k. canon k w.value) e ∙ bare_canon k w.value)) ∙ w.canonical f;
    }

pub fails_of : (codec : Codec) (spec : SpecTree) (body : List ℕ) (at : ℕ) (fault : BodyFault) → StandsFor codec spec → FailsAt (kind_read (record_kind_at codec.nodes codec.slots) body at) at fault → FailsAt (kind_read (record_kind spec) body at) at fault
unfolding kind_read
fails_of codec spec body at fault h l =
    let k = record_kind spec in
    subst (λ r. FailsAt r at fault) (ap (λ k. kind_read k body at) (stands_record codec spec h) ∙ bare_read k (bits (drop at body))) l

-- ---- the records so far

pub record RecordsTo (spec : SpecTree) (body : List ℕ) (at : ℕ) (least : Bool) : Type 0 where
  pub records : List EntriesTree
  pub spelled : RecordsSpell spec records (bits (take at body))
  pub canonical : IsTrue least → CanonBody spec records ≡ bits (take at body)

pub record BodyTo (codec : Codec) (body : List ℕ) (at : ℕ) (least : Bool) : Type 0 where
  pub within : at ≤ length body
  pub records : (spec : SpecTree) → NoFlaw spec → StandsFor codec spec → RecordsTo spec body at least

pub body_first : (codec : Codec) (body : List ℕ) (least : Bool) → BodyTo codec body 0 least
body_first codec body least = record { within = omega arith; records = λ spec clean h. record { records = []; spelled = refl; canonical = λ f. refl } }

pub one_more : (spec : SpecTree) (rs : List EntriesTree) (r : EntriesTree) (x y : List ℕ) → RecordsSpell spec rs x → SpellsRecord spec r y → RecordsSpell spec (rs ++ r ∷ []) (x ++ y)
one_more spec [] r x y h g = (y, [], ap (λ x. x ++ y) h ∙ sym (append-nil y), g, refl)
one_more spec (s ∷ rs) r x y (u, v, e, h, t) g = (u, v ++ y, ap (λ x. x ++ y) e ∙ append_assoc u v y, h, one_more spec rs r v y t g)

pub canon_more : (spec : SpecTree) (rs : List EntriesTree) (r : EntriesTree) → CanonBody spec (rs ++ r ∷ []) ≡ CanonBody spec rs ++ CanonRecord spec r
canon_more spec [] r = append-nil (CanonRecord spec r)
canon_more spec (s ∷ rs) r = ap (λ x. CanonRecord spec s ++ x) (canon_more spec rs r) ∙ sym (append_assoc (CanonRecord spec s) (CanonBody spec rs) (CanonRecord spec r))

records_more : (codec : Codec) (spec : SpecTree) (body : List ℕ) (at end : ℕ) (before least : Bool) → NoFlaw spec → StandsFor codec spec → RecordsTo spec body at before → (IsTrue least → IsTrue before)
    → Walks (canon (record_kind_at codec.nodes codec.slots)) (kind_read (record_kind_at codec.nodes codec.slots) body at) body at end least → RecordsTo spec body end least
records_more codec spec body at end before least clean h t falls walked =
    let w = walks_of codec spec body at end least h walked in
    let x = bits (take (end - at) (drop at body)) in
    let s = spelled_at (record_kind spec) body at end w.value (record_bounds spec clean) w.read in
    let r = record_value (record_slots spec) w.value x s.spelling.spells in
    let joined : bits (take end body) ≡ bits (take at body) ++ x = ap (λ n. bits (take n body)) (let e : end ≡ at + (end - at) = omega (arith, s.forwards) in e) ∙ ap bits (take-add at (end - at) body) ∙ bits-append (take at body) (take (end - at) (drop at body)) in
    record {
      records = t.records ++ r.entries ∷ [];
      spelled = subst (RecordsSpell spec (t.records ++ r.entries ∷ [])) (sym joined) (one_more spec t.records r.entries (bits (take at body)) x t.spelled (record { spells = r.spells }));
      canonical = λ f. (
          let c : canon (record_kind spec) w.value ≡ x = append_cancel_right (canon (record_kind spec) w.value) x (bits (drop end body)) (w.canonical f ∙ octets_parts body at end s.forwards) in
          canon_more spec t.records r.entries ∙ (λ i. t.canonical (falls f) i ++ (sym (ap (canon (record_kind spec)) r.is) ∙ c) i) ∙ sym joined);
    }

pub body_next : (codec : Codec) (body : List ℕ) (at end : ℕ) (before least : Bool) → BodyTo codec body at before → (IsTrue least → IsTrue before)
    → Walks (canon (record_kind_at codec.nodes codec.slots)) (kind_read (record_kind_at codec.nodes codec.slots) body at) body at end least → BodyTo codec body end least
body_next codec body at end before least h falls w = record {
  within = w.read.within;
  records = λ spec clean stands. records_more codec spec body at end before least clean stands (h.records spec clean stands) falls w;
}

pub body_failed : (codec : Codec) (body : List ℕ) (at : ℕ) (before : Bool) (fault : BodyFault) → BodyTo codec body at before → at < length body → FailsAt (kind_read (record_kind_at codec.nodes codec.slots) body at) at fault → FailsThere codec body fault
body_failed codec body at before fault h lt l = record {
  fails = λ spec clean stands. (
      let t = h.records spec clean stands in
      let f = fault_at (record_kind spec) body at fault (record_bounds spec clean) (fails_of codec spec body at fault stands l) in
      record {
        records = t.records;
        before = bits (take at body);
        left = bits (drop at body);
        split = ap bits (sym (take-append-drop at body)) ∙ bits-append (take at body) (drop at body);
        spelled = t.spelled;
        some = omega (arith, length-bits (drop at body), length-drop at body);
        place = f.place;
        counted = omega (arith, f.bit, length-bits (take at body), length-take-le at body h.within);
        fails = record { fails = f.fails.fails };
      });
}

pub failed_honest : (codec : Codec) (body : List ℕ) (fault : BodyFault) → FailsThere codec body fault → IsHonestThere codec body fault
failed_honest codec body fault h = record { honest = λ spec clean stands. body_honest spec body fault.bit fault.cause clean (h.fails spec clean stands) }

pub some_records : (spec : SpecTree) (rs : List EntriesTree) (b : List ℕ) → RecordsSpell spec rs b → 0 < length b → 0 < length rs
some_records spec [] b h some = absurd (omega (arith, ap length h))
some_records spec (r ∷ rs) b h some = omega arith

module _ (codec : Codec) (body : List ℕ) (at : ℕ) (least : Bool) (h : BodyTo codec body at least) (past : length body ≤ at) (some : 1 ≤ length body) where
  whole : bits (take at body) ≡ bits body
  whole = ap bits (take_all at body past)

  spelled_by : (spec : SpecTree) (clean : NoFlaw spec) (stands : StandsFor codec spec) → SpellsBody spec (h.records spec clean stands).records (bits body)
  spelled_by spec clean stands =
      let s : RecordsSpell spec (h.records spec clean stands).records (bits body) = subst (RecordsSpell spec (h.records spec clean stands).records) whole (h.records spec clean stands).spelled in
      record { some = some_records spec (h.records spec clean stands).records (bits body) s (omega (arith, length-bits body)); spelled = s }

  pub body_spelled : SpellsSome codec body
  body_spelled = record { spells = λ spec clean stands. ((h.records spec clean stands).records, spelled_by spec clean stands) }

  pub body_least : IsLeast codec body least
  body_least spec records clean stands spells f =
      ap (CanonBody spec) (body_once spec (bits body) records (h.records spec clean stands).records spells (spelled_by spec clean stands)) ∙ (h.records spec clean stands).canonical f ∙ whole
