-- Records written one after the other.
use Rattle.std.proofs.Common.{◌≡◌, ℕ, ◌+◌, ◌-◌, ◌*◌, ◌<◌, ◌≤◌, ◌⊎◌, inl, inr, false, List, [], ◌∷◌, ◌++◌, length, take, drop, refl, sym, ◌∙◌, ap, arith, subst, take-append-drop, take-add, length-drop, length-append}
use Rattle.std.proofs.lemmas.List.{length-take-le, take_all}
use Rattle.ax_bits.proofs.Outputs.{appends_none, appends_more}
use Rattle.ax_bits.proofs.Words.{bits-append, length-bits}
use Rattle.ax_bits.specs.Bits.{bits}
use Rattle.ax_bits.specs.Out.{Appends, room}
use Rattle.ax_bits.specs.declared.output.Out.{Out}
use Rattle.ax_canon.proofs.Fronting.{some_more}
use Rattle.ax_canon.specs.Blocks.{IsCanonicalBody}
use Rattle.ax_canon.specs.Rewriting.{Rewrites}
use Rattle.ax_format.proofs.BodyReader.{record_some}
use Rattle.ax_format.proofs.Bounds.{record_bounds}
use Rattle.ax_format.proofs.Once.{body_once, body_never_both}
use Rattle.ax_format.specs.Bodies.{RecordsSpell, SpellsBody, FailsBody, CanonBody}
use Rattle.ax_format.specs.Canonical.{canon}
use Rattle.ax_format.specs.Flaws.{NoFlaw}
use Rattle.ax_format.specs.InBounds.{InBounds}
use Rattle.ax_format.specs.Specification.{SpecTree, record_kind, record_slots}
use Rattle.ax_format.specs.Tree.{EntriesTree, ValueTree, marked}
use Rattle.ax_format.specs.declared.fault.BodyFault.{BodyFault}
use Rattle.ax_codec.proofs.BareKinds.{bare_canon, bare_read, stands_record}
use Rattle.ax_codec.specs.Standing.{StandsFor}
use Rattle.ax_codec.specs.Table.{record_kind_at}
use Rattle.ax_codec.specs.declared.codec.Codec.{Codec}
use Rattle.ax_fspec.proofs.Exact.{spelled_at, fault_at}
use Rattle.ax_fspec.specs.Reading.{Gets, FailsAt, kind_read}
use Rattle.ax_walk.proofs.BodySteps.{fails_of, one_more, canon_more, record_value, some_records, record_forwards}

pub gets_of : (codec : Codec) (spec : SpecTree) (body : List ℕ) (at end : ℕ) (v : ValueTree) → StandsFor codec spec → Gets (kind_read (record_kind_at codec.nodes codec.slots) body at) body at end v → Gets (kind_read (record_kind spec) body at) body at end v
unfolding kind_read
gets_of codec spec body at end v h g =
    let k = record_kind spec in
    subst (λ r. Gets r body at end v) (ap (λ k. kind_read k body at) (stands_record codec spec h) ∙ bare_read k (bits (drop at body))) g

-- the records in front are written
pub record RecordsWritten (spec : SpecTree) (body : List ℕ) (at : ℕ) (old now : Out) : Type 0 where
  pub records : List EntriesTree
  pub spelled : RecordsSpell spec records (bits (take at body))
  pub appends : Appends old now (CanonBody spec records)

-- or the body fails
pub record BodyWrites (codec : Codec) (body : List ℕ) (at : ℕ) (old now : Out) : Type 0 where
  pub within : at ≤ length body
  pub room : 8 * (length body - at) ≤ room now
  pub some : (b : List ℕ) × Appends old now b
  pub records : (spec : SpecTree) → NoFlaw spec → StandsFor codec spec → RecordsWritten spec body at old now ⊎ ((fault : BodyFault) × FailsBody spec (bits body) fault.bit fault.cause)

pub body_first : (codec : Codec) (body : List ℕ) (out : Out) → 8 * length body ≤ room out → BodyWrites codec body 0 out out
body_first codec body out free = record { within = omega arith; room = omega arith; some = ([], appends_none out); records = λ spec clean stands. inl (record { records = []; spelled = refl; appends = appends_none out }) }

module _ (codec : Codec) (body : List ℕ) (at end : ℕ) (old now new : Out) (h : BodyWrites codec body at old now) (lt : at < length body)
    (r : Rewrites (canon (record_kind_at codec.nodes codec.slots)) (kind_read (record_kind_at codec.nodes codec.slots) body at) body at end now new) where
  failed : (spec : SpecTree) → NoFlaw spec → StandsFor codec spec → RecordsWritten spec body at old now → (fault : BodyFault) → FailsAt (kind_read (record_kind_at codec.nodes codec.slots) body at) at fault → FailsBody spec (bits body) fault.bit fault.cause
  failed spec clean stands t fault l =
      let f = fault_at (record_kind spec) body at fault (record_bounds spec clean) (fails_of codec spec body at fault stands l) in
      record {
        records = t.records;
        before = bits (take at body);
        left = bits (drop at body);
        split = ap bits (sym (take-append-drop at body)) ∙ bits-append (take at body) (drop at body);
        spelled = t.spelled;
        some = omega (arith, length-bits (drop at body), length-drop at body);
        place = f.place;
        counted = omega (arith, f.bit, length-bits (take at body), length-take-le at body h.within);
        fails = record { fails = f.fails.fails };
      }

  written_more : (spec : SpecTree) → NoFlaw spec → StandsFor codec spec → RecordsWritten spec body at old now → (v : ValueTree) → Gets (kind_read (record_kind_at codec.nodes codec.slots) body at) body at end v → Appends now new (canon (record_kind_at codec.nodes codec.slots) v)
      → RecordsWritten spec body end old new
  written_more spec clean stands t v g a =
      let own = gets_of codec spec body at end v stands g in
      let x = bits (take (end - at) (drop at body)) in
      let s = spelled_at (record_kind spec) body at end v (record_bounds spec clean) own in
      let q = record_value (record_slots spec) v x s.spelling.spells in
      let joined : bits (take end body) ≡ bits (take at body) ++ x = ap (λ n. bits (take n body)) (let e : end ≡ at + (end - at) = omega (arith, s.forwards) in e) ∙ ap bits (take-add at (end - at) body) ∙ bits-append (take at body) (take (end - at) (drop at body)) in
      let same : canon (record_kind_at codec.nodes codec.slots) v ≡ canon (record_kind spec) (marked q.entries) = ap (λ k. canon k v) (stands_record codec spec stands) ∙ bare_canon (record_kind spec) v ∙ ap (canon (record_kind spec)) q.is in
      record {
        records = t.records ++ q.entries ∷ [];
        spelled = subst (RecordsSpell spec (t.records ++ q.entries ∷ [])) (sym joined) (one_more spec t.records q.entries (bits (take at body)) x t.spelled (record { spells = q.spells }));
        appends = appends_more old now new (CanonBody spec t.records) (canon (record_kind spec) (marked q.entries)) (CanonBody spec (t.records ++ q.entries ∷ [])) (canon_more spec t.records q.entries) t.appends (subst (Appends now new) same a);
      }

  next : (spec : SpecTree) → NoFlaw spec → StandsFor codec spec → RecordsWritten spec body at old now ⊎ ((fault : BodyFault) × FailsBody spec (bits body) fault.bit fault.cause)
      → ((v : ValueTree) × Gets (kind_read (record_kind_at codec.nodes codec.slots) body at) body at end v × Appends now new (canon (record_kind_at codec.nodes codec.slots) v)) ⊎ ((fault : BodyFault) × FailsAt (kind_read (record_kind_at codec.nodes codec.slots) body at) at fault)
      → RecordsWritten spec body end old new ⊎ ((fault : BodyFault) × FailsBody spec (bits body) fault.bit fault.cause)
  next spec clean stands (inr f) state = inr f
  next spec clean stands (inl t) (inl (v, g, a)) = inl (written_more spec clean stands t v g a)
  next spec clean stands (inl t) (inr (fault, l)) = inr (fault, failed spec clean stands t fault l)

  pub body_next : BodyWrites codec body end old new
  body_next = record { within = r.within; room = r.room; some = some_more old now new h.some r.some; records = λ spec clean stands. next spec clean stands (h.records spec clean stands) r.state }

-- a body whose reading doesn't go on fails
none_on : (codec : Codec) (spec : SpecTree) (body : List ℕ) (at end : ℕ) (old now new : Out) → BodyWrites codec body at old now → at < length body
    → Rewrites (canon (record_kind_at codec.nodes codec.slots)) (kind_read (record_kind_at codec.nodes codec.slots) body at) body at end now new → end ≤ at → InBounds (record_kind_at codec.nodes codec.slots) → NoFlaw spec → StandsFor codec spec
    → (fault : BodyFault) × FailsBody spec (bits body) fault.bit fault.cause
none_on codec spec body at end old now new h lt r stays bounds clean stands = by (h.records spec clean stands) r.state
  where
    by : RecordsWritten spec body at old now ⊎ ((fault : BodyFault) × FailsBody spec (bits body) fault.bit fault.cause)
        → ((v : ValueTree) × Gets (kind_read (record_kind_at codec.nodes codec.slots) body at) body at end v × Appends now new (canon (record_kind_at codec.nodes codec.slots) v)) ⊎ ((fault : BodyFault) × FailsAt (kind_read (record_kind_at codec.nodes codec.slots) body at) at fault)
        → (fault : BodyFault) × FailsBody spec (bits body) fault.bit fault.cause
    by (inr f) state = f
    by (inl t) (inr (fault, l)) = (fault, failed codec body at end old now new h lt r spec clean stands t fault l)
    by (inl t) (inl (v, g, a)) =
        absurd (let on : at < end = record_forwards codec.nodes codec.slots body at end false bounds (record { value = v; read = g; canonical = λ no_flag. cc }) in omega arith)

pub body_stays : (codec : Codec) (body : List ℕ) (at end : ℕ) (old now new : Out) → BodyWrites codec body at old now → at < length body
    → Rewrites (canon (record_kind_at codec.nodes codec.slots)) (kind_read (record_kind_at codec.nodes codec.slots) body at) body at end now new → end ≤ at → InBounds (record_kind_at codec.nodes codec.slots) → IsCanonicalBody codec body old new
body_stays codec body at end old now new h lt r stays bounds = record {
  written = λ spec records clean stands spells. (
      let f = none_on codec spec body at end old now new h lt r stays bounds clean stands in
      absurd (body_never_both spec (bits body) records f.0.bit f.0.cause spells f.1));
  some = some_more old now new h.some r.some;
}

pub some_bits : (spec : SpecTree) (body : List ℕ) (records : List EntriesTree) → SpellsBody spec records (bits body) → 0 < length (bits body)
some_bits spec body [] sp = absurd (omega (arith, sp.some))
some_bits spec body (r ∷ rs) sp = (let one = record_some spec r sp.spelled.0 sp.spelled.3 in omega (arith, ap length sp.spelled.2, length-append sp.spelled.0 sp.spelled.1))

pub body_last : (codec : Codec) (body : List ℕ) (at : ℕ) (old now : Out) → BodyWrites codec body at old now → length body ≤ at → IsCanonicalBody codec body old now
body_last codec body at old now h past = record { written = λ spec records clean stands spells. by spec records spells (h.records spec clean stands); some = h.some }
  where
    by : (spec : SpecTree) (records : List EntriesTree) → SpellsBody spec records (bits body) → RecordsWritten spec body at old now ⊎ ((fault : BodyFault) × FailsBody spec (bits body) fault.bit fault.cause) → Appends old now (CanonBody spec records)
    by spec records spells (inr (fault, f)) = absurd (body_never_both spec (bits body) records fault.bit fault.cause spells f)
    by spec records spells (inl w) =
        let s : RecordsSpell spec w.records (bits body) = subst (RecordsSpell spec w.records) (ap bits (take_all at body past)) w.spelled in
        let some = some_bits spec body records spells in
        let own : SpellsBody spec w.records (bits body) = record { some = some_records spec w.records (bits body) s some; spelled = s } in
        subst (λ rs. Appends old now (CanonBody spec rs)) (body_once spec (bits body) w.records records own spells) w.appends
