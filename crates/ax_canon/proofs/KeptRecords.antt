-- Kept records written one after the other.
use Rattle.std.proofs.Common.{◌≡◌, ℕ, ◌+◌, ◌-◌, ◌*◌, ◌/◌, ◌<◌, ◌≤◌, ◌⊎◌, inl, inr, Bool, true, false, not, List, [], ◌∷◌, ◌++◌, length, take, drop, refl, sym, ◌∙◌, ap, arith, subst, take-append-drop, take-add, length-drop, length-append, append_assoc, append-nil}
use Rattle.std.proofs.lemmas.List.{drop-drop, length-take-le, take_all}
use Rattle.std.specs.List.{AllByRecursion}
use Rattle.ax_bits.proofs.Outputs.{appends_more, appends_none}
use Rattle.ax_bits.proofs.Words.{bits-append, length-bits, length-word}
use Rattle.ax_bits.specs.Bits.{bits, word}
use Rattle.ax_bits.specs.Out.{Appends, loan, room, written}
use Rattle.ax_bits.specs.declared.output.Out.{Out}
use Rattle.ax_canon.proofs.BodyWriting.{gets_of}
use Rattle.ax_canon.proofs.Patching.{IsBlock, block_of}
use Rattle.ax_canon.specs.Blocks.{IsCanonical}
use Rattle.ax_canon.specs.Kept.{Says, Keeps, KeepsOf, kept_octets, IsCanonicalIf, StartsRecord, at_front, after_one, are_some, front_if, block_if, room_for, KeptWritten, IsKeptBody, HasLength}
use Rattle.ax_canon.specs.Rewriting.{Rewrites}
use Rattle.ax_format.proofs.Bounds.{record_bounds}
use Rattle.ax_format.proofs.CanonSpells.{canon_shortest}
use Rattle.ax_format.proofs.Once.{body_once, body_never_both}
use Rattle.ax_format.proofs.RecordLaws.{record_shape}
use Rattle.ax_format.specs.Blocks.{read_block}
use Rattle.ax_format.specs.CanonicalOctets.{canon_block}
use Rattle.ax_format.specs.Bodies.{RecordsSpell, RecordShape, SpellsRecord, SpellsBody, CanonBody}
use Rattle.ax_format.specs.Canonical.{canon}
use Rattle.ax_format.specs.Flaws.{NoFlaw}
use Rattle.ax_format.specs.Specification.{SpecTree, record_kind, record_slots}
use Rattle.ax_format.specs.Tree.{EntriesTree, ValueTree, marked}
use Rattle.ax_format.specs.declared.fault.BodyFault.{BodyFault}
use Rattle.ax_codec.proofs.BareKinds.{bare_canon, stands_record}
use Rattle.ax_codec.specs.Standing.{StandsFor}
use Rattle.ax_codec.specs.Table.{record_kind_at}
use Rattle.ax_codec.specs.declared.codec.Codec.{Codec}
use Rattle.ax_fspec.proofs.Exact.{spelled_at, fault_at}
use Rattle.ax_fspec.specs.Reading.{Gets, FailsAt, kind_read}
use Rattle.ax_walk.proofs.BodySteps.{fails_of, one_more, canon_more, record_value, some_records, record_forwards}
use Rattle.ax_walk.proofs.Found.{read_all}
use Rattle.ax_walk.proofs.Spelled.{value_spelled}
use Rattle.ax_walk.specs.Noted.{canon_in}
use Rattle.ax_walk.specs.RecordsAt.{IsRecordAt}
use Rattle.ax_walk.specs.Values.{IsRecord, value_read, value_in}
use Rattle.ax_walk.specs.Views.{SpellsSome, FailsThere}
use Rattle.ax_walk.specs.declared.record.RecordView.{RecordView}

-- ---- one record

pub written_anew : (codec : Codec) (octets : List ℕ) (end : ℕ) (old new : Out) → IsRecord codec octets
    → Rewrites (canon (record_kind_at codec.nodes codec.slots)) (kind_read (record_kind_at codec.nodes codec.slots) octets 0) octets 0 end old new → Appends old new (canon_in codec octets)
unfolding kind_read value_in
written_anew codec octets end old new one r = by r.state
  where
    by : ((v : ValueTree) × Gets (kind_read (record_kind_at codec.nodes codec.slots) octets 0) octets 0 end v × Appends old new (canon (record_kind_at codec.nodes codec.slots) v)) ⊎ ((fault : BodyFault) × FailsAt (kind_read (record_kind_at codec.nodes codec.slots) octets 0) 0 fault) → Appends old new (canon_in codec octets)
    by (inl (v, g, a)) = subst (λ v. Appends old new (canon (record_kind_at codec.nodes codec.slots) v)) (sym (ap value_read g.got)) a
    by (inr (fault, l)) = absurd (read_all (record_kind_at codec.nodes codec.slots) octets 0 fault l one.all)

front_length : (category : ℕ) → length (word 8 category ++ word 16 0) ≡ 24
front_length category = omega (arith, length-append (word 8 category) (word 16 0), length-word 8 category, length-word 16 0)

-- no record is longer in its canonical spelling
canon_few : (codec : Codec) (octets : List ℕ) → IsRecord codec octets → length (canon_in codec octets) ≤ 8 * length octets
canon_few codec octets one =
    omega (arith, length-bits octets, canon_shortest (record_kind_at codec.nodes codec.slots) (value_in (record_kind_at codec.nodes codec.slots) octets) (bits octets) (value_spelled (record_kind_at codec.nodes codec.slots) octets codec.records.bounds one))

-- ---- one more answer at the end

keeps_skip : (says : EntriesTree → Bool → Type 0) (rs ks : List EntriesTree) (r : EntriesTree) → Keeps says rs ks → says r false → Keeps says (rs ++ r ∷ []) ks
keeps_skip says [] ks r h s = inl (s, h)
keeps_skip says (q ∷ rs) ks r (inl (n, t)) s = inl (n, keeps_skip says rs ks r t s)
keeps_skip says (q ∷ rs) ks r (inr (rest, y, e, t)) s = inr (rest, y, e, keeps_skip says rs rest r t s)

keeps_take : (says : EntriesTree → Bool → Type 0) (rs ks : List EntriesTree) (r : EntriesTree) → Keeps says rs ks → says r true → Keeps says (rs ++ r ∷ []) (ks ++ r ∷ [])
keeps_take says [] ks r h s = inr ([], s, ap (λ ks. ks ++ r ∷ []) h, refl)
keeps_take says (q ∷ rs) ks r (inl (n, t)) s = inl (n, keeps_take says rs ks r t s)
keeps_take says (q ∷ rs) ks r (inr (rest, y, e, t)) s = inr (rest ++ r ∷ [], y, ap (λ ks. ks ++ r ∷ []) e, keeps_take says rs rest r t s)

some_with : (ks : List EntriesTree) (r : EntriesTree) → are_some (ks ++ r ∷ []) ≡ true
some_with [] r = refl
some_with (k ∷ ks) r = refl

-- ---- octets that are still to be written

-- of what comes after the old output so much was written, and the rest is still to be written
pub record Pends (old now : Out) (rest x : List ℕ) : Type 0 where
  pub front : List ℕ
  pub appends : Appends old now front
  pub whole : x ≡ front ++ rest

pends_more : (old now : Out) (rest x y : List ℕ) → Pends old now rest x → Pends old now (rest ++ y) (x ++ y)
pends_more old now rest x y p = record { front = p.front; appends = p.appends; whole = ap (λ z. z ++ y) p.whole ∙ append_assoc p.front rest y }

pends_written : (old now new : Out) (rest x y : List ℕ) → Pends old now rest x → Appends now new (rest ++ y) → Pends old new [] (x ++ y)
pends_written old now new rest x y p a = record {
  front = x ++ y;
  appends = appends_more old now new p.front (rest ++ y) (x ++ y) (ap (λ z. z ++ y) p.whole ∙ append_assoc p.front rest y) p.appends a;
  whole = sym (append-nil (x ++ y));
}

-- CAT and LEN stand before the first record
pends_fronted : (some : Bool) (category : ℕ) (b rest : List ℕ) (old now new : Out) → (some ≡ false → b ≡ []) → (some ≡ false → rest ≡ []) → Pends old now rest (block_if some category b) → Appends now new (front_if (not some) category) → Pends old new rest (block_if true category b)
pends_fronted true category b rest old now new none empty p a = record { front = p.front; appends = appends_more old now new p.front [] p.front (sym (append-nil p.front)) p.appends a; whole = p.whole }
pends_fronted false category b rest old now new none empty p a =
    let f = word 8 category ++ word 16 0 in
    let nothing : p.front ≡ [] = sym (p.whole ∙ ap (λ r. p.front ++ r) (empty refl) ∙ append-nil p.front) in
    record {
      front = f;
      appends = appends_more old now new p.front f f (sym (ap (λ x. x ++ f) nothing)) p.appends a;
      whole = ap (λ x. f ++ x) (none refl ∙ sym (empty refl));
    }

none_kept : (spec : SpecTree) (kept : List EntriesTree) → are_some kept ≡ false → CanonBody spec kept ≡ []
none_kept spec [] e = refl
none_kept spec (k ∷ kept) e = absurd (let no : true ≡ false = e in cc)

-- ---- along the body

-- the octets of a body from one place up to another
abbrev run : List ℕ → ℕ → ℕ → List ℕ
run body from at = take (at - from) (drop from body)

no_run : (body : List ℕ) (at : ℕ) → bits (run body at at) ≡ []
no_run body at = ap (λ n. bits (take n (drop at body))) (let e : at - at ≡ 0 = omega arith in e)

run_more : (body : List ℕ) (from at end : ℕ) → from ≤ at → at ≤ end → bits (run body from end) ≡ bits (run body from at) ++ bits (run body at end)
run_more body from at end before on =
    ap (λ n. bits (take n (drop from body))) (let e : end - from ≡ (at - from) + (end - at) = omega (arith, before, on) in e)
    ∙ ap bits (take-add (at - from) (end - at) (drop from body)) ∙ bits-append (run body from at) (take (end - at) (drop (at - from) (drop from body)))
    ∙ ap (λ x. bits (run body from at) ++ bits (take (end - at) x)) (drop-drop (at - from) from body ∙ ap (λ n. drop n body) (let e : from + (at - from) ≡ at = omega (arith, before) in e))

run_length : (body : List ℕ) (from at : ℕ) → from ≤ at → at ≤ length body → length (run body from at) ≡ at - from
run_length body from at before within = length-take-le (at - from) (drop from body) (omega (arith, length-drop from body, before, within))

-- the kept ones of the first records, of which those from a place on are still to be written
pub record KeptPending (call : RecordView → Bool → Type 0) (codec : Codec) (spec : SpecTree) (records : List EntriesTree) (some : Bool) (rest : List ℕ) (old now : Out) : Type 0 where
  pub kept : List EntriesTree
  pub keeps : Keeps (Says call codec spec) records kept
  pub said : are_some kept ≡ some
  pub pends : Pends old now rest (block_if some codec.category (CanonBody spec kept))

pub record RecordsKept (call : RecordView → Bool → Type 0) (codec : Codec) (spec : SpecTree) (body : List ℕ) (from at : ℕ) (some : Bool) (old now : Out) : Type 0 where
  pub records : List EntriesTree
  pub spelled : RecordsSpell spec records (bits (take at body))
  pub kept : KeptPending call codec spec records some (bits (run body from at)) old now

pub record BodyKeeps (call : RecordView → Bool → Type 0) (codec : Codec) (body : List ℕ) (from at : ℕ) (some : Bool) (old now : Out) : Type 0 where
  pub before : from ≤ at
  pub within : at ≤ length body
  pub starts : StartsRecord codec body at
  pub room : room_for some (8 * (length body - from)) ≤ room now
  pub b : List ℕ
  pub none : some ≡ false → b ≡ []
  pub empty : some ≡ false → from ≡ at
  pub pends : Pends old now (bits (run body from at)) (block_if some codec.category b)
  pub records : (spec : SpecTree) → NoFlaw spec → StandsFor codec spec → RecordsKept call codec spec body from at some old now

pub kept_first : (call : RecordView → Bool → Type 0) (codec : Codec) (body : List ℕ) (old : Out) → 8 * (length body + 3) ≤ room old → BodyKeeps call codec body 0 0 false old old
kept_first call codec body old free =
    let none : Pends old old (bits (run body 0 0)) [] = record { front = []; appends = appends_none old; whole = sym (no_run body 0) } in record {
      before = omega arith;
      within = omega arith;
      starts = at_front;
      room = omega (arith, free);
      b = [];
      none = λ _. refl;
      empty = λ _. refl;
      pends = none;
      records = λ spec clean stands. record { records = []; spelled = refl; kept = record { kept = []; keeps = refl; said = refl; pends = none } };
    }

module _ (call : RecordView → Bool → Type 0) (codec : Codec) (body : List ℕ) (from at end : ℕ) (some : Bool) (old now : Out) (view : RecordView) (same : view.codec.now ≡ codec) (h : BodyKeeps call codec body from at some old now) (r : IsRecordAt codec body at end view.body.now) where
  value : ValueTree
  value = value_in (record_kind_at codec.nodes codec.slots) view.body.now

  pub goes_on : at < end
  unfolding value
  goes_on = record_forwards codec.nodes codec.slots body at end false codec.records.bounds (record { value = value; read = r.read; canonical = λ flag. cc })

  long : length view.body.now ≡ end - at
  long = ap length r.window ∙ length-take-le (end - at) (drop at body) (omega (arith, length-drop at body, r.read.within))

  record More (spec : SpecTree) (rs : List EntriesTree) : Type 0 where
    one : EntriesTree
    is : value ≡ marked one
    spelled : SpellsRecord spec one (bits view.body.now)
    all : RecordsSpell spec (rs ++ one ∷ []) (bits (take end body))

  more : (spec : SpecTree) → NoFlaw spec → StandsFor codec spec → (t : RecordsKept call codec spec body from at some old now) → More spec t.records
  unfolding value
  more spec clean stands t =
      let own = gets_of codec spec body at end value stands r.read in
      let x = bits (take (end - at) (drop at body)) in
      let s = spelled_at (record_kind spec) body at end value (record_bounds spec clean) own in
      let q = record_value (record_slots spec) value x s.spelling.spells in
      let joined : bits (take end body) ≡ bits (take at body) ++ x = ap (λ n. bits (take n body)) (let e : end ≡ at + (end - at) = omega (arith, s.forwards) in e) ∙ ap bits (take-add at (end - at) body) ∙ bits-append (take at body) (take (end - at) (drop at body)) in
      record {
        one = q.entries;
        is = q.is;
        spelled = subst (λ xs. SpellsRecord spec q.entries (bits xs)) (sym r.window) (record { spells = q.spells });
        all = subst (RecordsSpell spec (t.records ++ q.entries ∷ [])) (sym joined) (one_more spec t.records q.entries (bits (take at body)) x t.spelled (record { spells = q.spells }));
      }

  no_rest : some ≡ false → bits (run body from at) ≡ []
  no_rest e = ap (λ n. bits (run body n at)) (h.empty e) ∙ no_run body at

  few_run : length (bits (run body from at)) ≡ 8 * (at - from)
  few_run = length-bits (run body from at) ∙ ap (λ n. 8 * n) (run_length body from at h.before h.within)

  -- ---- a record that isn't kept

  pub room_for_run : 8 * length (run body from at) ≤ room now
  room_for_run = by some h.room
    where
      by : (b : Bool) → room_for b (8 * (length body - from)) ≤ room now → 8 * length (run body from at) ≤ room now
      by true free = omega (arith, run_length body from at h.before h.within, h.before, h.within)
      by false free = omega (arith, run_length body from at h.before h.within, h.before, h.within)

  module _ (new : Out) (w : Appends now new (bits (run body from at))) where
    room_skipped : (b : Bool) → room_for b (8 * (length body - from)) ≤ room now → room_for b (8 * (length body - end)) ≤ room new
    room_skipped true free = let on = goes_on in omega (arith, w.room, few_run, h.before, h.within, r.read.within)
    room_skipped false free = let on = goes_on in omega (arith, w.room, few_run, h.before, h.within, r.read.within)

    nothing_left : (x : List ℕ) → Pends old now (bits (run body from at)) x → Pends old new (bits (run body end end)) x
    nothing_left x p =
        subst (λ rest. Pends old new rest x) (sym (no_run body end))
        (subst (Pends old new []) (append-nil x) (pends_written old now new (bits (run body from at)) x [] p (subst (Appends now new) (sym (append-nil (bits (run body from at)))) w)))

    pub keeps_left : call view false → BodyKeeps call codec body end end some old new
    keeps_left says = record {
      before = omega arith;
      within = r.read.within;
      starts = after_one at end view.body.now h.starts r;
      room = room_skipped some h.room;
      b = h.b;
      none = h.none;
      empty = λ _. refl;
      pends = nothing_left _ h.pends;
      records = λ spec clean stands. (
          let t = h.records spec clean stands in
          let m = more spec clean stands t in record {
            records = t.records ++ m.one ∷ [];
            spelled = m.all;
            kept = record {
              kept = t.kept.kept;
              keeps = keeps_skip (Says call codec spec) t.records t.kept.kept m.one t.kept.keeps (record { view = view; same = same; spells = m.spelled; says = says });
              said = t.kept.said;
              pends = nothing_left _ t.kept.pends;
            };
          });
    }

  -- ---- one that is

  back : (b : Bool) → not (not b) ≡ b
  back true = refl
  back false = refl

  room_before : (b : Bool) → room_for b (8 * (length body - from)) ≤ room now → room_for b 0 ≤ room now
  room_before true free = omega arith
  room_before false free = omega (arith, free)

  pub room_for_front : (first : Bool) → first ≡ not some → room_for (not first) 0 ≤ room now
  room_for_front first e = subst (λ b. room_for b 0 ≤ room now) (sym (ap not e ∙ back some)) (room_before some h.room)

  own_record : IsRecord codec view.body.now
  own_record = subst (λ c. IsRecord c view.body.now) same view.record_octets

  few : length (canon_in codec view.body.now) ≤ 8 * length view.body.now
  few = canon_few codec view.body.now own_record

  module _ (mid : Out) (w : Appends now mid (front_if (not some) codec.category)) where
    room_fronted : (b : Bool) → room_for b (8 * (length body - from)) ≤ room now → Appends now mid (front_if (not b) codec.category) → 8 * (length body - from) ≤ room mid
    room_fronted true free a = omega (arith, a.room, free)
    room_fronted false free a = omega (arith, a.room, free, front_length codec.category)

    pub room_for_both : 8 * length (run body from at) + 8 * length view.body.now ≤ room mid
    room_for_both = omega (arith, room_fronted some h.room w, run_length body from at h.before h.within, long, r.read.within, r.read.forwards, h.before)

    fronted : (b : List ℕ) → (some ≡ false → b ≡ []) → Pends old now (bits (run body from at)) (block_if some codec.category b) → Pends old mid (bits (run body from at)) (block_if true codec.category b)
    fronted b none p = pends_fronted some codec.category b (bits (run body from at)) old now mid none no_rest p w

    -- the record, kept, and what is to be written up to its end
    module _ (from' : ℕ) (new : Out) (before : from' ≤ end) (free : 8 * (length body - from') ≤ room new)
        (goes : (b : List ℕ) → Pends old mid (bits (run body from at)) (block_if true codec.category b) → Pends old new (bits (run body from' end)) (block_if true codec.category (b ++ canon_in codec view.body.now))) where
      keeps_by : call view true → BodyKeeps call codec body from' end true old new
      unfolding value
      keeps_by says = record {
        before = before;
        within = r.read.within;
        starts = after_one at end view.body.now h.starts r;
        room = free;
        b = h.b ++ canon_in codec view.body.now;
        none = λ e. absurd (let no : true ≡ false = e in cc);
        empty = λ e. absurd (let no : true ≡ false = e in cc);
        pends = goes h.b (fronted h.b h.none h.pends);
        records = λ spec clean stands. (
            let t = h.records spec clean stands in
            let m = more spec clean stands t in
            let k = t.kept in
            let is : canon (record_kind_at codec.nodes codec.slots) value ≡ canon (record_kind spec) (marked m.one) = ap (λ k. canon k value) (stands_record codec spec stands) ∙ bare_canon (record_kind spec) value ∙ ap (canon (record_kind spec)) m.is in
            let both : CanonBody spec k.kept ++ canon_in codec view.body.now ≡ CanonBody spec (k.kept ++ m.one ∷ []) = ap (λ y. CanonBody spec k.kept ++ y) is ∙ sym (canon_more spec k.kept m.one) in
            record {
              records = t.records ++ m.one ∷ [];
              spelled = m.all;
              kept = record {
                kept = k.kept ++ m.one ∷ [];
                keeps = keeps_take (Says call codec spec) t.records k.kept m.one k.keeps (record { view = view; same = same; spells = m.spelled; says = says });
                said = some_with k.kept m.one;
                pends = subst (λ y. Pends old new (bits (run body from' end)) (block_if true codec.category y)) both (goes (CanonBody spec k.kept) (fronted (CanonBody spec k.kept) (λ e. none_kept spec k.kept (k.said ∙ e)) k.pends));
              };
            });
      }

    block_longer : (b y : List ℕ) → block_if true codec.category b ++ y ≡ block_if true codec.category (b ++ y)
    block_longer b y = append_assoc (word 8 codec.category ++ word 16 0) b y

    -- its octets are its canonical spelling, and are written later
    pub keeps_run : canon_in codec view.body.now ≡ bits view.body.now → call view true → BodyKeeps call codec body from end true old mid
    keeps_run least says =
        let on = goes_on in
        let y = canon_in codec view.body.now in
        keeps_by from mid (omega (arith, h.before, on)) (room_fronted some h.room w)
        (λ b p. subst (λ rest. Pends old mid rest (block_if true codec.category (b ++ y))) (ap (λ x. bits (run body from at) ++ x) (least ∙ ap bits r.window) ∙ sym (run_more body from at end h.before r.read.forwards))
        (subst (Pends old mid (bits (run body from at) ++ y)) (block_longer b y) (pends_more old mid (bits (run body from at)) (block_if true codec.category b) y p))) says

    -- it is written anew, after what was to be written
    pub keeps_anew : (new : Out) → Appends mid new (bits (run body from at) ++ canon_in codec view.body.now) → call view true → BodyKeeps call codec body end end true old new
    keeps_anew new a says =
        let on = goes_on in
        let y = canon_in codec view.body.now in
        keeps_by end new (omega arith) (omega (arith, room_fronted some h.room w, a.room, length-append (bits (run body from at)) y, few_run, few, long, h.before, r.read.within))
        (λ b p. subst (λ rest. Pends old new rest (block_if true codec.category (b ++ y))) (sym (no_run body end))
        (subst (Pends old new []) (block_longer b y) (pends_written old mid new (bits (run body from at)) (block_if true codec.category b) y p a))) says

module _ (call : RecordView → Bool → Type 0) (codec : Codec) (body : List ℕ) (from at : ℕ) (some : Bool) (old now : Out) (h : BodyKeeps call codec body from at some old now) where
  pub kept_failed : (fault : BodyFault) → at < length body → FailsAt (kind_read (record_kind_at codec.nodes codec.slots) body at) at fault → FailsThere codec body fault
  kept_failed fault lt l = record {
    fails = λ spec clean stands. (
        let t = h.records spec clean stands in
        let f = fault_at (record_kind spec) body at fault (record_bounds spec clean) (fails_of codec spec body at fault stands l) in
        record {
          records = t.records;
          before = bits (take at body);
          left = bits (drop at body);
          split = ap bits (sym (take-append-drop at body)) ∙ bits-append (take at body) (drop at body);
          spelled = t.spelled;
          some = omega (arith, length-bits (drop at body), length-drop at body);
          place = f.place;
          counted = omega (arith, f.bit, length-bits (take at body), length-take-le at body h.within);
          fails = record { fails = f.fails.fails };
        });
  }

  pub room_last : 8 * length (run body from at) ≤ room now
  room_last = by some h.room
    where
      by : (b : Bool) → room_for b (8 * (length body - from)) ≤ room now → 8 * length (run body from at) ≤ room now
      by true free = omega (arith, run_length body from at h.before h.within, h.before, h.within)
      by false free = omega (arith, run_length body from at h.before h.within, h.before, h.within)

  module _ (past : length body ≤ at) (size : 1 ≤ length body) where
    all_spelled : (spec : SpecTree) → (t : RecordsKept call codec spec body from at some old now) → SpellsBody spec t.records (bits body)
    all_spelled spec t =
        let s : RecordsSpell spec t.records (bits body) = subst (RecordsSpell spec t.records) (ap bits (take_all at body past)) t.spelled in
        record { some = some_records spec t.records (bits body) s (omega (arith, length-bits body, size)); spelled = s }

    pub kept_spelled : SpellsSome codec body
    kept_spelled = record { spells = λ spec clean stands. (let t = h.records spec clean stands in (t.records, all_spelled spec t)) }

    module _ (new : Out) (w : Appends now new (bits (run body from at))) where
      whole : (x : List ℕ) → Pends old now (bits (run body from at)) x → Appends old new x
      whole x p = subst (Appends old new) (sym p.whole) (appends_more old now new p.front (bits (run body from at)) (p.front ++ bits (run body from at)) refl p.appends w)

      pub kept_last : IsKeptBody call codec body some old new
      kept_last = record {
        appended = (h.b, whole _ h.pends);
        written = λ spec records clean stands spells. (
            let t = h.records spec clean stands in
            let same = body_once spec (bits body) t.records records (all_spelled spec t) spells in
            subst (λ rs. KeptWritten call codec spec rs some old new) same (record { kept = t.kept.kept; keeps = t.kept.keeps; said = t.kept.said; appends = whole _ t.kept.pends }));
      }

-- ---- the block

kept_shape : (call : RecordView → Bool → Type 0) (codec : Codec) (spec : SpecTree) (rs ks : List EntriesTree) → Keeps (Says call codec spec) rs ks → AllByRecursion (RecordShape spec) ks
kept_shape call codec spec [] ks h = subst (AllByRecursion (RecordShape spec)) (sym h) tt
kept_shape call codec spec (r ∷ rs) ks (inl (n, t)) = kept_shape call codec spec rs ks t
kept_shape call codec spec (r ∷ rs) ks (inr (rest, y, e, t)) = subst (AllByRecursion (RecordShape spec)) (sym e) (record_shape spec r (bits y.view.body.now) y.spells, kept_shape call codec spec rs rest t)

module _ (call : RecordView → Bool → Type 0) (codec : Codec) (body : List ℕ) (old now new : Out) (n : ℕ) (empty : written old ≡ []) (count : n ≡ (room old - room now) / 8) (set : HasLength n now new) where
  block_kept : (spec : SpecTree) (records kept : List EntriesTree) → NoFlaw spec → StandsFor codec spec → Keeps (Says call codec spec) records kept → are_some kept ≡ true → Appends old now (block_if true codec.category (CanonBody spec kept)) → KeepsOf call codec spec records n old new
  block_kept spec records [] clean stands keeps said a = absurd (let no : false ≡ true = said in cc)
  block_kept spec records (k ∷ kept) clean stands keeps said a =
      let made : IsBlock spec (k ∷ kept) n old new = block_of codec spec (k ∷ kept) clean stands (omega arith) (kept_shape call codec spec records (k ∷ kept) keeps) old now new n empty a count set in
      record { kept = k ∷ kept; keeps = keeps; written = made.written; octets = made.octets }

  pub some_kept : (some : Bool) → some ≡ true → IsKeptBody call codec body some old now → IsCanonicalIf call codec body n old new
  some_kept some e h = record { kept = λ spec records clean stands spells. (let w = h.written spec records clean stands spells in block_kept spec records w.kept clean stands w.keeps (w.said ∙ e) (subst (λ b. Appends old now (block_if b codec.category (CanonBody spec w.kept))) e w.appends)) }

-- ---- where each record is kept

all_kept : (codec : Codec) (spec : SpecTree) (rs ks : List EntriesTree) → Keeps (Says (λ one answer. answer ≡ true) codec spec) rs ks → ks ≡ rs
all_kept codec spec [] ks h = h
all_kept codec spec (r ∷ rs) ks (inl (n, t)) = absurd (let no : false ≡ true = n.says in cc)
all_kept codec spec (r ∷ rs) ks (inr (rest, y, e, t)) = e ∙ ap (λ rs. r ∷ rs) (all_kept codec spec rs rest t)

some_octets : (spec : SpecTree) (rs : List EntriesTree) → 0 < length rs → kept_octets spec rs ≡ canon_block spec (read_block spec.category rs)
some_octets spec [] some = absurd (omega (arith, some))
some_octets spec (r ∷ rs) some = refl

-- the canonical block of the kept records is that of all
pub each_canonical : (codec : Codec) (body : List ℕ) (n : ℕ) (old new : Out) → loan new ≡ loan old → IsCanonicalIf (λ one answer. answer ≡ true) codec body n old new → IsCanonical codec body n old new
each_canonical codec body n old new same h = record {
  same_loan = same;
  written = λ spec records clean stands spells. (
      let k = h.kept spec records clean stands spells in
      subst (λ octets. Appends old new (bits octets)) (ap (kept_octets spec) (all_kept codec spec records k.kept k.keeps) ∙ some_octets spec records spells.some) k.written);
  octets = λ spec records clean stands spells. (
      let k = h.kept spec records clean stands spells in
      k.octets ∙ ap length (ap (kept_octets spec) (all_kept codec spec records k.kept k.keeps) ∙ some_octets spec records spells.some));
}

-- ---- what was written, for those who write LEN

-- a body that fails spells no records
pub none_if_fails : (call : RecordView → Bool → Type 0) (codec : Codec) (body : List ℕ) (fault : BodyFault) (old new : Out) → FailsThere codec body fault → IsCanonicalIf call codec body 0 old new
none_if_fails call codec body fault old new f = record { kept = λ spec records clean stands spells. absurd (body_never_both spec (bits body) records fault.bit fault.cause spells (f.fails spec clean stands)) }
