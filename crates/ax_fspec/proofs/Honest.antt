-- Faults of kinds, of records and of bodies can be trusted.
use Rattle.std.proofs.Common.{◌≡◌, ◌≢◌, ℕ, ◌+◌, ◌*◌, ◌/◌, ◌%◌, ◌≤◌, ◌⊎◌, inl, inr, List, [], ◌∷◌, ◌++◌, length, take, drop, refl, sym, ◌∙◌, ap, arith, subst, length-append, append_assoc, append-nil, take-append-drop, length-take-le}
use Rattle.std.proofs.lemmas.List.{take-append-le}
use Rattle.ax_bits.proofs.Words.{bits-append, length-bits, number_below}
use Rattle.ax_bits.specs.Bits.{bits, AreBits, AreOctets}
use Rattle.ax_format.proofs.BodyPlaces.{body_completes, told_spells_no_body}
use Rattle.ax_format.proofs.Bounds.{bounds_sound, bounds_whole, record_bounds}
use Rattle.ax_format.proofs.CanonFramed.{bits-octets_of}
use Rattle.ax_format.proofs.Completions.{completes_octets}
use Rattle.ax_format.proofs.Meets.{bits_of}
use Rattle.ax_format.proofs.SpelledBits.{spells_bits, records_bits}
use Rattle.ax_format.proofs.Stays.{told_spells_none}
use Rattle.ax_format.proofs.WholeOctets.{two_whole, spells_whole}
use Rattle.ax_format.specs.Bodies.{RecordsSpell, SpellsRecord, FailsRecord, FailsBody}
use Rattle.ax_format.specs.CanonicalOctets.{octets_of}
use Rattle.ax_format.specs.Completing.{Completes}
use Rattle.ax_format.specs.Failing.{Fails}
use Rattle.ax_format.specs.Flaws.{NoFlaw}
use Rattle.ax_format.specs.InBounds.{InBounds}
use Rattle.ax_format.specs.Specification.{SpecTree, record_kind}
use Rattle.ax_format.specs.Spelling.{Spells}
use Rattle.ax_format.specs.Telling.{fault_bits, BeginAlike}
use Rattle.ax_format.specs.Tree.{KindTree, ValueTree, EntriesTree, marked}
use Rattle.ax_format.specs.Whole.{Whole}
use Rattle.ax_format.specs.declared.fault.BodyCause.{BodyCause}
use Rattle.ax_format.specs.declared.fault.BodyCause.TheVariants.{RunsOut, UndefinedSlot, PresenceTooLong, ExtensionPastEnd, BadExplicitLength}
use Rattle.ax_format.specs.declared.fault.BodyFault.{BodyFault}
use Rattle.ax_fspec.proofs.ToldWithin.{fails_told, body_told}
use Rattle.ax_fspec.specs.Honest.{SpellRecords, BeginWithValue, BeginWithRecord, IsHonest, IsHonestAt}
use Rattle.ax_fspec.specs.Reading.{IsFaultAt}

-- ---- octets of bits

octets-AreOctets : (b : List ℕ) → AreBits b → AreOctets (octets_of b)
octets-AreOctets (a ∷ b ∷ c ∷ d ∷ e ∷ f ∷ g ∷ k ∷ more) h = (
  number_below (a ∷ b ∷ c ∷ d ∷ e ∷ f ∷ g ∷ k ∷ []) (h.0, (h.1.0, (h.1.1.0, (h.1.1.1.0, (h.1.1.1.1.0, (h.1.1.1.1.1.0, (h.1.1.1.1.1.1.0, (h.1.1.1.1.1.1.1.0, tt)))))))),
  octets-AreOctets more h.1.1.1.1.1.1.1.1,
)
octets-AreOctets [] h = tt
octets-AreOctets (a ∷ []) h = tt
octets-AreOctets (a ∷ b ∷ []) h = tt
octets-AreOctets (a ∷ b ∷ c ∷ []) h = tt
octets-AreOctets (a ∷ b ∷ c ∷ d ∷ []) h = tt
octets-AreOctets (a ∷ b ∷ c ∷ d ∷ e ∷ []) h = tt
octets-AreOctets (a ∷ b ∷ c ∷ d ∷ e ∷ f ∷ []) h = tt
octets-AreOctets (a ∷ b ∷ c ∷ d ∷ e ∷ f ∷ g ∷ []) h = tt

-- ---- from completions

runs_out_or_not : (c : BodyCause) → (c ≡ RunsOut) ⊎ (c ≢ RunsOut)
runs_out_or_not RunsOut = inl refl
runs_out_or_not UndefinedSlot = inr (λ e. cc)
runs_out_or_not PresenceTooLong = inr (λ e. cc)
runs_out_or_not ExtensionPastEnd = inr (λ e. cc)
runs_out_or_not BadExplicitLength = inr (λ e. cc)

-- W holds of whole spellings, which are whole octets of bits, and S of what the call reads
module _ (W S : List ℕ → Type 0) (xs : List ℕ) (p : ℕ) (c : BodyCause)
    (whole : (b : List ℕ) → W b → (length b % 8 ≡ 0) × AreBits b)
    (good : (b : List ℕ) → W b → S b)
    (h : Completes W (bits xs) p c)
    (within : c ≢ RunsOut → p + fault_bits c ≤ length (bits xs))
    (none : (d : List ℕ) → c ≢ RunsOut → BeginAlike (p + fault_bits c) (bits xs) d → S d → ⊥) where
  none_following : c ≢ RunsOut → (rest : List ℕ) → S (take (p + fault_bits c) (bits xs) ++ rest) → ⊥
  none_following not rest s =
      let n = p + fault_bits c in
      none (take n (bits xs) ++ rest) not (record {
        common = take n (bits xs);
        left = drop n (bits xs);
        right = rest;
        long = omega (arith, length-take-le n (bits xs) (within not));
        first = sym (take-append-drop n (bits xs));
        second = refl;
      }) s

  none_after : c ≢ RunsOut → (more : List ℕ) → S (bits (xs ++ more)) → ⊥
  none_after not more s =
      let n = p + fault_bits c in
      let joined : bits (xs ++ more) ≡ take n (bits xs) ++ (drop n (bits xs) ++ bits more)
      = bits-append xs more ∙ ap (λ b. b ++ bits more) (sym (take-append-drop n (bits xs))) ∙ append_assoc (take n (bits xs)) (drop n (bits xs)) (bits more) in
      none_following not (drop n (bits xs) ++ bits more) (subst S joined s)

  only : (more : List ℕ) → S (bits (xs ++ more)) → (c ≡ RunsOut) ⊎ (c ≢ RunsOut) → c ≡ RunsOut
  only more s (inl e) = e
  only more s (inr not) = absurd (none_after not more s)

  completed : c ≡ RunsOut → (more : List ℕ) × AreOctets more × S (bits (xs ++ more))
  completed e =
      let t = whole (h.kept ++ h.more) h.spelled in
      let all : bits xs ≡ h.kept = h.split ∙ ap (λ b. h.kept ++ b) (h.whole e) ∙ append-nil h.kept in
      let bit : AreBits h.more = (bits_of (h.kept ++ h.more) h.kept h.more refl t.1).1 in
      let octets : length h.more ≡ 8 * (length h.more / 8) = omega (arith, t.0, length-append h.kept h.more, ap length all, length-bits xs) in
      let again : bits (octets_of h.more) ≡ h.more = bits-octets_of (length h.more / 8) h.more octets bit in
      let joined : bits (xs ++ octets_of h.more) ≡ h.kept ++ h.more = bits-append xs (octets_of h.more) ∙ (λ i. all i ++ again i) in
      (octets_of h.more, octets-AreOctets h.more bit, subst S (sym joined) (good (h.kept ++ h.more) h.spelled))

  begun : (rest : List ℕ) × S (take p (bits xs) ++ rest)
  begun =
      let front : take p (bits xs) ≡ take p h.kept = ap (take p) h.split ∙ take-append-le p h.kept h.cut h.far in
      let joined : take p (bits xs) ++ (drop p h.kept ++ h.more) ≡ h.kept ++ h.more
      = ap (λ b. b ++ (drop p h.kept ++ h.more)) front ∙ sym (append_assoc (take p h.kept) (drop p h.kept) h.more) ∙ ap (λ b. b ++ h.more) (take-append-drop p h.kept) in
      (drop p h.kept ++ h.more, subst S (sym joined) (good (h.kept ++ h.more) h.spelled))

  pub is_honest : IsHonest S xs p c
  is_honest = record { runs_out = (completed, λ t. only t.0 t.2 (runs_out_or_not c)); stays = none_following; begins = begun }

-- ---- kinds, records, bodies

abbrev Some_value : KindTree → List ℕ → Type 0
Some_value k b = (v : ValueTree) × Spells k v b

pub kind_honest : (k : KindTree) (xs : List ℕ) (p : ℕ) (c : BodyCause) → InBounds k → Fails k (bits xs) p c → IsHonest (BeginWithValue k) xs p c
kind_honest k xs p c bounds h =
    is_honest (Some_value k) (BeginWithValue k) xs p c
    (λ b t. (spells_whole k t.0 b (bounds_whole k bounds) t.1, spells_bits k t.0 b t.1))
    (λ b t. (t.0, b, [], sym (append-nil b), t.1))
    (completes_octets k xs p c (bounds_sound k bounds) (bounds_whole k bounds) h)
    (λ not. fails_told k (bits xs) p c not h)
    (λ d not s t. told_spells_none k (bits xs) d t.1 t.2 p c t.0 not s h t.3 t.4)

record_of : (spec : SpecTree) (v : ValueTree) (b : List ℕ) → Spells (record_kind spec) v b → (entries : EntriesTree) × SpellsRecord spec entries b
record_of spec (marked es) b h = (es, record { spells = h })
record_of spec _ b h = absurd h

pub record_honest : (spec : SpecTree) (xs : List ℕ) (p : ℕ) (c : BodyCause) → NoFlaw spec → FailsRecord spec (bits xs) p c → IsHonest (BeginWithRecord spec) xs p c
record_honest spec xs p c clean h =
    let k = record_kind spec in
    let bounds = record_bounds spec clean in
    is_honest (Some_value k) (BeginWithRecord spec) xs p c
    (λ b t. (spells_whole k t.0 b (bounds_whole k bounds) t.1, spells_bits k t.0 b t.1))
    (λ b t. let r = record_of spec t.0 b t.1 in (r.0, b, [], sym (append-nil b), r.1))
    (completes_octets k xs p c (bounds_sound k bounds) (bounds_whole k bounds) h.fails)
    (λ not. fails_told k (bits xs) p c not h.fails)
    (λ d not s t. told_spells_none k (bits xs) d t.1 t.2 p c (marked t.0) not s h.fails t.3 t.4.spells)

records_whole : (spec : SpecTree) (rs : List EntriesTree) (b : List ℕ) → Whole (record_kind spec) → RecordsSpell spec rs b → length b % 8 ≡ 0
records_whole spec [] b w h = omega (arith, ap length h)
records_whole spec (r ∷ rs) b w (x, y, e, h, t) = two_whole b x y e (spells_whole (record_kind spec) (marked r) x w h.spells) (records_whole spec rs y w t)

pub body_honest : (spec : SpecTree) (xs : List ℕ) (p : ℕ) (c : BodyCause) → NoFlaw spec → FailsBody spec (bits xs) p c → IsHonest (SpellRecords spec) xs p c
body_honest spec xs p c clean h =
    let k = record_kind spec in
    let sound = bounds_sound k (record_bounds spec clean) in
    let whole = bounds_whole k (record_bounds spec clean) in
    is_honest (SpellRecords spec) (SpellRecords spec) xs p c
    (λ b t. (records_whole spec t.0 b whole t.1.spelled, records_bits spec t.0 b t.1.spelled))
    (λ b t. t)
    (body_completes spec xs p c sound whole h)
    (λ not. body_told spec (bits xs) p c not h)
    (λ d not s t. told_spells_no_body spec (bits xs) d p c t.0 not s h t.1)

-- ---- what is left of a body

pub kind_honest_at : (k : KindTree) (body : List ℕ) (at : ℕ) (fault : BodyFault) → InBounds k → IsFaultAt k body at fault → IsHonestAt (BeginWithValue k) body at fault
kind_honest_at k body at fault bounds h = record { place = h.place; bit = h.bit; honest = kind_honest k (drop at body) h.place fault.cause bounds h.fails.fails }
