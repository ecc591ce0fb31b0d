-- The laws of kinds, of records over a specification and of bodies.
use Rattle.std.proofs.Common.{◌≡◌, ◌↔◌, ℕ, ◌<◌, ◌≤◌, List, [], ◌∷◌, ◌++◌, length, refl, sym, ap, arith, length-append, subst}
use Rattle.std.specs.List.{AllByRecursion}
use Rattle.ax_format.proofs.Bounds.{bounds_sound, record_bounds, standing_bounds}
use Rattle.ax_format.proofs.CanonOnce.{canon_once}
use Rattle.ax_format.proofs.CanonSpells.{spells_shape, canon_spells, canon_shortest}
use Rattle.ax_format.proofs.Once.{body_once}
use Rattle.ax_format.proofs.PrefixFree.{prefix_free}
use Rattle.ax_format.specs.Bodies.{SpellsRecord, RecordShape, CanonRecord, RecordsSpell, CanonBody, SpellsBody}
use Rattle.ax_format.specs.Canonical.{canon}
use Rattle.ax_format.specs.Flaws.{NoFlaw}
use Rattle.ax_format.specs.Shape.{Shape}
use Rattle.ax_format.specs.Sound.{Sound}
use Rattle.ax_format.specs.Specification.{SpecTree, record_kind}
use Rattle.ax_format.specs.Spelling.{Spells}
use Rattle.ax_format.specs.Standing.{StandsIn}
use Rattle.ax_format.specs.Tree.{EntriesTree, marked, KindTree, ValueTree}

entries_same : {es fs : EntriesTree} → marked es ≡ marked fs → es ≡ fs
entries_same e = cc

-- ---- records

pub records_prefix_free : (spec : SpecTree) (r s : EntriesTree) (b c x y : List ℕ) → SpellsRecord spec r b → SpellsRecord spec s c → b ++ x ≡ c ++ y → (b ≡ c) × (r ≡ s)
records_prefix_free spec r s b c x y h g e =
    let t = prefix_free (record_kind spec) (marked r) (marked s) b c x y h.spells g.spells e in (t.0, entries_same t.1)

pub record_shape : (spec : SpecTree) (r : EntriesTree) (b : List ℕ) → SpellsRecord spec r b → RecordShape spec r
record_shape spec r b h = record { shape = spells_shape (record_kind spec) (marked r) b h.spells }

pub record_canon_spells : (spec : SpecTree) (r : EntriesTree) → Sound (record_kind spec) → RecordShape spec r → SpellsRecord spec r (CanonRecord spec r)
record_canon_spells spec r sound h = record { spells = canon_spells (record_kind spec) (marked r) sound h.shape }

pub record_canon_shortest : (spec : SpecTree) (r : EntriesTree) (b : List ℕ) → SpellsRecord spec r b → length (CanonRecord spec r) ≤ length b
record_canon_shortest spec r b h = canon_shortest (record_kind spec) (marked r) b h.spells

pub record_canon_once : (spec : SpecTree) (r s : EntriesTree) → Sound (record_kind spec) → RecordShape spec r → RecordShape spec s → CanonRecord spec r ≡ CanonRecord spec s ↔ r ≡ s
record_canon_once spec r s sound h g =
    ((λ e. entries_same ((canon_once (record_kind spec) (marked r) (marked s) sound h.shape g.shape).0 e)), (λ e. ap (λ r. CanonRecord spec r) e))

-- ---- bodies

records_canon_spell : (spec : SpecTree) (rs : List EntriesTree) → Sound (record_kind spec) → AllByRecursion (RecordShape spec) rs → RecordsSpell spec rs (CanonBody spec rs)
records_canon_spell spec [] sound h = refl
records_canon_spell spec (r ∷ rs) sound h =
    (CanonRecord spec r, CanonBody spec rs, refl, record_canon_spells spec r sound h.0, records_canon_spell spec rs sound h.1)

pub body_canon_spells : (spec : SpecTree) (rs : List EntriesTree) → Sound (record_kind spec) → 0 < length rs → AllByRecursion (RecordShape spec) rs → SpellsBody spec rs (CanonBody spec rs)
body_canon_spells spec rs sound some h = record { some = some; spelled = records_canon_spell spec rs sound h }

records_canon_shortest : (spec : SpecTree) (rs : List EntriesTree) (b : List ℕ) → RecordsSpell spec rs b → length (CanonBody spec rs) ≤ length b
records_canon_shortest spec [] b h = omega arith
records_canon_shortest spec (r ∷ rs) b (x, y, e, h, t) =
    let one : length (CanonRecord spec r) ≤ length x = record_canon_shortest spec r x h in
    let more : length (CanonBody spec rs) ≤ length y = records_canon_shortest spec rs y t in
    omega (arith, ap length e, length-append x y, length-append (CanonRecord spec r) (CanonBody spec rs))

pub body_canon_shortest : (spec : SpecTree) (rs : List EntriesTree) (b : List ℕ) → SpellsBody spec rs b → length (CanonBody spec rs) ≤ length b
body_canon_shortest spec rs b h = records_canon_shortest spec rs b h.spelled

pub body_canon_once : (spec : SpecTree) (rs ss : List EntriesTree) → Sound (record_kind spec) → 0 < length rs → 0 < length ss → AllByRecursion (RecordShape spec) rs → AllByRecursion (RecordShape spec) ss
    → CanonBody spec rs ≡ CanonBody spec ss ↔ rs ≡ ss
body_canon_once spec rs ss sound p q h g = (
  (λ e. body_once spec (CanonBody spec rs) rs ss (body_canon_spells spec rs sound p h) (subst (SpellsBody spec ss) (sym e) (body_canon_spells spec ss sound q g))),
  (λ e. ap (CanonBody spec) e),
)

-- ---- of a specification without flaw

record_sound : (spec : SpecTree) → NoFlaw spec → Sound (record_kind spec)
record_sound spec h = bounds_sound (record_kind spec) (record_bounds spec h)

standing_sound : (spec : SpecTree) (k : KindTree) → NoFlaw spec → StandsIn spec k → Sound k
standing_sound spec k h s = bounds_sound k (standing_bounds spec k h s)

pub standing_canon_spells : (spec : SpecTree) (k : KindTree) (v : ValueTree) → NoFlaw spec → StandsIn spec k → Shape k v → Spells k v (canon k v)
standing_canon_spells spec k v h s shape = canon_spells k v (standing_sound spec k h s) shape

pub standing_canon_once : (spec : SpecTree) (k : KindTree) (v w : ValueTree) → NoFlaw spec → StandsIn spec k → Shape k v → Shape k w → canon k v ≡ canon k w ↔ v ≡ w
standing_canon_once spec k v w h s p q = canon_once k v w (standing_sound spec k h s) p q

pub flawless_record_canon_spells : (spec : SpecTree) (r : EntriesTree) → NoFlaw spec → RecordShape spec r → SpellsRecord spec r (CanonRecord spec r)
flawless_record_canon_spells spec r h shape = record_canon_spells spec r (record_sound spec h) shape

pub flawless_record_canon_once : (spec : SpecTree) (r s : EntriesTree) → NoFlaw spec → RecordShape spec r → RecordShape spec s → CanonRecord spec r ≡ CanonRecord spec s ↔ r ≡ s
flawless_record_canon_once spec r s h p q = record_canon_once spec r s (record_sound spec h) p q

pub flawless_body_canon_spells : (spec : SpecTree) (rs : List EntriesTree) → NoFlaw spec → 0 < length rs → AllByRecursion (RecordShape spec) rs → SpellsBody spec rs (CanonBody spec rs)
flawless_body_canon_spells spec rs h some shapes = body_canon_spells spec rs (record_sound spec h) some shapes

pub flawless_body_canon_once : (spec : SpecTree) (rs ss : List EntriesTree) → NoFlaw spec → 0 < length rs → 0 < length ss → AllByRecursion (RecordShape spec) rs → AllByRecursion (RecordShape spec) ss
    → CanonBody spec rs ≡ CanonBody spec ss ↔ rs ≡ ss
flawless_body_canon_once spec rs ss h p q g f = body_canon_once spec rs ss (record_sound spec h) p q g f
