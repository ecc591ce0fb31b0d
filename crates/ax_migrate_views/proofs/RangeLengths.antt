-- The canonical block of some records has three octets, and those of each record.
use Rattle.std.proofs.Common.{◌≡◌, ℕ, ◌+◌, ◌*◌, ◌%◌, ◌<◌, ◌≤◌, List, [], ◌∷◌, ◌++◌, length, refl, sym, ◌∙◌, ap, arith, append_assoc, length-append}
use Rattle.std.specs.List.{AllByRecursion}
use Rattle.ax_format.proofs.Bounds.{bounds_sound, bounds_whole}
use Rattle.ax_format.proofs.CanonFramed.{length-framed}
use Rattle.ax_format.proofs.CanonSpells.{canon_spells}
use Rattle.ax_format.proofs.WholeOctets.{spells_whole}
use Rattle.ax_format.specs.Bodies.{RecordShape, CanonRecord, CanonBody}
use Rattle.ax_format.specs.CanonicalOctets.{octets_of}
use Rattle.ax_format.specs.InBounds.{InBounds}
use Rattle.ax_format.specs.Specification.{SpecTree, record_kind}
use Rattle.ax_format.specs.Split.{records_length}
use Rattle.ax_format.specs.Tree.{EntriesTree, marked}

octets_within : (b : List ℕ) → (8 * length (octets_of b) ≤ length b) × (length b < 8 * length (octets_of b) + 8)
octets_within (a ∷ b ∷ c ∷ d ∷ e ∷ f ∷ g ∷ h ∷ more) = let t = octets_within more in (omega (arith, t.0), omega (arith, t.1))
octets_within _ = (omega arith, omega arith)

body_append : (spec : SpecTree) (rs ss : List EntriesTree) → CanonBody spec (rs ++ ss) ≡ CanonBody spec rs ++ CanonBody spec ss
body_append spec [] ss = refl
body_append spec (r ∷ rs) ss = ap (λ b. CanonRecord spec r ++ b) (body_append spec rs ss) ∙ sym (append_assoc (CanonRecord spec r) (CanonBody spec rs) (CanonBody spec ss))

-- ---- whole octets

record_whole : (spec : SpecTree) (r : EntriesTree) → InBounds (record_kind spec) → RecordShape spec r → length (CanonRecord spec r) % 8 ≡ 0
record_whole spec r bounds h =
    spells_whole (record_kind spec) (marked r) (CanonRecord spec r) (bounds_whole (record_kind spec) bounds) (canon_spells (record_kind spec) (marked r) (bounds_sound (record_kind spec) bounds) h.shape)

body_whole : (spec : SpecTree) (rs : List EntriesTree) → InBounds (record_kind spec) → AllByRecursion (RecordShape spec) rs → length (CanonBody spec rs) % 8 ≡ 0
body_whole spec [] bounds h = refl
body_whole spec (r ∷ rs) bounds h = omega (arith, length-append (CanonRecord spec r) (CanonBody spec rs), record_whole spec r bounds h.0, body_whole spec rs bounds h.1)

-- the octets of a block without its first three are those of its records
length_is : (spec : SpecTree) (rs : List EntriesTree) → InBounds (record_kind spec) → AllByRecursion (RecordShape spec) rs → 8 * records_length spec rs ≡ 24 + length (CanonBody spec rs)
length_is spec rs bounds h =
    let o = octets_within (CanonBody spec rs) in
    omega (arith, o.0, o.1, body_whole spec rs bounds h, length-framed spec.category (octets_of (CanonBody spec rs)))

-- so they add up
pub lengths_add : (spec : SpecTree) (rs ss : List EntriesTree) → InBounds (record_kind spec) → AllByRecursion (RecordShape spec) rs → AllByRecursion (RecordShape spec) ss → AllByRecursion (RecordShape spec) (rs ++ ss)
    → records_length spec (rs ++ ss) + 3 ≡ records_length spec rs + records_length spec ss
lengths_add spec rs ss bounds h k both =
    omega (
      arith,
      length_is spec rs bounds h,
      length_is spec ss bounds k,
      length_is spec (rs ++ ss) bounds both,
      ap length (body_append spec rs ss),
      length-append (CanonBody spec rs) (CanonBody spec ss),
    )

pub three_first : (spec : SpecTree) (rs : List EntriesTree) → 3 ≤ records_length spec rs
three_first spec rs = omega (arith, length-framed spec.category (octets_of (CanonBody spec rs)))
