-- Records that come into one block, and records that are too long for one.
use Rattle.std.proofs.Common.{◌≡◌, ℕ, zero, suc, ◌+◌, ◌*◌, ◌<◌, ◌≤◌, nat_le, Bool, true, false, cond, List, [], ◌∷◌, ◌++◌, Option, Some, None, length, take, drop, flat_map, refl, sym, ◌∙◌, ap, arith, subst, append-nil, length-append}
use Rattle.std.proofs.lemmas.Bool.{le-leb, lt-leb}
use Rattle.std.proofs.lemmas.List.{take_all, drop_all}
use Rattle.ax_format.proofs.CanonFramed.{length-framed}
use Rattle.ax_format.proofs.SplitFronts.{longer, fit_few, fit_most}
use Rattle.ax_format.proofs.SplitLists.{by_fit}
use Rattle.ax_format.specs.Blocks.{read_block}
use Rattle.ax_format.specs.Bodies.{CanonRecord, CanonBody}
use Rattle.ax_format.specs.CanonicalOctets.{canon_block, octets_of}
use Rattle.ax_format.specs.Specification.{SpecTree}
use Rattle.ax_format.specs.Split.{EachFits, first_too_long, fit_within, fits_within, records_length, split_octets, split_within, too_long_within}
use Rattle.ax_format.specs.Tree.{EntriesTree}

-- ---- fewer records have no more octets

octets_within : (b : List ℕ) → (8 * length (octets_of b) ≤ length b) × (length b < 8 * length (octets_of b) + 8)
octets_within (a ∷ b ∷ c ∷ d ∷ e ∷ f ∷ g ∷ h ∷ more) = let t = octets_within more in (omega (arith, t.0), omega (arith, t.1))
octets_within _ = (omega arith, omega arith)

later_shorter : (spec : SpecTree) (r : EntriesTree) (rs : List EntriesTree) → records_length spec rs ≤ records_length spec (r ∷ rs)
later_shorter spec r rs =
    let a = octets_within (CanonBody spec rs) in
    let b = octets_within (CanonBody spec (r ∷ rs)) in
    omega (arith, a.0, b.1, length-append (CanonRecord spec r) (CanonBody spec rs), length-framed spec.category (octets_of (CanonBody spec rs)), length-framed spec.category (octets_of (CanonBody spec (r ∷ rs))))

-- ---- none is too long

-- records that come into one block, and others after them: a too long one is among the others
pub too_long_later : (room : ℕ) (spec : SpecTree) (front rest : List EntriesTree) → records_length spec front ≤ room → too_long_within room spec (front ++ rest) ≡ too_long_within room spec rest
too_long_later room spec [] rest h = refl
too_long_later room spec (r ∷ front) rest h =
    let one : records_length spec (r ∷ []) ≤ records_length spec (r ∷ front) = longer spec (r ∷ []) front in
    let yes : fits_within room spec (r ∷ []) ≡ true = le-leb (records_length spec (r ∷ [])) room (omega arith) in
    let less : records_length spec front ≤ records_length spec (r ∷ front) = later_shorter spec r front in
    ap (λ b. cond b (too_long_within room spec (front ++ rest)) (Some (records_length spec (r ∷ [])))) yes ∙ too_long_later room spec front rest (omega arith)

-- the first is
pub too_long_first : (room : ℕ) (spec : SpecTree) (r : EntriesTree) (rest : List EntriesTree) → room < records_length spec (r ∷ []) → too_long_within room spec (r ∷ rest) ≡ Some (records_length spec (r ∷ []))
too_long_first room spec r rest h = ap (λ b. cond b (too_long_within room spec rest) (Some (records_length spec (r ∷ [])))) (lt-leb (records_length spec (r ∷ [])) room h)

-- ---- one block

pub one_block : (spec : SpecTree) (records : List EntriesTree) → 0 < length records → records_length spec records ≤ 65535 → (first_too_long spec records ≡ None) × (split_octets spec records ≡ canon_block spec (read_block spec.category records))
one_block spec records some short = (
  ap (too_long_within 65535 spec) (sym (append-nil records)) ∙ too_long_later 65535 spec records [] short,
  ap (flat_map (λ rs. canon_block spec (read_block spec.category rs))) lists ∙ append-nil (canon_block spec (read_block spec.category records)),
) where
  all : length records ≤ fit_within 65535 spec records
  all = fit_most 65535 spec [] records records [] (sym (append-nil records)) short

  lists : split_within 65535 spec records ≡ records ∷ []
  lists =
      let n = fit_within 65535 spec records in
      by_fit 65535 spec records n refl (omega (arith, all, some)) ∙ (λ i. take_all n records all i ∷ split_within 65535 spec (drop_all n records all i))
