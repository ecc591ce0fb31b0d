-- The count of a block's canonical form.
use Rattle.std.proofs.Common.{◌≡◌, ℕ, zero, suc, ◌+◌, ◌*◌, ◌<◌, List, [], ◌∷◌, length, refl, ap, arith, length-append}
use Rattle.std.specs.List.{AllByRecursion}
use Rattle.ax_format.proofs.Bounds.{record_bounds}
use Rattle.ax_format.proofs.Lengths.{kind_length}
use Rattle.ax_format.specs.Bodies.{RecordShape, CanonBody}
use Rattle.ax_format.specs.Canonical.{canon}
use Rattle.ax_format.specs.CanonicalOctets.{octets_of, framed}
use Rattle.ax_format.specs.InBounds.{InBounds}
use Rattle.ax_format.specs.Lengths.{capped, records_octets}
use Rattle.ax_format.specs.OfCode.{HasNoFlaw}
use Rattle.ax_format.specs.Plain.{record_tree, records_tree, spec_tree}
use Rattle.ax_format.specs.Specification.{record_kind}
use Rattle.ax_format.specs.Tree.{marked}
use Rattle.ax_format.specs.declared.record.Record.{Record}
use Rattle.ax_format.specs.declared.spec.Spec.{Spec}

length-octets_of : (n : ℕ) (b : List ℕ) → length b ≡ 8 * n → length (octets_of b) ≡ n
length-octets_of zero [] e = refl
length-octets_of zero (x ∷ b) e = absurd (omega arith)
length-octets_of (suc n) (a ∷ b ∷ c ∷ d ∷ e ∷ f ∷ g ∷ h ∷ more) l = ap suc (length-octets_of n more (omega arith))
length-octets_of (suc n) [] l = absurd (omega arith)
length-octets_of (suc n) (a ∷ []) l = absurd (omega arith)
length-octets_of (suc n) (a ∷ b ∷ []) l = absurd (omega arith)
length-octets_of (suc n) (a ∷ b ∷ c ∷ []) l = absurd (omega arith)
length-octets_of (suc n) (a ∷ b ∷ c ∷ d ∷ []) l = absurd (omega arith)
length-octets_of (suc n) (a ∷ b ∷ c ∷ d ∷ e ∷ []) l = absurd (omega arith)
length-octets_of (suc n) (a ∷ b ∷ c ∷ d ∷ e ∷ f ∷ []) l = absurd (omega arith)
length-octets_of (suc n) (a ∷ b ∷ c ∷ d ∷ e ∷ f ∷ g ∷ []) l = absurd (omega arith)

body_length : (spec : Spec) (rs : List Record) → InBounds (record_kind (spec_tree spec)) → AllByRecursion (RecordShape (spec_tree spec)) (records_tree rs)
    → length (CanonBody (spec_tree spec) (records_tree rs)) ≡ 8 * records_octets spec rs
body_length spec [] bounds h = refl
body_length spec (r ∷ rs) bounds h = omega (
  arith,
  kind_length (record_kind (spec_tree spec)) (marked (record_tree r)) bounds h.0.shape,
  body_length spec rs bounds h.1,
  length-append (canon (record_kind (spec_tree spec)) (marked (record_tree r))) (CanonBody (spec_tree spec) (records_tree rs)),
)

framed_length : (category : ℕ) (body : List ℕ) → length (framed category body) ≡ length body + 3
framed_length category body = omega arith

-- a block of records
pub read_length : (spec : Spec) (category : ℕ) (rs : List Record) (n : ℕ) → HasNoFlaw spec → AllByRecursion (RecordShape (spec_tree spec)) (records_tree rs)
    → n ≡ capped (capped (records_octets spec rs) + 3) → n ≡ capped (length (framed category (octets_of (CanonBody (spec_tree spec) (records_tree rs)))))
read_length spec category rs n none fit e =
    let body = octets_of (CanonBody (spec_tree spec) (records_tree rs)) in
    let counted : length body ≡ records_octets spec rs = length-octets_of (records_octets spec rs) _ (body_length spec rs (record_bounds (spec_tree spec) none) fit) in
    omega (arith, e, framed_length category body, counted)

pub opaque_length : (category : ℕ) (content : List ℕ) (n : ℕ) → length content < 4294967296 → n ≡ length content + 3 → n ≡ capped (length (framed category content))
opaque_length category content n small e = omega (arith, framed_length category content)

pub ruleset blocks = (read_length, opaque_length)
