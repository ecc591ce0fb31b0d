-- The specification of a block's category, and its body.
use Rattle.std.proofs.Common.{◌≡◌, ℕ, ◌≤◌, ◌==◌, Bool, true, false, cond, List, [], ◌∷◌, Option, Some, None, length, refl, sym, ap, subst, arith, length-append}
use Rattle.std.proofs.lemmas.Bool.{eqb-true}
use Rattle.ax_bits.specs.Bits.{bits}
use Rattle.ax_bits.proofs.Words.{length-bits}
use Rattle.ax_format.proofs.WholeOctets.{fails_within}
use Rattle.ax_format.specs.Bodies.{FailsBody}
use Rattle.ax_format.specs.Plain.{spec_tree}
use Rattle.ax_format.specs.Specification.{SpecTree, spec_of, record_kind}
use Rattle.ax_format.specs.declared.fault.BodyCause.{BodyCause}
use Rattle.ax_format.specs.declared.spec.Spec.{Spec}

-- ---- the specification of a category

by_test : (b : Bool) (category : ℕ) (one : SpecTree) (rest : Option SpecTree) (spec : SpecTree) → (b ≡ true → one.category ≡ category) → (rest ≡ Some spec → spec.category ≡ category) → cond b (Some one) rest ≡ Some spec → spec.category ≡ category
by_test true category one rest spec equal more e = let same : one ≡ spec = cc in subst (λ s. s.category ≡ category) same (equal refl)
by_test false category one rest spec equal more e = more e

same_number : (n m : ℕ) → (n == m) ≡ true → n ≡ m
same_number n m e = eqb-true n m e

pub known_category : (category : ℕ) (catalogue : List SpecTree) (spec : SpecTree) → spec_of category catalogue ≡ Some spec → spec.category ≡ category
known_category category [] spec e = absurd (let none : None ≡ Some spec = e in cc)
known_category category (s ∷ catalogue) spec e = by_test (s.category == category) category s (spec_of category catalogue) spec (same_number s.category category) (known_category category catalogue spec) e

pub asked_category : (category : ℕ) (catalogue : List SpecTree) (spec : Spec) → spec_of category catalogue ≡ Some (spec_tree spec) → category ≡ spec.category
asked_category category catalogue spec e = sym (known_category category catalogue (spec_tree spec) e)

-- ---- a fault stands within its body

pub short_fault : (spec : SpecTree) (body : List ℕ) (p : ℕ) (c : BodyCause) → length body ≤ 65532 → FailsBody spec (bits body) p c → p ≤ 524256
short_fault spec body p c few f =
    let within : f.place ≤ length f.left = fails_within (record_kind spec) f.left f.place c f.fails.fails in
    omega (arith, f.counted, ap length f.split, length-append f.before f.left, length-bits body)
