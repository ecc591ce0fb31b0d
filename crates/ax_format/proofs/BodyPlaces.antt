-- The place of a body's fault is true: what tells it begins no body, and what is before it begins one.
use Rattle.std.proofs.Common.{◌≡◌, ℕ, ◌+◌, ◌%◌, ◌<◌, ◌≤◌, List, [], ◌∷◌, ◌++◌, length, refl, sym, ◌∙◌, ap, arith, length-append, append_assoc, append-nil, subst}
use Rattle.ax_bits.proofs.Words.{length-bits, bits-AreBits}
use Rattle.ax_bits.specs.Bits.{bits}
use Rattle.ax_format.proofs.Completions.{after_kept, completes}
use Rattle.ax_format.proofs.Meets.{bits_of}
use Rattle.ax_format.proofs.Once.{body_never_both}
use Rattle.ax_format.proofs.Stays.{following, fails_stays}
use Rattle.ax_format.proofs.WholeOctets.{two_whole, spells_whole}
use Rattle.ax_format.specs.Bodies.{FailsBody, SpellsBody, RecordsSpell, SpellsRecord}
use Rattle.ax_format.specs.Completing.{Completes}
use Rattle.ax_format.specs.Sound.{Sound}
use Rattle.ax_format.specs.Specification.{SpecTree, record_kind}
use Rattle.ax_format.specs.Spelling.{Spells}
use Rattle.ax_format.specs.Telling.{fault_bits, BeginAlike}
use Rattle.ax_format.specs.Tree.{EntriesTree, marked, ValueTree}
use Rattle.ax_format.specs.Whole.{Whole}
use Rattle.ax_format.specs.declared.fault.BodyCause.{BodyCause}
use Rattle.ax_format.specs.declared.fault.BodyCause.TheVariants.{RunsOut, UndefinedSlot, PresenceTooLong, ExtensionPastEnd, BadExplicitLength}

told_some : (c : BodyCause) → (c ≡ RunsOut → ⊥) → 0 < fault_bits c
told_some RunsOut more = absurd (more refl)
told_some UndefinedSlot more = omega arith
told_some PresenceTooLong more = omega arith
told_some ExtensionPastEnd more = omega arith
told_some BadExplicitLength more = omega arith

begin_some : (n : ℕ) (b d : List ℕ) → BeginAlike n b d → n ≤ length d
begin_some n b d s = let long : n ≤ length s.common = s.long in omega (arith, ap length s.second, length-append s.common s.right)

body_stays : (spec : SpecTree) (b d : List ℕ) (p : ℕ) (c : BodyCause) → (c ≡ RunsOut → ⊥) → BeginAlike (p + fault_bits c) b d → FailsBody spec b p c → (q : ℕ) × (e : BodyCause) × FailsBody spec d q e
body_stays spec b d p c more s h =
    let f : p ≡ length h.before + h.place = h.counted in
    let t = following (p + fault_bits c) (h.place + fault_bits c) b d h.before h.left s h.split (omega arith) in
    let u = fails_stays (record_kind spec) h.left t.0 h.place c more t.2 h.fails.fails in
    let some : 0 < length t.0 = omega (arith, told_some c more, begin_some (h.place + fault_bits c) h.left t.0 t.2) in
    (length h.before + u.0, u.1, record { records = h.records; before = h.before; left = t.0; split = t.1; spelled = h.spelled; some = some; place = u.0; counted = refl; fails = record { fails = u.2 } })

pub told_spells_no_body : (spec : SpecTree) (b d : List ℕ) (p : ℕ) (c : BodyCause) (vs : List EntriesTree) → (c ≡ RunsOut → ⊥) → BeginAlike (p + fault_bits c) b d → FailsBody spec b p c → SpellsBody spec vs d → ⊥
told_spells_no_body spec b d p c vs more s h g = let u = body_stays spec b d p c more s h in body_never_both spec d vs u.0 u.1 g u.2

one_more : (spec : SpecTree) (vs : List EntriesTree) (x : List ℕ) (v : EntriesTree) (w : List ℕ) → RecordsSpell spec vs x → SpellsRecord spec v w → RecordsSpell spec (vs ++ v ∷ []) (x ++ w)
one_more spec [] x v w h t = (w, [], ap (λ x. x ++ w) h ∙ sym (append-nil w), t, refl)
one_more spec (u ∷ vs) x v w (y, z, e, h, r) t = (y, z ++ w, ap (λ x. x ++ w) e ∙ append_assoc y z w, h, one_more spec vs z v w r t)

records_whole : (spec : SpecTree) (vs : List EntriesTree) (x : List ℕ) → Whole (record_kind spec) → RecordsSpell spec vs x → length x % 8 ≡ 0
records_whole spec [] x w h = omega (arith, ap length h)
records_whole spec (v ∷ vs) x w (y, z, e, h, r) = two_whole x y z e (spells_whole (record_kind spec) (marked v) y w h.spells) (records_whole spec vs z w r)

abbrev pub Some_body : SpecTree → List ℕ → Type 0
Some_body spec w = (vs : List EntriesTree) × SpellsBody spec vs w

abbrev Some_record : SpecTree → List ℕ → Type 0
Some_record spec w = (r : EntriesTree) × SpellsRecord spec r w

record_of : (spec : SpecTree) (v : ValueTree) (w : List ℕ) → Spells (record_kind spec) v w → Some_record spec w
record_of spec (marked es) w h = (es, record { spells = h })
record_of spec _ w h = absurd h

put_record : (spec : SpecTree) (rs : List EntriesTree) (x : List ℕ) → RecordsSpell spec rs x → (w : List ℕ) → Some_record spec w → (d : List ℕ) × Some_body spec (x ++ (w ++ d))
put_record spec rs x h w (r, t) =
    ([], (rs ++ r ∷ [], record { some = omega (arith, length-append rs (r ∷ [])); spelled = subst (λ w. RecordsSpell spec (rs ++ r ∷ []) (x ++ w)) (sym (append-nil w)) (one_more spec rs x r w h t) }))

pub body_completes : (spec : SpecTree) (xs : List ℕ) (p : ℕ) (c : BodyCause) → Sound (record_kind spec) → Whole (record_kind spec) → FailsBody spec (bits xs) p c → Completes (Some_body spec) (bits xs) p c
body_completes spec xs p c sound w h =
    let xw : length h.before % 8 ≡ 0 = records_whole spec h.records h.before w h.spelled in
    let yw : length h.left % 8 ≡ 0 = omega (arith, ap length h.split, length-append h.before h.left, length-bits xs) in
    let bit = bits_of (bits xs) h.before h.left h.split (bits-AreBits xs) in
    after_kept (Some_body spec) (λ w. (v : ValueTree) × Spells (record_kind spec) v w) (bits xs) h.before h.left p h.place c h.split h.counted
    (λ w t. put_record spec h.records h.before h.spelled w (record_of spec t.0 w t.1))
    (completes (record_kind spec) h.left h.place c sound w bit.1 yw h.fails.fails)
