-- Spelled once or fails once, and never both.
use Rattle.std.proofs.Common.{◌≡◌, ℕ, ◌<◌, ◌⊎◌, inl, inr, List, [], ◌∷◌, ◌++◌, length, sym, ◌∙◌, ap, arith}
use Rattle.ax_bits.proofs.Words.{length-bits, bits-AreBits}
use Rattle.ax_bits.specs.Bits.{AreBits, bits}
use Rattle.ax_format.proofs.BodyReader.{body_failed, body_spelled, BodyMeets, body_meets}
use Rattle.ax_format.proofs.Failed.{read_failed}
use Rattle.ax_format.proofs.Meets.{Meets, read_meets}
use Rattle.ax_format.specs.Reader.{got, failed, Read, read, whole_body, fault_at, body_read, Body}
use Rattle.ax_format.proofs.Spelled.{read_spelled}
use Rattle.ax_format.specs.Bodies.{FailsBody, SpellsBody, RecordsSpell}
use Rattle.ax_format.specs.Failing.{Fails}
use Rattle.ax_format.specs.Sound.{Sound}
use Rattle.ax_format.specs.Specification.{SpecTree, record_kind}
use Rattle.ax_format.specs.Spelling.{Spells}
use Rattle.ax_format.specs.Tree.{KindTree, ValueTree, EntriesTree}
use Rattle.ax_format.specs.declared.fault.BodyCause.{BodyCause}

-- ---- kinds

apart : {A : Type 0} {a : A} {n p : ℕ} {y : List ℕ} {c : BodyCause} → got a n y ≡ failed p c → ⊥
apart e = cc

same_fault : {A : Type 0} {p q : ℕ} {c d : BodyCause} → ◌≡◌ {A = Read A} (failed p c) (failed q d) → (p ≡ q) × (c ≡ d)
same_fault e = (cc, cc)

pub never_both : (k : KindTree) (v : ValueTree) (x y : List ℕ) (p : ℕ) (c : BodyCause) → Spells k v x → Fails k (x ++ y) p c → ⊥
never_both k v x y p c h g = apart (sym (read_spelled k v x y h) ∙ read_failed k (x ++ y) p c g)

pub fails_once : (k : KindTree) (b : List ℕ) (p q : ℕ) (c d : BodyCause) → Fails k b p c → Fails k b q d → (p ≡ q) × (c ≡ d)
fails_once k b p q c d g h = same_fault (sym (read_failed k b p c g) ∙ read_failed k b q d h)

found : (k : KindTree) (b : List ℕ) (r : Read ValueTree) → Meets (Spells k) (Fails k b) b r
    → ((v : ValueTree) × (x : List ℕ) × (y : List ℕ) × (b ≡ x ++ y) × Spells k v x) ⊎ ((p : ℕ) × (c : BodyCause) × Fails k b p c)
found k b (got v n y) (x, e, l, h) = inl (v, x, y, e, h)
found k b (failed p c) h = inr (p, c, h)

pub spelled_or_fails : (k : KindTree) (b : List ℕ) → Sound k → AreBits b
    → ((v : ValueTree) × (x : List ℕ) × (y : List ℕ) × (b ≡ x ++ y) × Spells k v x) ⊎ ((p : ℕ) × (c : BodyCause) × Fails k b p c)
spelled_or_fails k b sound bit = found k b (read k b) (read_meets k b sound bit)

-- ---- bodies

same_records : {vs ws : List EntriesTree} → whole_body vs ≡ whole_body ws → vs ≡ ws
same_records e = cc

body_apart : {vs : List EntriesTree} {p : ℕ} {c : BodyCause} → whole_body vs ≡ fault_at p c → ⊥
body_apart e = cc

body_same_fault : {p q : ℕ} {c d : BodyCause} → fault_at p c ≡ fault_at q d → (p ≡ q) × (c ≡ d)
body_same_fault e = (cc, cc)

pub read_fault : (spec : SpecTree) (b : List ℕ) (p : ℕ) (c : BodyCause) → FailsBody spec b p c → body_read (length b) spec b ≡ fault_at p c
read_fault spec b p c h = body_failed (length b) spec h.records b h.before h.left h.place c (omega arith) h.split h.spelled h.some h.fails ∙ ap (λ p. fault_at p c) (sym h.counted)

pub body_once : (spec : SpecTree) (b : List ℕ) (vs ws : List EntriesTree) → SpellsBody spec vs b → SpellsBody spec ws b → vs ≡ ws
body_once spec b vs ws g h = same_records (sym (body_spelled (length b) spec vs b (omega arith) g.spelled) ∙ body_spelled (length b) spec ws b (omega arith) h.spelled)

pub body_never_both : (spec : SpecTree) (b : List ℕ) (vs : List EntriesTree) (p : ℕ) (c : BodyCause) → SpellsBody spec vs b → FailsBody spec b p c → ⊥
body_never_both spec b vs p c g h = body_apart (sym (body_spelled (length b) spec vs b (omega arith) g.spelled) ∙ read_fault spec b p c h)

pub body_fails_once : (spec : SpecTree) (b : List ℕ) (p q : ℕ) (c d : BodyCause) → FailsBody spec b p c → FailsBody spec b q d → (p ≡ q) × (c ≡ d)
body_fails_once spec b p q c d g h = body_same_fault (sym (read_fault spec b p c g) ∙ read_fault spec b q d h)

some_records : (spec : SpecTree) (vs : List EntriesTree) (b : List ℕ) → 0 < length b → RecordsSpell spec vs b → 0 < length vs
some_records spec [] b some h = absurd (omega (arith, ap length h))
some_records spec (v ∷ vs) b some h = omega arith

body_found : (spec : SpecTree) (b : List ℕ) → 0 < length b → (r : Body) → BodyMeets spec b r → ((vs : List EntriesTree) × SpellsBody spec vs b) ⊎ ((p : ℕ) × (c : BodyCause) × FailsBody spec b p c)
body_found spec b some (whole_body vs) h = inl (vs, record { some = some_records spec vs b some h; spelled = h })
body_found spec b some (fault_at p c) h = inr (p, c, h)

pub body_spelled_or_fails : (spec : SpecTree) (octets : List ℕ) → Sound (record_kind spec) → 0 < length octets
    → ((vs : List EntriesTree) × SpellsBody spec vs (bits octets)) ⊎ ((p : ℕ) × (c : BodyCause) × FailsBody spec (bits octets) p c)
body_spelled_or_fails spec octets sound some =
    let b = bits octets in body_found spec b (omega (arith, length-bits octets)) (body_read (length b) spec b) (body_meets (length b) spec b (omega arith) sound (bits-AreBits octets))
