-- The reader of a body, and of a record over a specification.
use Rattle.std.proofs.Common.{◌≡◌, ℕ, zero, suc, ◌+◌, ◌<◌, ◌≤◌, inl, inr, List, [], ◌∷◌, ◌++◌, length, refl, sym, ◌∙◌, ap, arith, length-append, append_assoc}
use Rattle.ax_bits.specs.Bits.{AreBits}
use Rattle.ax_format.proofs.Failed.{read_failed}
use Rattle.ax_format.proofs.Meets.{Meets, bits_of, read_meets}
use Rattle.ax_format.specs.Reader.{Read, got, failed, read, Body, whole_body, fault_at, body_after, body_more, body_read}
use Rattle.ax_format.proofs.Spelled.{read_spelled}
use Rattle.ax_format.specs.Bodies.{SpellsRecord, RecordsSpell, FailsRecord, FailsBody}
use Rattle.ax_format.specs.Failing.{Fails}
use Rattle.ax_format.specs.Presence.{Presence, octets_needed}
use Rattle.ax_format.specs.Sound.{Sound}
use Rattle.ax_format.specs.Specification.{SpecTree, record_kind, record_slots}
use Rattle.ax_format.specs.Spelling.{Spells}
use Rattle.ax_format.specs.Tree.{EntriesTree, ValueTree, marked, SlotsTree, compound, slot_count}
use Rattle.ax_format.specs.declared.fault.BodyCause.{BodyCause}

-- a record has some bits
presence_some : (k : ℕ) (ms b : List ℕ) → Presence k ms b → 0 < length b
presence_some zero ms b h = absurd h
presence_some (suc k) ms b (seven, l, bit, inl (e, f)) = omega (arith, ap length f, length-append seven (0 ∷ []))
presence_some (suc k) ms b (seven, l, bit, inr (more, y, e, f, t)) = omega (arith, ap length f, length-append seven (1 ∷ y))

pub compound_some : (ss : SlotsTree) (es : EntriesTree) (b : List ℕ) → Spells (compound ss) (marked es) b → 0 < length b
compound_some ss es b (f, y, ms, e, p, h) = let some : 0 < length f = presence_some (octets_needed (slot_count ss)) ms f p in omega (arith, ap length e, length-append f y)

pub record_some : (spec : SpecTree) (r : EntriesTree) (b : List ℕ) → SpellsRecord spec r b → 0 < length b
record_some spec r b h = compound_some (record_slots spec) r b h.spells

body_none : (n : ℕ) (spec : SpecTree) → body_read n spec [] ≡ whole_body []
body_none zero spec = refl
body_none (suc n) spec = refl

body_first : (n : ℕ) (spec : SpecTree) (v : EntriesTree) (x r : List ℕ) → SpellsRecord spec v x → body_read (suc n) spec (x ++ r) ≡ body_after v (length x) (body_read n spec r)
body_first n spec v [] r h = absurd (let some : 0 < 0 = record_some spec v [] h in omega arith)
body_first n spec v (a ∷ x) r h = ap (λ s. body_more s (body_read n spec)) (read_spelled (record_kind spec) (marked v) (a ∷ x) r h.spells)

pub body_spelled : (n : ℕ) (spec : SpecTree) (vs : List EntriesTree) (b : List ℕ) → length b ≤ n → RecordsSpell spec vs b → body_read n spec b ≡ whole_body vs
body_spelled n spec [] b le h = ap (body_read n spec) h ∙ body_none n spec
body_spelled zero spec (v ∷ vs) b le (x, y, e, h, t) = absurd (let some = record_some spec v x h in omega (arith, ap length e, length-append x y))
body_spelled (suc n) spec (v ∷ vs) b le (x, y, e, h, t) =
    let some = record_some spec v x h in
    ap (body_read (suc n) spec) e ∙ body_first n spec v x y h ∙ ap (body_after v (length x)) (body_spelled n spec vs y (omega (arith, ap length e, length-append x y)) t)

pub body_failed : (n : ℕ) (spec : SpecTree) (vs : List EntriesTree) (b x y : List ℕ) (q : ℕ) (c : BodyCause) → length b ≤ n → b ≡ x ++ y → RecordsSpell spec vs x → 0 < length y → FailsRecord spec y q c → body_read n spec b ≡ fault_at (length x + q) c
body_failed zero spec vs b x y q c le e h some g = absurd (omega (arith, ap length e, length-append x y))
body_failed (suc n) spec [] b x [] q c le e h some g = absurd (omega arith)
body_failed (suc n) spec [] b x (a ∷ y) q c le e h some g =
    ap (body_read (suc n) spec) (e ∙ ap (λ x. x ++ a ∷ y) h) ∙ ap (λ s. body_more s (body_read n spec)) (read_failed (record_kind spec) (a ∷ y) q c g.fails) ∙ ap (λ p. fault_at p c) (let z : q ≡ length x + q = omega (arith, ap length h) in z)
body_failed (suc n) spec (v ∷ vs) b x y q c le e (x1, x2, f, h, t) some g =
    let one = record_some spec v x1 h in
    let l : length x ≡ length x1 + length x2 = ap length f ∙ length-append x1 x2 in
    ap (body_read (suc n) spec) (e ∙ ap (λ x. x ++ y) f ∙ append_assoc x1 x2 y) ∙ body_first n spec v x1 (x2 ++ y) h
    ∙ ap (body_after v (length x1)) (body_failed n spec vs (x2 ++ y) x2 y q c (omega (arith, ap length e, length-append x y, length-append x2 y)) refl t some g)
    ∙ ap (λ p. fault_at p c) (let z : length x1 + (length x2 + q) ≡ length x + q = omega arith in z)

abbrev pub BodyMeets : SpecTree → List ℕ → Body → Type 0
BodyMeets spec b (whole_body vs) = RecordsSpell spec vs b
BodyMeets spec b (fault_at p c) = FailsBody spec b p c

body_later : (spec : SpecTree) (v : EntriesTree) (n : ℕ) (b x y : List ℕ) → b ≡ x ++ y → length x ≡ n → SpellsRecord spec v x → (r : Body) → BodyMeets spec y r → BodyMeets spec b (body_after v n r)
body_later spec v n b x y e l h (whole_body vs) t = (x, y, e, h, t)
body_later spec v n b x y e l h (fault_at p c) t = record {
  records = v ∷ t.records;
  before = x ++ t.before;
  left = t.left;
  split = e ∙ ap (λ y. x ++ y) t.split ∙ sym (append_assoc x t.before t.left);
  spelled = (x, t.before, refl, h, t.spelled);
  some = t.some;
  place = t.place;
  counted = omega (arith, length-append x t.before);
  fails = t.fails;
}

body_step : (spec : SpecTree) (b : List ℕ) → AreBits b → 0 < length b → (go : List ℕ → Body) → ((y : List ℕ) → AreBits y → length y < length b → BodyMeets spec y (go y)) → (r : Read ValueTree) → Meets (Spells (record_kind spec)) (Fails (record_kind spec) b) b r → BodyMeets spec b (body_more r go)
body_step spec b bit some go ih (failed p c) h = record { records = []; before = []; left = b; split = refl; spelled = refl; some = some; place = p; counted = omega arith; fails = record { fails = h } }
body_step spec b bit some go ih (got (marked es) n y) (x, e, l, h) =
    let one = compound_some (record_slots spec) es x h in
    body_later spec es n b x y e l (record { spells = h }) (go y) (ih y (bits_of b x y e bit).1 (omega (arith, ap length e, length-append x y)))
body_step spec b bit some go ih (got _ n y) (x, e, l, h) = absurd h

pub body_meets : (n : ℕ) (spec : SpecTree) (b : List ℕ) → length b ≤ n → Sound (record_kind spec) → AreBits b → BodyMeets spec b (body_read n spec b)
body_meets zero spec [] le sound bit = refl
body_meets zero spec (a ∷ b) le sound bit = absurd (omega arith)
body_meets (suc n) spec [] le sound bit = refl
body_meets (suc n) spec (a ∷ b) le sound bit =
    body_step spec (a ∷ b) bit (omega arith) (body_read n spec) (λ y t less. body_meets n spec y (omega arith) sound t) (read (record_kind spec) (a ∷ b)) (read_meets (record_kind spec) (a ∷ b) sound bit)
