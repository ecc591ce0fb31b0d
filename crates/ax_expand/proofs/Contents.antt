-- Contents are read as they are spelled, and as they fail; so each is judged once.
use Rattle.std.proofs.Common.{◌≡◌, ℕ, ◌+◌, ◌<◌, ◌⊎◌, inl, inr, List, [], ◌∷◌, ◌++◌, length, refl, sym, ◌∙◌, ap, arith, subst, append-nil, append_assoc, length-append}
use Rattle.std.proofs.lemmas.List.{append_cancel_right}
use Rattle.ax_bits.proofs.Words.{bits-AreBits}
use Rattle.ax_bits.specs.Bits.{bits, AreBits}
use Rattle.ax_format.specs.Failing.{EntriesFail}
use Rattle.ax_format.specs.Presence.{NoneUndefined}
use Rattle.ax_format.specs.Reader.{Read, got, failed, after, marked_read, entries_read}
use Rattle.ax_format.specs.Sound.{Sound}
use Rattle.ax_format.specs.Spelling.{EntriesSpell}
use Rattle.ax_format.specs.Tree.{SlotsTree, defined_slots, ValueTree, marked, EntriesTree, compound}
use Rattle.ax_format.specs.declared.fault.BodyCause.{BodyCause}
use Rattle.ax_format.proofs.Failed.{failed_is, entries_failed}
use Rattle.ax_format.proofs.Meets.{Meets, after_meets, bits_of, entries_meets}
use Rattle.ax_format.proofs.Spelled.{got_is, entries_spelled, entries_defined}
use Rattle.ax_expand.specs.Answers.{IsJudgedOnce}
use Rattle.ax_expand.specs.Content.{SpellsContent, StopsIn, FailsContent, inside, trailing, content_cause}
use Rattle.ax_expand.specs.Fields.{FieldFails}
use Rattle.ax_expand.specs.Reading.{field_read, content_read}
use Rattle.ax_expand.specs.declared.form.Form.{Form}
use Rattle.ax_expand.specs.declared.fault.ContentCause.{ContentCause}
use Rattle.ax_expand.specs.declared.fault.ContentCause.TheVariants.{TrailingOctets}
use Rattle.ax_expand.proofs.Fields.{FieldIs, field_spelled, field_failed, field_meets, field_bits}

-- ---- the reader

pub content_spelled : (form : Form) (ss : SlotsTree) (v : ValueTree) (b r : List ℕ) → SpellsContent form ss v b → content_read form ss (b ++ r) ≡ got v (length b) r
unfolding content_read
content_spelled form ss (marked es) b r (f, y, ms, e, p, h) =
    ap (λ b. marked_read (field_read form ss b) (entries_read 1 ss)) (ap (λ b. b ++ r) e ∙ append_assoc f y r)
    ∙ ap (λ m. marked_read m (entries_read 1 ss)) (field_spelled form ss ms f (y ++ r) p (entries_defined 1 ss ms es y h))
    ∙ ap (after (length f) (λ es. marked es)) (entries_spelled 1 ss ms es y r h)
    ∙ got_is r refl (sym (ap length e ∙ length-append f y))
content_spelled form ss _ b r h = absurd h

pub content_stopped : (form : Form) (ss : SlotsTree) (b : List ℕ) (p : ℕ) (c : BodyCause) → StopsIn form ss b p c → content_read form ss b ≡ failed p c
unfolding content_read
content_stopped form ss b p c (inl h) = ap (λ m. marked_read m (entries_read 1 ss)) (field_failed form ss b p c h)
content_stopped form ss b p c (inr (ms, x, y, e, h, clear, q, f, g)) =
    ap (λ m. marked_read m (entries_read 1 ss)) (ap (field_read form ss) e ∙ field_spelled form ss ms x y h clear)
    ∙ ap (after (length x) (λ es. marked es)) (entries_failed 1 ss ms y q c g) ∙ failed_is (sym f) refl

marked_meets : (form : Form) (ss : SlotsTree) (b : List ℕ) → AreBits b → (go : List ℕ → List ℕ → Read EntriesTree)
    → ((ms y : List ℕ) → NoneUndefined (defined_slots ss) ms → AreBits ms → AreBits y → Meets (EntriesSpell 1 ss ms) (EntriesFail ss ms y) y (go ms y))
    → (r : Read (List ℕ)) → Meets (FieldIs form ss) (FieldFails form ss b) b r → Meets (SpellsContent form ss) (StopsIn form ss b) b (marked_read r go)
marked_meets form ss b bit go ih (failed p c) h = inl h
marked_meets form ss b bit go ih (got ms n y) (x, e, l, (h, clear)) =
    after_meets (λ es. marked es) n (EntriesSpell 1 ss ms) (EntriesFail ss ms y) (SpellsContent form ss) (StopsIn form ss b) b x y e l
    (λ es z t. (x, z, ms, refl, h, t)) (λ q c t. inr (ms, x, y, e, h, clear, q, ap (λ n. n + q) (sym l), t))
    (go ms y) (ih ms y clear (field_bits form ss ms x h) (bits_of b x y e bit).1)

pub content_meets : (form : Form) (ss : SlotsTree) (b : List ℕ) → Sound (compound ss) → AreBits b → Meets (SpellsContent form ss) (StopsIn form ss b) b (content_read form ss b)
unfolding content_read
content_meets form ss b sound bit =
    marked_meets form ss b bit (entries_read 1 ss) (λ ms y clear marks t. entries_meets 1 ss ms y sound.1 clear marks t) (field_read form ss b) (field_meets form ss b bit sound.0)

-- ---- no spelling begins another

got_value : {a b : ValueTree} {m n : ℕ} {x y : List ℕ} → got a m x ≡ got b n y → a ≡ b
got_value e = cc

got_count : {a b : ValueTree} {m n : ℕ} {x y : List ℕ} → got a m x ≡ got b n y → m ≡ n
got_count e = cc

got_rest : {a b : ValueTree} {m n : ℕ} {x y : List ℕ} → got a m x ≡ got b n y → x ≡ y
got_rest e = cc

apart : {a : ValueTree} {n p : ℕ} {y : List ℕ} {c : BodyCause} → got a n y ≡ failed p c → ⊥
apart e = cc

same_fault : {p q : ℕ} {c d : BodyCause} → ◌≡◌ {A = Read ValueTree} (failed p c) (failed q d) → (p ≡ q) × (c ≡ d)
same_fault e = (cc, cc)

pub prefix_free : (form : Form) (ss : SlotsTree) (v w : ValueTree) (b c x y : List ℕ) → SpellsContent form ss v b → SpellsContent form ss w c → b ++ x ≡ c ++ y → (b ≡ c) × (v ≡ w)
prefix_free form ss v w b c x y p q e =
    let same : got v (length b) x ≡ got w (length c) y = sym (content_spelled form ss v b x p) ∙ ap (content_read form ss) e ∙ content_spelled form ss w c y q in
    let tail : x ≡ y = got_rest same in
    (append_cancel_right b c x (e ∙ ap (λ y. c ++ y) (sym tail)), got_value same)

-- ---- what all of a content is

pub whole_read : (form : Form) (ss : SlotsTree) (v : ValueTree) (b : List ℕ) → SpellsContent form ss v b → content_read form ss b ≡ got v (length b) []
whole_read form ss v b h = ap (content_read form ss) (sym (append-nil b)) ∙ content_spelled form ss v b [] h

-- how a fault is read
pub data FaultRead (form : Form) (ss : SlotsTree) (b : List ℕ) (p : ℕ) (c : ContentCause) : Type 0 where
  read_inside : (cause : BodyCause) → c ≡ content_cause cause → content_read form ss b ≡ failed p cause → FaultRead form ss b p c
  read_trailing : (v : ValueTree) (y : List ℕ) → 0 < length y → c ≡ TrailingOctets → content_read form ss b ≡ got v p y → FaultRead form ss b p c

pub fault_read : (form : Form) (ss : SlotsTree) (b : List ℕ) (p : ℕ) (c : ContentCause) → FailsContent form ss b p c → FaultRead form ss b p c
fault_read form ss b p c (inside cause e h) = read_inside cause e (content_stopped form ss b p cause h)
fault_read form ss b p c (trailing v x y e h some at f) = read_trailing v y some f (ap (content_read form ss) e ∙ content_spelled form ss v x y h ∙ got_is y refl (sym at))

no_rest : (y : List ℕ) → 0 < length y → [] ≡ y → ⊥
no_rest y lt e = omega (arith, lt, ap length e)

spelled_apart : (form : Form) (ss : SlotsTree) (v : ValueTree) (b : List ℕ) (n p : ℕ) (c : ContentCause) → content_read form ss b ≡ got v n [] → FaultRead form ss b p c → ⊥
spelled_apart form ss v b n p c g (read_inside cause e h) = apart (sym g ∙ h)
spelled_apart form ss v b n p c g (read_trailing w y some e h) = no_rest y some (got_rest (sym g ∙ h))

pub never_both : (form : Form) (ss : SlotsTree) (v : ValueTree) (b : List ℕ) (p : ℕ) (c : ContentCause) → SpellsContent form ss v b → FailsContent form ss b p c → ⊥
never_both form ss v b p c g h = spelled_apart form ss v b (length b) p c (whole_read form ss v b g) (fault_read form ss b p c h)

faults_same : (form : Form) (ss : SlotsTree) (b : List ℕ) (p q : ℕ) (c d : ContentCause) → FaultRead form ss b p c → FaultRead form ss b q d → (p ≡ q) × (c ≡ d)
faults_same form ss b p q c d (read_inside cause e g) (read_inside other f h) = let s = same_fault (sym g ∙ h) in (s.0, e ∙ ap content_cause s.1 ∙ sym f)
faults_same form ss b p q c d (read_inside cause e g) (read_trailing v y some f h) = absurd (apart (sym h ∙ g))
faults_same form ss b p q c d (read_trailing v y some e g) (read_inside cause f h) = absurd (apart (sym g ∙ h))
faults_same form ss b p q c d (read_trailing v y some e g) (read_trailing w z more f h) = (got_count (sym g ∙ h), e ∙ sym f)

pub fails_once : (form : Form) (ss : SlotsTree) (b : List ℕ) (p q : ℕ) (c d : ContentCause) → FailsContent form ss b p c → FailsContent form ss b q d → (p ≡ q) × (c ≡ d)
fails_once form ss b p q c d g h = faults_same form ss b p q c d (fault_read form ss b p c g) (fault_read form ss b q d h)

pub one_value : (form : Form) (ss : SlotsTree) (v w : ValueTree) (b : List ℕ) → SpellsContent form ss v b → SpellsContent form ss w b → v ≡ w
one_value form ss v w b g h = (prefix_free form ss v w b b [] [] g h refl).1

-- ---- from what is read

pub spelled_of : (form : Form) (ss : SlotsTree) (b : List ℕ) (v : ValueTree) (n : ℕ) → Sound (compound ss) → AreBits b → content_read form ss b ≡ got v n [] → SpellsContent form ss v b
spelled_of form ss b v n sound bit e =
    let m : Meets (SpellsContent form ss) (StopsIn form ss b) b (got v n []) = subst (Meets (SpellsContent form ss) (StopsIn form ss b) b) e (content_meets form ss b sound bit) in
    subst (SpellsContent form ss v) (sym (append-nil m.0) ∙ sym m.1) m.3

pub trailing_of : (form : Form) (ss : SlotsTree) (b : List ℕ) (v : ValueTree) (n : ℕ) (y : List ℕ) → Sound (compound ss) → AreBits b → 0 < length y → content_read form ss b ≡ got v n y → FailsContent form ss b n TrailingOctets
trailing_of form ss b v n y sound bit some e =
    let m : Meets (SpellsContent form ss) (StopsIn form ss b) b (got v n y) = subst (Meets (SpellsContent form ss) (StopsIn form ss b) b) e (content_meets form ss b sound bit) in
    trailing v m.0 y m.1 m.3 some (sym m.2) refl

pub inside_of : (form : Form) (ss : SlotsTree) (b : List ℕ) (p : ℕ) (c : BodyCause) → Sound (compound ss) → AreBits b → content_read form ss b ≡ failed p c → FailsContent form ss b p (content_cause c)
inside_of form ss b p c sound bit e = inside c refl (subst (Meets (SpellsContent form ss) (StopsIn form ss b) b) e (content_meets form ss b sound bit))

judged : (form : Form) (ss : SlotsTree) (b : List ℕ) → Sound (compound ss) → AreBits b → (r : Read ValueTree) → content_read form ss b ≡ r → ((v : ValueTree) × SpellsContent form ss v b) ⊎ ((p : ℕ) × (c : ContentCause) × FailsContent form ss b p c)
judged form ss b sound bit (got v n []) e = inl (v, spelled_of form ss b v n sound bit e)
judged form ss b sound bit (got v n (a ∷ y)) e = inr (n, TrailingOctets, trailing_of form ss b v n (a ∷ y) sound bit (omega arith) e)
judged form ss b sound bit (failed p c) e = inr (p, content_cause c, inside_of form ss b p c sound bit e)

pub judged_once : (form : Form) (ss : SlotsTree) (octets : List ℕ) → Sound (compound ss) → IsJudgedOnce form ss (bits octets)
judged_once form ss octets sound = record {
  some = judged form ss (bits octets) sound (bits-AreBits octets) (content_read form ss (bits octets)) refl;
  one_spelled = λ v w g h. one_value form ss v w (bits octets) g h;
  one_fault = λ p q c d g h. fails_once form ss (bits octets) p q c d g h;
  never_both = λ v p c g h. never_both form ss v (bits octets) p c g h;
}
