-- A presence field read octet by octet.
use Rattle.std.proofs.Common.{◌≡◌, inl, inr, ℕ, zero, suc, ◌+◌, ◌-◌, ◌*◌, ◌/◌, ◌%◌, ◌<◌, ◌≤◌, Bool, IsTrue, List, [], ◌∷◌, ◌++◌, length, take, drop, get_or, refl, sym, ◌∙◌, ap, arith, subst, append_assoc, append-nil, length-append}
use Rattle.std.proofs.lemmas.List.{take-append-drop, drop_more, take_all}
use Rattle.ax_bits.proofs.Words.{bits-append, word-AreBits}
use Rattle.ax_bits.proofs.Pieces.{word-last, bits_more}
use Rattle.ax_fspec.specs.Marks.{seven}
use Rattle.ax_fspec.proofs.Sets.{length-seven}
use Rattle.ax_bits.specs.Bits.{AreBits, word, bits}
use Rattle.ax_format.specs.Failing.{PresenceFails, IsPresence}
use Rattle.ax_format.specs.Presence.{Presence, none_marked, later_slots, slots_past, NoneUndefined, FirstUndefined}
use Rattle.ax_format.specs.declared.fault.BodyCause.{BodyCause}
use Rattle.ax_format.specs.declared.fault.BodyCause.TheVariants.{RunsOut, UndefinedSlot, PresenceTooLong}

-- i presence octets, all with FX 1, and their marks
abbrev pub Leads : ℕ → List ℕ → List ℕ → Type 0
Leads zero marks b = (marks ≡ []) × (b ≡ [])
Leads (suc i) marks b =
    (own : List ℕ) × (more : List ℕ) × (y : List ℕ) × (length own ≡ 7) × AreBits own × (marks ≡ own ++ more) × (b ≡ own ++ 1 ∷ y) × Leads i more y

pub length-marks : (i : ℕ) (ms b : List ℕ) → Leads i ms b → length ms ≡ 7 * i
length-marks zero ms b h = ap length h.0
length-marks (suc i) ms b (own, more, y, l, bit, e, f, h) = ap length e ∙ length-append own more ∙ (let ih : length more ≡ 7 * i = length-marks i more y h in omega arith)

-- ---- undefined slots of joined marks

past_append : (a b : List ℕ) (ds : List Bool) → slots_past (a ++ b) ds ≡ slots_past b (slots_past a ds)
past_append [] b ds = refl
past_append (m ∷ a) b ds = past_append a b (later_slots ds)

clear_parts : (a b : List ℕ) (ds : List Bool) → NoneUndefined ds (a ++ b) → NoneUndefined ds a × NoneUndefined (slots_past a ds) b
clear_parts [] b ds h = (tt, h)
clear_parts (m ∷ a) b ds h = let t = clear_parts a b (later_slots ds) h.1 in ((h.0, t.0), t.1)

clear_both : (a b : List ℕ) (ds : List Bool) → NoneUndefined ds a → NoneUndefined (slots_past a ds) b → NoneUndefined ds (a ++ b)
clear_both [] b ds p q = q
clear_both (m ∷ a) b ds p q = (p.0, clear_both a b (later_slots ds) p.1 q)

-- ---- one more octet

pub leads_more : (i : ℕ) (ms b s : List ℕ) → length s ≡ 7 → AreBits s → Leads i ms b → Leads (suc i) (ms ++ s) (b ++ (s ++ 1 ∷ []))
leads_more zero ms b s l bit h = (s, [], [], l, bit, ap (λ k. k ++ s) h.0 ∙ sym (append-nil s), ap (λ k. k ++ (s ++ 1 ∷ [])) h.1, (refl, refl))
leads_more (suc i) ms b s l bit (own, more, y, k, bits2, e, f, h) =
    (own, more ++ s, y ++ (s ++ 1 ∷ []), k, bits2, ap (λ k. k ++ s) e ∙ append_assoc own more s, ap (λ k. k ++ (s ++ 1 ∷ [])) f ∙ append_assoc own (1 ∷ y) (s ++ 1 ∷ []), leads_more i more y s l bit h)

pub leads_field : (i k n : ℕ) (ms b s y : List ℕ) → n ≡ i + k → Leads i ms b → Presence k s y → Presence n (ms ++ s) (b ++ y)
leads_field zero k n ms b s y e h f =
    let count : k ≡ n = omega arith in
    let marks : s ≡ ms ++ s = sym (ap (λ z. z ++ s) h.0) in
    let field : y ≡ b ++ y = sym (ap (λ z. z ++ y) h.1) in
    subst (λ z. Presence z (ms ++ s) (b ++ y)) count (subst (λ z. Presence k z (b ++ y)) marks (subst (λ z. Presence k s z) field f))
leads_field (suc i) k zero ms b s y e h f = absurd (omega arith)
leads_field (suc i) k (suc n) ms b s y e (own, more, z, l, bit, p, q, h) f =
    (own, l, bit, inr (more ++ s, z ++ y, ap (λ k. k ++ s) p ∙ append_assoc own more s, ap (λ k. k ++ y) q ∙ append_assoc own (1 ∷ z) y, leads_field i k n more z s y (omega arith) h f))

pub leads_fails : (i k n : ℕ) (ds : List Bool) (ms b y : List ℕ) (q : ℕ) (c : BodyCause) → n ≡ i + k → Leads i ms b → NoneUndefined ds ms → PresenceFails k (slots_past ms ds) y q c →
    PresenceFails n ds (b ++ y) (8 * i + q) c
leads_fails zero k n ds ms b y q c e h clear f =
    let count : k ≡ n = omega arith in
    let slots : slots_past ms ds ≡ ds = ap (λ z. slots_past z ds) h.0 in
    let field : y ≡ b ++ y = sym (ap (λ z. z ++ y) h.1) in
    let place : q ≡ 8 * 0 + q = omega arith in
    subst (λ z. PresenceFails z ds (b ++ y) (8 * 0 + q) c) count
    (subst (λ z. PresenceFails k z (b ++ y) (8 * 0 + q) c) slots (subst (λ z. PresenceFails k (slots_past ms ds) z (8 * 0 + q) c) field (subst (λ z. PresenceFails k (slots_past ms ds) y z c) place f)))
leads_fails (suc i) k zero ds ms b y q c e h clear f = absurd (omega arith)
leads_fails (suc i) k (suc n) ds ms b y q c e (own, more, z, l, bit, p, g, h) clear f =
    let parts = clear_parts own more ds (subst (λ k. NoneUndefined ds k) p clear) in
    let slots : slots_past ms ds ≡ slots_past more (slots_past own ds) = ap (λ k. slots_past k ds) p ∙ past_append own more ds in
    let later = leads_fails i k n (slots_past own ds) more z y q c (omega arith) h parts.1 (subst (λ k2. PresenceFails k k2 y q c) slots f) in
    inr (own, 1, z ++ y, l, ap (λ k. k ++ y) g ∙ append_assoc own (1 ∷ z) y, inr (parts.0, refl, inr (8 * i + q, (let e : 8 * suc i + q ≡ 8 + (8 * i + q) = omega arith in e), later)))

pub too_long : (i : ℕ) (ds : List Bool) (ms b y : List ℕ) → Leads (suc i) ms b → NoneUndefined ds ms → PresenceFails (suc i) ds (b ++ y) (8 * i + 7) PresenceTooLong
too_long zero ds ms b y (own, more, z, l, bit, p, g, h) clear =
    let parts = clear_parts own more ds (subst (λ k. NoneUndefined ds k) p clear) in
    inr (own, 1, z ++ y, l, ap (λ k. k ++ y) g ∙ append_assoc own (1 ∷ z) y, inr (parts.0, refl, inl (refl, (let e : 8 * 0 + 7 ≡ 7 = omega arith in e), refl)))
too_long (suc i) ds ms b y (own, more, z, l, bit, p, g, h) clear =
    let parts = clear_parts own more ds (subst (λ k. NoneUndefined ds k) p clear) in
    let later = too_long i (slots_past own ds) more z y h parts.1 in
    inr (own, 1, z ++ y, l, ap (λ k. k ++ y) g ∙ append_assoc own (1 ∷ z) y, inr (parts.0, refl, inr (8 * i + 7, (let e : 8 * suc i + 7 ≡ 8 + (8 * i + 7) = omega arith in e), later)))

-- ---- the octets of a body

-- i octets in front were read, and these are their marks
pub record ReadSoFar (ds : List Bool) (octets : List ℕ) (i : ℕ) (marked : List ℕ) : Type 0 where
  pub within : i ≤ length octets
  pub leads : Leads i (take (7 * i) marked) (bits (take i octets))
  pub clear : NoneUndefined ds (take (7 * i) marked)
  pub none_following : IsTrue (none_marked (drop (7 * i) marked))

pub nothing_read : (ds : List Bool) (octets marked : List ℕ) → IsTrue (none_marked marked) → ReadSoFar ds octets 0 marked
nothing_read ds octets marked h = record { within = omega arith; leads = (refl, refl); clear = tt; none_following = h }

pub bits_parts : (octets : List ℕ) (i : ℕ) → bits octets ≡ bits (take i octets) ++ bits (drop i octets)
bits_parts octets i = ap bits (sym (take-append-drop i octets)) ∙ bits-append (take i octets) (drop i octets)

pub runs_out : (ds : List Bool) (octets marked : List ℕ) (i n : ℕ) → ReadSoFar ds octets i marked → i < n → length octets ≤ i → PresenceFails n ds (bits octets) (8 * i) RunsOut
runs_out ds octets marked i n h lt end =
    let count : n ≡ i + suc (n - i - 1) = omega arith in
    let all : bits (take i octets) ++ [] ≡ bits octets = append-nil (bits (take i octets)) ∙ ap bits (take_all i octets end) in
    let place : 8 * i + 0 ≡ 8 * i = omega arith in
    subst (λ k. PresenceFails n ds k (8 * i) RunsOut) all
    (subst (λ k. PresenceFails n ds (bits (take i octets) ++ []) k RunsOut) place
    (leads_fails i (suc (n - i - 1)) n ds (take (7 * i) marked) (bits (take i octets)) [] 0 RunsOut count h.leads h.clear (inl (omega arith, refl, refl))))

-- the marks and the FX of an octet
octet_bits : (x : ℕ) (later : List ℕ) → word 8 x ++ later ≡ seven (x / 2) ++ (x % 2) ∷ later
unfolding seven
octet_bits x later = ap (λ k. k ++ later) (word-last x) ∙ append_assoc (word 7 (x / 2)) ((x % 2) ∷ []) later

octet_at : (octets : List ℕ) (i : ℕ) → i < length octets →
    bits (drop i octets) ≡ seven (get_or octets i 0 / 2) ++ (get_or octets i 0 % 2) ∷ bits (drop (i + 1) octets)
octet_at octets i h = ap bits (drop_more octets i 0 h) ∙ octet_bits (get_or octets i 0) (bits (drop (i + 1) octets))

octet_after : (octets : List ℕ) (i : ℕ) → i < length octets →
    bits (take (i + 1) octets) ≡ bits (take i octets) ++ (seven (get_or octets i 0 / 2) ++ (get_or octets i 0 % 2) ∷ [])
octet_after octets i h =
    bits_more octets i h ∙ ap (λ k. bits (take i octets) ++ k) (sym (append-nil (word 8 (get_or octets i 0))) ∙ octet_bits (get_or octets i 0) [])

seven-AreBits : (n : ℕ) → AreBits (seven n)
unfolding seven
seven-AreBits n = word-AreBits 7 n

pub undefined : (ds : List Bool) (octets marked : List ℕ) (i n j : ℕ) → ReadSoFar ds octets i marked → i < n → i < length octets →
    FirstUndefined (slots_past (take (7 * i) marked) ds) (seven (get_or octets i 0 / 2)) j → PresenceFails n ds (bits octets) (8 * i + j) UndefinedSlot
undefined ds octets marked i n j h lt inside f =
    let count : n ≡ i + suc (n - i - 1) = omega arith in
    let x = get_or octets i 0 in
    let ms = take (7 * i) marked in
    let later : PresenceFails (suc (n - i - 1)) (slots_past ms ds) (bits (drop i octets)) j UndefinedSlot
    = inr (seven (x / 2), x % 2, bits (drop (i + 1) octets), length-seven (x / 2), octet_at octets i inside, inl (f, refl)) in
    subst (λ k. PresenceFails n ds k (8 * i + j) UndefinedSlot) (sym (bits_parts octets i))
    (leads_fails i (suc (n - i - 1)) n ds ms (bits (take i octets)) (bits (drop i octets)) j UndefinedSlot count h.leads h.clear later)

pub too_many : (ds : List Bool) (octets marked : List ℕ) (n : ℕ) → 1 ≤ n → ReadSoFar ds octets n marked → PresenceFails n ds (bits octets) (8 * (n - 1) + 7) PresenceTooLong
too_many ds octets marked zero some h = absurd (omega arith)
too_many ds octets marked (suc n) some h =
    let place : 8 * n + 7 ≡ 8 * (suc n - 1) + 7 = omega arith in
    subst (λ k. PresenceFails (suc n) ds (bits octets) k PresenceTooLong) place
    (subst (λ k. PresenceFails (suc n) ds k (8 * n + 7) PresenceTooLong) (sym (bits_parts octets (suc n)))
    (too_long n ds (take (7 * suc n) marked) (bits (take (suc n) octets)) (bits (drop (suc n) octets)) h.leads h.clear))

next : (new : List ℕ) (i : ℕ) → take (7 * i + 7) new ≡ take (7 * (i + 1)) new
next new i = ap (λ k. take k new) (omega arith)

pub read_more : (ds : List Bool) (octets marked new : List ℕ) (i m : ℕ) → ReadSoFar ds octets i marked → i < length octets → m ≡ get_or octets i 0 / 2 → get_or octets i 0 % 2 ≡ 1 →
    NoneUndefined (slots_past (take (7 * i) marked) ds) (seven m) → take (7 * i + 7) new ≡ take (7 * i) marked ++ seven m → IsTrue (none_marked (drop (7 * i + 7) new)) →
    ReadSoFar ds octets (i + 1) new
read_more ds octets marked new i m h inside mark fx clear front following =
    let ms = take (7 * i) marked in
    let all : ms ++ seven m ≡ take (7 * (i + 1)) new = sym front ∙ next new i in
    let field : bits (take i octets) ++ (seven m ++ 1 ∷ []) ≡ bits (take (i + 1) octets)
    = (λ j. bits (take i octets) ++ (seven (mark j) ++ sym fx j ∷ [])) ∙ sym (octet_after octets i inside) in
    let count : suc i ≡ i + 1 = omega arith in
    let leads : Leads (suc i) (ms ++ seven m) (bits (take i octets) ++ (seven m ++ 1 ∷ []))
    = leads_more i ms (bits (take i octets)) (seven m) (length-seven m) (seven-AreBits m) h.leads in
    record {
      within = omega arith;
      leads = subst (λ k. Leads k (take (7 * (i + 1)) new) (bits (take (i + 1) octets))) count
          (subst (λ k. Leads (suc i) k (bits (take (i + 1) octets))) all (subst (λ k. Leads (suc i) (ms ++ seven m) k) field leads));
      clear = subst (λ k. NoneUndefined ds k) all (clear_both ms (seven m) ds h.clear clear);
      none_following = subst (λ k. IsTrue (none_marked (drop k new))) (let e : 7 * i + 7 ≡ 7 * (i + 1) = omega arith in e) following;
    }

pub read_last : (ds : List Bool) (octets marked new : List ℕ) (i n m : ℕ) → ReadSoFar ds octets i marked → i < n → i < length octets → m ≡ get_or octets i 0 / 2 → get_or octets i 0 % 2 ≡ 0 →
    NoneUndefined (slots_past (take (7 * i) marked) ds) (seven m) → take (7 * i + 7) new ≡ take (7 * i) marked ++ seven m →
    IsPresence n ds (take (7 * (i + 1)) new) (bits (take (i + 1) octets))
read_last ds octets marked new i n m h lt inside mark fx clear front =
    let ms = take (7 * i) marked in
    let count : n ≡ i + suc (n - i - 1) = omega arith in
    let all : ms ++ seven m ≡ take (7 * (i + 1)) new = sym front ∙ next new i in
    let field : bits (take i octets) ++ (seven m ++ 0 ∷ []) ≡ bits (take (i + 1) octets)
    = (λ j. bits (take i octets) ++ (seven (mark j) ++ sym fx j ∷ [])) ∙ sym (octet_after octets i inside) in
    let last : Presence (suc (n - i - 1)) (seven m) (seven m ++ 0 ∷ []) = (seven m, length-seven m, seven-AreBits m, inl (refl, refl)) in
    let whole : Presence n (ms ++ seven m) (bits (take i octets) ++ (seven m ++ 0 ∷ []))
    = leads_field i (suc (n - i - 1)) n ms (bits (take i octets)) (seven m) (seven m ++ 0 ∷ []) count h.leads last in
    record {
      field = subst (λ k. Presence n k (bits (take (i + 1) octets))) all (subst (λ k. Presence n (ms ++ seven m) k) field whole);
      clear = subst (λ k. NoneUndefined ds k) all (clear_both ms (seven m) ds h.clear clear);
    }
