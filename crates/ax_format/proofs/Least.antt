-- Least presence fields.
use Rattle.std.proofs.Common.{◌≡◌, ℕ, zero, suc, ◌+◌, ◌-◌, ◌*◌, ◌<◌, ◌≤◌, ◌==◌, inl, inr, Bool, true, false, cond, IsTrue, List, [], ◌∷◌, ◌++◌, length, refl, sym, ◌∙◌, ap, arith, length-append, append-nil, subst}
use Rattle.std.proofs.lemmas.Bool.{eq-eqb, ne_eqb}
use Rattle.ax_bits.specs.Bits.{AreBits}
use Rattle.ax_format.specs.Canonical.{marks_of}
use Rattle.ax_format.specs.Presence.{none_marked, first_mark, later_marks, marks_after, marks_upto, Presence, least_presence, octets_needed}
use Rattle.ax_format.specs.Spelling.{EntriesSpell}
use Rattle.ax_format.specs.Tree.{SlotsTree, EntriesTree, no_slots, no_entries, entry_and, slot_and, spare_slot, subitem, ValueTree, slot_count}
use Rattle.ax_format.proofs.Unmarked.{none_first, none_later}

-- the same marks, if a list goes on with zeros
abbrev pub Alike : List ℕ → List ℕ → Type 0
Alike [] b = IsTrue (none_marked b)
Alike (x ∷ a) b = (x ≡ first_mark b) × Alike a (later_marks b)

Alike-first : (a b : List ℕ) → Alike a b → first_mark a ≡ first_mark b
Alike-first [] b h = sym (none_first b h)
Alike-first (x ∷ a) b h = h.0

Alike-rest : (a b : List ℕ) → Alike a b → Alike (later_marks a) (later_marks b)
Alike-rest [] b h = none_later b h
Alike-rest (x ∷ a) b h = h.1

Alike-rests : (n : ℕ) (a b : List ℕ) → Alike a b → Alike (marks_after n a) (marks_after n b)
Alike-rests zero a b h = h
Alike-rests (suc n) a b h = Alike-rests n (later_marks a) (later_marks b) (Alike-rest a b h)

none_marked_cons : (x : ℕ) (a : List ℕ) → x ≡ 0 → IsTrue (none_marked a) → IsTrue (none_marked (x ∷ a))
none_marked_cons zero a e h = h
none_marked_cons (suc x) a e h = absurd (omega arith)

Alike-none : (a b : List ℕ) → Alike a b → IsTrue (none_marked b) → IsTrue (none_marked a)
Alike-none [] b h n = refl
Alike-none (x ∷ a) b h n = none_marked_cons x a (h.0 ∙ none_first b n) (Alike-none a (later_marks b) h.1 (none_later b n))

rests-append : (n : ℕ) (a b : List ℕ) → length a ≡ n → marks_after n (a ++ b) ≡ b
rests-append zero [] b e = refl
rests-append zero (x ∷ a) b e = absurd (omega arith)
rests-append (suc n) [] b e = absurd (omega arith)
rests-append (suc n) (x ∷ a) b e = rests-append n a b (omega arith)

-- ---- the least field is a field

-- the marks of the least field
abbrev pub kept : ℕ → List ℕ → List ℕ
kept zero ms = []
kept (suc k) ms = cond (none_marked (marks_after 7 ms)) (marks_upto 7 ms) (marks_upto 7 ms ++ kept k (marks_after 7 ms))

length-rest-le : (a : List ℕ) → length (later_marks a) ≤ length a - 1
length-rest-le [] = omega arith
length-rest-le (x ∷ a) = omega arith

pub length-rests-le : (n : ℕ) (a : List ℕ) → length (marks_after n a) ≤ length a - n
length-rests-le zero a = omega arith
length-rests-le (suc n) a = omega (arith, length-rest-le a, length-rests-le n (later_marks a))

firsts-AreBits : (n : ℕ) (a : List ℕ) → AreBits a → AreBits (marks_upto n a)
firsts-AreBits zero a h = tt
firsts-AreBits (suc n) [] h = (omega arith, firsts-AreBits n [] tt)
firsts-AreBits (suc n) (x ∷ a) h = (h.0, firsts-AreBits n a h.1)

pub rests-AreBits : (n : ℕ) (a : List ℕ) → AreBits a → AreBits (marks_after n a)
rests-AreBits zero a h = h
rests-AreBits (suc n) [] h = rests-AreBits n [] tt
rests-AreBits (suc n) (x ∷ a) h = rests-AreBits n a h.1

pub length-marked : (ms : List ℕ) → none_marked ms ≡ false → 0 < length ms
length-marked [] e = cc
length-marked (m ∷ ms) e = omega arith

least_octet : (k : ℕ) (ms f ns : List ℕ) (b : Bool) → none_marked (marks_after 7 ms) ≡ b → AreBits ms → (b ≡ false → Presence k ns f)
    → Presence (suc k) (cond b (marks_upto 7 ms) (marks_upto 7 ms ++ ns)) (cond b (marks_upto 7 ms ++ 0 ∷ []) (marks_upto 7 ms ++ 1 ∷ f))
least_octet k ms f ns true e bit ih = (marks_upto 7 ms, refl, firsts-AreBits 7 ms bit, inl (refl, refl))
least_octet k ms f ns false e bit ih = (marks_upto 7 ms, refl, firsts-AreBits 7 ms bit, inr (ns, f, refl, refl, ih refl))

pub least_is : (k : ℕ) (ms : List ℕ) → AreBits ms → 0 < k → length ms ≤ 7 * k → Presence k (kept k ms) (least_presence k ms)
least_is zero ms bit some le = absurd (omega arith)
least_is (suc k) ms bit some le =
    least_octet k ms (least_presence k (marks_after 7 ms)) (kept k (marks_after 7 ms)) (none_marked (marks_after 7 ms)) refl bit
    (λ e. least_is k (marks_after 7 ms) (rests-AreBits 7 ms bit) (omega (arith, length-marked (marks_after 7 ms) e, length-rests-le 7 ms)) (omega (arith, length-rests-le 7 ms)))

kept_octet : (ms ns : List ℕ) (b : Bool) → none_marked (marks_after 7 ms) ≡ b → (b ≡ false → Alike ns (marks_after 7 ms)) → Alike (cond b (marks_upto 7 ms) (marks_upto 7 ms ++ ns)) ms
kept_octet ms ns true e ih = (refl, (refl, (refl, (refl, (refl, (refl, (refl, e)))))))
kept_octet ms ns false e ih = (refl, (refl, (refl, (refl, (refl, (refl, (refl, ih refl)))))))

pub kept_alike : (k : ℕ) (ms : List ℕ) → length ms ≤ 7 * k → Alike (kept k ms) ms
kept_alike zero [] le = refl
kept_alike zero (m ∷ ms) le = absurd (omega arith)
kept_alike (suc k) ms le = kept_octet ms (kept k (marks_after 7 ms)) (none_marked (marks_after 7 ms)) refl (λ e. kept_alike k (marks_after 7 ms) (omega (arith, length-rests-le 7 ms)))

-- ---- entries are spelled under marks that are alike

pub entries_alike : (s : ℕ) (ss : SlotsTree) (a b : List ℕ) (es : EntriesTree) (x : List ℕ) → Alike a b → EntriesSpell s ss b es x → EntriesSpell s ss a es x
entries_alike s no_slots a b no_entries x e h = (Alike-none a b e h.0, h.1)
entries_alike s no_slots a b (entry_and t v es) x e h = h
entries_alike s (slot_and spare_slot ss) a b es x e h = (Alike-first a b e ∙ h.0, entries_alike (s + 1) ss (later_marks a) (later_marks b) es x (Alike-rest a b e) h.1)
entries_alike s (slot_and (subitem name k) ss) a b no_entries x e h = (Alike-first a b e ∙ h.0, entries_alike (s + 1) ss (later_marks a) (later_marks b) no_entries x (Alike-rest a b e) h.1)
entries_alike s (slot_and (subitem name k) ss) a b (entry_and t v es) x e (inl (m, f, y, z, g, p, q)) =
    inl (Alike-first a b e ∙ m, f, y, z, g, p, entries_alike (s + 1) ss (later_marks a) (later_marks b) es z (Alike-rest a b e) q)
entries_alike s (slot_and (subitem name k) ss) a b (entry_and t v es) x e (inr (m, q)) = inr (Alike-first a b e ∙ m, entries_alike (s + 1) ss (later_marks a) (later_marks b) (entry_and t v es) x (Alike-rest a b e) q)

-- ---- no field is shorter

least_short : (k : ℕ) (ms : List ℕ) → none_marked (marks_after 7 ms) ≡ true → length (least_presence (suc k) ms) ≡ 8
least_short k ms e = rw e refl

least_long : (k : ℕ) (ms : List ℕ) (b : Bool) (f : List ℕ) → length (cond b (marks_upto 7 ms ++ 0 ∷ []) (marks_upto 7 ms ++ 1 ∷ f)) ≤ 8 + length f
least_long k ms true f = omega arith
least_long k ms false f = omega arith

pub least_least : (k : ℕ) (ms ns f : List ℕ) → Alike ms ns → Presence k ns f → length (least_presence k ms) ≤ length f
least_least zero ms ns f e h = absurd h
least_least (suc k) ms ns f e (seven, l, bit, inl (g, h)) =
    let none : marks_after 7 ns ≡ [] = ap (marks_after 7) (g ∙ sym (append-nil seven)) ∙ rests-append 7 seven [] l in
    let clear : IsTrue (none_marked (marks_after 7 ms)) = Alike-none (marks_after 7 ms) (marks_after 7 ns) (Alike-rests 7 ms ns e) (ap none_marked none) in
    omega (arith, least_short k ms clear, ap length h, length-append seven (0 ∷ []))
least_least (suc k) ms ns f e (seven, l, bit, inr (more, y, g, h, t)) =
    let same : marks_after 7 ns ≡ more = ap (marks_after 7) g ∙ rests-append 7 seven more l in
    let ih : length (least_presence k (marks_after 7 ms)) ≤ length y = least_least k (marks_after 7 ms) more y (subst (λ m. Alike (marks_after 7 ms) m) same (Alike-rests 7 ms ns e)) t in
    omega (arith, least_long k ms (none_marked (marks_after 7 ms)) (least_presence k (marks_after 7 ms)), ap length h, length-append seven (1 ∷ y))

-- ---- the marks of entries

pub later_slot : (s : ℕ) (ss : SlotsTree) (ms : List ℕ) (t : ℕ) (v : ValueTree) (es : EntriesTree) (b : List ℕ) → EntriesSpell s ss ms (entry_and t v es) b → s ≤ t
later_slot s no_slots ms t v es b h = absurd h
later_slot s (slot_and spare_slot ss) ms t v es b h = let le = later_slot (s + 1) ss (later_marks ms) t v es b h.1 in omega arith
later_slot s (slot_and (subitem name k) ss) ms t v es b (inl (m, e, x, y, f, p, q)) = omega arith
later_slot s (slot_and (subitem name k) ss) ms t v es b (inr (m, q)) = let le = later_slot (s + 1) ss (later_marks ms) t v es b q in omega arith

pub here : (t s : ℕ) → t ≡ s → (t == s) ≡ true
here t s e = eq-eqb t s e

pub not_here : (t s : ℕ) → s + 1 ≤ t → (t == s) ≡ false
not_here t s le = ne_eqb t s (λ e. absurd (omega arith))

pub marks_of_spelled : (s : ℕ) (ss : SlotsTree) (ms : List ℕ) (es : EntriesTree) (b : List ℕ) → EntriesSpell s ss ms es b → Alike (marks_of s ss es) ms
marks_of_spelled s no_slots ms no_entries b h = h.0
marks_of_spelled s no_slots ms (entry_and t v es) b h = absurd h
marks_of_spelled s (slot_and spare_slot ss) ms es b h = (sym h.0, marks_of_spelled (s + 1) ss (later_marks ms) es b h.1)
marks_of_spelled s (slot_and (subitem name k) ss) ms no_entries b h = (sym h.0, marks_of_spelled (s + 1) ss (later_marks ms) no_entries b h.1)
marks_of_spelled s (slot_and (subitem name k) ss) ms (entry_and t v es) b (inl (m, e, x, y, f, p, q)) = rw (here t s e) (sym m, marks_of_spelled (s + 1) ss (later_marks ms) es y q)
marks_of_spelled s (slot_and (subitem name k) ss) ms (entry_and t v es) b (inr (m, q)) =
    rw (not_here t s (later_slot (s + 1) ss (later_marks ms) t v es b q)) (sym m, marks_of_spelled (s + 1) ss (later_marks ms) (entry_and t v es) b q)

bits_if : (b : Bool) (x y : List ℕ) → AreBits x → AreBits y → AreBits (cond b (1 ∷ x) (0 ∷ y))
bits_if true x y p q = (omega arith, p)
bits_if false x y p q = (omega arith, q)

pub marks_bits : (s : ℕ) (ss : SlotsTree) (es : EntriesTree) → AreBits (marks_of s ss es)
marks_bits s no_slots es = tt
marks_bits s (slot_and spare_slot ss) es = (omega arith, marks_bits (s + 1) ss es)
marks_bits s (slot_and (subitem name k) ss) no_entries = (omega arith, marks_bits (s + 1) ss no_entries)
marks_bits s (slot_and (subitem name k) ss) (entry_and t v es) = bits_if (t == s) (marks_of (s + 1) ss es) (marks_of (s + 1) ss (entry_and t v es)) (marks_bits (s + 1) ss es) (marks_bits (s + 1) ss (entry_and t v es))

length_if : (n : ℕ) (b : Bool) (x y : List ℕ) → length x ≡ n → length y ≡ n → length (cond b (1 ∷ x) (0 ∷ y)) ≡ suc n
length_if n true x y p q = ap suc p
length_if n false x y p q = ap suc q

pub marks_length : (s : ℕ) (ss : SlotsTree) (es : EntriesTree) → length (marks_of s ss es) ≡ slot_count ss
marks_length s no_slots es = refl
marks_length s (slot_and spare_slot ss) es = ap suc (marks_length (s + 1) ss es)
marks_length s (slot_and (subitem name k) ss) no_entries = ap suc (marks_length (s + 1) ss no_entries)
marks_length s (slot_and (subitem name k) ss) (entry_and t v es) = length_if (slot_count ss) (t == s) (marks_of (s + 1) ss es) (marks_of (s + 1) ss (entry_and t v es)) (marks_length (s + 1) ss es) (marks_length (s + 1) ss (entry_and t v es))

pub enough : (n : ℕ) → 0 < n → (0 < octets_needed n) × (n ≤ 7 * octets_needed n)
enough n h = (omega arith, omega arith)
