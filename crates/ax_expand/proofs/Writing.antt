-- Contents written, field and entries.
use Rattle.std.proofs.Common.{Bool, List, MatchBool, [], ap, append-nil, arith, cond, false, length, length-append, refl, subst, suc, sym, take-append-drop, true, zero, ℕ, ◌*◌, ◌++◌, ◌+◌, ◌-◌, ◌<◌, ◌==◌, ◌∙◌, ◌∷◌, ◌≡◌, ◌≤◌}
use Rattle.std.proofs.lemmas.Bool.{eqb-true}
use Rattle.ax_bits.proofs.Outputs.{appends_more, length-unwritten}
use Rattle.ax_fspec.specs.Fields.{least_field as presence_field}
use Rattle.ax_bits.specs.Bits.{bits}
use Rattle.ax_bits.specs.Out.{Appends, room, unwritten, written}
use Rattle.std.proofs.lemmas.List.{nil_from_length}
use Rattle.ax_bits.specs.declared.output.Out.{Out}
use Rattle.ax_format.specs.Canonical.{entries_canon, marks_of}
use Rattle.ax_format.specs.Presence.{least_presence, marks_upto, octets_needed}
use Rattle.ax_format.specs.Shape.{EntriesShape, Shape}
use Rattle.ax_format.specs.Tree.{EntriesTree, SlotsTree, ValueTree, entry_and, marked, no_entries, no_slots, slot_and, slot_count, spare_slot, subitem}
use Rattle.ax_format.proofs.Least.{not_here}
use Rattle.ax_values.specs.Writing.{AreEntriesOf, IsWrittenTo}
use Rattle.ax_values.proofs.Written.{written_all, written_more, written_room}
use Rattle.ax_expand.proofs.Canonical.{length_upto}
use Rattle.ax_expand.specs.Content.{CanonContent}
use Rattle.ax_expand.specs.Fields.{least_field}
use Rattle.ax_expand.specs.Marks.{mark_in, marks_in, rest_in}
use Rattle.ax_expand.specs.declared.form.Form.{Form}
use Rattle.ax_expand.specs.declared.form.Form.TheVariants.{Fixed, Fx}

-- ---- marks

at_or_later : (s t : ℕ) (b : Bool) (P Q : Type 0) → (t == s) ≡ b → MatchBool b P Q → (Q → s + 1 ≤ t) → s ≤ t
at_or_later s t true P Q e p later = let same : t ≡ s = eqb-true t s e in omega arith
at_or_later s t false P Q e p later = let le = later p in omega arith

-- entries of slots from s on are not of slots before
shape_later : (s : ℕ) (ss : SlotsTree) (t : ℕ) (v : ValueTree) (es : EntriesTree) → EntriesShape s ss (entry_and t v es) → s ≤ t
shape_later s no_slots t v es h = absurd h
shape_later s (slot_and spare_slot ss) t v es h = let le = shape_later (s + 1) ss t v es h in omega arith
shape_later s (slot_and (subitem name k) ss) t v es h =
    at_or_later s t (t == s) (Shape k v × EntriesShape (s + 1) ss es) (EntriesShape (s + 1) ss (entry_and t v es)) refl h (λ p. shape_later (s + 1) ss t v es p)

no_marks_in : (n s : ℕ) → marks_upto n [] ≡ marks_in n s no_entries
no_marks_in zero s = refl
no_marks_in (suc n) s = ap (λ ms. 0 ∷ ms) (no_marks_in n (s + 1))

step_over : (n s : ℕ) (es : EntriesTree) (ms : List ℕ) → ((t : ℕ) (v : ValueTree) (later : EntriesTree) → es ≡ entry_and t v later → s + 1 ≤ t) → ms ≡ marks_in n (s + 1) es → 0 ∷ ms ≡ marks_in (suc n) s es
step_over n s no_entries ms h e = ap (λ ms. 0 ∷ ms) e
step_over n s (entry_and t v es) ms h e =
    let no : (t == s) ≡ false = not_here t s (h t v es refl) in
    ap (λ ms. 0 ∷ ms) e ∙ (λ i. cond (sym no i) 1 0 ∷ marks_in n (s + 1) (cond (sym no i) es (entry_and t v es)))

first_later : (s : ℕ) (ss : SlotsTree) (es : EntriesTree) → EntriesShape s ss es → (t : ℕ) (v : ValueTree) (later : EntriesTree) → es ≡ entry_and t v later → s ≤ t
first_later s ss es h t v later e = shape_later s ss t v later (subst (EntriesShape s ss) e h)

at_entry : (n s : ℕ) (ss : SlotsTree) (t : ℕ) (v : ValueTree) (es : EntriesTree) (b : Bool) (P : Type 0) → MatchBool b (P × EntriesShape (s + 1) ss es) (EntriesShape (s + 1) ss (entry_and t v es))
    → (EntriesShape (s + 1) ss es → marks_upto n (marks_of (s + 1) ss es) ≡ marks_in n (s + 1) es)
    → (EntriesShape (s + 1) ss (entry_and t v es) → marks_upto n (marks_of (s + 1) ss (entry_and t v es)) ≡ marks_in n (s + 1) (entry_and t v es))
    → marks_upto (suc n) (cond b (1 ∷ marks_of (s + 1) ss es) (0 ∷ marks_of (s + 1) ss (entry_and t v es))) ≡ cond b 1 0 ∷ marks_in n (s + 1) (cond b es (entry_and t v es))
at_entry n s ss t v es true P p one all = ap (λ ms. 1 ∷ ms) (one p.1)
at_entry n s ss t v es false P p one all = ap (λ ms. 0 ∷ ms) (all p)

pub marks_are : (n s : ℕ) (ss : SlotsTree) (es : EntriesTree) → EntriesShape s ss es → marks_upto n (marks_of s ss es) ≡ marks_in n s es
marks_are zero s ss es h = refl
marks_are (suc n) s no_slots no_entries h = no_marks_in (suc n) s
marks_are (suc n) s no_slots (entry_and t v es) h = absurd h
marks_are (suc n) s (slot_and spare_slot ss) es h = step_over n s es (marks_upto n (marks_of (s + 1) ss es)) (first_later (s + 1) ss es h) (marks_are n (s + 1) ss es h)
marks_are (suc n) s (slot_and (subitem name k) ss) no_entries h = ap (λ ms. 0 ∷ ms) (marks_are n (s + 1) ss no_entries h)
marks_are (suc n) s (slot_and (subitem name k) ss) (entry_and t v es) h =
    at_entry n s ss t v es (t == s) (Shape k v) h (λ p. marks_are n (s + 1) ss es p) (λ p. marks_are n (s + 1) ss (entry_and t v es) p)

marks_count : (n s : ℕ) (es : EntriesTree) → length (marks_in n s es) ≡ n
marks_count zero s es = refl
marks_count (suc n) s es = ap suc (marks_count n (s + 1) (rest_in s es))

-- ---- a field and entries

pub fx_field : (form : Form) (ss : SlotsTree) (es : EntriesTree) (marks : List ℕ) (old new out : Out) → form ≡ Fx → AreEntriesOf ss es → ((ss : SlotsTree) → AreEntriesOf ss es → presence_field marks ≡ least_presence (octets_needed (slot_count ss)) (marks_of 1 ss es))
    → Appends old new (presence_field marks) → out ≡ new → Appends old out (least_field form ss (marks_of 1 ss es))
fx_field form ss es marks old new out is of same a e =
    subst (λ form. Appends old out (least_field form ss (marks_of 1 ss es))) (sym is) (subst (λ out. Appends old out (least_presence (octets_needed (slot_count ss)) (marks_of 1 ss es))) (sym e) (subst (Appends old new) (same ss of) a))

pub fixed_field : (form : Form) (ss : SlotsTree) (es : EntriesTree) (count : ℕ) (old new out : Out) → form ≡ Fixed count → AreEntriesOf ss es → Appends old new (marks_in (8 * count) 1 es) → out ≡ new → Appends old out (least_field form ss (marks_of 1 ss es))
fixed_field form ss es count old new out is of a e =
    subst (λ form. Appends old out (least_field form ss (marks_of 1 ss es))) (sym is) (subst (λ out. Appends old out (marks_upto (8 * count) (marks_of 1 ss es))) (sym e) (subst (Appends old new) (sym (marks_are (8 * count) 1 ss es of.shape)) a))

fixed_room : (count : ℕ) (ms entries : List ℕ) (free : ℕ) → length (marks_upto (8 * count) ms ++ entries) ≤ free → 8 * count ≤ free
fixed_room count ms entries free le = omega (arith, le, length-append (marks_upto (8 * count) ms) entries, length_upto (8 * count) ms)

pub octets_fit : (form : Form) (ss : SlotsTree) (es : EntriesTree) (count free : ℕ) → form ≡ Fixed count → length (CanonContent form ss (marked es)) ≤ free → 8 * count ≤ free
octets_fit form ss es count free is le = fixed_room count (marks_of 1 ss es) (entries_canon 1 ss es) free (subst (λ form. length (CanonContent form ss (marked es)) ≤ free) is le)

pub content_written : (form : Form) (ss : SlotsTree) (es : EntriesTree) (old mid new : Out) → Appends old mid (least_field form ss (marks_of 1 ss es)) → Appends mid new (entries_canon 1 ss es) → Appends old new (CanonContent form ss (marked es))
content_written form ss es old mid new a b = appends_more old mid new (least_field form ss (marks_of 1 ss es)) (entries_canon 1 ss es) (CanonContent form ss (marked es)) refl a b

pub field_room : (form : Form) (ss : SlotsTree) (es : EntriesTree) (free : ℕ) → length (CanonContent form ss (marked es)) ≤ free → length (least_field form ss (marks_of 1 ss es)) ≤ free
field_room form ss es free le = omega (arith, le, length-append (least_field form ss (marks_of 1 ss es)) (entries_canon 1 ss es))

pub entries_room : (form : Form) (ss : SlotsTree) (es : EntriesTree) (old mid : Out) → length (CanonContent form ss (marked es)) ≤ room old → Appends old mid (least_field form ss (marks_of 1 ss es)) → length (entries_canon 1 ss es) ≤ room mid
entries_room form ss es old mid le a = omega (arith, le, a.room, length-append (least_field form ss (marks_of 1 ss es)) (entries_canon 1 ss es))

pub ruleset contents = (content_written, field_room, entries_room)

-- ---- marks, one after the other

pub octets_more : (n place : ℕ) (whole : List ℕ) (es later : EntriesTree) (old now new : Out) → place < n → IsWrittenTo old now whole (marks_in (n - place) (place + 1) es) → Appends now new (mark_in (place + 1) es ∷ []) → later ≡ rest_in (place + 1) es
    → IsWrittenTo old new whole (marks_in (n - (place + 1)) (place + 1 + 1) later)
octets_more n place whole es later old now new lt h a e =
    let k = n - (place + 1) in
    let count : n - place ≡ suc k = omega (arith, lt) in
    let split : marks_in (n - place) (place + 1) es ≡ (mark_in (place + 1) es ∷ []) ++ marks_in k (place + 1 + 1) later = ap (λ m. marks_in m (place + 1) es) count ∙ ap (λ t. mark_in (place + 1) es ∷ marks_in k (place + 1 + 1) t) (sym e) in
    written_more old now new whole (marks_in (n - place) (place + 1) es) (mark_in (place + 1) es ∷ []) (marks_in k (place + 1 + 1) later) h split a

pub octets_room : (n place : ℕ) (es : EntriesTree) (first : EntriesTree) (old now : Out) → place < n → IsWrittenTo old now (marks_in n 1 first) (marks_in (n - place) (place + 1) es) → n ≤ room old → 1 ≤ room now
octets_room n place es first old now lt h le =
    omega (arith, lt, written_room old now (marks_in n 1 first) (marks_in (n - place) (place + 1) es) h (omega (arith, le, marks_count n 1 first)), marks_count (n - place) (place + 1) es)

pub octets_end : (n place : ℕ) (es : EntriesTree) (whole : List ℕ) (old now : Out) → n ≤ place → IsWrittenTo old now whole (marks_in (n - place) (place + 1) es) → Appends old now whole
octets_end n place es whole old now past h = written_all old now whole (marks_in (n - place) (place + 1) es) h (ap (λ m. marks_in m (place + 1) es) (let z : n - place ≡ 0 = omega (arith, past) in z))

pub ruleset octets = (octets_more, octets_room, octets_end)

-- ---- a buffer of just its length

pub filled : (old new : Out) (n : ℕ) (ys : List ℕ) → written old ≡ [] → room old ≡ 8 * n → 8 * n ≡ length ys → Appends old new ys → bits new.buffer.now ≡ ys
filled old new n ys none full e a =
    let rest : unwritten new ≡ [] = nil_from_length (unwritten new) (omega (arith, length-unwritten new, a.room, full, e)) in
    sym (take-append-drop new.count (bits new.buffer.now)) ∙ (λ i. a.written i ++ rest i) ∙ append-nil (written old ++ ys) ∙ ap (λ t. t ++ ys) none
