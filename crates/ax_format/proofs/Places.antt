-- Presence fields place by place.
use Rattle.std.proofs.Common.{◌≡◌, ◌↔◌, ℕ, zero, suc, ◌+◌, ◌*◌, ◌<◌, ◌≤◌, inl, inr, IsTrue, List, [], ◌∷◌, ◌++◌, length, get_or, refl, sym, ◌∙◌, ap, arith, length-append, subst}
use Rattle.std.proofs.lemmas.List.{get_or_append_left, get_or-append-add, get_or_at}
use Rattle.ax_format.specs.Places.{HasEntry}
use Rattle.ax_format.specs.Presence.{Presence, none_marked, first_mark, later_marks}
use Rattle.ax_format.specs.Spelling.{EntriesSpell}
use Rattle.ax_format.specs.Tree.{SlotsTree, EntriesTree, no_slots, no_entries, entry_and, slot_and, spare_slot, subitem, ValueTree}

-- ---- the field's bits are the marks

pub at_front : (a b : List ℕ) (n : ℕ) → n < length a → get_or (a ++ b) n 0 ≡ get_or a n 0
at_front a b n h = get_or_append_left a b 0 n h

pub at_back : (a b : List ℕ) (n m : ℕ) → m ≡ length a + n → get_or (a ++ b) m 0 ≡ get_or b n 0
at_back a b n m e = ap (λ m. get_or (a ++ b) m 0) e ∙ get_or-append-add a b n 0

pub presence_places : (k : ℕ) (ms f : List ℕ) (i j : ℕ) → Presence k ms f → j < 7 → 8 * i + j < length f → get_or f (8 * i + j) 0 ≡ get_or ms (7 * i + j) 0
presence_places zero ms f i j h lt in_f = absurd h
presence_places (suc k) ms f zero j (seven, l, bit, inl (e, g)) lt in_f =
    ap (λ f. get_or f (8 * 0 + j) 0) g ∙ at_front seven (0 ∷ []) (8 * 0 + j) (omega arith) ∙ ap (λ n. get_or seven n 0) (let z : 8 * 0 + j ≡ 7 * 0 + j = omega arith in z) ∙ ap (λ m. get_or m (7 * 0 + j) 0) (sym e)
presence_places (suc k) ms f (suc i) j (seven, l, bit, inl (e, g)) lt in_f = absurd (omega (arith, ap length g, length-append seven (0 ∷ [])))
presence_places (suc k) ms f zero j (seven, l, bit, inr (more, y, e, g, t)) lt in_f =
    ap (λ f. get_or f (8 * 0 + j) 0) g ∙ at_front seven (1 ∷ y) (8 * 0 + j) (omega arith) ∙ ap (λ n. get_or seven n 0) (let z : 8 * 0 + j ≡ 7 * 0 + j = omega arith in z)
    ∙ sym (at_front seven more (7 * 0 + j) (omega arith)) ∙ ap (λ m. get_or m (7 * 0 + j) 0) (sym e)
presence_places (suc k) ms f (suc i) j (seven, l, bit, inr (more, y, e, g, t)) lt in_f =
    let ih : get_or y (8 * i + j) 0 ≡ get_or more (7 * i + j) 0 = presence_places k more y i j t lt (omega (arith, ap length g, length-append seven (1 ∷ y))) in
    ap (λ f. get_or f (8 * suc i + j) 0) g ∙ at_back seven (1 ∷ y) (suc (8 * i + j)) (8 * suc i + j) (omega arith) ∙ ih
    ∙ sym (at_back seven more (7 * i + j) (7 * suc i + j) (omega arith)) ∙ ap (λ m. get_or m (7 * suc i + j) 0) (sym e)

pub fx_at : (seven y : List ℕ) (fx : ℕ) (f : List ℕ) → length seven ≡ 7 → f ≡ seven ++ fx ∷ y → get_or f 7 0 ≡ fx
fx_at seven y fx f l g = ap (λ f. get_or f 7 0) g ∙ get_or_at seven fx y 0 7 l

some_bits : (k : ℕ) (ms f : List ℕ) → Presence (suc k) ms f → 0 < length f
some_bits k ms f (seven, l, bit, inl (e, g)) = omega (arith, ap length g, length-append seven (0 ∷ []))
some_bits k ms f (seven, l, bit, inr (more, y, e, g, t)) = omega (arith, ap length g, length-append seven (1 ∷ y))

pub presence_fx : (k : ℕ) (ms f : List ℕ) (i : ℕ) → Presence k ms f → 8 * i + 7 < length f → get_or f (8 * i + 7) 0 ≡ 1 ↔ 8 * i + 8 < length f
presence_fx zero ms f i h in_f = absurd h
presence_fx (suc k) ms f zero (seven, l, bit, inl (e, g)) in_f =
    let fx : get_or f 7 0 ≡ 0 = fx_at seven [] 0 f l g in
    let long : length f ≡ 8 = ap length g ∙ length-append seven (0 ∷ []) ∙ omega arith in
    ((λ h. absurd (let two : 0 ≡ 1 = sym fx ∙ h in omega arith)), (λ h. absurd (omega arith)))
presence_fx (suc k) ms f (suc i) (seven, l, bit, inl (e, g)) in_f = absurd (omega (arith, ap length g, length-append seven (0 ∷ [])))
presence_fx (suc zero) ms f zero (seven, l, bit, inr (more, y, e, g, t)) in_f = absurd t
presence_fx (suc (suc k)) ms f zero (seven, l, bit, inr (more, y, e, g, t)) in_f =
    let some : 0 < length y = some_bits k more y t in
    ((λ h. omega (arith, ap length g, length-append seven (1 ∷ y))), (λ h. fx_at seven y 1 f l g))
presence_fx (suc k) ms f (suc i) (seven, l, bit, inr (more, y, e, g, t)) in_f =
    let long : length f ≡ 8 + length y = ap length g ∙ length-append seven (1 ∷ y) ∙ omega arith in
    let ih = presence_fx k more y i t (omega arith) in
    let same : get_or f (8 * suc i + 7) 0 ≡ get_or y (8 * i + 7) 0 = ap (λ f. get_or f (8 * suc i + 7) 0) g ∙ at_back seven (1 ∷ y) (suc (8 * i + 7)) (8 * suc i + 7) (omega arith) in
    ((λ h. let lt : 8 * i + 8 < length y = ih.0 (sym same ∙ h) in omega arith), (λ h. same ∙ ih.1 (omega arith)))

-- ---- the marks are the entries' slots

pub none_marked_at : (ms : List ℕ) (t : ℕ) → IsTrue (none_marked ms) → get_or ms t 0 ≡ 0
none_marked_at [] t h = refl
none_marked_at (zero ∷ ms) zero h = refl
none_marked_at (zero ∷ ms) (suc t) h = none_marked_at ms t h
none_marked_at (suc m ∷ ms) t h = cc

pub at_first : (ms : List ℕ) → get_or ms 0 0 ≡ first_mark ms
at_first [] = refl
at_first (m ∷ ms) = refl

pub at_rest : (ms : List ℕ) (t : ℕ) → get_or ms (suc t) 0 ≡ get_or (later_marks ms) t 0
at_rest [] t = refl
at_rest (m ∷ ms) t = refl

slots_from : (s : ℕ) (ss : SlotsTree) (ms : List ℕ) (es : EntriesTree) (b : List ℕ) (u : ℕ) → EntriesSpell s ss ms es b → HasEntry u es → s ≤ u
slots_from s no_slots ms no_entries b u h g = absurd g
slots_from s no_slots ms (entry_and t v es) b u h g = absurd h
slots_from s (slot_and spare_slot ss) ms es b u h g = let le : s + 1 ≤ u = slots_from (s + 1) ss (later_marks ms) es b u h.1 g in omega arith
slots_from s (slot_and (subitem name k) ss) ms no_entries b u h g = absurd g
slots_from s (slot_and (subitem name k) ss) ms (entry_and t v es) b u (inl (m, e, x, y, f, p, q)) (inl g) = omega arith
slots_from s (slot_and (subitem name k) ss) ms (entry_and t v es) b u (inl (m, e, x, y, f, p, q)) (inr g) = let le : s + 1 ≤ u = slots_from (s + 1) ss (later_marks ms) es y u q g in omega arith
slots_from s (slot_and (subitem name k) ss) ms (entry_and t v es) b u (inr (m, q)) g = let le : s + 1 ≤ u = slots_from (s + 1) ss (later_marks ms) (entry_and t v es) b u q g in omega arith

-- another slot than the first entry's
later_entry : (u w : ℕ) (v : ValueTree) (es : EntriesTree) → (u ≡ w → ⊥) → HasEntry u (entry_and w v es) → HasEntry u es
later_entry u w v es no_w (inl e) = absurd (no_w e)
later_entry u w v es no_w (inr h) = h

-- no entry at an unmarked slot
unmarked_here : (s : ℕ) (ss : SlotsTree) (ms : List ℕ) (es : EntriesTree) (b : List ℕ) (u : ℕ) → u ≡ s → first_mark ms ≡ 0 → EntriesSpell (s + 1) ss (later_marks ms) es b → get_or ms 0 0 ≡ 1 ↔ HasEntry u es
unmarked_here s ss ms es b u e m h =
    ((λ g. absurd (let z : 0 ≡ 1 = sym m ∙ sym (at_first ms) ∙ g in omega arith)), (λ g. absurd (let le : s + 1 ≤ u = slots_from (s + 1) ss (later_marks ms) es b u h g in omega arith)))

pub marks_stand : (s : ℕ) (ss : SlotsTree) (ms : List ℕ) (es : EntriesTree) (b : List ℕ) (t u : ℕ) → u ≡ s + t → EntriesSpell s ss ms es b → get_or ms t 0 ≡ 1 ↔ HasEntry u es
marks_stand s no_slots ms no_entries b t u e h = ((λ g. absurd (let z : 0 ≡ 1 = sym (none_marked_at ms t h.0) ∙ g in omega arith)), (λ g. absurd g))
marks_stand s no_slots ms (entry_and w v es) b t u e h = absurd h
marks_stand s (slot_and spare_slot ss) ms es b zero u e h = unmarked_here s ss ms es b u (omega arith) h.0 h.1
marks_stand s (slot_and spare_slot ss) ms es b (suc t) u e h = subst (λ x. x ≡ 1 ↔ HasEntry u es) (sym (at_rest ms t)) (marks_stand (s + 1) ss (later_marks ms) es b t u (omega arith) h.1)
marks_stand s (slot_and (subitem name k) ss) ms no_entries b zero u e h = unmarked_here s ss ms no_entries b u (omega arith) h.0 h.1
marks_stand s (slot_and (subitem name k) ss) ms no_entries b (suc t) u e h = subst (λ x. x ≡ 1 ↔ ⊥) (sym (at_rest ms t)) (marks_stand (s + 1) ss (later_marks ms) no_entries b t u (omega arith) h.1)
marks_stand s (slot_and (subitem name k) ss) ms (entry_and w v es) b zero u e (inl (m, f, x, y, g, p, q)) =
    ((λ h. inl (let z : u ≡ w = omega arith in z)), (λ h. at_first ms ∙ m))
marks_stand s (slot_and (subitem name k) ss) ms (entry_and w v es) b (suc t) u e (inl (m, f, x, y, g, p, q)) =
    let ih = marks_stand (s + 1) ss (later_marks ms) es y t u (omega arith) q in
    let at : get_or ms (suc t) 0 ≡ get_or (later_marks ms) t 0 = at_rest ms t in
    ((λ h. inr (ih.0 (sym at ∙ h))), (λ h. at ∙ ih.1 (later_entry u w v es (λ z. absurd (omega arith)) h)))
marks_stand s (slot_and (subitem name k) ss) ms (entry_and w v es) b zero u e (inr (m, q)) = unmarked_here s ss ms (entry_and w v es) b u (omega arith) m q
marks_stand s (slot_and (subitem name k) ss) ms (entry_and w v es) b (suc t) u e (inr (m, q)) =
    subst (λ x. x ≡ 1 ↔ HasEntry u (entry_and w v es)) (sym (at_rest ms t)) (marks_stand (s + 1) ss (later_marks ms) (entry_and w v es) b t u (omega arith) q)
