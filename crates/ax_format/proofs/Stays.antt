-- A fault that isn't want of bits is told by the bits through its place: others may follow.
use Rattle.std.proofs.Common.{◌≡◌, ℕ, zero, suc, ◌+◌, ◌<◌, ◌≤◌, ◌⊎◌, inl, inr, List, [], ◌∷◌, ◌++◌, length, Bool, refl, sym, ◌∙◌, ap, arith, length-append, append_assoc, subst}
use Rattle.ax_bits.proofs.Words.{length-word}
use Rattle.ax_bits.specs.Bits.{word}
use Rattle.ax_format.proofs.Once.{never_both}
use Rattle.ax_format.specs.Failing.{PartsFail, RunFails, PresenceFails, Fails, EntriesFail}
use Rattle.ax_format.specs.Presence.{FirstUndefined, later_slots, slots_past, octets_needed, later_marks}
use Rattle.ax_format.specs.Spelling.{Spells}
use Rattle.ax_format.specs.Telling.{BeginAlike, fault_bits}
use Rattle.ax_format.specs.Tree.{MembersTree, FixedTree, KindTree, fixed, extended, counted, by_fx, explicit, compound, slot_count, defined_slots, SlotsTree, no_slots, slot_and, spare_slot, subitem, ValueTree}
use Rattle.ax_format.specs.declared.fault.BodyCause.{BodyCause}
use Rattle.ax_format.specs.declared.fault.BodyCause.TheVariants.{RunsOut, UndefinedSlot, BadExplicitLength}
use Rattle.ax_format.specs.Widths.{counter_width}
use Rattle.ax_format.specs.declared.kind.LastPart.{LastPart}

front_of : (h r x y : List ℕ) → h ++ r ≡ x ++ y → length x ≤ length h → (g : List ℕ) × (h ≡ x ++ g) × (y ≡ g ++ r)
front_of h r [] y e le = (h, refl, sym e)
front_of [] r (a ∷ x) y e le = absurd (omega arith)
front_of (c ∷ h) r (a ∷ x) y e le =
    let tail : h ++ r ≡ x ++ y = cc in
    let t = front_of h r x y tail (omega arith) in
    let same : c ≡ a = cc in
    (t.0, (λ i. same i ∷ t.1 i), t.2)

-- after a common front
pub following : (n m : ℕ) (b d x y : List ℕ) → BeginAlike n b d → b ≡ x ++ y → length x + m ≤ n → (z : List ℕ) × (d ≡ x ++ z) × BeginAlike m y z
following n m b d x y s e le =
    let t = front_of s.common s.left x y (sym s.first ∙ e) (let l = s.long in omega arith) in
    let second : d ≡ x ++ (t.0 ++ s.right) = s.second ∙ ap (λ h. h ++ s.right) t.1 ∙ append_assoc x t.0 s.right in
    let all : length s.common ≡ length x + length t.0 = ap length t.1 ∙ length-append x t.0 in
    (t.0 ++ s.right, second, record { common = t.0; left = s.left; right = s.right; long = (let l = s.long in omega arith); first = t.2; second = refl })

-- after a front and one more bit
after_unit : (n m : ℕ) (b d x y : List ℕ) (fx : ℕ) → BeginAlike n b d → b ≡ x ++ fx ∷ y → length x + 1 + m ≤ n → (z : List ℕ) × (d ≡ x ++ fx ∷ z) × BeginAlike m y z
after_unit n m b d x y fx s e le =
    let t = following n m b d (x ++ fx ∷ []) y s (e ∙ sym (append_assoc x (fx ∷ []) y)) (omega (arith, length-append x (fx ∷ []))) in
    (t.0, t.1 ∙ append_assoc x (fx ∷ []) t.0, t.2)

weaker : (n m : ℕ) (b d : List ℕ) → BeginAlike n b d → m ≤ n → BeginAlike m b d
weaker n m b d s le = record { common = s.common; left = s.left; right = s.right; long = (let l = s.long in omega arith); first = s.first; second = s.second }

-- the parts still fail, with the same place and cause
parts_stay : (last : LastPart) (ps : List MembersTree) (b d : List ℕ) (p : ℕ) (c : BodyCause) → (c ≡ RunsOut → ⊥) → BeginAlike (p + fault_bits c) b d → PartsFail last ps b p c → PartsFail last ps d p c
parts_stay last [] b d p c more s h = h
parts_stay last (ms ∷ ps) b d p c more s (inl h) = absurd (more h.2)
parts_stay last (ms ∷ ps) b d p c more s (inr (x, y, l, e, inl (f, o, g, h))) =
    let one : fault_bits c ≡ 1 = ap fault_bits h in
    let t = after_unit (p + fault_bits c) 0 b d x y 1 s e (omega arith) in inr (x, t.0, l, t.1, inl (f, o, g, h))
parts_stay last (ms ∷ ps) b d p c more s (inr (x, y, l, e, inr (q, f, h))) =
    let t = after_unit (p + fault_bits c) (q + fault_bits c) b d x y 1 s e (omega arith) in inr (x, t.0, l, t.1, inr (q, f, parts_stay last ps y t.0 q c more t.2 h))

run_ends : (n : ℕ) (f : FixedTree) (b : List ℕ) (p : ℕ) (c : BodyCause) → RunFails n f b p c → c ≡ RunsOut
run_ends zero f b p c h = h.2
run_ends (suc n) f b p c (x, y, l, e, q, g, h) = run_ends n f y q c h

-- the first undefined mark is told by the marks through it
begin_by : (n a c : ℕ) (b d g l r : List ℕ) → suc n ≤ length g → a ∷ b ≡ g ++ l → c ∷ d ≡ g ++ r → (a ≡ c) × BeginAlike n b d
begin_by n a c b d [] l r le e f = absurd (omega arith)
begin_by n a c b d (x ∷ g) l r le e f =
    let b_tail : b ≡ g ++ l = cc in
    let d_tail : d ≡ g ++ r = cc in
    let same : a ≡ c = cc in
    (same, record { common = g; left = l; right = r; long = omega arith; first = b_tail; second = d_tail })

begin_first : (n a c : ℕ) (b d : List ℕ) → BeginAlike (suc n) (a ∷ b) (c ∷ d) → (a ≡ c) × BeginAlike n b d
begin_first n a c b d s = begin_by n a c b d s.common s.left s.right s.long s.first s.second

undefined_stays : (ds : List Bool) (ms ns r t : List ℕ) (j : ℕ) → FirstUndefined ds ms j → j < length ns → BeginAlike (j + 1) (ms ++ r) (ns ++ t) → FirstUndefined ds ns j
undefined_stays ds [] ns r t j h lt s = absurd h
undefined_stays ds (m ∷ ms) [] r t j h lt s = absurd (omega arith)
undefined_stays ds (m ∷ ms) (n ∷ ns) r t zero h lt s =
    let b = begin_first 0 m n (ms ++ r) (ns ++ t) (weaker (0 + 1) 1 (m ∷ ms ++ r) (n ∷ ns ++ t) s (omega arith)) in (sym b.0 ∙ h.0, h.1)
undefined_stays ds (m ∷ ms) (n ∷ ns) r t (suc j) h lt s =
    let b = begin_first (j + 1) m n (ms ++ r) (ns ++ t) (weaker (suc j + 1) (suc (j + 1)) (m ∷ ms ++ r) (n ∷ ns ++ t) s (omega arith)) in
    ((λ e. h.0 (b.0 ∙ e)), undefined_stays (later_slots ds) ms ns r t j h.1 (omega arith) b.1)

-- eight bits or fewer
octet_or_end : (d : List ℕ) → (length d < 8) ⊎ ((x : List ℕ) × (fx : ℕ) × (y : List ℕ) × (length x ≡ 7) × (d ≡ x ++ fx ∷ y))
octet_or_end [] = inl (omega arith)
octet_or_end (a ∷ []) = inl (omega arith)
octet_or_end (a ∷ b ∷ []) = inl (omega arith)
octet_or_end (a ∷ b ∷ c ∷ []) = inl (omega arith)
octet_or_end (a ∷ b ∷ c ∷ d ∷ []) = inl (omega arith)
octet_or_end (a ∷ b ∷ c ∷ d ∷ e ∷ []) = inl (omega arith)
octet_or_end (a ∷ b ∷ c ∷ d ∷ e ∷ f ∷ []) = inl (omega arith)
octet_or_end (a ∷ b ∷ c ∷ d ∷ e ∷ f ∷ g ∷ []) = inl (omega arith)
octet_or_end (a ∷ b ∷ c ∷ d ∷ e ∷ f ∷ g ∷ h ∷ y) = inr (a ∷ b ∷ c ∷ d ∷ e ∷ f ∷ g ∷ [], h, y, refl, refl)

abbrev pub PresenceStops : ℕ → List Bool → List ℕ → Type 0
PresenceStops k ds d = (q : ℕ) × (e : BodyCause) × PresenceFails k ds d q e

undefined_octet : (k : ℕ) (ds : List Bool) (b d x r : List ℕ) (j : ℕ) → BeginAlike (j + 1) b d → b ≡ x ++ r → length x ≡ 7 → j < 7 → FirstUndefined ds x j
    → (length d < 8) ⊎ ((x : List ℕ) × (fx : ℕ) × (y : List ℕ) × (length x ≡ 7) × (d ≡ x ++ fx ∷ y)) → PresenceStops (suc k) ds d
undefined_octet k ds b d x r j s e l lt h (inl few) = (0, RunsOut, inl (few, refl, refl))
undefined_octet k ds b d x r j s e l lt h (inr (z, fx, y, m, f)) =
    let same : BeginAlike (j + 1) (x ++ r) (z ++ fx ∷ y) = subst (λ b. BeginAlike (j + 1) b (z ++ fx ∷ y)) e (subst (λ d. BeginAlike (j + 1) b d) f s) in
    (j, UndefinedSlot, inr (z, fx, y, m, f, inl (undefined_stays ds x z r (fx ∷ y) j h (omega arith) same, refl)))

undefined_in : (ds : List Bool) (ms : List ℕ) (j : ℕ) → FirstUndefined ds ms j → j < length ms
undefined_in ds [] j h = absurd h
undefined_in ds (m ∷ ms) zero h = omega arith
undefined_in ds (m ∷ ms) (suc j) h = omega (arith, undefined_in (later_slots ds) ms j h.1)

presence_stays : (k : ℕ) (ds : List Bool) (b d : List ℕ) (p : ℕ) (c : BodyCause) → (c ≡ RunsOut → ⊥) → BeginAlike (p + fault_bits c) b d → PresenceFails k ds b p c → PresenceStops k ds d
presence_stays zero ds b d p c more s h = absurd h
presence_stays (suc k) ds b d p c more s (inl h) = absurd (more h.2)
presence_stays (suc k) ds b d p c more s (inr (x, fx, y, l, e, inl (h, f))) =
    let one : fault_bits c ≡ 1 = ap fault_bits f in
    let lt : p < 7 = omega (arith, undefined_in ds x p h) in
    undefined_octet k ds b d x (fx ∷ y) p (weaker (p + fault_bits c) (p + 1) b d s (omega arith)) e l lt h (octet_or_end d)
presence_stays (suc k) ds b d p c more s (inr (x, fx, y, l, e, inr (clear, f, inl (z, g, h)))) =
    let one : fault_bits c ≡ 1 = ap fault_bits h in
    let t = after_unit (p + fault_bits c) 0 b d x y fx s e (omega arith) in (p, c, inr (x, fx, t.0, l, t.1, inr (clear, f, inl (z, g, h))))
presence_stays (suc k) ds b d p c more s (inr (x, fx, y, l, e, inr (clear, f, inr (q, g, h)))) =
    let t = after_unit (p + fault_bits c) (q + fault_bits c) b d x y fx s e (omega arith) in
    let u = presence_stays k (slots_past x ds) y t.0 q c more t.2 h in (8 + u.0, u.1, inr (x, fx, t.0, l, t.1, inr (clear, f, inr (u.0, refl, u.2))))

abbrev pub Stops : KindTree → List ℕ → Type 0
Stops k d = (q : ℕ) × (e : BodyCause) × Fails k d q e

mutual
  -- whatever follows the bits that tell the fault, the kind fails
  pub fails_stays : (k : KindTree) (b d : List ℕ) (p : ℕ) (c : BodyCause) → (c ≡ RunsOut → ⊥) → BeginAlike (p + fault_bits c) b d → Fails k b p c → Stops k d
  fails_stays (fixed f) b d p c more s h = absurd (more h.2)
  fails_stays (extended last ps) b d p c more s h = (p, c, parts_stay last ps b d p c more s h)
  fails_stays (counted size k) b d p c more s (inl h) = absurd (more h.2)
  fails_stays (counted size k) b d p c more s (inr (r, le, vs, lt, x, y, e, h, q, f, g)) =
      let t = following (p + fault_bits c) (q + fault_bits c) b d (word (counter_width size) r ++ x) y s (e ∙ sym (append_assoc (word (counter_width size) r) x y)) (omega (arith, length-append (word (counter_width size) r) x, length-word (counter_width size) r)) in
      let u = fails_stays k y t.0 q c more t.2 g in
      (counter_width size + (length x + u.0), u.1, inr (r, le, vs, lt, x, t.0, t.1 ∙ append_assoc (word (counter_width size) r) x t.0, h, u.0, refl, u.2))
  fails_stays (by_fx f) b d p c more s (n, h) = absurd (more (run_ends n f b p c h))
  fails_stays explicit b d p c more s (inl h) = absurd (more h.2)
  fails_stays explicit b d p c more s (inr (inl (y, e, f, g))) =
      let eight : fault_bits c ≡ 8 = ap fault_bits g in
      let t = following (p + fault_bits c) 0 b d (word 8 0) y s e (omega (arith, length-word 8 0)) in (0, BadExplicitLength, inr (inl (t.0, t.1, refl, refl)))
  fails_stays explicit b d p c more s (inr (inr (m, le, y, e, lt, f, g))) = absurd (more g)
  fails_stays (compound ss) b d p c more s (inl h) = let u = presence_stays (octets_needed (slot_count ss)) (defined_slots ss) b d p c more s h in (u.0, u.1, inl u.2)
  fails_stays (compound ss) b d p c more s (inr (ms, x, y, e, h, clear, q, f, g)) =
      let t = following (p + fault_bits c) (q + fault_bits c) b d x y s e (omega arith) in
      let u = entries_stay ss ms y t.0 q c more t.2 g in (length x + u.0, u.1, inr (ms, x, t.0, t.1, h, clear, u.0, refl, u.2))

  pub entries_stay : (ss : SlotsTree) (ms b d : List ℕ) (p : ℕ) (c : BodyCause) → (c ≡ RunsOut → ⊥) → BeginAlike (p + fault_bits c) b d → EntriesFail ss ms b p c → (q : ℕ) × (e : BodyCause) × EntriesFail ss ms d q e
  entries_stay no_slots ms b d p c more s h = absurd h
  entries_stay (slot_and spare_slot ss) ms b d p c more s h = entries_stay ss (later_marks ms) b d p c more s h
  entries_stay (slot_and (subitem name k) ss) ms b d p c more s (inl h) = let u = fails_stays k b d p c more s h.1 in (u.0, u.1, inl (h.0, u.2))
  entries_stay (slot_and (subitem name k) ss) ms b d p c more s (inr (inl (m, v, x, y, e, h, q, f, g))) =
      let t = following (p + fault_bits c) (q + fault_bits c) b d x y s e (omega arith) in
      let u = entries_stay ss (later_marks ms) y t.0 q c more t.2 g in (length x + u.0, u.1, inr (inl (m, v, x, t.0, t.1, h, u.0, refl, u.2)))
  entries_stay (slot_and (subitem name k) ss) ms b d p c more s (inr (inr h)) = let u = entries_stay ss (later_marks ms) b d p c more s h.1 in (u.0, u.1, inr (inr (h.0, u.2)))

-- so they begin no spelling
pub told_spells_none : (k : KindTree) (b d x y : List ℕ) (p : ℕ) (c : BodyCause) (v : ValueTree) → (c ≡ RunsOut → ⊥) → BeginAlike (p + fault_bits c) b d → Fails k b p c → d ≡ x ++ y → Spells k v x → ⊥
told_spells_none k b d x y p c v more s h e g =
    let u = fails_stays k b d p c more s h in never_both k v x y u.0 u.1 g (subst (λ d. Fails k d u.0 u.1) e u.2)
