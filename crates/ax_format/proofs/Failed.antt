-- What fails is read as that fault.
use Rattle.std.proofs.Common.{Bool, List, Some, [], ap, append_assoc, arith, false, inl, inr, length, length-append, refl, suc, sym, true, zero, ℕ, ◌*◌, ◌++◌, ◌+◌, ◌<◌, ◌^◌, ◌∙◌, ◌∷◌, ◌≡◌, ◌≤◌}
use Rattle.ax_bits.proofs.Words.{length-word}
use Rattle.ax_bits.specs.Bits.{number_of, word}
use Rattle.ax_format.proofs.FixedKinds.{number_word, split_at, split_short}
use Rattle.ax_format.specs.Reader.{Read, after, contents_read, count_read, cut, cut_more, each_read, entries_read, explicit_read, failed, fixed_read, got, last_read, octet_read, octets_read, one_read, part_read, parts_read, presence_read, read, run_read, short, split, undefined, up}
use Rattle.ax_format.proofs.Spelled.{length_unit, presence_spelled, read_spelled, undefined_none}
use Rattle.ax_format.specs.Failing.{EntriesFail, Fails, PartsFail, PresenceFails, RunFails}
use Rattle.ax_format.specs.Presence.{FirstUndefined, later_marks, later_slots, octets_needed, slots_past}
use Rattle.ax_format.specs.Spelling.{EachSpells, Spells}
use Rattle.ax_format.specs.Tree.{FixedTree, KindTree, ListsTree, MembersTree, SlotsTree, ValueTree, ValuesTree, by_fx, compound, counted, defined_slots, explicit, extended, fixed, no_slots, no_values, occurrences, slot_and, slot_count, spare_slot, subitem, value_and, value_count}
use Rattle.ax_format.specs.Widths.{counter_width, members_width, width}
use Rattle.ax_format.specs.declared.fault.BodyCause.{BodyCause}
use Rattle.ax_format.specs.declared.fault.BodyCause.TheVariants.{RunsOut}
use Rattle.ax_format.specs.declared.kind.LastPart.{LastPart}
use Rattle.ax_format.specs.declared.kind.LastPart.TheVariants.{WithFx, WithoutFx}

pub failed_is : {A : Type 0} {m n : ℕ} {c d : BodyCause} → m ≡ n → c ≡ d → ◌≡◌ {A = Read A} (failed m c) (failed n d)
failed_is p q = λ i. failed (p i) (q i)

-- ---- a unit and its FX bit don't fit

pub data Misfit (w : ℕ) (b : List ℕ) : Type 0 where
  misfit_short : split w b ≡ short → Misfit w b
  misfit_end : split w b ≡ cut b [] → Misfit w b

misfit_more : (a w : ℕ) (b : List ℕ) → Misfit w b → Misfit (suc w) (a ∷ b)
misfit_more a w b (misfit_short e) = misfit_short (ap (cut_more a) e)
misfit_more a w b (misfit_end e) = misfit_end (ap (cut_more a) e)

pub misfit : (w : ℕ) (b : List ℕ) → length b ≤ w → Misfit w b
misfit zero [] h = misfit_end refl
misfit zero (a ∷ b) h = absurd (omega arith)
misfit (suc w) [] h = misfit_short refl
misfit (suc w) (a ∷ b) h = misfit_more a w b (misfit w b (omega arith))

-- ---- parts and occurrences

part_misfit : (p : MembersTree) (ps : List MembersTree) (b : List ℕ) (go : List ℕ → Read ListsTree) → Misfit (members_width p) b → part_read p ps (split (members_width p) b) go ≡ failed 0 RunsOut
part_misfit p ps b go (misfit_short e) = ap (λ s. part_read p ps s go) e
part_misfit p ps b go (misfit_end e) = ap (λ s. part_read p ps s go) e

pub parts_failed : (last : LastPart) (ps : List MembersTree) (b : List ℕ) (p : ℕ) (c : BodyCause) → PartsFail last ps b p c → parts_read last ps b ≡ failed p c
parts_failed last [] b p c h = absurd h
parts_failed last (ms ∷ m ∷ ps) b p c (inl (lt, e, f)) = part_misfit ms (m ∷ ps) b (parts_read last (m ∷ ps)) (misfit (members_width ms) b (omega arith)) ∙ failed_is (sym e) (sym f)
parts_failed WithFx (ms ∷ []) b p c (inl (lt, e, f)) = part_misfit ms [] b (parts_read WithFx []) (misfit (members_width ms) b (omega arith)) ∙ failed_is (sym e) (sym f)
parts_failed WithoutFx (ms ∷ []) b p c (inl (lt, e, f)) = ap (last_read ms) (split_short b (members_width ms) (omega arith)) ∙ failed_is (sym e) (sym f)
parts_failed WithFx (ms ∷ []) b p c (inr (x, y, l, e, inl (f, o, g, h))) = rw (e, split_at x (1 ∷ y) (members_width ms) l) (failed_is (sym g) (sym h))
parts_failed WithoutFx (ms ∷ []) b p c (inr (x, y, l, e, inl (f, o, g, h))) = cc
parts_failed last (ms ∷ m ∷ ps) b p c (inr (x, y, l, e, inl (f, o, g, h))) = cc
parts_failed last (ms ∷ []) b p c (inr (x, y, l, e, inr (q, f, h))) = absurd h
parts_failed last (ms ∷ m ∷ ps) b p c (inr (x, y, l, e, inr (q, f, h))) =
    rw (e, split_at x (1 ∷ y) (members_width ms) l, parts_failed last (m ∷ ps) y q c h) (failed_is (sym f) refl)

one_misfit : (f : FixedTree) (b : List ℕ) (go : List ℕ → Read ValuesTree) → Misfit (width f) b → one_read f (split (width f) b) go ≡ failed 0 RunsOut
one_misfit f b go (misfit_short e) = ap (λ s. one_read f s go) e
one_misfit f b go (misfit_end e) = ap (λ s. one_read f s go) e

pub run_failed : (m n : ℕ) (f : FixedTree) (b : List ℕ) (p : ℕ) (c : BodyCause) → length b < m → RunFails n f b p c → run_read m f b ≡ failed p c
run_failed zero n f b p c lt h = absurd (omega arith)
run_failed (suc m) zero f b p c lt (le, e, g) = one_misfit f b (run_read m f) (misfit (width f) b le) ∙ failed_is (sym e) (sym g)
run_failed (suc m) (suc n) f b p c lt (x, y, l, e, q, g, h) =
    let lt2 : length y < m = omega (arith, ap length e, length_unit x y 1 (width f) l) in
    rw (e, split_at x (1 ∷ y) (width f) l, run_failed m n f y q c lt2 h) (failed_is (sym g) refl)

-- ---- counted and explicit

pub each_failed : (R : ValueTree → List ℕ → Type 0) (rule : List ℕ → Read ValueTree) → ((v : ValueTree) (b r : List ℕ) → R v b → rule (b ++ r) ≡ got v (length b) r)
    → (n : ℕ) (vs : ValuesTree) (x y : List ℕ) (q : ℕ) (c : BodyCause) → value_count vs < n → EachSpells R vs x → rule y ≡ failed q c → each_read rule n (x ++ y) ≡ failed (length x + q) c
each_failed R rule one zero vs x y q c lt h e = absurd (omega arith)
each_failed R rule one (suc n) no_values x y q c lt h e = rw (h, e) (failed_is (omega arith) refl)
each_failed R rule one (suc n) (value_and v vs) x y q c lt (a, b, f, h, t) e =
    let l : length x ≡ length a + length b = ap length f ∙ length-append a b in
    rw (l, f, append_assoc, one v a (b ++ y) h, each_failed R rule one n vs b y q c (omega arith) t e) (failed_is (omega arith) refl)

counted_short : (w : ℕ) (rule : List ℕ → Read ValueTree) (b : List ℕ) (p : ℕ) (c : BodyCause) → length b < w → p ≡ 0 → c ≡ RunsOut → count_read w rule (split w b) ≡ failed p c
counted_short w rule b p c lt e f = ap (count_read w rule) (split_short b w lt) ∙ failed_is (sym e) (sym f)

-- a counter or a length octet in front
lead : (w n : ℕ) (b y : List ℕ) → b ≡ word w n ++ y → split w b ≡ cut (word w n) y
lead w n b y e = ap (split w) e ∙ split_at (word w n) y w (length-word w n)

counted_failed : (w : ℕ) (R : ValueTree → List ℕ → Type 0) (rule : List ℕ → Read ValueTree) → ((v : ValueTree) (b r : List ℕ) → R v b → rule (b ++ r) ≡ got v (length b) r)
    → (n : ℕ) (vs : ValuesTree) (b x y : List ℕ) (p q : ℕ) (c : BodyCause) → n < 2 ^ w → value_count vs < n → b ≡ word w n ++ (x ++ y) → EachSpells R vs x → p ≡ w + (length x + q) → rule y ≡ failed q c
    → count_read w rule (split w b) ≡ failed p c
counted_failed w R rule one n vs b x y p q c le lt e h f g =
    ap (count_read w rule) (lead w n b (x ++ y) e) ∙ ap (λ n. after w (λ vs. occurrences vs) (each_read rule n (x ++ y))) (number_word w n le)
    ∙ ap (after w (λ vs. occurrences vs)) (each_failed R rule one n vs x y q c lt h g) ∙ failed_is (sym f) refl

explicit_failed : (b : List ℕ) (p : ℕ) (c : BodyCause) → Fails explicit b p c → explicit_read (split 8 b) ≡ failed p c
explicit_failed b p c (inl (lt, e, f)) = ap explicit_read (split_short b 8 lt) ∙ failed_is (sym e) (sym f)
explicit_failed b p c (inr (inl (y, e, f, g))) =
    ap explicit_read (lead 8 0 b y e) ∙ ap (λ n. contents_read n y) (number_word 8 0 (omega arith)) ∙ failed_is (sym f) (sym g)
explicit_failed b p c (inr (inr (m, le, y, e, lt, f, g))) =
    let n : number_of (word 8 (1 + m)) ≡ 1 + m = number_word 8 (1 + m) (omega arith) in
    let n2 : number_of (word 8 (1 + m)) ≡ suc m = omega arith in
    ap explicit_read (lead 8 (1 + m) b y e) ∙ ap (λ n. contents_read n y) n2 ∙ ap (octets_read m) (split_short y (8 * m) lt) ∙ failed_is (sym f) (sym g)

-- ---- presence fields

pub undefined_first : (ds : List Bool) (ms : List ℕ) (j : ℕ) → FirstUndefined ds ms j → undefined ds ms ≡ Some j
undefined_first ds [] j h = absurd h
undefined_first ds (zero ∷ ms) zero h = cc
undefined_first ds (zero ∷ ms) (suc j) h = ap up (undefined_first (later_slots ds) ms j h.1)
undefined_first [] (suc zero ∷ ms) zero h = refl
undefined_first (false ∷ ds) (suc zero ∷ ms) zero h = refl
undefined_first (true ∷ ds) (suc zero ∷ ms) zero h = absurd (h.1 tt)
undefined_first [] (suc zero ∷ ms) (suc j) h = absurd (h.0 refl)
undefined_first (false ∷ ds) (suc zero ∷ ms) (suc j) h = absurd (h.0 refl)
undefined_first (true ∷ ds) (suc zero ∷ ms) (suc j) h = ap up (undefined_first ds ms j h.1)
undefined_first ds (suc (suc m) ∷ ms) zero h = absurd (omega (arith, h.0))
undefined_first ds (suc (suc m) ∷ ms) (suc j) h = ap up (undefined_first (later_slots ds) ms j h.1)

octet_misfit : (k : ℕ) (ds : List Bool) (b : List ℕ) (go : List Bool → List ℕ → Read (List ℕ)) → Misfit 7 b → octet_read k ds (split 7 b) go ≡ failed 0 RunsOut
octet_misfit k ds b go (misfit_short e) = ap (λ s. octet_read k ds s go) e
octet_misfit k ds b go (misfit_end e) = ap (λ s. octet_read k ds s go) e

pub presence_failed : (k : ℕ) (ds : List Bool) (b : List ℕ) (p : ℕ) (c : BodyCause) → PresenceFails k ds b p c → presence_read k ds b ≡ failed p c
presence_failed zero ds b p c h = absurd h
presence_failed (suc k) ds b p c (inl (lt, e, f)) = octet_misfit k ds b (presence_read k) (misfit 7 b (omega arith)) ∙ failed_is (sym e) (sym f)
presence_failed (suc k) ds b p c (inr (seven, fx, y, l, e, inl (h, f))) =
    rw (e, split_at seven (fx ∷ y) 7 l, undefined_first ds seven p h) (failed_is refl (sym f))
presence_failed (suc zero) ds b p c (inr (seven, fx, y, l, e, inr (clear, f, inl (z, g, h)))) =
    rw (e, f, split_at seven (1 ∷ y) 7 l, undefined_none ds seven clear) (failed_is (sym g) (sym h))
presence_failed (suc (suc k)) ds b p c (inr (seven, fx, y, l, e, inr (clear, f, inl (z, g, h)))) = absurd (omega arith)
presence_failed (suc zero) ds b p c (inr (seven, fx, y, l, e, inr (clear, f, inr (q, g, h)))) = absurd h
presence_failed (suc (suc k)) ds b p c (inr (seven, fx, y, l, e, inr (clear, f, inr (q, g, h)))) =
    rw (e, f, split_at seven (1 ∷ y) 7 l, undefined_none ds seven clear, presence_failed (suc k) (slots_past seven ds) y q c h) (failed_is (sym g) refl)

-- ---- kinds

mutual
  pub read_failed : (k : KindTree) (b : List ℕ) (p : ℕ) (c : BodyCause) → Fails k b p c → read k b ≡ failed p c
  read_failed (fixed f) b p c (lt, e, g) = ap (fixed_read f) (split_short b (width f) lt) ∙ failed_is (sym e) (sym g)
  read_failed (extended last ps) b p c h = rw (parts_failed last ps b p c h) (failed_is (omega arith) refl)
  read_failed (counted size k) b p c (inl (lt, e, f)) = counted_short (counter_width size) (read k) b p c lt e f
  read_failed (counted size k) b p c (inr (r, le, vs, lt, x, y, e, h, q, f, g)) =
      counted_failed (counter_width size) (Spells k) (read k) (read_spelled k) r vs b x y p q c le lt e h f (read_failed k y q c g)
  read_failed (by_fx f) b p c (n, h) = rw (run_failed (suc (length b)) n f b p c (omega arith) h) (failed_is (omega arith) refl)
  read_failed explicit b p c h = explicit_failed b p c h
  read_failed (compound ss) b p c (inl h) = rw (presence_failed (octets_needed (slot_count ss)) (defined_slots ss) b p c h) refl
  read_failed (compound ss) b p c (inr (ms, x, y, e, h, clear, q, f, g)) =
      rw (e, presence_spelled (octets_needed (slot_count ss)) (defined_slots ss) ms x y h clear, entries_failed 1 ss ms y q c g) (failed_is (sym f) refl)

  pub entries_failed : (s : ℕ) (ss : SlotsTree) (ms b : List ℕ) (p : ℕ) (c : BodyCause) → EntriesFail ss ms b p c → entries_read s ss ms b ≡ failed p c
  entries_failed s no_slots ms b p c h = absurd h
  entries_failed s (slot_and spare_slot ss) ms b p c h = entries_failed (s + 1) ss (later_marks ms) b p c h
  entries_failed s (slot_and (subitem name k) ss) ms b p c (inl (m, h)) = rw (m, read_failed k b p c h) refl
  entries_failed s (slot_and (subitem name k) ss) ms b p c (inr (inl (m, v, x, y, e, h, q, f, g))) =
      rw (m, e, read_spelled k v x y h, entries_failed (s + 1) ss (later_marks ms) y q c g) (failed_is (sym f) refl)
  entries_failed s (slot_and (subitem name k) ss) ms b p c (inr (inr (m, h))) = rw m (entries_failed (s + 1) ss (later_marks ms) b p c h)
