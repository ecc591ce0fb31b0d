-- What spells a value is read as that value.
use Rattle.std.proofs.Common.{Bool, IsTrue, List, None, [], ap, append-nil, append_assoc, arith, false, inl, inr, length, length-append, refl, subst, suc, sym, true, zero, ℕ, ◌*◌, ◌++◌, ◌+◌, ◌<◌, ◌^◌, ◌∙◌, ◌∷◌, ◌≡◌, ◌≤◌}
use Rattle.std.specs.List.{AllByRecursion}
use Rattle.ax_bits.proofs.Words.{length-bits, length-word}
use Rattle.ax_bits.specs.Bits.{bits, number_of, word}
use Rattle.ax_format.proofs.FixedKinds.{fixed_back_all, fixed_length, members_back_all, members_length, number_word, split_at}
use Rattle.ax_format.specs.Reader.{Read, after, contents_read, count_read, cut, each_read, entries_read, explicit_read, fixed_read, got, octets_in, octets_read, parts_read, presence_read, read, run_read, split, undefined, up}
use Rattle.ax_format.specs.Presence.{IsDefined, NoneUndefined, Presence, first_mark, later_marks, later_slots, none_marked, octets_needed, slots_past}
use Rattle.ax_format.specs.Spelling.{EachSpells, EntriesSpell, FixedSpells, PartsSpell, RunSpells, Spells}
use Rattle.ax_format.specs.Tree.{EntriesTree, FixedTree, KindTree, ListsTree, MembersTree, SlotsTree, ValueTree, ValuesTree, by_fx, compound, content_octets, counted, defined_slots, entry_and, explicit, extended, fixed, list_and, marked, no_entries, no_lists, no_slots, no_values, occurrences, part_values, slot_and, slot_count, spare_slot, subitem, value_and, value_count}
use Rattle.ax_format.specs.Widths.{counter_width, members_width, width}
use Rattle.ax_format.specs.declared.kind.LastPart.{LastPart}
use Rattle.ax_format.specs.declared.kind.LastPart.TheVariants.{WithFx, WithoutFx}

-- ---- what is got, by parts

pub got_is : {A : Type 0} {a b : A} {m n : ℕ} (y : List ℕ) → a ≡ b → m ≡ n → got a m y ≡ got b n y
got_is y p q = λ i. got (p i) (q i) y

fixed_spelled : (f : FixedTree) (v : ValueTree) (b r : List ℕ) → FixedSpells f v b → fixed_read f (split (width f) (b ++ r)) ≡ got v (length b) r
fixed_spelled f v b r h =
    let e = fixed_length f v b h in rw (split_at b r (width f) e) (got_is r (fixed_back_all f v b h) (sym e))

-- ---- parts and occurrences

-- a unit and its FX bit in front of the rest
pub length_unit : (x y : List ℕ) (fx w : ℕ) → length x ≡ w → w + 1 + length y ≡ length (x ++ fx ∷ y)
length_unit x y fx w e = let l : length (x ++ fx ∷ y) ≡ length x + suc (length y) = length-append x (fx ∷ y) in omega arith

length_end : (x : List ℕ) (fx w : ℕ) → length x ≡ w → w + 1 ≡ length (x ++ fx ∷ [])
length_end x fx w e = let l : length (x ++ fx ∷ []) ≡ length x + 1 = length-append x (fx ∷ []) in omega arith

pub parts_spelled : (last : LastPart) (ps : List MembersTree) (ls : ListsTree) (b r : List ℕ) → PartsSpell last ps ls b → parts_read last ps (b ++ r) ≡ got ls (length b) r
parts_spelled last [] no_lists b r h = absurd h
parts_spelled last (p ∷ ps) no_lists b r h = absurd h
parts_spelled last [] (list_and vs ls) b r h = absurd h
parts_spelled last (p ∷ q ∷ ps) (list_and vs no_lists) b r (x, e, h) =
    let l = members_length p vs x h in
    rw (e, append_assoc, split_at x (0 ∷ r) (members_width p) l) (got_is r (ap (λ vs. list_and vs no_lists) (members_back_all p vs x h)) (length_end x 0 (members_width p) l))
parts_spelled WithFx (p ∷ []) (list_and vs no_lists) b r (x, e, h) =
    let l = members_length p vs x h in
    rw (e, append_assoc, split_at x (0 ∷ r) (members_width p) l) (got_is r (ap (λ vs. list_and vs no_lists) (members_back_all p vs x h)) (length_end x 0 (members_width p) l))
parts_spelled WithoutFx (p ∷ []) (list_and vs no_lists) b r (x, e, h) =
    let l = members_length p vs x h in
    let same : b ≡ x = e ∙ append-nil x in
    rw (same, split_at x r (members_width p) l) (got_is r (ap (λ vs. list_and vs no_lists) (members_back_all p vs x h)) (sym l))
parts_spelled last (p ∷ []) (list_and vs (list_and ws ls)) b r (x, y, e, h, t) = absurd t
parts_spelled last (p ∷ q ∷ ps) (list_and vs (list_and ws ls)) b r (x, y, e, h, t) =
    let l = members_length p vs x h in
    rw (e, append_assoc, split_at x (1 ∷ y ++ r) (members_width p) l, parts_spelled last (q ∷ ps) (list_and ws ls) y r t)
    (got_is r (ap (λ vs. list_and vs (list_and ws ls)) (members_back_all p vs x h)) (length_unit x y 1 (members_width p) l))

pub run_spelled : (n : ℕ) (f : FixedTree) (vs : ValuesTree) (b r : List ℕ) → length b ≤ n → RunSpells f vs b → run_read n f (b ++ r) ≡ got vs (length b) r
run_spelled n f no_values b r le h = absurd h
run_spelled zero f (value_and v no_values) b r le (x, e, h) = absurd (omega (arith, ap length e, length-append x (0 ∷ [])))
run_spelled (suc n) f (value_and v no_values) b r le (x, e, h) =
    let l = fixed_length f v x h in
    rw (e, append_assoc, split_at x (0 ∷ r) (width f) l) (got_is r (ap (λ v. value_and v no_values) (fixed_back_all f v x h)) (length_end x 0 (width f) l))
run_spelled zero f (value_and v (value_and w vs)) b r le (x, y, e, h, t) = absurd (omega (arith, ap length e, length-append x (1 ∷ y)))
run_spelled (suc n) f (value_and v (value_and w vs)) b r le (x, y, e, h, t) =
    let l = fixed_length f v x h in
    let le2 : length y ≤ n = omega (arith, ap length e, length_unit x y 1 (width f) l) in
    rw (e, append_assoc, split_at x (1 ∷ y ++ r) (width f) l, run_spelled n f (value_and w vs) y r le2 t)
    (got_is r (ap (λ v. value_and v (value_and w vs)) (fixed_back_all f v x h)) (length_unit x y 1 (width f) l))

-- ---- counted and explicit

pub each_spelled : (R : ValueTree → List ℕ → Type 0) (rule : List ℕ → Read ValueTree) → ((v : ValueTree) (b r : List ℕ) → R v b → rule (b ++ r) ≡ got v (length b) r)
    → (vs : ValuesTree) (b r : List ℕ) → EachSpells R vs b → each_read rule (value_count vs) (b ++ r) ≡ got vs (length b) r
each_spelled R rule one no_values b r h = rw h refl
each_spelled R rule one (value_and v vs) b r (x, y, e, h, t) =
    rw (e, append_assoc, one v x (y ++ r) h, each_spelled R rule one vs y r t) (got_is r refl (sym (length-append x y)))

octets_back : (xs : List ℕ) → AllByRecursion (λ x. x < 256) xs → octets_in (length xs) (bits xs) ≡ xs
octets_back [] h = refl
octets_back (x ∷ xs) h =
    let one : number_of (word 8 x) ≡ x = number_word 8 x h.0 in λ i. one i ∷ octets_back xs h.1 i

pub explicit_spelled : (xs b r : List ℕ) → length xs < 255 → AllByRecursion (λ x. x < 256) xs → b ≡ word 8 (1 + length xs) ++ bits xs → explicit_read (split 8 (b ++ r)) ≡ got (content_octets xs) (length b) r
explicit_spelled xs b r le h e =
    let w = word 8 (1 + length xs) in
    let n : number_of w ≡ 1 + length xs = number_word 8 (1 + length xs) (omega arith) in
    let n2 : number_of w ≡ suc (length xs) = omega arith in
    let l : length w ≡ 8 = length-word 8 (1 + length xs) in
    let m : length (bits xs) ≡ 8 * length xs = length-bits xs in
    let all : length b ≡ length w + length (bits xs) = ap length e ∙ length-append w (bits xs) in
    let front : split 8 (b ++ r) ≡ cut w (bits xs ++ r) = ap (λ b. split 8 (b ++ r)) e ∙ ap (split 8) (append_assoc w (bits xs) r) ∙ split_at w (bits xs ++ r) 8 l in
    ap explicit_read front ∙ ap (λ n. contents_read n (bits xs ++ r)) n2 ∙ ap (octets_read (length xs)) (split_at (bits xs) r (8 * length xs) m)
    ∙ got_is r (ap (λ xs. content_octets xs) (octets_back xs h)) (let e : 8 + 8 * length xs ≡ length b = omega arith in e)

-- a counter or a length octet in front
pub front : (w n : ℕ) (b y r : List ℕ) → b ≡ word w n ++ y → split w (b ++ r) ≡ cut (word w n) (y ++ r)
front w n b y r e = ap (λ b. split w (b ++ r)) e ∙ ap (split w) (append_assoc (word w n) y r) ∙ split_at (word w n) (y ++ r) w (length-word w n)

pub counted_spelled : (w : ℕ) (R : ValueTree → List ℕ → Type 0) (rule : List ℕ → Read ValueTree) → ((v : ValueTree) (b r : List ℕ) → R v b → rule (b ++ r) ≡ got v (length b) r)
    → (vs : ValuesTree) (b y r : List ℕ) → value_count vs < 2 ^ w → b ≡ word w (value_count vs) ++ y → EachSpells R vs y → count_read w rule (split w (b ++ r)) ≡ got (occurrences vs) (length b) r
counted_spelled w R rule one vs b y r le e h =
    let long : w + length y ≡ length b = omega (arith, ap length e, length-append (word w (value_count vs)) y, length-word w (value_count vs)) in
    ap (count_read w rule) (front w (value_count vs) b y r e) ∙ ap (λ n. after w (λ vs. occurrences vs) (each_read rule n (y ++ r))) (number_word w (value_count vs) le)
    ∙ ap (after w (λ vs. occurrences vs)) (each_spelled R rule one vs y r h) ∙ got_is r refl long

-- ---- presence fields

pub undefined_none : (ds : List Bool) (ms : List ℕ) → NoneUndefined ds ms → undefined ds ms ≡ None
undefined_none ds [] clear = refl
undefined_none ds (zero ∷ ms) clear = ap up (undefined_none (later_slots ds) ms clear.1)
undefined_none [] (suc zero ∷ ms) clear = absurd (clear.0 refl)
undefined_none (false ∷ ds) (suc zero ∷ ms) clear = absurd (clear.0 refl)
undefined_none (true ∷ ds) (suc zero ∷ ms) clear = ap up (undefined_none ds ms clear.1)
undefined_none ds (suc (suc m) ∷ ms) clear = ap up (undefined_none (later_slots ds) ms clear.1)

pub NoneUndefined-front : (ds : List Bool) (a b : List ℕ) → NoneUndefined ds (a ++ b) → NoneUndefined ds a × NoneUndefined (slots_past a ds) b
NoneUndefined-front ds [] b h = (tt, h)
NoneUndefined-front ds (m ∷ a) b h = let t = NoneUndefined-front (later_slots ds) a b h.1 in ((h.0, t.0), t.1)

pub presence_spelled : (k : ℕ) (ds : List Bool) (ms b r : List ℕ) → Presence k ms b → NoneUndefined ds ms → presence_read k ds (b ++ r) ≡ got ms (length b) r
presence_spelled zero ds ms b r h clear = absurd h
presence_spelled (suc k) ds ms b r (seven, l, bit, inl (e, f)) clear =
    let no2 = subst (NoneUndefined ds) e clear in
    rw (f, append_assoc, split_at seven (0 ∷ r) 7 l, undefined_none ds seven no2) (got_is r (sym e) (length_end seven 0 7 l))
presence_spelled (suc zero) ds ms b r (seven, l, bit, inr (more, y, e, f, t)) clear = absurd t
presence_spelled (suc (suc k)) ds ms b r (seven, l, bit, inr (more, y, e, f, t)) clear =
    let no2 = NoneUndefined-front ds seven more (subst (NoneUndefined ds) e clear) in
    rw (f, append_assoc, split_at seven (1 ∷ y ++ r) 7 l, undefined_none ds seven no2.0, presence_spelled (suc k) (slots_past seven ds) more y r t no2.1) (got_is r (sym e) (length_unit seven y 1 7 l))

-- marks that entries stand for mark no undefined slot
pub unmarked : (ms : List ℕ) (ds : List Bool) → IsTrue (none_marked ms) → NoneUndefined ds ms
unmarked [] ds h = tt
unmarked (zero ∷ ms) ds h = ((λ e. absurd (omega arith)), unmarked ms (later_slots ds) h)
unmarked (suc m ∷ ms) ds h = cc

step_defined : (ms : List ℕ) (ds : List Bool) → (first_mark ms ≡ 1 → IsDefined ds) → NoneUndefined (later_slots ds) (later_marks ms) → NoneUndefined ds ms
step_defined [] ds h t = tt
step_defined (m ∷ ms) ds h t = (h, t)

pub entries_defined : (s : ℕ) (ss : SlotsTree) (ms : List ℕ) (es : EntriesTree) (b : List ℕ) → EntriesSpell s ss ms es b → NoneUndefined (defined_slots ss) ms
entries_defined s no_slots ms no_entries b h = unmarked ms [] h.0
entries_defined s no_slots ms (entry_and t v es) b h = absurd h
entries_defined s (slot_and spare_slot ss) ms es b h = step_defined ms (false ∷ defined_slots ss) (λ e. absurd (omega (arith, h.0))) (entries_defined (s + 1) ss (later_marks ms) es b h.1)
entries_defined s (slot_and (subitem name k) ss) ms no_entries b h = step_defined ms (true ∷ defined_slots ss) (λ e. tt) (entries_defined (s + 1) ss (later_marks ms) no_entries b h.1)
entries_defined s (slot_and (subitem name k) ss) ms (entry_and t v es) b (inl (m, e, x, y, f, p, q)) =
    step_defined ms (true ∷ defined_slots ss) (λ e. tt) (entries_defined (s + 1) ss (later_marks ms) es y q)
entries_defined s (slot_and (subitem name k) ss) ms (entry_and t v es) b (inr (m, q)) =
    step_defined ms (true ∷ defined_slots ss) (λ e. tt) (entries_defined (s + 1) ss (later_marks ms) (entry_and t v es) b q)

-- ---- kinds

mutual
  pub read_spelled : (k : KindTree) (v : ValueTree) (b r : List ℕ) → Spells k v b → read k (b ++ r) ≡ got v (length b) r
  read_spelled (fixed f) v b r h = fixed_spelled f v b r h
  read_spelled (extended last ps) (part_values ls) b r h = rw (parts_spelled last ps ls b r h) (got_is r refl (omega arith))
  read_spelled (extended last ps) _ b r h = absurd h
  read_spelled (counted size k) (occurrences vs) b r (le, y, e, h) =
      counted_spelled (counter_width size) (Spells k) (read k) (read_spelled k) vs b y r le e h
  read_spelled (counted size k) _ b r h = absurd h
  read_spelled (by_fx f) (occurrences vs) b r h =
      rw (run_spelled (suc (length (b ++ r))) f vs b r (omega (arith, length-append b r)) h) (got_is r refl (omega arith))
  read_spelled (by_fx f) _ b r h = absurd h
  read_spelled explicit (content_octets xs) b r (le, all, e) = explicit_spelled xs b r le all e
  read_spelled explicit _ b r h = absurd h
  read_spelled (compound ss) (marked es) b r (f, y, ms, e, p, h) =
      rw (e, append_assoc, presence_spelled (octets_needed (slot_count ss)) (defined_slots ss) ms f (y ++ r) p (entries_defined 1 ss ms es y h), entries_spelled 1 ss ms es y r h)
      (got_is r refl (sym (length-append f y)))
  read_spelled (compound ss) _ b r h = absurd h

  pub entries_spelled : (s : ℕ) (ss : SlotsTree) (ms : List ℕ) (es : EntriesTree) (b r : List ℕ) → EntriesSpell s ss ms es b → entries_read s ss ms (b ++ r) ≡ got es (length b) r
  entries_spelled s no_slots ms no_entries b r h = rw (h.1) refl
  entries_spelled s no_slots ms (entry_and t v es) b r h = absurd h
  entries_spelled s (slot_and spare_slot ss) ms es b r h = entries_spelled (s + 1) ss (later_marks ms) es b r h.1
  entries_spelled s (slot_and (subitem name k) ss) ms no_entries b r h = rw (h.0) (entries_spelled (s + 1) ss (later_marks ms) no_entries b r h.1)
  entries_spelled s (slot_and (subitem name k) ss) ms (entry_and t v es) b r (inl (m, e, x, y, f, p, q)) =
      rw (m, f, append_assoc, read_spelled k v x (y ++ r) p, entries_spelled (s + 1) ss (later_marks ms) es y r q) (got_is r (ap (λ t. entry_and t v es) (sym e)) (sym (length-append x y)))
  entries_spelled s (slot_and (subitem name k) ss) ms (entry_and t v es) b r (inr (m, q)) = rw m (entries_spelled (s + 1) ss (later_marks ms) (entry_and t v es) b r q)
