-- The bits before a fault begin some spelling, and where they run out all of them do.
use Rattle.std.proofs.Common.{◌≡◌, ℕ, zero, suc, ◌+◌, ◌-◌, ◌*◌, ◌%◌, ◌^◌, ◌<◌, ◌≤◌, inl, inr, IsTrue, List, [], ◌∷◌, ◌++◌, length, take, drop, Bool, true, false, refl, sym, ◌∙◌, ap, arith, length-append, append_assoc, append-nil, take-append-drop, length-take-le, subst}
use Rattle.std.proofs.lemmas.List.{nil_from_length}
use Rattle.ax_bits.proofs.Words.{append-AreBits, length-word, bits-AreBits, length-bits}
use Rattle.ax_bits.specs.Bits.{AreBits, word, bits, number_of}
use Rattle.ax_format.proofs.Meets.{number_is_word, number_fits, members_all, bits_of, fixed_all, NoneUndefined-append, skip, none_marked_left, rest_defined, rest_bits, spare_first, first_bit, octets_some, presence_bits}
use Rattle.ax_format.specs.Reader.{members_value, fixed_value, octets_in}
use Rattle.ax_format.proofs.Spelled.{unmarked}
use Rattle.ax_format.proofs.WholeOctets.{counter_whole, each_whole, spells_whole, presence_whole}
use Rattle.ax_format.specs.Completing.{Completes}
use Rattle.ax_format.specs.Failing.{PartsFail, RunFails, PresenceFails, Fails, EntriesFail}
use Rattle.ax_format.specs.Presence.{none_marked, Presence, NoneUndefined, FirstUndefined, later_slots, slots_past, first_mark, later_marks, octets_needed}
use Rattle.ax_format.specs.Sound.{Sound, SlotsSound}
use Rattle.ax_format.specs.Spelling.{PartsSpell, RunSpells, Spells, EntriesSpell, EachSpells}
use Rattle.ax_format.specs.Tree.{MembersTree, ListsTree, list_and, no_lists, FixedTree, ValuesTree, value_and, no_values, KindTree, ValueTree, SlotsTree, no_entries, no_slots, slot_and, spare_slot, subitem, fixed, extended, part_values, counted, occurrences, by_fx, explicit, content_octets, compound, slot_count, marked, EntriesTree, entry_and, defined_slots, value_count}
use Rattle.ax_format.specs.Whole.{Whole, SlotsWhole}
use Rattle.ax_format.specs.Widths.{members_width, width, counter_width, fx_width}
use Rattle.ax_format.specs.declared.fault.BodyCause.{BodyCause}
use Rattle.ax_format.specs.declared.fault.BodyCause.TheVariants.{RunsOut}
use Rattle.ax_format.proofs.Unmarked.{none_first, none_later}
use Rattle.ax_format.specs.declared.kind.Counter.{Counter}
use Rattle.ax_format.specs.declared.kind.Counter.TheVariants.{One, Two}
use Rattle.ax_format.specs.declared.kind.LastPart.{LastPart}
use Rattle.ax_format.specs.declared.kind.LastPart.TheVariants.{WithFx, WithoutFx}

-- ---- zeros

abbrev zeros : ℕ → List ℕ
zeros zero = []
zeros (suc n) = 0 ∷ zeros n

zeros-AreBits : (n : ℕ) → AreBits (zeros n)
zeros-AreBits zero = tt
zeros-AreBits (suc n) = (omega arith, zeros-AreBits n)

length-zeros : (n : ℕ) → length (zeros n) ≡ n
length-zeros zero = refl
length-zeros (suc n) = ap suc (length-zeros n)

zeros-none_marked : (n : ℕ) → IsTrue (none_marked (zeros n))
zeros-none_marked zero = refl
zeros-none_marked (suc n) = zeros-none_marked n

-- padded to a width
padded : (b : List ℕ) (w : ℕ) → AreBits b → length b ≤ w → AreBits (b ++ zeros (w - length b)) × (length (b ++ zeros (w - length b)) ≡ w)
padded b w bit le = (append-AreBits b (zeros (w - length b)) bit (zeros-AreBits (w - length b)), length-append b (zeros (w - length b)) ∙ (let e : length (zeros (w - length b)) ≡ w - length b = length-zeros (w - length b) in omega arith))

-- ---- ways to complete

-- all is kept
all_kept : (S : List ℕ → Type 0) (b z : List ℕ) (p : ℕ) (c : BodyCause) → p ≤ length b → S (b ++ z) → Completes S b p c
all_kept S b z p c le h = record { kept = b; cut = []; more = z; split = sym (append-nil b); far = le; whole = (λ e. refl); spelled = h }

-- nothing is kept, since nothing is there or before
none_kept : (S : List ℕ → Type 0) (b z : List ℕ) (p : ℕ) (c : BodyCause) → p ≡ 0 → (c ≡ RunsOut → b ≡ []) → S z → Completes S b p c
none_kept S b z p c e none h = record { kept = []; cut = b; more = z; split = refl; far = omega arith; whole = none; spelled = h }

-- a front is kept
front_kept : (S : List ℕ → Type 0) (b x y z : List ℕ) (p : ℕ) (c : BodyCause) → b ≡ x ++ y → p ≤ length x → (c ≡ RunsOut → ⊥) → S (x ++ z) → Completes S b p c
front_kept S b x y z p c e le not h = record { kept = x; cut = y; more = z; split = e; far = le; whole = (λ e. absurd (not e)); spelled = h }

-- a front, then what completes the rest, and then more
pub after_kept : (S T : List ℕ → Type 0) (b x y : List ℕ) (p q : ℕ) (c : BodyCause) → b ≡ x ++ y → p ≡ length x + q → ((w : List ℕ) → T w → (d : List ℕ) × S (x ++ (w ++ d))) → Completes T y q c → Completes S b p c
after_kept S T b x y p q c e f good t =
    let u = good (t.kept ++ t.more) t.spelled in
    let le : q ≤ length t.kept = t.far in
    let same : x ++ ((t.kept ++ t.more) ++ u.0) ≡ (x ++ t.kept) ++ (t.more ++ u.0) = ap (λ y. x ++ y) (append_assoc t.kept t.more u.0) ∙ sym (append_assoc x t.kept (t.more ++ u.0)) in
    record {
      kept = x ++ t.kept;
      cut = t.cut;
      more = t.more ++ u.0;
      split = e ∙ ap (λ y. x ++ y) t.split ∙ sym (append_assoc x t.kept t.cut);
      far = omega (arith, length-append x t.kept);
      whole = t.whole;
      spelled = subst S same u.1;
    }

-- ---- parts and occurrences

-- the bits 0 that end a part
abbrev fx_end : LastPart → List MembersTree → List ℕ
fx_end last ps = word (fx_width last (length ps)) 0

pub fx_few : (last : LastPart) (n : ℕ) → fx_width last n ≤ 1
fx_few last (suc n) = omega arith
fx_few WithFx zero = omega arith
fx_few WithoutFx zero = omega arith

part_end : (last : LastPart) (p : MembersTree) (ps : List MembersTree) (b : List ℕ) → AreBits b → length b ≤ members_width p → (ls : ListsTree) × PartsSpell last (p ∷ ps) ls (b ++ (zeros (members_width p - length b) ++ fx_end last ps))
part_end last p ps b bit le =
    let z = zeros (members_width p - length b) in
    let t = padded b (members_width p) bit le in
    (list_and (members_value p (b ++ z)) no_lists, (b ++ z, sym (append_assoc b z (fx_end last ps)), members_all p (b ++ z) t.0 t.1))

pub more_parts : (last : LastPart) (p q : MembersTree) (ps : List MembersTree) (x : List ℕ) → AreBits x → length x ≡ members_width p → (w : List ℕ) → (ls : ListsTree) × PartsSpell last (q ∷ ps) ls w
    → (d : List ℕ) × ((ls : ListsTree) × PartsSpell last (p ∷ q ∷ ps) ls ((x ++ 1 ∷ []) ++ (w ++ d)))
more_parts last p q ps x bit l w (no_lists, h) = absurd h
more_parts last p q ps x bit l w (list_and vs ls, h) =
    ([], (list_and (members_value p x) (list_and vs ls), (x, w, append_assoc x (1 ∷ []) (w ++ []) ∙ ap (λ w. x ++ 1 ∷ w) (append-nil w), members_all p x bit l, h)))

parts_complete : (last : LastPart) (ps : List MembersTree) (b : List ℕ) (p : ℕ) (c : BodyCause) → AreBits b → PartsFail last ps b p c → Completes (λ w. (ls : ListsTree) × PartsSpell last ps ls w) b p c
parts_complete last [] b p c bit h = absurd h
parts_complete last (m ∷ ps) b p c bit (inl (lt, e, f)) =
    let le : length b ≤ members_width m = omega (arith, fx_few last (length ps)) in
    all_kept (λ w. (ls : ListsTree) × PartsSpell last (m ∷ ps) ls w) b (zeros (members_width m - length b) ++ fx_end last ps) p c (omega arith) (part_end last m ps b bit le)
parts_complete last (m ∷ ps) b p c bit (inr (x, y, l, e, inl (f, o, g, h))) =
    let t = bits_of b x (1 ∷ y) e bit in
    front_kept (λ w. (ls : ListsTree) × PartsSpell last (m ∷ ps) ls w) b x (1 ∷ y) (fx_end last ps) p c e (omega arith) (λ k. cc) (list_and (members_value m x) no_lists, (x, refl, members_all m x t.0 l))
parts_complete last (m ∷ []) b p c bit (inr (x, y, l, e, inr (q, f, h))) = absurd h
parts_complete last (m ∷ n ∷ ps) b p c bit (inr (x, y, l, e, inr (q, f, h))) =
    let t = bits_of b x (1 ∷ y) e bit in
    after_kept (λ w. (ls : ListsTree) × PartsSpell last (m ∷ n ∷ ps) ls w) (λ w. (ls : ListsTree) × PartsSpell last (n ∷ ps) ls w) b (x ++ 1 ∷ []) y p q c (e ∙ sym (append_assoc x (1 ∷ []) y)) (omega (arith, length-append x (1 ∷ [])))
    (more_parts last m n ps x t.0 l) (parts_complete last (n ∷ ps) y q c t.1.1 h)

run_end : (f : FixedTree) (b : List ℕ) → AreBits b → length b ≤ width f → (vs : ValuesTree) × RunSpells f vs (b ++ (zeros (width f - length b) ++ 0 ∷ []))
run_end f b bit le =
    let z = zeros (width f - length b) in
    let t = padded b (width f) bit le in
    (value_and (fixed_value f (b ++ z)) no_values, (b ++ z, sym (append_assoc b z (0 ∷ [])), fixed_all f (b ++ z) t.0 t.1))

more_run : (f : FixedTree) (x : List ℕ) → AreBits x → length x ≡ width f → (w : List ℕ) → (vs : ValuesTree) × RunSpells f vs w → (d : List ℕ) × ((vs : ValuesTree) × RunSpells f vs ((x ++ 1 ∷ []) ++ (w ++ d)))
more_run f x bit l w (no_values, h) = absurd h
more_run f x bit l w (value_and v vs, h) =
    ([], (value_and (fixed_value f x) (value_and v vs), (x, w, append_assoc x (1 ∷ []) (w ++ []) ∙ ap (λ w. x ++ 1 ∷ w) (append-nil w), fixed_all f x bit l, h)))

run_complete : (n : ℕ) (f : FixedTree) (b : List ℕ) (p : ℕ) (c : BodyCause) → AreBits b → RunFails n f b p c → Completes (λ w. (vs : ValuesTree) × RunSpells f vs w) b p c
run_complete zero f b p c bit (le, e, g) = all_kept (λ w. (vs : ValuesTree) × RunSpells f vs w) b (zeros (width f - length b) ++ 0 ∷ []) p c (omega arith) (run_end f b bit le)
run_complete (suc n) f b p c bit (x, y, l, e, q, g, h) =
    let t = bits_of b x (1 ∷ y) e bit in
    after_kept (λ w. (vs : ValuesTree) × RunSpells f vs w) (λ w. (vs : ValuesTree) × RunSpells f vs w) b (x ++ 1 ∷ []) y p q c (e ∙ sym (append_assoc x (1 ∷ []) y)) (omega (arith, length-append x (1 ∷ [])))
    (more_run f x t.0 l) (run_complete n f y q c t.1.1 h)

-- ---- presence fields

-- a field over these slots
abbrev Field : ℕ → List Bool → List ℕ → Type 0
Field k ds w = (ms : List ℕ) × Presence k ms w × NoneUndefined ds ms

last_octet : (k : ℕ) (ds : List Bool) (seven : List ℕ) → length seven ≡ 7 → AreBits seven → NoneUndefined ds seven → Field (suc k) ds (seven ++ 0 ∷ [])
last_octet k ds seven l bit clear = (seven, (seven, l, bit, inl (refl, refl)), clear)

empty_field : (k : ℕ) (ds : List Bool) → Field (suc k) ds (zeros 7 ++ 0 ∷ [])
empty_field k ds = last_octet k ds (zeros 7) refl (zeros-AreBits 7) (unmarked (zeros 7) ds (zeros-none_marked 7))

before_undefined : (ds : List Bool) (ms : List ℕ) (j : ℕ) → FirstUndefined ds ms j → NoneUndefined ds (take j ms) × (j < length ms)
before_undefined ds [] j h = absurd h
before_undefined ds (m ∷ ms) zero h = (tt, omega arith)
before_undefined ds (m ∷ ms) (suc j) h = let t = before_undefined (later_slots ds) ms j h.1 in ((h.0, t.0), (let lt : j < length ms = t.1 in omega arith))

more_field : (k : ℕ) (ds : List Bool) (seven : List ℕ) → length seven ≡ 7 → AreBits seven → NoneUndefined ds seven → (w : List ℕ) → Field k (slots_past seven ds) w → (d : List ℕ) × Field (suc k) ds ((seven ++ 1 ∷ []) ++ (w ++ d))
more_field k ds seven l bit clear w (ms, h, t) =
    ([], (seven ++ ms, (seven, l, bit, inr (ms, w, refl, append_assoc seven (1 ∷ []) (w ++ []) ∙ ap (λ w. seven ++ 1 ∷ w) (append-nil w), h)), NoneUndefined-append ds seven ms clear t))

presence_complete : (k : ℕ) (ds : List Bool) (b : List ℕ) (p : ℕ) (c : BodyCause) → AreBits b → length b % 8 ≡ 0 → PresenceFails k ds b p c → Completes (Field k ds) b p c
presence_complete zero ds b p c bit w h = absurd h
presence_complete (suc k) ds b p c bit w (inl (lt, e, f)) =
    none_kept (Field (suc k) ds) b (zeros 7 ++ 0 ∷ []) p c e (λ r. nil_from_length b (omega arith)) (empty_field k ds)
presence_complete (suc k) ds b p c bit w (inr (x, fx, y, l, e, inl (h, f))) =
    let t = before_undefined ds x p h in
    let lt : p < length x = t.1 in
    let front : length (take p x) ≡ p = length-take-le p x (omega arith) in
    let apart : x ≡ take p x ++ drop p x = sym (take-append-drop p x) in
    let xb = bits_of b x (fx ∷ y) e bit in
    let fb = bits_of x (take p x) (drop p x) apart xb.0 in
    let u = padded (take p x) 7 fb.0 (omega arith) in
    let z = zeros (7 - length (take p x)) in
    let clear : NoneUndefined ds (take p x ++ z) = NoneUndefined-append ds (take p x) z t.0 (unmarked z (slots_past (take p x) ds) (zeros-none_marked (7 - length (take p x)))) in
    front_kept (Field (suc k) ds) b (take p x) (drop p x ++ fx ∷ y) (z ++ 0 ∷ []) p c (e ∙ ap (λ x. x ++ fx ∷ y) apart ∙ append_assoc (take p x) (drop p x) (fx ∷ y)) (omega arith) (λ r. cc)
    (subst (Field (suc k) ds) (append_assoc (take p x) z (0 ∷ [])) (last_octet k ds (take p x ++ z) u.1 u.0 clear))
presence_complete (suc k) ds b p c bit w (inr (x, fx, y, l, e, inr (clear, f, inl (z, g, h)))) =
    let xb = bits_of b x (fx ∷ y) e bit in
    front_kept (Field (suc k) ds) b x (fx ∷ y) (0 ∷ []) p c e (omega arith) (λ r. cc) (last_octet k ds x l xb.0 clear)
presence_complete (suc k) ds b p c bit w (inr (x, fx, y, l, e, inr (clear, f, inr (q, g, h)))) =
    let xb = bits_of b x (fx ∷ y) e bit in
    let e1 : b ≡ x ++ 1 ∷ y = e ∙ ap (λ fx. x ++ fx ∷ y) f in
    after_kept (Field (suc k) ds) (Field k (slots_past x ds)) b (x ++ 1 ∷ []) y p q c (e1 ∙ sym (append_assoc x (1 ∷ []) y)) (omega (arith, length-append x (1 ∷ [])))
    (more_field k ds x l xb.0 clear) (presence_complete k (slots_past x ds) y q c xb.1.1 (omega (arith, ap length e, length-append x (fx ∷ y))) h)

-- ---- something of each kind

abbrev Some_of : KindTree → List ℕ → Type 0
Some_of k w = (v : ValueTree) × Spells k v w

none_entered : (s : ℕ) (ss : SlotsTree) (ms : List ℕ) → IsTrue (none_marked ms) → EntriesSpell s ss ms no_entries []
none_entered s no_slots ms h = (h, refl)
none_entered s (slot_and spare_slot ss) ms h = (none_first ms h, none_entered (s + 1) ss (later_marks ms) (none_later ms h))
none_entered s (slot_and (subitem name k) ss) ms h = (none_first ms h, none_entered (s + 1) ss (later_marks ms) (none_later ms h))

room_for : (n : ℕ) → 0 < n → (k : ℕ) × (n ≡ suc k)
room_for zero h = absurd (omega arith)
room_for (suc n) h = (n, refl)

some_value : (k : KindTree) → Sound k → (w : List ℕ) × Some_of k w
some_value (fixed f) h = (zeros (width f), (fixed_value f (zeros (width f)), fixed_all f (zeros (width f)) (zeros-AreBits (width f)) (length-zeros (width f))))
some_value (extended last []) h = absurd (omega arith)
some_value (extended last (p ∷ ps)) h = let t = part_end last p ps [] tt (omega arith) in (zeros (members_width p - 0) ++ fx_end last ps, (part_values t.0, t.1))
some_value (counted One k) h = (word 8 0, (occurrences no_values, (omega arith, [], refl, refl)))
some_value (counted Two k) h = (word 16 0, (occurrences no_values, (omega arith, [], refl, refl)))
some_value (by_fx f) h = let t = run_end f [] tt (omega arith) in (zeros (width f - 0) ++ 0 ∷ [], (occurrences t.0, t.1))
some_value explicit h = (word 8 1, (content_octets [], (omega arith, tt, refl)))
some_value (compound ss) h =
    let some : 0 < slot_count ss = h.0 in
    let n = room_for (octets_needed (slot_count ss)) (omega arith) in
    let p : Presence (octets_needed (slot_count ss)) (zeros 7) (zeros 7 ++ 0 ∷ []) = subst (λ n. Presence n (zeros 7) (zeros 7 ++ 0 ∷ [])) (sym n.1) (zeros 7, refl, zeros-AreBits 7, inl (refl, refl)) in
    ((zeros 7 ++ 0 ∷ []) ++ [], (marked no_entries, (zeros 7 ++ 0 ∷ [], [], zeros 7, refl, p, none_entered 1 ss (zeros 7) (zeros-none_marked 7))))

some_here : (s : ℕ) (name : List ℕ) (k : KindTree) (ss : SlotsTree) (ms w : List ℕ) (v : ValueTree) → Spells k v w → (d : List ℕ) (es : EntriesTree) → EntriesSpell (s + 1) ss (later_marks ms) es d
    → (m : ℕ) → first_mark ms ≡ m → m < 2 → (d : List ℕ) × (es : EntriesTree) × EntriesSpell s (slot_and (subitem name k) ss) ms es d
some_here s name k ss ms w v h d es t zero e lt = (d, es, skip s name k ss ms e es d t)
some_here s name k ss ms w v h d es t (suc zero) e lt = (w ++ d, entry_and s v es, inl (e, refl, w, d, refl, h, t))
some_here s name k ss ms w v h d es t (suc (suc m)) e lt = absurd (omega arith)

some_entries : (s : ℕ) (ss : SlotsTree) (ms : List ℕ) → SlotsSound ss → NoneUndefined (defined_slots ss) ms → AreBits ms → (d : List ℕ) × (es : EntriesTree) × EntriesSpell s ss ms es d
some_entries s no_slots ms sound clear bit = ([], no_entries, (none_marked_left ms clear bit, refl))
some_entries s (slot_and spare_slot ss) ms sound clear bit =
    let t = some_entries (s + 1) ss (later_marks ms) sound (rest_defined false (defined_slots ss) ms clear) (rest_bits ms bit) in (t.0, t.1, (spare_first (defined_slots ss) ms clear bit, t.2))
some_entries s (slot_and (subitem name k) ss) ms sound clear bit =
    let t = some_entries (s + 1) ss (later_marks ms) sound.1 (rest_defined true (defined_slots ss) ms clear) (rest_bits ms bit) in
    let u = some_value k sound.0 in
    some_here s name k ss ms u.0 u.1.0 u.1.1 t.0 t.1 t.2 (first_mark ms) refl (first_bit ms bit)

-- ---- counted and explicit

abbrev Repeats : KindTree → ℕ → List ℕ → Type 0
Repeats k n w = (vs : ValuesTree) × (value_count vs ≡ n) × EachSpells (Spells k) vs w

some_repeats : (k : KindTree) → Sound k → (n : ℕ) → (d : List ℕ) × Repeats k n d
some_repeats k sound zero = ([], (no_values, refl, refl))
some_repeats k sound (suc n) =
    let u = some_value k sound in
    let t = some_repeats k sound n in
    (u.0 ++ t.0, (value_and u.1.0 t.1.0, ap suc t.1.1, (u.0, t.0, refl, u.1.1, t.1.2)))

-- some values, and then others
extend : (k : KindTree) (n : ℕ) (vs : ValuesTree) (x d : List ℕ) → EachSpells (Spells k) vs x → Repeats k n d → Repeats k (value_count vs + n) (x ++ d)
extend k n no_values x d h (us, e, t) = (us, (let z : value_count us ≡ 0 + n = omega arith in z), subst (EachSpells (Spells k) us) (ap (λ x. x ++ d) (sym h)) t)
extend k n (value_and v vs) x d (y, z, e, h, t) r =
    let u = extend k n vs z d t r in (value_and v u.0, (let c : value_count u.0 ≡ value_count vs + n = u.1 in omega arith), (y, z ++ d, ap (λ x. x ++ d) e ∙ append_assoc y z d, h, u.2))

more_values : (size : Counter) (k : KindTree) → Sound k → (r : ℕ) → r < 2 ^ counter_width size → (vs : ValuesTree) → value_count vs < r → (x : List ℕ) → EachSpells (Spells k) vs x → (w : List ℕ) → Some_of k w → (d : List ℕ) × Some_of (counted size k) ((word (counter_width size) r ++ x) ++ (w ++ d))
more_values size k sound r le vs lt x h w (v, t) =
    let n = r - (value_count vs + 1) in
    let others = some_repeats k sound n in
    let one : Repeats k (suc n) (w ++ others.0) = (value_and v others.1.0, ap suc others.1.1, (w, others.0, refl, t, others.1.2)) in
    let all = extend k (suc n) vs x (w ++ others.0) h one in
    let count : value_count all.0 ≡ r = all.1 ∙ omega arith in
    (others.0, (occurrences all.0, (subst (λ m. m < 2 ^ counter_width size) (sym count) le, x ++ (w ++ others.0), append_assoc (word (counter_width size) r) x (w ++ others.0) ∙ ap (λ r. word (counter_width size) r ++ (x ++ (w ++ others.0))) (sym count), all.2)))

-- a counter that is cut is filled up, and then has as many values as it says
counter_ends : (size : Counter) (k : KindTree) → Sound k → (b : List ℕ) → AreBits b → length b < counter_width size → (z : List ℕ) × Some_of (counted size k) (b ++ z)
counter_ends size k sound b bit lt =
    let n = counter_width size in
    let z = zeros (n - length b) in
    let u = padded b n bit (omega arith) in
    let r = number_of (b ++ z) in
    let t = some_repeats k sound r in
    let front : b ++ z ≡ word n (value_count t.1.0) = number_is_word n (b ++ z) u.0 u.1 ∙ ap (word n) (sym t.1.1) in
    (z ++ t.0, (occurrences t.1.0, (subst (λ m. m < 2 ^ n) (sym t.1.1) (number_fits n (b ++ z) u.0 u.1), t.0, sym (append_assoc b z t.0) ∙ ap (λ x. x ++ t.0) front, t.1.2)))

contents_end : (m : ℕ) (b y : List ℕ) → m < 255 → AreBits y → b ≡ word 8 (1 + m) ++ y → length y < 8 * m → Some_of explicit (b ++ zeros (8 * m - length y))
contents_end m b y lt bit e less =
    let z = zeros (8 * m - length y) in
    let u = padded y (8 * m) bit (omega arith) in
    let t = octets_some m (y ++ z) u.0 u.1 in
    let xs = octets_in m (y ++ z) in
    let back : b ++ z ≡ word 8 (1 + length xs) ++ bits xs = ap (λ b. b ++ z) e ∙ append_assoc (word 8 (1 + m)) y z ∙ (λ i. word 8 (1 + sym t.0 i) ++ sym t.2 i) in
    (content_octets xs, (omega (arith, t.0), t.1, back))

-- ---- kinds

abbrev Entries_of : ℕ → SlotsTree → List ℕ → List ℕ → Type 0
Entries_of s ss ms w = (es : EntriesTree) × EntriesSpell s ss ms es w

fill_field : (ss : SlotsTree) → SlotsSound ss → (w : List ℕ) → Field (octets_needed (slot_count ss)) (defined_slots ss) w → (d : List ℕ) × Some_of (compound ss) ([] ++ (w ++ d))
fill_field ss sound w (ms, h, clear) =
    let t = some_entries 1 ss ms sound clear (presence_bits (octets_needed (slot_count ss)) ms w h) in (t.0, (marked t.1, (w, t.0, ms, refl, h, t.2)))

put_entries : (ss : SlotsTree) (ms x : List ℕ) → Presence (octets_needed (slot_count ss)) ms x → (w : List ℕ) → Entries_of 1 ss ms w → (d : List ℕ) × Some_of (compound ss) (x ++ (w ++ d))
put_entries ss ms x h w (es, t) = ([], (marked es, (x, w, ms, ap (λ w. x ++ w) (append-nil w), h, t)))

mutual
  pub completes : (k : KindTree) (b : List ℕ) (p : ℕ) (c : BodyCause) → Sound k → Whole k → AreBits b → length b % 8 ≡ 0 → Fails k b p c → Completes (Some_of k) b p c
  completes (fixed f) b p c sound w bit all (lt, e, g) =
      let u = padded b (width f) bit (omega arith) in
      let z = zeros (width f - length b) in all_kept (Some_of (fixed f)) b z p c (omega arith) (fixed_value f (b ++ z), fixed_all f (b ++ z) u.0 u.1)
  completes (extended last ps) b p c sound w bit all h =
      after_kept (Some_of (extended last ps)) (λ w. (ls : ListsTree) × PartsSpell last ps ls w) b [] b p p c refl (omega arith) (λ w t. ([], (part_values t.0, subst (PartsSpell last ps t.0) (sym (append-nil w)) t.1))) (parts_complete last ps b p c bit h)
  completes (counted size k) b p c sound w bit all (inl (lt, e, f)) = let t = counter_ends size k sound b bit lt in all_kept (Some_of (counted size k)) b t.0 p c (omega arith) t.1
  completes (counted size k) b p c sound w bit all (inr (r, le, vs, lt, x, y, e, h, q, f, g)) =
      let n = counter_width size in
      let front : b ≡ (word n r ++ x) ++ y = e ∙ sym (append_assoc (word n r) x y) in
      let l : length (word n r ++ x) ≡ n + length x = length-append (word n r) x ∙ ap (λ n. n + length x) (length-word n r) in
      let xw : length x % 8 ≡ 0 = each_whole (Spells k) (λ v b t. spells_whole k v b w t) vs x h in
      let yw : length y % 8 ≡ 0 = omega (arith, ap length front, length-append (word n r ++ x) y, counter_whole size) in
      after_kept (Some_of (counted size k)) (Some_of k) b (word n r ++ x) y p q c front (omega arith) (more_values size k sound r le vs lt x h) (completes k y q c sound w (bits_of b (word n r ++ x) y front bit).1 yw g)
  completes (by_fx f) b p c sound w bit all (n, h) =
      after_kept (Some_of (by_fx f)) (λ w. (vs : ValuesTree) × RunSpells f vs w) b [] b p p c refl (omega arith) (λ w t. ([], (occurrences t.0, subst (RunSpells f t.0) (sym (append-nil w)) t.1))) (run_complete n f b p c bit h)
  completes explicit b p c sound w bit all (inl (lt, e, f)) = none_kept (Some_of explicit) b (word 8 1) p c e (λ r. nil_from_length b (omega arith)) (content_octets [], (omega arith, tt, refl))
  completes explicit b p c sound w bit all (inr (inl (y, e, f, g))) = none_kept (Some_of explicit) b (word 8 1) p c f (λ r. cc) (content_octets [], (omega arith, tt, refl))
  completes explicit b p c sound w bit all (inr (inr (m, le, y, e, lt, f, g))) =
      all_kept (Some_of explicit) b (zeros (8 * m - length y)) p c (omega (arith, ap length e, length-append (word 8 (1 + m)) y, length-word 8 (1 + m))) (contents_end m b y le (bits_of b (word 8 (1 + m)) y e bit).1 e lt)
  completes (compound ss) b p c sound w bit all (inl h) =
      after_kept (Some_of (compound ss)) (Field (octets_needed (slot_count ss)) (defined_slots ss)) b [] b p p c refl (omega arith) (fill_field ss sound.1) (presence_complete (octets_needed (slot_count ss)) (defined_slots ss) b p c bit all h)
  completes (compound ss) b p c sound w bit all (inr (ms, x, y, e, h, clear, q, f, g)) =
      let xw : length x % 8 ≡ 0 = presence_whole (octets_needed (slot_count ss)) ms x h in
      let yw : length y % 8 ≡ 0 = omega (arith, ap length e, length-append x y) in
      after_kept (Some_of (compound ss)) (Entries_of 1 ss ms) b x y p q c e f (put_entries ss ms x h)
      (entries_complete 1 ss ms y q c sound.1 w clear (presence_bits (octets_needed (slot_count ss)) ms x h) (bits_of b x y e bit).1 yw g)

  pub entries_complete : (s : ℕ) (ss : SlotsTree) (ms b : List ℕ) (p : ℕ) (c : BodyCause) → SlotsSound ss → SlotsWhole ss → NoneUndefined (defined_slots ss) ms → AreBits ms → AreBits b → length b % 8 ≡ 0 → EntriesFail ss ms b p c → Completes (Entries_of s ss ms) b p c
  entries_complete s no_slots ms b p c sound w clear marks bit all h = absurd h
  entries_complete s (slot_and spare_slot ss) ms b p c sound w clear marks bit all h =
      after_kept (Entries_of s (slot_and spare_slot ss) ms) (Entries_of (s + 1) ss (later_marks ms)) b [] b p p c refl (omega arith)
      (λ w t. ([], (t.0, (spare_first (defined_slots ss) ms clear marks, subst (EntriesSpell (s + 1) ss (later_marks ms) t.0) (sym (append-nil w)) t.1))))
      (entries_complete (s + 1) ss (later_marks ms) b p c sound w (rest_defined false (defined_slots ss) ms clear) (rest_bits ms marks) bit all h)
  entries_complete s (slot_and (subitem name k) ss) ms b p c sound w clear marks bit all (inl (m, h)) =
      let others = some_entries (s + 1) ss (later_marks ms) sound.1 (rest_defined true (defined_slots ss) ms clear) (rest_bits ms marks) in
      after_kept (Entries_of s (slot_and (subitem name k) ss) ms) (Some_of k) b [] b p p c refl (omega arith)
      (λ w t. (others.0, (entry_and s t.0 others.1, inl (m, refl, w, others.0, refl, t.1, others.2)))) (completes k b p c sound.0 w.0 bit all h)
  entries_complete s (slot_and (subitem name k) ss) ms b p c sound w clear marks bit all (inr (inl (m, v, x, y, e, h, q, f, g))) =
      let xw : length x % 8 ≡ 0 = spells_whole k v x w.0 h in
      let yw : length y % 8 ≡ 0 = omega (arith, ap length e, length-append x y) in
      after_kept (Entries_of s (slot_and (subitem name k) ss) ms) (Entries_of (s + 1) ss (later_marks ms)) b x y p q c e f
      (λ w t. ([], (entry_and s v t.0, inl (m, refl, x, w, ap (λ w. x ++ w) (append-nil w), h, t.1))))
      (entries_complete (s + 1) ss (later_marks ms) y q c sound.1 w.1 (rest_defined true (defined_slots ss) ms clear) (rest_bits ms marks) (bits_of b x y e bit).1 yw g)
  entries_complete s (slot_and (subitem name k) ss) ms b p c sound w clear marks bit all (inr (inr (m, h))) =
      after_kept (Entries_of s (slot_and (subitem name k) ss) ms) (Entries_of (s + 1) ss (later_marks ms)) b [] b p p c refl (omega arith)
      (λ w t. ([], (t.0, skip s name k ss ms m t.0 (w ++ []) (subst (EntriesSpell (s + 1) ss (later_marks ms) t.0) (sym (append-nil w)) t.1))))
      (entries_complete (s + 1) ss (later_marks ms) b p c sound.1 w.1 (rest_defined true (defined_slots ss) ms clear) (rest_bits ms marks) bit all h)

pub completes_octets : (k : KindTree) (xs : List ℕ) (p : ℕ) (c : BodyCause) → Sound k → Whole k → Fails k (bits xs) p c → Completes (λ w. (v : ValueTree) × Spells k v w) (bits xs) p c
completes_octets k xs p c sound w h = completes k (bits xs) p c sound w (bits-AreBits xs) (omega (arith, length-bits xs)) h
