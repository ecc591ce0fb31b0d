-- What the reader finds: a value that a front of the bits spells, or a fault that they have.
use Rattle.std.proofs.Common.{length-drop, ◌≡◌, ℕ, zero, suc, ◌+◌, ◌*◌, ◌^◌, ◌<◌, inl, inr, List, [], ◌∷◌, ◌++◌, length, take, drop, Option, Some, None, Bool, true, false, refl, sym, ◌∙◌, ap, arith, length-append, append_assoc, append-nil, subst, IsTrue, take-append-drop}
use Rattle.std.specs.List.{AllByRecursion}
use Rattle.std.proofs.lemmas.List.{take_all, length-take-le, nil_from_length}
use Rattle.ax_bits.proofs.Words.{word-number, number_below, append-AreBits}
use Rattle.ax_bits.specs.Bits.{AreBits, word, number_of, bits}
use Rattle.ax_format.proofs.FixedKinds.{fixed_some, members_some, SplitIs, split_is}
use Rattle.ax_format.proofs.Least.{here}
use Rattle.ax_format.specs.Reader.{last_read, Read, got, failed, after, both, fixed_value, members_value, Split, fixed_read, short, cut, part_read, parts_read, split, one_read, run_read, each_read, read, count_read, octets_in, octets_read, contents_read, explicit_read, up, undefined, fx_read, octet_read, presence_read, mark_read, marked_read, entries_read}
use Rattle.ax_format.specs.Failing.{Fails, PartsFail, RunFails, PresenceFails, EntriesFail}
use Rattle.ax_format.specs.Presence.{later_slots, FirstUndefined, NoneUndefined, IsDefined, slots_past, Presence, none_marked, first_mark, later_marks, octets_needed}
use Rattle.ax_format.specs.Sound.{Sound, SlotsSound}
use Rattle.ax_format.specs.Spelling.{FixedSpells, MembersSpell, Spells, PartsSpell, RunSpells, EachSpells, EntriesSpell}
use Rattle.ax_format.specs.Tree.{FixedTree, MembersTree, fixed, ListsTree, list_and, no_lists, ValuesTree, value_and, no_values, ValueTree, value_count, KindTree, counted, occurrences, explicit, SlotsTree, EntriesTree, slot_and, subitem, no_entries, entry_and, defined_slots, slot_count, compound, marked, extended, part_values, by_fx, no_slots, spare_slot}
use Rattle.ax_format.specs.Widths.{width, members_width, counter_width, fx_width}
use Rattle.ax_format.specs.declared.fault.BodyCause.{BodyCause}
use Rattle.ax_format.specs.declared.kind.Counter.{Counter}
use Rattle.ax_format.specs.declared.kind.LastPart.{LastPart}
use Rattle.ax_format.specs.declared.kind.LastPart.TheVariants.{WithFx, WithoutFx}

abbrev pub Meets : {A : Type 0} → (A → List ℕ → Type 0) → (ℕ → BodyCause → Type 0) → List ℕ → Read A → Type 0
Meets S F b (got a n y) = (x : List ℕ) × (b ≡ x ++ y) × (length x ≡ n) × S a x
Meets S F b (failed p c) = F p c

pub meets_map : {A : Type 0} (S T : A → List ℕ → Type 0) (F G : ℕ → BodyCause → Type 0) (b : List ℕ)
    → ((a : A) (x : List ℕ) → S a x → T a x) → ((p : ℕ) (c : BodyCause) → F p c → G p c) → (r : Read A) → Meets S F b r → Meets T G b r
meets_map S T F G b good bad (got a n y) (x, e, l, h) = (x, e, l, good a x h)
meets_map S T F G b good bad (failed p c) h = bad p c h

-- a front x of n bits, and then what is read from y
pub after_meets : {A C : Type 0} (f : A → C) (n : ℕ) (T : A → List ℕ → Type 0) (G : ℕ → BodyCause → Type 0) (U : C → List ℕ → Type 0) (H : ℕ → BodyCause → Type 0) (b x y : List ℕ)
    → b ≡ x ++ y → length x ≡ n → ((a : A) (z : List ℕ) → T a z → U (f a) (x ++ z)) → ((q : ℕ) (c : BodyCause) → G q c → H (n + q) c)
    → (r : Read A) → Meets T G y r → Meets U H b (after n f r)
after_meets f n T G U H b x y e l good bad (got a m z) (x2, e2, l2, h) =
    (x ++ x2, e ∙ ap (λ y. x ++ y) e2 ∙ sym (append_assoc x x2 z), length-append x x2 ∙ omega arith, good a x2 h)
after_meets f n T G U H b x y e l good bad (failed q c) h = bad q c h

bits-parts : (x y : List ℕ) → AreBits (x ++ y) → AreBits x × AreBits y
bits-parts [] y h = (tt, h)
bits-parts (a ∷ x) y h = let t = bits-parts x y h.1 in ((h.0, t.0), t.1)

pub bits_of : (b x y : List ℕ) → b ≡ x ++ y → AreBits b → AreBits x × AreBits y
bits_of b x y e h = bits-parts x y (subst AreBits e h)

-- a value, and then another
pub both_meets : {A B C : Type 0} (f : A → B → C) (S : A → List ℕ → Type 0) (F : ℕ → BodyCause → Type 0) (T : B → List ℕ → Type 0) (G : List ℕ → ℕ → BodyCause → Type 0) (U : C → List ℕ → Type 0) (H : ℕ → BodyCause → Type 0)
    (b : List ℕ) → AreBits b → ((a : A) (d : B) (x z : List ℕ) → S a x → T d z → U (f a d) (x ++ z)) → ((p : ℕ) (c : BodyCause) → F p c → H p c)
    → ((a : A) (x y : List ℕ) (q : ℕ) (c : BodyCause) → b ≡ x ++ y → S a x → G y q c → H (length x + q) c)
    → (go : List ℕ → Read B) → ((y : List ℕ) → AreBits y → Meets T (G y) y (go y)) → (r : Read A) → Meets S F b r → Meets U H b (both f r go)
both_meets f S F T G U H b bit good bad later_slots go ih (failed p c) h = bad p c h
both_meets f S F T G U H b bit good bad later_slots go ih (got a n y) (x, e, l, h) =
    after_meets (f a) n T (G y) U H b x y e l (λ d z t. good a d x z h t) (λ q c g. subst (λ k. H (k + q) c) l (later_slots a x y q c e h g)) (go y) (ih y (bits_of b x y e bit).1)

-- ---- fixed kinds

pub fixed_all : (f : FixedTree) (x : List ℕ) → AreBits x → length x ≡ width f → FixedSpells f (fixed_value f x) x
fixed_all f x bit l = subst (λ y. FixedSpells f (fixed_value f x) y) (take_all (width f) x (omega arith)) (fixed_some f x bit (omega arith))

pub members_all : (ms : MembersTree) (x : List ℕ) → AreBits x → length x ≡ members_width ms → MembersSpell ms (members_value ms x) x
members_all ms x bit l = subst (λ y. MembersSpell ms (members_value ms x) y) (take_all (members_width ms) x (omega arith)) (members_some ms x bit (omega arith))

fixed_meets : (f : FixedTree) (b : List ℕ) → AreBits b → (s : Split) → SplitIs (width f) b s → Meets (Spells (fixed f)) (Fails (fixed f) b) b (fixed_read f s)
fixed_meets f b bit short h = (h, refl, refl)
fixed_meets f b bit (cut x y) (e, l) = (x, e, l, fixed_all f x (bits_of b x y e bit).0 l)

-- ---- parts and occurrences

-- a unit and its FX bit
pub unit : (b x y : List ℕ) (fx : ℕ) → b ≡ x ++ fx ∷ y → b ≡ (x ++ fx ∷ []) ++ y
unit b x y fx e = e ∙ sym (append_assoc x (fx ∷ []) y)

pub unit_length : (x : List ℕ) (fx w : ℕ) → length x ≡ w → length (x ++ fx ∷ []) ≡ w + 1
unit_length x fx w l = length-append x (fx ∷ []) ∙ omega arith

part_good : (last : LastPart) (p q : MembersTree) (ps : List MembersTree) (x : List ℕ) → MembersSpell p (members_value p x) x → (ls : ListsTree) (z : List ℕ) → PartsSpell last (q ∷ ps) ls z
    → PartsSpell last (p ∷ q ∷ ps) (list_and (members_value p x) ls) ((x ++ 1 ∷ []) ++ z)
part_good last p q ps x h no_lists z t = absurd t
part_good last p q ps x h (list_and ws ls) z t = (x, z, append_assoc x (1 ∷ []) z, h, t)

with_fx : (last : LastPart) → fx_width last 0 ≡ 1 → last ≡ WithFx
with_fx WithFx e = refl
with_fx WithoutFx e = absurd (omega arith)

-- a part with FX
part_meets : (last : LastPart) (p : MembersTree) (ps : List MembersTree) → fx_width last (length ps) ≡ 1 → (b : List ℕ) → AreBits b → (go : List ℕ → Read ListsTree)
    → ((y : List ℕ) → AreBits y → 0 < length ps → Meets (PartsSpell last ps) (PartsFail last ps y) y (go y))
    → (s : Split) → SplitIs (members_width p) b s → Meets (PartsSpell last (p ∷ ps)) (PartsFail last (p ∷ ps) b) b (part_read p ps s go)
part_meets last p ps has b bit go ih short h = inl (omega arith, refl, refl)
part_meets last p ps has b bit go ih (cut x []) (e, l) = inl (omega (arith, ap length e, length-append x []), refl, refl)
part_meets last p ps has b bit go ih (cut x (zero ∷ y)) (e, l) =
    (x ++ 0 ∷ [], unit b x y 0 e, unit_length x 0 (members_width p) l, (x, ap (λ n. x ++ word n 0) (sym has), members_all p x (bits_of b x (0 ∷ y) e bit).0 l))
part_meets last p [] has b bit go ih (cut x (suc zero ∷ y)) (e, l) = inr (x, y, l, e, inl (refl, with_fx last has, refl, refl))
part_meets last p [] has b bit go ih (cut x (suc (suc fx) ∷ y)) (e, l) = absurd (omega (arith, (bits_of b x (suc (suc fx) ∷ y) e bit).1.0))
part_meets last p (q ∷ ps) has b bit go ih (cut x (suc (suc fx) ∷ y)) (e, l) = absurd (omega (arith, (bits_of b x (suc (suc fx) ∷ y) e bit).1.0))
part_meets last p (q ∷ ps) has b bit go ih (cut x (suc zero ∷ y)) (e, l) =
    let t = bits_of b x (1 ∷ y) e bit in
    after_meets (λ ls. list_and (members_value p x) ls) (members_width p + 1) (PartsSpell last (q ∷ ps)) (PartsFail last (q ∷ ps) y) (PartsSpell last (p ∷ q ∷ ps)) (PartsFail last (p ∷ q ∷ ps) b) b (x ++ 1 ∷ []) y
    (unit b x y 1 e) (unit_length x 1 (members_width p) l) (part_good last p q ps x (members_all p x t.0 l)) (λ k c h. inr (x, y, l, e, inr (k, refl, h))) (go y) (ih y t.1.1 (omega arith))

-- a last part without FX
last_meets : (p : MembersTree) (b : List ℕ) → AreBits b → (s : Split) → SplitIs (members_width p) b s → Meets (PartsSpell WithoutFx (p ∷ [])) (PartsFail WithoutFx (p ∷ []) b) b (last_read p s)
last_meets p b bit short h = inl (omega arith, refl, refl)
last_meets p b bit (cut x y) (e, l) = (x, e, l, (x, sym (append-nil x), members_all p x (bits_of b x y e bit).0 l))

pub parts_meets : (last : LastPart) (ps : List MembersTree) (b : List ℕ) → AreBits b → 0 < length ps → Meets (PartsSpell last ps) (PartsFail last ps b) b (parts_read last ps b)
parts_meets last [] b bit some = absurd (omega arith)
parts_meets last (p ∷ q ∷ ps) b bit some =
    part_meets last p (q ∷ ps) refl b bit (parts_read last (q ∷ ps)) (parts_meets last (q ∷ ps)) (split (members_width p) b) (split_is b (members_width p))
parts_meets WithFx (p ∷ []) b bit some = part_meets WithFx p [] refl b bit (parts_read WithFx []) (parts_meets WithFx []) (split (members_width p) b) (split_is b (members_width p))
parts_meets WithoutFx (p ∷ []) b bit some = last_meets p b bit (split (members_width p) b) (split_is b (members_width p))

abbrev pub FailsRun : FixedTree → List ℕ → ℕ → BodyCause → Type 0
FailsRun f b p c = (n : ℕ) × RunFails n f b p c

one_good : (f : FixedTree) (x : List ℕ) → FixedSpells f (fixed_value f x) x → (vs : ValuesTree) (z : List ℕ) → RunSpells f vs z → RunSpells f (value_and (fixed_value f x) vs) ((x ++ 1 ∷ []) ++ z)
one_good f x h no_values z t = absurd t
one_good f x h (value_and w vs) z t = (x, z, append_assoc x (1 ∷ []) z, h, t)

one_meets : (f : FixedTree) (b : List ℕ) → AreBits b → (go : List ℕ → Read ValuesTree) → ((y : List ℕ) → AreBits y → length y < length b → Meets (RunSpells f) (FailsRun f y) y (go y))
    → (s : Split) → SplitIs (width f) b s → Meets (RunSpells f) (FailsRun f b) b (one_read f s go)
one_meets f b bit go ih short h = (0, (omega arith, refl, refl))
one_meets f b bit go ih (cut x []) (e, l) = (0, (omega (arith, ap length e, length-append x []), refl, refl))
one_meets f b bit go ih (cut x (zero ∷ y)) (e, l) =
    (x ++ 0 ∷ [], unit b x y 0 e, unit_length x 0 (width f) l, (x, refl, fixed_all f x (bits_of b x (0 ∷ y) e bit).0 l))
one_meets f b bit go ih (cut x (suc (suc fx) ∷ y)) (e, l) = absurd (omega (arith, (bits_of b x (suc (suc fx) ∷ y) e bit).1.0))
one_meets f b bit go ih (cut x (suc zero ∷ y)) (e, l) =
    let t = bits_of b x (1 ∷ y) e bit in
    after_meets (λ vs. value_and (fixed_value f x) vs) (width f + 1) (RunSpells f) (FailsRun f y) (RunSpells f) (FailsRun f b) b (x ++ 1 ∷ []) y
    (unit b x y 1 e) (unit_length x 1 (width f) l) (one_good f x (fixed_all f x t.0 l)) (λ k c h. (suc h.0, (x, y, l, e, k, refl, h.1))) (go y) (ih y t.1.1 (omega (arith, ap length e, length-append x (1 ∷ y))))

pub run_meets : (n : ℕ) (f : FixedTree) (b : List ℕ) → AreBits b → length b < n → Meets (RunSpells f) (FailsRun f b) b (run_read n f b)
run_meets zero f b bit lt = absurd (omega arith)
run_meets (suc n) f b bit lt = one_meets f b bit (run_read n f) (λ y t less. run_meets n f y t (omega arith)) (split (width f) b) (split_is b (width f))

-- ---- counted

module _ (R : ValueTree → List ℕ → Type 0) (F : List ℕ → ℕ → BodyCause → Type 0) where
  abbrev pub EachIs : ℕ → ValuesTree → List ℕ → Type 0
  EachIs n vs x = (value_count vs ≡ n) × EachSpells R vs x

  abbrev pub EachFails : ℕ → List ℕ → ℕ → BodyCause → Type 0
  EachFails n b p c = (vs : ValuesTree) × (value_count vs < n) × (x : List ℕ) × (y : List ℕ) × (b ≡ x ++ y) × EachSpells R vs x × (q : ℕ) × (p ≡ length x + q) × F y q c

  each_later : (n : ℕ) (b : List ℕ) (v : ValueTree) (x y : List ℕ) (q : ℕ) (c : BodyCause) → b ≡ x ++ y → R v x → EachFails n y q c → EachFails (suc n) b (length x + q) c
  each_later n b v x y q c e h (vs, lt, x2, y2, e2, t, q2, f, g) =
      (value_and v vs, omega arith, x ++ x2, y2, e ∙ ap (λ y. x ++ y) e2 ∙ sym (append_assoc x x2 y2), (x, x2, refl, h, t), q2, omega (arith, length-append x x2), g)

  pub each_meets : (rule : List ℕ → Read ValueTree) → ((b : List ℕ) → AreBits b → Meets R (F b) b (rule b))
      → (n : ℕ) (b : List ℕ) → AreBits b → Meets (EachIs n) (EachFails n b) b (each_read rule n b)
  each_meets rule one zero b bit = ([], refl, refl, (refl, refl))
  each_meets rule one (suc n) b bit =
      both_meets (λ v vs. value_and v vs) R (F b) (EachIs n) (EachFails n) (EachIs (suc n)) (EachFails (suc n) b) b bit
      (λ v vs x z h t. (omega arith, (x, z, refl, h, t.1))) (λ p c h. (no_values, omega arith, [], b, refl, refl, p, omega arith, h)) (each_later n b)
      (each_read rule n) (each_meets rule one n) (rule b) (one b bit)

-- w bits are a word
pub number_is_word : (w : ℕ) (x : List ℕ) → AreBits x → length x ≡ w → x ≡ word w (number_of x)
number_is_word w x bit l = sym (subst (λ k. word k (number_of x) ≡ x) l (word-number x bit))

pub number_fits : (w : ℕ) (x : List ℕ) → AreBits x → length x ≡ w → number_of x < 2 ^ w
number_fits w x bit l = subst (λ k. number_of x < 2 ^ k) l (number_below x bit)

-- eight bits are a word
pub octet_word : (x : List ℕ) → AreBits x → length x ≡ 8 → x ≡ word 8 (number_of x)
octet_word x bit l = sym (subst (λ k. word k (number_of x) ≡ x) l (word-number x bit))

octet_below : (x : List ℕ) → AreBits x → length x ≡ 8 → number_of x < 256
octet_below x bit l = subst (λ k. number_of x < 2 ^ k) l (number_below x bit)

counted_meets : (size : Counter) (k : KindTree) → ((b : List ℕ) → AreBits b → Meets (Spells k) (Fails k b) b (read k b)) → (b : List ℕ) → AreBits b → (s : Split) → SplitIs (counter_width size) b s
    → Meets (Spells (counted size k)) (Fails (counted size k) b) b (count_read (counter_width size) (read k) s)
counted_meets size k one b bit short h = inl (h, refl, refl)
counted_meets size k one b bit (cut x y) (e, l) =
    let t = bits_of b x y e bit in
    let n = counter_width size in
    let w = number_is_word n x t.0 l in
    let lt = number_fits n x t.0 l in
    after_meets (λ vs. occurrences vs) n (EachIs (Spells k) (Fails k) (number_of x)) (EachFails (Spells k) (Fails k) (number_of x) y) (Spells (counted size k)) (Fails (counted size k) b) b x y e l
    (λ vs z h. (subst (λ m. m < 2 ^ n) (sym h.0) lt, z, ap (λ x. x ++ z) (w ∙ ap (word n) (sym h.0)), h.1))
    (λ q c h. inr (number_of x, lt, h.0, h.1, h.2, h.3, e ∙ ap (λ x. x ++ y) w ∙ ap (λ y. word n (number_of x) ++ y) h.4, h.5, h.6, ap (λ q. n + q) h.7, h.8))
    (each_read (read k) (number_of x) y) (each_meets (Spells k) (Fails k) (read k) one (number_of x) y t.1)

-- ---- explicit

pub octets_some : (m : ℕ) (x : List ℕ) → AreBits x → length x ≡ 8 * m → (length (octets_in m x) ≡ m) × AllByRecursion (λ x. x < 256) (octets_in m x) × (bits (octets_in m x) ≡ x)
octets_some zero x bit l = (refl, tt, sym (nil_from_length x (omega arith)))
octets_some (suc m) x bit l =
    let e = take-append-drop 8 x in
    let t = bits_of x (take 8 x) (drop 8 x) (sym e) bit in
    let l8 : length (take 8 x) ≡ 8 = length-take-le 8 x (omega arith) in
    let ih = octets_some m (drop 8 x) t.1 (omega (arith, length-drop 8 x)) in
    let w : word 8 (number_of (take 8 x)) ≡ take 8 x = sym (octet_word (take 8 x) t.0 l8) in
    let same : bits (octets_in m (drop 8 x)) ≡ drop 8 x = ih.2 in
    (ap suc ih.0, (octet_below (take 8 x) t.0 l8, ih.1), (λ i. w i ++ same i) ∙ e)

octets_meets : (m : ℕ) (b x y : List ℕ) → m < 255 → AreBits y → b ≡ x ++ y → length x ≡ 8 → x ≡ word 8 (1 + m) → (s : Split) → SplitIs (8 * m) y s → Meets (Spells explicit) (Fails explicit b) b (octets_read m s)
octets_meets m b x y lt bit e l w short h = inr (inr (m, lt, y, e ∙ ap (λ x. x ++ y) w, h, refl, refl))
octets_meets m b x y lt bit e l w (cut z r) (f, g) =
    let t = octets_some m z (bits_of y z r f bit).0 g in
    let back : x ++ z ≡ word 8 (1 + length (octets_in m z)) ++ bits (octets_in m z) = λ i. (w ∙ ap (λ m. word 8 (1 + m)) (sym t.0)) i ++ sym t.2 i in
    (x ++ z, e ∙ ap (λ y. x ++ y) f ∙ sym (append_assoc x z r), length-append x z ∙ omega arith, (omega (arith, t.0), t.1, back))

contents_meets : (b x y : List ℕ) → AreBits x → AreBits y → b ≡ x ++ y → length x ≡ 8 → (n : ℕ) → number_of x ≡ n → Meets (Spells explicit) (Fails explicit b) b (contents_read n y)
contents_meets b x y p q e l zero h = inr (inl (y, e ∙ ap (λ x. x ++ y) (octet_word x p l ∙ ap (word 8) h), refl, refl))
contents_meets b x y p q e l (suc m) h =
    let lt : number_of x < 256 = octet_below x p l in
    octets_meets m b x y (omega arith) q e l (octet_word x p l ∙ ap (word 8) (let e : number_of x ≡ 1 + m = omega arith in e)) (split (8 * m) y) (split_is y (8 * m))

explicit_meets : (b : List ℕ) → AreBits b → (s : Split) → SplitIs 8 b s → Meets (Spells explicit) (Fails explicit b) b (explicit_read s)
explicit_meets b bit short h = inl (h, refl, refl)
explicit_meets b bit (cut x y) (e, l) = let t = bits_of b x y e bit in contents_meets b x y t.0 t.1 e l (number_of x) refl

-- ---- presence fields

abbrev pub UndefinedIs : List Bool → List ℕ → Option ℕ → Type 0
UndefinedIs ds ms (Some j) = FirstUndefined ds ms j
UndefinedIs ds ms None = NoneUndefined ds ms

up_is : (ds : List Bool) (m : ℕ) (ms : List ℕ) → (m ≡ 1 → IsDefined ds) → (o : Option ℕ) → UndefinedIs (later_slots ds) ms o → UndefinedIs ds (m ∷ ms) (up o)
up_is ds m ms here (Some j) h = (here, h)
up_is ds m ms here None h = (here, h)

pub undefined_is : (ds : List Bool) (ms : List ℕ) → UndefinedIs ds ms (undefined ds ms)
undefined_is ds [] = tt
undefined_is ds (zero ∷ ms) = up_is ds 0 ms (λ e. absurd (omega arith)) (undefined (later_slots ds) ms) (undefined_is (later_slots ds) ms)
undefined_is [] (suc zero ∷ ms) = (refl, (λ h. h))
undefined_is (false ∷ ds) (suc zero ∷ ms) = (refl, (λ h. h))
undefined_is (true ∷ ds) (suc zero ∷ ms) = up_is (true ∷ ds) 1 ms (λ e. tt) (undefined ds ms) (undefined_is ds ms)
undefined_is ds (suc (suc m) ∷ ms) = up_is ds (suc (suc m)) ms (λ e. absurd (omega arith)) (undefined (later_slots ds) ms) (undefined_is (later_slots ds) ms)

pub NoneUndefined-append : (ds : List Bool) (a b : List ℕ) → NoneUndefined ds a → NoneUndefined (slots_past a ds) b → NoneUndefined ds (a ++ b)
NoneUndefined-append ds [] b h t = t
NoneUndefined-append ds (m ∷ a) b h t = (h.0, NoneUndefined-append (later_slots ds) a b h.1 t)

abbrev pub MarksAre : ℕ → List Bool → List ℕ → List ℕ → Type 0
MarksAre k ds ms x = Presence k ms x × NoneUndefined ds ms

fx_meets : (k : ℕ) (ds : List Bool) (b x : List ℕ) (fx : ℕ) (y : List ℕ) → fx < 2 → AreBits x → b ≡ x ++ fx ∷ y → length x ≡ 7 → (go : List ℕ → Read (List ℕ)) → (0 < k → Meets (MarksAre k (slots_past x ds)) (PresenceFails k (slots_past x ds) y) y (go y))
    → (o : Option ℕ) → UndefinedIs ds x o → Meets (MarksAre (suc k) ds) (PresenceFails (suc k) ds b) b (fx_read k o x fx y go)
fx_meets k ds b x fx y lt bit e l go ih (Some j) h = inr (x, fx, y, l, e, inl (h, refl))
fx_meets k ds b x zero y lt bit e l go ih None h = (x ++ 0 ∷ [], unit b x y 0 e, unit_length x 0 7 l, ((x, l, bit, inl (refl, refl)), h))
fx_meets k ds b x (suc (suc fx)) y lt bit e l go ih None h = absurd (omega arith)
fx_meets zero ds b x (suc zero) y lt bit e l go ih None h = inr (x, 1, y, l, e, inr (h, refl, inl (refl, refl, refl)))
fx_meets (suc k) ds b x (suc zero) y lt bit e l go ih None h =
    after_meets (λ ms. x ++ ms) 8 (MarksAre (suc k) (slots_past x ds)) (PresenceFails (suc k) (slots_past x ds) y) (MarksAre (suc (suc k)) ds) (PresenceFails (suc (suc k)) ds b) b (x ++ 1 ∷ []) y
    (unit b x y 1 e) (unit_length x 1 7 l) (λ ms z t. ((x, l, bit, inr (ms, z, refl, append_assoc x (1 ∷ []) z, t.0)), NoneUndefined-append ds x ms h t.1))
    (λ q c t. inr (x, 1, y, l, e, inr (h, refl, inr (q, refl, t)))) (go y) (ih (omega arith))

octet_meets : (k : ℕ) (ds : List Bool) (b : List ℕ) → AreBits b → (go : List Bool → List ℕ → Read (List ℕ)) → ((ds : List Bool) (y : List ℕ) → AreBits y → 0 < k → Meets (MarksAre k ds) (PresenceFails k ds y) y (go ds y))
    → (s : Split) → SplitIs 7 b s → Meets (MarksAre (suc k) ds) (PresenceFails (suc k) ds b) b (octet_read k ds s go)
octet_meets k ds b bit go ih short h = inl (omega arith, refl, refl)
octet_meets k ds b bit go ih (cut x []) (e, l) = inl (omega (arith, ap length e, length-append x []), refl, refl)
octet_meets k ds b bit go ih (cut x (fx ∷ y)) (e, l) =
    let t = bits_of b x (fx ∷ y) e bit in fx_meets k ds b x fx y t.1.0 t.0 e l (go (slots_past x ds)) (ih (slots_past x ds) y t.1.1) (undefined ds x) (undefined_is ds x)

pub presence_meets : (k : ℕ) (ds : List Bool) (b : List ℕ) → AreBits b → 0 < k → Meets (MarksAre k ds) (PresenceFails k ds b) b (presence_read k ds b)
presence_meets zero ds b bit some = absurd (omega arith)
presence_meets (suc k) ds b bit some = octet_meets k ds b bit (presence_read k) (presence_meets k) (split 7 b) (split_is b 7)

pub presence_bits : (k : ℕ) (ms x : List ℕ) → Presence k ms x → AreBits ms
presence_bits zero ms x h = absurd h
presence_bits (suc k) ms x (seven, l, bit, inl (e, f)) = subst AreBits (sym e) bit
presence_bits (suc k) ms x (seven, l, bit, inr (more, y, e, f, t)) = subst AreBits (sym e) (append-AreBits seven more bit (presence_bits k more y t))

-- ---- kinds

pub none_marked_left : (ms : List ℕ) → NoneUndefined [] ms → AreBits ms → IsTrue (none_marked ms)
none_marked_left [] h bit = refl
none_marked_left (zero ∷ ms) h bit = none_marked_left ms h.1 bit.1
none_marked_left (suc zero ∷ ms) h bit = absurd (h.0 refl)
none_marked_left (suc (suc m) ∷ ms) h bit = absurd (omega (arith, bit.0))

pub spare_first : (ds : List Bool) (ms : List ℕ) → NoneUndefined (false ∷ ds) ms → AreBits ms → first_mark ms ≡ 0
spare_first ds [] h bit = refl
spare_first ds (zero ∷ ms) h bit = refl
spare_first ds (suc zero ∷ ms) h bit = absurd (h.0 refl)
spare_first ds (suc (suc m) ∷ ms) h bit = absurd (omega (arith, bit.0))

pub rest_defined : (d : Bool) (ds : List Bool) (ms : List ℕ) → NoneUndefined (d ∷ ds) ms → NoneUndefined ds (later_marks ms)
rest_defined d ds [] h = tt
rest_defined d ds (m ∷ ms) h = h.1

pub rest_bits : (ms : List ℕ) → AreBits ms → AreBits (later_marks ms)
rest_bits [] h = tt
rest_bits (m ∷ ms) h = h.1

pub first_bit : (ms : List ℕ) → AreBits ms → first_mark ms < 2
first_bit [] h = omega arith
first_bit (m ∷ ms) h = h.0

pub skip : (s : ℕ) (name : List ℕ) (k : KindTree) (ss : SlotsTree) (ms : List ℕ) → first_mark ms ≡ 0 → (es : EntriesTree) (x : List ℕ) → EntriesSpell (s + 1) ss (later_marks ms) es x → EntriesSpell s (slot_and (subitem name k) ss) ms es x
skip s name k ss ms m no_entries x h = (m, h)
skip s name k ss ms m (entry_and t v es) x h = inr (m, h)

module _ (s : ℕ) (name : List ℕ) (k : KindTree) (ss : SlotsTree) (ms : List ℕ) where
  mark_meets : (b : List ℕ) → AreBits b → Meets (Spells k) (Fails k b) b (read k b) → (go : List ℕ → Read EntriesTree) → ((y : List ℕ) → AreBits y → Meets (EntriesSpell (s + 1) ss (later_marks ms)) (EntriesFail ss (later_marks ms) y) y (go y))
      → (m : ℕ) → first_mark ms ≡ m → m < 2 → Meets (EntriesSpell s (slot_and (subitem name k) ss) ms) (EntriesFail (slot_and (subitem name k) ss) ms b) b (mark_read m s (read k) go b)
  mark_meets b bit one go ih zero e lt =
      meets_map (EntriesSpell (s + 1) ss (later_marks ms)) (EntriesSpell s (slot_and (subitem name k) ss) ms) (EntriesFail ss (later_marks ms) b) (EntriesFail (slot_and (subitem name k) ss) ms b) b
      (skip s name k ss ms e) (λ p c h. inr (inr (e, h))) (go b) (ih b bit)
  mark_meets b bit one go ih (suc zero) e lt =
      both_meets (λ v es. entry_and s v es) (Spells k) (Fails k b) (EntriesSpell (s + 1) ss (later_marks ms)) (EntriesFail ss (later_marks ms)) (EntriesSpell s (slot_and (subitem name k) ss) ms) (EntriesFail (slot_and (subitem name k) ss) ms b) b bit
      (λ v es x z h t. inl (e, refl, x, z, refl, h, t)) (λ p c h. inl (e, h)) (λ v x y q c f h g. inr (inl (e, v, x, y, f, h, q, refl, g))) go ih (read k b) one
  mark_meets b bit one go ih (suc (suc m)) e lt = absurd (omega arith)

marked_meets : (ss : SlotsTree) (b : List ℕ) → AreBits b → (go : List ℕ → List ℕ → Read EntriesTree)
    → ((ms y : List ℕ) → NoneUndefined (defined_slots ss) ms → AreBits ms → AreBits y → Meets (EntriesSpell 1 ss ms) (EntriesFail ss ms y) y (go ms y))
    → (r : Read (List ℕ)) → Meets (MarksAre (octets_needed (slot_count ss)) (defined_slots ss)) (PresenceFails (octets_needed (slot_count ss)) (defined_slots ss) b) b r → Meets (Spells (compound ss)) (Fails (compound ss) b) b (marked_read r go)
marked_meets ss b bit go ih (failed p c) h = inl h
marked_meets ss b bit go ih (got ms n y) (x, e, l, (h, clear)) =
    after_meets (λ es. marked es) n (EntriesSpell 1 ss ms) (EntriesFail ss ms y) (Spells (compound ss)) (Fails (compound ss) b) b x y e l
    (λ es z t. (x, z, ms, refl, h, t)) (λ q c t. inr (ms, x, y, e, h, clear, q, ap (λ n. n + q) (sym l), t))
    (go ms y) (ih ms y clear (presence_bits (octets_needed (slot_count ss)) ms x h) (bits_of b x y e bit).1)

mutual
  pub read_meets : (k : KindTree) (b : List ℕ) → Sound k → AreBits b → Meets (Spells k) (Fails k b) b (read k b)
  read_meets (fixed f) b sound bit = fixed_meets f b bit (split (width f) b) (split_is b (width f))
  read_meets (extended last ps) b sound bit =
      after_meets (λ ls. part_values ls) 0 (PartsSpell last ps) (PartsFail last ps b) (Spells (extended last ps)) (Fails (extended last ps) b) b [] b refl refl (λ ls z h. h) (λ q c h. subst (λ n. PartsFail last ps b n c) (let e : q ≡ 0 + q = omega arith in e) h)
      (parts_read last ps b) (parts_meets last ps b bit sound)
  read_meets (counted size k) b sound bit = counted_meets size k (λ b t. read_meets k b sound t) b bit (split (counter_width size) b) (split_is b (counter_width size))
  read_meets (by_fx f) b sound bit =
      after_meets (λ vs. occurrences vs) 0 (RunSpells f) (FailsRun f b) (Spells (by_fx f)) (Fails (by_fx f) b) b [] b refl refl (λ vs z h. h) (λ q c h. subst (λ n. FailsRun f b n c) (let e : q ≡ 0 + q = omega arith in e) h)
      (run_read (suc (length b)) f b) (run_meets (suc (length b)) f b bit (omega arith))
  read_meets explicit b sound bit = explicit_meets b bit (split 8 b) (split_is b 8)
  read_meets (compound ss) b sound bit =
      marked_meets ss b bit (entries_read 1 ss) (λ ms y clear marks t. entries_meets 1 ss ms y sound.1 clear marks t) (presence_read (octets_needed (slot_count ss)) (defined_slots ss) b)
      (presence_meets (octets_needed (slot_count ss)) (defined_slots ss) b bit (let some : 0 < slot_count ss = sound.0 in omega arith))

  pub entries_meets : (s : ℕ) (ss : SlotsTree) (ms b : List ℕ) → SlotsSound ss → NoneUndefined (defined_slots ss) ms → AreBits ms → AreBits b → Meets (EntriesSpell s ss ms) (EntriesFail ss ms b) b (entries_read s ss ms b)
  entries_meets s no_slots ms b sound clear marks bit = ([], refl, refl, (none_marked_left ms clear marks, refl))
  entries_meets s (slot_and spare_slot ss) ms b sound clear marks bit =
      meets_map (EntriesSpell (s + 1) ss (later_marks ms)) (EntriesSpell s (slot_and spare_slot ss) ms) (EntriesFail ss (later_marks ms) b) (EntriesFail (slot_and spare_slot ss) ms b) b
      (λ es x h. (spare_first (defined_slots ss) ms clear marks, h)) (λ p c h. h) (entries_read (s + 1) ss (later_marks ms) b) (entries_meets (s + 1) ss (later_marks ms) b sound (rest_defined false (defined_slots ss) ms clear) (rest_bits ms marks) bit)
  entries_meets s (slot_and (subitem name k) ss) ms b sound clear marks bit =
      mark_meets s name k ss ms b bit (read_meets k b sound.0 bit) (entries_read (s + 1) ss (later_marks ms))
      (λ y t. entries_meets (s + 1) ss (later_marks ms) y sound.1 (rest_defined true (defined_slots ss) ms clear) (rest_bits ms marks) t) (first_mark ms) refl (first_bit ms marks)
