-- A field of octets, read bit by bit.
use Rattle.std.specs.Prelude.{replicate}
use Rattle.std.proofs.Common.{◌≡◌, ◌↔◌, ℕ, zero, suc, ◌+◌, ◌-◌, ◌*◌, ◌<◌, ◌≤◌, inl, inr, IsTrue, Bool, true, false, List, [], ◌∷◌, ◌++◌, length, take, drop, set, map, refl, sym, ◌∙◌, ap, arith, subst, length-append, take-append-drop}
use Rattle.std.proofs.lemmas.List.{length-map, length-set, length-replicate, length-take-le, take_all}
use Rattle.std.proofs.Math.Seq.{take-add}
use Rattle.ax_bits.proofs.Pieces.{drop-bits}
use Rattle.ax_bits.proofs.Words.{length-bits, bits-AreBits}
use Rattle.ax_bits.specs.Bits.{bits, AreBits}
use Rattle.ax_fspec.proofs.Windows.{slots_past_is}
use Rattle.ax_fspec.specs.Marks.{no_marks}
use Rattle.ax_format.proofs.Bounds.{count_of_slots}
use Rattle.ax_format.proofs.Meets.{NoneUndefined-append, bits_of}
use Rattle.ax_format.proofs.Unmarked.{none_first, none_later}
use Rattle.ax_format.specs.Plain.{slot_tree, slots_tree}
use Rattle.ax_format.specs.Presence.{none_marked, first_mark, later_marks, NoneUndefined, FirstUndefined, IsDefined, slots_past}
use Rattle.ax_format.specs.Reader.{Read, got, failed, after, both, read, entries_read, mark_read, marked_read}
use Rattle.ax_format.specs.Tree.{SlotTree, SlotsTree, no_slots, slot_and, spare_slot, subitem, slot_count, defined_slots, ValueTree, EntriesTree, marked, entry_and}
use Rattle.ax_format.specs.declared.fault.BodyCause.TheVariants.{RunsOut, UndefinedSlot}
use Rattle.ax_format.specs.declared.fault.BodyFault.{BodyFault}
use Rattle.ax_format.specs.declared.kind.Slot.{Slot}
use Rattle.ax_fspec.specs.Reading.{entries_at, is_subitem, fx_bit}
use Rattle.ax_expand.proofs.Contents.{content_stopped}
use Rattle.ax_expand.proofs.Fields.{field_spelled}
use Rattle.ax_expand.specs.Reading.{field_read, content_read, MarksContent, FailsToMark, FailsFrom, MarkedSoFar, AreSame}
use Rattle.ax_expand.specs.declared.form.Form.TheVariants.{Fixed}

-- ---- marks that go on with zeros

alike_first : (a b : List ℕ) → AreSame a b → first_mark a ≡ first_mark b
alike_first [] b h = sym (none_first b h)
alike_first (x ∷ a) b h = h.0

alike_rest : (a b : List ℕ) → AreSame a b → AreSame (later_marks a) (later_marks b)
alike_rest [] b h = none_later b h
alike_rest (x ∷ a) b h = h.1

alike_zero : (a b : List ℕ) → AreSame a b → AreSame (a ++ 0 ∷ []) b
alike_zero [] b h = (sym (none_first b h), none_later b h)
alike_zero (x ∷ a) b h = (h.0, alike_zero a (later_marks b) h.1)

none_set : (m : ℕ) (ms : List ℕ) → IsTrue (none_marked (m ∷ ms)) → IsTrue (none_marked ms)
none_set zero ms h = h
none_set (suc m) ms h = cc

alike_one : (a b : List ℕ) → AreSame a b → length a < length b → AreSame (a ++ 1 ∷ []) (set b (length a) 1)
alike_one [] [] h lt = absurd (omega arith)
alike_one [] (m ∷ ms) h lt = (refl, none_set m ms h)
alike_one (x ∷ a) [] h lt = absurd (omega arith)
alike_one (x ∷ a) (m ∷ ms) h lt = (h.0, alike_one a ms h.1 (omega arith))

none_bits : (ms : List ℕ) → IsTrue (none_marked ms) → AreBits ms
none_bits [] h = tt
none_bits (zero ∷ ms) h = (omega arith, none_bits ms h)
none_bits (suc m ∷ ms) h = cc

alike_bits : (a b : List ℕ) → AreBits a → AreSame a b → AreBits b
alike_bits [] b bit h = none_bits b h
alike_bits (x ∷ a) [] bit h = tt
alike_bits (x ∷ a) (m ∷ ms) bit h = (omega (arith, h.0, bit.0), alike_bits a ms bit.1 h.1)

mark_same : (m s : ℕ) (one : List ℕ → Read ValueTree) (f g : List ℕ → Read EntriesTree) → ((y : List ℕ) → f y ≡ g y) → (y : List ℕ) → mark_read m s one f y ≡ mark_read m s one g y
mark_same zero s one f g h y = h y
mark_same (suc m) s one f g h y = both_same (one y)
  where
    both_same : (r : Read ValueTree) → both (λ v es. entry_and s v es) r f ≡ both (λ v es. entry_and s v es) r g
    both_same (got v n z) = ap (after n (λ es. entry_and s v es)) (h z)
    both_same (failed p c) = refl

-- such marks are read as the same
pub alike_read : (s : ℕ) (ss : SlotsTree) (a b y : List ℕ) → AreSame a b → entries_read s ss a y ≡ entries_read s ss b y
alike_read s no_slots a b y h = refl
alike_read s (slot_and spare_slot ss) a b y h = alike_read (s + 1) ss (later_marks a) (later_marks b) y (alike_rest a b h)
alike_read s (slot_and (subitem name k) ss) a b y h =
    ap (λ m. mark_read m s (read k) (entries_read (s + 1) ss (later_marks a)) y) (alike_first a b h)
    ∙ mark_same (first_mark b) s (read k) (entries_read (s + 1) ss (later_marks a)) (entries_read (s + 1) ss (later_marks b)) (λ z. alike_read (s + 1) ss (later_marks a) (later_marks b) z (alike_rest a b h)) y

-- ---- the first bits

zeros_none : (n : ℕ) → IsTrue (none_marked (replicate n 0))
zeros_none zero = refl
zeros_none (suc n) = zeros_none n

pub marked_none : (ss : SlotsTree) (b : List ℕ) → MarkedSoFar ss b 0 no_marks
unfolding no_marks
marked_none ss b = record { within = omega arith; clear = tt; size = length-replicate {A = ℕ} 126 0; same = zeros_none 126 }

take_step : (b : List ℕ) (i x : ℕ) → take 1 (drop i b) ≡ x ∷ [] → take (i + 1) b ≡ take i b ++ x ∷ []
take_step b i x e = take-add i 1 b ∙ ap (λ t. take i b ++ t) e

first_there : (b : List ℕ) (x : ℕ) → take 1 b ≡ x ∷ [] → (t : List ℕ) × (b ≡ x ∷ t)
first_there [] x e = absurd cc
first_there (y ∷ b) x e = (b, ap (λ z. z ∷ b) (same e))
  where
    same : y ∷ [] ≡ x ∷ [] → y ≡ x
    same e = cc

longer : (b : List ℕ) (i x : ℕ) → i ≤ length b → take 1 (drop i b) ≡ x ∷ [] → i + 1 ≤ length b
longer b i x le e =
    let f = first_there (drop i b) x e in
    let cut : length (take i b) ≡ i = length-take-le i b le in
    omega (arith, ap length (sym (take-append-drop i b)), length-append (take i b) (drop i b), ap length f.1, cut)

-- a slot that isn't marked
pub marked_zero : (ss : SlotsTree) (b : List ℕ) (i : ℕ) (marks : List ℕ) → MarkedSoFar ss b i marks → take 1 (drop i b) ≡ 0 ∷ [] → MarkedSoFar ss b (i + 1) marks
marked_zero ss b i marks h e = record {
  within = longer b i 0 h.within e;
  clear = subst (NoneUndefined (defined_slots ss)) (sym (take_step b i 0 e)) (NoneUndefined-append (defined_slots ss) (take i b) (0 ∷ []) h.clear ((λ z. absurd (omega arith)), tt));
  size = h.size;
  same = subst (λ t. AreSame t marks) (sym (take_step b i 0 e)) (alike_zero (take i b) marks h.same);
}

past_is : (ss : SlotsTree) (b : List ℕ) (i : ℕ) → i ≤ length b → slots_past (take i b) (defined_slots ss) ≡ drop i (defined_slots ss)
past_is ss b i le = slots_past_is (take i b) i (defined_slots ss) (length-take-le i b le)

-- a defined slot that is marked
pub marked_one : (ss : SlotsTree) (b : List ℕ) (i place : ℕ) (marks new : List ℕ) → MarkedSoFar ss b i marks → i < 126 → place ≡ i → take 1 (drop i b) ≡ 1 ∷ [] → IsDefined (drop i (defined_slots ss)) → new ≡ set marks place 1 → MarkedSoFar ss b (i + 1) new
marked_one ss b i place marks new h lt at e there f =
    let g : new ≡ set marks (length (take i b)) 1 = f ∙ ap (λ k. set marks k 1) (at ∙ sym (length-take-le i b h.within)) in record {
      within = longer b i 1 h.within e;
      clear = subst (NoneUndefined (defined_slots ss)) (sym (take_step b i 1 e))
          (NoneUndefined-append (defined_slots ss) (take i b) (1 ∷ []) h.clear ((λ z. subst IsDefined (sym (past_is ss b i h.within)) there), tt));
      size = ap length g ∙ length-set marks (length (take i b)) 1 ∙ h.size;
      same = subst (λ t. AreSame t new) (sym (take_step b i 1 e))
          (subst (λ n. AreSame (take i b ++ 1 ∷ []) n) (sym g) (alike_one (take i b) marks h.same (omega (arith, h.size, length-take-le i b h.within))));
    }

-- ---- undefined slots

first_here : (ds : List Bool) (a more : List ℕ) → NoneUndefined ds a → (IsDefined (slots_past a ds) → ⊥) → FirstUndefined ds (a ++ 1 ∷ more) (length a)
first_here ds [] more h no_slot = (refl, no_slot)
first_here ds (x ∷ a) more h no_slot = (h.0, first_here _ a more h.1 no_slot)

undefined_here : (ss : SlotsTree) (b : List ℕ) (i w : ℕ) (marks : List ℕ) → MarkedSoFar ss b i marks → i < w → take 1 (drop i b) ≡ 1 ∷ [] → (IsDefined (drop i (defined_slots ss)) → ⊥) → FirstUndefined (defined_slots ss) (take w b) i
undefined_here ss b i w marks h lt e none =
    let f = first_there (drop i b) 1 e in
    let k = w - i - 1 in
    let rest : take (suc k) (drop i b) ≡ 1 ∷ take k f.0 = ap (take (suc k)) f.1 in
    let count : w ≡ i + suc k = omega (arith, lt) in
    let whole : take w b ≡ take i b ++ 1 ∷ take k f.0 = ap (λ n. take n b) count ∙ take-add i (suc k) b ∙ ap (λ t. take i b ++ t) rest in
    let cut : length (take i b) ≡ i = length-take-le i b h.within in
    subst (λ n. FirstUndefined (defined_slots ss) (take w b) n) cut
    (subst (λ t. FirstUndefined (defined_slots ss) t (length (take i b))) (sym whole) (first_here (defined_slots ss) (take i b) (take k f.0) h.clear (λ d. none (subst IsDefined (past_is ss b i h.within) d))))

pub undefined_fails : (ss : SlotsTree) (content : List ℕ) (i n : ℕ) (marks : List ℕ) → MarkedSoFar ss (bits content) i marks → i < 8 * n → take 1 (drop i (bits content)) ≡ 1 ∷ [] → (IsDefined (drop i (defined_slots ss)) → ⊥)
    → FailsToMark (Fixed n) ss content (record { cause = UndefinedSlot; bit = i })
undefined_fails ss content i n marks h lt e none = record {
  fails = record {
    place = i;
    failed = content_stopped (Fixed n) ss (bits content) i UndefinedSlot (inl (inl (undefined_here ss (bits content) i (8 * n) marks h lt e none, refl)));
    bit = omega arith;
  };
}

pub short_fails : (ss : SlotsTree) (content : List ℕ) (i n : ℕ) (marks : List ℕ) → MarkedSoFar ss (bits content) i marks → i ≡ 8 * length content → length content < n → FailsToMark (Fixed n) ss content (record { cause = RunsOut; bit = i })
short_fails ss content i n marks h at lt =
    let b = bits content in
    let size : length b ≡ i = length-bits content ∙ sym at in
    let all : take i b ≡ b = take_all i b (omega (arith, size)) in record {
      fails = record {
        place = i;
        failed = content_stopped (Fixed n) ss b i RunsOut (inl (inr (omega (arith, size, at, lt), subst (NoneUndefined (defined_slots ss)) all h.clear, sym size, refl)));
        bit = omega arith;
      };
    }

-- ---- all marks

content_after : (ss : SlotsTree) (n : ℕ) (b marks : List ℕ) → AreBits b → MarkedSoFar ss b (8 * n) marks → content_read (Fixed n) ss b ≡ after (8 * n) (λ es. marked es) (entries_read 1 ss marks (drop (8 * n) b))
unfolding content_read
content_after ss n b marks bit h =
    let f = take (8 * n) b in
    let y = drop (8 * n) b in
    let l : length f ≡ 8 * n = length-take-le (8 * n) b h.within in
    let parts : f ++ y ≡ b = take-append-drop (8 * n) b in
    ap (λ m. marked_read m (entries_read 1 ss)) (ap (field_read (Fixed n) ss) (sym parts) ∙ field_spelled (Fixed n) ss f f y (l, (bits_of b f y (sym parts) bit).0, refl) h.clear)
    ∙ (λ i. after (l i) (λ es. marked es) (alike_read 1 ss f marks y h.same i))

pub all_marked : (ss : SlotsTree) (content : List ℕ) (n : ℕ) (marks : List ℕ) → MarkedSoFar ss (bits content) (8 * n) marks → n ≤ length content → MarksContent (Fixed n) ss content n marks
unfolding entries_at
all_marked ss content n marks h le =
    let b = bits content in record {
      within = le;
      are_bits = alike_bits (take (8 * n) b) marks (bits_of b (take (8 * n) b) (drop (8 * n) b) (sym (take-append-drop (8 * n) b)) (bits-AreBits content)).0 h.same;
      follows = record {
        forwards = omega arith;
        same = content_after ss n b marks (bits-AreBits content) h ∙ ap (λ t. after (8 * n) (λ es. marked es) (entries_read 1 ss marks t)) (drop-bits n content)
            ∙ ap (λ m. after (8 * m) (λ es. marked es) (entries_read 1 ss marks (bits (drop n content)))) (let e : n ≡ n - 0 = omega arith in e);
      };
    }

-- ---- slots of the code

defined_within : (ds : List Bool) (i : ℕ) → IsDefined (drop i ds) → i < length ds
defined_within [] zero h = absurd h
defined_within [] (suc i) h = absurd h
defined_within (d ∷ ds) zero h = omega arith
defined_within (d ∷ ds) (suc i) h = let lt = defined_within ds i h in omega arith

defined_count : (ss : SlotsTree) → length (defined_slots ss) ≡ slot_count ss
defined_count no_slots = refl
defined_count (slot_and spare_slot ss) = ap suc (defined_count ss)
defined_count (slot_and (subitem name k) ss) = ap suc (defined_count ss)

pub place_fits : (slots : List Slot) (i : ℕ) → length slots ≤ 126 → IsDefined (drop i (defined_slots (slots_tree slots))) → i < 126
place_fits slots i few h =
    omega (arith, few, defined_within (defined_slots (slots_tree slots)) i h, defined_count (slots_tree slots), count_of_slots (map slot_tree slots), length-map slots slot_tree)

first_slot : (s : SlotTree) (ss : SlotsTree) → IsTrue (is_subitem s) ↔ IsDefined (defined_slots (slot_and s ss))
first_slot spare_slot ss = ((λ h. absurd cc), (λ h. absurd h))
first_slot (subitem name k) ss = ((λ h. tt), (λ h. refl))

later_is : (s : SlotTree) (ss : SlotsTree) (i : ℕ) → drop (suc i) (defined_slots (slot_and s ss)) ≡ drop i (defined_slots ss)
later_is spare_slot ss i = refl
later_is (subitem name k) ss i = refl

pub first_there_is : (slots later : List Slot) (slot : Slot) (place : ℕ) (d : Bool) → slots ≡ slot ∷ later → place ≡ 0 → d ≡ is_subitem (slot_tree slot) → IsTrue d ↔ IsDefined (drop place (defined_slots (slots_tree slots)))
first_there_is slots later slot place d e z f =
    subst (λ xs. IsTrue d ↔ IsDefined (drop place (defined_slots (slots_tree xs)))) (sym e)
    (subst (λ n. IsTrue d ↔ IsDefined (drop n (defined_slots (slots_tree (slot ∷ later))))) (sym z)
    (subst (λ b. IsTrue b ↔ IsDefined (defined_slots (slots_tree (slot ∷ later)))) (sym f) (first_slot (slot_tree slot) (slots_tree later))))

pub later_there_is : (slots later : List Slot) (slot : Slot) (place less : ℕ) (d : Bool) → slots ≡ slot ∷ later → (place ≡ 0 → ⊥) → less ≡ place - 1 → IsTrue d ↔ IsDefined (drop less (defined_slots (slots_tree later)))
    → IsTrue d ↔ IsDefined (drop place (defined_slots (slots_tree slots)))
later_there_is slots later slot zero less d e z l h = absurd (z refl)
later_there_is slots later slot (suc n) less d e z l h =
    subst (λ xs. IsTrue d ↔ IsDefined (drop (suc n) (defined_slots (slots_tree xs)))) (sym e)
    (subst (λ ds. IsTrue d ↔ IsDefined ds) (sym (later_is (slot_tree slot) (slots_tree later) n))
    (subst (λ m. IsTrue d ↔ IsDefined (drop m (defined_slots (slots_tree later)))) (let q : less ≡ n = omega (arith, l) in q) h))

no_slot : (slots : List Slot) (place : ℕ) → length slots ≡ 0 → IsDefined (drop place (defined_slots (slots_tree slots))) → ⊥
no_slot [] zero e h = h
no_slot [] (suc n) e h = h
no_slot (t ∷ slots) place e h = absurd (omega (arith, e))

pub none_there_is : (slots : List Slot) (place : ℕ) (d : Bool) → length slots ≡ 0 → d ≡ false → IsTrue d ↔ IsDefined (drop place (defined_slots (slots_tree slots)))
none_there_is slots place d e f = ((λ h. (let z : true ≡ false = sym h ∙ f in absurd cc)), (λ h. absurd (no_slot slots place e h)))

pub none_there_at : (slots : List Slot) (place : ℕ) (d : Bool) → slots ≡ [] → d ≡ false → IsTrue d ↔ IsDefined (drop place (defined_slots (slots_tree slots)))
none_there_at slots place d e f = none_there_is slots place d (ap length e) f

pub ruleset slots = (first_there_is, later_there_is, none_there_is, none_there_at)

-- ---- ways through the code

bit_of : (fx b : Bool) (x : List ℕ) → x ≡ fx_bit fx ∷ [] → fx ≡ b → x ≡ fx_bit b ∷ []
bit_of fx b x e f = e ∙ ap (λ f. fx_bit f ∷ []) f

pub no_mark : (slots : List Slot) (b : List ℕ) (i : ℕ) (marks : List ℕ) (fx : Bool) → MarkedSoFar (slots_tree slots) b i marks → take 1 (drop i b) ≡ fx_bit fx ∷ [] → fx ≡ false → MarkedSoFar (slots_tree slots) b (i + 1) marks
no_mark slots b i marks fx h e f = marked_zero (slots_tree slots) b i marks h (bit_of fx false (take 1 (drop i b)) e f)

yes : (d : Bool) (P : Type 0) → IsTrue d ↔ P → d ≡ true → P
yes d P both e = both.0 e

pub one_mark : (slots : List Slot) (b : List ℕ) (i place : ℕ) (marks new : List ℕ) (fx d : Bool) → MarkedSoFar (slots_tree slots) b i marks → length slots ≤ 126 → take 1 (drop i b) ≡ fx_bit fx ∷ [] → fx ≡ true
    → IsTrue d ↔ IsDefined (drop i (defined_slots (slots_tree slots))) → d ≡ true → place ≡ i → new ≡ set marks place 1 → MarkedSoFar (slots_tree slots) b (i + 1) new
one_mark slots b i place marks new fx d h few e f both g at is =
    let there : IsDefined (drop i (defined_slots (slots_tree slots))) = yes d _ both g in
    marked_one (slots_tree slots) b i place marks new h (place_fits slots i few there) at (bit_of fx true (take 1 (drop i b)) e f) there is

pub bad_mark : (slots : List Slot) (content : List ℕ) (i : ℕ) (marks : List ℕ) (fx d : Bool) (fault : BodyFault) → MarkedSoFar (slots_tree slots) (bits content) i marks → take 1 (drop i (bits content)) ≡ fx_bit fx ∷ [] → fx ≡ true
    → IsTrue d ↔ IsDefined (drop i (defined_slots (slots_tree slots))) → d ≡ false → fault ≡ record { cause = UndefinedSlot; bit = i } → FailsFrom (slots_tree slots) content i fault
bad_mark slots content i marks fx d fault h e f both g is = record {
  from = λ n lt. subst (λ fault. FailsToMark (Fixed n) (slots_tree slots) content fault) (sym is)
      (undefined_fails (slots_tree slots) content i n marks h lt (bit_of fx true (take 1 (drop i (bits content))) e f) (λ there. (let y : d ≡ true = both.1 there in let z : true ≡ false = sym y ∙ g in absurd cc)));
}

pub slot_fits : (slots : List Slot) (i : ℕ) (d : Bool) → length slots ≤ 126 → IsTrue d ↔ IsDefined (drop i (defined_slots (slots_tree slots))) → d ≡ true → i < 126
slot_fits slots i d few both g = place_fits slots i few (yes d _ both g)

pub ruleset marks = (no_mark, one_mark, bad_mark, slot_fits)

pub octets_bad : (ss : SlotsTree) (content : List ℕ) (place count whole : ℕ) (fault : BodyFault) → FailsFrom ss content place fault → place < 8 * whole → whole ≤ count → FailsToMark (Fixed count) ss content fault
octets_bad ss content place count whole fault h lt le = h.from count (omega (arith, lt, le))

pub octets_short : (ss : SlotsTree) (content : List ℕ) (place count whole : ℕ) (marks : List ℕ) (fault : BodyFault) → MarkedSoFar ss (bits content) place marks → 8 * whole ≤ place → whole < count → whole ≡ length content → fault ≡ record { cause = RunsOut; bit = 8 * whole }
    → FailsToMark (Fixed count) ss content fault
octets_short ss content place count whole marks fault h past lt e is =
    let at : place ≡ 8 * length content = omega (arith, past, e, h.within, length-bits content) in
    subst (λ fault. FailsToMark (Fixed count) ss content fault) (sym is)
    (subst (λ n. FailsToMark (Fixed count) ss content (record { cause = RunsOut; bit = n })) (let q : place ≡ 8 * whole = omega (arith, at, e) in q) (short_fails ss content place count marks h at (omega (arith, lt, e))))

pub octets_whole : (ss : SlotsTree) (content : List ℕ) (place count whole : ℕ) (marks : List ℕ) → MarkedSoFar ss (bits content) place marks → place ≡ 8 * whole → whole ≡ count → count ≤ length content → MarksContent (Fixed count) ss content count marks
octets_whole ss content place count whole marks h at e le = all_marked ss content count marks (subst (λ n. MarkedSoFar ss (bits content) n marks) (at ∙ ap (λ n. 8 * n) e) h) le

pub ruleset octets = (octets_bad, octets_short, octets_whole, marked_none)
