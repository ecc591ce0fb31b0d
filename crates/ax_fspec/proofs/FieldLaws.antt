-- The laws of presence fields.
use Rattle.std.proofs.Common.{◌≡◌, inl, inr, ℕ, zero, suc, ◌+◌, ◌-◌, ◌*◌, ◌%◌, ◌≤◌, Bool, true, false, cond, IsTrue, List, [], ◌∷◌, ◌++◌, length, take, drop, set, replicate, refl, sym, ◌∙◌, ap, arith, subst, length-append, length-take, length-drop}
use Rattle.std.proofs.lemmas.List.{drop-drop, append_cancel_right, take-append-drop, length-take-le}
use Rattle.std.proofs.Math.Seq.{take-add}
use Rattle.ax_bits.specs.Bits.{AreBits, bits}
use Rattle.ax_bits.proofs.Words.{length-bits}
use Rattle.ax_format.proofs.Failed.{presence_failed}
use Rattle.ax_format.proofs.Least.{Alike, least_least}
use Rattle.ax_format.specs.Reader.{Read, got, failed, presence_read}
use Rattle.ax_format.proofs.Spelled.{presence_spelled}
use Rattle.ax_format.specs.Failing.{IsPresence, PresenceFails}
use Rattle.ax_format.specs.Presence.{Presence, octets_needed, none_marked, first_mark, later_marks, marks_after, marks_upto, least_presence, later_slots, NoneUndefined}
use Rattle.ax_format.specs.declared.fault.BodyCause.{BodyCause}
use Rattle.ax_format.specs.declared.fault.BodyFault.{BodyFault}
use Rattle.ax_fspec.specs.Fields.{IsFieldOf, MarksSlots, FailsToMark, mask_slots, least_field}
use Rattle.ax_fspec.specs.Marks.{AreMarks, are_marked, no_marks}
use Rattle.ax_fspec.specs.declared.mask.SlotMask.{SlotMask}
use Rattle.ax_fspec.proofs.Sets.{none_of_no_marks}
use Rattle.ax_fspec.proofs.FieldsRead.{bits_parts}
use Rattle.ax_fspec.proofs.FieldsWritten.{none_left, marks_after_is, least_true, least_false}
use Rattle.ax_format.proofs.Unmarked.{none_first, none_later}

-- ---- a field is read in one way

pub prefix_free : (k : ℕ) (ds : List Bool) (ms ns b c x y : List ℕ) → IsPresence k ds ms b → IsPresence k ds ns c → b ++ x ≡ c ++ y → (b ≡ c) × (ms ≡ ns)
prefix_free k ds ms ns b c x y f g e =
    let first : presence_read k ds (b ++ x) ≡ got ms (length b) x = presence_spelled k ds ms b x f.field f.clear in
    let second : presence_read k ds (c ++ y) ≡ got ns (length c) y = presence_spelled k ds ns c y g.field g.clear in
    let same : ◌≡◌ {A = Read (List ℕ)} (got ms (length b) x) (got ns (length c) y) = sym first ∙ ap (presence_read k ds) e ∙ second in
    let marks : ms ≡ ns = cc in
    let rest : x ≡ y = cc in
    (append_cancel_right b c y (ap (λ z. b ++ z) (sym rest) ∙ e), marks)

pub never_both : (k : ℕ) (ds : List Bool) (ms b x : List ℕ) (p : ℕ) (c : BodyCause) → IsPresence k ds ms b → PresenceFails k ds (b ++ x) p c → ⊥
never_both k ds ms b x p c f h =
    let good : presence_read k ds (b ++ x) ≡ got ms (length b) x = presence_spelled k ds ms b x f.field f.clear in
    let bad : presence_read k ds (b ++ x) ≡ failed p c = presence_failed k ds (b ++ x) p c h in
    cc

-- ---- a field marks one set

zeros_of_none : (xs : List ℕ) → IsTrue (none_marked xs) → xs ≡ replicate (length xs) 0
zeros_of_none [] h = refl
zeros_of_none (zero ∷ xs) h = λ i. 0 ∷ zeros_of_none xs h i
zeros_of_none (suc x ∷ xs) h = cc

-- marks are told by a front of them after which none is set
same_marks : (a b : List ℕ) (p q : ℕ) → length a ≡ length b → take p a ≡ take q b → IsTrue (none_marked (drop p a)) → IsTrue (none_marked (drop q b)) → a ≡ b
same_marks a b p q l e h g =
    let x : a ≡ take p a ++ replicate (length (drop p a)) 0 = sym (take-append-drop p a) ∙ ap (λ k. take p a ++ k) (zeros_of_none (drop p a) h) in
    let y : b ≡ take q b ++ replicate (length (drop q b)) 0 = sym (take-append-drop q b) ∙ ap (λ k. take q b ++ k) (zeros_of_none (drop q b) g) in
    let n : length (drop p a) ≡ length (drop q b)
    = omega (arith, ap length e, length-append (take p a) (drop p a), length-append (take q b) (drop q b), ap length (take-append-drop p a), ap length (take-append-drop q b)) in
    x ∙ (λ i. e i ++ replicate (n i) 0) ∙ sym y

pub one_set : (n : ℕ) (ds : List Bool) (marked other b : List ℕ) → length marked ≡ length other → IsFieldOf n ds marked b → IsFieldOf n ds other b → marked ≡ other
one_set n ds marked other b l f g =
    let front = prefix_free (octets_needed n) ds (take (7 * f.octets) marked) (take (7 * g.octets) other) b b [] [] f.field g.field refl in
    same_marks marked other (7 * f.octets) (7 * g.octets) l front.1 f.no_other g.no_other

-- ---- the least field is a field, and the shortest

pub alike_front : (m : ℕ) (ms : List ℕ) → IsTrue (none_marked (drop m ms)) → Alike ms (take m ms)
alike_front zero [] h = refl
alike_front zero (zero ∷ ms) h = (refl, alike_front zero ms h)
alike_front zero (suc x ∷ ms) h = cc
alike_front (suc m) [] h = refl
alike_front (suc m) (x ∷ ms) h = (refl, alike_front m ms h)

presence_more : (k j : ℕ) (ms b : List ℕ) → k ≤ j → Presence k ms b → Presence j ms b
presence_more zero j ms b h f = absurd f
presence_more (suc k) zero ms b h f = absurd (omega arith)
presence_more (suc k) (suc j) ms b h (own, l, bit, inl (e, g)) = (own, l, bit, inl (e, g))
presence_more (suc k) (suc j) ms b h (own, l, bit, inr (more, y, e, g, t)) = (own, l, bit, inr (more, y, e, g, presence_more k j more y (omega arith) t))

pub shortest : (n : ℕ) (ds : List Bool) (marked b : List ℕ) → n ≤ 126 → IsFieldOf n ds marked b → length (least_field marked) ≤ length b
unfolding least_field
shortest n ds marked b h f =
    let ms = take (7 * f.octets) marked in
    let few : octets_needed n ≤ 18 = omega arith in
    least_least 18 marked ms b (alike_front (7 * f.octets) marked f.no_other) (presence_more (octets_needed n) 18 ms b few f.field.field)

-- the least field of marks of which none stands after k octets, and the front of the marks that it has
record Least (k : ℕ) (ms : List ℕ) : Type 0 where
  octets : ℕ
  field : Presence k (take (7 * octets) ms) (least_presence k ms)
  no_other : IsTrue (none_marked (drop (7 * octets) ms))

bits_front : (n : ℕ) (ms : List ℕ) → AreBits ms → AreBits (take n ms)
bits_front zero ms h = tt
bits_front (suc n) [] h = tt
bits_front (suc n) (m ∷ ms) h = (h.0, bits_front n ms h.1)

bits_after : (n : ℕ) (ms : List ℕ) → AreBits ms → AreBits (drop n ms)
bits_after zero ms h = h
bits_after (suc n) [] h = tt
bits_after (suc n) (m ∷ ms) h = bits_after n ms h.1

least_at : (k : ℕ) (ms : List ℕ) (b : Bool) → none_marked (drop 7 ms) ≡ b → AreBits ms → 7 ≤ length ms → (b ≡ false → Least k (drop 7 ms)) → Least (suc k) ms
least_at k ms true e bit long later = record {
  octets = 1;
  field = (take 7 ms, length-take-le 7 ms long, bits_front 7 ms bit, inl (refl, least_true k ms long e));
  no_other = e;
}
least_at k ms false e bit long later =
    let rest = later refl in
    let next : 7 * suc rest.octets ≡ 7 + 7 * rest.octets = omega arith in
    record {
      octets = suc rest.octets;
      field = (
        take 7 ms,
        length-take-le 7 ms long,
        bits_front 7 ms bit,
        inr (
          take (7 * rest.octets) (drop 7 ms),
          least_presence k (drop 7 ms),
          ap (λ n. take n ms) next ∙ take-add 7 (7 * rest.octets) ms,
          least_false k ms long e,
          rest.field,
        ),
      );
      no_other = ap none_marked (ap (λ n. drop n ms) next ∙ sym (drop-drop (7 * rest.octets) 7 ms)) ∙ rest.no_other;
    }

following : (k : ℕ) (ms : List ℕ) → drop (7 * suc k) ms ≡ drop (7 * k) (drop 7 ms)
following k ms = ap (λ n. drop n ms) (let e : 7 * suc k ≡ 7 + 7 * k = omega arith in e) ∙ sym (drop-drop (7 * k) 7 ms)

least_is : (k : ℕ) (ms : List ℕ) → 1 ≤ k → AreBits ms → 7 * k ≤ length ms → IsTrue (none_marked (drop (7 * k) ms)) → Least k ms
least_is zero ms some bit long none = absurd (omega arith)
least_is (suc zero) ms some bit long none = least_at zero ms (none_marked (drop 7 ms)) refl bit (omega arith) (λ e. absurd (cc))
least_is (suc (suc k)) ms some bit long none =
    least_at (suc k) ms (none_marked (drop 7 ms)) refl bit (omega arith)
    (λ e. least_is (suc k) (drop 7 ms) (omega arith) (bits_after 7 ms bit) (omega (arith, length-drop 7 ms)) (ap none_marked (sym (following (suc k) ms)) ∙ none))

-- more octets than the marks need change nothing
enough_at : (k j : ℕ) (ms : List ℕ) (b : Bool) → none_marked (marks_after 7 ms) ≡ b → (b ≡ false → least_presence k (marks_after 7 ms) ≡ least_presence j (marks_after 7 ms)) →
    cond b (marks_upto 7 ms ++ 0 ∷ []) (marks_upto 7 ms ++ 1 ∷ least_presence k (marks_after 7 ms)) ≡ cond b (marks_upto 7 ms ++ 0 ∷ []) (marks_upto 7 ms ++ 1 ∷ least_presence j (marks_after 7 ms))
enough_at k j ms true e h = refl
enough_at k j ms false e h = ap (λ z. marks_upto 7 ms ++ 1 ∷ z) (h refl)

pub least_enough : (k j : ℕ) (ms : List ℕ) → 1 ≤ j → j ≤ k → IsTrue (none_marked (drop (7 * j) ms)) → least_presence k ms ≡ least_presence j ms
least_enough k zero ms some le none = absurd (omega arith)
least_enough zero (suc j) ms some le none = absurd (omega arith)
least_enough (suc k) (suc zero) ms some le none =
    enough_at k zero ms (none_marked (marks_after 7 ms)) refl (λ e. let t : none_marked (marks_after 7 ms) ≡ true = ap none_marked (marks_after_is 7 ms) ∙ none in absurd (cc))
least_enough (suc k) (suc (suc j)) ms some le none =
    let later : IsTrue (none_marked (drop (7 * suc j) (marks_after 7 ms)))
    = ap (λ z. none_marked (drop (7 * suc j) z)) (marks_after_is 7 ms) ∙ ap none_marked (sym (following (suc j) ms)) ∙ none in
    enough_at k (suc j) ms (none_marked (marks_after 7 ms)) refl (λ e. least_enough k (suc j) (marks_after 7 ms) (omega arith) (omega arith) later)

-- past the last slot no bit is a mark
none_past : (ds : List Bool) (ms : List ℕ) (m : ℕ) → NoneUndefined ds ms → AreBits ms → length ds ≤ m → IsTrue (none_marked (drop m ms))
none_past ds [] m h bit le = ap none_marked (none_left m)
none_past [] (x ∷ ms) (suc m) h bit le = none_past [] ms m h.1 bit.1 (omega arith)
none_past (d ∷ ds) (x ∷ ms) (suc m) h bit le = none_past ds ms m h.1 bit.1 (omega arith)
none_past (d ∷ ds) (x ∷ ms) zero h bit le = absurd (omega arith)
none_past [] (zero ∷ ms) zero h bit le = none_past [] ms zero h.1 bit.1 le
none_past [] (suc zero ∷ ms) zero h bit le = absurd (h.0 refl)
none_past [] (suc (suc x) ∷ ms) zero h bit le = absurd (omega (arith, bit.0))

clear_front : (ds : List Bool) (ms : List ℕ) (n : ℕ) → NoneUndefined ds ms → NoneUndefined ds (take n ms)
clear_front ds ms zero h = tt
clear_front ds [] (suc n) h = tt
clear_front ds (m ∷ ms) (suc n) h = (h.0, clear_front (later_slots ds) ms n h.1)

pub least_field_marks : (n : ℕ) (ds : List Bool) (marked : List ℕ) → 1 ≤ n → n ≤ 126 → length ds ≤ n → AreMarks marked → NoneUndefined ds marked → IsFieldOf n ds marked (least_field marked)
unfolding least_field
least_field_marks n ds marked some few le set clear =
    let k = octets_needed n in
    let none : IsTrue (none_marked (drop (7 * k) marked)) = none_past ds marked (7 * k) clear set.each (omega arith) in
    let one : 1 ≤ k = omega arith in
    let fits : 7 * k ≤ length marked = omega (arith, set.size) in
    let least = least_is k marked one set.each fits none in
    let same : least_presence k marked ≡ least_presence 18 marked = sym (least_enough 18 k marked one (omega arith) none) in
    record {
      octets = least.octets;
      field = record {
        field = subst (λ b. Presence k (take (7 * least.octets) marked) b) same least.field;
        clear = clear_front ds marked (7 * least.octets) clear;
      };
      no_other = least.no_other;
    }

-- ---- what was written is read back

length-are_marked : (marks : List ℕ) → length (are_marked marks) ≡ length marks
length-are_marked [] = refl
length-are_marked (zero ∷ marks) = ap suc (length-are_marked marks)
length-are_marked (suc m ∷ marks) = ap suc (length-are_marked marks)

length-mask_slots : (mask : SlotMask) → length (mask_slots mask) ≤ mask.count
length-mask_slots mask = omega (arith, length-are_marked (take mask.count mask.defined), length-take mask.count mask.defined)

mask_field : (mask : SlotMask) (marked : List ℕ) → AreMarks marked → NoneUndefined (mask_slots mask) marked → IsFieldOf mask.count (mask_slots mask) marked (least_field marked)
mask_field mask marked set clear = least_field_marks mask.count (mask_slots mask) marked mask.some mask.few (length-mask_slots mask) set clear

pub reads_back : (mask : SlotMask) (body : List ℕ) (at end : ℕ) (marked other y : List ℕ) → AreMarks marked → NoneUndefined (mask_slots mask) marked → bits (drop at body) ≡ least_field marked ++ y →
    MarksSlots mask body at end other → (other ≡ marked) × (8 * (end - at) ≡ length (least_field marked))
reads_back mask body at end marked other y set clear e read =
    let n = mask.count in
    let ds = mask_slots mask in
    let octets = take (end - at) (drop at body) in
    let wrote = mask_field mask marked set clear in
    let begins : least_field marked ++ y ≡ bits octets ++ bits (drop (end - at) (drop at body)) = sym e ∙ bits_parts (drop at body) (end - at) in
    let same : least_field marked ≡ bits octets
    = (prefix_free (octets_needed n) ds (take (7 * wrote.octets) marked) (take (7 * read.field.octets) other) (least_field marked) (bits octets) y (bits (drop (end - at) (drop at body))) wrote.field read.field.field begins).0 in
    let size : length other ≡ length marked = read.size ∙ sym set.size in (
      one_set n ds other marked (bits octets) size read.field (subst (λ b. IsFieldOf n ds marked b) same wrote),
      omega (arith, ap length same, length-bits octets, length-take (end - at) (drop at body), length-drop at body, read.within, read.begins),
    )

pub never_fails : (mask : SlotMask) (body : List ℕ) (at : ℕ) (fault : BodyFault) (marked y : List ℕ) → AreMarks marked → NoneUndefined (mask_slots mask) marked → bits (drop at body) ≡ least_field marked ++ y →
    FailsToMark mask body at fault → ⊥
never_fails mask body at fault marked y set clear e fails =
    let ds = mask_slots mask in
    let wrote = mask_field mask marked set clear in
    never_both (octets_needed mask.count) ds (take (7 * wrote.octets) marked) (least_field marked) y fails.place fault.cause wrote.field
    (subst (λ b. PresenceFails (octets_needed mask.count) ds b fails.place fault.cause) e fails.fails.fails)

-- ---- marks of n slots, and those of a set

pub alike_set : (m : ℕ) (ms : List ℕ) → IsTrue (none_marked (drop m ms)) → Alike (take m ms) ms
alike_set zero ms h = h
alike_set (suc m) [] h = refl
alike_set (suc m) (x ∷ ms) h = (refl, alike_set m ms h)

alike_first : (a b : List ℕ) → Alike a b → first_mark a ≡ first_mark b
alike_first [] b h = sym (none_first b h)
alike_first (x ∷ a) b h = h.0

alike_later : (a b : List ℕ) → Alike a b → Alike (later_marks a) (later_marks b)
alike_later [] b h = none_later b h
alike_later (x ∷ a) b h = h.1

alike_upto : (n : ℕ) (a b : List ℕ) → Alike a b → marks_upto n a ≡ marks_upto n b
alike_upto zero a b h = refl
alike_upto (suc n) a b h = λ i. alike_first a b h i ∷ alike_upto n (later_marks a) (later_marks b) (alike_later a b h) i

alike_after : (n : ℕ) (a b : List ℕ) → Alike a b → Alike (marks_after n a) (marks_after n b)
alike_after zero a b h = h
alike_after (suc n) a b h = alike_after n (later_marks a) (later_marks b) (alike_later a b h)

alike_none : (a b : List ℕ) → Alike a b → none_marked a ≡ none_marked b
alike_none [] b h = sym h
alike_none (zero ∷ a) [] h = alike_none a [] h.1
alike_none (suc x ∷ a) [] h = absurd (omega (arith, h.0))
alike_none (zero ∷ a) (zero ∷ b) h = alike_none a b h.1
alike_none (zero ∷ a) (suc y ∷ b) h = absurd (omega (arith, h.0))
alike_none (suc x ∷ a) (zero ∷ b) h = absurd (omega (arith, h.0))
alike_none (suc x ∷ a) (suc y ∷ b) h = refl

pub least_alike : (k : ℕ) (a b : List ℕ) → Alike a b → least_presence k a ≡ least_presence k b
least_alike zero a b h = refl
least_alike (suc k) a b h =
    let rest : Alike (marks_after 7 a) (marks_after 7 b) = alike_after 7 a b h in
    λ i. cond (alike_none (marks_after 7 a) (marks_after 7 b) rest i) (alike_upto 7 a b h i ++ 0 ∷ [])
    (alike_upto 7 a b h i ++ 1 ∷ least_alike k (marks_after 7 a) (marks_after 7 b) rest i)

pub none_further : (m n : ℕ) (ms : List ℕ) → m ≤ n → IsTrue (none_marked (drop m ms)) → IsTrue (none_marked (drop n ms))
none_further m n [] le h = ap none_marked (none_left n)
none_further (suc m) zero (x ∷ ms) le h = absurd (omega arith)
none_further (suc m) (suc n) (x ∷ ms) le h = none_further m n ms (omega arith) h
none_further zero zero (x ∷ ms) le h = h
none_further zero (suc n) (zero ∷ ms) le h = none_further zero n ms (omega arith) h
none_further zero (suc n) (suc x ∷ ms) le h = cc

-- the least field of a set is that of the marks of n slots, where no other slot is in the set
pub least_field_of : (n : ℕ) (marked : List ℕ) → 1 ≤ n → n ≤ 126 → IsTrue (none_marked (drop n marked)) → least_field marked ≡ least_presence (octets_needed n) (take n marked)
unfolding least_field
least_field_of n marked some few none =
    let k = octets_needed n in
    least_enough 18 k marked (omega arith) (omega arith) (none_further n (7 * k) marked (omega arith) none)
    ∙ least_alike k marked (take n marked) (alike_front n marked none)

-- ---- sets

pub none_after_none : (n : ℕ) → IsTrue (none_marked (drop n no_marks))
none_after_none n = none_further 0 n no_marks (omega arith) none_of_no_marks

-- the least field has at most 18 octets
least_fits_at : (k : ℕ) (ms : List ℕ) (b : Bool) → length (least_presence k (marks_after 7 ms)) ≤ 8 * k →
    length (cond b (marks_upto 7 ms ++ 0 ∷ []) (marks_upto 7 ms ++ 1 ∷ least_presence k (marks_after 7 ms))) ≤ 8 * suc k
least_fits_at k ms true h = omega arith
least_fits_at k ms false h = omega arith

least_fits : (k : ℕ) (ms : List ℕ) → length (least_presence k ms) ≤ 8 * k
least_fits zero ms = omega arith
least_fits (suc k) ms = least_fits_at k ms (none_marked (marks_after 7 ms)) (least_fits k (marks_after 7 ms))

pub least_field_fits : (marked : List ℕ) → length (least_field marked) ≤ 144
unfolding least_field
least_field_fits marked = least_fits 18 marked

-- the least field has whole octets
least_whole_at : (k : ℕ) (ms : List ℕ) (b : Bool) → length (least_presence k (marks_after 7 ms)) % 8 ≡ 0 →
    length (cond b (marks_upto 7 ms ++ 0 ∷ []) (marks_upto 7 ms ++ 1 ∷ least_presence k (marks_after 7 ms))) % 8 ≡ 0
least_whole_at k ms true h = refl
least_whole_at k ms false h = omega arith

least_whole : (k : ℕ) (ms : List ℕ) → length (least_presence k ms) % 8 ≡ 0
least_whole zero ms = refl
least_whole (suc k) ms = least_whole_at k ms (none_marked (marks_after 7 ms)) (least_whole k (marks_after 7 ms))

pub least_field_whole : (marked : List ℕ) → length (least_field marked) % 8 ≡ 0
unfolding least_field
least_field_whole marked = least_whole 18 marked

pub ruleset least_sizes = (least_field_fits, least_field_whole)
