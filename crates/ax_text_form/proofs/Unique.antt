-- The texts of a value determine it under its kind, and no value's texts are the beginning of another's.
use Rattle.std.proofs.Common.{◌≡◌, ℕ, ◌+◌, ◌^◌, ◌<◌, ◌≤◌, Bool, true, false, cond, List, [], ◌∷◌, Ok, refl, sym, ◌∙◌, ap, subst, arith, zero, suc, lit<}
use Rattle.std.specs.Prelude.{◌==◌, bytes_eq, decimal, MatchBool, Result, IsTrue}
use Rattle.std.specs.List.{AllByRecursion}
use Rattle.std.specs.Str.Parse.{IsNumeral, digits_value}
use Rattle.std.proofs.lemmas.Bool.{eqb-true}
use Rattle.std.proofs.lemmas.Fmt.{decimal_is_IsNumeral_wide}
use Rattle.std.proofs.lemmas.List.{append_cancel_right}
use Rattle.std.proofs.lemmas.Slice.Eq.{bytes_eq-Decides}
use Rattle.std.proofs.Math.Nat.{pow-le-pow_right}
use Rattle.hex.specs.Hex.{encode_lower, decode_of, IsBytes}
use Rattle.hex.specs.declared.error.FromHexError.{FromHexError}
use Rattle.hex.proofs.HexLemmas.{decode_of-encode_lower}
use Rattle.ax_bits.specs.Bits.{AreOctets}
use Rattle.ax_tokens.specs.Octets.{quote}
use Rattle.ax_format.specs.Characters.{IsName}
use Rattle.ax_format.specs.Shape.{NumberShape, FixedShape, MembersShape, PartsShape, EachShape, Shape, EntriesShape}
use Rattle.ax_format.specs.Tree.{FixedTree, element, group, MembersTree, no_members, member_and, named, spare, KindTree, fixed, extended, counted, by_fx, explicit, compound, SlotsTree, no_slots, slot_and, spare_slot, subitem, ValueTree, number, member_values, part_values, occurrences, content_octets, marked, ValuesTree, no_values, value_and, ListsTree, no_lists, list_and, EntriesTree, no_entries, entry_and}
use Rattle.ax_text_form.specs.Names.{KindNamed, SlotsNamed}
use Rattle.ax_text_form.specs.Readable.{FixedReadable, MembersReadable, Lacks, Readable, SlotsReadable}
use Rattle.ax_text_form.specs.ValueText.{Texts, opening, closing, part_word, hex_text, number_onto, fixed_onto, members_onto, parts_onto, each_onto, kind_onto, entries_onto}

pub tails : (a b : List ℕ) (x y : Texts) → a ∷ x ≡ b ∷ y → x ≡ y
tails a b x y e = cc

pub heads : (a b : List ℕ) (x y : Texts) → a ∷ x ≡ b ∷ y → a ≡ b
heads a b x y e = cc

pub different : (a b : List ℕ) → bytes_eq a b ≡ false → a ≡ b → ⊥
different a b n e = let yes : bytes_eq a b ≡ true = (bytes_eq-Decides a b).1 e in cc

-- ---- numbers

pub small : (w n : ℕ) → w ≤ 128 → n < 2 ^ w → n < 10 ^ 64
small w n le lt = let p : 2 ^ w ≤ 2 ^ 128 = pow-le-pow_right (lit< tt) le in omega (arith, p, lt)

pub same_decimal : (n m : ℕ) → n < 10 ^ 64 → m < 10 ^ 64 → decimal n ≡ decimal m → n ≡ m
same_decimal n m a b e = sym (decimal_is_IsNumeral_wide n a).1 ∙ ap (digits_value 10) e ∙ (decimal_is_IsNumeral_wide m b).1

pub never_closes : (n : ℕ) → n < 10 ^ 64 → decimal n ≡ closing → ⊥
never_closes n a e = let d : IsNumeral 10 closing = subst (IsNumeral 10) e (decimal_is_IsNumeral_wide n a).0 in omega (arith, d.1.0)

pub same_number : (w : ℕ) (v u : ValueTree) (x y : Texts) → w ≤ 128 → NumberShape w v → NumberShape w u → number_onto v x ≡ number_onto u y → (v ≡ u) × (x ≡ y)
same_number w (number n) (number m) x y le a b e = (ap number (same_decimal n m (small w n le a) (small w m le b) (heads _ _ _ _ e)), tails _ _ _ _ e)
same_number w (number n) u x y le a b e = absurd b
same_number w v u x y le a b e = absurd a

number_never : (w : ℕ) (v : ValueTree) (x y : Texts) → w ≤ 128 → NumberShape w v → number_onto v x ≡ closing ∷ y → ⊥
number_never w (number n) x y le a e = never_closes n (small w n le a) (heads _ _ _ _ e)
number_never w v x y le a e = absurd a

-- ---- fixed kinds

mutual
  pub same_fixed : (f : FixedTree) (v u : ValueTree) (x y : Texts) → FixedReadable f → FixedShape f v → FixedShape f u → fixed_onto f v x ≡ fixed_onto f u y → (v ≡ u) × (x ≡ y)
  same_fixed (element w c) v u x y r a b e = same_number w v u x y r a b e
  same_fixed (group ms) (member_values vs) (member_values us) x y r a b e =
      let s = same_members ms vs us (closing ∷ x) (closing ∷ y) r a b (tails _ _ _ _ e) in (ap member_values s.0, tails _ _ _ _ s.1)
  same_fixed (group ms) (member_values vs) u x y r a b e = absurd b
  same_fixed (group ms) v u x y r a b e = absurd a

  pub same_members : (ms : MembersTree) (vs us : ValuesTree) (x y : Texts) → MembersReadable ms → MembersShape ms vs → MembersShape ms us → members_onto ms vs x ≡ members_onto ms us y → (vs ≡ us) × (x ≡ y)
  same_members no_members no_values no_values x y r a b e = (refl, e)
  same_members no_members no_values us x y r a b e = absurd b
  same_members no_members vs us x y r a b e = absurd a
  same_members (member_and m ms) no_values us x y r a b e = absurd a
  same_members (member_and m ms) vs no_values x y r a b e = absurd b
  same_members (member_and (named name f) ms) (value_and v vs) (value_and u us) x y r a b e =
      let s = same_fixed f v u (members_onto ms vs x) (members_onto ms us y) r.0 a.0 b.0 (tails _ _ _ _ e) in
      let t = same_members ms vs us x y r.1 a.1 b.1 s.1 in
      (rw (s.0, t.0) refl, t.1)
  same_members (member_and (spare w) ms) (value_and v vs) (value_and u us) x y r a b e =
      let s = same_number w v u (members_onto ms vs x) (members_onto ms us y) r.0 a.0 b.0 (tails _ _ _ _ e) in
      let t = same_members ms vs us x y r.1 a.1 b.1 s.1 in
      (rw (s.0, t.0) refl, t.1)

pub fixed_never : (f : FixedTree) (v : ValueTree) (x y : Texts) → FixedReadable f → FixedShape f v → fixed_onto f v x ≡ closing ∷ y → ⊥
fixed_never (element w c) v x y r a e = number_never w v x y r a e
fixed_never (group ms) (member_values vs) x y r a e = different opening closing refl (heads _ _ _ _ e)
fixed_never (group ms) v x y r a e = absurd a

-- ---- parts

parts_begin : (ps : List MembersTree) (ws : ValuesTree) (ls : ListsTree) (x y : Texts) → PartsShape ps (list_and ws ls) → parts_onto ps (list_and ws ls) x ≡ closing ∷ y → ⊥
parts_begin [] ws ls x y a e = a
parts_begin (p ∷ ps) ws ls x y a e = different part_word closing refl (heads _ _ _ _ e)

same_parts : (ps : List MembersTree) (ls ks : ListsTree) (x y : Texts) → AllByRecursion MembersReadable ps → PartsShape ps ls → PartsShape ps ks → parts_onto ps ls (closing ∷ x) ≡ parts_onto ps ks (closing ∷ y) → (ls ≡ ks) × (x ≡ y)
same_parts ps no_lists ks x y r a b e = absurd a
same_parts ps ls no_lists x y r a b e = absurd b
same_parts [] (list_and vs ls) ks x y r a b e = absurd a
same_parts (p ∷ ps) (list_and vs no_lists) (list_and us no_lists) x y r a b e =
    let s = same_members p vs us _ _ r.0 a b (tails _ _ _ _ (tails _ _ _ _ e)) in
    (ap (λ z. list_and z no_lists) s.0, end ps x y (tails _ _ _ _ s.1))
  where
    end : (ps : List MembersTree) (x y : Texts) → parts_onto ps no_lists (closing ∷ x) ≡ parts_onto ps no_lists (closing ∷ y) → x ≡ y
    end [] x y e = tails _ _ _ _ e
    end (p ∷ ps) x y e = tails _ _ _ _ e
same_parts (p ∷ ps) (list_and vs no_lists) (list_and us (list_and ws ks)) x y r a b e =
    let s = same_members p vs us _ _ r.0 a b.0 (tails _ _ _ _ (tails _ _ _ _ e)) in
    absurd (parts_begin ps ws ks (closing ∷ y) x b.1 (sym (tails _ _ _ _ s.1) ∙ none ps x))
  where
    none : (ps : List MembersTree) (x : Texts) → parts_onto ps no_lists (closing ∷ x) ≡ closing ∷ x
    none [] x = refl
    none (p ∷ ps) x = refl
same_parts (p ∷ ps) (list_and vs (list_and ws ls)) (list_and us no_lists) x y r a b e =
    let s = same_members p vs us _ _ r.0 a.0 b (tails _ _ _ _ (tails _ _ _ _ e)) in
    absurd (parts_begin ps ws ls (closing ∷ x) y a.1 (tails _ _ _ _ s.1 ∙ none ps y))
  where
    none : (ps : List MembersTree) (x : Texts) → parts_onto ps no_lists (closing ∷ x) ≡ closing ∷ x
    none [] x = refl
    none (p ∷ ps) x = refl
same_parts (p ∷ ps) (list_and vs (list_and ws ls)) (list_and us (list_and zs ks)) x y r a b e =
    let s = same_members p vs us _ _ r.0 a.0 b.0 (tails _ _ _ _ (tails _ _ _ _ e)) in
    let t = same_parts ps (list_and ws ls) (list_and zs ks) x y r.1 a.1 b.1 (tails _ _ _ _ s.1) in
    (rw (s.0, t.0) refl, t.1)

-- ---- occurrences

-- what is asked of the values' texts
abbrev IsDetermined : (ValueTree → Type 0) → (ValueTree → Texts → Texts) → Type 0
IsDetermined R onto = (v u : ValueTree) (x y : Texts) → R v → R u → onto v x ≡ onto u y → (v ≡ u) × (x ≡ y)

abbrev NeverCloses : (ValueTree → Type 0) → (ValueTree → Texts → Texts) → Type 0
NeverCloses R onto = (v : ValueTree) (x y : Texts) → R v → onto v x ≡ closing ∷ y → ⊥

same_each : (R : ValueTree → Type 0) (onto : ValueTree → Texts → Texts) → IsDetermined R onto → NeverCloses R onto → (vs us : ValuesTree) (x y : Texts) → EachShape R vs → EachShape R us
    → each_onto onto vs (closing ∷ x) ≡ each_onto onto us (closing ∷ y) → (vs ≡ us) × (x ≡ y)
same_each R onto d n no_values no_values x y a b e = (refl, tails _ _ _ _ e)
same_each R onto d n no_values (value_and u us) x y a b e = absurd (n u (each_onto onto us (closing ∷ y)) x b.0 (sym e))
same_each R onto d n (value_and v vs) no_values x y a b e = absurd (n v (each_onto onto vs (closing ∷ x)) y a.0 e)
same_each R onto d n (value_and v vs) (value_and u us) x y a b e =
    let s = d v u (each_onto onto vs (closing ∷ x)) (each_onto onto us (closing ∷ y)) a.0 b.0 e in
    let t = same_each R onto d n vs us x y a.1 b.1 s.1 in
    (rw (s.0, t.0) refl, t.1)

-- ---- explicit contents

bytes : (xs : List ℕ) → AreOctets xs → IsBytes xs
bytes [] h i = omega arith
bytes (x ∷ xs) h zero = h.0
bytes (x ∷ xs) h (suc i) = bytes xs h.1 i

abbrev decoded : List ℕ → Result (List ℕ) FromHexError
decoded xs = Ok xs

decoded_same : (xs ys : List ℕ) → decoded xs ≡ decoded ys → xs ≡ ys
decoded_same xs ys e = cc

rest_of : (a b : ℕ) (x y : List ℕ) → a ∷ x ≡ b ∷ y → x ≡ y
rest_of a b x y e = cc

pub same_hex : (xs ys : List ℕ) → AreOctets xs → AreOctets ys → hex_text xs ≡ hex_text ys → xs ≡ ys
same_hex xs ys a b e =
    let inner : encode_lower xs ≡ encode_lower ys = append_cancel_right (encode_lower xs) (encode_lower ys) (quote ∷ []) (rest_of quote quote _ _ e) in
    decoded_same xs ys (sym (decode_of-encode_lower xs (bytes xs a)) ∙ ap decode_of inner ∙ decode_of-encode_lower ys (bytes ys b))

hex_never : (xs : List ℕ) → hex_text xs ≡ closing → ⊥
hex_never xs e = let bad : quote ≡ 125 = first_is quote 125 _ _ e in omega (arith, bad)
  where
    first_is : (a b : ℕ) (x y : List ℕ) → a ∷ x ≡ b ∷ y → a ≡ b
    first_is a b x y e = cc

-- ---- kinds

-- a name doesn't close
name_never : (name : List ℕ) → IsName name → name ≡ closing → ⊥
name_never name h e = let bad : IsName closing = subst IsName e h in no bad.2
  where
    no : IsTrue false → ⊥
    no e = cc

abbrev Never : List ℕ → Texts → Type 0
Never name t = (y : Texts) → t ≡ name ∷ y → ⊥

never_choice : (b : Bool) (S T : Type 0) (p q : Texts) (name : List ℕ) → MatchBool b S T → (S → Never name p) → (T → Never name q) → Never name (cond b p q)
never_choice true S T p q name h f g = f h
never_choice false S T p q name h f g = g h

-- entries that are closed don't begin with a name that no slot has
pub entries_never : (s : ℕ) (ss : SlotsTree) (es : EntriesTree) (x : Texts) (name : List ℕ) → IsName name → Lacks name ss → EntriesShape s ss es → Never name (entries_onto s ss es (closing ∷ x))
entries_never s no_slots no_entries x name i l a y e = name_never name i (sym (heads _ _ _ _ e))
entries_never s no_slots (entry_and t v es) x name i l a y e = a
entries_never s (slot_and spare_slot ss) es x name i l a y e = entries_never (s + 1) ss es x name i l a y e
entries_never s (slot_and (subitem other k) ss) no_entries x name i l a y e = entries_never (s + 1) ss no_entries x name i l.1 a y e
entries_never s (slot_and (subitem other k) ss) (entry_and t v es) x name i l a y e =
    never_choice (t == s) _ _ _ _ name a (λ h z f. l.0 (heads _ _ _ _ f)) (λ h z f. entries_never (s + 1) ss (entry_and t v es) x name i l.1 h z f) y e

-- both entries are of the slot, one is, or none
both_choice : (b c : Bool) (t u s : ℕ) (S T U V : Type 0) (p q m n : Texts) (E : Type 0) → (t == s) ≡ b → (u == s) ≡ c → MatchBool b S T → MatchBool c U V → cond b p q ≡ cond c m n
    → (t ≡ u → S → U → p ≡ m → E) → (S → V → p ≡ n → E) → (T → U → q ≡ m → E) → (T → V → q ≡ n → E) → E
both_choice true true t u s S T U V p q m n E f g h k e one two three four = one (eqb-true t s f ∙ sym (eqb-true u s g)) h k e
both_choice true false t u s S T U V p q m n E f g h k e one two three four = two h k e
both_choice false true t u s S T U V p q m n E f g h k e one two three four = three h k e
both_choice false false t u s S T U V p q m n E f g h k e one two three four = four h k e

one_choice : (b : Bool) (S T : Type 0) (p q z : Texts) (E : Type 0) → MatchBool b S T → cond b p q ≡ z → (S → p ≡ z → E) → (T → q ≡ z → E) → E
one_choice true S T p q z E h e f g = f h e
one_choice false S T p q z E h e f g = g h e

mutual
  pub same_kind : (k : KindTree) (v u : ValueTree) (x y : Texts) → Readable k → KindNamed k → Shape k v → Shape k u → kind_onto k v x ≡ kind_onto k u y → (v ≡ u) × (x ≡ y)
  same_kind (fixed f) v u x y r n a b e = same_fixed f v u x y r a b e
  same_kind (extended last ps) (part_values ls) (part_values ks) x y r n a b e = let s = same_parts ps ls ks x y r.0 a b (tails _ _ _ _ e) in (ap part_values s.0, s.1)
  same_kind (extended last ps) (part_values ls) u x y r n a b e = absurd b
  same_kind (extended last ps) v u x y r n a b e = absurd a
  same_kind (counted size k) (occurrences vs) (occurrences us) x y r n a b e =
      let s = same_each (Shape k) (kind_onto k) (λ v u x y a b e. same_kind k v u x y r n a b e) (λ v x y a e. kind_never k v x y r a e) vs us x y a.1 b.1 (tails _ _ _ _ e) in
      (ap occurrences s.0, s.1)
  same_kind (counted size k) (occurrences vs) u x y r n a b e = absurd b
  same_kind (counted size k) v u x y r n a b e = absurd a
  same_kind (by_fx f) (occurrences vs) (occurrences us) x y r n a b e =
      let s = same_each (FixedShape f) (fixed_onto f) (λ v u x y a b e. same_fixed f v u x y r a b e) (λ v x y a e. fixed_never f v x y r a e) vs us x y a.1 b.1 (tails _ _ _ _ e) in
      (ap occurrences s.0, s.1)
  same_kind (by_fx f) (occurrences vs) u x y r n a b e = absurd b
  same_kind (by_fx f) v u x y r n a b e = absurd a
  same_kind explicit (content_octets xs) (content_octets ys) x y r n a b e = (ap content_octets (same_hex xs ys a.1 b.1 (heads _ _ _ _ e)), tails _ _ _ _ e)
  same_kind explicit (content_octets xs) u x y r n a b e = absurd b
  same_kind explicit v u x y r n a b e = absurd a
  same_kind (compound ss) (marked es) (marked fs) x y r n a b e = let s = same_entries 1 ss es fs x y r.1 n a b (tails _ _ _ _ e) in (ap marked s.0, s.1)
  same_kind (compound ss) (marked es) u x y r n a b e = absurd b
  same_kind (compound ss) v u x y r n a b e = absurd a

  pub kind_never : (k : KindTree) (v : ValueTree) (x y : Texts) → Readable k → Shape k v → kind_onto k v x ≡ closing ∷ y → ⊥
  kind_never (fixed f) v x y r a e = fixed_never f v x y r a e
  kind_never (extended last ps) (part_values ls) x y r a e = different opening closing refl (heads _ _ _ _ e)
  kind_never (extended last ps) v x y r a e = absurd a
  kind_never (counted size k) (occurrences vs) x y r a e = different opening closing refl (heads _ _ _ _ e)
  kind_never (counted size k) v x y r a e = absurd a
  kind_never (by_fx f) (occurrences vs) x y r a e = different opening closing refl (heads _ _ _ _ e)
  kind_never (by_fx f) v x y r a e = absurd a
  kind_never explicit (content_octets xs) x y r a e = hex_never xs (heads _ _ _ _ e)
  kind_never explicit v x y r a e = absurd a
  kind_never (compound ss) (marked es) x y r a e = different opening closing refl (heads _ _ _ _ e)
  kind_never (compound ss) v x y r a e = absurd a

  pub same_entries : (s : ℕ) (ss : SlotsTree) (es fs : EntriesTree) (x y : Texts) → SlotsReadable ss → SlotsNamed ss → EntriesShape s ss es → EntriesShape s ss fs → entries_onto s ss es (closing ∷ x) ≡ entries_onto s ss fs (closing ∷ y) → (es ≡ fs) × (x ≡ y)
  same_entries s no_slots no_entries no_entries x y r n a b e = (refl, tails _ _ _ _ e)
  same_entries s no_slots no_entries (entry_and u w fs) x y r n a b e = absurd b
  same_entries s no_slots (entry_and t v es) fs x y r n a b e = absurd a
  same_entries s (slot_and spare_slot ss) es fs x y r n a b e = same_entries (s + 1) ss es fs x y r.2 n a b e
  same_entries s (slot_and (subitem name k) ss) no_entries no_entries x y r n a b e = same_entries (s + 1) ss no_entries no_entries x y r.2 n.2 a b e
  same_entries s (slot_and (subitem name k) ss) no_entries (entry_and u w fs) x y r n a b e =
      one_choice (u == s) _ _ _ _ _ _ b (sym e) (λ h g. absurd (entries_never (s + 1) ss no_entries x name n.0 r.0 a _ (sym g))) (λ h g. same_entries (s + 1) ss no_entries (entry_and u w fs) x y r.2 n.2 a h (sym g))
  same_entries s (slot_and (subitem name k) ss) (entry_and t v es) no_entries x y r n a b e =
      one_choice (t == s) _ _ _ _ _ _ a e (λ h g. absurd (entries_never (s + 1) ss no_entries y name n.0 r.0 b _ (sym g))) (λ h g. same_entries (s + 1) ss (entry_and t v es) no_entries x y r.2 n.2 h b g)
  same_entries s (slot_and (subitem name k) ss) (entry_and t v es) (entry_and u w fs) x y r n a b e =
      both_choice (t == s) (u == s) t u s _ _ _ _ _ _ _ _ _ refl refl a b e
      (λ same h g d.
      let one = same_kind k v w (entries_onto (s + 1) ss es (closing ∷ x)) (entries_onto (s + 1) ss fs (closing ∷ y)) r.1 n.1 h.0 g.0 (tails _ _ _ _ d) in
      let rest = same_entries (s + 1) ss es fs x y r.2 n.2 h.1 g.1 one.1 in
      (rw (same, one.0, rest.0) refl, rest.1))
      (λ h g d. absurd (entries_never (s + 1) ss (entry_and u w fs) y name n.0 r.0 g _ (sym d)))
      (λ h g d. absurd (entries_never (s + 1) ss (entry_and t v es) x name n.0 r.0 h _ d))
      (λ h g d. same_entries (s + 1) ss (entry_and t v es) (entry_and u w fs) x y r.2 n.2 h g d)
