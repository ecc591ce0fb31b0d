-- The function that converts a value tells of the relation: it holds the converted value, or there is none.
use Rattle.std.proofs.Common.{◌≡◌, ℕ, zero, suc, ◌+◌, ◌^◌, ◌<◌, ◌≤◌, ◌==◌, Bool, true, false, cond, Option, Some, None, option_map, MatchBool, refl, sym, ◌∙◌, ap, subst, arith, Result, Ok, Err}
use Rattle.std.specs.List.{find, range_with_len}
use Rattle.std.specs.Prelude.{IfSome, IfNone, IfOk}
use Rattle.std.specs.declared.alloc.AllocError.{AllocError}
use Rattle.std.proofs.lemmas.Bool.Decides.{Decides-int_eq}
use Rattle.ax_format.specs.Tree.{FixedTree, element, group, MembersTree, no_members, member_and, MemberTree, named, spare, KindTree, fixed, extended, counted, by_fx, explicit, compound, SlotsTree, no_slots, slot_and, spare_slot, subitem, ValueTree, number, member_values, occurrences, marked, ValuesTree, no_values, value_and, EntriesTree, no_entries, entry_and}
use Rattle.ax_format.specs.declared.content.Content.{Content}
use Rattle.ax_format.specs.declared.content.Content.TheVariants.{Quantity}
use Rattle.ax_format.specs.Plain.{value_tree}
use Rattle.ax_format.specs.declared.value.Value.{Value}
use Rattle.std.proofs.lemmas.Bool.{eqb-true, eqb-false}
use Rattle.ax_rescale.proofs.ConvertedOnce.{converted_once}
use Rattle.ax_rescale.specs.Converted.{NumberConverted, FixedConverted, MemberConverted, MembersConverted, EachConverted, Converted, EntriesConverted}
use Rattle.ax_rescale.specs.ConvertedValue.{stands_for, converted_quantity, converted_number, value_before, converted_fixed, converted_member, converted_members, each_converted, entry_before, converted_value, converted_slots}
use Rattle.ax_rescale.specs.Rescaled.{IsConverted}
use Rattle.ax_rescale.specs.Scales.{Scaled}
use Rattle.ax_rescale.specs.Tells.{Tells}

-- ---- numbers

record FoundIn (test : ℕ → Bool) (a n m : ℕ) : Type 0 where
  passes : test m ≡ true
  from : a ≤ m
  below : m < a + n

found_in : (test : ℕ → Bool) (a n : ℕ) → Tells (find test (range_with_len a n)) (FoundIn test a n)
found_in test a zero = λ m h. absurd (omega (arith, h.from, h.below))
found_in test a (suc n) = by (test a) refl (find test (range_with_len (a + 1) n)) (found_in test (a + 1) n)
  where
    by : (b : Bool) → test a ≡ b → (o : Option ℕ) → Tells o (FoundIn test (a + 1) n) → Tells (cond b (Some a) o) (FoundIn test a (suc n))
    by true e o h = record { passes = e; from = omega arith; below = omega arith }
    by false e None h = λ m g. h m (record { passes = g.passes; from = later m g; below = let k = g.below in omega (arith, k) })
      where
        later : (m : ℕ) → FoundIn test a (suc n) m → a + 1 ≤ m
        later m g = by_eq (a == m) refl
          where
            by_eq : (c : Bool) → (a == m) ≡ c → a + 1 ≤ m
            by_eq true q = absurd (let same : a ≡ m = eqb-true a m q in let f : false ≡ true = sym e ∙ ap test same ∙ g.passes in cc)
            by_eq false q = let ne : a ≡ m → ⊥ = eqb-false a m q in let k = g.from in omega (arith, k, ne)
    by false e (Some m) h = record { passes = h.passes; from = let k = h.from in omega (arith, k); below = let k = h.below in omega (arith, k) }

number_tells : (w : ℕ) (c : Content) (n u : ℕ) (d : Content) → Tells (converted_number w c n u d) (NumberConverted w c n u d)
number_tells w (Quantity s) n u (Quantity t) = by (converted_quantity w s n u t) (found_in (stands_for w s n u t) 0 (2 ^ u))
  where
    by : (o : Option ℕ) → Tells o (FoundIn (stands_for w s n u t) 0 (2 ^ u)) → Tells o (IsConverted w s n u t)
    by None h = λ m g. h m (record { passes = (Decides-int_eq _ _).1 g.same; from = omega arith; below = let k = g.fits in omega (arith, k) })
    by (Some m) h = record { fits = let k = h.below in omega (arith, k); same = (Decides-int_eq _ _).0 h.passes }
number_tells w (Quantity s) n u _ = refl
number_tells w _ n u d = refl

-- ---- options of parts

map_tells : {A B : Type 0} (f : A → B) (R : A → Type 0) (S : B → Type 0) → ((m : A) → R m → S (f m)) → ((x : B) → S x → (m : A) × R m) → (o : Option A) → Tells o R → Tells (option_map f o) S
map_tells f R S into back None h = λ x s. let r = back x s in h r.0 r.1
map_tells f R S into back (Some m) h = into m h

values_tell : (R : ValueTree → Type 0) (S T : ValuesTree → Type 0) → ((x : ValueTree) (xs : ValuesTree) → R x → S xs → T (value_and x xs)) → ((ys : ValuesTree) → T ys → (x : ValueTree) × (xs : ValuesTree) × R x × S xs)
    → (o : Option ValueTree) (p : Option ValuesTree) → Tells o R → Tells p S → Tells (value_before o p) T
values_tell R S T into back None p g h = λ ys t. let r = back ys t in g r.0 r.2
values_tell R S T into back (Some x) None g h = λ ys t. let r = back ys t in h r.1 r.3
values_tell R S T into back (Some x) (Some xs) g h = into x xs g h

-- ---- fixed kinds

mutual
  fixed_tells : (f g : FixedTree) (v : ValueTree) → Tells (converted_fixed f g v) (FixedConverted f g v)
  fixed_tells (element w c) (element u d) (number n) =
      map_tells number (NumberConverted w c n u d) (FixedConverted (element w c) (element u d) (number n)) (λ m h. h) back (converted_number w c n u d) (number_tells w c n u d)
    where
      back : (x : ValueTree) → FixedConverted (element w c) (element u d) (number n) x → (m : ℕ) × NumberConverted w c n u d m
      back (number m) h = (m, h)
      back _ h = absurd h
  fixed_tells (group ms) (group ns) (member_values vs) =
      map_tells member_values (MembersConverted ms ns vs) (FixedConverted (group ms) (group ns) (member_values vs)) (λ xs h. h) back (converted_members ms ns vs) (members_tell ms ns vs)
    where
      back : (x : ValueTree) → FixedConverted (group ms) (group ns) (member_values vs) x → (xs : ValuesTree) × MembersConverted ms ns vs xs
      back (member_values xs) h = (xs, h)
      back _ h = absurd h
  fixed_tells _ _ _ = λ x h. h

  member_tells : (m n : MemberTree) (v : ValueTree) → Tells (converted_member m n v) (MemberConverted m n v)
  member_tells (named name f) (named other g) v = fixed_tells f g v
  member_tells (spare w) (spare u) v = refl
  member_tells (named name f) (spare u) v = λ x h. h
  member_tells (spare w) (named other g) v = λ x h. h

  members_tell : (ms ns : MembersTree) (vs : ValuesTree) → Tells (converted_members ms ns vs) (MembersConverted ms ns vs)
  members_tell no_members no_members no_values = tt
  members_tell (member_and m ms) (member_and n ns) (value_and v vs) =
      values_tell (MemberConverted m n v) (MembersConverted ms ns vs) (MembersConverted (member_and m ms) (member_and n ns) (value_and v vs)) (λ x xs a b. (a, b)) back
      (converted_member m n v) (converted_members ms ns vs) (member_tells m n v) (members_tell ms ns vs)
    where
      back : (ys : ValuesTree) → MembersConverted (member_and m ms) (member_and n ns) (value_and v vs) ys → (x : ValueTree) × (xs : ValuesTree) × MemberConverted m n v x × MembersConverted ms ns vs xs
      back (value_and x xs) h = (x, xs, h.0, h.1)
      back no_values h = absurd h
  members_tell _ _ _ = λ x h. h

-- ---- occurrences

each_tells : (rule : ValueTree → Option ValueTree) (R : ValueTree → ValueTree → Type 0) → ((v : ValueTree) → Tells (rule v) (R v)) → (vs : ValuesTree) → Tells (each_converted rule vs) (EachConverted R vs)
each_tells rule R one no_values = tt
each_tells rule R one (value_and v vs) =
    values_tell (R v) (EachConverted R vs) (EachConverted R (value_and v vs)) (λ x xs a b. (a, b)) back (rule v) (each_converted rule vs) (one v) (each_tells rule R one vs)
  where
    back : (ys : ValuesTree) → EachConverted R (value_and v vs) ys → (x : ValueTree) × (xs : ValuesTree) × R v x × EachConverted R vs xs
    back (value_and x xs) h = (x, xs, h.0, h.1)
    back no_values h = absurd h

-- ---- entries

-- of no entries none are made
none_made : (s : ℕ) (ss ts : SlotsTree) (x : EntriesTree) → EntriesConverted s ss ts no_entries x → x ≡ no_entries
none_made s ss ts no_entries h = refl
none_made s (slot_and spare_slot ss) (slot_and spare_slot ts) (entry_and u x xs) h = none_made (s + 1) ss ts (entry_and u x xs) h
none_made s no_slots no_slots (entry_and u x xs) h = absurd h
none_made s no_slots (slot_and t ts) (entry_and u x xs) h = absurd h
none_made s (slot_and (subitem name k) ss) (slot_and (subitem other l) ts) (entry_and u x xs) h = absurd h
none_made s (slot_and (subitem name k) ss) (slot_and spare_slot ts) (entry_and u x xs) h = absurd h
none_made s (slot_and spare_slot ss) (slot_and (subitem other l) ts) (entry_and u x xs) h = absurd h
none_made s (slot_and (subitem name k) ss) no_slots (entry_and u x xs) h = absurd h
none_made s (slot_and spare_slot ss) no_slots (entry_and u x xs) h = absurd h

record FirstMade (t : ℕ) (x : EntriesTree) : Type 0 where
  value : ValueTree
  rest : EntriesTree
  is : x ≡ entry_and t value rest

-- the first entry that is made has the number of the first one
first_made : (s : ℕ) (ss ts : SlotsTree) (t : ℕ) (v : ValueTree) (es x : EntriesTree) → EntriesConverted s ss ts (entry_and t v es) x → FirstMade t x
first_made s (slot_and spare_slot ss) (slot_and spare_slot ts) t v es x h = first_made (s + 1) ss ts t v es x h
first_made s (slot_and (subitem name k) ss) (slot_and (subitem other l) ts) t v es (entry_and u x xs) h = record { value = x; rest = xs; is = ap (λ n. entry_and n x xs) h.0 }
first_made s (slot_and (subitem name k) ss) (slot_and (subitem other l) ts) t v es no_entries h = absurd h
first_made s no_slots no_slots t v es x h = absurd h
first_made s no_slots (slot_and n ts) t v es x h = absurd h
first_made s (slot_and (subitem name k) ss) (slot_and spare_slot ts) t v es x h = absurd h
first_made s (slot_and spare_slot ss) (slot_and (subitem other l) ts) t v es x h = absurd h
first_made s (slot_and (subitem name k) ss) no_slots t v es x h = absurd h
first_made s (slot_and spare_slot ss) no_slots t v es x h = absurd h

mutual
  pub value_tells : (k l : KindTree) (v : ValueTree) → Tells (converted_value k l v) (Converted k l v)
  value_tells (fixed f) (fixed g) v = fixed_tells f g v
  value_tells (extended last ps) (extended other qs) v = refl
  value_tells (counted size k) (counted other l) (occurrences vs) =
      map_tells occurrences (EachConverted (Converted k l) vs) (Converted (counted size k) (counted other l) (occurrences vs)) (λ xs h. h) back (each_converted (converted_value k l) vs)
      (each_tells (converted_value k l) (Converted k l) (λ v. value_tells k l v) vs)
    where
      back : (x : ValueTree) → Converted (counted size k) (counted other l) (occurrences vs) x → (xs : ValuesTree) × EachConverted (Converted k l) vs xs
      back (occurrences xs) h = (xs, h)
      back _ h = absurd h
  value_tells (by_fx f) (by_fx g) (occurrences vs) =
      map_tells occurrences (EachConverted (FixedConverted f g) vs) (Converted (by_fx f) (by_fx g) (occurrences vs)) (λ xs h. h) back (each_converted (converted_fixed f g) vs)
      (each_tells (converted_fixed f g) (FixedConverted f g) (λ v. fixed_tells f g v) vs)
    where
      back : (x : ValueTree) → Converted (by_fx f) (by_fx g) (occurrences vs) x → (xs : ValuesTree) × EachConverted (FixedConverted f g) vs xs
      back (occurrences xs) h = (xs, h)
      back _ h = absurd h
  value_tells explicit explicit v = refl
  value_tells (compound ss) (compound ts) (marked es) =
      map_tells marked (EntriesConverted 1 ss ts es) (Converted (compound ss) (compound ts) (marked es)) (λ xs h. h) back (converted_slots 1 ss ts es) (slots_tell 1 ss ts es)
    where
      back : (x : ValueTree) → Converted (compound ss) (compound ts) (marked es) x → (xs : EntriesTree) × EntriesConverted 1 ss ts es xs
      back (marked xs) h = (xs, h)
      back _ h = absurd h
  value_tells _ _ _ = λ x h. h

  slots_tell : (s : ℕ) (ss ts : SlotsTree) (es : EntriesTree) → Tells (converted_slots s ss ts es) (EntriesConverted s ss ts es)
  slots_tell s no_slots no_slots no_entries = tt
  slots_tell s (slot_and spare_slot ss) (slot_and spare_slot ts) es = slots_tell (s + 1) ss ts es
  slots_tell s (slot_and (subitem name k) ss) (slot_and (subitem other l) ts) no_entries = by (converted_slots (s + 1) ss ts no_entries) (slots_tell (s + 1) ss ts no_entries)
    where
      by : (o : Option EntriesTree) → Tells o (EntriesConverted (s + 1) ss ts no_entries) → Tells o (EntriesConverted s (slot_and (subitem name k) ss) (slot_and (subitem other l) ts) no_entries)
      by None h = none
        where
          none : (x : EntriesTree) → EntriesConverted s (slot_and (subitem name k) ss) (slot_and (subitem other l) ts) no_entries x → ⊥
          none no_entries g = h no_entries g
          none (entry_and u x xs) g = g
      by (Some x) h =
          let is = none_made (s + 1) ss ts x h in
          let P : EntriesTree → Type 0 = λ y. EntriesConverted (s + 1) ss ts no_entries y in
          let Q : EntriesTree → Type 0 = λ y. EntriesConverted s (slot_and (subitem name k) ss) (slot_and (subitem other l) ts) no_entries y in subst Q (sym is) (subst P is h)
  slots_tell s (slot_and (subitem name k) ss) (slot_and (subitem other l) ts) (entry_and t v es) =
      by (t == s) refl (converted_value k l v) (value_tells k l v) (converted_slots (s + 1) ss ts es) (slots_tell (s + 1) ss ts es) (converted_slots (s + 1) ss ts (entry_and t v es)) (slots_tell (s + 1) ss ts (entry_and t v es))
    where
      match : (c b : Bool) (P Q : Type 0) → c ≡ b → MatchBool c P Q → MatchBool b P Q
      match c b P Q e h = let R : Bool → Type 0 = λ x. MatchBool x P Q in subst R e h

      by : (b : Bool) → (t == s) ≡ b → (o : Option ValueTree) → Tells o (Converted k l v) → (p : Option EntriesTree) → Tells p (EntriesConverted (s + 1) ss ts es)
          → (q : Option EntriesTree) → Tells q (EntriesConverted (s + 1) ss ts (entry_and t v es)) → Tells (cond b (entry_before t o p) q) (EntriesConverted s (slot_and (subitem name k) ss) (slot_and (subitem other l) ts) (entry_and t v es))
      by true e None g p h q j = none
        where
          none : (y : EntriesTree) → EntriesConverted s (slot_and (subitem name k) ss) (slot_and (subitem other l) ts) (entry_and t v es) y → ⊥
          none no_entries n = n
          none (entry_and u x xs) n = g x (match (t == s) true (Converted k l v x × EntriesConverted (s + 1) ss ts es xs) (EntriesConverted (s + 1) ss ts (entry_and t v es) (entry_and u x xs)) e n.1).0
      by true e (Some x) g None h q j = none
        where
          none : (y : EntriesTree) → EntriesConverted s (slot_and (subitem name k) ss) (slot_and (subitem other l) ts) (entry_and t v es) y → ⊥
          none no_entries n = n
          none (entry_and u x xs) n = h xs (match (t == s) true (Converted k l v x × EntriesConverted (s + 1) ss ts es xs) (EntriesConverted (s + 1) ss ts (entry_and t v es) (entry_and u x xs)) e n.1).1
      by true e (Some x) g (Some xs) h q j = (refl, match true (t == s) (Converted k l v x × EntriesConverted (s + 1) ss ts es xs) (EntriesConverted (s + 1) ss ts (entry_and t v es) (entry_and t x xs)) (sym e) (g, h))
      by false e o g p h None j = none
        where
          none : (y : EntriesTree) → EntriesConverted s (slot_and (subitem name k) ss) (slot_and (subitem other l) ts) (entry_and t v es) y → ⊥
          none no_entries n = n
          none (entry_and u x xs) n = j (entry_and u x xs) (match (t == s) false (Converted k l v x × EntriesConverted (s + 1) ss ts es xs) (EntriesConverted (s + 1) ss ts (entry_and t v es) (entry_and u x xs)) e n.1)
      by false e o g p h (Some y) j =
          let f = first_made (s + 1) ss ts t v es y j in
          let P : EntriesTree → Type 0 = λ z. EntriesConverted (s + 1) ss ts (entry_and t v es) z in
          let Q : EntriesTree → Type 0 = λ z. EntriesConverted s (slot_and (subitem name k) ss) (slot_and (subitem other l) ts) (entry_and t v es) z in
          subst Q (sym f.is) (refl, match false (t == s) (Converted k l v f.value × EntriesConverted (s + 1) ss ts es f.rest) (EntriesConverted (s + 1) ss ts (entry_and t v es) (entry_and t f.value f.rest)) (sym e) (subst P f.is j))
  slots_tell _ _ _ _ = λ x h. h

-- ---- as equations

pub value_is : (k l : KindTree) (v x : ValueTree) → Scaled k → Scaled l → Converted k l v x → converted_value k l v ≡ Some x
value_is k l v x a b h = by (converted_value k l v) (value_tells k l v)
  where
    by : (o : Option ValueTree) → Tells o (Converted k l v) → o ≡ Some x
    by None t = absurd (t x h)
    by (Some y) t = ap Some (converted_once k l v y x a b t h)

pub no_value : (k l : KindTree) (v : ValueTree) → ((x : ValueTree) → Converted k l v x → ⊥) → converted_value k l v ≡ None
no_value k l v none = by (converted_value k l v) (value_tells k l v)
  where
    by : (o : Option ValueTree) → Tells o (Converted k l v) → o ≡ None
    by None t = refl
    by (Some y) t = absurd (none y t)

pub is_value : (k l : KindTree) (v x : ValueTree) → converted_value k l v ≡ Some x → Converted k l v x
is_value k l v x e = let P : Option ValueTree → Type 0 = λ o. Tells o (Converted k l v) in subst P e (value_tells k l v)

option_is : (k l : KindTree) (v : ValueTree) (made : Option Value) → Scaled k → Scaled l → IfSome made (λ x. Converted k l v (value_tree x)) → IfNone made ((x : ValueTree) → Converted k l v x → ⊥)
    → option_map value_tree made ≡ converted_value k l v
option_is k l v None a b some none = sym (no_value k l v none)
option_is k l v (Some x) a b some none = sym (value_is k l v (value_tree x) a b some)

pub result_is : (k l : KindTree) (v : ValueTree) (r : Result (Option Value) AllocError) → Scaled k → Scaled l → IfOk r (λ made. IfSome made (λ x. Converted k l v (value_tree x))) → IfOk r (λ made. IfNone made ((x : ValueTree) → Converted k l v x → ⊥))
    → IfOk r (λ made. option_map value_tree made ≡ converted_value k l v)
result_is k l v (Ok made) a b some none = option_is k l v made a b some none
result_is k l v (Err e) a b some none = tt
