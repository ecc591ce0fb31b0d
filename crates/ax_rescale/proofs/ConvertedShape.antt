-- A converted value has the new kind's shape.
use Rattle.std.proofs.Common.{◌≡◌, ℕ, suc, ◌+◌, ◌^◌, ◌<◌, ◌==◌, Bool, true, false, ◌&&◌, bytes_eq, MatchBool, refl, sym, ap, subst}
use Rattle.std.proofs.lemmas.Bool.{eqb-true}
use Rattle.ax_relation.proofs.SameKinds.{both, same_kinds}
use Rattle.ax_relation.proofs.SameShape.{same_shape}
use Rattle.ax_format.specs.Same.{is_same_fixed, are_same_members, is_same_counter, is_same, are_same_slots}
use Rattle.ax_format.specs.Shape.{NumberShape, FixedShape, MembersShape, EachShape, Shape, EntriesShape}
use Rattle.ax_format.specs.Tree.{FixedTree, element, group, MembersTree, no_members, member_and, named, spare, KindTree, fixed, extended, counted, by_fx, explicit, compound, SlotsTree, no_slots, slot_and, spare_slot, subitem, ValueTree, number, member_values, occurrences, marked, ValuesTree, no_values, value_and, value_count, EntriesTree, no_entries, entry_and}
use Rattle.ax_format.specs.Widths.{counter_width}
use Rattle.ax_format.specs.declared.content.Content.TheVariants.{Quantity}
use Rattle.ax_format.specs.declared.content.Content.{Content}
use Rattle.ax_format.specs.declared.kind.Counter.TheVariants.{One, Two}
use Rattle.ax_format.specs.declared.kind.Counter.{Counter}
use Rattle.ax_rescale.proofs.AlikeKinds.{unscaled_same}
use Rattle.ax_rescale.specs.Alike.{Alike, unscaled_fixed, unscaled_members, unscaled, unscaled_slots}
use Rattle.ax_rescale.specs.Converted.{NumberConverted, FixedConverted, MembersConverted, EachConverted, Converted, EntriesConverted}

never : (b : Bool) → (b && false) ≡ true → ⊥
never true e = absurd (cc)
never false e = absurd (cc)

-- a number of w bits that stays is one of as many bits
stays : (w u n m : ℕ) (b : Bool) → (w == u) && b ≡ true → n < 2 ^ w → m ≡ n → m < 2 ^ u
stays w u n m b e lt is =
    let P : ℕ → Type 0 = λ k. m < 2 ^ k in
    let Q : ℕ → Type 0 = λ k. k < 2 ^ w in subst P (eqb-true w u (both (w == u) b e).0) (subst Q (sym is) lt)

number_shape : (w : ℕ) (c : Content) (n u : ℕ) (d : Content) (m : ℕ) → is_same_fixed (unscaled_fixed (element w c)) (unscaled_fixed (element u d)) ≡ true → n < 2 ^ w → NumberConverted w c n u d m → m < 2 ^ u
number_shape w (Quantity s) n u (Quantity t) m e lt h = h.fits
number_shape w (Quantity s) n u _ m e lt h = absurd (never (0 == u) e)
number_shape w _ n u (Quantity t) m e lt h = absurd (never (w == 0) e)
number_shape w _ n u _ m e lt h = stays w u n m _ e lt h

spare_shape : (w u : ℕ) (v x : ValueTree) → (w == u) ≡ true → NumberShape w v → x ≡ v → NumberShape u x
spare_shape w u v x e h is =
    let P : ℕ → Type 0 = λ k. NumberShape k x in
    let Q : ValueTree → Type 0 = λ y. NumberShape w y in subst P (eqb-true w u e) (subst Q (sym is) h)

mutual
  fixed_shape : (f g : FixedTree) (v x : ValueTree) → is_same_fixed (unscaled_fixed f) (unscaled_fixed g) ≡ true → FixedShape f v → FixedConverted f g v x → FixedShape g x
  fixed_shape (element w c) (element u d) (number n) (number m) e a h = number_shape w c n u d m e a h
  fixed_shape (group ms) (group ns) (member_values vs) (member_values xs) e a h = members_shape ms ns vs xs e a h
  fixed_shape _ _ _ _ e a h = absurd h

  members_shape : (ms ns : MembersTree) (vs xs : ValuesTree) → are_same_members (unscaled_members ms) (unscaled_members ns) ≡ true → MembersShape ms vs → MembersConverted ms ns vs xs → MembersShape ns xs
  members_shape no_members no_members no_values no_values e a h = tt
  members_shape (member_and (named name f) ms) (member_and (named other g) ns) (value_and v vs) (value_and x xs) e a h =
      let p = both (bytes_eq name other && is_same_fixed (unscaled_fixed f) (unscaled_fixed g)) (are_same_members (unscaled_members ms) (unscaled_members ns)) e in
      let q = both (bytes_eq name other) (is_same_fixed (unscaled_fixed f) (unscaled_fixed g)) p.0 in
      (fixed_shape f g v x q.1 a.0 h.0, members_shape ms ns vs xs p.1 a.1 h.1)
  members_shape (member_and (spare w) ms) (member_and (spare u) ns) (value_and v vs) (value_and x xs) e a h =
      let p = both (w == u) (are_same_members (unscaled_members ms) (unscaled_members ns)) e in
      (spare_shape w u v x p.0 a.0 h.0, members_shape ms ns vs xs p.1 a.1 h.1)
  members_shape (member_and (named name f) ms) (member_and (spare u) ns) (value_and v vs) (value_and x xs) e a h = absurd h.0
  members_shape (member_and (spare w) ms) (member_and (named other g) ns) (value_and v vs) (value_and x xs) e a h = absurd h.0
  members_shape _ _ _ _ e a h = absurd h

each_count : (R : ValueTree → ValueTree → Type 0) (vs xs : ValuesTree) → EachConverted R vs xs → value_count vs ≡ value_count xs
each_count R no_values no_values h = refl
each_count R (value_and v vs) (value_and x xs) h = ap suc (each_count R vs xs h.1)
each_count R _ _ h = absurd h

each_shape : (R : ValueTree → ValueTree → Type 0) (A B : ValueTree → Type 0) → ((v x : ValueTree) → A v → R v x → B x) → (vs xs : ValuesTree) → EachShape A vs → EachConverted R vs xs → EachShape B xs
each_shape R A B one no_values no_values a h = tt
each_shape R A B one (value_and v vs) (value_and x xs) a h = (one v x a.0 h.0, each_shape R A B one vs xs a.1 h.1)
each_shape R A B one _ _ a h = absurd h

counter_same : (c d : Counter) → is_same_counter c d ≡ true → counter_width c ≡ counter_width d
counter_same One One e = refl
counter_same Two Two e = refl
counter_same One Two e = absurd (cc)
counter_same Two One e = absurd (cc)

entry_shape : (s t u : ℕ) (A B C P Q R F G H : Type 0) → u ≡ t → (A → P → F) → (B → Q → G) → (C → R → H) → MatchBool (t == s) (A × B) C → MatchBool (t == s) (P × Q) R → MatchBool (u == s) (F × G) H
entry_shape s t u A B C P Q R F G H is f g r a h =
    let T : ℕ → Type 0 = λ n. MatchBool (n == s) (F × G) H in subst T (sym is) (by (t == s) a h)
  where
    by : (b : Bool) → MatchBool b (A × B) C → MatchBool b (P × Q) R → MatchBool b (F × G) H
    by true a h = (f a.0 h.0, g a.1 h.1)
    by false a h = r a h

mutual
  kind_shape : (k l : KindTree) (v x : ValueTree) → is_same (unscaled k) (unscaled l) ≡ true → Shape k v → Converted k l v x → Shape l x
  kind_shape (fixed f) (fixed g) v x e a h = fixed_shape f g v x e a h
  kind_shape (extended last ps) (extended other qs) v x e a h =
      let Q : ValueTree → Type 0 = λ y. Shape (extended other qs) y in
      subst Q (sym h) (same_shape (extended last ps) (extended other qs) v (same_kinds (extended last ps) (extended other qs) e) a)
  kind_shape (counted size k) (counted other l) (occurrences vs) (occurrences xs) e a h =
      let p = both (is_same_counter size other) (is_same (unscaled k) (unscaled l)) e in
      let P : ℕ → Type 0 = λ n. n < 2 ^ counter_width size in
      let Q : ℕ → Type 0 = λ n. value_count xs < 2 ^ n in
      (subst Q (counter_same size other p.0) (subst P (each_count (Converted k l) vs xs h) a.0), each_shape (Converted k l) (Shape k) (Shape l) (λ v x b j. kind_shape k l v x p.1 b j) vs xs a.1 h)
  kind_shape (by_fx f) (by_fx g) (occurrences vs) (occurrences xs) e a h =
      let P : ℕ → Type 0 = λ n. 0 < n in
      (subst P (each_count (FixedConverted f g) vs xs h) a.0, each_shape (FixedConverted f g) (FixedShape f) (FixedShape g) (λ v x b j. fixed_shape f g v x e b j) vs xs a.1 h)
  kind_shape explicit explicit v x e a h = let Q : ValueTree → Type 0 = λ y. Shape explicit y in subst Q (sym h) a
  kind_shape (compound ss) (compound ts) (marked es) (marked xs) e a h = entries_shape 1 ss ts es xs e a h
  kind_shape _ _ _ _ e a h = absurd h

  entries_shape : (s : ℕ) (ss ts : SlotsTree) (es xs : EntriesTree) → are_same_slots (unscaled_slots ss) (unscaled_slots ts) ≡ true → EntriesShape s ss es → EntriesConverted s ss ts es xs → EntriesShape s ts xs
  entries_shape s no_slots no_slots no_entries no_entries e a h = tt
  entries_shape s (slot_and spare_slot ss) (slot_and spare_slot ts) es xs e a h = entries_shape (s + 1) ss ts es xs e a h
  entries_shape s (slot_and (subitem name k) ss) (slot_and (subitem other l) ts) no_entries no_entries e a h =
      entries_shape (s + 1) ss ts no_entries no_entries (both (bytes_eq name other && is_same (unscaled k) (unscaled l)) (are_same_slots (unscaled_slots ss) (unscaled_slots ts)) e).1 a h
  entries_shape s (slot_and (subitem name k) ss) (slot_and (subitem other l) ts) (entry_and t v es) (entry_and u x xs) e a h =
      let p = both (bytes_eq name other && is_same (unscaled k) (unscaled l)) (are_same_slots (unscaled_slots ss) (unscaled_slots ts)) e in
      let q = both (bytes_eq name other) (is_same (unscaled k) (unscaled l)) p.0 in
      entry_shape s t u (Shape k v) (EntriesShape (s + 1) ss es) (EntriesShape (s + 1) ss (entry_and t v es))
      (Converted k l v x) (EntriesConverted (s + 1) ss ts es xs) (EntriesConverted (s + 1) ss ts (entry_and t v es) (entry_and u x xs))
      (Shape l x) (EntriesShape (s + 1) ts xs) (EntriesShape (s + 1) ts (entry_and u x xs)) h.0
      (kind_shape k l v x q.1) (entries_shape (s + 1) ss ts es xs p.1) (entries_shape (s + 1) ss ts (entry_and t v es) (entry_and u x xs) p.1) a h.1
  entries_shape _ _ _ _ _ e a h = absurd h

pub converted_shape : (k l : KindTree) (v x : ValueTree) → Alike k l → Shape k v → Converted k l v x → Shape l x
converted_shape k l v x a s h = kind_shape k l v x (unscaled_same k l a) s h
