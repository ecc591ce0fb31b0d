-- A value is converted to at most one value.
use Rattle.std.proofs.Common.{◌≡◌, ℕ, ◌+◌, ◌==◌, Bool, true, false, MatchBool, refl, sym, ◌∙◌, ap}
use Rattle.ax_format.specs.Tree.{FixedTree, element, group, MembersTree, no_members, member_and, named, spare, KindTree, fixed, extended, counted, by_fx, explicit, compound, SlotsTree, no_slots, slot_and, spare_slot, subitem, ValueTree, number, member_values, occurrences, marked, ValuesTree, no_values, value_and, EntriesTree, no_entries, entry_and}
use Rattle.ax_format.specs.declared.content.Content.TheVariants.{Quantity}
use Rattle.ax_format.specs.declared.content.Content.{Content}
use Rattle.ax_rescale.proofs.Once.{once}
use Rattle.ax_rescale.specs.Converted.{NumberConverted, FixedConverted, MembersConverted, EachConverted, Converted, EntriesConverted}
use Rattle.ax_rescale.specs.Scales.{ContentScaled, FixedScaled, MembersScaled, Scaled, SlotsScaled}

number_once : (w : ℕ) (c : Content) (n u : ℕ) (d : Content) (m o : ℕ) → ContentScaled w c → ContentScaled u d → NumberConverted w c n u d m → NumberConverted w c n u d o → m ≡ o
number_once w (Quantity s) n u (Quantity t) m o a b h k = once s t w u n m o b.2 a.3 h k
number_once w _ n u _ m o a b h k = h ∙ sym k

mutual
  fixed_once : (f g : FixedTree) (v x y : ValueTree) → FixedScaled f → FixedScaled g → FixedConverted f g v x → FixedConverted f g v y → x ≡ y
  fixed_once (element w c) (element u d) (number n) (number m) (number o) a b h k = ap number (number_once w c n u d m o a b h k)
  fixed_once (element w c) (element u d) (number n) (number m) _ a b h k = absurd k
  fixed_once (group ms) (group ns) (member_values vs) (member_values xs) (member_values ys) a b h k = ap member_values (members_once ms ns vs xs ys a b h k)
  fixed_once (group ms) (group ns) (member_values vs) (member_values xs) _ a b h k = absurd k
  fixed_once _ _ _ _ _ a b h k = absurd h

  members_once : (ms ns : MembersTree) (vs xs ys : ValuesTree) → MembersScaled ms → MembersScaled ns → MembersConverted ms ns vs xs → MembersConverted ms ns vs ys → xs ≡ ys
  members_once no_members no_members no_values no_values no_values a b h k = refl
  members_once (member_and (named name f) ms) (member_and (named other g) ns) (value_and v vs) (value_and x xs) (value_and y ys) a b h k =
      let p = fixed_once f g v x y a.0 b.0 h.0 k.0 in
      let q = members_once ms ns vs xs ys a.1 b.1 h.1 k.1 in λ i. value_and (p i) (q i)
  members_once (member_and (spare w) ms) (member_and (spare u) ns) (value_and v vs) (value_and x xs) (value_and y ys) a b h k =
      let p = h.0 ∙ sym k.0 in
      let q = members_once ms ns vs xs ys a.1 b.1 h.1 k.1 in λ i. value_and (p i) (q i)
  members_once no_members no_members no_values no_values (value_and y ys) a b h k = absurd k
  members_once (member_and (named name f) ms) (member_and (spare u) ns) (value_and v vs) (value_and x xs) ys a b h k = absurd h.0
  members_once (member_and (spare w) ms) (member_and (named other g) ns) (value_and v vs) (value_and x xs) ys a b h k = absurd h.0
  members_once (member_and m ms) (member_and n ns) (value_and v vs) (value_and x xs) no_values a b h k = absurd k
  members_once _ _ _ _ _ a b h k = absurd h

each_once : (R : ValueTree → ValueTree → Type 0) → ((v x y : ValueTree) → R v x → R v y → x ≡ y) → (vs xs ys : ValuesTree) → EachConverted R vs xs → EachConverted R vs ys → xs ≡ ys
each_once R one no_values no_values no_values h k = refl
each_once R one (value_and v vs) (value_and x xs) (value_and y ys) h k =
    let p = one v x y h.0 k.0 in
    let q = each_once R one vs xs ys h.1 k.1 in λ i. value_and (p i) (q i)
each_once R one no_values no_values (value_and y ys) h k = absurd k
each_once R one (value_and v vs) (value_and x xs) no_values h k = absurd k
each_once R one _ _ _ h k = absurd h

entry_once : (c : Bool) (u w : ℕ) (x y : ValueTree) (xs ys : EntriesTree) (P Q R A B C : Type 0) → u ≡ w → (P → A → x ≡ y) → (Q → B → xs ≡ ys) → (R → C → entry_and u x xs ≡ entry_and w y ys)
    → MatchBool c (P × Q) R → MatchBool c (A × B) C → entry_and u x xs ≡ entry_and w y ys
entry_once true u w x y xs ys P Q R A B C e f g r h k =
    let p = f h.0 k.0 in
    let q = g h.1 k.1 in λ i. entry_and (e i) (p i) (q i)
entry_once false u w x y xs ys P Q R A B C e f g r h k = r h k

mutual
  pub converted_once : (k l : KindTree) (v x y : ValueTree) → Scaled k → Scaled l → Converted k l v x → Converted k l v y → x ≡ y
  converted_once (fixed f) (fixed g) v x y a b h j = fixed_once f g v x y a b h j
  converted_once (extended last ps) (extended other qs) v x y a b h j = h ∙ sym j
  converted_once (counted size k) (counted other l) (occurrences vs) (occurrences xs) (occurrences ys) a b h j =
      ap occurrences (each_once (Converted k l) (λ v x y p q. converted_once k l v x y a b p q) vs xs ys h j)
  converted_once (counted size k) (counted other l) (occurrences vs) (occurrences xs) _ a b h j = absurd j
  converted_once (by_fx f) (by_fx g) (occurrences vs) (occurrences xs) (occurrences ys) a b h j =
      ap occurrences (each_once (FixedConverted f g) (λ v x y p q. fixed_once f g v x y a b p q) vs xs ys h j)
  converted_once (by_fx f) (by_fx g) (occurrences vs) (occurrences xs) _ a b h j = absurd j
  converted_once explicit explicit v x y a b h j = h ∙ sym j
  converted_once (compound ss) (compound ts) (marked es) (marked xs) (marked ys) a b h j = ap marked (entries_once 1 ss ts es xs ys a b h j)
  converted_once (compound ss) (compound ts) (marked es) (marked xs) _ a b h j = absurd j
  converted_once _ _ _ _ _ a b h j = absurd h

  entries_once : (s : ℕ) (ss ts : SlotsTree) (es xs ys : EntriesTree) → SlotsScaled ss → SlotsScaled ts → EntriesConverted s ss ts es xs → EntriesConverted s ss ts es ys → xs ≡ ys
  entries_once s no_slots no_slots no_entries no_entries no_entries a b h j = refl
  entries_once s no_slots no_slots no_entries no_entries (entry_and w y ys) a b h j = absurd j
  entries_once s (slot_and spare_slot ss) (slot_and spare_slot ts) es xs ys a b h j = entries_once (s + 1) ss ts es xs ys a.1 b.1 h j
  entries_once s (slot_and (subitem name k) ss) (slot_and (subitem other l) ts) no_entries no_entries no_entries a b h j = refl
  entries_once s (slot_and (subitem name k) ss) (slot_and (subitem other l) ts) no_entries no_entries (entry_and w y ys) a b h j = absurd j
  entries_once s (slot_and (subitem name k) ss) (slot_and (subitem other l) ts) (entry_and t v es) (entry_and u x xs) (entry_and w y ys) a b h j =
      entry_once (t == s) u w x y xs ys (Converted k l v x) (EntriesConverted (s + 1) ss ts es xs) (EntriesConverted (s + 1) ss ts (entry_and t v es) (entry_and u x xs))
      (Converted k l v y) (EntriesConverted (s + 1) ss ts es ys) (EntriesConverted (s + 1) ss ts (entry_and t v es) (entry_and w y ys))
      (h.0 ∙ sym j.0) (converted_once k l v x y a.0 b.0) (entries_once (s + 1) ss ts es xs ys a.1 b.1)
      (entries_once (s + 1) ss ts (entry_and t v es) (entry_and u x xs) (entry_and w y ys) a.1 b.1) h.1 j.1
  entries_once s (slot_and (subitem name k) ss) (slot_and (subitem other l) ts) (entry_and t v es) (entry_and u x xs) no_entries a b h j = absurd j
  entries_once _ _ _ _ _ _ a b h j = absurd h
