-- Readers of values of all kinds.
use Rattle.std.proofs.Common.{◌≡◌, ℕ, zero, suc, ◌+◌, ◌-◌, ◌^◌, ◌<◌, ◌≤◌, ◌==◌, ◌⊎◌, inl, inr, Bool, true, false, cond, List, [], ◌∷◌, ◌++◌, length, append_assoc, refl, sym, ◌∙◌, ap, subst, arith, lit<}
use Rattle.std.specs.Prelude.{MatchBool}
use Rattle.std.specs.List.{AllByRecursion}
use Rattle.std.proofs.lemmas.Bool.{cases_lt, eqb-true, ne_eqb, eq-eqb}
use Rattle.std.proofs.lemmas.Nat.{pow_pos}
use Rattle.ax_bits.specs.Bits.{AreOctets}
use Rattle.ax_block_reader.specs.Continuing.{Spelled}
use Rattle.ax_format.specs.Characters.{IsName}
use Rattle.ax_format.specs.Shape.{MembersShape, FixedShape, PartsShape, EachShape, Shape, EntriesShape}
use Rattle.ax_format.specs.Tree.{FixedTree, MembersTree, KindTree, fixed, extended, counted, by_fx, explicit, compound, SlotsTree, no_slots, slot_and, spare_slot, subitem, ValueTree, part_values, occurrences, content_octets, marked, ValuesTree, no_values, value_and, value_count, ListsTree, no_lists, list_and, EntriesTree, no_entries, entry_and}
use Rattle.ax_format.specs.Widths.{counter_width}
use Rattle.ax_format.specs.declared.kind.Counter.{Counter}
use Rattle.ax_format.specs.declared.kind.LastPart.{LastPart}
use Rattle.ax_text_form.proofs.Onto.{fixed_more, part_more, kind_more, entries_more}
use Rattle.ax_text_form.proofs.Unique.{tails, heads, different, same_members, same_fixed, fixed_never, same_hex, entries_never, same_kind, kind_never}
use Rattle.ax_text_form.specs.Names.{KindNamed, SlotsNamed}
use Rattle.ax_text_form.specs.Readable.{FixedReadable, MembersReadable, Lacks, Readable, SlotsReadable}
use Rattle.ax_text_form.specs.ValueText.{opening, closing, part_word, hex_text, fixed_onto, members_onto, part_onto, parts_onto, each_onto, kind_onto, entries_onto}
use Rattle.ax_tokens.proofs.Stops.{PrefixFree, NeverBegins}
use Rattle.ax_tokens.specs.Stopping.{Texts, Word, One, Then, joined, Closed}
use Rattle.ax_laws.proofs.FixedRead.{AreFixed, AreMembers, fixed_due, members_due, fixed_reading, members_reading}
use Rattle.ax_laws.proofs.HexRead.{IsHex, hex_or_not}
use Rattle.ax_laws.proofs.Readers.{IsOrNot, Reading, one_reading, word_reading, word_free, then_reading, same_reading, prefixed_reading, IsChoice, choice_reading, closed_reading, onto_free, onto_never}

-- ---- one value or more of a kind, up to the brace that closes them

module _ (R : ValueTree → Type 0) (onto : ValueTree → Texts → Texts) (more : (v : ValueTree) (x y : Texts) → onto v x ++ y ≡ onto v (x ++ y)) where
  abbrev One_of : Texts → Type 0
  One_of = Spelled R (λ v. onto v [])

  gather : (members : List Texts) → AllByRecursion One_of members → (vs : ValuesTree) × EachShape R vs × (joined members ++ closing ∷ [] ≡ each_onto onto vs (closing ∷ []))
  gather [] all = (no_values, tt, refl)
  gather (m ∷ members) all =
      let g = gather members all.1 in
      let v = all.0.0 in
      (value_and v g.0, (all.0.1, g.1), ap (λ x. (x ++ joined members) ++ closing ∷ []) all.0.2 ∙ ap (λ x. x ++ closing ∷ []) (more v [] (joined members)) ∙ more v (joined members) (closing ∷ []) ∙ ap (onto v) g.2)

  scatter : (vs : ValuesTree) → EachShape R vs → (members : List Texts) × AllByRecursion One_of members × (joined members ++ closing ∷ [] ≡ each_onto onto vs (closing ∷ []))
  scatter no_values h = ([], tt, refl)
  scatter (value_and v vs) h =
      let s = scatter vs h.1 in
      (onto v [] ∷ s.0, ((v, h.0, refl), s.1), ap (λ x. x ++ closing ∷ []) (more v [] (joined s.0)) ∙ more v (joined s.0) (closing ∷ []) ∙ ap (onto v) s.2)

  abbrev AreSome : Texts → Type 0
  AreSome = Spelled (λ vs. (0 < value_count vs) × EachShape R vs) (λ vs. each_onto onto vs (closing ∷ []))

  some_f : (t : Texts) → Then One_of (Closed One_of closing) t → AreSome t
  some_f t (a, b, e, (v, h, p), (members, all, q)) =
      let g = gather members all in
      (value_and v g.0, (omega arith, (h, g.1)), e ∙ ap (λ x. x ++ b) p ∙ more v [] b ∙ ap (onto v) (q ∙ g.2))

  some_back : (t : Texts) (vs : ValuesTree) → (0 < value_count vs) × EachShape R vs → t ≡ each_onto onto vs (closing ∷ []) → Then One_of (Closed One_of closing) t
  some_back t no_values h e = absurd (let lt = h.0 in omega (arith, lt))
  some_back t (value_and v vs) h e =
      let s = scatter vs h.1.1 in
      (onto v [], joined s.0 ++ closing ∷ [], e ∙ ap (onto v) (sym s.2) ∙ sym (more v [] (joined s.0 ++ closing ∷ [])), (v, h.1.0, refl), (s.0, s.1, refl))

  some_reading : PrefixFree One_of → NeverBegins One_of closing → ((old : Texts) → Reading One_of old) → (old : Texts) → Reading AreSome old
  some_reading free never element old =
      same_reading (Then One_of (Closed One_of closing)) AreSome old some_f (λ t m. some_back t m.0 m.1 m.2)
      (then_reading One_of (Closed One_of closing) (closing ∷ []) old ([], tt, refl) free (element old) (λ rest le. closed_reading One_of closing free never (length rest) (λ x less. element x) rest (omega arith)))

  -- ---- fewer than so many

  abbrev AreFew : ℕ → Texts → Type 0
  AreFew bound = Spelled (λ vs. (value_count vs < bound) × EachShape R vs) (λ vs. each_onto onto vs (closing ∷ []))

  none_back : (t : Texts) (vs : ValuesTree) → (value_count vs < 1) × EachShape R vs → t ≡ each_onto onto vs (closing ∷ []) → t ≡ closing ∷ []
  none_back t no_values h e = e
  none_back t (value_and v vs) h e = absurd (let lt = h.0 in omega (arith, lt))

  few_either : (m : ℕ) (t : Texts) (vs : ValuesTree) → (value_count vs < suc (suc m)) × EachShape R vs → t ≡ each_onto onto vs (closing ∷ []) → Word closing t ⊎ Then One_of (AreFew (suc m)) t
  few_either m t no_values h e = inl e
  few_either m t (value_and v vs) h e =
      inr (onto v [], each_onto onto vs (closing ∷ []), e ∙ sym (more v [] (each_onto onto vs (closing ∷ []))), (v, h.1.0, refl), (vs, (let lt = h.0 in omega (arith, lt), h.1.1), refl))

  then_never : (M : Texts → Type 0) → NeverBegins One_of closing → NeverBegins (Then One_of M) closing
  then_never M never member following x m h = never m.0 (m.1 ++ following) x m.3 (sym (append_assoc m.0 m.1 following) ∙ sym (ap (λ t. t ++ following) m.2) ∙ h)

  few_choice : (m : ℕ) → NeverBegins One_of closing → IsChoice (Word closing) (Then One_of (AreFew (suc m))) (AreFew (suc (suc m))) closing
  few_choice m never = record {
    first = λ t e. (no_values, (omega arith, tt), e);
    second = λ t k. (value_and k.3.0 k.4.0, (let lt = k.4.1.0 in omega (arith, lt), (k.3.1, k.4.1.1)), k.2 ∙ ap (λ x. x ++ k.1) k.3.2 ∙ more k.3.0 [] k.1 ∙ ap (onto k.3.0) k.4.2);
    either = λ t k. few_either m t k.0 k.1 k.2;
    begins = λ t e. ([], e);
    never = then_never (AreFew (suc m)) never;
  }

  few_reading : PrefixFree One_of → NeverBegins One_of closing → ((old : Texts) → Reading One_of old) → (m : ℕ) (old : Texts) → Reading (AreFew (suc m)) old
  few_reading free never element zero old = same_reading (Word closing) (AreFew 1) old (λ t e. (no_values, (omega arith, tt), e)) (λ t k. none_back t k.0 k.1 k.2) (word_reading closing old)
  few_reading free never element (suc m) old =
      choice_reading (Word closing) (Then One_of (AreFew (suc m))) (AreFew (suc (suc m))) closing (few_choice m never) (closing ∷ []) old (no_values, (omega arith, tt), refl) (λ rest e. word_reading closing old)
      (then_reading One_of (AreFew (suc m)) (closing ∷ []) old (no_values, (omega arith, tt), refl) free (element old) (λ rest le. few_reading free never element m rest))

-- ---- parts

abbrev ArePart : MembersTree → Texts → Type 0
ArePart p = Spelled (MembersShape p) (λ vs. part_onto p vs [])

abbrev AreBraced : MembersTree → Texts → Type 0
AreBraced p = Spelled (MembersShape p) (λ vs. opening ∷ members_onto p vs (closing ∷ []))

part_reading : (p : MembersTree) → MembersReadable p → (old : Texts) → Reading (ArePart p) old
part_reading p r old =
    let d = members_due p in
    prefixed_reading (AreBraced p) (ArePart p) part_word (opening ∷ members_onto p d.0 (closing ∷ [])) old (d.0, d.1, refl) (λ t m. (m.0, m.1, ap (λ x. part_word ∷ x) m.2)) (λ t m. (opening ∷ members_onto p m.0 (closing ∷ []), m.2, (m.0, m.1, refl))) (λ rest le.
    prefixed_reading (AreMembers p) (AreBraced p) opening (members_onto p d.0 (closing ∷ [])) rest (d.0, d.1, refl) (λ t m. (m.0, m.1, ap (λ x. opening ∷ x) m.2)) (λ t m. (members_onto p m.0 (closing ∷ []), m.2, (m.0, m.1, refl))) (λ more less. members_reading p r more))

same_part : (p : MembersTree) → MembersReadable p → (vs us : ValuesTree) (x y : Texts) → MembersShape p vs → MembersShape p us → part_onto p vs x ≡ part_onto p us y → (vs ≡ us) × (x ≡ y)
same_part p r vs us x y a b e = let s = same_members p vs us (closing ∷ x) (closing ∷ y) r a b (tails _ _ _ _ (tails _ _ _ _ e)) in (s.0, tails _ _ _ _ s.1)

part_free : (p : MembersTree) → MembersReadable p → PrefixFree (ArePart p)
part_free p r = onto_free (MembersShape p) (part_onto p) (part_more p) (same_part p r)

-- parts after others, maybe none
abbrev LaterParts : List MembersTree → ListsTree → Type 0
LaterParts ps no_lists = Unit {0}
LaterParts ps (list_and vs ls) = PartsShape ps (list_and vs ls)

abbrev AreLater : List MembersTree → Texts → Type 0
AreLater ps = Spelled (LaterParts ps) (λ ls. parts_onto ps ls (closing ∷ []))

abbrev AreParts : List MembersTree → Texts → Type 0
AreParts ps = Spelled (PartsShape ps) (λ ls. parts_onto ps ls (closing ∷ []))

shape_more : (p : MembersTree) (ps : List MembersTree) (vs : ValuesTree) (ls : ListsTree) → MembersShape p vs → LaterParts ps ls → PartsShape (p ∷ ps) (list_and vs ls)
shape_more p ps vs no_lists a b = a
shape_more p ps vs (list_and ws ls) a b = (a, b)

shape_less : (p : MembersTree) (ps : List MembersTree) (vs : ValuesTree) (ls : ListsTree) → PartsShape (p ∷ ps) (list_and vs ls) → MembersShape p vs × LaterParts ps ls
shape_less p ps vs no_lists h = (h, tt)
shape_less p ps vs (list_and ws ls) h = h

parts_put : (p : MembersTree) (ps : List MembersTree) (t : Texts) → Then (ArePart p) (AreLater ps) t → AreParts (p ∷ ps) t
parts_put p ps t (a, b, e, (vs, h, f), (ls, g, q)) = (list_and vs ls, shape_more p ps vs ls h g, e ∙ ap (λ x. x ++ b) f ∙ part_more p vs [] b ∙ ap (part_onto p vs) q)

parts_back : (p : MembersTree) (ps : List MembersTree) (t : Texts) (ls : ListsTree) → PartsShape (p ∷ ps) ls → t ≡ parts_onto (p ∷ ps) ls (closing ∷ []) → Then (ArePart p) (AreLater ps) t
parts_back p ps t no_lists h e = absurd h
parts_back p ps t (list_and vs ls) h e =
    let s = shape_less p ps vs ls h in
    (part_onto p vs [], parts_onto ps ls (closing ∷ []), e ∙ sym (part_more p vs [] (parts_onto ps ls (closing ∷ []))), (vs, s.0, refl), (ls, s.1, refl))

nothing_onto : (ps : List MembersTree) (x : Texts) → parts_onto ps no_lists x ≡ x
nothing_onto [] x = refl
nothing_onto (p ∷ ps) x = refl

later_either : (p : MembersTree) (ps : List MembersTree) (t : Texts) (ls : ListsTree) → LaterParts (p ∷ ps) ls → t ≡ parts_onto (p ∷ ps) ls (closing ∷ []) → Word closing t ⊎ Then (ArePart p) (AreLater ps) t
later_either p ps t no_lists h e = inl e
later_either p ps t (list_and vs ls) h e = inr (parts_back p ps t (list_and vs ls) h e)

last_back : (t : Texts) (ls : ListsTree) → LaterParts [] ls → t ≡ parts_onto [] ls (closing ∷ []) → t ≡ closing ∷ []
last_back t no_lists h e = e
last_back t (list_and vs ls) h e = absurd h

later_of : (ps : List MembersTree) (t : Texts) (ls : ListsTree) → PartsShape ps ls → t ≡ parts_onto ps ls (closing ∷ []) → AreLater ps t
later_of ps t no_lists h e = absurd h
later_of ps t (list_and vs ls) h e = (list_and vs ls, h, e)

part_then_never : (p : MembersTree) (M : Texts → Type 0) → NeverBegins (Then (ArePart p) M) closing
part_then_never p M member following x (a, b, e, (vs, h, f), m) k =
    different part_word closing refl (heads _ _ _ _ (sym (ap (λ y. (y ++ b) ++ following) f) ∙ sym (ap (λ y. y ++ following) e) ∙ k))

later_choice : (p : MembersTree) (ps : List MembersTree) → IsChoice (Word closing) (Then (ArePart p) (AreLater ps)) (AreLater (p ∷ ps)) closing
later_choice p ps = record {
  first = λ t e. (no_lists, tt, e);
  second = λ t k. let m = parts_put p ps t k in later_of (p ∷ ps) t m.0 m.1 m.2;
  either = λ t k. later_either p ps t k.0 k.1 k.2;
  begins = λ t e. ([], e);
  never = part_then_never p (AreLater ps);
}

none_later : (ps : List MembersTree) → AreLater ps (closing ∷ [])
none_later ps = (no_lists, tt, sym (nothing_onto ps (closing ∷ [])))

later_reading : (ps : List MembersTree) → AllByRecursion MembersReadable ps → (old : Texts) → Reading (AreLater ps) old
later_reading [] r old = same_reading (Word closing) (AreLater []) old (λ t e. (no_lists, tt, e)) (λ t m. last_back t m.0 m.1 m.2) (word_reading closing old)
later_reading (p ∷ ps) r old =
    choice_reading (Word closing) (Then (ArePart p) (AreLater ps)) (AreLater (p ∷ ps)) closing (later_choice p ps) (closing ∷ []) old (none_later (p ∷ ps)) (λ rest e. word_reading closing old)
    (then_reading (ArePart p) (AreLater ps) (closing ∷ []) old (none_later ps) (part_free p r.0) (part_reading p r.0 old) (λ rest le. later_reading ps r.1 rest))

parts_reading : (ps : List MembersTree) → AllByRecursion MembersReadable ps → 0 < length ps → (old : Texts) → Reading (AreParts ps) old
parts_reading [] r some old = absurd (omega (arith, some))
parts_reading (p ∷ ps) r some old =
    same_reading (Then (ArePart p) (AreLater ps)) (AreParts (p ∷ ps)) old (parts_put p ps) (λ t m. parts_back p ps t m.0 m.1 m.2)
    (then_reading (ArePart p) (AreLater ps) (closing ∷ []) old (none_later ps) (part_free p r.0) (part_reading p r.0 old) (λ rest le. later_reading ps r.1 rest))

-- ---- entries

abbrev pub AreEntries : ℕ → SlotsTree → Texts → Type 0
AreEntries s ss = Spelled (EntriesShape s ss) (λ es. entries_onto s ss es (closing ∷ []))

abbrev pub AreKind : KindTree → Texts → Type 0
AreKind k = Spelled (Shape k) (λ v. kind_onto k v [])

none_shaped : (s : ℕ) (ss : SlotsTree) → EntriesShape s ss no_entries
none_shaped s no_slots = tt
none_shaped s (slot_and spare_slot ss) = none_shaped (s + 1) ss
none_shaped s (slot_and (subitem name k) ss) = none_shaped (s + 1) ss

none_onto : (s : ℕ) (ss : SlotsTree) (x : Texts) → entries_onto s ss no_entries x ≡ x
none_onto s no_slots x = refl
none_onto s (slot_and spare_slot ss) x = none_onto (s + 1) ss x
none_onto s (slot_and (subitem name k) ss) x = none_onto (s + 1) ss x

pub no_entry : (s : ℕ) (ss : SlotsTree) → AreEntries s ss (closing ∷ [])
no_entry s ss = (no_entries, none_shaped s ss, sym (none_onto s ss (closing ∷ [])))

end_back : (s : ℕ) (t : Texts) (es : EntriesTree) → EntriesShape s no_slots es → t ≡ entries_onto s no_slots es (closing ∷ []) → t ≡ closing ∷ []
end_back s t no_entries h e = e
end_back s t (entry_and u v es) h e = absurd h

match_true : (b : Bool) (P Q : Type 0) → b ≡ true → MatchBool b P Q → P
match_true true P Q e h = h
match_true false P Q e h = absurd cc

match_false : (b : Bool) (P Q : Type 0) → b ≡ false → MatchBool b P Q → Q
match_false true P Q e h = absurd cc
match_false false P Q e h = h

is_match : (b : Bool) (P Q : Type 0) → b ≡ true → P → MatchBool b P Q
is_match true P Q e h = h
is_match false P Q e h = absurd cc

no_match : (b : Bool) (P Q : Type 0) → b ≡ false → Q → MatchBool b P Q
no_match true P Q e h = absurd cc
no_match false P Q e h = h

later_slot : (s : ℕ) (ss : SlotsTree) (t : ℕ) (v : ValueTree) (es : EntriesTree) → EntriesShape s ss (entry_and t v es) → s ≤ t
later_slot s no_slots t v es h = absurd h
later_slot s (slot_and spare_slot ss) t v es h = let le = later_slot (s + 1) ss t v es h in omega (arith, le)
later_slot s (slot_and (subitem name k) ss) t v es h = by (t == s) refl h (λ g. later_slot (s + 1) ss t v es g)
  where
    by : (b : Bool) → (t == s) ≡ b → MatchBool b (Shape k v × EntriesShape (s + 1) ss es) (EntriesShape (s + 1) ss (entry_and t v es)) → (EntriesShape (s + 1) ss (entry_and t v es) → s + 1 ≤ t) → s ≤ t
    by true e g later = let same = eqb-true t s e in omega (arith, same)
    by false e g later = let le = later g in omega (arith, le)

module _ (s : ℕ) (name : List ℕ) (k : KindTree) (ss : SlotsTree) where
  abbrev Value_then : Texts → Type 0
  Value_then = Then (AreKind k) (AreEntries (s + 1) ss)

  abbrev All_then : Texts → Type 0
  All_then = Then (Word name) Value_then

  here : (s == s) ≡ true
  here = eq-eqb s s refl

  first_entry : (t : Texts) → All_then t → AreEntries s (slot_and (subitem name k) ss) t
  first_entry t (w, r, e, is, (a, b, f, (v, h, p), (es, g, q))) = (
    entry_and s v es,
    is_match (s == s) (Shape k v × EntriesShape (s + 1) ss es) (EntriesShape (s + 1) ss (entry_and s v es)) here (h, g),
    e ∙ ap (λ x. x ++ r) is ∙ ap (λ x. name ∷ x) (f ∙ ap (λ x. x ++ b) p ∙ kind_more k v [] b ∙ ap (kind_onto k v) q)
        ∙ sym (ap (λ c. cond c (name ∷ kind_onto k v (entries_onto (s + 1) ss es (closing ∷ []))) (entries_onto (s + 1) ss (entry_and s v es) (closing ∷ []))) here),
  )

  skip_entry : (t : Texts) (es : EntriesTree) → EntriesShape (s + 1) ss es → t ≡ entries_onto (s + 1) ss es (closing ∷ []) → AreEntries s (slot_and (subitem name k) ss) t
  skip_entry t no_entries h e = (no_entries, h, e)
  skip_entry t (entry_and u v es) h e =
      let le = later_slot (s + 1) ss u v es h in
      let other : (u == s) ≡ false = ne_eqb u s (λ same. omega (arith, same, le)) in
      (entry_and u v es, no_match (u == s) (Shape k v × EntriesShape (s + 1) ss es) (EntriesShape (s + 1) ss (entry_and u v es)) other h, e ∙ sym (ap (λ c. cond c (name ∷ kind_onto k v (entries_onto (s + 1) ss es (closing ∷ []))) (entries_onto (s + 1) ss (entry_and u v es) (closing ∷ []))) other))

  either_entry : (t : Texts) (es : EntriesTree) → EntriesShape s (slot_and (subitem name k) ss) es → t ≡ entries_onto s (slot_and (subitem name k) ss) es (closing ∷ []) → All_then t ⊎ AreEntries (s + 1) ss t
  either_entry t no_entries h e = inr (no_entries, h, e)
  either_entry t (entry_and u v es) h e = by (u == s) refl
    where
      by : (b : Bool) → (u == s) ≡ b → All_then t ⊎ AreEntries (s + 1) ss t
      by true f =
          let m = match_true (u == s) (Shape k v × EntriesShape (s + 1) ss es) (EntriesShape (s + 1) ss (entry_and u v es)) f h in
          inl (
            name ∷ [],
            kind_onto k v (entries_onto (s + 1) ss es (closing ∷ [])),
            e ∙ ap (λ c. cond c (name ∷ kind_onto k v (entries_onto (s + 1) ss es (closing ∷ []))) (entries_onto (s + 1) ss (entry_and u v es) (closing ∷ []))) f,
            refl,
            (kind_onto k v [], entries_onto (s + 1) ss es (closing ∷ []), sym (kind_more k v [] (entries_onto (s + 1) ss es (closing ∷ []))), (v, m.0, refl), (es, m.1, refl)),
          )
      by false f = inr (entry_and u v es, match_false (u == s) (Shape k v × EntriesShape (s + 1) ss es) (EntriesShape (s + 1) ss (entry_and u v es)) f h, e ∙ ap (λ c. cond c (name ∷ kind_onto k v (entries_onto (s + 1) ss es (closing ∷ []))) (entries_onto (s + 1) ss (entry_and u v es) (closing ∷ []))) f)

  entry_choice : IsName name → Lacks name ss → IsChoice All_then (AreEntries (s + 1) ss) (AreEntries s (slot_and (subitem name k) ss)) name
  entry_choice n l = record {
    first = first_entry;
    second = λ t m. skip_entry t m.0 m.1 m.2;
    either = λ t m. either_entry t m.0 m.1 m.2;
    begins = λ t m. (m.1, m.2 ∙ ap (λ x. x ++ m.1) m.3);
    never = λ member following x m h. entries_never (s + 1) ss m.0 following name n l m.1 x (sym (entries_more (s + 1) ss m.0 (closing ∷ []) following) ∙ sym (ap (λ y. y ++ following) m.2) ∙ h);
  }

-- ---- kinds

kind_due : (k : KindTree) → Readable k → (v : ValueTree) × Shape k v
kind_due (fixed f) r = fixed_due f
kind_due (extended last []) r = absurd (let lt = r.1 in omega (arith, lt))
kind_due (extended last (p ∷ ps)) r = let d = members_due p in (part_values (list_and d.0 no_lists), d.1)
kind_due (counted size k) r = (occurrences no_values, (pow_pos (counter_width size), tt))
kind_due (by_fx f) r = let d = fixed_due f in (occurrences (value_and d.0 no_values), (omega arith, (d.1, tt)))
kind_due explicit r = (content_octets [], (lit< tt, tt))
kind_due (compound ss) r = (marked no_entries, none_shaped 1 ss)

abbrev IsShortHex : List ℕ → Type 0
IsShortHex text = (octets : List ℕ) × (length octets < 255) × AreOctets octets × (text ≡ hex_text octets)

short_hex_or_not : (text : List ℕ) → IsOrNot (IsShortHex text)
short_hex_or_not text = by (hex_or_not text)
  where
    by_size : (octets : List ℕ) → AreOctets octets → text ≡ hex_text octets → (length octets < 255) ⊎ (255 ≤ length octets) → IsOrNot (IsShortHex text)
    by_size octets are e (inl lt) = inl (octets, lt, are, e)
    by_size octets are e (inr le) = inr (λ h. let same : h.0 ≡ octets = same_hex h.0 octets h.2 are (sym h.3 ∙ e) in let count = ap length same in let lt = h.1 in omega (arith, lt, le, count))

    by : IsOrNot (IsHex text) → IsOrNot (IsShortHex text)
    by (inl (octets, are, e)) = by_size octets are e (cases_lt (length octets) 255)
    by (inr n) = inr (λ h. n (h.0, h.2, h.3))

explicit_back : (t : Texts) (v : ValueTree) → Shape explicit v → t ≡ kind_onto explicit v [] → One IsShortHex t
explicit_back t (content_octets xs) h e = (hex_text xs, e, (xs, h.0, h.1, refl))
explicit_back t v h e = absurd h

extended_back : (last : LastPart) (ps : List MembersTree) (t : Texts) (v : ValueTree) → Shape (extended last ps) v → t ≡ kind_onto (extended last ps) v [] → (rest : Texts) × (t ≡ opening ∷ rest) × AreParts ps rest
extended_back last ps t (part_values ls) h e = (parts_onto ps ls (closing ∷ []), e, (ls, h, refl))
extended_back last ps t v h e = absurd h

counted_back : (size : Counter) (k : KindTree) (t : Texts) (v : ValueTree) → Shape (counted size k) v → t ≡ kind_onto (counted size k) v [] → (rest : Texts) × (t ≡ opening ∷ rest) × AreFew (Shape k) (kind_onto k) (kind_more k) (2 ^ counter_width size) rest
counted_back size k t (occurrences vs) h e = (each_onto (kind_onto k) vs (closing ∷ []), e, (vs, h, refl))
counted_back size k t v h e = absurd h

run_back : (f : FixedTree) (t : Texts) (v : ValueTree) → Shape (by_fx f) v → t ≡ kind_onto (by_fx f) v [] → (rest : Texts) × (t ≡ opening ∷ rest) × AreSome (FixedShape f) (fixed_onto f) (fixed_more f) rest
run_back f t (occurrences vs) h e = (each_onto (fixed_onto f) vs (closing ∷ []), e, (vs, h, refl))
run_back f t v h e = absurd h

compound_back : (ss : SlotsTree) (t : Texts) (v : ValueTree) → Shape (compound ss) v → t ≡ kind_onto (compound ss) v [] → (rest : Texts) × (t ≡ opening ∷ rest) × AreEntries 1 ss rest
compound_back ss t (marked es) h e = (entries_onto 1 ss es (closing ∷ []), e, (es, h, refl))
compound_back ss t v h e = absurd h

pub kind_free : (k : KindTree) → Readable k → KindNamed k → PrefixFree (AreKind k)
kind_free k r n = onto_free (Shape k) (kind_onto k) (kind_more k) (λ v u x y a b e. same_kind k v u x y r n a b e)

fixed_free : (f : FixedTree) → FixedReadable f → PrefixFree (AreFixed f)
fixed_free f r = onto_free (FixedShape f) (fixed_onto f) (fixed_more f) (λ v u x y a b e. same_fixed f v u x y r a b e)

mutual
  pub kind_reading : (k : KindTree) → Readable k → KindNamed k → (old : Texts) → Reading (AreKind k) old
  kind_reading (fixed f) r n old = fixed_reading f r old
  kind_reading (extended last ps) r n old =
      let d = kind_due (extended last ps) r in
      let e = extended_back last ps (kind_onto (extended last ps) d.0 []) d.0 d.1 refl in
      prefixed_reading (AreParts ps) (AreKind (extended last ps)) opening e.0 old e.2 (λ t m. (part_values m.0, m.1, ap (λ x. opening ∷ x) m.2)) (λ t m. extended_back last ps t m.0 m.1 m.2) (λ rest le. parts_reading ps r.0 r.1 rest)
  kind_reading (counted size k) r n old =
      let some = pow_pos (counter_width size) in
      let suc_is : suc (2 ^ counter_width size - 1) ≡ 2 ^ counter_width size = omega (arith, some) in
      prefixed_reading (AreFew (Shape k) (kind_onto k) (kind_more k) (2 ^ counter_width size)) (AreKind (counted size k)) opening (closing ∷ []) old (no_values, (some, tt), refl) (λ t m. (occurrences m.0, m.1, ap (λ x. opening ∷ x) m.2)) (λ t m. counted_back size k t m.0 m.1 m.2) (λ rest le.
      subst (λ bound. Reading (AreFew (Shape k) (kind_onto k) (kind_more k) bound) rest) suc_is
      (few_reading (Shape k) (kind_onto k) (kind_more k) (kind_free k r n) (onto_never (Shape k) (kind_onto k) closing (kind_more k) (λ v x y a e. kind_never k v x y r a e)) (λ x. kind_reading k r n x) (2 ^ counter_width size - 1) rest))
  kind_reading (by_fx f) r n old =
      let d = fixed_due f in
      prefixed_reading (AreSome (FixedShape f) (fixed_onto f) (fixed_more f)) (AreKind (by_fx f)) opening (fixed_onto f d.0 (closing ∷ [])) old (value_and d.0 no_values, (omega arith, (d.1, tt)), refl) (λ t m. (occurrences m.0, m.1, ap (λ x. opening ∷ x) m.2)) (λ t m. run_back f t m.0 m.1 m.2) (λ rest le.
      some_reading (FixedShape f) (fixed_onto f) (fixed_more f) (fixed_free f r) (onto_never (FixedShape f) (fixed_onto f) closing (fixed_more f) (λ v x y a e. fixed_never f v x y r a e)) (λ x. fixed_reading f r x) rest)
  kind_reading explicit r n old =
      same_reading (One IsShortHex) (AreKind explicit) old (λ t m. (content_octets m.2.0, (m.2.1, m.2.2), m.1 ∙ ap (λ x. x ∷ []) m.2.3)) (λ t m. explicit_back t m.0 m.1 m.2)
      (one_reading IsShortHex (hex_text []) ([], lit< tt, tt, refl) short_hex_or_not old)
  kind_reading (compound ss) r n old =
      prefixed_reading (AreEntries 1 ss) (AreKind (compound ss)) opening (closing ∷ []) old (no_entry 1 ss) (λ t m. (marked m.0, m.1, ap (λ x. opening ∷ x) m.2)) (λ t m. compound_back ss t m.0 m.1 m.2) (λ rest le. entries_reading 1 ss r.1 n rest)

  pub entries_reading : (s : ℕ) (ss : SlotsTree) → SlotsReadable ss → SlotsNamed ss → (old : Texts) → Reading (AreEntries s ss) old
  entries_reading s no_slots r n old = same_reading (Word closing) (AreEntries s no_slots) old (λ t e. (no_entries, tt, e)) (λ t m. end_back s t m.0 m.1 m.2) (word_reading closing old)
  entries_reading s (slot_and spare_slot ss) r n old = entries_reading (s + 1) ss r.2 n old
  entries_reading s (slot_and (subitem name k) ss) r n old =
      let d = kind_due k r.1 in
      let value : Value_then s name k ss (kind_onto k d.0 (closing ∷ [])) = (kind_onto k d.0 [], closing ∷ [], sym (kind_more k d.0 [] (closing ∷ [])), (d.0, d.1, refl), no_entry (s + 1) ss) in
      choice_reading (All_then s name k ss) (AreEntries (s + 1) ss) (AreEntries s (slot_and (subitem name k) ss)) name (entry_choice s name k ss n.0 r.0) (closing ∷ []) old (no_entry s (slot_and (subitem name k) ss)) (λ rest e.
      then_reading (Word name) (Value_then s name k ss) (kind_onto k d.0 (closing ∷ [])) old value (word_free name) (word_reading name old) (λ more le.
      then_reading (AreKind k) (AreEntries (s + 1) ss) (closing ∷ []) more (no_entry (s + 1) ss) (kind_free k r.1 n.1) (kind_reading k r.1 n.1 more) (λ last less. entries_reading (s + 1) ss r.2 n.2 last)))
      (entries_reading (s + 1) ss r.2 n.2 old)
