-- What is made under a kind spells a value of it.
use Rattle.std.proofs.Common.{◌≡◌, ℕ, zero, suc, ◌+◌, ◌*◌, ◌%◌, ◌^◌, ◌<◌, ◌≤◌, ◌==◌, nat_lt, inl, inr, Bool, true, false, cond, IsTrue, List, [], ◌∷◌, ◌++◌, length, Some, None, refl, sym, ◌∙◌, ap, subst, arith, append-nil}
use Rattle.std.proofs.lemmas.Nat.{mod_below, pow_pos}
use Rattle.ax_bits.specs.Bits.{word, bits, AreBits, AreOctets}
use Rattle.ax_format.proofs.Least.{Alike, entries_alike, length-rests-le, length-marked, rests-AreBits}
use Rattle.ax_format.specs.InBounds.{InBounds, SlotsInBounds}
use Rattle.ax_format.specs.Presence.{Presence, octets_needed, later_marks, none_marked, marks_upto, marks_after, least_presence}
use Rattle.ax_format.specs.Spelling.{NumberSpells, FixedSpells, MembersSpell, PartsSpell, RunSpells, EachSpells, Spells, EntriesSpell}
use Rattle.ax_format.specs.Tree.{FixedTree, element, group, MembersTree, no_members, member_and, named, spare, KindTree, fixed, extended, counted, by_fx, explicit, compound, SlotsTree, no_slots, slot_and, spare_slot, subitem, slot_count, defined_slots, ValueTree, number, member_values, part_values, occurrences, content_octets, marked, ValuesTree, no_values, value_and, value_count, ListsTree, no_lists, list_and, EntriesTree, no_entries, entry_and}
use Rattle.ax_format.specs.Widths.{counter_width, fx_width}
use Rattle.ax_format.specs.declared.kind.Counter.{Counter}
use Rattle.ax_format.specs.declared.kind.LastPart.{LastPart}
use Rattle.ax_vectors.proofs.KindDraws.{no_count_fits, drawn_count_fits}
use Rattle.ax_vectors.specs.Draws.{drawn, next_state}
use Rattle.ax_vectors.specs.Made.{joined, draws_needed, number_made, fixed_made, members_made, parts_made, run_made, octet_made, marks_made, least_octets, octets_spare, field_of, field_made, value_where, values_made, counted_made, kind_made, makers}
use Rattle.ax_vectors.specs.Making.{Maker, just, both, times, by_draw}
use Rattle.ax_format.proofs.Unmarked.{none_later}

-- ---- fixed kinds

number_spelled : (w state : ℕ) → (v : ValueTree) × NumberSpells w v (number_made w state).0
number_spelled w state = let n = (joined (draws_needed w) 0 state).0 in (number (n % 2 ^ w), (mod_below n (2 ^ w) (pow_pos w), refl))

mutual
  pub fixed_spelled : (f : FixedTree) (state : ℕ) → (v : ValueTree) × FixedSpells f v (fixed_made f state).0
  fixed_spelled (element w c) state = number_spelled w state
  fixed_spelled (group ms) state = let r = members_spelled ms state in (member_values r.0, r.1)

  members_spelled : (ms : MembersTree) (state : ℕ) → (vs : ValuesTree) × MembersSpell ms vs (members_made ms state).0
  members_spelled no_members state = (no_values, refl)
  members_spelled (member_and (named name f) ms) state =
      let one = fixed_spelled f state in
      let rest = members_spelled ms (fixed_made f state).1 in
      (value_and one.0 rest.0, ((fixed_made f state).0, (members_made ms (fixed_made f state).1).0, refl, one.1, rest.1))
  members_spelled (member_and (spare w) ms) state =
      let one = number_spelled w state in
      let rest = members_spelled ms (number_made w state).1 in
      (value_and one.0 rest.0, ((number_made w state).0, (members_made ms (number_made w state).1).0, refl, one.1, rest.1))

-- ---- parts and occurrences

-- some parts more, of which the first is there
more_parts : (last : LastPart) (p : MembersTree) (ps : List MembersTree) (vs : ValuesTree) (ls : ListsTree) (x y : List ℕ) → MembersSpell p vs x → PartsSpell last ps ls y → PartsSpell last (p ∷ ps) (list_and vs ls) (x ++ 1 ∷ y)
more_parts last p ps vs no_lists x y h r = absurd (none ps r) where
  none : (ps : List MembersTree) → PartsSpell last ps no_lists y → ⊥
  none [] r = r
  none (p ∷ ps) r = r
more_parts last p ps vs (list_and ws ls) x y h r = (x, y, refl, h, r)

parts_spelled : (last : LastPart) (n : ℕ) (ps : List MembersTree) (state : ℕ) → n < length ps → (ls : ListsTree) × PartsSpell last ps ls (parts_made last (suc n) ps state).0
parts_spelled last n [] state le = absurd (omega arith)
parts_spelled last zero (p ∷ ps) state le =
    let one = members_spelled p state in
    let x = (members_made p state).0 in
    (list_and one.0 no_lists, (x, ap (λ y. x ++ y) (append-nil (word (fx_width last (length ps)) 0)), one.1))
parts_spelled last (suc n) (p ∷ ps) state le =
    let one = members_spelled p state in
    let rest = parts_spelled last n ps (members_made p state).1 (omega arith) in
    (list_and one.0 rest.0, more_parts last p ps one.0 rest.0 (members_made p state).0 (parts_made last (suc n) ps (members_made p state).1).0 one.1 rest.1)

more_run : (f : FixedTree) (v : ValueTree) (vs : ValuesTree) (x y : List ℕ) → FixedSpells f v x → RunSpells f vs y → RunSpells f (value_and v vs) (x ++ 1 ∷ y)
more_run f v no_values x y h r = absurd r
more_run f v (value_and w vs) x y h r = (x, y, refl, h, r)

run_spelled : (n : ℕ) (f : FixedTree) (state : ℕ) → (vs : ValuesTree) × RunSpells f vs (run_made (suc n) f state).0
run_spelled zero f state = let one = fixed_spelled f state in (value_and one.0 no_values, ((fixed_made f state).0, refl, one.1))
run_spelled (suc n) f state =
    let one = fixed_spelled f state in
    let rest = run_spelled n f (fixed_made f state).1 in
    (value_and one.0 rest.0, more_run f one.0 rest.0 (fixed_made f state).0 (run_made (suc n) f (fixed_made f state).1).0 one.1 rest.1)

-- ---- so many values, and contents

each_spelled : (S : ValueTree → List ℕ → Type 0) (one : Maker) (n : ℕ) → ((state : ℕ) → (v : ValueTree) × S v (one state).0) → (state : ℕ) → (vs : ValuesTree) × (value_count vs ≡ n) × EachSpells S vs (times n one state).0
each_spelled S one zero spelled state = (no_values, refl, refl)
each_spelled S one (suc n) spelled state =
    let first = spelled state in
    let rest = each_spelled S one n spelled (one state).1 in
    (value_and first.0 rest.0, ap suc rest.1, ((one state).0, (times n one (one state).1).0, refl, first.1, rest.2))

content_of : (n state : ℕ) → (xs : List ℕ) × (length xs ≡ n) × AreOctets xs × ((times n octet_made state).0 ≡ bits xs)
content_of zero state = ([], refl, tt, refl)
content_of (suc n) state =
    let rest = content_of n (octet_made state).1 in
    (drawn state % 256 ∷ rest.0, ap suc rest.1, (mod_below (drawn state) 256 (omega arith), rest.2), ap (λ y. word 8 (drawn state % 256) ++ y) rest.3)

-- ---- presence fields

-- the marks that a field of so many octets has
abbrev pub marks_in : ℕ → List ℕ → List ℕ
marks_in zero ms = []
marks_in (suc n) ms = marks_upto 7 ms ++ marks_in n (marks_after 7 ms)

upto_bits : (n : ℕ) (ms : List ℕ) → AreBits ms → AreBits (marks_upto n ms)
upto_bits zero ms h = tt
upto_bits (suc n) [] h = (omega arith, upto_bits n [] tt)
upto_bits (suc n) (m ∷ ms) h = (h.0, upto_bits n ms h.1)

-- a field of no more octets than the slots need is a presence field with these marks
field_is : (n k : ℕ) (ms : List ℕ) → n < k → AreBits ms → Presence k (marks_in (suc n) ms) (field_of (suc n) ms)
field_is n zero ms le bit = absurd (omega arith)
field_is zero (suc k) ms le bit = (marks_upto 7 ms, refl, upto_bits 7 ms bit, inl (refl, refl))
field_is (suc n) (suc k) ms le bit =
    (marks_upto 7 ms, refl, upto_bits 7 ms bit, inr (marks_in (suc n) (marks_after 7 ms), field_of (suc n) (marks_after 7 ms), refl, refl, field_is n k (marks_after 7 ms) (omega arith) (rests-AreBits 7 ms bit)))

-- no mark stands after those of so many octets
abbrev pub Enough : ℕ → List ℕ → Type 0
Enough zero ms = IsTrue (none_marked ms)
Enough (suc n) ms = Enough n (marks_after 7 ms)

enough_alike : (n : ℕ) (ms : List ℕ) → Enough n ms → Alike (marks_in n ms) ms
enough_alike zero ms h = h
enough_alike (suc n) ms h = (refl, (refl, (refl, (refl, (refl, (refl, (refl, enough_alike n (marks_after 7 ms) h)))))))

none_after : (n : ℕ) (ms : List ℕ) → IsTrue (none_marked ms) → IsTrue (none_marked (marks_after n ms))
none_after zero ms h = h
none_after (suc n) ms h = none_after n (later_marks ms) (none_later ms h)

enough_none : (n : ℕ) (ms : List ℕ) → IsTrue (none_marked ms) → Enough n ms
enough_none zero ms h = h
enough_none (suc n) ms h = enough_none n (marks_after 7 ms) (none_after 7 ms h)

enough_more : (n m : ℕ) (ms : List ℕ) → Enough n ms → Enough (n + m) ms
enough_more zero m ms h = subst (λ k. Enough k ms) (let e : m ≡ 0 + m = omega arith in e) (enough_none m ms h)
enough_more (suc n) m ms h = subst (λ k. Enough k ms) (let e : suc (n + m) ≡ suc n + m = omega arith in e) (enough_more n m (marks_after 7 ms) h)

-- the least field of at most k octets: how many it has, which are enough
record LeastIs (k : ℕ) (ms : List ℕ) : Type 0 where
  octets : ℕ
  size : length (least_presence k ms) ≡ 8 * suc octets
  few : octets < k
  enough : Enough (suc octets) ms

least_at : (k : ℕ) (ms : List ℕ) (b : Bool) → none_marked (marks_after 7 ms) ≡ b → (b ≡ false → LeastIs k (marks_after 7 ms)) → LeastIs (suc k) ms
least_at k ms true e ih = record {
  octets = 0;
  size = ap (λ b. length (cond b (marks_upto 7 ms ++ 0 ∷ []) (marks_upto 7 ms ++ 1 ∷ least_presence k (marks_after 7 ms)))) e;
  few = omega arith;
  enough = e;
}
least_at k ms false e ih =
    let rest = ih refl in
    let long : length (least_presence (suc k) ms) ≡ 8 + length (least_presence k (marks_after 7 ms)) =
    ap (λ b. length (cond b (marks_upto 7 ms ++ 0 ∷ []) (marks_upto 7 ms ++ 1 ∷ least_presence k (marks_after 7 ms)))) e ∙ omega arith in
    record { octets = suc rest.octets; size = omega (arith, long, rest.size); few = omega (arith, rest.few); enough = rest.enough }

least_of : (k : ℕ) (ms : List ℕ) → 0 < k → length ms ≤ 7 * k → LeastIs k ms
least_of zero ms some le = absurd (omega arith)
least_of (suc k) ms some le =
    least_at k ms (none_marked (marks_after 7 ms)) refl (λ e. least_of k (marks_after 7 ms) (omega (arith, length-marked (marks_after 7 ms) e, length-rests-le 7 ms)) (omega (arith, length-rests-le 7 ms)))

-- the field that is made marks what it should
record FieldIs (ms : List ℕ) (f : List ℕ) : Type 0 where
  marks : List ℕ
  presence : Presence (octets_needed (length ms)) marks f
  alike : Alike marks ms

field_with : (ms : List ℕ) (n : ℕ) → AreBits ms → n < octets_needed (length ms) → Enough (suc n) ms → FieldIs ms (field_of (suc n) ms)
field_with ms n bit le h = record { marks = marks_in (suc n) ms; presence = field_is n (octets_needed (length ms)) ms le bit; alike = enough_alike (suc n) ms h }

field_choice : (ms : List ℕ) (state : ℕ) (b : Bool) → AreBits ms → 0 < length ms → nat_lt 0 (octets_spare ms) ≡ b
    → FieldIs ms (cond {A = Maker} b (by_draw (λ d. just (field_of (least_octets ms + d % (octets_spare ms + 1)) ms))) (just (field_of (least_octets ms) ms)) state).0
field_choice ms state true bit some e =
    let k = octets_needed (length ms) in
    let least = least_of k ms (omega arith) (omega arith) in
    let count : least_octets ms ≡ suc least.octets = omega (arith, least.size) in
    let r = drawn state % (octets_spare ms + 1) in
    let low : r < octets_spare ms + 1 = mod_below (drawn state) (octets_spare ms + 1) (omega arith) in
    let n : least_octets ms + r ≡ suc (least.octets + r) = omega (arith, count) in
    let sum : suc least.octets + r ≡ suc (least.octets + r) = omega arith in
    subst (λ n. FieldIs ms (field_of n ms)) (sym n)
    (field_with ms (least.octets + r) bit (omega (arith, count, low, least.few)) (subst (λ n. Enough n ms) sum (enough_more (suc least.octets) r ms least.enough)))
field_choice ms state false bit some e =
    let k = octets_needed (length ms) in
    let least = least_of k ms (omega arith) (omega arith) in
    let count : least_octets ms ≡ suc least.octets = omega (arith, least.size) in
    subst (λ n. FieldIs ms (field_of n ms)) (sym count) (field_with ms least.octets bit least.few least.enough)

-- ---- marks

-- the marks of slots: none of a spare one is set, and none past the last
abbrev pub AreMarksOf : SlotsTree → List ℕ → Type 0
AreMarksOf no_slots ms = ms ≡ []
AreMarksOf (slot_and spare_slot ss) ms = (rest : List ℕ) × (ms ≡ 0 ∷ rest) × AreMarksOf ss rest
AreMarksOf (slot_and (subitem name k) ss) ms = (m : ℕ) × (rest : List ℕ) × (ms ≡ m ∷ rest) × (m < 2) × AreMarksOf ss rest

marks_are : (ss : SlotsTree) (state : ℕ) → AreMarksOf ss (marks_made (defined_slots ss) state).0
marks_are no_slots state = refl
marks_are (slot_and spare_slot ss) state = ((marks_made (defined_slots ss) state).0, refl, marks_are ss state)
marks_are (slot_and (subitem name k) ss) state =
    (drawn state % 2, (marks_made (defined_slots ss) (next_state state)).0, refl, mod_below (drawn state) 2 (omega arith), marks_are ss (next_state state))

marks_count : (ss : SlotsTree) (ms : List ℕ) → AreMarksOf ss ms → length ms ≡ slot_count ss
marks_count no_slots ms h = ap length h
marks_count (slot_and spare_slot ss) ms (rest, e, h) = ap length e ∙ ap suc (marks_count ss rest h)
marks_count (slot_and (subitem name k) ss) ms (m, rest, e, low, h) = ap length e ∙ ap suc (marks_count ss rest h)

marks_bits : (ss : SlotsTree) (ms : List ℕ) → AreMarksOf ss ms → AreBits ms
marks_bits no_slots ms h = subst AreBits (sym h) tt
marks_bits (slot_and spare_slot ss) ms (rest, e, h) = subst AreBits (sym e) (omega arith, marks_bits ss rest h)
marks_bits (slot_and (subitem name k) ss) ms (m, rest, e, low, h) = subst AreBits (sym e) (low, marks_bits ss rest h)

-- ---- kinds

-- an entry, or none, of the slot of number s
entry_more : (s : ℕ) (name : List ℕ) (k : KindTree) (ss : SlotsTree) (m : ℕ) (rest : List ℕ) (one : Maker) (next : Maker) (state : ℕ) → m < 2
    → ((state : ℕ) → (v : ValueTree) × Spells k v (one state).0) → ((state : ℕ) → (es : EntriesTree) × EntriesSpell (s + 1) ss rest es (next state).0)
    → (es : EntriesTree) × EntriesSpell s (slot_and (subitem name k) ss) (m ∷ rest) es (both (value_where (m == 1) (Some one)) next state).0
entry_more s name k ss zero rest one next state low spelled others = none (others state) where
  none : (es : EntriesTree) × EntriesSpell (s + 1) ss rest es (next state).0 → (es : EntriesTree) × EntriesSpell s (slot_and (subitem name k) ss) (0 ∷ rest) es (next state).0
  none (no_entries, h) = (no_entries, (refl, h))
  none (entry_and t v es, h) = (entry_and t v es, inr (refl, h))
entry_more s name k ss (suc zero) rest one next state low spelled others =
    let first = spelled state in
    let after = others (one state).1 in
    (entry_and s first.0 after.0, inl (refl, refl, (one state).0, (next (one state).1).0, refl, first.1, after.1))
entry_more s name k ss (suc (suc m)) rest one next state low spelled others = absurd (omega arith)

compound_of : (ss : SlotsTree) (es : EntriesTree) (ms f y : List ℕ) → slot_count ss ≡ length ms → FieldIs ms f → EntriesSpell 1 ss ms es y → Spells (compound ss) (marked es) (f ++ y)
compound_of ss es ms f y count field h =
    (f, y, field.marks, refl, subst (λ n. Presence (octets_needed n) field.marks f) (sym count) field.presence, entries_alike 1 ss field.marks ms es y field.alike h)

counted_spelled : (size : Counter) (around : ℕ) (k : KindTree) → ((state : ℕ) → (v : ValueTree) × Spells k v (kind_made (around + 1) k state).0) → (state : ℕ) (few : Bool)
    → (v : ValueTree) × Spells (counted size k) v (cond {A = Maker} few (by_draw (λ d. counted_made size (d % 3) (kind_made (around + 1) k))) (just (word (counter_width size) 0)) state).0
counted_spelled size around k spelled state true =
    let w = counter_width size in
    let r = each_spelled (Spells k) (kind_made (around + 1) k) (drawn state % 3) spelled (next_state state) in
    let y = (times (drawn state % 3) (kind_made (around + 1) k) (next_state state)).0 in
    (occurrences r.0, (subst (λ n. n < 2 ^ w) (sym r.1) (drawn_count_fits size (drawn state)), y, ap (λ n. word w n ++ y) (sym r.1), r.2))
counted_spelled size around k spelled state false = (occurrences no_values, (no_count_fits size, [], sym (append-nil (word (counter_width size) 0)), refl))

mutual
  pub kind_spelled : (around : ℕ) (k : KindTree) → InBounds k → (state : ℕ) → (v : ValueTree) × Spells k v (kind_made around k state).0
  kind_spelled around (fixed f) b state = fixed_spelled f state
  kind_spelled around (extended last ps) b state =
      let low : drawn state % length ps < length ps = mod_below (drawn state) (length ps) b.0 in
      let r = parts_spelled last (drawn state % length ps) ps (next_state state) low in
      let e : suc (drawn state % length ps) ≡ 1 + drawn state % length ps = omega arith in
      (part_values r.0, subst (λ n. PartsSpell last ps r.0 (parts_made last n ps (next_state state)).0) e r.1)
  kind_spelled around (counted size k) b state = counted_spelled size around k (kind_spelled (around + 1) k b) state (nat_lt around 2)
  kind_spelled around (by_fx f) b state =
      let r = run_spelled (drawn state % 3) f (next_state state) in
      let e : suc (drawn state % 3) ≡ 1 + drawn state % 3 = omega arith in
      (occurrences r.0, subst (λ n. RunSpells f r.0 (run_made n f (next_state state)).0) e r.1)
  kind_spelled around explicit b state =
      let n = drawn state % 5 in
      let low : n < 5 = mod_below (drawn state) 5 (omega arith) in
      let r = content_of n (next_state state) in
      (content_octets r.0, (omega (arith, r.1, low), r.2, ap (λ y. word 8 (1 + n) ++ y) r.3 ∙ ap (λ n. word 8 (1 + n) ++ bits r.0) (sym r.1)))
  kind_spelled around (compound ss) b state =
      let ms = (marks_made (defined_slots ss) state).0 in
      let are = marks_are ss state in
      let count : length ms ≡ slot_count ss = marks_count ss ms are in
      let field = field_choice ms (marks_made (defined_slots ss) state).1 (nat_lt 0 (octets_spare ms)) (marks_bits ss ms are) (omega (arith, count, b.0)) refl in
      let values = values_spelled around 1 ss ms b.2 are (field_made ms (marks_made (defined_slots ss) state).1).1 in
      (marked values.0, compound_of ss values.0 ms (field_made ms (marks_made (defined_slots ss) state).1).0 (values_made (makers around ss) ms (field_made ms (marks_made (defined_slots ss) state).1).1).0 (sym count) field values.1)

  values_spelled : (around s : ℕ) (ss : SlotsTree) (ms : List ℕ) → SlotsInBounds ss → AreMarksOf ss ms → (state : ℕ) → (es : EntriesTree) × EntriesSpell s ss ms es (values_made (makers around ss) ms state).0
  values_spelled around s no_slots ms b h state = (no_entries, (ap none_marked h, refl))
  values_spelled around s (slot_and spare_slot ss) ms b (rest, e, h) state =
      subst (λ ms. (es : EntriesTree) × EntriesSpell s (slot_and spare_slot ss) ms es (values_made (None ∷ makers around ss) ms state).0) (sym e)
      (let r = values_spelled around (s + 1) ss rest b h state in (r.0, (refl, r.1)))
  values_spelled around s (slot_and (subitem name k) ss) ms b (m, rest, e, low, h) state =
      subst (λ ms. (es : EntriesTree) × EntriesSpell s (slot_and (subitem name k) ss) ms es (values_made (Some (kind_made around k) ∷ makers around ss) ms state).0) (sym e)
      (entry_more s name k ss m rest (kind_made around k) (values_made (makers around ss) rest) state low (kind_spelled around k b.0) (values_spelled around (s + 1) ss rest b.1 h))
