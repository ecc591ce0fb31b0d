-- Names and contents don't matter to what is read, nor to what is spelled.
use Rattle.std.proofs.Common.{◌≡◌, ℕ, zero, suc, ◌+◌, ◌%◌, ◌==◌, cond, true, false, List, [], ◌∷◌, ◌++◌, length, take, drop, map, refl, ◌∙◌, ap, arith}
use Rattle.std.proofs.lemmas.List.{length-map}
use Rattle.ax_bits.specs.Bits.{word, number_of}
use Rattle.ax_format.specs.Reader.{Read, got, failed, after, both, fixed_value, members_value, fixed_read, Split, split, short, cut, part_read, last_read, parts_read, one_read, run_read, each_read, count_read, presence_read, mark_read, marked_read, read, entries_read}
use Rattle.ax_format.specs.Canonical.{number_canon, fixed_canon, members_canon, parts_canon, run_canon, each_canon, marks_of, canon, entries_canon}
use Rattle.ax_format.specs.InBounds.{FixedInBounds, MembersInBounds, PartsInBounds, InBounds, SlotsInBounds}
use Rattle.ax_format.specs.Presence.{octets_needed, later_marks, first_mark, least_presence}
use Rattle.ax_format.specs.Specification.{SpecTree, record_kind}
use Rattle.ax_format.specs.Tree.{FixedTree, element, group, MembersTree, no_members, member_and, MemberTree, named, spare, members_of, KindTree, fixed, extended, counted, by_fx, explicit, compound, SlotsTree, no_slots, slot_and, SlotTree, spare_slot, subitem, slots_of, slot_count, defined_slots, ValueTree, number, member_values, part_values, occurrences, marked, ValuesTree, no_values, value_and, value_count, ListsTree, no_lists, list_and, EntriesTree, no_entries, entry_and}
use Rattle.ax_format.specs.Widths.{width, members_width, counter_width, fx_width}
use Rattle.ax_format.specs.declared.content.Content.TheVariants.{Raw}
use Rattle.ax_format.specs.declared.fault.BodyCause.TheVariants.{ExtensionPastEnd}
use Rattle.ax_format.specs.declared.kind.LastPart.{LastPart}
use Rattle.ax_format.specs.declared.kind.LastPart.TheVariants.{WithFx, WithoutFx}
use Rattle.ax_codec.specs.Bare.{bare_fixed, bare_members, bare_member, bare_kind, bare_slots, bare_slot}
use Rattle.ax_codec.specs.Standing.{StandsFor}
use Rattle.ax_codec.specs.Table.{record_kind_at}
use Rattle.ax_codec.specs.declared.codec.Codec.{Codec}
use Rattle.ax_fspec.specs.Reading.{record_slot_list}

-- ---- lists

pub bare_members_of : (ms : List MemberTree) → members_of (map bare_member ms) ≡ bare_members (members_of ms)
bare_members_of [] = refl
bare_members_of (named name f ∷ ms) = ap (λ x. member_and (named [] (bare_fixed f)) x) (bare_members_of ms)
bare_members_of (spare w ∷ ms) = ap (λ x. member_and (named [] (element w Raw)) x) (bare_members_of ms)

pub bare_slots_of : (ss : List SlotTree) → slots_of (map bare_slot ss) ≡ bare_slots (slots_of ss)
bare_slots_of [] = refl
bare_slots_of (spare_slot ∷ ss) = ap (λ x. slot_and spare_slot x) (bare_slots_of ss)
bare_slots_of (subitem name k ∷ ss) = ap (λ x. slot_and (subitem [] (bare_kind k)) x) (bare_slots_of ss)

-- ---- widths and bounds

mutual
  pub bare_width : (f : FixedTree) → width (bare_fixed f) ≡ width f
  bare_width (element w c) = refl
  bare_width (group ms) = bare_members_width ms

  pub bare_members_width : (ms : MembersTree) → members_width (bare_members ms) ≡ members_width ms
  bare_members_width no_members = refl
  bare_members_width (member_and (named name f) ms) = λ i. bare_width f i + bare_members_width ms i
  bare_members_width (member_and (spare w) ms) = λ i. w + bare_members_width ms i

mutual
  fixed_bounds : (f : FixedTree) → FixedInBounds f → FixedInBounds (bare_fixed f)
  fixed_bounds (element w c) h = h
  fixed_bounds (group ms) h = members_bounds ms h

  members_bounds : (ms : MembersTree) → MembersInBounds ms → MembersInBounds (bare_members ms)
  members_bounds no_members h = tt
  members_bounds (member_and (named name f) ms) h = (fixed_bounds f h.0, members_bounds ms h.1)
  members_bounds (member_and (spare w) ms) h = (h.0, members_bounds ms h.1)

bare_fx : (last : LastPart) (ps : List MembersTree) → fx_width last (length (map bare_members ps)) ≡ fx_width last (length ps)
bare_fx last ps = ap (fx_width last) (length-map ps bare_members)

parts_bounds : (last : LastPart) (ps : List MembersTree) → PartsInBounds last ps → PartsInBounds last (map bare_members ps)
parts_bounds last [] h = tt
parts_bounds last (p ∷ ps) h =
    let e = bare_members_width p in
    let fx = bare_fx last ps in
    (((λ i. (e i + fx i) % 8) ∙ h.0.0, omega (arith, e, h.0.1), members_bounds p h.0.2, omega (arith, e, fx, h.0.3)), parts_bounds last ps h.1)

bare_count : (ss : SlotsTree) → slot_count (bare_slots ss) ≡ slot_count ss
bare_count no_slots = refl
bare_count (slot_and spare_slot ss) = ap suc (bare_count ss)
bare_count (slot_and (subitem name k) ss) = ap suc (bare_count ss)

mutual
  pub bare_bounds : (k : KindTree) → InBounds k → InBounds (bare_kind k)
  bare_bounds (fixed f) h = let e = bare_width f in (ap (λ w. w % 8) e ∙ h.0, omega (arith, h.1), fixed_bounds f h.2)
  bare_bounds (extended last ps) h = (omega (arith, h.0, length-map ps bare_members), parts_bounds last ps h.1)
  bare_bounds (counted size k) h = bare_bounds k h
  bare_bounds (by_fx f) h = let e = bare_width f in (ap (λ w. (w + 1) % 8) e ∙ h.0, omega (arith, h.1), fixed_bounds f h.2)
  bare_bounds explicit h = tt
  bare_bounds (compound ss) h = let e = bare_count ss in (omega (arith, h.0), omega (arith, h.1), slots_bounds ss h.2)

  slots_bounds : (ss : SlotsTree) → SlotsInBounds ss → SlotsInBounds (bare_slots ss)
  slots_bounds no_slots h = tt
  slots_bounds (slot_and spare_slot ss) h = slots_bounds ss h
  slots_bounds (slot_and (subitem name k) ss) h = (bare_bounds k h.0, slots_bounds ss h.1)

-- ---- what is read

mutual
  bare_value : (f : FixedTree) (b : List ℕ) → fixed_value (bare_fixed f) b ≡ fixed_value f b
  bare_value (element w c) b = refl
  bare_value (group ms) b = ap (λ vs. member_values vs) (bare_values ms b)

  bare_values : (ms : MembersTree) (b : List ℕ) → members_value (bare_members ms) b ≡ members_value ms b
  bare_values no_members b = refl
  bare_values (member_and (named name f) ms) b = λ i. value_and (bare_value f b i) ((ap (λ w. members_value (bare_members ms) (drop w b)) (bare_width f) ∙ bare_values ms (drop (width f) b)) i)
  bare_values (member_and (spare w) ms) b = ap (λ vs. value_and (number (number_of (take w b))) vs) (bare_values ms (drop w b))

fixed_same : (f : FixedTree) (s : Split) → fixed_read (bare_fixed f) s ≡ fixed_read f s
fixed_same f short = refl
fixed_same f (cut x y) = λ i. got (bare_value f x i) (bare_width f i) y

part_same : (p : MembersTree) (ps : List MembersTree) (s : Split) (go goes : List ℕ → Read ListsTree) → ((y : List ℕ) → go y ≡ goes y) → part_read (bare_members p) (map bare_members ps) s go ≡ part_read p ps s goes
part_same p ps short go goes h = refl
part_same p ps (cut x []) go goes h = refl
part_same p ps (cut x (zero ∷ y)) go goes h = λ i. got (list_and (bare_values p x i) no_lists) (bare_members_width p i + 1) y
part_same p [] (cut x (suc fx ∷ y)) go goes h = ap (λ w. failed w ExtensionPastEnd) (bare_members_width p)
part_same p (q ∷ ps) (cut x (suc fx ∷ y)) go goes h = λ i. after (bare_members_width p i + 1) (λ ls. list_and (bare_values p x i) ls) (h y i)

last_same : (p : MembersTree) (s : Split) → last_read (bare_members p) s ≡ last_read p s
last_same p short = refl
last_same p (cut x y) = λ i. got (list_and (bare_values p x i) no_lists) (bare_members_width p i) y

parts_same : (last : LastPart) (ps : List MembersTree) (b : List ℕ) → parts_read last (map bare_members ps) b ≡ parts_read last ps b
parts_same last [] b = refl
parts_same last (p ∷ q ∷ ps) b =
    let go = parts_read last (map bare_members (q ∷ ps)) in
    ap (λ w. part_read (bare_members p) (map bare_members (q ∷ ps)) (split w b) go) (bare_members_width p) ∙ part_same p (q ∷ ps) (split (members_width p) b) go (parts_read last (q ∷ ps)) (parts_same last (q ∷ ps))
parts_same WithFx (p ∷ []) b =
    ap (λ w. part_read (bare_members p) [] (split w b) (parts_read WithFx [])) (bare_members_width p) ∙ part_same p [] (split (members_width p) b) (parts_read WithFx []) (parts_read WithFx []) (λ y. refl)
parts_same WithoutFx (p ∷ []) b = ap (λ w. last_read (bare_members p) (split w b)) (bare_members_width p) ∙ last_same p (split (members_width p) b)

one_same : (f : FixedTree) (s : Split) (go goes : List ℕ → Read ValuesTree) → ((y : List ℕ) → go y ≡ goes y) → one_read (bare_fixed f) s go ≡ one_read f s goes
one_same f short go goes h = refl
one_same f (cut x []) go goes h = refl
one_same f (cut x (zero ∷ y)) go goes h = λ i. got (value_and (bare_value f x i) no_values) (bare_width f i + 1) y
one_same f (cut x (suc fx ∷ y)) go goes h = λ i. after (bare_width f i + 1) (λ vs. value_and (bare_value f x i) vs) (h y i)

run_same : (n : ℕ) (f : FixedTree) (b : List ℕ) → run_read n (bare_fixed f) b ≡ run_read n f b
run_same zero f b = refl
run_same (suc n) f b = ap (λ w. one_read (bare_fixed f) (split w b) (run_read n (bare_fixed f))) (bare_width f) ∙ one_same f (split (width f) b) (run_read n (bare_fixed f)) (run_read n f) (run_same n f)

both_same : {A B C : Type 0} (f : A → B → C) (r s : Read A) (go goes : List ℕ → Read B) → r ≡ s → ((y : List ℕ) → go y ≡ goes y) → both f r go ≡ both f s goes
both_same f r s go goes e h = ap (λ r. both f r go) e ∙ at s
  where
    at : (s : Read _) → both f s go ≡ both f s goes
    at (got a n y) = ap (after n (f a)) (h y)
    at (failed p c) = refl

each_same : (rule rules : List ℕ → Read ValueTree) (n : ℕ) (b : List ℕ) → ((y : List ℕ) → rule y ≡ rules y) → each_read rule n b ≡ each_read rules n b
each_same rule rules zero b h = refl
each_same rule rules (suc n) b h = both_same (λ v vs. value_and v vs) (rule b) (rules b) (each_read rule n) (each_read rules n) (h b) (λ y. each_same rule rules n y h)

count_same : (w : ℕ) (rule rules : List ℕ → Read ValueTree) (s : Split) → ((y : List ℕ) → rule y ≡ rules y) → count_read w rule s ≡ count_read w rules s
count_same w rule rules short h = refl
count_same w rule rules (cut x y) h = ap (after w (λ vs. occurrences vs)) (each_same rule rules (number_of x) y h)

bare_defined : (ss : SlotsTree) → defined_slots (bare_slots ss) ≡ defined_slots ss
bare_defined no_slots = refl
bare_defined (slot_and spare_slot ss) = ap (λ x. false ∷ x) (bare_defined ss)
bare_defined (slot_and (subitem name k) ss) = ap (λ x. true ∷ x) (bare_defined ss)

marked_same : (r : Read (List ℕ)) (go goes : List ℕ → List ℕ → Read EntriesTree) → ((ms y : List ℕ) → go ms y ≡ goes ms y) → marked_read r go ≡ marked_read r goes
marked_same (got ms n y) go goes h = ap (after n (λ es. marked es)) (h ms y)
marked_same (failed p c) go goes h = refl

mark_same : (m s : ℕ) (one ones : List ℕ → Read ValueTree) (go goes : List ℕ → Read EntriesTree) (b : List ℕ) → ((y : List ℕ) → one y ≡ ones y) → ((y : List ℕ) → go y ≡ goes y) → mark_read m s one go b ≡ mark_read m s ones goes b
mark_same zero s one ones go goes b h g = g b
mark_same (suc m) s one ones go goes b h g = both_same (λ v es. entry_and s v es) (one b) (ones b) go goes (h b) g

mutual
  pub bare_read : (k : KindTree) (b : List ℕ) → read (bare_kind k) b ≡ read k b
  bare_read (fixed f) b = ap (λ w. fixed_read (bare_fixed f) (split w b)) (bare_width f) ∙ fixed_same f (split (width f) b)
  bare_read (extended last ps) b = ap (after 0 (λ ls. part_values ls)) (parts_same last ps b)
  bare_read (counted size k) b = count_same (counter_width size) (read (bare_kind k)) (read k) (split (counter_width size) b) (bare_read k)
  bare_read (by_fx f) b = ap (after 0 (λ vs. occurrences vs)) (run_same (suc (length b)) f b)
  bare_read explicit b = refl
  bare_read (compound ss) b =
      (λ i. marked_read (presence_read (octets_needed (bare_count ss i)) (bare_defined ss i) b) (entries_read 1 (bare_slots ss)))
      ∙ marked_same (presence_read (octets_needed (slot_count ss)) (defined_slots ss) b) (entries_read 1 (bare_slots ss)) (entries_read 1 ss) (λ ms y. bare_entries 1 ss ms y)

  bare_entries : (s : ℕ) (ss : SlotsTree) (ms b : List ℕ) → entries_read s (bare_slots ss) ms b ≡ entries_read s ss ms b
  bare_entries s no_slots ms b = refl
  bare_entries s (slot_and spare_slot ss) ms b = bare_entries (s + 1) ss (later_marks ms) b
  bare_entries s (slot_and (subitem name k) ss) ms b =
      mark_same (first_mark ms) s (read (bare_kind k)) (read k) (entries_read (s + 1) (bare_slots ss) (later_marks ms)) (entries_read (s + 1) ss (later_marks ms)) b (bare_read k) (λ y. bare_entries (s + 1) ss (later_marks ms) y)

-- ---- canonical spellings

mutual
  bare_fixed_canon : (f : FixedTree) (v : ValueTree) → fixed_canon (bare_fixed f) v ≡ fixed_canon f v
  bare_fixed_canon (element w c) v = refl
  bare_fixed_canon (group ms) (member_values vs) = bare_members_canon ms vs
  bare_fixed_canon (group ms) _ = refl

  bare_members_canon : (ms : MembersTree) (vs : ValuesTree) → members_canon (bare_members ms) vs ≡ members_canon ms vs
  bare_members_canon no_members vs = refl
  bare_members_canon (member_and (named name f) ms) no_values = refl
  bare_members_canon (member_and (spare w) ms) no_values = refl
  bare_members_canon (member_and (named name f) ms) (value_and v vs) = λ i. bare_fixed_canon f v i ++ bare_members_canon ms vs i
  bare_members_canon (member_and (spare w) ms) (value_and v vs) = λ i. number_canon w v ++ bare_members_canon ms vs i

bare_parts_canon : (last : LastPart) (ps : List MembersTree) (ls : ListsTree) → parts_canon last (map bare_members ps) ls ≡ parts_canon last ps ls
bare_parts_canon last [] ls = refl
bare_parts_canon last (p ∷ ps) no_lists = refl
bare_parts_canon last (p ∷ ps) (list_and vs no_lists) = λ i. bare_members_canon p vs i ++ word (bare_fx last ps i) 0
bare_parts_canon last (p ∷ ps) (list_and vs (list_and ws ls)) = λ i. bare_members_canon p vs i ++ 1 ∷ bare_parts_canon last ps (list_and ws ls) i

bare_run_canon : (f : FixedTree) (vs : ValuesTree) → run_canon (bare_fixed f) vs ≡ run_canon f vs
bare_run_canon f no_values = refl
bare_run_canon f (value_and v no_values) = ap (λ x. x ++ 0 ∷ []) (bare_fixed_canon f v)
bare_run_canon f (value_and v (value_and w vs)) = λ i. bare_fixed_canon f v i ++ 1 ∷ bare_run_canon f (value_and w vs) i

each_canon_same : (rule rules : ValueTree → List ℕ) (vs : ValuesTree) → ((v : ValueTree) → rule v ≡ rules v) → each_canon rule vs ≡ each_canon rules vs
each_canon_same rule rules no_values h = refl
each_canon_same rule rules (value_and v vs) h = λ i. h v i ++ each_canon_same rule rules vs h i

bare_marks : (s : ℕ) (ss : SlotsTree) (es : EntriesTree) → marks_of s (bare_slots ss) es ≡ marks_of s ss es
bare_marks s no_slots es = refl
bare_marks s (slot_and spare_slot ss) es = ap (λ x. 0 ∷ x) (bare_marks (s + 1) ss es)
bare_marks s (slot_and (subitem name k) ss) no_entries = ap (λ x. 0 ∷ x) (bare_marks (s + 1) ss no_entries)
bare_marks s (slot_and (subitem name k) ss) (entry_and t v es) = λ i. cond (t == s) (1 ∷ bare_marks (s + 1) ss es i) (0 ∷ bare_marks (s + 1) ss (entry_and t v es) i)

mutual
  pub bare_canon : (k : KindTree) (v : ValueTree) → canon (bare_kind k) v ≡ canon k v
  bare_canon (fixed f) v = bare_fixed_canon f v
  bare_canon (extended last ps) (part_values ls) = bare_parts_canon last ps ls
  bare_canon (extended last ps) _ = refl
  bare_canon (counted size k) (occurrences vs) = ap (λ x. word (counter_width size) (value_count vs) ++ x) (each_canon_same (canon (bare_kind k)) (canon k) vs (bare_canon k))
  bare_canon (counted size k) _ = refl
  bare_canon (by_fx f) (occurrences vs) = bare_run_canon f vs
  bare_canon (by_fx f) _ = refl
  bare_canon explicit v = refl
  bare_canon (compound ss) (marked es) = λ i. least_presence (octets_needed (bare_count ss i)) (bare_marks 1 ss es i) ++ bare_entries_canon 1 ss es i
  bare_canon (compound ss) _ = refl

  bare_entries_canon : (s : ℕ) (ss : SlotsTree) (es : EntriesTree) → entries_canon s (bare_slots ss) es ≡ entries_canon s ss es
  bare_entries_canon s no_slots es = refl
  bare_entries_canon s (slot_and spare_slot ss) es = bare_entries_canon (s + 1) ss es
  bare_entries_canon s (slot_and (subitem name k) ss) no_entries = bare_entries_canon (s + 1) ss no_entries
  bare_entries_canon s (slot_and (subitem name k) ss) (entry_and t v es) =
      λ i. cond (t == s) (bare_canon k v i ++ bare_entries_canon (s + 1) ss es i) (bare_entries_canon (s + 1) ss (entry_and t v es) i)

-- ---- records

pub stands_record : (codec : Codec) (spec : SpecTree) → StandsFor codec spec → record_kind_at codec.nodes codec.slots ≡ bare_kind (record_kind spec)
unfolding record_kind_at
stands_record codec spec h = ap (λ ss. compound (slots_of ss)) h.slots ∙ ap (λ ss. compound ss) (bare_slots_of (record_slot_list spec))
