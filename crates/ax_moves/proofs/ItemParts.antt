-- The parts of an item, and the first of them as they move.
use Rattle.std.proofs.Common.{◌≡◌, ℕ, zero, suc, ◌+◌, ◌-◌, ◌*◌, ◌/◌, ◌<◌, ◌≤◌, ◌⊎◌, inl, inr, nat_lt, Bool, false, true, List, [], ◌∷◌, length, drop, get_or, Option, Some, None, refl, sym, ◌∙◌, ap, arith, subst}
use Rattle.std.proofs.lemmas.Bool.{le-ltb, lt-ltb}
use Rattle.std.proofs.lemmas.List.{get_or_default, length-map}
use Rattle.ax_bits.specs.Bits.{bits, number_of}
use Rattle.ax_relation.proofs.CommonParts.{same_test}
use Rattle.ax_relation.specs.Moved.{first_lists}
use Rattle.ax_moves.proofs.FrontParts.{count_within, few_kept, front_kept, some_octets, whole_kept}
use Rattle.ax_moves.specs.Fronts.{FrontIs, IsFront, front_octets, kept_bits}
use Rattle.ax_moves.specs.Lost.{HasParts}
use Rattle.ax_moves.specs.Octets.{value_canon_by}
use Rattle.ax_format.proofs.CanonSpells.{spells_shape}
use Rattle.ax_format.proofs.Namings.{from_place}
use Rattle.ax_format.specs.Canonical.{canon, parts_canon}
use Rattle.ax_format.specs.Fitting.{list_count}
use Rattle.ax_format.specs.InBounds.{PartsInBounds}
use Rattle.ax_format.specs.Placed.{has_part}
use Rattle.ax_format.specs.Presence.{octets_needed}
use Rattle.ax_format.specs.Reader.{Read, got, failed, after, Split, short, cut, split, read, fixed_read, run_read, count_read, explicit_read, contents_read, octets_read, each_read, marked_read, presence_read, entries_read}
use Rattle.ax_format.specs.Shape.{Shape, PartsShape}
use Rattle.ax_format.specs.Tree.{FixedTree, element, group, MembersTree, KindTree, fixed, extended, counted, by_fx, explicit, compound, slot_count, defined_slots, ValueTree, part_values, occurrences, marked, ValuesTree, ListsTree, no_lists, list_and, EntriesTree}
use Rattle.ax_format.specs.Widths.{width, counter_width, members_width}
use Rattle.ax_format.specs.declared.kind.LastPart.{LastPart}
use Rattle.ax_relation.specs.Moves.{MovesTree}
use Rattle.ax_codec.specs.Meaning.{linked_part, linked_parts, meanings}
use Rattle.ax_codec.specs.declared.node.Node.{Node}
use Rattle.ax_codec.specs.declared.node.Node.TheVariants as Of
use Rattle.ax_walk.proofs.ItemPieces.{extended_bounds, extended_one}
use Rattle.ax_walk.proofs.ItemSteps.{le_or_less}
use Rattle.ax_walk.proofs.NodeKinds.{is_extended}
use Rattle.ax_walk.proofs.PartSteps.{is_parts}
use Rattle.ax_walk.proofs.Spelled.{leaf_canonical, value_spelled}
use Rattle.ax_walk.specs.Shown.{ArePartsOf, IsParts, PartsAre, item_kind, item_value}
use Rattle.ax_walk.specs.Spots.{lists_in}
use Rattle.ax_walk.specs.Values.{IsItemOf, ItemInBounds, value_in, value_read}
use Rattle.ax_walk.specs.declared.item.ItemView.{ItemView}

-- ---- an extended item

pub record IsExtended (item : ItemView) (last : LastPart) (ps : List MembersTree) : Type 0 where
  pub kind : item_kind item ≡ extended last ps
  pub lists : ListsTree
  pub value : item_value item ≡ part_values lists
  pub bounds : PartsInBounds last ps
  pub shape : PartsShape ps lists
  pub spelled : bits item.body.now ≡ parts_canon last ps lists

pub extended_item : (item : ItemView) (last : LastPart) (ps : List MembersTree) → item_kind item ≡ extended last ps → IsExtended item last ps
extended_item item last ps e =
    let body = item.body.now in
    let bounds = extended_bounds item.by_fx last ps (subst (ItemInBounds item.by_fx) e item.item.bounds) in
    let one = extended_one item.by_fx last ps body (subst (λ k. IsItemOf item.by_fx k body) e item.item.one) in
    let is = is_parts last ps body one in
    let shape : Shape (extended last ps) (part_values (lists_in (value_in (extended last ps) body))) =
    subst (Shape (extended last ps)) is (spells_shape (extended last ps) (value_in (extended last ps) body) (bits body) (value_spelled (extended last ps) body bounds one)) in
    record {
      kind = e;
      lists = lists_in (value_in (extended last ps) body);
      value = ap (λ k. value_in k body) e ∙ is;
      bounds = bounds.1;
      shape = shape;
      spelled = sym (leaf_canonical (extended last ps) body tt bounds one) ∙ ap (canon (extended last ps)) is;
    }

first_canon : (item : ItemView) (last : LastPart) (ps : List MembersTree) (c : ℕ) (ms : MovesTree) (x : IsExtended item last ps) → value_canon_by c ms (item_kind item) (item_value item) ≡ parts_canon last ps (first_lists c x.lists)
first_canon item last ps c ms x = λ i. value_canon_by c ms (x.kind i) (x.value i)

module _ (item : ItemView) (one : Node) (at : one ≡ get_or item.codec.now.nodes (item.link - 1) one) (last : LastPart) (links found : List ℕ) (e : one ≡ Of.Extended last links) (f : found ≡ links) where
  abbrev ps : List MembersTree
  ps = linked_parts (meanings item.codec.now.nodes) found

  is_one : IsExtended item last ps
  is_one = extended_item item last ps (is_extended item.codec.now.nodes item.link one item.codec.now.table item.item.some item.item.within at last links found e f)

  count_is : length ps ≡ length found
  count_is = length-map found (linked_part (meanings item.codec.now.nodes))

  pub octets_some : 0 < length item.body.now
  octets_some = some_octets last 0 ps is_one.lists item.body.now is_one.bounds is_one.shape is_one.spelled

  -- where the kind has no more parts, all octets stay
  pub all_stay : (c : ℕ) (ms : MovesTree) → length found ≤ c → value_canon_by c ms (item_kind item) (item_value item) ≡ bits item.body.now
  all_stay c ms few = first_canon item last ps c ms is_one ∙ sym (whole_kept last c ps is_one.lists item.body.now is_one.bounds is_one.shape is_one.spelled (inl (omega (arith, few, count_is))))

  -- and where it has no more octets than that
  pub few_stay : (c : ℕ) (ms : MovesTree) → length item.body.now ≤ c → value_canon_by c ms (item_kind item) (item_value item) ≡ bits item.body.now
  few_stay c ms few = first_canon item last ps c ms is_one ∙ sym (few_kept last c ps is_one.lists item.body.now is_one.bounds is_one.shape is_one.spelled few)

  -- they are the canonical ones of its value
  pub few_canon : (c : ℕ) (ms : MovesTree) → length item.body.now ≤ c → value_canon_by c ms (item_kind item) (item_value item) ≡ canon (item_kind item) (item_value item)
  few_canon c ms few = few_stay c ms few ∙ is_one.spelled ∙ (λ i. canon (sym is_one.kind i) (sym is_one.value i))

  -- what is kept of its octets
  pub front_stays : (c : ℕ) (ms : MovesTree) (o : Option ℕ) (codec_nodes : List Node) (body : List ℕ) → codec_nodes ≡ item.codec.now.nodes → body ≡ item.body.now → FrontIs codec_nodes found c (length body) o → kept_bits o body ≡ value_canon_by c ms (item_kind item) (item_value item)
  front_stays c ms o codec_nodes body same own h =
      ap (kept_bits o) own ∙ by o (subst (λ b. FrontIs item.codec.now.nodes found c (length b) o) own (subst (λ ns. FrontIs ns found c (length body) o) same h)) ∙ sym (first_canon item last ps c ms is_one)
    where
      by : (o : Option ℕ) → FrontIs item.codec.now.nodes found c (length item.body.now) o → kept_bits o item.body.now ≡ parts_canon last ps (first_lists c is_one.lists)
      by None (inl past) = whole_kept last c ps is_one.lists item.body.now is_one.bounds is_one.shape is_one.spelled (inl (omega (arith, past, count_is)))
      by None (inr few) = whole_kept last c ps is_one.lists item.body.now is_one.bounds is_one.shape is_one.spelled (inr few)
      by (Some n) h = front_kept last c ps is_one.lists item.body.now is_one.bounds is_one.shape is_one.spelled n (omega (arith, h.more, count_is)) h.counted h.others

-- ---- no parts of another kind

no_lists_after : {A : Type 0} (i n : ℕ) (f : A → ValueTree) → ((a : A) → has_part (Some i) (f a) ≡ false) → (r : Read A) → has_part (Some i) (value_read (after n f r)) ≡ false
no_lists_after i n f h (got a m y) = h a
no_lists_after i n f h (failed p c) = refl

fixed_none : (i : ℕ) (f : FixedTree) (s : Split) → has_part (Some i) (value_read (fixed_read f s)) ≡ false
fixed_none i f short = refl
fixed_none i (element w k) (cut x y) = refl
fixed_none i (group ms) (cut x y) = refl

counted_none : (i w : ℕ) (rule : List ℕ → Read ValueTree) (s : Split) → has_part (Some i) (value_read (count_read w rule s)) ≡ false
counted_none i w rule short = refl
counted_none i w rule (cut x y) = no_lists_after i w (λ (vs : ValuesTree). occurrences vs) (λ vs. refl) (each_read rule (number_of x) y)

octets_none : (i m : ℕ) (s : Split) → has_part (Some i) (value_read (octets_read m s)) ≡ false
octets_none i m short = refl
octets_none i m (cut x y) = refl

contents_none : (i m : ℕ) (y : List ℕ) → has_part (Some i) (value_read (contents_read m y)) ≡ false
contents_none i zero y = refl
contents_none i (suc m) y = octets_none i m (split (8 * m) y)

explicit_none : (i : ℕ) (s : Split) → has_part (Some i) (value_read (explicit_read s)) ≡ false
explicit_none i short = refl
explicit_none i (cut x y) = contents_none i (number_of x) y

marked_none : (i : ℕ) (r : Read (List ℕ)) (go : List ℕ → List ℕ → Read EntriesTree) → has_part (Some i) (value_read (marked_read r go)) ≡ false
marked_none i (got ms n y) go = no_lists_after i n (λ (es : EntriesTree). marked es) (λ es. refl) (go ms y)
marked_none i (failed p c) go = refl

-- ---- which parts are present

slices_count : (last : LastPart) (ps : List MembersTree) (ls : ListsTree) (slices : List (List ℕ)) → PartsAre last ps ls slices → length slices ≡ list_count ls
slices_count last ps no_lists [] h = refl
slices_count last ps no_lists (x ∷ slices) h = absurd h
slices_count last [] (list_and vs ls) slices h = absurd h
slices_count last (p ∷ ps) (list_and vs ls) [] h = absurd h
slices_count last (p ∷ ps) (list_and vs ls) (x ∷ slices) h = let later = slices_count last ps ls slices h.1 in omega arith

none_below : (i : ℕ) (slices : List (List ℕ)) → slices ≡ [] → nat_lt i (length slices) ≡ false
none_below i slices e = ap (λ (xs : List (List ℕ)). nat_lt i (length xs)) e ∙ le-ltb i 0 (omega arith)

parts_there : (item : ItemView) (i : ℕ) (slices : List (List ℕ)) (k : KindTree) → item_kind item ≡ k → ArePartsOf k (value_in k item.body.now) item.body.now slices → nat_lt i (length slices) ≡ has_part (Some i) (value_in k item.body.now)
unfolding value_in
parts_there item i slices (extended last ps) e h =
    let x = extended_item item last ps e in
    let value : value_in (extended last ps) item.body.now ≡ part_values x.lists = ap (λ k. value_in k item.body.now) (sym e) ∙ x.value in
    ap (nat_lt i) (slices_count last ps (lists_in (value_in (extended last ps) item.body.now)) slices h.0 ∙ ap (λ v. list_count (lists_in v)) value) ∙ ap (has_part (Some i)) (sym value)
parts_there item i slices (fixed f) e h = none_below i slices h ∙ sym (fixed_none i f (split (width f) (bits item.body.now)))
parts_there item i slices (counted size k) e h = none_below i slices h ∙ sym (counted_none i (counter_width size) (read k) (split (counter_width size) (bits item.body.now)))
parts_there item i slices (by_fx f) e h = none_below i slices h ∙ sym (no_lists_after i 0 (λ (vs : ValuesTree). occurrences vs) (λ vs. refl) (run_read (suc (length (bits item.body.now))) f (bits item.body.now)))
parts_there item i slices explicit e h = none_below i slices h ∙ sym (explicit_none i (split 8 (bits item.body.now)))
parts_there item i slices (compound ss) e h =
    none_below i slices h ∙ sym (marked_none i (presence_read (octets_needed (slot_count ss)) (defined_slots ss) (bits item.body.now)) (entries_read 1 ss))

-- there is no part of a number that isn't below that of the octets
none_there : (item : ItemView) (i : ℕ) (k : KindTree) → item_kind item ≡ k → length item.body.now ≤ i → has_part (Some i) (value_in k item.body.now) ≡ false
unfolding value_in
none_there item i (extended last ps) e few =
    let x = extended_item item last ps e in
    let value : value_in (extended last ps) item.body.now ≡ part_values x.lists = ap (λ k. value_in k item.body.now) (sym e) ∙ x.value in
    ap (has_part (Some i)) value ∙ le-ltb i (list_count x.lists) (omega (arith, few, count_within last i ps x.lists item.body.now x.bounds x.shape x.spelled))
none_there item i (fixed f) e few = fixed_none i f (split (width f) (bits item.body.now))
none_there item i (counted size k) e few = counted_none i (counter_width size) (read k) (split (counter_width size) (bits item.body.now))
none_there item i (by_fx f) e few = no_lists_after i 0 (λ (vs : ValuesTree). occurrences vs) (λ vs. refl) (run_read (suc (length (bits item.body.now))) f (bits item.body.now))
none_there item i explicit e few = explicit_none i (split 8 (bits item.body.now))
none_there item i (compound ss) e few = marked_none i (presence_read (octets_needed (slot_count ss)) (defined_slots ss) (bits item.body.now)) (entries_read 1 ss)

pub few_octets : (item : ItemView) (i : ℕ) → length item.body.now ≤ i → has_part (Some i) (item_value item) ≡ false
few_octets item i few = none_there item i (item_kind item) refl few

-- so many slices are left of those of an item, and none before this one is the one that is looked for
pub record PartsLeft (item : ItemView) (number : ℕ) (left : List (List ℕ)) (before : ℕ) : Type 0 where
  pub same : has_part (Some number) (item_value item) ≡ nat_lt before (length left)

pub parts_first : (item : ItemView) (number : ℕ) (left : List (List ℕ)) → IsParts item left → PartsLeft item number left number
parts_first item number left h = record { same = sym (parts_there item number left (item_kind item) refl h.parts) }

pub parts_next : (item : ItemView) (number : ℕ) (left later : List (List ℕ)) (x : List ℕ) (before : ℕ) → PartsLeft item number left before → left ≡ x ∷ later → 0 < before → PartsLeft item number later (before - 1)
parts_next item number left later x before h e some = record {
  same = h.same ∙ (λ i. nat_lt (sym (pred before some) i) (length (e i))) ∙ sym (same_test (before - 1) (length later));
}
  where
    pred : (n : ℕ) → 0 < n → suc (n - 1) ≡ n
    pred n some = omega arith

pub parts_found : (item : ItemView) (number : ℕ) (left later : List (List ℕ)) (x : List ℕ) (before : ℕ) → PartsLeft item number left before → left ≡ x ∷ later → before ≡ 0 → has_part (Some number) (item_value item) ≡ true
parts_found item number left later x before h e none = h.same ∙ (λ i. nat_lt (none i) (length (e i))) ∙ lt-ltb 0 (suc (length later)) (omega arith)

pub parts_end : (item : ItemView) (number : ℕ) (left : List (List ℕ)) (before : ℕ) → PartsLeft item number left before → left ≡ [] → has_part (Some number) (item_value item) ≡ false
parts_end item number left before h e = h.same ∙ none_below before left e

-- ---- how many parts are present

-- so many parts were passed, and these slices are left
pub record PartsPassed (item : ItemView) (left : List (List ℕ)) (count : ℕ) : Type 0 where
  pub each : (i : ℕ) → has_part (Some i) (item_value item) ≡ nat_lt i (count + length left)

pub passed_first : (item : ItemView) (left : List (List ℕ)) → IsParts item left → PartsPassed item left 0
passed_first item left h = record { each = λ i. sym (parts_there item i left (item_kind item) refl h.parts) ∙ ap (nat_lt i) (let e : length left ≡ 0 + length left = omega arith in e) }

module _ (item : ItemView) (left later : List (List ℕ)) (x : List ℕ) (count : ℕ) (h : PartsPassed item left count) (e : left ≡ x ∷ later) where
  pub passed_next : PartsPassed item later (count + 1)
  passed_next = record { each = λ i. h.each i ∙ ap (nat_lt i) (let same : count + length left ≡ count + 1 + length later = omega (arith, ap length e) in same) }

  here : has_part (Some count) (item_value item) ≡ true
  here = h.each count ∙ lt-ltb count (count + length left) (omega (arith, ap length e))

  pub passed_within : count < length item.body.now
  passed_within = by (le_or_less (length item.body.now) count)
    where
      by : (length item.body.now ≤ count) ⊎ (count < length item.body.now) → count < length item.body.now
      by (inl few) = absurd (let no : true ≡ false = sym here ∙ few_octets item count few in cc)
      by (inr lt) = lt

few_of : (fx : Bool) (k : KindTree) (octets : List ℕ) → IsItemOf fx k octets → length octets ≤ 65532
few_of false k octets h = h.few
few_of true k octets h = h.few

pub passed_few : (item : ItemView) (left later : List (List ℕ)) (x : List ℕ) (count : ℕ) → PartsPassed item left count → left ≡ x ∷ later → count < 65532
passed_few item left later x count h e = omega (arith, passed_within item left later x count h e, few_of item.by_fx (item_kind item) item.body.now item.item.one)

pub passed_all : (item : ItemView) (left : List (List ℕ)) (count : ℕ) → PartsPassed item left count → left ≡ [] → HasParts item count
passed_all item left count h e = record { each = λ i. h.each i ∙ ap (nat_lt i) (let same : count + length left ≡ count = omega (arith, ap length e) in same) }

-- ---- the octets of the first parts, one after the other

pub record FrontSoFar (nodes : List Node) (links : List ℕ) (c octets index n : ℕ) : Type 0 where
  pub within : index ≤ c
  pub others : n < octets
  pub counted : n + front_octets (c - index) (linked_parts (meanings nodes) (drop index links)) ≡ front_octets c (linked_parts (meanings nodes) links)

pub front_first : (nodes : List Node) (links : List ℕ) (c octets : ℕ) → 0 < octets → FrontSoFar nodes links c octets 0 0
front_first nodes links c octets some = record { within = omega arith; others = some; counted = omega (arith, ap (λ k. front_octets k (linked_parts (meanings nodes) links)) (let e : c - 0 ≡ c = omega arith in e)) }

module _ (nodes : List Node) (links : List ℕ) (c octets index n : ℕ) (h : FrontSoFar nodes links c octets index n) (more : index < c) (few : c < length links) (size : ℕ) (is : size ≡ (members_width (linked_part (meanings nodes) (get_or links index 0)) + 1) / 8) where
  counted_here : n + (size + front_octets (c - (index + 1)) (linked_parts (meanings nodes) (drop (index + 1) links))) ≡ front_octets c (linked_parts (meanings nodes) links)
  counted_here =
      let rest : drop index links ≡ get_or links index 0 ∷ drop (index + 1) links = from_place links index (get_or links index 0) (omega arith) (get_or_default links index 0 (get_or links index 0) (omega arith)) in
      let left : c - index ≡ suc (c - (index + 1)) = omega arith in
      ap (λ k. n + (k + front_octets (c - (index + 1)) (linked_parts (meanings nodes) (drop (index + 1) links)))) is
      ∙ sym (λ i. n + front_octets (left i) (linked_parts (meanings nodes) (rest i))) ∙ h.counted

  pub front_next : size < octets - n → FrontSoFar nodes links c octets (index + 1) (n + size)
  front_next lt = record {
    within = omega arith;
    others = omega arith;
    counted = omega (arith, counted_here);
  }

  pub front_past : octets - n ≤ size → octets ≤ front_octets c (linked_parts (meanings nodes) links)
  front_past le = omega (arith, le, counted_here, h.others)

pub front_last : (nodes : List Node) (links : List ℕ) (c octets index n : ℕ) → FrontSoFar nodes links c octets index n → c ≤ index → c < length links → IsFront nodes links c octets n
front_last nodes links c octets index n h past few = record {
  more = few;
  counted = omega (arith, h.counted, ap (λ k. front_octets k (linked_parts (meanings nodes) (drop index links))) (let e : c - index ≡ 0 = omega arith in e));
  others = h.others;
}
