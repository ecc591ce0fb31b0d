-- The parts and the occurrences of an item, of what its octets spell.
use Rattle.std.proofs.Common.{◌≡◌, ◌≢◌, ℕ, ◌+◌, ◌-◌, ◌*◌, ◌/◌, ◌%◌, ◌^◌, ◌<◌, ◌≤◌, Bool, true, false, Option, Some, None, IfSome, IfNone, List, [], ◌∷◌, ◌++◌, length, take, drop, map, flat_map, get_or, refl, sym, ◌∙◌, ap, arith, subst, length-drop}
use Rattle.std.proofs.lemmas.List.{take_at, drop_at, get_or_default}
use Rattle.std.proofs.Math.Nat.{div-le_self}
use Rattle.std.proofs.lemmas.Nat.{div-mul-add}
use Rattle.ax_bits.proofs.Pieces.{number-word}
use Rattle.ax_bits.proofs.Words.{length-word}
use Rattle.ax_bits.specs.Bits.{bits, word, number_of}
use Rattle.ax_format.specs.Canonical.{canon}
use Rattle.ax_format.specs.InBounds.{InBounds}
use Rattle.ax_format.specs.Spelling.{PartsSpell, RunSpells, EachSpells, Spells}
use Rattle.ax_format.specs.Tree.{FixedTree, KindTree, fixed, extended, counted, by_fx, ValueTree, occurrences, ValuesTree, value_count, part_values}
use Rattle.ax_format.specs.Widths.{width, members_width, counter_octets, counter_width, fx_width}
use Rattle.ax_format.specs.declared.fault.BodyCause.TheVariants.{RunsOut}
use Rattle.ax_format.specs.declared.fault.BodyFault.{BodyFault}
use Rattle.ax_format.specs.declared.kind.Counter.{Counter}
use Rattle.ax_format.specs.declared.kind.Counter.TheVariants.{One, Two}
use Rattle.ax_format.specs.declared.kind.LastPart.{LastPart}
use Rattle.ax_fspec.proofs.Counting.{counted_none}
use Rattle.ax_fspec.specs.Reading.{FailsAt, IsCount, kind_read}
use Rattle.ax_codec.proofs.Tables.{link_means}
use Rattle.ax_codec.specs.Meaning.{Meaning, a_fixed, a_part, a_kind, meaning, meanings, linked, fixed_of, kind_of, linked_part, linked_parts}
use Rattle.ax_codec.specs.Table.{IsTable, kind_at, record_kind_at}
use Rattle.ax_codec.specs.declared.codec.Codec.{Codec}
use Rattle.ax_codec.specs.declared.node.Node.{Node}
use Rattle.ax_codec.specs.declared.node.Node.TheVariants as Of
use Rattle.ax_walk.proofs.CountedSteps.{counter_front}
use Rattle.ax_walk.proofs.CutSteps.{parts_cut, Cut, each_cut, run_cut}
use Rattle.ax_walk.proofs.Found.{read_all}
use Rattle.ax_walk.proofs.NodeKinds.{is_element, is_group, no_part, is_extended, extended_links, is_counted, counted_link, is_by_fx, by_fx_link, is_explicit, is_compound}
use Rattle.ax_walk.proofs.PartSteps.{is_parts}
use Rattle.ax_walk.proofs.PieceSteps.{never_fails, size_is, opened, listed, joined}
use Rattle.ax_walk.proofs.Spelled.{value_spelled}
use Rattle.ax_walk.proofs.UnitSteps.{fx_few}
use Rattle.ax_walk.specs.Left.{Occurrence, occurrences_shown}
use Rattle.ax_walk.specs.Pieces.{first_size, pieces, ArePieces, part_pieces, ArePartPieces, part_size, part_sizes, ArePartsLeft, AreOccurrencesLeft}
use Rattle.ax_walk.specs.Shown.{ArePartsOf, AreOccurrences, OccurrencesBy, IsOccurrences, occurrences_in}
use Rattle.ax_walk.specs.Spots.{lists_in}
use Rattle.ax_walk.specs.Values.{IsOne, IsItem, IsItemOf, ItemInBounds, value_in}
use Rattle.ax_walk.specs.Walking.{Walks}
use Rattle.ax_walk.specs.declared.item.ItemView.{ItemView}

-- ---- parts

pub extended_bounds : (fx : Bool) (last : LastPart) (ps : _) → ItemInBounds fx (extended last ps) → InBounds (extended last ps)
extended_bounds false last ps h = h
extended_bounds true last ps h = absurd h

pub extended_one : (fx : Bool) (last : LastPart) (ps : _) (body : List ℕ) → IsItemOf fx (extended last ps) body → IsOne (extended last ps) body
extended_one false last ps body h = h
extended_one true last ps body h = absurd h.fits

spelled_parts : (last : LastPart) (ps : _) (body : List ℕ) → InBounds (extended last ps) → IsOne (extended last ps) body → PartsSpell last ps (lists_in (value_in (extended last ps) body)) (bits body)
spelled_parts last ps body bounds one =
    let t : Spells (extended last ps) (part_values (lists_in (value_in (extended last ps) body))) (bits body) = subst (λ v. Spells (extended last ps) v (bits body)) (is_parts last ps body one) (value_spelled (extended last ps) body bounds one) in t

compound_none : (ns : List Node) (links : List ℕ) (v : ValueTree) (xs : List ℕ) → ArePartsOf (record_kind_at ns links) v xs []
unfolding record_kind_at
compound_none ns links v xs = refl

module _ (codec : Codec) (link : ℕ) (fx : Bool) (body : List ℕ) (one : Node) (item : IsItem codec link fx body) (at : one ≡ get_or codec.nodes (link - 1) one) where
  module _ (last : LastPart) (links found : List ℕ) (e : one ≡ Of.Extended last links) (f : found ≡ links) where
    kind_is : kind_at codec.nodes link ≡ extended last (linked_parts (meanings codec.nodes) found)
    kind_is = is_extended codec.nodes link one codec.table item.some item.within at last links found e f

    bounds : InBounds (extended last (linked_parts (meanings codec.nodes) found))
    bounds = extended_bounds fx last (linked_parts (meanings codec.nodes) found) (subst (ItemInBounds fx) kind_is item.bounds)

    is_one : IsOne (extended last (linked_parts (meanings codec.nodes) found)) body
    is_one = extended_one fx last (linked_parts (meanings codec.nodes) found) body (subst (λ k. IsItemOf fx k body) kind_is item.one)

    spelled : PartsSpell last (linked_parts (meanings codec.nodes) found) (lists_in (value_in (extended last (linked_parts (meanings codec.nodes) found)) body)) (bits body)
    spelled = spelled_parts last (linked_parts (meanings codec.nodes) found) body bounds is_one

    pub parts_made : ArePartsLeft codec.nodes last found body
    parts_made =
        let c = parts_cut last (linked_parts (meanings codec.nodes) found) (lists_in (value_in (extended last (linked_parts (meanings codec.nodes) found)) body)) body bounds.1 spelled in record {
          links_within = extended_links codec.nodes link one codec.table item.some item.within at last links found e f;
          bounds = bounds.1;
          pieces_are = c.are_pieces;
          few = is_one.few;
        }

    pub parts_shown : (slices : List (List ℕ)) → slices ≡ part_pieces (part_sizes last (linked_parts (meanings codec.nodes) found)) body → ArePartsOf (kind_at codec.nodes link) (value_in (kind_at codec.nodes link) body) body slices
    parts_shown slices s =
        let ps = linked_parts (meanings codec.nodes) found in
        let c = parts_cut last ps (lists_in (value_in (extended last ps) body)) body bounds.1 spelled in
        subst (ArePartsOf (kind_at codec.nodes link) (value_in (kind_at codec.nodes link) body) body) (sym s)
        (subst (λ k. ArePartsOf k (value_in k body) body (part_pieces (part_sizes last ps) body)) (sym kind_is) (c.spelled, c.joined))

  none_of : (k : KindTree) → kind_at codec.nodes link ≡ k → ArePartsOf k (value_in k body) body [] → ArePartsOf (kind_at codec.nodes link) (value_in (kind_at codec.nodes link) body) body []
  none_of k e h = subst (λ k. ArePartsOf k (value_in k body) body []) (sym e) h

  pub no_parts : (is : Node) → one ≡ is → ((last : LastPart) (links : List ℕ) → one ≡ Of.Extended last links → ⊥) → ArePartsOf (kind_at codec.nodes link) (value_in (kind_at codec.nodes link) body) body []
  no_parts (Of.Element w) e h = none_of _ (is_element codec.nodes link one codec.table item.some item.within at w e) refl
  no_parts (Of.Group w links) e h = none_of _ (is_group codec.nodes link one codec.table item.some item.within at w links e) refl
  no_parts (Of.Part w links) e h = absurd (no_part fx codec.nodes link one codec.table item.some item.within at w links e item.bounds)
  no_parts (Of.Extended last links) e h = absurd (h last links e)
  no_parts (Of.Counted size inner) e h = none_of _ (is_counted codec.nodes link one codec.table item.some item.within at size inner e) refl
  no_parts (Of.ByFx inner) e h = none_of _ (is_by_fx codec.nodes link one codec.table item.some item.within at inner e) refl
  no_parts Of.Explicit e h = none_of _ (is_explicit codec.nodes link one codec.table item.some item.within at e) refl
  no_parts (Of.Compound mask links) e h = none_of (record_kind_at codec.nodes links) (is_compound codec.nodes link one codec.table item.some item.within at mask links links e refl) (compound_none codec.nodes links (value_in (record_kind_at codec.nodes links) body) body)

-- ---- counted

pub record IsCountedValue (size : Counter) (k : KindTree) (v : ValueTree) (b : List ℕ) : Type 0 where
  pub values : ValuesTree
  pub is : v ≡ occurrences values
  pub few : value_count values < 2 ^ counter_width size
  pub rest : List ℕ
  pub split : b ≡ word (counter_width size) (value_count values) ++ rest
  pub each : EachSpells (Spells k) values rest

pub counted_value : (size : Counter) (k : KindTree) (v : ValueTree) (b : List ℕ) → Spells (counted size k) v b → IsCountedValue size k v b
counted_value size k (occurrences vs) b (few, y, e, h) = record { values = vs; is = refl; few = few; rest = y; split = e; each = h }
counted_value size k _ b h = absurd h

-- an item's counter is there
pub counter_there : (size : Counter) (k : KindTree) (body : List ℕ) → IsOne (counted size k) body → length body < 0 + counter_octets size → ⊥
unfolding kind_read
counter_there size k body one short =
    let fault : BodyFault = record { cause = RunsOut; bit = 0 } in read_all (counted size k) body 0 fault (counted_none size k body 0 fault short refl refl) one.all

few_counted : (size : Counter) (n : ℕ) → n < 2 ^ counter_width size → n < 65536
few_counted One n lt = let less : n < 256 = lt in omega arith
few_counted Two n lt = lt

module _ (size : Counter) (k : KindTree) (body : List ℕ) (n : ℕ) (bounds : InBounds k) (one : IsOne (counted size k) body) (count : IsCount size body 0 n) where
  of_value : IsCountedValue size k (value_in (counted size k) body) (bits body)
  of_value = counted_value size k (value_in (counted size k) body) (bits body) (value_spelled (counted size k) body bounds one)

  abbrev width_of : ℕ
  width_of = counter_width size

  front : word width_of n ++ bits (drop (counter_octets size) body) ≡ word width_of (value_count of_value.values) ++ of_value.rest
  front = ap (λ m. word width_of n ++ bits (drop m body)) (let e : counter_octets size ≡ 0 + counter_octets size = omega arith in e) ∙ sym (counter_front size body 0 n count) ∙ of_value.split

  words : word width_of n ≡ word width_of (value_count of_value.values)
  words = sym (take_at (word width_of n) (bits (drop (counter_octets size) body)) width_of (length-word width_of n)) ∙ ap (take width_of) front ∙ take_at (word width_of (value_count of_value.values)) of_value.rest width_of (length-word width_of (value_count of_value.values))

  rest_is : bits (drop (counter_octets size) body) ≡ of_value.rest
  rest_is = sym (drop_at (word width_of n) (bits (drop (counter_octets size) body)) width_of (length-word width_of n)) ∙ ap (drop width_of) front ∙ drop_at (word width_of (value_count of_value.values)) of_value.rest width_of (length-word width_of (value_count of_value.values))

  counter_is : n ≡ value_count of_value.values
  counter_is = sym (number-word width_of n count.below) ∙ ap number_of words ∙ number-word width_of (value_count of_value.values) of_value.few

  made : Cut false k of_value.values (drop (counter_octets size) body)
  made = each_cut k of_value.values (drop (counter_octets size) body) bounds (omega (arith, one.few, length-drop (counter_octets size) body)) (subst (EachSpells (Spells k) of_value.values) (sym rest_is) of_value.each)

  pub counted_pieces : ArePieces false k n (drop (counter_octets size) body)
  counted_pieces = subst (λ n. ArePieces false k n (drop (counter_octets size) body)) (sym counter_is) made.are_pieces

  pub counted_values : map (value_in k) (pieces false k n (drop (counter_octets size) body)) ≡ occurrences_in (value_in (counted size k) body)
  counted_values = ap (λ n. map (value_in k) (pieces false k n (drop (counter_octets size) body))) counter_is ∙ made.values ∙ sym (ap occurrences_in of_value.is)

module _ (codec : Codec) (size : Counter) (inner : ℕ) (body : List ℕ) (n m : ℕ) (left : List ℕ) (bounds : InBounds (kind_at codec.nodes inner)) (one : IsOne (counted size (kind_at codec.nodes inner)) body) (count : IsCount size body 0 n) (s : m ≡ counter_octets size) (e : left ≡ drop m body) where
  abbrev k : KindTree
  k = kind_at codec.nodes inner

  left_is : left ≡ drop (counter_octets size) body
  left_is = e ∙ ap (λ m. drop m body) s

  pub counted_made : (0 < inner) × (inner ≤ length codec.nodes) → AreOccurrencesLeft codec inner false n left
  counted_made link = record {
    some = link.0;
    within = link.1;
    bounds = bounds;
    pieces_are = subst (ArePieces false k n) (sym left_is) (counted_pieces size k body n bounds one count);
    count_few = few_counted size n count.below;
    few = omega (arith, one.few, ap length left_is, length-drop (counter_octets size) body);
  }

  pub counted_shown : AreOccurrences codec inner false (drop (counter_octets size) body) (occurrences_in (value_in (counted size k) body)) (occurrences_shown codec inner false (pieces false k n left))
  counted_shown = record {
    slices = pieces false k n left;
    are_shown = refl;
    have = ap (λ xs. map (value_in k) (pieces false k n xs)) left_is ∙ counted_values size k body n bounds one count;
    joined = ap (λ xs. flat_map (λ x. x) (pieces false k n xs)) left_is ∙ joined false k n (drop (counter_octets size) body) (counted_pieces size k body n bounds one count);
  }

-- ---- by FX

pub record IsRunValue (f : FixedTree) (v : ValueTree) (b : List ℕ) : Type 0 where
  pub values : ValuesTree
  pub is : v ≡ occurrences values
  pub run : RunSpells f values b

pub run_value : (f : FixedTree) (v : ValueTree) (b : List ℕ) → Spells (by_fx f) v b → IsRunValue f v b
run_value f (occurrences vs) b h = record { values = vs; is = refl; run = h }
run_value f _ b h = absurd h

pub fx_some : (f : FixedTree) → InBounds (by_fx f) → 0 < (width f + 1) / 8
fx_some f bounds = let whole : (width f + 1) % 8 ≡ 0 = bounds.0 in omega arith

module _ (f : FixedTree) (body : List ℕ) (bounds : InBounds (by_fx f)) (one : IsOne (by_fx f) body) where
  run_all : Spells (by_fx f) (value_in (by_fx f) body) (bits body)
  run_all = value_spelled (by_fx f) body bounds one

  run_made : IsRunValue f (value_in (by_fx f) body) (bits body)
  run_made = run_value f (value_in (by_fx f) body) (bits body) run_all

  run_count : length body / ((width f + 1) / 8) ≡ value_count run_made.values
  run_count =
      let r = run_cut f run_made.values body bounds.0 one.few run_made.run in
      let m = (width f + 1) / 8 in
      let e : length body ≡ value_count run_made.values * m + 0 = r.long ∙ (let z : value_count run_made.values * m ≡ value_count run_made.values * m + 0 = omega arith in z) in
      ap (λ n. n / m) e ∙ div-mul-add (value_count run_made.values) m 0 (fx_some f bounds)

  pub run_pieces : ArePieces true (fixed f) (length body / ((width f + 1) / 8)) body
  run_pieces = subst (λ n. ArePieces true (fixed f) n body) (sym run_count) (run_cut f run_made.values body bounds.0 one.few run_made.run).cut.are_pieces

  pub run_values : map (value_in (fixed f)) (pieces true (fixed f) (length body / ((width f + 1) / 8)) body) ≡ occurrences_in (value_in (by_fx f) body)
  run_values = ap (λ n. map (value_in (fixed f)) (pieces true (fixed f) n body)) run_count ∙ (run_cut f run_made.values body bounds.0 one.few run_made.run).cut.values ∙ sym (ap occurrences_in run_made.is)

-- an occurrence's link leads to a fixed kind
fx_meaning : (m : Meaning) → InBounds (by_fx (fixed_of m)) → kind_of m ≡ fixed (fixed_of m)
fx_meaning (a_fixed f) h = refl
fx_meaning (a_part ms) h = absurd (let whole : 1 % 8 ≡ 0 = h.0 in omega arith)
fx_meaning (a_kind k) h = absurd (let whole : 1 % 8 ≡ 0 = h.0 in omega arith)

pub fx_kind : (ns : List Node) (inner : ℕ) → InBounds (by_fx (fixed_of (linked (meanings ns) inner))) → kind_at ns inner ≡ fixed (fixed_of (linked (meanings ns) inner))
unfolding kind_at
fx_kind ns inner h = fx_meaning (linked (meanings ns) inner) h

module _ (codec : Codec) (inner : ℕ) (body : List ℕ) (link : (0 < inner) × (inner ≤ length codec.nodes)) (bounds : InBounds (by_fx (fixed_of (linked (meanings codec.nodes) inner)))) (one : IsOne (by_fx (fixed_of (linked (meanings codec.nodes) inner))) body)
    (size count : ℕ) (s : size ≡ (width (fixed_of (linked (meanings codec.nodes) inner)) + 1) / 8) (c : count ≡ length body / size) where
  f : FixedTree
  f = fixed_of (linked (meanings codec.nodes) inner)

  count_is : count ≡ length body / ((width (fixed_of (linked (meanings codec.nodes) inner)) + 1) / 8)
  count_is = c ∙ ap (λ m. length body / m) s

  are_run : ArePieces true (kind_at codec.nodes inner) count body
  are_run = subst (λ k. ArePieces true k count body) (sym (fx_kind codec.nodes inner bounds)) (subst (λ n. ArePieces true (fixed (fixed_of (linked (meanings codec.nodes) inner))) n body) (sym count_is) (run_pieces (fixed_of (linked (meanings codec.nodes) inner)) body bounds one))

  pub by_fx_made : AreOccurrencesLeft codec inner true count body
  by_fx_made = record {
    some = link.0;
    within = link.1;
    bounds = subst (ItemInBounds true) (sym (fx_kind codec.nodes inner bounds)) bounds;
    pieces_are = are_run;
    count_few = let le = div-le_self (length body) size in omega (arith, c, le, one.few);
    few = one.few;
  }

  pub by_fx_shown : AreOccurrences codec inner true body (occurrences_in (value_in (by_fx (fixed_of (linked (meanings codec.nodes) inner))) body)) (occurrences_shown codec inner true (pieces true (kind_at codec.nodes inner) count body))
  by_fx_shown = record {
    slices = pieces true (kind_at codec.nodes inner) count body;
    are_shown = refl;
    have = (λ i. map (value_in (fx_kind codec.nodes inner bounds i)) (pieces true (fx_kind codec.nodes inner bounds i) (count_is i) body)) ∙ run_values (fixed_of (linked (meanings codec.nodes) inner)) body bounds one;
    joined = joined true (kind_at codec.nodes inner) count body are_run;
  }

-- ---- an item's occurrences

module _ (codec : Codec) (link : ℕ) (fx : Bool) (body : List ℕ) (one : Node) (item : IsItem codec link fx body) (at : one ≡ get_or codec.nodes (link - 1) one) where
  pub counted_by : (fx : Bool) (size : Counter) (k : KindTree) → ItemInBounds fx (counted size k) → InBounds (counted size k)
  counted_by false size k h = h
  counted_by true size k h = absurd h

  pub counted_one_by : (fx : Bool) (size : Counter) (k : KindTree) → IsItemOf fx (counted size k) body → IsOne (counted size k) body
  counted_one_by false size k h = h
  counted_one_by true size k h = absurd h.fits

  pub fx_by : (fx : Bool) (f : FixedTree) → ItemInBounds fx (by_fx f) → InBounds (by_fx f)
  fx_by false f h = h
  fx_by true f h = absurd h

  pub fx_one_by : (fx : Bool) (f : FixedTree) → IsItemOf fx (by_fx f) body → IsOne (by_fx f) body
  fx_one_by false f h = h
  fx_one_by true f h = absurd h.fits

  module _ (size : Counter) (inner : ℕ) (e : one ≡ Of.Counted size inner) where
    counted_is : kind_at codec.nodes link ≡ counted size (kind_at codec.nodes inner)
    counted_is = is_counted codec.nodes link one codec.table item.some item.within at size inner e

    pub inner_link : (0 < inner) × (inner ≤ length codec.nodes)
    inner_link = let l = counted_link codec.nodes link one codec.table item.some item.within at size inner e in let le = item.within in (l.0, (let lt = l.1 in omega arith))

    pub inner_bounds : InBounds (kind_at codec.nodes inner)
    inner_bounds = counted_by fx size (kind_at codec.nodes inner) (subst (ItemInBounds fx) counted_is item.bounds)

    pub inner_one : IsOne (counted size (kind_at codec.nodes inner)) body
    inner_one = counted_one_by fx size (kind_at codec.nodes inner) (subst (λ k. IsItemOf fx k body) counted_is item.one)

    pub inner_values : occurrences_in (value_in (counted size (kind_at codec.nodes inner)) body) ≡ occurrences_in (value_in (kind_at codec.nodes link) body)
    inner_values = ap (λ k. occurrences_in (value_in k body)) (sym counted_is)

  module _ (inner : ℕ) (e : one ≡ Of.ByFx inner) where
    fx_is : kind_at codec.nodes link ≡ by_fx (fixed_of (linked (meanings codec.nodes) inner))
    fx_is = is_by_fx codec.nodes link one codec.table item.some item.within at inner e

    pub fx_link : (0 < inner) × (inner ≤ length codec.nodes)
    fx_link = by_fx_link codec.nodes link one codec.table item.some item.within at inner e

    pub fx_bounds : InBounds (by_fx (fixed_of (linked (meanings codec.nodes) inner)))
    fx_bounds = fx_by fx (fixed_of (linked (meanings codec.nodes) inner)) (subst (ItemInBounds fx) fx_is item.bounds)

    pub fx_one : IsOne (by_fx (fixed_of (linked (meanings codec.nodes) inner))) body
    fx_one = fx_one_by fx (fixed_of (linked (meanings codec.nodes) inner)) (subst (λ k. IsItemOf fx k body) fx_is item.one)

    pub fx_values : occurrences_in (value_in (by_fx (fixed_of (linked (meanings codec.nodes) inner))) body) ≡ occurrences_in (value_in (kind_at codec.nodes link) body)
    fx_values = ap (λ k. occurrences_in (value_in k body)) (sym fx_is)

module _ (outer : ItemView) (one : Node) (some : 0 < outer.link) (within : outer.link ≤ length outer.codec.now.nodes) (at : one ≡ get_or outer.codec.now.nodes (outer.link - 1) one) (shown : List Occurrence) where
  node_is : (is : Node) → one ≡ is → get_or outer.codec.now.nodes (outer.link - 1) Of.Explicit ≡ is
  node_is is e = get_or_default outer.codec.now.nodes (outer.link - 1) Of.Explicit one (omega arith) ∙ sym at ∙ e

  pub occurrences_by : (is : Node) → one ≡ is → OccurrencesBy is outer shown → IsOccurrences outer shown
  occurrences_by is e h = record { occurrences_are = subst (λ n. OccurrencesBy n outer shown) (sym (node_is is e)) h }

  pub no_occurrences : (is : Node) → one ≡ is → ((size : Counter) (inner : ℕ) → one ≡ Of.Counted size inner → ⊥) → ((inner : ℕ) → one ≡ Of.ByFx inner → ⊥) → shown ≡ [] → IsOccurrences outer shown
  no_occurrences (Of.Element w) e a b h = occurrences_by (Of.Element w) e h
  no_occurrences (Of.Group w links) e a b h = occurrences_by (Of.Group w links) e h
  no_occurrences (Of.Part w links) e a b h = occurrences_by (Of.Part w links) e h
  no_occurrences (Of.Extended last links) e a b h = occurrences_by (Of.Extended last links) e h
  no_occurrences (Of.Counted size inner) e a b h = absurd (a size inner e)
  no_occurrences (Of.ByFx inner) e a b h = absurd (b inner e)
  no_occurrences Of.Explicit e a b h = occurrences_by Of.Explicit e h
  no_occurrences (Of.Compound mask links) e a b h = occurrences_by (Of.Compound mask links) e h

-- ---- the next part

no_pieces : (sizes : List ℕ) → part_pieces sizes [] ≡ []
no_pieces [] = refl
no_pieces (n ∷ sizes) = refl

pub parts_ended : (sizes left : List ℕ) → left ≡ [] → part_pieces sizes left ≡ []
parts_ended sizes left e = ap (part_pieces sizes) e ∙ no_pieces sizes

piece_first : (n : ℕ) (sizes left : List ℕ) → (left ≡ [] → ⊥) → ArePartPieces (n ∷ sizes) left → (n ≤ length left) × ArePartPieces sizes (drop n left) × (part_pieces (n ∷ sizes) left ≡ take n left ∷ part_pieces sizes (drop n left)) × (0 < n)
piece_first n sizes [] some h = absurd (some refl)
piece_first n sizes (x ∷ xs) some h = (h.1, h.2, refl, h.0)

module _ (nodes : List Node) (last : LastPart) (links later left : List ℕ) (part fx : ℕ) (h : ArePartsLeft nodes last links left) (some : left ≡ [] → ⊥) (e : links ≡ part ∷ later) (f : fx ≡ fx_width last (length (linked_parts (meanings nodes) later))) where
  open_parts : ArePartsLeft nodes last (part ∷ later) left
  open_parts = subst (λ links. ArePartsLeft nodes last links left) e h

  abbrev sizes : List ℕ
  sizes = part_sizes last (linked_parts (meanings nodes) later)

  abbrev front_size : ℕ
  front_size = part_size (fx_width last (length (linked_parts (meanings nodes) later))) (linked_part (meanings nodes) part)

  pub next_link : (0 < part) × (part ≤ length nodes)
  next_link = open_parts.links_within.0

  pub next_wide : (w : ℕ) → w ≡ members_width (linked_part (meanings nodes) part) → w + fx ≤ 524264
  next_wide w is = let le = open_parts.bounds.0.1 in omega (arith, is, f, le, fx_few last (length (linked_parts (meanings nodes) later)))

  module _ (w size : ℕ) (is : w ≡ members_width (linked_part (meanings nodes) part)) (z : size ≡ (w + fx) / 8) where
    s : size ≡ front_size
    s = z ∙ ap (λ n. n / 8) (λ i. is i + f i)

    first : (front_size ≤ length left) × ArePartPieces sizes (drop front_size left) × (part_pieces (front_size ∷ sizes) left ≡ take front_size left ∷ part_pieces sizes (drop front_size left)) × (0 < front_size)
    first = piece_first front_size sizes left some open_parts.pieces_are

    pub next_within : size ≤ length left
    next_within = subst (λ n. n ≤ length left) (sym s) first.0

    pub next_parts : (rest : List ℕ) → rest ≡ drop size left → ArePartsLeft nodes last later rest
    next_parts rest r = record {
      links_within = open_parts.links_within.1;
      bounds = open_parts.bounds.1;
      pieces_are = subst (ArePartPieces sizes) (sym (r ∙ ap (λ n. drop n left) s)) first.1;
      few = omega (arith, h.few, ap length r, length-drop size left);
    }

    pub next_slice : (slice rest : List ℕ) → slice ≡ take size left → rest ≡ drop size left → part_pieces (part_sizes last (linked_parts (meanings nodes) links)) left ≡ slice ∷ part_pieces (part_sizes last (linked_parts (meanings nodes) later)) rest
    next_slice slice rest t r =
        ap (λ links. part_pieces (part_sizes last (linked_parts (meanings nodes) links)) left) e ∙ first.2
        ∙ (λ i. (ap (λ n. take n left) (sym s) ∙ sym t) i ∷ part_pieces sizes ((ap (λ n. drop n left) (sym s) ∙ sym r) i))

-- ---- the next occurrence

-- by FX, of a fixed kind
pub fx_next : (ns : List Node) (link : ℕ) (one : Node) → IsTable ns → 0 < link → link ≤ length ns → one ≡ get_or ns (link - 1) one → ItemInBounds true (kind_at ns link) → kind_at ns link ≡ fixed (fixed_of (linked (meanings ns) link))
unfolding kind_at
fx_next ns link one table some within at bounds = by one refl
  where
    m : linked (meanings ns) link ≡ meaning (meanings ns) one
    m = link_means ns link one table some within at

    on : (is : Node) → one ≡ is → linked (meanings ns) link ≡ meaning (meanings ns) is
    on is e = m ∙ ap (meaning (meanings ns)) e

    none : (is : Node) → one ≡ is → ItemInBounds true (kind_of (meaning (meanings ns) is))
    none is e = subst (λ m. ItemInBounds true (kind_of m)) (on is e) bounds

    same : (is : Node) → one ≡ is → kind_of (meaning (meanings ns) is) ≡ fixed (fixed_of (meaning (meanings ns) is)) → kind_of (linked (meanings ns) link) ≡ fixed (fixed_of (linked (meanings ns) link))
    same is e h = subst (λ m. kind_of m ≡ fixed (fixed_of m)) (sym (on is e)) h

    by : (is : Node) → one ≡ is → kind_of (linked (meanings ns) link) ≡ fixed (fixed_of (linked (meanings ns) link))
    by (Of.Element w) e = same (Of.Element w) e refl
    by (Of.Group w links) e = same (Of.Group w links) e refl
    by (Of.Part w links) e = absurd (none (Of.Part w links) e)
    by (Of.Extended last links) e = absurd (none (Of.Extended last links) e)
    by (Of.Counted size inner) e = absurd (none (Of.Counted size inner) e)
    by (Of.ByFx inner) e = absurd (none (Of.ByFx inner) e)
    by Of.Explicit e = absurd (none Of.Explicit e)
    by (Of.Compound mask links) e = absurd (none (Of.Compound mask links) e)

module _ (codec : Codec) (link : ℕ) (fx : Bool) (count : ℕ) (left : List ℕ) (h : AreOccurrencesLeft codec link fx count left) where
  module _ (yes : fx ≡ true) (w : ℕ) (is : w ≡ width (fixed_of (linked (meanings codec.nodes) link))) where
    bounds_fx : ItemInBounds true (kind_at codec.nodes link)
    bounds_fx = subst (λ fx. ItemInBounds fx (kind_at codec.nodes link)) yes h.bounds

    kind_fx : kind_at codec.nodes link ≡ fixed (fixed_of (linked (meanings codec.nodes) link))
    kind_fx = fx_next codec.nodes link (get_or codec.nodes (link - 1) Of.Explicit) codec.table h.some h.within (let le = h.within in let lt = h.some in get_or_default codec.nodes (link - 1) Of.Explicit (get_or codec.nodes (link - 1) Of.Explicit) (omega arith)) bounds_fx

    pub fx_fits : w ≤ 524256
    fx_fits = let b : InBounds (by_fx (fixed_of (linked (meanings codec.nodes) link))) = subst (ItemInBounds true) kind_fx bounds_fx in subst (λ n. n ≤ 524256) (sym is) b.1

    pub fx_size : (w + 1) / 8 ≡ first_size fx (kind_at codec.nodes link) left
    fx_size = ap (λ n. (n + 1) / 8) is ∙ (λ i. first_size (sym yes i) (sym kind_fx i) left)

  module _ (no_fx : fx ≡ false) (some : count ≢ 0) where
    whole_bounds : InBounds (kind_at codec.nodes link)
    whole_bounds = subst (λ fx. ItemInBounds fx (kind_at codec.nodes link)) no_fx h.bounds

    whole_pieces : ArePieces false (kind_at codec.nodes link) count left
    whole_pieces = subst (λ fx. ArePieces fx (kind_at codec.nodes link) count left) no_fx h.pieces_are

    pub size_read : (r : Option ℕ) (least : Bool) (fault : BodyFault) → IfSome r (λ end. Walks (canon (kind_at codec.nodes link)) (kind_read (kind_at codec.nodes link) left 0) left 0 end least) → IfNone r (FailsAt (kind_read (kind_at codec.nodes link) left 0) 0 fault)
        → r ≡ Some (first_size fx (kind_at codec.nodes link) left)
    size_read None least fault w f = absurd (never_fails (kind_at codec.nodes link) count left fault whole_bounds some whole_pieces f)
    size_read (Some end) least fault w f =
        let e : end - 0 ≡ end = omega arith in
        ap Some (sym (size_is (kind_at codec.nodes link) left 0 end w.value w.read ∙ e) ∙ ap (λ fx. first_size fx (kind_at codec.nodes link) left) (sym no_fx))

  module _ (some : count ≡ 0 → ⊥) where
    first_open : (first_size fx (kind_at codec.nodes link) left ≤ length left) × IsItemOf fx (kind_at codec.nodes link) (take (first_size fx (kind_at codec.nodes link) left) left)
        × ArePieces fx (kind_at codec.nodes link) (count - 1) (drop (first_size fx (kind_at codec.nodes link) left) left)
    first_open = opened fx (kind_at codec.nodes link) count left some h.pieces_are

    module _ (size : ℕ) (s : size ≡ first_size fx (kind_at codec.nodes link) left) where
      pub occurrence_within : size ≤ length left
      occurrence_within = subst (λ n. n ≤ length left) (sym s) first_open.0

      pub occurrence_one : (octets : List ℕ) → octets ≡ take size left → IsItem codec link fx octets
      occurrence_one octets t = record { some = h.some; within = h.within; bounds = h.bounds; one = subst (IsItemOf fx (kind_at codec.nodes link)) (sym (t ∙ ap (λ n. take n left) s)) first_open.1 }

      pub later_occurrences : (rest : List ℕ) → rest ≡ drop size left → AreOccurrencesLeft codec link fx (count - 1) rest
      later_occurrences rest r = record {
        some = h.some;
        within = h.within;
        bounds = h.bounds;
        pieces_are = subst (ArePieces fx (kind_at codec.nodes link) (count - 1)) (sym (r ∙ ap (λ n. drop n left) s)) first_open.2;
        count_few = omega (arith, h.count_few);
        few = omega (arith, h.few, ap length r, length-drop size left);
      }

      pub later_shown : (octets rest : List ℕ) → octets ≡ take size left → rest ≡ drop size left
          → occurrences_shown codec link fx (pieces fx (kind_at codec.nodes link) count left) ≡ occurrences_shown codec link fx (octets ∷ pieces fx (kind_at codec.nodes link) (count - 1) rest)
      later_shown octets rest t r =
          ap (occurrences_shown codec link fx) (listed fx (kind_at codec.nodes link) count left some)
          ∙ (λ i. occurrences_shown codec link fx (sym (t ∙ ap (λ n. take n left) s) i ∷ pieces fx (kind_at codec.nodes link) (count - 1) (sym (r ∙ ap (λ n. drop n left) s) i)))

pub some_is : (a b : ℕ) → Some a ≡ Some b → a ≡ b
some_is a b e = cc
