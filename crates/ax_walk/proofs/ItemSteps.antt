-- What stands at steps down an item, by its node.
use Rattle.std.proofs.Common.{◌≡◌, ℕ, zero, suc, ◌+◌, ◌-◌, ◌*◌, ◌/◌, ◌%◌, ◌<◌, ◌≤◌, ◌==◌, ◌⊎◌, inl, inr, Bool, true, false, Option, Some, None, option_and_then, List, [], ◌∷◌, length, drop, get_or, refl, sym, ◌∙◌, ap, arith, subst}
use Rattle.std.proofs.lemmas.Bool.{eqb-true}
use Rattle.ax_bits.specs.Bits.{bits, number_of}
use Rattle.ax_fspec.specs.declared.mask.SlotMask.{SlotMask}
use Rattle.ax_format.specs.Reader.{Read, got, failed, after, read, entries_read, marked_read, presence_read, Split, short, cut, split, fixed_value, each_read, count_read, run_read, octets_read, contents_read, explicit_read}
use Rattle.ax_format.specs.InBounds.{InBounds}
use Rattle.ax_format.specs.Presence.{octets_needed}
use Rattle.ax_format.specs.Tree.{FixedTree, KindTree, fixed, extended, counted, by_fx, explicit, ValueTree, occurrences, content_octets, marked, EntriesTree, no_entries, slots_of, slot_count, defined_slots}
use Rattle.ax_format.specs.Widths.{width, counter_width}
use Rattle.ax_format.specs.declared.kind.LastPart.{LastPart}
use Rattle.ax_format.specs.declared.fault.BodyCause.TheVariants.{RunsOut}
use Rattle.ax_format.specs.declared.fault.BodyFault.{BodyFault}
use Rattle.ax_codec.proofs.Tables.{link_means}
use Rattle.ax_codec.specs.Meaning.{meaning, meanings, linked, fixed_of, linked_parts, linked_slots}
use Rattle.ax_codec.specs.Table.{IsTable, kind_at, record_kind_at}
use Rattle.ax_codec.specs.declared.codec.Codec.{Codec}
use Rattle.ax_codec.specs.declared.node.Node.{Node}
use Rattle.ax_codec.specs.declared.node.Node.TheVariants as Of
use Rattle.ax_fspec.proofs.AtOctets.{fixed_gets, fixed_fails}
use Rattle.ax_fspec.specs.Reading.{kind_read}
use Rattle.ax_walk.proofs.Found.{read_all}
use Rattle.ax_walk.proofs.NodeKinds.{is_element, is_group, is_part, is_extended, is_counted, is_by_fx, is_explicit, is_compound}
use Rattle.ax_format.specs.At.{slot_value, value_at, number_of_value}
use Rattle.ax_walk.specs.Spots.{IsSpot, IsNoNumber}
use Rattle.ax_walk.specs.Values.{IsAll, IsOne, IsItem, IsItemOf, ItemInBounds, value_read, value_in, entries_in}
use Rattle.ax_walk.specs.declared.spot.Spot.{Spot}

pub le_or_less : (m n : ℕ) → (m ≤ n) ⊎ (n < m)
le_or_less zero n = inl (omega arith)
le_or_less (suc m) zero = inr (omega arith)
le_or_less (suc m) (suc n) = step (le_or_less m n)
  where
    step : (m ≤ n) ⊎ (n < m) → (suc m ≤ suc n) ⊎ (suc n < suc m)
    step (inl le) = inl (omega arith)
    step (inr lt) = inr (omega arith)

-- ---- a fixed kind

module _ (f : FixedTree) (body : List ℕ) (bounds : InBounds (fixed f)) (one : IsOne (fixed f) body) where
  all_at : IsAll (kind_read (fixed f) body 0)
  unfolding kind_read
  all_at = one.all

  pub fixed_room : 0 + width f ≤ 8 * length body
  fixed_room = by (le_or_less (width f) (8 * length body))
    where
      by : (width f ≤ 8 * length body) ⊎ (8 * length body < width f) → 0 + width f ≤ 8 * length body
      by (inl le) = omega arith
      by (inr lt) =
          let fault : BodyFault = record { cause = RunsOut; bit = 0 } in
          absurd (read_all (fixed f) body 0 fault (fixed_fails f body 0 fault (omega arith) refl refl) all_at)

  pub fixed_whole : value_in (fixed f) body ≡ fixed_value f (drop 0 (bits body))
  unfolding kind_read value_in
  fixed_whole =
      let whole : width f % 8 ≡ 0 = bounds.0 in
      let room = fixed_room in
      let long : 8 * (width f / 8 - 0) ≡ width f = omega arith in
      let within : width f / 8 ≤ length body = omega arith in
      ap value_read (fixed_gets f body 0 (width f / 8) (fixed_value f (drop (8 * 0) (bits body))) (omega arith) within long refl).got

-- ---- a compound

after_marked : (n : ℕ) (r : Read EntriesTree) → value_read (after n (λ es. marked es) r) ≡ marked (entries_in (value_read (after n (λ es. marked es) r)))
after_marked n (got es m y) = refl
after_marked n (failed p c) = refl

read_marked : (m : Read (List ℕ)) (go : List ℕ → List ℕ → Read EntriesTree) → value_read (marked_read m go) ≡ marked (entries_in (value_read (marked_read m go)))
read_marked (got ms n y) go = after_marked n (go ms y)
read_marked (failed p c) go = refl

pub is_marked : (ns : List Node) (links body : List ℕ) → value_in (record_kind_at ns links) body ≡ marked (entries_in (value_in (record_kind_at ns links) body))
unfolding record_kind_at value_in
is_marked ns links body =
    let ss = slots_of (linked_slots (meanings ns) links) in read_marked (presence_read (octets_needed (slot_count ss)) (defined_slots ss) (bits body)) (entries_read 1 ss)

-- ---- values without a place inside

-- occurrences, octets, and what is taken for the value where none is read
abbrev IsClosed : ValueTree → Type 0
IsClosed (occurrences vs) = Unit {0}
IsClosed (content_octets xs) = Unit {0}
IsClosed (marked no_entries) = Unit {0}
IsClosed _ = ⊥

closed_inside : (v : ValueTree) → IsClosed v → (i : ℕ) (later : List ℕ) → value_at (i ∷ later) v ≡ None
closed_inside (occurrences vs) h i [] = refl
closed_inside (occurrences vs) h i (j ∷ later) = refl
closed_inside (content_octets xs) h i [] = refl
closed_inside (content_octets xs) h i (j ∷ later) = refl
closed_inside (marked no_entries) h i later = refl
closed_inside _ h i later = absurd h

closed_number : (v : ValueTree) → IsClosed v → number_of_value v ≡ None
closed_number (occurrences vs) h = refl
closed_number (content_octets xs) h = refl
closed_number (marked no_entries) h = refl
closed_number _ h = absurd h

closed_run : (n : ℕ) (r : Read _) → IsClosed (value_read (after n (λ vs. occurrences vs) r))
closed_run n (got vs m y) = tt
closed_run n (failed p c) = tt

closed_count : (w : ℕ) (rule : List ℕ → Read ValueTree) (s : Split) → IsClosed (value_read (count_read w rule s))
closed_count w rule short = tt
closed_count w rule (cut x y) = closed_run w (each_read rule (number_of x) y)

closed_octets : (m : ℕ) (s : Split) → IsClosed (value_read (octets_read m s))
closed_octets m short = tt
closed_octets m (cut x y) = tt

closed_contents : (n : ℕ) (y : List ℕ) → IsClosed (value_read (contents_read n y))
closed_contents zero y = tt
closed_contents (suc m) y = closed_octets m (split (8 * m) y)

closed_explicit : (s : Split) → IsClosed (value_read (explicit_read s))
closed_explicit short = tt
closed_explicit (cut x y) = closed_contents (number_of x) y

-- ---- by the node

-- an item that is no occurrence by FX, by the nodes of its codec
pub record ItemIn (ns : List Node) (link : ℕ) (body : List ℕ) : Type 0 where
  pub table : IsTable ns
  pub some : 0 < link
  pub within : link ≤ length ns
  pub bounds : InBounds (kind_at ns link)
  pub one : IsOne (kind_at ns link) body

pub item_in : (codec : Codec) (ns : List Node) (link : ℕ) (fx : Bool) (body : List ℕ) → ns ≡ codec.nodes → fx ≡ false → IsItem codec link fx body → ItemIn ns link body
item_in codec ns link fx body same whole h =
    let k = kind_at codec.nodes link in
    subst (λ ns. ItemIn ns link body) (sym same) (record {
      table = codec.table;
      some = h.some;
      within = h.within;
      bounds = subst (λ fx. ItemInBounds fx k) whole h.bounds;
      one = subst (λ fx. IsItemOf fx k body) whole h.one;
    })

pub spot_at : (ns : List Node) (r : Spot) (steps : List ℕ) (v w : ValueTree) → v ≡ w → IsSpot ns r (value_at steps v) → IsSpot ns r (value_at steps w)
spot_at ns r steps v w e h = subst (λ v. IsSpot ns r (value_at steps v)) e h

-- the same, by the codec
pub back : (codec : Codec) (ns : List Node) (link : ℕ) (body steps : List ℕ) (r : Spot) → ns ≡ codec.nodes → IsSpot ns r (value_at steps (value_in (kind_at ns link) body)) → IsSpot codec.nodes r (value_at steps (value_in (kind_at codec.nodes link) body))
back codec ns link body steps r same h = subst (λ ns. IsSpot ns r (value_at steps (value_in (kind_at ns link) body))) same h

module _ (ns : List Node) (link : ℕ) (body : List ℕ) (one : Node) (h : ItemIn ns link body) (at : one ≡ get_or ns (link - 1) one) where
  means : (node : Node) → one ≡ node → fixed_of (linked (meanings ns) link) ≡ fixed_of (meaning (meanings ns) node)
  means node e = ap fixed_of (link_means ns link one h.table h.some h.within at ∙ ap (meaning (meanings ns)) e)

  pub element_kind : (w : ℕ) → one ≡ Of.Element w → kind_at ns link ≡ fixed (fixed_of (linked (meanings ns) link))
  element_kind w e = is_element ns link one h.table h.some h.within at w e ∙ ap (λ f. fixed f) (sym (means (Of.Element w) e))

  pub group_kind : (w : ℕ) (links : List ℕ) → one ≡ Of.Group w links → kind_at ns link ≡ fixed (fixed_of (linked (meanings ns) link))
  group_kind w links e = is_group ns link one h.table h.some h.within at w links e ∙ ap (λ f. fixed f) (sym (means (Of.Group w links) e))

  module _ (e : kind_at ns link ≡ fixed (fixed_of (linked (meanings ns) link))) where
    pub in_bounds : InBounds (fixed (fixed_of (linked (meanings ns) link)))
    in_bounds = subst InBounds e h.bounds

    pub in_room : width (fixed_of (linked (meanings ns) link)) ≤ 8 * length body
    in_room = let r = fixed_room (fixed_of (linked (meanings ns) link)) body in_bounds (subst (λ k. IsOne k body) e h.one) in omega arith

    pub in_fixed : fixed_value (fixed_of (linked (meanings ns) link)) (bits body) ≡ value_in (kind_at ns link) body
    in_fixed = sym (ap (λ k. value_in k body) e ∙ fixed_whole (fixed_of (linked (meanings ns) link)) body in_bounds (subst (λ k. IsOne k body) e h.one))

  module _ (last : LastPart) (links found : List ℕ) (e : one ≡ Of.Extended last links) (f : found ≡ links) where
    pub extended_kind : kind_at ns link ≡ extended last (linked_parts (meanings ns) found)
    extended_kind = is_extended ns link one h.table h.some h.within at last links found e f

    pub extended_bounds : InBounds (extended last (linked_parts (meanings ns) found))
    extended_bounds = subst InBounds extended_kind h.bounds

    pub extended_one : IsOne (extended last (linked_parts (meanings ns) found)) body
    extended_one = subst (λ k. IsOne k body) extended_kind h.one

    pub in_extended : value_in (extended last (linked_parts (meanings ns) found)) body ≡ value_in (kind_at ns link) body
    in_extended = ap (λ k. value_in k body) (sym extended_kind)

  module _ (mask : SlotMask) (links : List ℕ) (e : one ≡ Of.Compound mask links) where
    marked_kind : value_in (kind_at ns link) body ≡ marked (entries_in (value_in (kind_at ns link) body))
    marked_kind = subst (λ k. value_in k body ≡ marked (entries_in (value_in k body))) (sym (is_compound ns link one h.table h.some h.within at mask links links e refl)) (is_marked ns links body)

    pub no_slot_step : (steps : List ℕ) → steps ≡ [] → IsNoNumber (value_at steps (value_in (kind_at ns link) body))
    no_slot_step steps s = record { value = marked (entries_in (value_in (kind_at ns link) body)); is = ap (λ s. value_at s (value_in (kind_at ns link) body)) s ∙ ap Some marked_kind; none = refl }

    pub in_slot : (steps later : List ℕ) (slot : ℕ) (inner : Option ValueTree) → steps ≡ slot ∷ later → inner ≡ slot_value slot (entries_in (value_in (kind_at ns link) body)) → value_at steps (value_in (kind_at ns link) body) ≡ option_and_then (value_at later) inner
    in_slot steps later slot inner s i = ap (λ s. value_at s (value_in (kind_at ns link) body)) s ∙ ap (value_at (slot ∷ later)) marked_kind ∙ sym (ap (option_and_then (value_at later)) i)

  of_kind : (k : KindTree) → kind_at ns link ≡ k → IsClosed (value_in k body) → IsClosed (value_in (kind_at ns link) body)
  of_kind k e c = subst (λ k. IsClosed (value_in k body)) (sym e) c

  closed : (is : Node) → one ≡ is → ((w : ℕ) → one ≡ Of.Element w → ⊥) → ((w : ℕ) (links : List ℕ) → one ≡ Of.Group w links → ⊥) → ((last : LastPart) (links : List ℕ) → one ≡ Of.Extended last links → ⊥)
      → ((mask : SlotMask) (links : List ℕ) → one ≡ Of.Compound mask links → ⊥) → IsClosed (value_in (kind_at ns link) body)
  unfolding value_in
  closed (Of.Element w) e a b c d = absurd (a w e)
  closed (Of.Group w links) e a b c d = absurd (b w links e)
  closed (Of.Part w links) e a b c d = absurd (is_part ns link one h.table h.some h.within at w links e h.bounds)
  closed (Of.Extended last links) e a b c d = absurd (c last links e)
  closed (Of.Counted size inner) e a b c d = of_kind (counted size (kind_at ns inner)) (is_counted ns link one h.table h.some h.within at size inner e) (closed_count (counter_width size) (read (kind_at ns inner)) (split (counter_width size) (bits body)))
  closed (Of.ByFx inner) e a b c d = let f = fixed_of (linked (meanings ns) inner) in of_kind (by_fx f) (is_by_fx ns link one h.table h.some h.within at inner e) (closed_run 0 (run_read (suc (length (bits body))) f (bits body)))
  closed Of.Explicit e a b c d = of_kind explicit (is_explicit ns link one h.table h.some h.within at e) (closed_explicit (split 8 (bits body)))
  closed (Of.Compound mask links) e a b c d = absurd (d mask links e)

  module _ (a : (w : ℕ) → one ≡ Of.Element w → ⊥) (b : (w : ℕ) (links : List ℕ) → one ≡ Of.Group w links → ⊥) (c : (last : LastPart) (links : List ℕ) → one ≡ Of.Extended last links → ⊥) (d : (mask : SlotMask) (links : List ℕ) → one ≡ Of.Compound mask links → ⊥) where
    pub closed_whole : (steps : List ℕ) → steps ≡ [] → IsNoNumber (value_at steps (value_in (kind_at ns link) body))
    closed_whole steps s = record { value = value_in (kind_at ns link) body; is = ap (λ s. value_at s (value_in (kind_at ns link) body)) s; none = closed_number (value_in (kind_at ns link) body) (closed one refl a b c d) }

    pub closed_steps : (steps : List ℕ) → (steps ≡ [] → ⊥) → value_at steps (value_in (kind_at ns link) body) ≡ None
    closed_steps [] some = absurd (some refl)
    closed_steps (i ∷ later) some = closed_inside (value_in (kind_at ns link) body) (closed one refl a b c d) i later

-- ---- a subitem

pub slot_in : (codec : Codec) (ns : List Node) (link slot : ℕ) (body : List ℕ) (inner : Option ValueTree) → ns ≡ codec.nodes → inner ≡ slot_value slot (entries_in (value_in (kind_at codec.nodes link) body)) → inner ≡ slot_value slot (entries_in (value_in (kind_at ns link) body))
slot_in codec ns link slot body inner same h = subst (λ ns. inner ≡ slot_value slot (entries_in (value_in (kind_at ns link) body))) (sym same) h

-- ---- no step

pub empty_is : (xs : List ℕ) (r : Bool) → r ≡ (length xs == 0) → r ≡ true → xs ≡ []
empty_is [] r e h = refl
empty_is (x ∷ xs) r e h = absurd (let n : length (x ∷ xs) ≡ 0 = eqb-true (length (x ∷ xs)) 0 (sym e ∙ h) in omega arith)

pub not_empty : (xs : List ℕ) (r : Bool) → r ≡ (length xs == 0) → r ≡ false → xs ≡ [] → ⊥
not_empty [] r e h s = let no : true ≡ false = sym e ∙ h in cc
not_empty (x ∷ xs) r e h s = let n : length (x ∷ xs) ≡ 0 = ap length s in absurd (omega arith)
