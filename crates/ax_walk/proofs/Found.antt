-- Entries that are looked for along the marks.
use Rattle.std.proofs.Common.{◌≡◌, ℕ, zero, suc, ◌-◌, ◌*◌, ◌<◌, ◌≤◌, ◌==◌, if◌then◌else◌, Bool, true, false, Option, Some, None, IfSome, List, [], length, take, drop, get_or, refl, sym, ◌∙◌, ap, arith, subst, append-nil, length-drop}
use Rattle.std.proofs.lemmas.List.{length-take-le, get_or_default}
use Rattle.std.proofs.lemmas.Bool.{eqb-true}
use Rattle.ax_bits.specs.Bits.{bits, number_of, AreBits}
use Rattle.ax_format.specs.Widths.{width, counter_width}
use Rattle.ax_format.specs.declared.content.Content.TheVariants.{Raw}
use Rattle.ax_fspec.proofs.Walks.{no_next_slot}
use Rattle.ax_fspec.specs.Fields.{MarksSlots, FailsToMark}
use Rattle.ax_fspec.specs.Marks as Marks
use Rattle.ax_fspec.specs.declared.mask.SlotMask.{SlotMask}
use Rattle.ax_format.proofs.Least as Least
use Rattle.ax_format.specs.Reader.{Read, got, failed, after, both, read, entries_read, Split, short, cut, split, fixed_value, fixed_read, parts_read, each_read, count_read, run_read, octets_read, contents_read, explicit_read}
use Rattle.ax_format.proofs.Spelled.{read_spelled}
use Rattle.ax_format.specs.Canonical.{canon}
use Rattle.ax_format.specs.InBounds.{InBounds}
use Rattle.ax_format.specs.Presence.{NoneUndefined}
use Rattle.ax_format.specs.Tree.{FixedTree, element, group, KindTree, fixed, extended, counted, by_fx, explicit, ValueTree, part_values, occurrences, marked, EntriesTree, no_entries, entry_and, SlotTree, slots_of, defined_slots, compound}
use Rattle.ax_format.specs.declared.fault.BodyCause.{BodyCause}
use Rattle.ax_format.specs.declared.fault.BodyFault.{BodyFault}
use Rattle.ax_codec.specs.Meaning.{meanings, linked, fixed_of, linked_members, linked_parts, linked_slots}
use Rattle.ax_codec.specs.Table.{kind_at, record_kind_at}
use Rattle.ax_codec.specs.declared.node.Node.{Node}
use Rattle.ax_codec.specs.declared.node.Node.TheVariants as Of
use Rattle.ax_fspec.proofs.Exact.{spelled_at}
use Rattle.ax_fspec.proofs.Marking.{field_read, field_failed}
use Rattle.ax_fspec.specs.Reading.{Gets, FailsAt, IsMaskOf, kind_read, entries_at}
use Rattle.ax_walk.proofs.MarkedSteps.{NextMarked, no_entries_left}
use Rattle.ax_walk.proofs.NodeKinds.{is_element, is_group, no_part, is_extended, is_counted, is_by_fx, is_explicit, is_compound}
use Rattle.ax_format.specs.At.{slot_value}
use Rattle.ax_codec.specs.declared.codec.Codec.{Codec}
use Rattle.ax_walk.specs.Values.{IsItem, IsItemOf, ItemInBounds, IsAll, IsGot, IsOne, value_read, entries_found, value_in, entries_in}
use Rattle.ax_walk.specs.InPlace.{StandsInPlace}
use Rattle.ax_walk.specs.Shown.{IsOfSlot, IsSubitem}
use Rattle.ax_walk.specs.Walking.{Walks}
use Rattle.ax_walk.specs.declared.item.ItemView.{ItemView}

-- ---- all of the bits

pub all_after : {A B : Type 0} (n : ℕ) (f : A → B) (r : Read A) → IsAll (after n f r) → IsAll r
all_after n f (got a m y) h = h
all_after n f (failed p c) h = h

pub all_got : {A : Type 0} (r : Read A) → IsAll r → IsGot r
all_got (got a n y) h = tt
all_got (failed p c) h = absurd h

got_after : {A B : Type 0} (n : ℕ) (f : A → B) (r : Read A) → IsGot (after n f r) → IsGot r
got_after n f (got a m y) h = tt
got_after n f (failed p c) h = absurd h

got_never : {A : Type 0} (p : ℕ) (c : BodyCause) (r : Read A) → r ≡ failed p c → IsGot r → ⊥
got_never p c r e h = subst IsGot e h

found_after : (t n : ℕ) (v : ValueTree) (r : Read EntriesTree) → IsGot r → entries_found (after n (λ es. entry_and t v es) r) ≡ entry_and t v (entries_found r)
found_after t n v (got es m y) h = refl
found_after t n v (failed p c) h = absurd h

marked_after : (n : ℕ) (r : Read EntriesTree) → IsAll r → entries_in (value_read (after n (λ es. marked es) r)) ≡ entries_found r
marked_after n (got es m y) h = refl
marked_after n (failed p c) h = absurd h

pub not_failed : {A : Type 0} (p : ℕ) (c : BodyCause) (r : Read A) → r ≡ failed p c → IsAll r → ⊥
not_failed p c r e h = subst IsAll e h

pub read_all : (k : KindTree) (body : List ℕ) (at : ℕ) (fault : BodyFault) → FailsAt (kind_read k body at) at fault → IsAll (kind_read k body at) → ⊥
read_all k body at fault l h = not_failed l.place fault.cause (kind_read k body at) l.failed h

-- ---- what is read at a place is read of its octets alone

pub record IsAlone (k : KindTree) (octets : List ℕ) (v : ValueTree) : Type 0 where
  pub all : IsAll (read k (bits octets))
  pub value : value_in k octets ≡ v

pub alone : (k : KindTree) (body : List ℕ) (at end : ℕ) (v : ValueTree) → InBounds k → Gets (kind_read k body at) body at end v → IsAlone k (take (end - at) (drop at body)) v
unfolding value_in
alone k body at end v bounds h =
    let x = bits (take (end - at) (drop at body)) in
    let s = spelled_at k body at end v bounds h in
    let e : read k x ≡ got v (length x) [] = ap (read k) (sym (append-nil x)) ∙ read_spelled k v x [] s.spelling.spells in record {
      all = subst IsAll (sym e) refl;
      value = ap value_read e;
    }

pub walked_one : (k : KindTree) (body : List ℕ) (here end : ℕ) (v : ValueTree) → InBounds k → Gets (kind_read k body here) body here end v → length body ≤ 65532 → IsOne k (take (end - here) (drop here body))
walked_one k body here end v bounds h few = record {
  all = (alone k body here end v bounds h).all;
  few = omega (arith, h.forwards, h.within, few, length-drop here body, length-take-le (end - here) (drop here body) (omega (arith, length-drop here body, h.within)));
}

-- ---- entries

-- what is looked for stands in the entries from octet `here` on exactly as in all of them
pub record Left (slots : List SlotTree) (marks left body : List ℕ) (at here slot : ℕ) : Type 0 where
  pub within : here ≤ length body
  pub clear : NoneUndefined (defined_slots (slots_of slots)) left
  pub are_bits : AreBits left
  pub some : IsGot (entries_at (slots_of slots) left body here)
  pub same : slot_value slot (entries_found (entries_at (slots_of slots) left body here)) ≡ slot_value slot (entries_found (entries_at (slots_of slots) marks body at))

pub left_first : (slots : List SlotTree) (marks body : List ℕ) (at slot : ℕ) → NoneUndefined (defined_slots (slots_of slots)) marks → AreBits marks → at ≤ length body → IsGot (entries_at (slots_of slots) marks body at) → Left slots marks marks body at at slot
left_first slots marks body at slot clear bit le some = record { within = le; clear = clear; are_bits = bit; some = some; same = refl }

is_false : (b : Bool) → (b ≡ true → ⊥) → b ≡ false
is_false true h = absurd (h refl)
is_false false h = refl

pub not_same : (a b : ℕ) → (a ≡ b → ⊥) → (a == b) ≡ false
not_same a b apart = is_false (a == b) (λ y. apart (eqb-true a b y))

pub here_is : (slot t : ℕ) (v : ValueTree) (es : EntriesTree) → (t == slot) ≡ true → slot_value slot (entry_and t v es) ≡ Some v
here_is slot t v es e = ap (λ b. if b then Some v else slot_value slot es) e

module _ (nodes : List Node) (links marks left now body : List ℕ) (t at here slot : ℕ) (h : Left (linked_slots (meanings nodes) links) marks left body at here slot) (n : NextMarked nodes links left now t) where
  pub next_failed : (fault : BodyFault) → FailsAt (kind_read (kind_at nodes (get_or links (t - 1) 0)) body here) here fault → ⊥
  unfolding kind_read entries_at
  next_failed fault l =
      let ss = slots_of (linked_slots (meanings nodes) links) in
      got_never l.place fault.cause (entries_at ss left body here) (n.reads (bits (drop here body)) ∙ ap (λ r. both (λ v es. entry_and t v es) r (entries_read 1 ss now)) l.failed) h.some

  module _ (end : ℕ) (least : Bool) (w : Walks (canon (kind_at nodes (get_or links (t - 1) 0))) (kind_read (kind_at nodes (get_or links (t - 1) 0)) body here) body here end least) where
    goes_on : entries_at (slots_of (linked_slots (meanings nodes) links)) left body here ≡ after (8 * (end - here)) (λ es. entry_and t w.value es) (entries_at (slots_of (linked_slots (meanings nodes) links)) now body end)
    unfolding kind_read entries_at
    goes_on = n.reads (bits (drop here body)) ∙ ap (λ r. both (λ v es. entry_and t v es) r (entries_read 1 (slots_of (linked_slots (meanings nodes) links)) now)) w.read.got

    rest_some : IsGot (entries_at (slots_of (linked_slots (meanings nodes) links)) now body end)
    rest_some = got_after (8 * (end - here)) (λ es. entry_and t w.value es) (entries_at (slots_of (linked_slots (meanings nodes) links)) now body end) (subst IsGot goes_on h.some)

    pub found : entries_found (entries_at (slots_of (linked_slots (meanings nodes) links)) left body here) ≡ entry_and t w.value (entries_found (entries_at (slots_of (linked_slots (meanings nodes) links)) now body end))
    found = ap entries_found goes_on ∙ found_after t (8 * (end - here)) w.value (entries_at (slots_of (linked_slots (meanings nodes) links)) now body end) rest_some

    pub left_next : (t ≡ slot → ⊥) → Left (linked_slots (meanings nodes) links) marks now body at end slot
    left_next other = record {
      within = w.read.within;
      clear = n.clear;
      are_bits = n.are_bits;
      some = rest_some;
      same = sym (ap (slot_value slot) found ∙ not_here (not_same t slot other)) ∙ h.same;
    }
      where
        not_here : (t == slot) ≡ false → slot_value slot (entry_and t w.value (entries_found (entries_at (slots_of (linked_slots (meanings nodes) links)) now body end))) ≡ slot_value slot (entries_found (entries_at (slots_of (linked_slots (meanings nodes) links)) now body end))
        not_here other = ap (λ b. if b then Some w.value else slot_value slot (entries_found (entries_at (slots_of (linked_slots (meanings nodes) links)) now body end))) other

    pub next_alone : IsAlone (kind_at nodes (get_or links (t - 1) 0)) (take (end - here) (drop here body)) w.value
    next_alone = alone (kind_at nodes (get_or links (t - 1) 0)) body here end w.value n.bounds w.read

    pub next_found : t ≡ slot → Some (value_in (kind_at nodes (get_or links (t - 1) 0)) (take (end - here) (drop here body))) ≡ slot_value slot (entries_found (entries_at (slots_of (linked_slots (meanings nodes) links)) marks body at))
    next_found this = ap (λ v. Some v) next_alone.value ∙ sym (ap (slot_value slot) found ∙ here_is slot t w.value (entries_found (entries_at (slots_of (linked_slots (meanings nodes) links)) now body end)) (Least.here t slot this)) ∙ h.same

pub left_none : (slots : List SlotTree) (marks left body : List ℕ) (at here slot : ℕ) → Left slots marks left body at here slot → Marks.slots_of left ≡ [] → None ≡ slot_value slot (entries_found (entries_at (slots_of slots) marks body at))
unfolding entries_at
left_none slots marks left body at here slot h e = sym (ap (λ r. slot_value slot (entries_found r)) (no_entries_left 1 (slots_of slots) left (bits (drop here body)) (no_next_slot 1 left e))) ∙ h.same

-- ---- after the presence field

module _ (ns : List Node) (links : List ℕ) (mask : SlotMask) (body : List ℕ) (m : IsMaskOf (linked_slots (meanings ns) links) mask) (one : IsOne (record_kind_at ns links) body) where
  whole_all : IsAll (kind_read (compound (slots_of (linked_slots (meanings ns) links))) body 0)
  unfolding record_kind_at kind_read
  whole_all = one.all

  pub field_never : (fault : BodyFault) → FailsToMark mask body 0 fault → ⊥
  field_never fault h = read_all (compound (slots_of (linked_slots (meanings ns) links))) body 0 fault (field_failed (linked_slots (meanings ns) links) mask body 0 fault m h) whole_all

  module _ (marks : List ℕ) (here : ℕ) (h : MarksSlots mask body 0 here marks) where
    pub marks_all : IsAll (entries_at (slots_of (linked_slots (meanings ns) links)) marks body here)
    marks_all = let f = field_read (linked_slots (meanings ns) links) mask body marks 0 here m h in
        all_after (8 * (here - 0)) (λ es. marked es) (entries_at (slots_of (linked_slots (meanings ns) links)) marks body here) (subst IsAll f.same whole_all)

    pub entries_are : entries_found (entries_at (slots_of (linked_slots (meanings ns) links)) marks body here) ≡ entries_in (value_in (record_kind_at ns links) body)
    unfolding record_kind_at kind_read value_in
    entries_are = let f = field_read (linked_slots (meanings ns) links) mask body marks 0 here m h in
        sym (ap (λ r. entries_in (value_read r)) f.same ∙ marked_after (8 * (here - 0)) (entries_at (slots_of (linked_slots (meanings ns) links)) marks body here) marks_all)

-- ---- a subitem

bounds_by : (fx : Bool) (ns : List Node) (links : List ℕ) → ItemInBounds fx (record_kind_at ns links) → InBounds (record_kind_at ns links)
unfolding record_kind_at
bounds_by false ns links h = h
bounds_by true ns links h = absurd h

one_by : (fx : Bool) (ns : List Node) (links body : List ℕ) → IsItemOf fx (record_kind_at ns links) body → IsOne (record_kind_at ns links) body
unfolding record_kind_at
one_by false ns links body h = h
one_by true ns links body h = absurd h.fits

entries_after_none : {A : Type 0} (n : ℕ) (f : A → ValueTree) (r : Read A) → ((a : A) → entries_in (f a) ≡ no_entries) → entries_in (value_read (after n f r)) ≡ no_entries
entries_after_none n f (got a m y) h = h a
entries_after_none n f (failed p c) h = refl

fixed_none : (f : FixedTree) (x : List ℕ) → entries_in (fixed_value f x) ≡ no_entries
fixed_none (element w c) x = refl
fixed_none (group ms) x = refl

fixed_read_none : (f : FixedTree) (s : Split) → entries_in (value_read (fixed_read f s)) ≡ no_entries
fixed_read_none f short = refl
fixed_read_none f (cut x y) = fixed_none f x

count_none : (w : ℕ) (rule : List ℕ → Read ValueTree) (s : Split) → entries_in (value_read (count_read w rule s)) ≡ no_entries
count_none w rule short = refl
count_none w rule (cut x y) = entries_after_none w (λ vs. occurrences vs) (each_read rule (number_of x) y) (λ vs. refl)

octets_none : (m : ℕ) (s : Split) → entries_in (value_read (octets_read m s)) ≡ no_entries
octets_none m short = refl
octets_none m (cut x y) = refl

contents_none : (n : ℕ) (y : List ℕ) → entries_in (value_read (contents_read n y)) ≡ no_entries
contents_none zero y = refl
contents_none (suc m) y = octets_none m (split (8 * m) y)

explicit_none : (s : Split) → entries_in (value_read (explicit_read s)) ≡ no_entries
explicit_none short = refl
explicit_none (cut x y) = contents_none (number_of x) y

module _ (codec : Codec) (link : ℕ) (fx : Bool) (body : List ℕ) (one : Node) (item : IsItem codec link fx body) (at : one ≡ get_or codec.nodes (link - 1) one) where
  module _ (mask : SlotMask) (links found : List ℕ) (e : one ≡ Of.Compound mask links) (f : found ≡ links) where
    kind_is : kind_at codec.nodes link ≡ record_kind_at codec.nodes found
    kind_is = is_compound codec.nodes link one codec.table item.some item.within at mask links found e f

    pub compound_bounds : InBounds (record_kind_at codec.nodes found)
    compound_bounds = bounds_by fx codec.nodes found (subst (ItemInBounds fx) kind_is item.bounds)

    pub compound_one : IsOne (record_kind_at codec.nodes found) body
    compound_one = one_by fx codec.nodes found body (subst (λ k. IsItemOf fx k body) kind_is item.one)

    pub compound_entries : entries_in (value_in (record_kind_at codec.nodes found) body) ≡ entries_in (value_in (kind_at codec.nodes link) body)
    compound_entries = ap (λ k. entries_in (value_in k body)) (sym kind_is)

  of_kind : (k : KindTree) → kind_at codec.nodes link ≡ k → entries_in (value_in k body) ≡ no_entries → entries_in (value_in (kind_at codec.nodes link) body) ≡ no_entries
  of_kind k e h = ap (λ k. entries_in (value_in k body)) e ∙ h

  pub no_compound : (is : Node) → one ≡ is → ((mask : SlotMask) (links : List ℕ) → one ≡ Of.Compound mask links → ⊥) → entries_in (value_in (kind_at codec.nodes link) body) ≡ no_entries
  unfolding value_in
  no_compound (Of.Element w) e h = of_kind (fixed (element w Raw)) (is_element codec.nodes link one codec.table item.some item.within at w e) (fixed_read_none (element w Raw) (split w (bits body)))
  no_compound (Of.Group w links) e h = let f = group (linked_members (meanings codec.nodes) links) in of_kind (fixed f) (is_group codec.nodes link one codec.table item.some item.within at w links e) (fixed_read_none f (split (width f) (bits body)))
  no_compound (Of.Part w links) e h = absurd (no_part fx codec.nodes link one codec.table item.some item.within at w links e item.bounds)
  no_compound (Of.Extended last links) e h = let ps = linked_parts (meanings codec.nodes) links in of_kind (extended last ps) (is_extended codec.nodes link one codec.table item.some item.within at last links links e refl) (entries_after_none 0 (λ ls. part_values ls) (parts_read last ps (bits body)) (λ ls. refl))
  no_compound (Of.Counted size inner) e h = of_kind (counted size (kind_at codec.nodes inner)) (is_counted codec.nodes link one codec.table item.some item.within at size inner e) (count_none (counter_width size) (read (kind_at codec.nodes inner)) (split (counter_width size) (bits body)))
  no_compound (Of.ByFx inner) e h = let f = fixed_of (linked (meanings codec.nodes) inner) in of_kind (by_fx f) (is_by_fx codec.nodes link one codec.table item.some item.within at inner e) (entries_after_none 0 (λ vs. occurrences vs) (run_read (suc (length (bits body))) f (bits body)) (λ vs. refl))
  no_compound Of.Explicit e h = of_kind explicit (is_explicit codec.nodes link one codec.table item.some item.within at e) (explicit_none (split 8 (bits body)))
  no_compound (Of.Compound mask links) e h = absurd (h mask links e)

-- the place of a subitem
pub subitem_place : (outer : ItemView) (slot : ℕ) (one : Node) (mask : SlotMask) (links found : List ℕ) (r : Option ItemView) → 0 < outer.link → outer.link ≤ length outer.codec.now.nodes → one ≡ get_or outer.codec.now.nodes (outer.link - 1) one
    → one ≡ Of.Compound mask links → found ≡ links → IfSome r (IsOfSlot outer.codec.now found slot)
    → IfSome r (λ item. StandsInPlace outer.codec.now.nodes found slot outer.body.now item.body.now) → IfSome r (IsSubitem outer slot)
subitem_place outer slot one mask links found None some within at e f h k = tt
subitem_place outer slot one mask links found (Some item) some within at e f h k = record {
  mask = mask;
  links = links;
  node = get_or_default outer.codec.now.nodes (outer.link - 1) Of.Explicit one (omega arith) ∙ sym at ∙ e;
  of_slot = subst (λ links. IsOfSlot outer.codec.now links slot item) f h;
  in_place = subst (λ links. StandsInPlace outer.codec.now.nodes links slot outer.body.now item.body.now) f k;
}
