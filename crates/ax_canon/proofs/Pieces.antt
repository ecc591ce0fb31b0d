-- What is copied and what is written anew.
use Rattle.std.proofs.Common.{◌≡◌, ℕ, ◌+◌, ◌-◌, ◌*◌, ◌<◌, ◌≤◌, ◌⊎◌, inl, inr, Bool, true, IsTrue, List, [], ◌∷◌, ◌++◌, length, take, drop, refl, sym, ◌∙◌, ap, arith, subst}
use Rattle.std.proofs.lemmas.List.{append_cancel_right}
use Rattle.ax_bits.proofs.Outputs.{appends_none, appends_more}
use Rattle.ax_bits.proofs.Pieces.{number-word}
use Rattle.ax_bits.proofs.Words.{length-word}
use Rattle.ax_bits.specs.Bits.{bits, word, number_of, AreBits, AreOctets}
use Rattle.ax_bits.specs.Out.{Appends, room}
use Rattle.ax_bits.specs.declared.output.Out.{Out}
use Rattle.ax_canon.proofs.Fronting.{fronts_none, fronts_by, some_more, CountWrites}
use Rattle.ax_canon.specs.Rewriting.{Rewrites}
use Rattle.ax_fspec.proofs.FieldLaws.{least_alike, alike_set, least_field_of, shortest}
use Rattle.ax_fspec.specs.Fields.{MarksSlots, least_field, mask_slots}
use Rattle.ax_fspec.specs.declared.mask.SlotMask.{SlotMask}
use Rattle.ax_format.proofs.Bounds.{count_of_slots}
use Rattle.ax_format.proofs.Least.{marks_of_spelled}
use Rattle.ax_format.proofs.Meets.{none_marked_left}
use Rattle.ax_format.proofs.WholeOctets.{counter_in_octets}
use Rattle.ax_format.specs.Reader.{Read, after, read, each_read, count_read}
use Rattle.ax_format.specs.Canonical.{canon, each_canon, marks_of}
use Rattle.ax_format.specs.InBounds.{InBounds}
use Rattle.ax_format.specs.Presence.{octets_needed, none_marked, least_presence, NoneUndefined}
use Rattle.ax_format.specs.Tree.{KindTree, ValueTree, EntriesTree, counted, occurrences, value_count, compound, marked, SlotTree, spare_slot, subitem, slots_of, slot_count, defined_slots}
use Rattle.ax_format.specs.Widths.{counter_octets, counter_width}
use Rattle.ax_format.specs.declared.fault.BodyCause.TheVariants.{RunsOut}
use Rattle.ax_format.specs.declared.fault.BodyFault.{BodyFault}
use Rattle.ax_codec.specs.Meaning.{meanings, linked_slots}
use Rattle.ax_codec.specs.Table.{record_kind_at}
use Rattle.ax_codec.specs.declared.node.Node.{Node}
use Rattle.ax_format.specs.declared.kind.Counter.{Counter}
use Rattle.ax_fspec.proofs.AtOctets.{octets_parts, length-octets}
use Rattle.ax_fspec.proofs.Continuing.{gets_after, fails_after}
use Rattle.ax_fspec.proofs.Counting.{front_count, counted_none}
use Rattle.ax_fspec.proofs.Marking.{field_read, marks_bits}
use Rattle.ax_fspec.specs.Reading.{Gets, FailsAt, Continues, IsCount, IsMaskOf, kind_read, entries_at}
use Rattle.ax_walk.proofs.Compounds.{marks_clear}
use Rattle.ax_walk.proofs.FieldSteps.{along_is, spelled}
use Rattle.ax_walk.proofs.CountedSteps.{each_count}
use Rattle.ax_walk.proofs.Plain.{plain_again}
use Rattle.ax_walk.specs.Walking.{Walks, along}
use Rattle.ax_walk.specs.Plain.{IsPlain}

-- ---- copied whole

pub copied : {A : Type 0} (rule : A → List ℕ) (found : Read A) (body : List ℕ) (at end : ℕ) (least : Bool) (old new : Out) → IsTrue least → Walks rule found body at end least → 8 * (length body - at) ≤ room old → Appends old new (bits (take (end - at) (drop at body)))
    → Rewrites rule found body at end old new
copied rule found body at end least old new said w free a =
    let x = bits (take (end - at) (drop at body)) in
    let is : rule w.value ≡ x = append_cancel_right (rule w.value) x (bits (drop end body)) (w.canonical said ∙ octets_parts body at end w.read.forwards) in
    record {
      forwards = w.read.forwards;
      within = w.read.within;
      room = omega (arith, a.room, length-octets body at end w.read.forwards w.read.within, w.read.forwards, w.read.within);
      some = (x, a);
      state = inl (w.value, w.read, subst (Appends old new) (sym is) a);
    }

pub copied_plain : (k : KindTree) (body : List ℕ) (at end : ℕ) (least : Bool) (old new : Out) → IsPlain k → InBounds k → Walks (canon k) (kind_read k body at) body at end least → 8 * (length body - at) ≤ room old → Appends old new (bits (take (end - at) (drop at body)))
    → Rewrites (canon k) (kind_read k body at) body at end old new
copied_plain k body at end least old new plain bounds w free a = copied (canon k) (kind_read k body at) body at end true old new refl (plain_again k body at end least true plain bounds w) free a

pub not_copied : {A : Type 0} (rule : A → List ℕ) (found : Read A) (body : List ℕ) (at : ℕ) (out : Out) (fault : BodyFault) → at ≤ length body → 8 * (length body - at) ≤ room out → FailsAt found at fault → Rewrites rule found body at at out out
not_copied rule found body at out fault le free l = record { forwards = omega arith; within = le; room = free; some = ([], appends_none out); state = inr (fault, l) }

pub as_kind : (j k : KindTree) (body : List ℕ) (at end : ℕ) (old new : Out) → j ≡ k → Rewrites (canon k) (kind_read k body at) body at end old new → Rewrites (canon j) (kind_read j body at) body at end old new
as_kind j k body at end old new e r = subst (λ k. Rewrites (canon k) (kind_read k body at) body at end old new) (sym e) r

-- ---- counted

pub no_count : (size : Counter) (k : KindTree) (body : List ℕ) (at : ℕ) (out : Out) → length body < at + counter_octets size → at ≤ length body → 8 * (length body - at) ≤ room out
    → Rewrites (canon (counted size k)) (kind_read (counted size k) body at) body at at out out
no_count size k body at out short le free =
    let f : BodyFault = record { cause = RunsOut; bit = 8 * at } in not_copied (canon (counted size k)) (kind_read (counted size k) body at) body at out f le free (counted_none size k body at f short refl refl)

module _ (size : Counter) (k : KindTree) (body : List ℕ) (n at : ℕ) (old now : Out) (h : IsCount size body at n) (free : 8 * (length body - at) ≤ room old) where
  abbrev after_counter : ℕ
  after_counter = at + counter_octets size

  counter_read : Continues (kind_read (counted size k) body at) at after_counter (λ vs. occurrences vs) (each_read (read k) (n - 0) (bits (drop after_counter body)))
  unfolding kind_read
  counter_read = record {
    forwards = omega arith;
    same = ap (count_read (counter_width size) (read k)) (front_count size body at n h) ∙ (λ i. after (width i) (λ vs. occurrences vs) (each_read (read k) (times i) (bits (drop after_counter body))));
  }
    where
      width : counter_width size ≡ 8 * (after_counter - at)
      width = omega (arith, counter_in_octets size)

      times : number_of (word (counter_width size) n) ≡ n - 0
      times = number-word (counter_width size) n h.below ∙ omega arith

  first_written : Appends old now (bits (take (after_counter - at) (drop at body))) → CountWrites size k body n 0 at after_counter old now
  first_written a = record {
    writes = record {
      forwards = omega arith;
      within = h.within;
      room = omega (arith, own.room, length-word (counter_width size) n, counter_in_octets size, h.within);
      some = (word (counter_width size) n, own);
      state = inl (fronts_by (each_canon (canon k)) (each_read (read k) (n - 0) (bits (drop after_counter body))) (canon (counted size k)) (kind_read (counted size k) body at) (canon (counted size k)) (kind_read (counted size k) body at) body at at after_counter old old now
          (λ vs. occurrences vs) (word (counter_width size) n) (fronts_none (canon (counted size k)) (kind_read (counted size k) body at) body at old) counter_read own
          (λ vs last g. (
          let count : value_count vs ≡ n - 0 = each_count (read k) (n - 0) (8 * (last - after_counter)) (bits (drop after_counter body)) (bits (drop last body)) vs g.got in
          ap (λ m. word (counter_width size) m ++ each_canon (canon k) vs) (let e : value_count vs ≡ n = omega arith in e))));
    };
  }
    where
      own : Appends old now (word (counter_width size) n)
      own = subst (Appends old now) (ap (λ m. bits (take m (drop at body))) (let e : after_counter - at ≡ counter_octets size = omega arith in e) ∙ sym h.spells) a

  -- the counter's octets are copied
  pub count_first : (octets : ℕ) → octets ≡ counter_octets size → Appends old now (bits (take (at + octets - at) (drop at body))) → CountWrites size k body n 0 at (at + octets) old now
  count_first octets e a = subst (λ m. CountWrites size k body n 0 at (at + m) old now) (sym e) (first_written (subst (λ m. Appends old now (bits (take (at + m - at) (drop at body)))) e a))

-- ---- a compound or a record

clear_after : (slots : List SlotTree) (ms : List ℕ) → NoneUndefined (defined_slots (slots_of slots)) ms → AreBits ms → IsTrue (none_marked (drop (length slots) ms))
clear_after [] ms clear bit = none_marked_left ms clear bit
clear_after (s ∷ slots) [] clear bit = refl
clear_after (spare_slot ∷ slots) (m ∷ ms) clear bit = clear_after slots ms clear.1 bit.1
clear_after (subitem name k ∷ slots) (m ∷ ms) clear bit = clear_after slots ms clear.1 bit.1

module _ (ns : List Node) (links : List ℕ) (mask : SlotMask) (body marks : List ℕ) (at here : ℕ) (octets : AreOctets body) (bounds : InBounds (record_kind_at ns links)) (m : IsMaskOf (linked_slots (meanings ns) links) mask) (h : MarksSlots mask body at here marks) where
  pub field_room : (free : ℕ) → 8 * (length body - at) ≤ free → length (least_field marks) ≤ free
  field_room free le = omega (arith, shortest mask.count (mask_slots mask) marks (bits (take (here - at) (drop at body))) mask.few h.field, length-octets body at here (let lt = h.begins in omega arith) h.within, h.begins, h.within)

  pub room_following : (old now : Out) → 8 * (length body - at) ≤ room old → Appends old now (least_field marks) → 8 * (length body - here) ≤ room now
  room_following old now le a = omega (arith, a.room, shortest mask.count (mask_slots mask) marks (bits (take (here - at) (drop at body))) mask.few h.field, length-octets body at here (let lt = h.begins in omega arith) h.within, h.begins, h.within)

  pub compound_written : (end : ℕ) (old now new : Out) → Appends old now (least_field marks) → Rewrites (along (slots_of (linked_slots (meanings ns) links)) marks) (entries_at (slots_of (linked_slots (meanings ns) links)) marks body here) body here end now new
      → Rewrites (canon (record_kind_at ns links)) (kind_read (record_kind_at ns links) body at) body at end old new
  unfolding record_kind_at
  compound_written end old now new a r = record { forwards = omega (arith, h.begins, r.forwards); within = r.within; room = r.room; some = some_more old now new (least_field marks, a) r.some; state = on r.state }
    where
      slots : List SlotTree
      slots = linked_slots (meanings ns) links

      on : ((es : EntriesTree) × Gets (entries_at (slots_of slots) marks body here) body here end es × Appends now new (along (slots_of slots) marks es)) ⊎ ((fault : BodyFault) × FailsAt (entries_at (slots_of slots) marks body here) here fault)
          → ((v : ValueTree) × Gets (kind_read (compound (slots_of slots)) body at) body at end v × Appends old new (canon (compound (slots_of slots)) v)) ⊎ ((fault : BodyFault) × FailsAt (kind_read (compound (slots_of slots)) body at) at fault)
      on (inr (fault, l)) = inr (fault, fails_after (kind_read (compound (slots_of slots)) body at) (entries_at (slots_of slots) marks body here) at here (λ es. marked es) fault (field_read slots mask body marks at here m h) l)
      on (inl (es, g, w)) =
          let ss = slots_of slots in
          let k = octets_needed (slot_count ss) in
          let bit : AreBits marks = marks_bits mask body marks at here h in
          let clear : NoneUndefined (defined_slots ss) marks = marks_clear slots mask body marks at here m h in
          let s = spelled slots mask body marks at here octets bounds m h es end g clear in
          let n : slot_count ss ≡ length slots = count_of_slots slots in
          let none : IsTrue (none_marked (drop (slot_count ss) marks)) = subst (λ n. IsTrue (none_marked (drop n marks))) (sym n) (clear_after slots marks clear bit) in
          let field : least_presence k (marks_of 1 ss es) ≡ least_field marks =
          least_alike k (marks_of 1 ss es) marks (marks_of_spelled 1 ss marks es s.0 s.1) ∙ sym (least_alike k (take (slot_count ss) marks) marks (alike_set (slot_count ss) marks none))
          ∙ sym (least_field_of (slot_count ss) marks bounds.0 bounds.1 none) in
          inl (
            marked es,
            gets_after (kind_read (compound ss) body at) (entries_at ss marks body here) body at here end (λ es. marked es) es (field_read slots mask body marks at here m h) g,
            appends_more old now new (least_field marks) (along ss marks es) (canon (compound ss) (marked es)) (λ i. field i ++ along_is 1 ss marks es s.0 s.1 i) a w,
          )
