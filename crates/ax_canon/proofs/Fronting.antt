-- Writing goes on after what was written.
use Rattle.std.proofs.Common.{◌≡◌, ℕ, suc, ◌+◌, ◌-◌, ◌*◌, ◌<◌, ◌≤◌, ◌⊎◌, inl, inr, List, [], ◌++◌, drop, get_or, refl, sym, ◌∙◌, ap, arith, subst, append_assoc, append-nil}
use Rattle.ax_bits.proofs.Outputs.{appends_none, appends_more}
use Rattle.ax_bits.specs.Bits.{bits, AreBits}
use Rattle.ax_bits.specs.Out.{Appends}
use Rattle.ax_bits.specs.declared.output.Out.{Out}
use Rattle.ax_canon.specs.Rewriting.{Rewrites, Fronts, Writes}
use Rattle.ax_fspec.proofs.Walks.{no_next_slot}
use Rattle.ax_fspec.specs.Marks as Marks
use Rattle.ax_format.specs.Reader.{Read, got, both, read, each_read, entries_read}
use Rattle.ax_format.specs.Canonical.{canon, each_canon}
use Rattle.ax_format.specs.Presence.{NoneUndefined}
use Rattle.ax_format.specs.Tree.{KindTree, ValueTree, counted, no_values, value_and, no_entries, entry_and, SlotTree, slots_of, defined_slots}
use Rattle.ax_format.specs.declared.fault.BodyFault.{BodyFault}
use Rattle.ax_format.specs.declared.kind.Counter.{Counter}
use Rattle.ax_codec.specs.Meaning.{meanings, linked_slots}
use Rattle.ax_codec.specs.Table.{kind_at}
use Rattle.ax_codec.specs.declared.node.Node.{Node}
use Rattle.ax_fspec.proofs.Continuing.{gets_after, fails_after}
use Rattle.ax_fspec.specs.Reading.{Gets, FailsAt, Continues, kind_read, entries_at}
use Rattle.ax_walk.proofs.MarkedSteps.{NextMarked, no_entries_left, along_none}
use Rattle.ax_walk.specs.Walking.{along}

-- ---- fronts

pub fronts_none : {A : Type 0} (rule : A → List ℕ) (found : Read A) (body : List ℕ) (at : ℕ) (out : Out) → Fronts rule found rule found body at at out out
fronts_none rule found body at out = record { front = []; appends = appends_none out; gets = λ a end g. (a, g, refl); fails = λ fault l. l }

-- one piece more
pub fronts_by : {A B C : Type 0} (rule : A → List ℕ) (rest : Read A) (mid_rule : B → List ℕ) (mid : Read B) (whole_rule : C → List ℕ) (whole : Read C) (body : List ℕ) (at here end : ℕ) (old now new : Out) (g : A → B) (piece : List ℕ)
    → Fronts mid_rule mid whole_rule whole body at here old now → Continues mid here end g rest → Appends now new piece → ((a : A) (last : ℕ) → Gets rest body end last a → mid_rule (g a) ≡ piece ++ rule a) → Fronts rule rest whole_rule whole body at end old new
fronts_by rule rest mid_rule mid whole_rule whole body at here end old now new g piece h c a step = record {
  front = h.front ++ piece;
  appends = appends_more old now new h.front piece (h.front ++ piece) refl h.appends a;
  gets = λ x last r. (
      let t = h.gets (g x) last (gets_after mid rest body here end last g x c r) in
      (t.0, t.1, t.2 ∙ ap (λ y. h.front ++ y) (step x last r) ∙ sym (append_assoc h.front piece (rule x))));
  fails = λ fault l. h.fails fault (fails_after mid rest here end g fault c l);
}

pub some_more : (old now new : Out) → (b : List ℕ) × Appends old now b → (b : List ℕ) × Appends now new b → (b : List ℕ) × Appends old new b
some_more old now new (b, h) (c, g) = (b ++ c, appends_more old now new b c (b ++ c) refl h g)

-- the last piece
pub writes_end : {A B : Type 0} (rule : A → List ℕ) (next : Read A) (whole_rule : B → List ℕ) (whole : Read B) (body : List ℕ) (at here : ℕ) (old now : Out) (a : A) → Writes rule next whole_rule whole body at here old now → Gets next body here here a → rule a ≡ [] → Rewrites whole_rule whole body at here old now
writes_end rule next whole_rule whole body at here old now a h g e = record { forwards = h.forwards; within = h.within; room = h.room; some = h.some; state = last h.state }
  where
    last : Fronts rule next whole_rule whole body at here old now ⊎ ((fault : BodyFault) × FailsAt whole at fault) → ((b : _) × Gets whole body at here b × Appends old now (whole_rule b)) ⊎ ((fault : BodyFault) × FailsAt whole at fault)
    last (inl f) =
        let t = f.gets a here g in
        inl (t.0, t.1, subst (Appends old now) (sym (t.2 ∙ ap (λ y. f.front ++ y) e ∙ append-nil f.front)) f.appends)
    last (inr l) = inr l

-- ---- counted

each_on : (k : KindTree) (body : List ℕ) (m here end : ℕ) (v : ValueTree) → Gets (kind_read k body here) body here end v → Continues (each_read (read k) (suc m) (bits (drop here body))) here end (λ vs. value_and v vs) (each_read (read k) m (bits (drop end body)))
unfolding kind_read
each_on k body m here end v g = record { forwards = g.forwards; same = ap (λ r. both (λ v vs. value_and v vs) r (each_read (read k) m)) g.got }

each_off : (k : KindTree) (body : List ℕ) (m here : ℕ) (fault : BodyFault) → FailsAt (kind_read k body here) here fault → FailsAt (each_read (read k) (suc m) (bits (drop here body))) here fault
unfolding kind_read
each_off k body m here fault l = record { place = l.place; failed = ap (λ r. both (λ v vs. value_and v vs) r (each_read (read k) m)) l.failed; bit = l.bit }

pub record CountWrites (size : Counter) (k : KindTree) (body : List ℕ) (n i at here : ℕ) (old now : Out) : Type 0 where
  pub writes : Writes (each_canon (canon k)) (each_read (read k) (n - i) (bits (drop here body))) (canon (counted size k)) (kind_read (counted size k) body at) body at here old now

module _ (size : Counter) (k : KindTree) (body : List ℕ) (m at here end : ℕ) (old now new : Out) (r : Rewrites (canon k) (kind_read k body here) body here end now new) where
  one_more : Fronts (each_canon (canon k)) (each_read (read k) (suc m) (bits (drop here body))) (canon (counted size k)) (kind_read (counted size k) body at) body at here old now ⊎ ((fault : BodyFault) × FailsAt (kind_read (counted size k) body at) at fault)
      → Fronts (each_canon (canon k)) (each_read (read k) m (bits (drop end body))) (canon (counted size k)) (kind_read (counted size k) body at) body at end old new ⊎ ((fault : BodyFault) × FailsAt (kind_read (counted size k) body at) at fault)
  one_more (inr l) = inr l
  one_more (inl f) = by r.state
    where
      by : ((v : _) × Gets (kind_read k body here) body here end v × Appends now new (canon k v)) ⊎ ((fault : BodyFault) × FailsAt (kind_read k body here) here fault)
          → Fronts (each_canon (canon k)) (each_read (read k) m (bits (drop end body))) (canon (counted size k)) (kind_read (counted size k) body at) body at end old new ⊎ ((fault : BodyFault) × FailsAt (kind_read (counted size k) body at) at fault)
      by (inl (v, g, a)) = inl (fronts_by (each_canon (canon k)) (each_read (read k) m (bits (drop end body))) (each_canon (canon k)) (each_read (read k) (suc m) (bits (drop here body))) (canon (counted size k)) (kind_read (counted size k) body at) body at here end old now new (λ vs. value_and v vs) (canon k v) f
          (each_on k body m here end v g) a (λ vs last t. refl))
      by (inr (fault, l)) = inr (fault, f.fails fault (each_off k body m here fault l))

pub count_next : (size : Counter) (k : KindTree) (body : List ℕ) (n i at here end : ℕ) (old now new : Out) → CountWrites size k body n i at here old now → i < n → Rewrites (canon k) (kind_read k body here) body here end now new → CountWrites size k body n (i + 1) at end old new
count_next size k body n i at here end old now new h lt r = record {
  writes = record {
    forwards = omega (arith, h.writes.forwards, r.forwards);
    within = r.within;
    room = r.room;
    some = some_more old now new h.writes.some r.some;
    state = one_more size k body (n - (i + 1)) at here end old now new r
        (subst (λ m. Fronts (each_canon (canon k)) (each_read (read k) m (bits (drop here body))) (canon (counted size k)) (kind_read (counted size k) body at) body at here old now ⊎ ((fault : BodyFault) × FailsAt (kind_read (counted size k) body at) at fault))
        (let e : n - i ≡ suc (n - (i + 1)) = omega arith in e) h.writes.state);
  };
}

pub count_last : (size : Counter) (k : KindTree) (body : List ℕ) (n i at here : ℕ) (old now : Out) → CountWrites size k body n i at here old now → n ≤ i → Rewrites (canon (counted size k)) (kind_read (counted size k) body at) body at here old now
count_last size k body n i at here old now h past =
    let none : each_read (read k) (n - i) (bits (drop here body)) ≡ got no_values 0 (bits (drop here body)) = ap (λ m. each_read (read k) m (bits (drop here body))) (let e : n - i ≡ 0 = omega arith in e) in
    writes_end (each_canon (canon k)) (each_read (read k) (n - i) (bits (drop here body))) (canon (counted size k)) (kind_read (counted size k) body at) body at here old now no_values h.writes
    (record { forwards = omega arith; within = h.writes.within; got = none ∙ ap (λ m. got no_values m (bits (drop here body))) (let e : 0 ≡ 8 * (here - here) = omega arith in e) }) refl

-- ---- marked slots

pub record MarksWrite (slots : List SlotTree) (marks left body : List ℕ) (at here : ℕ) (old now : Out) : Type 0 where
  pub clear : NoneUndefined (defined_slots (slots_of slots)) left
  pub are_bits : AreBits left
  pub writes : Writes (along (slots_of slots) left) (entries_at (slots_of slots) left body here) (along (slots_of slots) marks) (entries_at (slots_of slots) marks body at) body at here old now

module _ (nodes : List Node) (links marks left now_left body : List ℕ) (t at here end : ℕ) (old now new : Out) (n : NextMarked nodes links left now_left t)
    (r : Rewrites (canon (kind_at nodes (get_or links (t - 1) 0))) (kind_read (kind_at nodes (get_or links (t - 1) 0)) body here) body here end now new) where
  slot_on : (v : ValueTree) → Gets (kind_read (kind_at nodes (get_or links (t - 1) 0)) body here) body here end v
      → Continues (entries_at (slots_of (linked_slots (meanings nodes) links)) left body here) here end (λ es. entry_and t v es) (entries_at (slots_of (linked_slots (meanings nodes) links)) now_left body end)
  unfolding kind_read entries_at
  slot_on v g = record { forwards = g.forwards; same = n.reads (bits (drop here body)) ∙ ap (λ r. both (λ v es. entry_and t v es) r (entries_read 1 (slots_of (linked_slots (meanings nodes) links)) now_left)) g.got }

  slot_off : (fault : BodyFault) → FailsAt (kind_read (kind_at nodes (get_or links (t - 1) 0)) body here) here fault → FailsAt (entries_at (slots_of (linked_slots (meanings nodes) links)) left body here) here fault
  unfolding kind_read entries_at
  slot_off fault l = record { place = l.place; failed = n.reads (bits (drop here body)) ∙ ap (λ r. both (λ v es. entry_and t v es) r (entries_read 1 (slots_of (linked_slots (meanings nodes) links)) now_left)) l.failed; bit = l.bit }

  slot_more : Fronts (along (slots_of (linked_slots (meanings nodes) links)) left) (entries_at (slots_of (linked_slots (meanings nodes) links)) left body here) (along (slots_of (linked_slots (meanings nodes) links)) marks) (entries_at (slots_of (linked_slots (meanings nodes) links)) marks body at) body at here old now
      → ((v : ValueTree) × Gets (kind_read (kind_at nodes (get_or links (t - 1) 0)) body here) body here end v × Appends now new (canon (kind_at nodes (get_or links (t - 1) 0)) v)) ⊎ ((fault : BodyFault) × FailsAt (kind_read (kind_at nodes (get_or links (t - 1) 0)) body here) here fault)
      → Fronts (along (slots_of (linked_slots (meanings nodes) links)) now_left) (entries_at (slots_of (linked_slots (meanings nodes) links)) now_left body end) (along (slots_of (linked_slots (meanings nodes) links)) marks) (entries_at (slots_of (linked_slots (meanings nodes) links)) marks body at) body at end old new
      ⊎ ((fault : BodyFault) × FailsAt (entries_at (slots_of (linked_slots (meanings nodes) links)) marks body at) at fault)
  slot_more f (inl (v, g, a)) =
      let ss = slots_of (linked_slots (meanings nodes) links) in
      inl (fronts_by (along ss now_left) (entries_at ss now_left body end) (along ss left) (entries_at ss left body here) (along ss marks) (entries_at ss marks body at) body at here end old now new (λ es. entry_and t v es) (canon (kind_at nodes (get_or links (t - 1) 0)) v) f
      (slot_on v g) a (λ es last q. n.spells v es))
  slot_more f (inr (fault, l)) = inr (fault, f.fails fault (slot_off fault l))

  pub marks_next : MarksWrite (linked_slots (meanings nodes) links) marks left body at here old now → MarksWrite (linked_slots (meanings nodes) links) marks now_left body at end old new
  marks_next h = record {
    clear = n.clear;
    are_bits = n.are_bits;
    writes = record { forwards = omega (arith, h.writes.forwards, r.forwards); within = r.within; room = r.room; some = some_more old now new h.writes.some r.some; state = on h.writes.state };
  }
    where
      on : Fronts (along (slots_of (linked_slots (meanings nodes) links)) left) (entries_at (slots_of (linked_slots (meanings nodes) links)) left body here) (along (slots_of (linked_slots (meanings nodes) links)) marks) (entries_at (slots_of (linked_slots (meanings nodes) links)) marks body at) body at here old now
          ⊎ ((fault : BodyFault) × FailsAt (entries_at (slots_of (linked_slots (meanings nodes) links)) marks body at) at fault)
          → Fronts (along (slots_of (linked_slots (meanings nodes) links)) now_left) (entries_at (slots_of (linked_slots (meanings nodes) links)) now_left body end) (along (slots_of (linked_slots (meanings nodes) links)) marks) (entries_at (slots_of (linked_slots (meanings nodes) links)) marks body at) body at end old new
          ⊎ ((fault : BodyFault) × FailsAt (entries_at (slots_of (linked_slots (meanings nodes) links)) marks body at) at fault)
      on (inl f) = slot_more f r.state
      on (inr l) = inr l

pub marks_last : (slots : List SlotTree) (marks left body : List ℕ) (at here : ℕ) (old now : Out) → MarksWrite slots marks left body at here old now → Marks.slots_of left ≡ [] → Rewrites (along (slots_of slots) marks) (entries_at (slots_of slots) marks body at) body at here old now
unfolding entries_at
marks_last slots marks left body at here old now h e =
    let none = no_next_slot 1 left e in
    writes_end (along (slots_of slots) left) (entries_at (slots_of slots) left body here) (along (slots_of slots) marks) (entries_at (slots_of slots) marks body at) body at here old now no_entries h.writes
    (record { forwards = omega arith; within = h.writes.within; got = no_entries_left 1 (slots_of slots) left (bits (drop here body)) none ∙ ap (λ m. got no_entries m (bits (drop here body))) (let e : 0 ≡ 8 * (here - here) = omega arith in e) })
    (along_none (slots_of slots) left none)
