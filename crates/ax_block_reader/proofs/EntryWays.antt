-- Each way through the readers of entries, by the slots of a compound or a record.
use Rattle.std.proofs.Common.{◌≡◌, ℕ, ◌+◌, ◌<◌, ◌≤◌, Bool, true, false, cond, ◌⊎◌, inl, inr, List, [], ◌∷◌, ◌++◌, refl, sym, ◌∙◌, ap, subst, length, drop, get_or, arith}
use Rattle.std.specs.Prelude.{◌==◌, MatchBool}
use Rattle.std.proofs.lemmas.Bool.{eq-eqb, eqb-true, ne_eqb}
use Rattle.std.proofs.lemmas.List.{drop_all}
use Rattle.ax_tokens.specs.Stopping.{Texts, Stops, IsNotFirst, Word, Then}
use Rattle.ax_tokens.specs.declared.stopped.Stopped.{Stopped}
use Rattle.ax_tokens.specs.declared.stopped.Stopped.TheVariants.{Bad, OutOfMemory}
use Rattle.ax_tokens.proofs.Stops.{BeginsWith}
use Rattle.ax_format.specs.Characters.{IsName}
use Rattle.ax_format.specs.Plain.{slot_tree, slots_tree, value_tree, entry_tree, entries_tree, value_step, entry_step}
use Rattle.ax_format.specs.Shape.{Shape, EntriesShape}
use Rattle.ax_format.specs.Tree.{KindTree, SlotTree, SlotsTree, no_slots, slot_and, spare_slot, subitem, ValueTree, EntriesTree, no_entries, entry_and}
use Rattle.ax_format.specs.declared.kind.Slot.{Slot}
use Rattle.ax_format.specs.declared.value.Entry.{Entry, roll-Entry, fold-roll-Entry}
use Rattle.ax_format.specs.declared.value.Value.{Value}
use Rattle.ax_text_form.proofs.Printed.{from_place}
use Rattle.ax_text_form.proofs.Unique.{entries_never}
use Rattle.ax_text_form.specs.Readable.{Lacks, SlotLacks, SlotReadable, SlotsReadable}
use Rattle.ax_text_form.specs.Slots.{SlotShape}
use Rattle.ax_text_form.specs.ValueText.{closing, kind_onto, entries_onto}
use Rattle.ax_block_reader.specs.Continuing.{Continues, Spelled, IsRead}
use Rattle.ax_block_reader.specs.Entries.{slot_texts, SlotNamed, IsNotNamed, IsNamedAt}
use Rattle.ax_block_reader.specs.Languages.{entries_texts}
use Rattle.ax_block_reader.proofs.Continuations.{tails, no_text, first_read, first_front, cut_stops}
use Rattle.ax_block_reader.proofs.Collecting.{Collects, none_collected, more_collected, all_collected, same_put, left_lacks, one_collected, one_lacks, skip_collected, Closes, closing_read, closing_lacks}
use Rattle.ax_text_form.proofs.Onto.{kind_more}

abbrev AreEntries : ℕ → SlotsTree → Texts → Type 0
AreEntries s ss = Spelled (EntriesShape s ss) (entries_texts s ss)

-- ---- no entries

pub no_entries_fit : (s : ℕ) (ss : SlotsTree) → EntriesShape s ss no_entries
no_entries_fit s no_slots = tt
no_entries_fit s (slot_and spare_slot ss) = no_entries_fit (s + 1) ss
no_entries_fit s (slot_and (subitem name k) ss) = no_entries_fit (s + 1) ss

no_entries_texts : (s : ℕ) (ss : SlotsTree) (x : Texts) → entries_onto s ss no_entries x ≡ x
no_entries_texts s no_slots x = refl
no_entries_texts s (slot_and spare_slot ss) x = no_entries_texts (s + 1) ss x
no_entries_texts s (slot_and (subitem name k) ss) x = no_entries_texts (s + 1) ss x

pub entries_due : (s : ℕ) (ss : SlotsTree) → AreEntries s ss (closing ∷ [])
entries_due s ss = (no_entries, no_entries_fit s ss, sym (no_entries_texts s ss (closing ∷ [])))

-- ---- an entry of the first slot

same_slot : (s : ℕ) → (s == s) ≡ true
same_slot s = eq-eqb s s refl

pick : (s : ℕ) (name : List ℕ) (k : KindTree) (ss : SlotsTree) (v : ValueTree) (es : EntriesTree) → Shape k v → EntriesShape (s + 1) ss es → EntriesShape s (slot_and (subitem name k) ss) (entry_and s v es)
pick s name k ss v es h g = subst (λ b. MatchBool b (Shape k v × EntriesShape (s + 1) ss es) (EntriesShape (s + 1) ss (entry_and s v es))) (sym (same_slot s)) (h, g)

pick_texts : (s : ℕ) (name : List ℕ) (k : KindTree) (ss : SlotsTree) (v : ValueTree) (es : EntriesTree) → entries_texts s (slot_and (subitem name k) ss) (entry_and s v es) ≡ name ∷ kind_onto k v (entries_texts (s + 1) ss es)
pick_texts s name k ss v es = ap (λ b. cond b (name ∷ kind_onto k v (entries_texts (s + 1) ss es)) (entries_texts (s + 1) ss (entry_and s v es))) (same_slot s)

-- ---- entries of later slots

above_case : (b : Bool) (s t : ℕ) (S T : Type 0) → (t == s) ≡ b → MatchBool b S T → (T → s + 1 ≤ t) → s ≤ t
above_case true s t S T e g next = omega (arith, eqb-true t s e)
above_case false s t S T e g next = omega (arith, next g)

first_above : (s : ℕ) (ss : SlotsTree) (t : ℕ) (v : ValueTree) (es : EntriesTree) → EntriesShape s ss (entry_and t v es) → s ≤ t
first_above s no_slots t v es h = absurd h
first_above s (slot_and spare_slot ss) t v es h = let more : s + 1 ≤ t = first_above (s + 1) ss t v es h in omega (arith, more)
first_above s (slot_and (subitem name k) ss) t v es h = above_case (t == s) s t _ _ refl h (λ g. first_above (s + 1) ss t v es g)

not_slot : (s t : ℕ) → s + 1 ≤ t → (t == s) ≡ false
not_slot s t le = ne_eqb t s (λ e. absurd (omega (arith, le, e)))

later_shape : (s : ℕ) (name : List ℕ) (k : KindTree) (ss : SlotsTree) (es : EntriesTree) → EntriesShape (s + 1) ss es → EntriesShape s (slot_and (subitem name k) ss) es
later_shape s name k ss no_entries h = h
later_shape s name k ss (entry_and t v es) h = subst (λ b. MatchBool b (Shape k v × EntriesShape (s + 1) ss es) (EntriesShape (s + 1) ss (entry_and t v es))) (sym (not_slot s t (first_above (s + 1) ss t v es h))) h

later_texts : (s : ℕ) (name : List ℕ) (k : KindTree) (ss : SlotsTree) (es : EntriesTree) → EntriesShape (s + 1) ss es → entries_texts s (slot_and (subitem name k) ss) es ≡ entries_texts (s + 1) ss es
later_texts s name k ss no_entries h = refl
later_texts s name k ss (entry_and t v es) h = ap (λ b. cond b (name ∷ kind_onto k v (entries_texts (s + 1) ss es)) (entries_texts (s + 1) ss (entry_and t v es))) (not_slot s t (first_above (s + 1) ss t v es h))

skip_case : (b : Bool) (s : ℕ) (name : List ℕ) (k : KindTree) (ss : SlotsTree) (u : ℕ) (v : ValueTree) (es : EntriesTree) (t : Texts) → MatchBool b (Shape k v × EntriesShape (s + 1) ss es) (EntriesShape (s + 1) ss (entry_and u v es))
    → t ≡ cond b (name ∷ kind_onto k v (entries_texts (s + 1) ss es)) (entries_texts (s + 1) ss (entry_and u v es)) → BeginsWith name t ⊎ AreEntries (s + 1) ss t
skip_case true s name k ss u v es t h e = inl (kind_onto k v (entries_texts (s + 1) ss es), e)
skip_case false s name k ss u v es t h e = inr (entry_and u v es, h, e)

skip_back : (s : ℕ) (name : List ℕ) (k : KindTree) (ss : SlotsTree) (t : Texts) (es : EntriesTree) → EntriesShape s (slot_and (subitem name k) ss) es → t ≡ entries_texts s (slot_and (subitem name k) ss) es → BeginsWith name t ⊎ AreEntries (s + 1) ss t
skip_back s name k ss t no_entries h e = inr (no_entries, h, e)
skip_back s name k ss t (entry_and u v es) h e = skip_case (u == s) s name k ss u v es t h e

-- ---- where the slot's name comes

abbrev EntryParts : ℕ → List ℕ → KindTree → SlotsTree → Texts → Type 0
EntryParts s name k ss = Then (Spelled (SlotShape (subitem name k)) (slot_texts (subitem name k))) (AreEntries (s + 1) ss)

entry_f : (s : ℕ) (name : List ℕ) (k : KindTree) (ss : SlotsTree) (t : Texts) → EntryParts s name k ss t → AreEntries s (slot_and (subitem name k) ss) t
entry_f s name k ss t (a, b, e, (v, h, p), (es, g, q)) =
    (entry_and s v es, pick s name k ss v es h g, e ∙ ap (λ x. x ++ b) p ∙ ap (λ x. name ∷ x) (kind_more k v [] b ∙ ap (kind_onto k v) q) ∙ sym (pick_texts s name k ss v es))

entry_case : (b : Bool) (s : ℕ) (name : List ℕ) (k : KindTree) (ss : SlotsTree) (u : ℕ) (v : ValueTree) (es : EntriesTree) (t : Texts) → IsName name → Lacks name ss → MatchBool b (Shape k v × EntriesShape (s + 1) ss es) (EntriesShape (s + 1) ss (entry_and u v es))
    → name ∷ t ≡ cond b (name ∷ kind_onto k v (entries_texts (s + 1) ss es)) (entries_texts (s + 1) ss (entry_and u v es)) → EntryParts s name k ss (name ∷ t)
entry_case true s name k ss u v es t i l h e =
    (slot_texts (subitem name k) v, entries_texts (s + 1) ss es, e ∙ ap (λ x. name ∷ x) (sym (kind_more k v [] (entries_texts (s + 1) ss es))), (v, h.0, refl), (es, h.1, refl))
entry_case false s name k ss u v es t i l h e = absurd (entries_never (s + 1) ss (entry_and u v es) [] name i l h t (sym e))

entry_back : (s : ℕ) (name : List ℕ) (k : KindTree) (ss : SlotsTree) → IsName name → Lacks name ss → (t : Texts) (es : EntriesTree) → EntriesShape s (slot_and (subitem name k) ss) es → name ∷ t ≡ entries_texts s (slot_and (subitem name k) ss) es → EntryParts s name k ss (name ∷ t)
entry_back s name k ss i l t no_entries h e = absurd (entries_never (s + 1) ss no_entries [] name i l h t (sym e))
entry_back s name k ss i l t (entry_and u v es) h e = entry_case (u == s) s name k ss u v es t i l h e

-- entries up to their brace have a text
some_case : (b : Bool) (S T : Type 0) (p q : Texts) → MatchBool b S T → (S → [] ≡ p → ⊥) → (T → [] ≡ q → ⊥) → [] ≡ cond b p q → ⊥
some_case true S T p q h f g e = f h e
some_case false S T p q h f g e = g h e

entries_some : (s : ℕ) (ss : SlotsTree) (es : EntriesTree) → EntriesShape s ss es → [] ≡ entries_texts s ss es → ⊥
entries_some s no_slots no_entries h e = no_text closing [] e
entries_some s no_slots (entry_and t v es) h e = h
entries_some s (slot_and spare_slot ss) es h e = entries_some (s + 1) ss es h e
entries_some s (slot_and (subitem name k) ss) no_entries h e = entries_some (s + 1) ss no_entries h e
entries_some s (slot_and (subitem name k) ss) (entry_and t v es) h e =
    some_case (t == s) _ _ _ _ h (λ g d. no_text name (kind_onto k v (entries_texts (s + 1) ss es)) d) (λ g d. entries_some (s + 1) ss (entry_and t v es) g d) e

module _ (s : ℕ) (name : List ℕ) (k : KindTree) (ss : SlotsTree) (named : IsName name) (lacks : Lacks name ss) where
  abbrev all : SlotsTree
  all = slot_and (subitem name k) ss

  entry_start : (rest old : Texts) → old ≡ name ∷ rest → Continues (AreEntries s all) (EntryParts s name k ss) old old
  entry_start rest old e = first_read (AreEntries s all) (EntryParts s name k ss) name rest old old (entry_f s name k ss) (λ m. entries_some s all m.0 m.1 m.2) (λ t m. entry_back s name k ss named lacks t m.0 m.1 m.2) e refl

  start_front : (rest old : Texts) (e : old ≡ name ∷ rest) → (entry_start rest old e).front ≡ []
  unfolding entry_start
  start_front rest old e = first_front (AreEntries s all) (EntryParts s name k ss) name rest old old (entry_f s name k ss) (λ m. entries_some s all m.0 m.1 m.2) (λ t m. entry_back s name k ss named lacks t m.0 m.1 m.2) e refl

  named_lacks : (rest : Texts) (stopped : Stopped) (old new : Texts) → old ≡ name ∷ rest → Stops stopped (Spelled (SlotShape (subitem name k)) (slot_texts (subitem name k))) old new → Stops stopped (AreEntries s all) old new
  named_lacks rest stopped old new e x =
      one_lacks (EntriesShape s all) (EntriesShape (s + 1) ss) (entries_texts s all) (entries_texts (s + 1) ss) (SlotShape (subitem name k)) (slot_texts (subitem name k)) (closing ∷ []) stopped old old new (entry_start rest old e) (entries_due (s + 1) ss) x

  named_collects : (v : ValueTree) (rest old new : Texts) → old ≡ name ∷ rest → IsRead (SlotShape (subitem name k)) (slot_texts (subitem name k)) v old new
      → Collects (EntriesShape s all) (EntriesShape (s + 1) ss) (entries_texts s all) (entries_texts (s + 1) ss) (entry_and s v) old new
  named_collects v rest old new e one =
      one_collected (EntriesShape s all) (EntriesShape (s + 1) ss) (entries_texts s all) (entries_texts (s + 1) ss) (SlotShape (subitem name k)) (slot_texts (subitem name k)) (entry_and s) v [] old old new (entry_start rest old e) (start_front rest old e)
      (λ es h g. pick s name k ss v es h g) (λ es h g. pick_texts s name k ss v es ∙ ap (λ x. name ∷ x) (sym (kind_more k v [] (entries_texts (s + 1) ss es)))) one

  unnamed_collects : (old new : Texts) → IsNotFirst (λ text. text ≡ name) old → new ≡ old → Collects (EntriesShape s all) (EntriesShape (s + 1) ss) (entries_texts s all) (entries_texts (s + 1) ss) (λ es. es) old new
  unnamed_collects old new n e =
      skip_collected (EntriesShape s all) (EntriesShape (s + 1) ss) (entries_texts s all) (entries_texts (s + 1) ss) name old new (λ es h. later_shape s name k ss es h) (λ es h. later_texts s name k ss es h)
      (λ t m. skip_back s name k ss t m.0 m.1 m.2) n e

-- ---- by any slot

nothing_there : (s : ℕ) (ss : SlotsTree) (stopped : Stopped) (old new : Texts) → old ≡ [] → new ≡ [] → Stops stopped (AreEntries s ss) old new
nothing_there s ss Bad old new e f = cut_stops (AreEntries s ss) (closing ∷ []) old new (entries_due s ss) (λ m. entries_some s ss m.0 m.1 m.2) e f
nothing_there s ss OutOfMemory old new e f = tt

-- the texts of a slot's value begin with its name
first_named : (name : List ℕ) (k : KindTree) (v : ValueTree) (old new : Texts) → old ≡ slot_texts (subitem name k) v ++ new → (rest : Texts) × (old ≡ name ∷ rest)
first_named name k v old new e = (kind_onto k v [] ++ new, e)

pub slot_lacks : (s : ℕ) (slot : SlotTree) (ss : SlotsTree) (stopped : Stopped) (old new : Texts) → SlotNamed slot → SlotLacks slot ss → ((old ≡ []) × (new ≡ [])) ⊎ (Stops stopped (Spelled (SlotShape slot) (slot_texts slot)) old new × IsNamedAt slot old)
    → Stops stopped (AreEntries s (slot_and slot ss)) old new
slot_lacks s slot ss stopped old new n l (inl e) = nothing_there s (slot_and slot ss) stopped old new e.0 e.1
slot_lacks s spare_slot ss stopped old new n l (inr x) = absurd x.1
slot_lacks s (subitem name k) ss stopped old new n l (inr x) = named_lacks s name k ss n l x.1.0 stopped old new x.1.1 x.0

pub slot_collects : (s : ℕ) (slot : SlotTree) (ss : SlotsTree) (v : ValueTree) (old new : Texts) → SlotNamed slot → SlotLacks slot ss → IsRead (SlotShape slot) (slot_texts slot) v old new
    → Collects (EntriesShape s (slot_and slot ss)) (EntriesShape (s + 1) ss) (entries_texts s (slot_and slot ss)) (entries_texts (s + 1) ss) (entry_and s v) old new
slot_collects s spare_slot ss v old new n l r = absurd r.shape
slot_collects s (subitem name k) ss v old new n l r = let f = first_named name k v old new r.split in named_collects s name k ss n l v f.0 old new f.1 r

pub slot_skips : (s : ℕ) (slot : SlotTree) (ss : SlotsTree) (old new : Texts) → SlotNamed slot → SlotLacks slot ss → (new ≡ old) × IsNotNamed slot old
    → Collects (EntriesShape s (slot_and slot ss)) (EntriesShape (s + 1) ss) (entries_texts s (slot_and slot ss)) (entries_texts (s + 1) ss) (λ es. es) old new
slot_skips s spare_slot ss old new n l x = none_collected (EntriesShape (s + 1) ss) (entries_texts (s + 1) ss) old new x.0
slot_skips s (subitem name k) ss old new n l x = unnamed_collects s name k ss n l old new x.1 x.0

-- ---- entries in front of others

abbrev pub entries_before : List Entry → EntriesTree → EntriesTree
entries_before [] es = es
entries_before (e ∷ made) es = entry_and (entry_tree e).0 (entry_tree e).1 (entries_before made es)

pub before_none : (made : List Entry) → entries_before made no_entries ≡ entries_tree made
before_none [] = refl
before_none (e ∷ made) = ap (entry_and (entry_tree e).0 (entry_tree e).1) (before_none made)

pub before_more : (made : List Entry) (e : Entry) (es : EntriesTree) → entries_before made (entry_and (entry_tree e).0 (entry_tree e).1 es) ≡ entries_before (made ++ e ∷ []) es
before_more [] e es = refl
before_more (x ∷ made) e es = ap (entry_and (entry_tree x).0 (entry_tree x).1) (before_more made e es)

pub entry_is : (s : ℕ) (v : Value) → entry_tree (roll-Entry (record { slot = s; value = v })) ≡ (s, value_tree v)
entry_is s v = fold-roll-Entry ValueTree (ℕ × ValueTree) value_step entry_step (record { slot = s; value = v })

-- ---- the loop over slots

-- of all slots the first were passed; the next one has the number s
pub record EntriesRead (all left : SlotsTree) (s : ℕ) (made : List Entry) (old now : Texts) : Type 0 where
  pub read : Collects (EntriesShape 1 all) (EntriesShape s left) (entries_texts 1 all) (entries_texts s left) (entries_before made) old now
  pub readable : SlotsReadable left

pub no_entry_read : (all : SlotsTree) (made : List Entry) (old now : Texts) → made ≡ [] → now ≡ old → SlotsReadable all → EntriesRead all all 1 made old now
no_entry_read all made old now e same r = subst (λ m. EntriesRead all all 1 m old now) (sym e) (record {
  read = same_put _ _ _ _ (λ es. es) (entries_before []) old now (λ es. refl) (none_collected (EntriesShape 1 all) (entries_texts 1 all) old now same);
  readable = r;
})

module _ (all left : SlotsTree) (s : ℕ) (slot : SlotTree) (ss : SlotsTree) (at : left ≡ slot_and slot ss) where
  pub slot_readable : (made : List Entry) (old now : Texts) → EntriesRead all left s made old now → SlotReadable slot
  slot_readable made old now r = let x : SlotsReadable (slot_and slot ss) = subst SlotsReadable at r.readable in x.1

  lacks_later : (made : List Entry) (old now : Texts) → EntriesRead all left s made old now → SlotLacks slot ss
  lacks_later made old now r = let x : SlotsReadable (slot_and slot ss) = subst SlotsReadable at r.readable in x.0

  pub entry_lacks : (made : List Entry) (stopped : Stopped) (old now new : Texts) → EntriesRead all left s made old now → SlotNamed slot → ((now ≡ []) × (new ≡ [])) ⊎ (Stops stopped (Spelled (SlotShape slot) (slot_texts slot)) now new × IsNamedAt slot now)
      → Stops stopped (AreEntries 1 all) old new
  entry_lacks made stopped old now new r n x =
      left_lacks (EntriesShape 1 all) (EntriesShape s left) (entries_texts 1 all) (entries_texts s left) (entries_before made) stopped old now new r.read
      (subst (λ z. Stops stopped (AreEntries s z) now new) (sym at) (slot_lacks s slot ss stopped now new n (lacks_later made old now r) x))

  pub entry_read : (made more : List Entry) (e : Entry) (v : ValueTree) (old now new : Texts) → EntriesRead all left s made old now → SlotNamed slot → IsRead (SlotShape slot) (slot_texts slot) v now new → entry_tree e ≡ (s, v) → more ≡ made ++ e ∷ []
      → EntriesRead all ss (s + 1) more old new
  entry_read made more e v old now new r n one is pushed =
      let step : Collects (EntriesShape s left) (EntriesShape (s + 1) ss) (entries_texts s left) (entries_texts (s + 1) ss) (entry_and s v) now new =
      subst (λ z. Collects (EntriesShape s z) (EntriesShape (s + 1) ss) (entries_texts s z) (entries_texts (s + 1) ss) (entry_and s v) now new) (sym at) (slot_collects s slot ss v now new n (lacks_later made old now r) one) in
      let x : SlotsReadable (slot_and slot ss) = subst SlotsReadable at r.readable in
      subst (λ m. EntriesRead all ss (s + 1) m old new) (sym pushed) (record {
        read = same_put _ _ _ _ (λ es. entries_before made (entry_and s v es)) (entries_before (made ++ e ∷ [])) old new (λ es. ap (λ (p : ℕ × ValueTree). entries_before made (entry_and p.0 p.1 es)) (sym is) ∙ before_more made e es)
            (more_collected (EntriesShape 1 all) (EntriesShape s left) (EntriesShape (s + 1) ss) (entries_texts 1 all) (entries_texts s left) (entries_texts (s + 1) ss) (entries_before made) (entry_and s v) old now new r.read step);
        readable = x.2;
      })

  pub entry_skipped : (made : List Entry) (old now new : Texts) → EntriesRead all left s made old now → SlotNamed slot → (new ≡ now) × IsNotNamed slot now → EntriesRead all ss (s + 1) made old new
  entry_skipped made old now new r n x =
      let step : Collects (EntriesShape s left) (EntriesShape (s + 1) ss) (entries_texts s left) (entries_texts (s + 1) ss) (λ es. es) now new =
      subst (λ z. Collects (EntriesShape s z) (EntriesShape (s + 1) ss) (entries_texts s z) (entries_texts (s + 1) ss) (λ es. es) now new) (sym at) (slot_skips s slot ss now new n (lacks_later made old now r) x) in
      let y : SlotsReadable (slot_and slot ss) = subst SlotsReadable at r.readable in
      record {
        read = more_collected (EntriesShape 1 all) (EntriesShape s left) (EntriesShape (s + 1) ss) (entries_texts 1 all) (entries_texts s left) (entries_texts (s + 1) ss) (entries_before made) (λ es. es) old now new r.read step;
        readable = y.2;
      }

end_back : (s : ℕ) (t : Texts) (es : EntriesTree) → EntriesShape s no_slots es → t ≡ entries_texts s no_slots es → t ≡ closing ∷ []
end_back s t no_entries h e = e
end_back s t (entry_and u v es) h e = absurd h

entries_close : (s : ℕ) → Closes (EntriesShape s no_slots) (entries_texts s no_slots) no_entries
entries_close s = record { shape = tt; texts = refl; some = λ m. no_text closing [] (end_back s [] m.0 m.1 m.2); only = λ t m. tails closing closing t [] (end_back s (closing ∷ t) m.0 m.1 m.2) }

pub close_lacks : (all left : SlotsTree) (s : ℕ) (made : List Entry) (stopped : Stopped) (old now new : Texts) → left ≡ no_slots → EntriesRead all left s made old now → Stops stopped (Word closing) now new → Stops stopped (AreEntries 1 all) old new
close_lacks all left s made stopped old now new e r x =
    left_lacks (EntriesShape 1 all) (EntriesShape s left) (entries_texts 1 all) (entries_texts s left) (entries_before made) stopped old now new r.read
    (subst (λ z. Stops stopped (AreEntries s z) now new) (sym e) (closing_lacks (EntriesShape s no_slots) (entries_texts s no_slots) no_entries stopped now new (entries_close s) (λ t m. end_back s t m.0 m.1 m.2) x))

pub entries_read : (all left : SlotsTree) (s : ℕ) (made : List Entry) (old now new : Texts) → left ≡ no_slots → EntriesRead all left s made old now → now ≡ closing ∷ new → IsRead (EntriesShape 1 all) (entries_texts 1 all) (entries_tree made) old new
entries_read all left s made old now new e r f =
    subst (λ es. IsRead (EntriesShape 1 all) (entries_texts 1 all) es old new) (before_none made)
    (all_collected (EntriesShape 1 all) (EntriesShape s left) (entries_texts 1 all) (entries_texts s left) (entries_before made) no_entries old now new r.read
    (subst (λ z. IsRead (EntriesShape s z) (entries_texts s z) no_entries now new) (sym e) (closing_read (EntriesShape s no_slots) (entries_texts s no_slots) no_entries now new (entries_close s) f)))

-- ---- the slots of a compound

pub ruleset entries_ways = no_entry_read
