-- Each way through the reader of a kind.
use Rattle.std.proofs.Common.{◌≡◌, ℕ, suc, ◌^◌, ◌<◌, List, [], ◌∷◌, ◌++◌, refl, sym, ◌∙◌, ap, subst, length, map, arith, lit<, Box, Global}
use Rattle.std.specs.List.{AllByRecursion}
use Rattle.ax_tokens.specs.Stopping.{Texts, Stops, IsNotFirst, Word}
use Rattle.ax_tokens.specs.declared.stopped.Stopped.{Stopped}
use Rattle.ax_format.proofs.VariantTrees.{fixed_kind_tree, extended_tree, counted_tree, by_fx_tree, explicit_tree, compound_tree, lists_value, repeat_value, marked_value}
use Rattle.ax_format.specs.Characters.{IsName}
use Rattle.ax_format.specs.Plain.{fixed_tree, part_tree, kind_tree, slot_tree, slots_tree, kind_step, slot_step, value_tree, values_tree, lists_tree, entries_tree}
use Rattle.ax_format.specs.Shape.{FixedShape, PartsShape, Shape, EntriesShape}
use Rattle.ax_format.specs.Tree.{MembersTree, KindTree, fixed, extended, counted, by_fx, explicit, compound, SlotTree, SlotsTree, spare_slot, subitem, ValueTree, part_values, occurrences, marked, no_values, value_and, no_lists, list_and}
use Rattle.ax_format.specs.declared.kind.Fixed.{Fixed}
use Rattle.ax_format.specs.Widths.{counter_width}
use Rattle.ax_format.specs.declared.kind.Counter.{Counter}
use Rattle.ax_format.specs.declared.kind.Counter.TheVariants.{One, Two}
use Rattle.ax_format.specs.declared.kind.Kind.{Kind}
use Rattle.ax_format.specs.declared.kind.Kind.TheOpen.{Slot-F}
use Rattle.ax_format.specs.declared.kind.Kind.TheVariants as KindOf
use Rattle.ax_format.specs.declared.kind.LastPart.{LastPart}
use Rattle.ax_format.specs.declared.kind.Part.{Part}
use Rattle.ax_format.specs.declared.kind.Slot.{Slot, fold-roll-Slot}
use Rattle.ax_format.specs.declared.kind.Slot.TheVariants.{Spare, Sub, rolls-Spare, rolls-Sub}
use Rattle.ax_format.specs.declared.value.Entry.{Entry}
use Rattle.ax_format.specs.declared.value.Value.{Value}
use Rattle.ax_format.specs.declared.value.Value.TheVariants as ValueOf
use Rattle.ax_text_form.specs.Readable.{FixedReadable, MembersReadable, Readable, SlotReadable, SlotsReadable}
use Rattle.ax_text_form.specs.Slots.{SlotShape}
use Rattle.ax_text_form.specs.ValueText.{opening, closing, fixed_onto, kind_onto}
use Rattle.ax_block_reader.specs.Continuing.{Spelled, IsRead}
use Rattle.ax_block_reader.specs.Entries.{slot_texts, SlotNamed, IsNotNamed, IsNamedAt}
use Rattle.ax_block_reader.specs.Languages.{fixed_texts, kind_texts, parts_texts, each_texts, FewerThan, SomeOf, entries_texts}
use Rattle.ax_block_reader.proofs.Continuations.{lacks_there, Prefixed, prefix_lacks, prefix_read}
use Rattle.ax_block_reader.proofs.Collecting.{prefix_is_read}
use Rattle.ax_block_reader.proofs.EntryWays.{entries_due}
use Rattle.ax_block_reader.proofs.FixedWays.{fixed_due, members_due}

abbrev AreKind : KindTree → Texts → Type 0
AreKind k = Spelled (Shape k) (kind_texts k)

-- ---- the trees of the code's variants

fixed_kind : (kind : Kind) (f : Fixed) → kind ≡ KindOf.Fixed f → kind_tree kind ≡ fixed (fixed_tree f)
fixed_kind kind f e = ap kind_tree e ∙ fixed_kind_tree f

extended_kind : (kind : Kind) (last : LastPart) (ps : List Part) → kind ≡ KindOf.Extended last ps → kind_tree kind ≡ extended last (map part_tree ps)
extended_kind kind last ps e = ap kind_tree e ∙ extended_tree last ps

counted_kind : (kind : Kind) (size : Counter) (inner : Box Kind Global) → kind ≡ KindOf.Counted size inner → kind_tree kind ≡ counted size (kind_tree inner.value)
counted_kind kind size inner e = ap kind_tree e ∙ counted_tree size inner

by_fx_kind : (kind : Kind) (f : Fixed) → kind ≡ KindOf.ByFx f → kind_tree kind ≡ by_fx (fixed_tree f)
by_fx_kind kind f e = ap kind_tree e ∙ by_fx_tree f

explicit_kind : (kind : Kind) → kind ≡ KindOf.Explicit → kind_tree kind ≡ explicit
explicit_kind kind e = ap kind_tree e ∙ explicit_tree

compound_kind : (kind : Kind) (slots : List Slot) → kind ≡ KindOf.Compound slots → kind_tree kind ≡ compound (slots_tree slots)
compound_kind kind slots e = ap kind_tree e ∙ compound_tree slots

-- under the names of the code
at_kind : (k j : KindTree) (v u : ValueTree) (old new : Texts) → k ≡ j → u ≡ v → IsRead (Shape j) (kind_texts j) v old new → IsRead (Shape k) (kind_texts k) u old new
at_kind k j v u old new e f r = subst (λ w. IsRead (Shape k) (kind_texts k) w old new) (sym f) (subst (λ z. IsRead (Shape z) (kind_texts z) v old new) (sym e) r)

lacks_at : (k j : KindTree) (stopped : Stopped) (old new : Texts) → k ≡ j → Stops stopped (AreKind j) old new → Stops stopped (AreKind k) old new
lacks_at k j stopped old new e s = subst (λ z. Stops stopped (AreKind z) old new) (sym e) s

-- ---- fixed and explicit kinds

pub fixed_way : (kind : Kind) (f : Fixed) (stopped : Stopped) (old new : Texts) → kind ≡ KindOf.Fixed f → Stops stopped (Spelled (FixedShape (fixed_tree f)) (fixed_texts (fixed_tree f))) old new → Stops stopped (AreKind (kind_tree kind)) old new
fixed_way kind f stopped old new e s = lacks_at (kind_tree kind) (fixed (fixed_tree f)) stopped old new (fixed_kind kind f e) s

pub fixed_is_read : (kind : Kind) (f : Fixed) (v : ValueTree) (old new : Texts) → kind ≡ KindOf.Fixed f → IsRead (FixedShape (fixed_tree f)) (fixed_texts (fixed_tree f)) v old new → IsRead (Shape (kind_tree kind)) (kind_texts (kind_tree kind)) v old new
fixed_is_read kind f v old new e r = at_kind (kind_tree kind) (fixed (fixed_tree f)) v v old new (fixed_kind kind f e) refl r

pub explicit_way : (kind : Kind) (stopped : Stopped) (old new : Texts) → kind ≡ KindOf.Explicit → Stops stopped (AreKind explicit) old new → Stops stopped (AreKind (kind_tree kind)) old new
explicit_way kind stopped old new e s = lacks_at (kind_tree kind) explicit stopped old new (explicit_kind kind e) s

pub explicit_is_read : (kind : Kind) (v : ValueTree) (old new : Texts) → kind ≡ KindOf.Explicit → IsRead (Shape explicit) (kind_texts explicit) v old new → IsRead (Shape (kind_tree kind)) (kind_texts (kind_tree kind)) v old new
explicit_is_read kind v old new e r = at_kind (kind_tree kind) explicit v v old new (explicit_kind kind e) refl r

-- ---- extended and closed kinds

abbrev AreParts : List MembersTree → Texts → Type 0
AreParts ps = Spelled (PartsShape ps) (parts_texts ps)

extended_back : (last : LastPart) (ps : List MembersTree) (t : Texts) (v : ValueTree) → Shape (extended last ps) v → t ≡ kind_texts (extended last ps) v → (rest : Texts) × (t ≡ opening ∷ rest) × AreParts ps rest
extended_back last ps t (part_values ls) h e = (parts_texts ps ls, e, (ls, h, refl))
extended_back last ps t v h e = absurd h

extended_prefixed : (last : LastPart) (ps : List MembersTree) → Prefixed opening (AreParts ps) (AreKind (extended last ps))
extended_prefixed last ps = record { put = λ t m. (part_values m.0, m.1, ap (λ x. opening ∷ x) m.2); taken = λ t m. extended_back last ps t m.0 m.1 m.2 }

-- the first part, with numbers that are 0
parts_due : (ps : List MembersTree) → 0 < length ps → (t : Texts) × AreParts ps t
parts_due [] lt = absurd (omega (arith, lt))
parts_due (p ∷ ps) lt = let d = members_due p in (parts_texts (p ∷ ps) (list_and d.0 no_lists), (list_and d.0 no_lists, d.1, refl))

pub readable_parts : (kind : Kind) (last : LastPart) (ps : List Part) → kind ≡ KindOf.Extended last ps → Readable (kind_tree kind) → AllByRecursion MembersReadable (map part_tree ps)
readable_parts kind last ps e r = let x : Readable (extended last (map part_tree ps)) = subst Readable (extended_kind kind last ps e) r in x.0

counted_parts : (ps : List Part) → length (map part_tree ps) ≡ length ps
counted_parts [] = refl
counted_parts (p ∷ ps) = ap suc (counted_parts ps)

some_parts : (kind : Kind) (last : LastPart) (ps : List Part) → kind ≡ KindOf.Extended last ps → Readable (kind_tree kind) → 0 < length (map part_tree ps)
some_parts kind last ps e r = let x : Readable (extended last (map part_tree ps)) = subst Readable (extended_kind kind last ps e) r in x.1

pub parts_there : (kind : Kind) (last : LastPart) (ps : List Part) → kind ≡ KindOf.Extended last ps → Readable (kind_tree kind) → 0 < length ps
parts_there kind last ps e r = omega (arith, some_parts kind last ps e r, counted_parts ps)

pub extended_open : (kind : Kind) (last : LastPart) (ps : List Part) (stopped : Stopped) (old new : Texts) → kind ≡ KindOf.Extended last ps → Readable (kind_tree kind) → Stops stopped (Word opening) old new → Stops stopped (AreKind (kind_tree kind)) old new
extended_open kind last ps stopped old new e r s =
    let k = extended last (map part_tree ps) in
    let d = parts_due (map part_tree ps) (some_parts kind last ps e r) in
    lacks_at (kind_tree kind) k stopped old new (extended_kind kind last ps e) (prefix_lacks opening (AreParts (map part_tree ps)) (AreKind k) d.0 stopped old new (extended_prefixed last (map part_tree ps)) d.1 s)

pub extended_inside : (kind : Kind) (last : LastPart) (ps : List Part) (stopped : Stopped) (old mid new : Texts) → kind ≡ KindOf.Extended last ps → old ≡ (opening ∷ []) ++ mid → Stops stopped (AreParts (map part_tree ps)) mid new → Stops stopped (AreKind (kind_tree kind)) old new
extended_inside kind last ps stopped old mid new e h s =
    let k = extended last (map part_tree ps) in
    lacks_at (kind_tree kind) k stopped old new (extended_kind kind last ps e)
    (lacks_there (AreKind k) (AreParts (map part_tree ps)) stopped old mid new (prefix_read opening (AreParts (map part_tree ps)) (AreKind k) old mid (extended_prefixed last (map part_tree ps)) h) s)

pub extended_is_read : (kind : Kind) (last : LastPart) (ps : List Part) (ls : List (List Value)) (old mid new : Texts) → kind ≡ KindOf.Extended last ps → old ≡ (opening ∷ []) ++ mid → IsRead (PartsShape (map part_tree ps)) (parts_texts (map part_tree ps)) (lists_tree ls) mid new
    → IsRead (Shape (kind_tree kind)) (kind_texts (kind_tree kind)) (value_tree (ValueOf.Extended ls)) old new
extended_is_read kind last ps ls old mid new e h r =
    let k = extended last (map part_tree ps) in
    at_kind (kind_tree kind) k (part_values (lists_tree ls)) (value_tree (ValueOf.Extended ls)) old new (extended_kind kind last ps e) (lists_value ls)
    (prefix_is_read opening (Shape k) (kind_texts k) (PartsShape (map part_tree ps)) (parts_texts (map part_tree ps)) (part_values (lists_tree ls)) (lists_tree ls) old mid new (extended_prefixed last (map part_tree ps)) r.shape refl h r)

-- ---- counted and wide kinds

abbrev AreCounted : Counter → KindTree → Texts → Type 0
AreCounted size k = Spelled (FewerThan (2 ^ counter_width size) (Shape k)) (each_texts (kind_onto k))

counted_back : (size : Counter) (k : KindTree) (t : Texts) (v : ValueTree) → Shape (counted size k) v → t ≡ kind_texts (counted size k) v → (rest : Texts) × (t ≡ opening ∷ rest) × AreCounted size k rest
counted_back size k t (occurrences vs) h e = (each_texts (kind_onto k) vs, e, (vs, h, refl))
counted_back size k t v h e = absurd h

counted_prefixed : (size : Counter) (k : KindTree) → Prefixed opening (AreCounted size k) (AreKind (counted size k))
counted_prefixed size k = record { put = λ t m. (occurrences m.0, m.1, ap (λ x. opening ∷ x) m.2); taken = λ t m. counted_back size k t m.0 m.1 m.2 }

none_counted : (size : Counter) (k : KindTree) → AreCounted size k (closing ∷ [])
none_counted One k = (no_values, (lit< tt, tt), refl)
none_counted Two k = (no_values, (lit< tt, tt), refl)

pub counted_open : (kind : Kind) (size : Counter) (inner : Box Kind Global) (stopped : Stopped) (old new : Texts) → kind ≡ KindOf.Counted size inner → Stops stopped (Word opening) old new → Stops stopped (AreKind (kind_tree kind)) old new
counted_open kind size inner stopped old new e s =
    let k = kind_tree inner.value in
    lacks_at (kind_tree kind) (counted size k) stopped old new (counted_kind kind size inner e) (prefix_lacks opening (AreCounted size k) (AreKind (counted size k)) (closing ∷ []) stopped old new (counted_prefixed size k) (none_counted size k) s)

pub counted_inside : (kind held : Kind) (size : Counter) (inner : Box Kind Global) (stopped : Stopped) (old mid new : Texts) → kind ≡ KindOf.Counted size inner → held ≡ inner.value → old ≡ (opening ∷ []) ++ mid → Stops stopped (AreCounted size (kind_tree held)) mid new
    → Stops stopped (AreKind (kind_tree kind)) old new
counted_inside kind held size inner stopped old mid new e same h s =
    let k = kind_tree inner.value in
    lacks_at (kind_tree kind) (counted size k) stopped old new (counted_kind kind size inner e)
    (lacks_there (AreKind (counted size k)) (AreCounted size k) stopped old mid new (prefix_read opening (AreCounted size k) (AreKind (counted size k)) old mid (counted_prefixed size k) h) (subst (λ z. Stops stopped (AreCounted size (kind_tree z)) mid new) same s))

pub counted_is_read : (kind held : Kind) (size : Counter) (inner : Box Kind Global) (vs : List Value) (old mid new : Texts) → kind ≡ KindOf.Counted size inner → held ≡ inner.value → old ≡ (opening ∷ []) ++ mid
    → IsRead (FewerThan (2 ^ counter_width size) (Shape (kind_tree held))) (each_texts (kind_onto (kind_tree held))) (values_tree vs) mid new → IsRead (Shape (kind_tree kind)) (kind_texts (kind_tree kind)) (value_tree (ValueOf.Repeat vs)) old new
counted_is_read kind held size inner vs old mid new e same h r =
    let k = kind_tree inner.value in
    let Few = FewerThan (2 ^ counter_width size) in
    let one : IsRead (Few (Shape k)) (each_texts (kind_onto k)) (values_tree vs) mid new = subst (λ z. IsRead (Few (Shape (kind_tree z))) (each_texts (kind_onto (kind_tree z))) (values_tree vs) mid new) same r in
    at_kind (kind_tree kind) (counted size k) (occurrences (values_tree vs)) (value_tree (ValueOf.Repeat vs)) old new (counted_kind kind size inner e) (repeat_value vs)
    (prefix_is_read opening (Shape (counted size k)) (kind_texts (counted size k)) (Few (Shape k)) (each_texts (kind_onto k)) (occurrences (values_tree vs)) (values_tree vs) old mid new (counted_prefixed size k) one.shape refl h one)

pub readable_counted : (kind held : Kind) (size : Counter) (inner : Box Kind Global) → kind ≡ KindOf.Counted size inner → held ≡ inner.value → Readable (kind_tree kind) → Readable (kind_tree held)
readable_counted kind held size inner e same r = subst (λ z. Readable (kind_tree z)) (sym same) (let x : Readable (counted size (kind_tree inner.value)) = subst Readable (counted_kind kind size inner e) r in x)

-- ---- kinds that repeat by FX

abbrev AreRun : Fixed → Texts → Type 0
AreRun f = Spelled (SomeOf (FixedShape (fixed_tree f))) (each_texts (fixed_onto (fixed_tree f)))

run_back : (f : Fixed) (t : Texts) (v : ValueTree) → Shape (by_fx (fixed_tree f)) v → t ≡ kind_texts (by_fx (fixed_tree f)) v → (rest : Texts) × (t ≡ opening ∷ rest) × AreRun f rest
run_back f t (occurrences vs) h e = (each_texts (fixed_onto (fixed_tree f)) vs, e, (vs, h, refl))
run_back f t v h e = absurd h

run_prefixed : (f : Fixed) → Prefixed opening (AreRun f) (AreKind (by_fx (fixed_tree f)))
run_prefixed f = record { put = λ t m. (occurrences m.0, m.1, ap (λ x. opening ∷ x) m.2); taken = λ t m. run_back f t m.0 m.1 m.2 }

-- one value, with numbers that are 0
run_due : (f : Fixed) → (t : Texts) × AreRun f t
run_due f = let d = fixed_due (fixed_tree f) in (each_texts (fixed_onto (fixed_tree f)) (value_and d.0 no_values), (value_and d.0 no_values, (omega arith, (d.1, tt)), refl))

pub run_open : (kind : Kind) (f : Fixed) (stopped : Stopped) (old new : Texts) → kind ≡ KindOf.ByFx f → Stops stopped (Word opening) old new → Stops stopped (AreKind (kind_tree kind)) old new
run_open kind f stopped old new e s =
    let d = run_due f in
    lacks_at (kind_tree kind) (by_fx (fixed_tree f)) stopped old new (by_fx_kind kind f e) (prefix_lacks opening (AreRun f) (AreKind (by_fx (fixed_tree f))) d.0 stopped old new (run_prefixed f) d.1 s)

pub run_inside : (kind : Kind) (f : Fixed) (stopped : Stopped) (old mid new : Texts) → kind ≡ KindOf.ByFx f → old ≡ (opening ∷ []) ++ mid → Stops stopped (AreRun f) mid new → Stops stopped (AreKind (kind_tree kind)) old new
run_inside kind f stopped old mid new e h s =
    lacks_at (kind_tree kind) (by_fx (fixed_tree f)) stopped old new (by_fx_kind kind f e)
    (lacks_there (AreKind (by_fx (fixed_tree f))) (AreRun f) stopped old mid new (prefix_read opening (AreRun f) (AreKind (by_fx (fixed_tree f))) old mid (run_prefixed f) h) s)

pub run_is_read : (kind : Kind) (f : Fixed) (vs : List Value) (old mid new : Texts) → kind ≡ KindOf.ByFx f → old ≡ (opening ∷ []) ++ mid → IsRead (SomeOf (FixedShape (fixed_tree f))) (each_texts (fixed_onto (fixed_tree f))) (values_tree vs) mid new
    → IsRead (Shape (kind_tree kind)) (kind_texts (kind_tree kind)) (value_tree (ValueOf.Repeat vs)) old new
run_is_read kind f vs old mid new e h r =
    let k = by_fx (fixed_tree f) in
    at_kind (kind_tree kind) k (occurrences (values_tree vs)) (value_tree (ValueOf.Repeat vs)) old new (by_fx_kind kind f e) (repeat_value vs)
    (prefix_is_read opening (Shape k) (kind_texts k) (SomeOf (FixedShape (fixed_tree f))) (each_texts (fixed_onto (fixed_tree f))) (occurrences (values_tree vs)) (values_tree vs) old mid new (run_prefixed f) r.shape refl h r)

pub readable_run : (kind : Kind) (f : Fixed) → kind ≡ KindOf.ByFx f → Readable (kind_tree kind) → FixedReadable (fixed_tree f)
readable_run kind f e r = subst Readable (by_fx_kind kind f e) r

pub readable_fixed : (kind : Kind) (f : Fixed) → kind ≡ KindOf.Fixed f → Readable (kind_tree kind) → FixedReadable (fixed_tree f)
readable_fixed kind f e r = subst Readable (fixed_kind kind f e) r

-- ---- compounds

abbrev AreEntries : SlotsTree → Texts → Type 0
AreEntries ss = Spelled (EntriesShape 1 ss) (entries_texts 1 ss)

compound_back : (ss : SlotsTree) (t : Texts) (v : ValueTree) → Shape (compound ss) v → t ≡ kind_texts (compound ss) v → (rest : Texts) × (t ≡ opening ∷ rest) × AreEntries ss rest
compound_back ss t (marked es) h e = (entries_texts 1 ss es, e, (es, h, refl))
compound_back ss t v h e = absurd h

compound_prefixed : (ss : SlotsTree) → Prefixed opening (AreEntries ss) (AreKind (compound ss))
compound_prefixed ss = record { put = λ t m. (marked m.0, m.1, ap (λ x. opening ∷ x) m.2); taken = λ t m. compound_back ss t m.0 m.1 m.2 }

pub compound_open : (kind : Kind) (slots : List Slot) (stopped : Stopped) (old new : Texts) → kind ≡ KindOf.Compound slots → Stops stopped (Word opening) old new → Stops stopped (AreKind (kind_tree kind)) old new
compound_open kind slots stopped old new e s =
    let ss = slots_tree slots in
    lacks_at (kind_tree kind) (compound ss) stopped old new (compound_kind kind slots e) (prefix_lacks opening (AreEntries ss) (AreKind (compound ss)) (closing ∷ []) stopped old new (compound_prefixed ss) (entries_due 1 ss) s)

pub compound_inside : (kind : Kind) (slots : List Slot) (stopped : Stopped) (old mid new : Texts) → kind ≡ KindOf.Compound slots → old ≡ (opening ∷ []) ++ mid → Stops stopped (AreEntries (slots_tree slots)) mid new → Stops stopped (AreKind (kind_tree kind)) old new
compound_inside kind slots stopped old mid new e h s =
    let ss = slots_tree slots in
    lacks_at (kind_tree kind) (compound ss) stopped old new (compound_kind kind slots e) (lacks_there (AreKind (compound ss)) (AreEntries ss) stopped old mid new (prefix_read opening (AreEntries ss) (AreKind (compound ss)) old mid (compound_prefixed ss) h) s)

pub compound_is_read : (kind : Kind) (slots : List Slot) (es : List Entry) (old mid new : Texts) → kind ≡ KindOf.Compound slots → old ≡ (opening ∷ []) ++ mid → IsRead (EntriesShape 1 (slots_tree slots)) (entries_texts 1 (slots_tree slots)) (entries_tree es) mid new
    → IsRead (Shape (kind_tree kind)) (kind_texts (kind_tree kind)) (value_tree (ValueOf.Compound es)) old new
compound_is_read kind slots es old mid new e h r =
    let ss = slots_tree slots in
    at_kind (kind_tree kind) (compound ss) (marked (entries_tree es)) (value_tree (ValueOf.Compound es)) old new (compound_kind kind slots e) (marked_value es)
    (prefix_is_read opening (Shape (compound ss)) (kind_texts (compound ss)) (EntriesShape 1 ss) (entries_texts 1 ss) (marked (entries_tree es)) (entries_tree es) old mid new (compound_prefixed ss) r.shape refl h r)

pub readable_compound : (kind : Kind) (slots : List Slot) → kind ≡ KindOf.Compound slots → Readable (kind_tree kind) → SlotsReadable (slots_tree slots)
readable_compound kind slots e r = let x : Readable (compound (slots_tree slots)) = subst Readable (compound_kind kind slots e) r in x.1

pub ruleset kind_ways = (fixed_way, explicit_way, readable_fixed, readable_parts, parts_there, extended_open, extended_inside, counted_open, counted_inside, readable_counted, run_open, run_inside, readable_run, compound_open, compound_inside, readable_compound)

-- ---- a slot

spare_tree : (slot : Slot) → slot ≡ Spare → slot_tree slot ≡ spare_slot
spare_tree slot e = ap slot_tree e ∙ ap slot_tree (sym rolls-Spare) ∙ fold-roll-Slot KindTree SlotTree kind_step slot_step Slot-F.Spare

sub_tree : (slot : Slot) (name : List ℕ) (k : Kind) → slot ≡ Sub name k → slot_tree slot ≡ subitem name (kind_tree k)
sub_tree slot name k e = ap slot_tree e ∙ ap slot_tree (sym (rolls-Sub name k)) ∙ fold-roll-Slot KindTree SlotTree kind_step slot_step (Slot-F.Sub name k)

pub spare_named : (slot : Slot) → slot ≡ Spare → SlotNamed (slot_tree slot)
spare_named slot e = subst SlotNamed (sym (spare_tree slot e)) tt

pub spare_skipped : (slot : Slot) (texts : Texts) → slot ≡ Spare → IsNotNamed (slot_tree slot) texts
spare_skipped slot texts e = subst (λ s. IsNotNamed s texts) (sym (spare_tree slot e)) tt

pub sub_named : (slot : Slot) (name : List ℕ) (k : Kind) → slot ≡ Sub name k → IsName name → SlotNamed (slot_tree slot)
sub_named slot name k e n = subst SlotNamed (sym (sub_tree slot name k e)) n

pub sub_readable : (slot : Slot) (name : List ℕ) (k : Kind) → slot ≡ Sub name k → SlotReadable (slot_tree slot) → Readable (kind_tree k)
sub_readable slot name k e r = subst SlotReadable (sub_tree slot name k e) r

pub sub_skipped : (slot : Slot) (name word : List ℕ) (k : Kind) (texts : Texts) → slot ≡ Sub name k → word ≡ name → IsNotFirst (λ text. text ≡ word) texts → IsNotNamed (slot_tree slot) texts
sub_skipped slot name word k texts e same n = subst (λ s. IsNotNamed s texts) (sym (sub_tree slot name k e)) (subst (λ w. IsNotFirst (λ text. text ≡ w) texts) same n)

slot_prefixed : (name : List ℕ) (k : KindTree) → Prefixed name (AreKind k) (Spelled (SlotShape (subitem name k)) (slot_texts (subitem name k)))
slot_prefixed name k = record { put = λ t m. (m.0, m.1, ap (λ x. name ∷ x) m.2); taken = λ t m. (kind_texts k m.0, m.2, (m.0, m.1, refl)) }

pub slot_way : (slot : SlotTree) (name : List ℕ) (k : KindTree) (stopped : Stopped) (old mid new : Texts) → slot ≡ subitem name k → old ≡ name ∷ mid → Stops stopped (AreKind k) mid new → Stops stopped (Spelled (SlotShape slot) (slot_texts slot)) old new × IsNamedAt slot old
slot_way slot name k stopped old mid new e h s =
    subst (λ z. Stops stopped (Spelled (SlotShape z) (slot_texts z)) old new × IsNamedAt z old) (sym e)
    (lacks_there (Spelled (SlotShape (subitem name k)) (slot_texts (subitem name k))) (AreKind k) stopped old mid new (prefix_read name (AreKind k) (Spelled (SlotShape (subitem name k)) (slot_texts (subitem name k))) old mid (slot_prefixed name k) h) s, (mid, h))

pub slot_is_read : (slot : SlotTree) (name : List ℕ) (k : KindTree) (v : ValueTree) (old mid new : Texts) → slot ≡ subitem name k → old ≡ name ∷ mid → IsRead (Shape k) (kind_texts k) v mid new → IsRead (SlotShape slot) (slot_texts slot) v old new
slot_is_read slot name k v old mid new e h r =
    subst (λ z. IsRead (SlotShape z) (slot_texts z) v old new) (sym e)
    (prefix_is_read name (SlotShape (subitem name k)) (slot_texts (subitem name k)) (Shape k) (kind_texts k) v v old mid new (slot_prefixed name k) r.shape refl h r)

pub sub_way : (slot : Slot) (name word : List ℕ) (k : Kind) (stopped : Stopped) (old mid new : Texts) → slot ≡ Sub name k → word ≡ name → old ≡ word ∷ mid → Stops stopped (AreKind (kind_tree k)) mid new
    → Stops stopped (Spelled (SlotShape (slot_tree slot)) (slot_texts (slot_tree slot))) old new × IsNamedAt (slot_tree slot) old
sub_way slot name word k stopped old mid new e same h s = slot_way (slot_tree slot) name (kind_tree k) stopped old mid new (sub_tree slot name k e) (h ∙ ap (λ w. w ∷ mid) same) s

pub sub_is_read : (slot : Slot) (name word : List ℕ) (k : Kind) (v : ValueTree) (old mid new : Texts) → slot ≡ Sub name k → word ≡ name → old ≡ word ∷ mid → IsRead (Shape (kind_tree k)) (kind_texts (kind_tree k)) v mid new → IsRead (SlotShape (slot_tree slot)) (slot_texts (slot_tree slot)) v old new
sub_is_read slot name word k v old mid new e same h r = slot_is_read (slot_tree slot) name (kind_tree k) v old mid new (sub_tree slot name k e) (h ∙ ap (λ w. w ∷ mid) same) r

pub ruleset slot_ways = (spare_named, spare_skipped, sub_named, sub_readable, sub_skipped)
