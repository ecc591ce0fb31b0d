-- Values of kinds that are built.
use Rattle.std.proofs.Common.{◌≡◌, ℕ, suc, ◌+◌, ◌^◌, ◌<◌, ◌≤◌, true, Bool, List, [], ◌∷◌, ◌++◌, length, map, refl, sym, ◌∙◌, ap, subst, arith, Box, Global}
use Rattle.ax_bits.specs.Bits.{word}
use Rattle.ax_printed_lines.specs.Laid.{Lays, Leaves, Fills}
use Rattle.ax_printed_lines.specs.declared.laid.LaidBits.{LaidBits}
use Rattle.ax_text_form.proofs.Onto.{kind_more}
use Rattle.ax_fspec.specs.Fields.{least_field}
use Rattle.ax_format.specs.Canonical.{canon, fixed_canon, parts_canon, run_canon, each_canon, entries_canon}
use Rattle.ax_format.specs.InBounds.{FixedInBounds, PartsInBounds, InBounds, SlotsInBounds}
use Rattle.ax_format.specs.Plain.{fixed_tree}
use Rattle.ax_text_lines.specs.HeldText.{kind_step, slot_step, text_kind, text_part, text_slot, text_slots}
use Rattle.ax_text_lines.specs.declared.drafting.TextFixed.{TextFixed}
use Rattle.ax_text_lines.specs.declared.drafting.TextPart.{TextPart}
use Rattle.ax_text_lines.specs.declared.held.TextKind.{TextKind, fold-roll-TextKind}
use Rattle.ax_text_lines.specs.declared.held.TextKind.TheOpen.{TextKind-F, TextSlot-F}
use Rattle.ax_text_lines.specs.declared.held.TextKind.TheVariants as KindOf
use Rattle.ax_text_lines.specs.declared.held.TextKind.TheVariants.{rolls-Fixed, rolls-Extended, rolls-Counted, rolls-ByFx, rolls-Explicit, rolls-Compound}
use Rattle.ax_text_lines.specs.declared.held.TextSlot.{TextSlot, fold-roll-TextSlot}
use Rattle.ax_text_lines.specs.declared.held.TextSlot.TheVariants as SlotOf
use Rattle.ax_text_lines.specs.declared.held.TextSlot.TheVariants.{rolls-Named, rolls-Sub}
use Rattle.ax_text_lines.specs.declared.named.TextNamed.{TextNamed}
use Rattle.ax_format.specs.Shape.{FixedShape, PartsShape, Shape, EachShape, EntriesShape}
use Rattle.ax_format.specs.Tree.{KindTree, fixed, extended, counted, by_fx, explicit, compound, SlotTree, SlotsTree, no_slots, slot_and, subitem, part_values, occurrences, marked, ValuesTree, no_values, value_and, value_count}
use Rattle.ax_format.specs.Widths.{counter_width, counter_octets}
use Rattle.ax_format.specs.declared.kind.Counter.{Counter}
use Rattle.ax_format.specs.declared.kind.LastPart.{LastPart}
use Rattle.ax_text_form.specs.Slots.{SlotShape, slot_onto}
use Rattle.ax_text_form.specs.ValueText.{opening, closing, fixed_onto, parts_onto, each_onto, kind_onto, entries_onto}
use Rattle.ax_printed_lines.specs.Printed.{Place, Goes, IsBuilt, AreSlots, BuildsSlot, HasMarks, slot_canon}
use Rattle.ax_printed_lines.proofs.Building.{built_after, built_as, Partly, partly_first, partly_more, partly_done, built_bare}
use Rattle.ax_printed_lines.proofs.FixedBuilt.{FixedIsBuilt}
use Rattle.ax_printed_lines.proofs.Going.{less_left}
use Rattle.ax_printed_lines.proofs.Room.{left_filled}
use Rattle.ax_printed_lines.proofs.ListsBuilt.{SomeFixed, PartsAreBuilt, RunIsBuilt}

-- ---- the trees of the code's variants

fixed_kind : (kind : TextKind) (f : TextFixed) → kind ≡ KindOf.Fixed f → text_kind kind ≡ fixed (fixed_tree f.fixed.now)
fixed_kind kind f e = ap text_kind (e ∙ sym (rolls-Fixed f)) ∙ fold-roll-TextKind KindTree SlotTree kind_step slot_step (TextKind-F.Fixed f)

extended_kind : (kind : TextKind) (last : LastPart) (ps : List TextPart) → kind ≡ KindOf.Extended last ps → text_kind kind ≡ extended last (map text_part ps)
extended_kind kind last ps e = ap text_kind (e ∙ sym (rolls-Extended last ps)) ∙ fold-roll-TextKind KindTree SlotTree kind_step slot_step (TextKind-F.Extended last ps)

counted_kind : (kind : TextKind) (size : Counter) (inner : Box TextKind Global) → kind ≡ KindOf.Counted size inner → text_kind kind ≡ counted size (text_kind inner.value)
counted_kind kind size inner e = ap text_kind (e ∙ sym (rolls-Counted size inner)) ∙ fold-roll-TextKind KindTree SlotTree kind_step slot_step (TextKind-F.Counted size inner)

by_fx_kind : (kind : TextKind) (f : TextFixed) → kind ≡ KindOf.ByFx f → text_kind kind ≡ by_fx (fixed_tree f.fixed.now)
by_fx_kind kind f e = ap text_kind (e ∙ sym (rolls-ByFx f)) ∙ fold-roll-TextKind KindTree SlotTree kind_step slot_step (TextKind-F.ByFx f)

explicit_kind : (kind : TextKind) → kind ≡ KindOf.Explicit → text_kind kind ≡ explicit
explicit_kind kind e = ap text_kind (e ∙ sym rolls-Explicit) ∙ fold-roll-TextKind KindTree SlotTree kind_step slot_step TextKind-F.Explicit

compound_kind : (kind : TextKind) (slots : List TextSlot) → kind ≡ KindOf.Compound slots → text_kind kind ≡ compound (text_slots slots)
compound_kind kind slots e = ap text_kind (e ∙ sym (rolls-Compound slots)) ∙ fold-roll-TextKind KindTree SlotTree kind_step slot_step (TextKind-F.Compound slots)

sub_slot : (slot : TextSlot) (name : List ℕ) (k : TextKind) → slot ≡ SlotOf.Sub name k → text_slot slot ≡ subitem name (text_kind k)
sub_slot slot name k e = ap text_slot (e ∙ sym (rolls-Sub name k)) ∙ fold-roll-TextSlot KindTree SlotTree kind_step slot_step (TextSlot-F.Sub name k)

held_slot : (slot : TextSlot) (held : TextNamed) → slot ≡ SlotOf.Named held → text_slot slot ≡ subitem held.name (fixed (fixed_tree held.fixed.now))
held_slot slot held e = ap text_slot (e ∙ sym (rolls-Named held)) ∙ fold-roll-TextSlot KindTree SlotTree kind_step slot_step (TextSlot-F.Named held)

-- ---- a value of a kind

abbrev pub KindIsBuilt : KindTree → Place → Place → LaidBits → LaidBits → Type 0
KindIsBuilt k old new before after = IsBuilt (Shape k) (λ v. kind_onto k v []) (canon k) old new before after

pub fixed_bounds : (kind : TextKind) (f : TextFixed) → kind ≡ KindOf.Fixed f → InBounds (text_kind kind) → FixedInBounds (fixed_tree f.fixed.now)
fixed_bounds kind f e h = let x : InBounds (fixed (fixed_tree f.fixed.now)) = subst InBounds (fixed_kind kind f e) h in x.2

pub fixed_of_kind : (kind : TextKind) (f : TextFixed) (old new : Place) (before after : LaidBits) → kind ≡ KindOf.Fixed f → FixedIsBuilt (fixed_tree f.fixed.now) old new before after → KindIsBuilt (text_kind kind) old new before after
fixed_of_kind kind f old new before after e b =
    subst (λ k. KindIsBuilt k old new before after) (sym (fixed_kind kind f e))
    (built_as (FixedShape (fixed_tree f.fixed.now)) (λ v. fixed_onto (fixed_tree f.fixed.now) v []) (fixed_canon (fixed_tree f.fixed.now)) (Shape (fixed (fixed_tree f.fixed.now))) (λ v. kind_onto (fixed (fixed_tree f.fixed.now)) v []) (canon (fixed (fixed_tree f.fixed.now))) old new before after b (λ v h. (v, h, refl, refl)))

pub explicit_of_kind : (kind : TextKind) (old new : Place) (before after : LaidBits) → kind ≡ KindOf.Explicit → KindIsBuilt explicit old new before after → KindIsBuilt (text_kind kind) old new before after
explicit_of_kind kind old new before after e b = subst (λ k. KindIsBuilt k old new before after) (sym (explicit_kind kind e)) b

pub parts_bounds : (kind : TextKind) (last : LastPart) (ps : List TextPart) → kind ≡ KindOf.Extended last ps → InBounds (text_kind kind) → PartsInBounds last (map text_part ps)
parts_bounds kind last ps e h = let x : InBounds (extended last (map text_part ps)) = subst InBounds (extended_kind kind last ps e) h in x.1

pub extended_of_kind : (kind : TextKind) (last : LastPart) (ps : List TextPart) (old mid new : Place) (before after : LaidBits) → kind ≡ KindOf.Extended last ps → Goes old mid (opening ∷ []) → PartsAreBuilt last (map text_part ps) mid new before after → KindIsBuilt (text_kind kind) old new before after
extended_of_kind kind last list old mid new before after e g b =
    let ps = map text_part list in
    let k = extended last ps in
    subst (λ k. KindIsBuilt k old new before after) (sym (extended_kind kind last list e))
    (built_after (PartsShape ps) (λ ls. parts_onto ps ls (closing ∷ [])) (parts_canon last ps) (Shape k) (λ v. kind_onto k v []) (canon k) (opening ∷ []) old mid new before after g b (λ ls h. (part_values ls, h, refl, refl)))

-- the values of a counted or wide item
abbrev pub FewValues : Counter → KindTree → ValuesTree → Type 0
FewValues size k vs = (value_count vs < 2 ^ counter_width size) × EachShape (Shape k) vs

abbrev pub CountedIsBuilt : Counter → KindTree → Place → Place → LaidBits → LaidBits → Type 0
CountedIsBuilt size k old new before after = IsBuilt (FewValues size k) (λ vs. each_onto (kind_onto k) vs (closing ∷ [])) (λ vs. canon (counted size k) (occurrences vs)) old new before after

pub counted_bounds : (kind : TextKind) (size : Counter) (inner : Box TextKind Global) → kind ≡ KindOf.Counted size inner → InBounds (text_kind kind) → InBounds (text_kind inner.value)
counted_bounds kind size inner e h = subst InBounds (counted_kind kind size inner e) h

pub counted_of_kind : (kind : TextKind) (size : Counter) (inner : Box TextKind Global) (old mid new : Place) (before after : LaidBits) → kind ≡ KindOf.Counted size inner → Goes old mid (opening ∷ []) → CountedIsBuilt size (text_kind inner.value) mid new before after → KindIsBuilt (text_kind kind) old new before after
counted_of_kind kind size inner old mid new before after e g b =
    let k = text_kind inner.value in
    let whole = counted size k in
    subst (λ k. KindIsBuilt k old new before after) (sym (counted_kind kind size inner e))
    (built_after (FewValues size k) (λ vs. each_onto (kind_onto k) vs (closing ∷ [])) (λ vs. canon whole (occurrences vs)) (Shape whole) (λ v. kind_onto whole v []) (canon whole) (opening ∷ []) old mid new before after g b (λ vs h. (occurrences vs, h, refl, refl)))

pub by_fx_bounds : (kind : TextKind) (f : TextFixed) → kind ≡ KindOf.ByFx f → InBounds (text_kind kind) → FixedInBounds (fixed_tree f.fixed.now)
by_fx_bounds kind f e h = let x : InBounds (by_fx (fixed_tree f.fixed.now)) = subst InBounds (by_fx_kind kind f e) h in x.2

pub by_fx_of_kind : (kind : TextKind) (f : TextFixed) (old mid new : Place) (before after : LaidBits) → kind ≡ KindOf.ByFx f → Goes old mid (opening ∷ []) → RunIsBuilt (fixed_tree f.fixed.now) mid new before after → KindIsBuilt (text_kind kind) old new before after
by_fx_of_kind kind fx old mid new before after e g b =
    let f = fixed_tree fx.fixed.now in
    subst (λ k. KindIsBuilt k old new before after) (sym (by_fx_kind kind fx e))
    (built_after (SomeFixed f) (λ vs. each_onto (fixed_onto f) vs (closing ∷ [])) (run_canon f) (Shape (by_fx f)) (λ v. kind_onto (by_fx f) v []) (canon (by_fx f)) (opening ∷ []) old mid new before after g b (λ vs h. (occurrences vs, h, refl, refl)))

-- the entries of a compound
abbrev pub CompoundIsBuilt : SlotsTree → Place → Place → LaidBits → LaidBits → Type 0
CompoundIsBuilt ss old new before after = IsBuilt (EntriesShape 1 ss) (λ es. entries_onto 1 ss es (closing ∷ [])) (λ es. canon (compound ss) (marked es)) old new before after

pub compound_slots : (kind : TextKind) (slots : List TextSlot) → kind ≡ KindOf.Compound slots → InBounds (text_kind kind) → AreSlots (text_slots slots)
compound_slots kind slots e h = subst InBounds (compound_kind kind slots e) h

pub compound_of_kind : (kind : TextKind) (slots : List TextSlot) (old mid new : Place) (before after : LaidBits) → kind ≡ KindOf.Compound slots → Goes old mid (opening ∷ []) → CompoundIsBuilt (text_slots slots) mid new before after → KindIsBuilt (text_kind kind) old new before after
compound_of_kind kind slots old mid new before after e g b =
    let ss = text_slots slots in
    subst (λ k. KindIsBuilt k old new before after) (sym (compound_kind kind slots e))
    (built_after (EntriesShape 1 ss) (λ es. entries_onto 1 ss es (closing ∷ [])) (λ es. canon (compound ss) (marked es)) (Shape (compound ss)) (λ v. kind_onto (compound ss) v []) (canon (compound ss)) (opening ∷ []) old mid new before after g b (λ es h. (marked es, h, refl, refl)))

-- ---- counted values

-- so many of them
abbrev pub SoMany : KindTree → ℕ → ValuesTree → Type 0
SoMany k n vs = (value_count vs ≡ n) × EachShape (Shape k) vs

abbrev pub EachIsBuilt : KindTree → ℕ → Place → Place → LaidBits → LaidBits → Type 0
EachIsBuilt k n old new before after = IsBuilt (SoMany k n) (λ vs. each_onto (kind_onto k) vs (closing ∷ [])) (each_canon (canon k)) old new before after

pub record EachLeft (k : KindTree) (count : ℕ) (old now : Place) (before after : LaidBits) : Type 0 where
  pub built : (n more : ℕ) → n ≡ count + more
      → Partly (SoMany k n) (λ vs. each_onto (kind_onto k) vs (closing ∷ [])) (each_canon (canon k)) (SoMany k more) (λ vs. each_onto (kind_onto k) vs (closing ∷ [])) (each_canon (canon k)) old now before after

pub each_first : (k : KindTree) (old : Place) (out : LaidBits) → EachLeft k 0 old old out out
each_first k old out = record {
  built = λ n more e. (
      subst (λ m. Partly (SoMany k m) (λ vs. each_onto (kind_onto k) vs (closing ∷ [])) (each_canon (canon k)) (SoMany k more) (λ vs. each_onto (kind_onto k) vs (closing ∷ [])) (each_canon (canon k)) old old out out) (let z : more ≡ n = omega (arith, e) in z)
      (partly_first (SoMany k more) (λ vs. each_onto (kind_onto k) vs (closing ∷ [])) (each_canon (canon k)) old out)
      );
}

pub each_next : (k : KindTree) (count : ℕ) (old now new : Place) (before mid after : LaidBits) → EachLeft k count old now before mid → KindIsBuilt k now new mid after → EachLeft k (count + 1) old new before after
each_next k count old now new before mid after l b = record {
  built = λ n more e. (
      partly_more (SoMany k n) (λ vs. each_onto (kind_onto k) vs (closing ∷ [])) (each_canon (canon k)) (SoMany k (suc more)) (λ vs. each_onto (kind_onto k) vs (closing ∷ [])) (each_canon (canon k)) (Shape k) (λ v. kind_onto k v []) (canon k)
      (SoMany k more) (λ vs. each_onto (kind_onto k) vs (closing ∷ [])) (each_canon (canon k)) old now new before mid after (l.built n (suc more) (omega (arith, e))) b
      (λ v vs h j. (value_and v vs, (ap suc j.0, (h, j.1)), sym (kind_more k v [] (each_onto (kind_onto k) vs (closing ∷ []))), refl))
      );
}

pub each_done : (k : KindTree) (count : ℕ) (old now new : Place) (before after : LaidBits) → EachLeft k count old now before after → Goes now new (closing ∷ []) → EachIsBuilt k count old new before after
each_done k count old now new before after l g =
    partly_done (SoMany k count) (λ vs. each_onto (kind_onto k) vs (closing ∷ [])) (each_canon (canon k)) (SoMany k 0) (λ vs. each_onto (kind_onto k) vs (closing ∷ [])) (each_canon (canon k)) old now new before after after (l.built count 0 (omega arith))
    (built_bare (SoMany k 0) (λ vs. each_onto (kind_onto k) vs (closing ∷ [])) (each_canon (canon k)) no_values now new after (refl, tt) g refl)

-- ---- what stands after a count or a presence field

pub counted_whole : (size : Counter) (k : KindTree) (count n : ℕ) (old new : Place) (before first last after : LaidBits) → count < 2 ^ counter_width size → Leaves before first n (counter_octets size) → EachIsBuilt k count old new first last → Fills last after n (counter_octets size) (word (counter_width size) count)
    → CountedIsBuilt size k old new before after
counted_whole size k count n old new before first last after few l b f = record {
  value = b.value;
  shape = (subst (λ n. n < 2 ^ counter_width size) (sym b.shape.0) few, b.shape.1);
  goes = b.goes;
  lays = subst (λ m. Lays before after (word (counter_width size) m ++ each_canon (canon k) b.value)) (sym b.shape.0) (left_filled before first last after n (counter_octets size) (each_canon (canon k) b.value) (word (counter_width size) count) l b.lays f);
}

pub compound_whole : (ss : SlotsTree) (marks : List ℕ) (n room : ℕ) (old new : Place) (before first last after : LaidBits) → Leaves before first n room → IsBuilt (HasMarks ss marks) (λ es. entries_onto 1 ss es (closing ∷ [])) (entries_canon 1 ss) old new first last
    → Fills last after n room (least_field marks) → CompoundIsBuilt ss old new before after
compound_whole ss marks n room old new before first last after l b f = record {
  value = b.value;
  shape = b.shape.0;
  goes = b.goes;
  lays = subst (λ w. Lays before after (w ++ entries_canon 1 ss b.value)) b.shape.1 (left_filled before first last after n room (entries_canon 1 ss b.value) (least_field marks) l b.lays f);
}

-- ---- a subitem

pub sub_bounds : (slot : TextSlot) (name : List ℕ) (k : TextKind) → slot ≡ SlotOf.Sub name k → SlotsInBounds (slot_and (text_slot slot) no_slots) → InBounds (text_kind k)
sub_bounds slot name k e h = (subst (λ s. SlotsInBounds (slot_and s no_slots)) (sub_slot slot name k e) h).0

pub named_slot : (name : List ℕ) (k : KindTree) (old mid new : Place) (before after : LaidBits) → Goes old mid (name ∷ []) → KindIsBuilt k mid new before after → IsBuilt (SlotShape (subitem name k)) (λ v. slot_onto (subitem name k) v []) (slot_canon (subitem name k)) old new before after
named_slot name k old mid new before after g b =
    built_after (Shape k) (λ v. kind_onto k v []) (canon k) (SlotShape (subitem name k)) (λ v. slot_onto (subitem name k) v []) (slot_canon (subitem name k)) (name ∷ []) old mid new before after g b (λ v h. (v, h, refl, refl))

pub sub_built : (slot : TextSlot) (name : List ℕ) (k : TextKind) (old mid new : Place) (before after : LaidBits) → slot ≡ SlotOf.Sub name k → Goes old mid (name ∷ []) → KindIsBuilt (text_kind k) mid new before after → BuildsSlot (text_slot slot) true old new before after
sub_built slot name k old mid new before after e g b =
    subst (λ s. BuildsSlot s true old new before after) (sym (sub_slot slot name k e)) (named_slot name (text_kind k) old mid new before after g b)

pub each_less : (k : KindTree) (count : ℕ) (old now : Place) (before after : LaidBits) → EachLeft k count old now before after → length now.left ≤ length old.left
each_less k count old now before after l = let p = l.built count 0 (omega arith) in less_left old now p.front p.goes

-- ---- an item or a subitem of a fixed kind

pub held_bounds : (slot : TextSlot) (held : TextNamed) → slot ≡ SlotOf.Named held → SlotsInBounds (slot_and (text_slot slot) no_slots) → FixedInBounds (fixed_tree held.fixed.now)
held_bounds slot held e h =
    let x : InBounds (fixed (fixed_tree held.fixed.now)) = (subst (λ s. SlotsInBounds (slot_and s no_slots)) (held_slot slot held e) h).0 in x.2

pub held_built : (slot : TextSlot) (held : TextNamed) (came : Bool) (old new : Place) (before after : LaidBits) → slot ≡ SlotOf.Named held → BuildsSlot (subitem held.name (fixed (fixed_tree held.fixed.now))) came old new before after → BuildsSlot (text_slot slot) came old new before after
held_built slot held came old new before after e b = subst (λ s. BuildsSlot s came old new before after) (sym (held_slot slot held e)) b
