-- Neither the shape nor the spelling of a value depends on tables, nor does a width.
use Rattle.std.proofs.Common.{◌≡◌, ℕ, suc, ◌+◌, ◌^◌, ◌<◌, ◌==◌, MatchBool, cond, List, [], ◌∷◌, ◌++◌, map, refl, sym, ◌∙◌, ap, subst}
use Rattle.std.proofs.lemmas.List.{length-map}
use Rattle.ax_bits.specs.Bits.{word}
use Rattle.ax_format.specs.Canonical.{number_canon, fixed_canon, members_canon, parts_canon, run_canon, each_canon, canon, marks_of, entries_canon}
use Rattle.ax_format.specs.Presence.{octets_needed, least_presence}
use Rattle.ax_format.specs.Same.{emptied_fixed, emptied_members, emptied, emptied_slots}
use Rattle.ax_format.specs.Shape.{NumberShape, FixedShape, MembersShape, PartsShape, EachShape, Shape, EntriesShape}
use Rattle.ax_format.specs.Tree.{FixedTree, element, group, MembersTree, no_members, member_and, named, spare, KindTree, fixed, extended, counted, by_fx, explicit, compound, SlotsTree, no_slots, slot_and, spare_slot, subitem, slot_count, ValueTree, member_values, part_values, occurrences, marked, ValuesTree, no_values, value_and, value_count, ListsTree, no_lists, list_and, EntriesTree, no_entries, entry_and}
use Rattle.ax_format.specs.Widths.{width, members_width, counter_width, fx_width}
use Rattle.ax_format.specs.declared.kind.LastPart.{LastPart}

-- ---- the shape doesn't depend on tables

mutual
  fixed_shape : (f : FixedTree) (v : ValueTree) → FixedShape (emptied_fixed f) v ≡ FixedShape f v
  fixed_shape (element w c) v = refl
  fixed_shape (group ms) (member_values vs) = members_shape ms vs
  fixed_shape (group ms) _ = refl

  pub members_shape : (ms : MembersTree) (vs : ValuesTree) → MembersShape (emptied_members ms) vs ≡ MembersShape ms vs
  members_shape no_members no_values = refl
  members_shape no_members (value_and v vs) = refl
  members_shape (member_and (named name f) ms) no_values = refl
  members_shape (member_and (spare w) ms) no_values = refl
  members_shape (member_and (named name f) ms) (value_and v vs) = λ i. fixed_shape f v i × members_shape ms vs i
  members_shape (member_and (spare w) ms) (value_and v vs) = λ i. NumberShape w v × members_shape ms vs i

parts_shape : (ps : List MembersTree) (ls : ListsTree) → PartsShape (map emptied_members ps) ls ≡ PartsShape ps ls
parts_shape [] no_lists = refl
parts_shape (p ∷ ps) no_lists = refl
parts_shape [] (list_and vs ls) = refl
parts_shape (p ∷ ps) (list_and vs no_lists) = members_shape p vs
parts_shape (p ∷ ps) (list_and vs (list_and ws ls)) = λ i. members_shape p vs i × parts_shape ps (list_and ws ls) i

mutual
  emptied_shape : (k : KindTree) (v : ValueTree) → Shape (emptied k) v ≡ Shape k v
  emptied_shape (fixed f) v = fixed_shape f v
  emptied_shape (extended last ps) (part_values ls) = parts_shape ps ls
  emptied_shape (extended last ps) _ = refl
  emptied_shape (counted size k) (occurrences vs) = λ i. (value_count vs < 2 ^ counter_width size) × EachShape (λ v. emptied_shape k v i) vs
  emptied_shape (counted size k) _ = refl
  emptied_shape (by_fx f) (occurrences vs) = λ i. (0 < value_count vs) × EachShape (λ v. fixed_shape f v i) vs
  emptied_shape (by_fx f) _ = refl
  emptied_shape explicit v = refl
  emptied_shape (compound ss) (marked es) = entries_shape 1 ss es
  emptied_shape (compound ss) _ = refl

  entries_shape : (s : ℕ) (ss : SlotsTree) (es : EntriesTree) → EntriesShape s (emptied_slots ss) es ≡ EntriesShape s ss es
  entries_shape s no_slots no_entries = refl
  entries_shape s no_slots (entry_and t v es) = refl
  entries_shape s (slot_and spare_slot ss) es = entries_shape (s + 1) ss es
  entries_shape s (slot_and (subitem name k) ss) no_entries = entries_shape (s + 1) ss no_entries
  entries_shape s (slot_and (subitem name k) ss) (entry_and t v es) =
      λ i. MatchBool (t == s) (emptied_shape k v i × entries_shape (s + 1) ss es i) (entries_shape (s + 1) ss (entry_and t v es) i)

pub same_shape : (k l : KindTree) (v : ValueTree) → emptied k ≡ emptied l → Shape k v → Shape l v
same_shape k l v e h =
    let Q : Type 0 → Type 0 = λ t. t in
    let R : KindTree → Type 0 = λ x. Shape x v in subst Q (emptied_shape l v) (subst R e (subst Q (sym (emptied_shape k v)) h))

-- ---- the spelling doesn't depend on tables

mutual
  fixed_spelling : (f : FixedTree) (v : ValueTree) → fixed_canon (emptied_fixed f) v ≡ fixed_canon f v
  fixed_spelling (element w c) v = refl
  fixed_spelling (group ms) (member_values vs) = members_spelling ms vs
  fixed_spelling (group ms) _ = refl

  pub members_spelling : (ms : MembersTree) (vs : ValuesTree) → members_canon (emptied_members ms) vs ≡ members_canon ms vs
  members_spelling no_members vs = refl
  members_spelling (member_and (named name f) ms) no_values = refl
  members_spelling (member_and (spare w) ms) no_values = refl
  members_spelling (member_and (named name f) ms) (value_and v vs) = λ i. fixed_spelling f v i ++ members_spelling ms vs i
  members_spelling (member_and (spare w) ms) (value_and v vs) = λ i. number_canon w v ++ members_spelling ms vs i

parts_spelling : (last : LastPart) (ps : List MembersTree) (ls : ListsTree) → parts_canon last (map emptied_members ps) ls ≡ parts_canon last ps ls
parts_spelling last [] ls = refl
parts_spelling last (p ∷ ps) no_lists = refl
parts_spelling last (p ∷ ps) (list_and vs no_lists) = λ i. members_spelling p vs i ++ word (fx_width last (length-map ps emptied_members i)) 0
parts_spelling last (p ∷ ps) (list_and vs (list_and ws ls)) = λ i. members_spelling p vs i ++ 1 ∷ parts_spelling last ps (list_and ws ls) i

run_spelling : (f : FixedTree) (vs : ValuesTree) → run_canon (emptied_fixed f) vs ≡ run_canon f vs
run_spelling f no_values = refl
run_spelling f (value_and v no_values) = λ i. fixed_spelling f v i ++ 0 ∷ []
run_spelling f (value_and v (value_and w vs)) = λ i. fixed_spelling f v i ++ 1 ∷ run_spelling f (value_and w vs) i

same_count : (ss : SlotsTree) → slot_count (emptied_slots ss) ≡ slot_count ss
same_count no_slots = refl
same_count (slot_and spare_slot ss) = ap suc (same_count ss)
same_count (slot_and (subitem name k) ss) = ap suc (same_count ss)

same_marks : (s : ℕ) (ss : SlotsTree) (es : EntriesTree) → marks_of s (emptied_slots ss) es ≡ marks_of s ss es
same_marks s no_slots es = refl
same_marks s (slot_and spare_slot ss) es = ap (λ l. 0 ∷ l) (same_marks (s + 1) ss es)
same_marks s (slot_and (subitem name k) ss) no_entries = ap (λ l. 0 ∷ l) (same_marks (s + 1) ss no_entries)
same_marks s (slot_and (subitem name k) ss) (entry_and t v es) = λ i. cond (t == s) (1 ∷ same_marks (s + 1) ss es i) (0 ∷ same_marks (s + 1) ss (entry_and t v es) i)

mutual
  kind_spelling : (k : KindTree) (v : ValueTree) → canon (emptied k) v ≡ canon k v
  kind_spelling (fixed f) v = fixed_spelling f v
  kind_spelling (extended last ps) (part_values ls) = parts_spelling last ps ls
  kind_spelling (extended last ps) _ = refl
  kind_spelling (counted size k) (occurrences vs) = λ i. word (counter_width size) (value_count vs) ++ each_canon (λ v. kind_spelling k v i) vs
  kind_spelling (counted size k) _ = refl
  kind_spelling (by_fx f) (occurrences vs) = run_spelling f vs
  kind_spelling (by_fx f) _ = refl
  kind_spelling explicit v = refl
  kind_spelling (compound ss) (marked es) = λ i. least_presence (octets_needed (same_count ss i)) (same_marks 1 ss es i) ++ entries_spelling 1 ss es i
  kind_spelling (compound ss) _ = refl

  entries_spelling : (s : ℕ) (ss : SlotsTree) (es : EntriesTree) → entries_canon s (emptied_slots ss) es ≡ entries_canon s ss es
  entries_spelling s no_slots es = refl
  entries_spelling s (slot_and spare_slot ss) es = entries_spelling (s + 1) ss es
  entries_spelling s (slot_and (subitem name k) ss) no_entries = entries_spelling (s + 1) ss no_entries
  entries_spelling s (slot_and (subitem name k) ss) (entry_and t v es) =
      λ i. cond (t == s) (kind_spelling k v i ++ entries_spelling (s + 1) ss es i) (entries_spelling (s + 1) ss (entry_and t v es) i)

pub same_spelling : (k l : KindTree) (v : ValueTree) → emptied k ≡ emptied l → canon l v ≡ canon k v
same_spelling k l v e = sym (kind_spelling l v) ∙ ap (λ x. canon x v) (sym e) ∙ kind_spelling k v

-- ---- nor does the width

mutual
  fixed_bits : (f : FixedTree) → width (emptied_fixed f) ≡ width f
  fixed_bits (element w c) = refl
  fixed_bits (group ms) = members_bits ms

  pub members_bits : (ms : MembersTree) → members_width (emptied_members ms) ≡ members_width ms
  members_bits no_members = refl
  members_bits (member_and (named name f) ms) = λ i. fixed_bits f i + members_bits ms i
  members_bits (member_and (spare w) ms) = λ i. w + members_bits ms i
