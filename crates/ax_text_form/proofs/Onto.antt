-- The texts of a value in front of others are its own texts and those after them.
use Rattle.std.proofs.Common.{◌≡◌, ℕ, ◌+◌, Bool, true, false, cond, List, [], ◌∷◌, ◌++◌, refl, ◌∙◌, ap}
use Rattle.std.specs.Prelude.{◌==◌}
use Rattle.ax_format.specs.Tree.{FixedTree, element, group, MemberTree, MembersTree, no_members, member_and, named, spare, KindTree, fixed, extended, counted, by_fx, explicit, compound, SlotsTree, no_slots, slot_and, spare_slot, subitem, ValueTree, number, member_values, part_values, occurrences, content_octets, marked, ValuesTree, no_values, value_and, ListsTree, no_lists, list_and, EntriesTree, no_entries, entry_and}
use Rattle.ax_text_form.specs.ValueText.{Texts, opening, closing, spare_word, part_word, number_onto, fixed_onto, member_onto, members_onto, part_onto, parts_onto, each_onto, kind_onto, entries_onto}

pub number_more : (v : ValueTree) (x y : Texts) → number_onto v x ++ y ≡ number_onto v (x ++ y)
number_more (number n) x y = refl
number_more v x y = refl

mutual
  pub fixed_more : (f : FixedTree) (v : ValueTree) (x y : Texts) → fixed_onto f v x ++ y ≡ fixed_onto f v (x ++ y)
  fixed_more (element w c) v x y = number_more v x y
  fixed_more (group ms) (member_values vs) x y = ap (λ t. opening ∷ t) (members_more ms vs (closing ∷ x) y)
  fixed_more (group ms) v x y = refl

  pub member_more : (m : MemberTree) (v : ValueTree) (x y : Texts) → member_onto m v x ++ y ≡ member_onto m v (x ++ y)
  member_more (named name f) v x y = ap (λ t. name ∷ t) (fixed_more f v x y)
  member_more (spare w) v x y = ap (λ t. spare_word ∷ t) (number_more v x y)

  pub members_more : (ms : MembersTree) (vs : ValuesTree) (x y : Texts) → members_onto ms vs x ++ y ≡ members_onto ms vs (x ++ y)
  members_more no_members vs x y = refl
  members_more (member_and m ms) no_values x y = refl
  members_more (member_and m ms) (value_and v vs) x y = member_more m v (members_onto ms vs x) y ∙ ap (member_onto m v) (members_more ms vs x y)

pub part_more : (p : MembersTree) (vs : ValuesTree) (x y : Texts) → part_onto p vs x ++ y ≡ part_onto p vs (x ++ y)
part_more p vs x y = ap (λ t. part_word ∷ opening ∷ t) (members_more p vs (closing ∷ x) y)

parts_more : (ps : List MembersTree) (ls : ListsTree) (x y : Texts) → parts_onto ps ls x ++ y ≡ parts_onto ps ls (x ++ y)
parts_more [] ls x y = refl
parts_more (p ∷ ps) no_lists x y = refl
parts_more (p ∷ ps) (list_and vs ls) x y = part_more p vs (parts_onto ps ls x) y ∙ ap (part_onto p vs) (parts_more ps ls x y)

pub each_more : (onto : ValueTree → Texts → Texts) → ((v : ValueTree) (x y : Texts) → onto v x ++ y ≡ onto v (x ++ y)) → (vs : ValuesTree) (x y : Texts) → each_onto onto vs x ++ y ≡ each_onto onto vs (x ++ y)
each_more onto h no_values x y = refl
each_more onto h (value_and v vs) x y = h v (each_onto onto vs x) y ∙ ap (onto v) (each_more onto h vs x y)

choice_more : (b : Bool) (p q r s y : Texts) → p ++ y ≡ r → q ++ y ≡ s → cond b p q ++ y ≡ cond b r s
choice_more true p q r s y e f = e
choice_more false p q r s y e f = f

mutual
  pub kind_more : (k : KindTree) (v : ValueTree) (x y : Texts) → kind_onto k v x ++ y ≡ kind_onto k v (x ++ y)
  kind_more (fixed f) v x y = fixed_more f v x y
  kind_more (extended last ps) (part_values ls) x y = ap (λ t. opening ∷ t) (parts_more ps ls (closing ∷ x) y)
  kind_more (extended last ps) v x y = refl
  kind_more (counted size k) (occurrences vs) x y = ap (λ t. opening ∷ t) (each_more (kind_onto k) (kind_more k) vs (closing ∷ x) y)
  kind_more (counted size k) v x y = refl
  kind_more (by_fx f) (occurrences vs) x y = ap (λ t. opening ∷ t) (each_more (fixed_onto f) (fixed_more f) vs (closing ∷ x) y)
  kind_more (by_fx f) v x y = refl
  kind_more explicit (content_octets xs) x y = refl
  kind_more explicit v x y = refl
  kind_more (compound ss) (marked es) x y = ap (λ t. opening ∷ t) (entries_more 1 ss es (closing ∷ x) y)
  kind_more (compound ss) v x y = refl

  pub entries_more : (s : ℕ) (ss : SlotsTree) (es : EntriesTree) (x y : Texts) → entries_onto s ss es x ++ y ≡ entries_onto s ss es (x ++ y)
  entries_more s no_slots es x y = refl
  entries_more s (slot_and spare_slot ss) es x y = entries_more (s + 1) ss es x y
  entries_more s (slot_and (subitem name k) ss) no_entries x y = entries_more (s + 1) ss no_entries x y
  entries_more s (slot_and (subitem name k) ss) (entry_and t v es) x y =
      choice_more (t == s) _ _ _ _ y
      (ap (λ t. name ∷ t) (kind_more k v (entries_onto (s + 1) ss es x) y ∙ ap (kind_onto k v) (entries_more (s + 1) ss es x y)))
      (entries_more (s + 1) ss (entry_and t v es) x y)
