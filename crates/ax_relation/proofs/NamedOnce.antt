-- A value whose kind's subitems differ in name is determined by its entries.
use Rattle.std.proofs.Common.{◌≡◌, ℕ, suc, ◌+◌, ◌<◌, ◌==◌, MatchBool, Bool, true, false, cond, ◌||◌, bytes_eq, List, [], ◌∷◌, Option, Some, None, option_and_then, refl, sym, ◌∙◌, ap, arith, subst}
use Rattle.std.proofs.lemmas.Bool.{eqb-true}
use Rattle.std.proofs.lemmas.Slice.Eq.{bytes_eq-Decides}
use Rattle.ax_relation.proofs.Lookups.{named_from, value_put, value_later}
use Rattle.ax_relation.proofs.MovedShape.{none_before}
use Rattle.ax_relation.proofs.SameKinds.{bytes_same}
use Rattle.ax_relation.proofs.Distinct.{Distinct, SlotsDistinct}
use Rattle.ax_relation.specs.Moved.{entry_where}
use Rattle.ax_format.specs.At.{slot_value}
use Rattle.ax_format.specs.Flaws.{is_among}
use Rattle.ax_format.specs.Named.{NamedEntry, part_leaf, own_entry, part_entry, entry_at}
use Rattle.ax_format.specs.Naming.{found_or, slot_named}
use Rattle.ax_format.specs.Same.{emptied_members}
use Rattle.ax_format.specs.Shape.{PartsShape, Shape, EntriesShape}
use Rattle.ax_format.specs.Tree.{MembersTree, KindTree, fixed, extended, counted, by_fx, explicit, compound, SlotsTree, no_slots, slot_and, spare_slot, subitem, ValueTree, part_values, marked, ValuesTree, ListsTree, no_lists, list_and, EntriesTree, no_entries, entry_and}

pub own_name : (name : List ℕ) → bytes_eq name name ≡ true
own_name name = (bytes_eq-Decides name name).1 refl

-- a name that stands before isn't found again
pub not_again : (n : ℕ) (name : List ℕ) (earlier : List (List ℕ)) (ss : SlotsTree) → is_among name earlier ≡ true → SlotsDistinct earlier ss → slot_named n name ss ≡ None
not_again n name earlier no_slots a d = refl
not_again n name earlier (slot_and spare_slot ss) a d = not_again (n + 1) name earlier ss a d
not_again n name earlier (slot_and (subitem own k) ss) a d =
    by (bytes_eq own name) refl (bytes_eq name own) (not_again (n + 1) name (own ∷ earlier) ss (still (bytes_eq name own) (is_among name earlier) a) d.2)
  where
    still : (b c : Bool) → c ≡ true → (b || c) ≡ true
    still true c e = refl
    still false c e = e

    by : (b : Bool) → bytes_eq own name ≡ b → (c : Bool) → slot_named (n + 1) name ss ≡ None → found_or (cond b (Some k) None) n (slot_named (n + 1) name ss) ≡ None
    by true e c later = let q = ap (λ x. is_among x earlier) (bytes_same own name e) in let r = d.0 in cc
    by false e c later = later

-- what stands at the names, by the slots' names
abbrev found_in : EntriesTree → Option ℕ → List (List ℕ) → Option (ℕ × KindTree) → Option NamedEntry
found_in es part names o = option_and_then (λ s. option_and_then (entry_at part names s.1) (slot_value s.0 es)) o

abbrev pub at_name : ℕ → SlotsTree → EntriesTree → Option ℕ → List ℕ → List (List ℕ) → Option NamedEntry
at_name n ss es part name names = option_and_then (λ s. option_and_then (entry_at part names s.1) (slot_value s.0 es)) (slot_named n name ss)

abbrev pub Agree : ℕ → SlotsTree → EntriesTree → EntriesTree → Type 0
Agree n ss es fs = (part : Option ℕ) (name : List ℕ) (names : List (List ℕ)) → at_name n ss es part name names ≡ at_name n ss fs part name names

-- the slots after one agree, if they agree with it
later_agree : (n : ℕ) (own : List ℕ) (k : KindTree) (earlier : List (List ℕ)) (ss : SlotsTree) (es fs ds gs : EntriesTree) → SlotsDistinct (own ∷ earlier) ss
    → ((s : ℕ) → n < s → slot_value s ds ≡ slot_value s es) → ((s : ℕ) → n < s → slot_value s gs ≡ slot_value s fs)
    → Agree n (slot_and (subitem own k) ss) ds gs → Agree (n + 1) ss es fs
later_agree n own k earlier ss es fs ds gs d same other h part name names = by (bytes_eq own name) refl (h part name names)
  where
    carried : (es ds : EntriesTree) → ((s : ℕ) → n < s → slot_value s ds ≡ slot_value s es) → (o : Option (ℕ × KindTree)) → slot_named (n + 1) name ss ≡ o
        → option_and_then (λ s. option_and_then (entry_at part names s.1) (slot_value s.0 ds)) o ≡ option_and_then (λ s. option_and_then (entry_at part names s.1) (slot_value s.0 es)) o
    carried es ds same None e = refl
    carried es ds same (Some s) e = let le = named_from (n + 1) name ss s.0 s.1 e in ap (option_and_then (entry_at part names s.1)) (same s.0 (omega arith))

    by : (b : Bool) → bytes_eq own name ≡ b → found_in ds part names (found_or (cond b (Some k) None) n (slot_named (n + 1) name ss)) ≡ found_in gs part names (found_or (cond b (Some k) None) n (slot_named (n + 1) name ss))
        → at_name (n + 1) ss es part name names ≡ at_name (n + 1) ss fs part name names
    by true e g =
        let again : is_among name (own ∷ earlier) ≡ true = ap (λ x. bytes_eq name x || is_among name earlier) (bytes_same own name e) ∙ ap (λ b. b || is_among name earlier) (own_name name) in
        let none = not_again (n + 1) name (own ∷ earlier) ss again d in ap (found_in es part names) none ∙ sym (ap (found_in fs part names) none)
    by false e g = sym (carried es ds same (slot_named (n + 1) name ss) refl) ∙ g ∙ carried fs gs other (slot_named (n + 1) name ss) refl

-- ---- entries split at the first slot

pub record Front (n : ℕ) (k : KindTree) (ss : SlotsTree) (es : EntriesTree) : Type 0 where
  pub here : Option ValueTree
  pub rest : EntriesTree
  pub is : es ≡ entry_where n here rest
  pub shape : (v : ValueTree) → here ≡ Some v → Shape k v
  pub later : EntriesShape (n + 1) ss rest

pub front_of : (n : ℕ) (name : List ℕ) (k : KindTree) (ss : SlotsTree) (es : EntriesTree) → EntriesShape n (slot_and (subitem name k) ss) es → Front n k ss es
front_of n name k ss no_entries p = record { here = None; rest = no_entries; is = refl; shape = λ v e. cc; later = p }
front_of n name k ss (entry_and t w es) p = by (t == n) refl p
  where
    by : (b : Bool) → (t == n) ≡ b → MatchBool b (Shape k w × EntriesShape (n + 1) ss es) (EntriesShape (n + 1) ss (entry_and t w es)) → Front n k ss (entry_and t w es)
    by true e p = record {
      here = Some w;
      rest = es;
      is = ap (λ x. entry_and x w es) (eqb-true t n e);
      shape = λ v q. let w_is : w ≡ v = cc in let P : ValueTree → Type 0 = λ x. Shape k x in subst P w_is p.0;
      later = p.1;
    }
    by false e p = record { here = None; rest = entry_and t w es; is = refl; shape = λ v e. cc; later = p }

pub front_value : (n : ℕ) (k : KindTree) (ss : SlotsTree) (es : EntriesTree) (f : Front n k ss es) → slot_value n es ≡ f.here
front_value n k ss es f = ap (slot_value n) f.is ∙ value_put n f.here f.rest (none_before n (n + 1) ss f.rest (omega arith) f.later)

pub front_later : (n : ℕ) (k : KindTree) (ss : SlotsTree) (es : EntriesTree) (f : Front n k ss es) (s : ℕ) → n < s → slot_value s es ≡ slot_value s f.rest
front_later n k ss es f s h = ap (slot_value s) f.is ∙ value_later s n f.here f.rest h

named_here : (n : ℕ) (own : List ℕ) (k : KindTree) (ss : SlotsTree) → slot_named n own (slot_and (subitem own k) ss) ≡ Some (n, k)
named_here n own k ss = ap (λ b. found_or (cond b (Some k) None) n (slot_named (n + 1) own ss)) (own_name own)

agree_here : (n : ℕ) (own : List ℕ) (k : KindTree) (ss : SlotsTree) (es fs : EntriesTree) → Agree n (slot_and (subitem own k) ss) es fs
    → (part : Option ℕ) (names : List (List ℕ)) → option_and_then (entry_at part names k) (slot_value n es) ≡ option_and_then (entry_at part names k) (slot_value n fs)
agree_here n own k ss es fs h part names = sym (ap (found_in es part names) (named_here n own k ss)) ∙ h part own names ∙ ap (found_in fs part names) (named_here n own k ss)

abbrev SameEntries : KindTree → ValueTree → ValueTree → Type 0
SameEntries k v w = (part : Option ℕ) (names : List (List ℕ)) → entry_at part names k v ≡ entry_at part names k w

-- two values, if any, with the same entries
values_once : (k : KindTree) (o p : Option ValueTree) → ((v : ValueTree) → o ≡ Some v → Shape k v) → ((v : ValueTree) → p ≡ Some v → Shape k v)
    → ((v w : ValueTree) → Shape k v → Shape k w → SameEntries k v w → v ≡ w)
    → ((part : Option ℕ) (names : List (List ℕ)) → option_and_then (entry_at part names k) o ≡ option_and_then (entry_at part names k) p) → o ≡ p
values_once k None None f g once h = refl
values_once k (Some v) None f g once h = let e : Some (own_entry k v) ≡ None = h None [] in cc
values_once k None (Some w) f g once h = let e : None ≡ Some (own_entry k w) = h None [] in cc
values_once k (Some v) (Some w) f g once h = ap Some (once v w (f v refl) (g w refl) h)

-- values of parts with the same entries
leaf_once : (p : MembersTree) (vs ws : ValuesTree) → Some (part_leaf p vs) ≡ Some (part_leaf p ws) → vs ≡ ws
leaf_once p vs ws e = cc

lists_once : (ps : List MembersTree) (ls ms : ListsTree) → PartsShape ps ls → PartsShape ps ms → ((i : ℕ) → part_entry i ps ls ≡ part_entry i ps ms) → ls ≡ ms
lists_once [] no_lists ms p q h = absurd p
lists_once [] (list_and vs ls) ms p q h = absurd p
lists_once (r ∷ ps) no_lists ms p q h = absurd p
lists_once (r ∷ ps) (list_and vs ls) no_lists p q h = absurd q
lists_once (r ∷ ps) (list_and vs no_lists) (list_and ws no_lists) p q h = ap (λ x. list_and x no_lists) (leaf_once (emptied_members r) vs ws (h 0))
lists_once (r ∷ []) (list_and vs no_lists) (list_and ws (list_and xs ms)) p q h = absurd q.1
lists_once (r ∷ (s ∷ ps)) (list_and vs no_lists) (list_and ws (list_and xs ms)) p q h = let e : None ≡ Some (part_leaf (emptied_members s) xs) = h 1 in cc
lists_once (r ∷ []) (list_and vs (list_and us ls)) (list_and ws no_lists) p q h = absurd p.1
lists_once (r ∷ (s ∷ ps)) (list_and vs (list_and us ls)) (list_and ws no_lists) p q h = let e : Some (part_leaf (emptied_members s) us) ≡ None = h 1 in cc
lists_once (r ∷ ps) (list_and vs (list_and us ls)) (list_and ws (list_and xs ms)) p q h =
    let first = leaf_once (emptied_members r) vs ws (h 0) in
    let rest = lists_once ps (list_and us ls) (list_and xs ms) p.1 q.1 (λ i. h (suc i)) in λ i. list_and (first i) (rest i)

mutual
  pub named_once : (k : KindTree) (v w : ValueTree) → Distinct k → Shape k v → Shape k w → SameEntries k v w → v ≡ w
  named_once (compound ss) (marked es) (marked fs) d p q h = ap marked (entries_once 1 [] ss es fs d p q (λ part name names. h part (name ∷ names)))
  named_once (compound ss) (marked es) _ d p q h = absurd q
  named_once (compound ss) _ w d p q h = absurd p
  named_once (extended last ps) (part_values ls) (part_values ms) d p q h = ap part_values (lists_once ps ls ms p q (λ i. h (Some i) []))
  named_once (extended last ps) (part_values ls) _ d p q h = absurd q
  named_once (extended last ps) _ w d p q h = absurd p
  named_once (fixed f) v w d p q h = let e = h None [] in cc
  named_once (counted size k) v w d p q h = let e = h None [] in cc
  named_once (by_fx f) v w d p q h = let e = h None [] in cc
  named_once explicit v w d p q h = let e = h None [] in cc

  entries_once : (n : ℕ) (earlier : List (List ℕ)) (ss : SlotsTree) (es fs : EntriesTree) → SlotsDistinct earlier ss → EntriesShape n ss es → EntriesShape n ss fs → Agree n ss es fs → es ≡ fs
  entries_once n earlier no_slots no_entries no_entries d p q h = refl
  entries_once n earlier no_slots no_entries (entry_and t w fs) d p q h = absurd q
  entries_once n earlier no_slots (entry_and t v es) fs d p q h = absurd p
  entries_once n earlier (slot_and spare_slot ss) es fs d p q h = entries_once (n + 1) earlier ss es fs d p q h
  entries_once n earlier (slot_and (subitem own k) ss) es fs d p q h =
      let f = front_of n own k ss es p in
      let g = front_of n own k ss fs q in
      let same = λ (part : Option ℕ) (names : List (List ℕ)). ap (option_and_then (entry_at part names k)) (sym (front_value n k ss es f)) ∙ agree_here n own k ss es fs h part names ∙ ap (option_and_then (entry_at part names k)) (front_value n k ss fs g) in
      let here = values_once k f.here g.here f.shape g.shape (λ v w a b c. named_once k v w d.1 a b c) same in
      let rest = entries_once (n + 1) (own ∷ earlier) ss f.rest g.rest d.2 f.later g.later (later_agree n own k earlier ss f.rest g.rest es fs d.2 (front_later n k ss es f) (front_later n k ss fs g) h) in
      f.is ∙ (λ i. entry_where n (here i) (rest i)) ∙ sym g.is
