-- What the walk makes is the relation of the two editions.
use Rattle.std.proofs.Common.{◌≡◌, ℕ, ◌+◌, Bool, true, false, cond, List, [], ◌∷◌, ◌++◌, map, flat_map, Option, Some, None, option_map, option_and_then, refl, sym, ◌∙◌, ap, codes, append_assoc, append-nil}
use Rattle.std.specs.List.{AllByRecursion}
use Rattle.ax_format.specs.Naming.{slot_named}
use Rattle.ax_format.specs.Paths.{joined, three_digits, at, path_text}
use Rattle.ax_format.specs.Specification.{SpecTree, record_slots, record_kind}
use Rattle.ax_format.specs.Tree.{MembersTree, KindTree, fixed, extended, counted, by_fx, explicit, compound, SlotsTree, no_slots, slot_and, spare_slot, subitem}
use Rattle.ax_format.specs.declared.place.Place.{Place}
use Rattle.ax_edition.specs.Relating.{target_below, shared_place, parts_with, part_place, related_here, related_part, related_parts, related_kind, related_slots}
use Rattle.ax_relation.specs.Paths.{related_key, related_keys, relation_paths}
use Rattle.ax_relation.specs.declared.relation.RelationPath.{RelationPath}
use Rattle.ax_relation.proofs.PlacedPaths.{StandsNamed, all_named}
use Rattle.ax_relation.proofs.Distinct.{Distinct}
use Rattle.ax_format.specs.Named.{Key, part_keys, keys_at, kind_at, with_part}
use Rattle.ax_format.specs.Placed.{Placed, steps_at, place_from, named_place, placed_under, placed_of, placed_slots, placed_paths}
use Rattle.ax_format.specs.Shared.{is_shared_at, are_shared, shared_names}

-- ---- texts

-- names below a text
abbrev text_below : List ℕ → List (List ℕ) → List ℕ
text_below text [] = text
text_below text (name ∷ names) = text_below (at text name) names

slash : codes "/" ≡ 47 ∷ []
slash = refl

slashed : (text name : List ℕ) → at text name ≡ text ++ (47 ∷ name)
slashed text name = append_assoc text (codes "/") name ∙ ap (λ s. text ++ (s ++ name)) slash

longer : (text name : List ℕ) (names : List (List ℕ)) → joined (at text name ∷ names) ≡ text ++ 47 ∷ joined (name ∷ names)
longer text name [] = slashed text name
longer text name (other ∷ names) = ap (λ x. x ++ 47 ∷ joined (other ∷ names)) (slashed text name) ∙ append_assoc text (47 ∷ name) (47 ∷ joined (other ∷ names))

text_joined : (text : List ℕ) (names : List (List ℕ)) → text_below text names ≡ joined (text ∷ names)
text_joined text [] = refl
text_joined text (name ∷ names) = text_joined (at text name) names ∙ longer text name names

-- ---- path by path

abbrev target_at : List (List ℕ) → List ℕ × KindTree → Option (List ℕ × KindTree)
target_at [] t = Some t
target_at (name ∷ names) t = option_and_then (target_at names) (target_below name t)

abbrev key_for : List ℕ → List ℕ → Option (List ℕ × KindTree) → Placed → Key → RelationPath
key_for text numbers target p key = related_here (text_below text p.names) (numbers ++ p.numbers) key.part p.kind (option_and_then (target_at p.names) target)

abbrev paths_for : List ℕ → List ℕ → Option (List ℕ × KindTree) → Placed → List RelationPath
paths_for text numbers target p = map (key_for text numbers target p) (keys_at p.names (Some p.kind))

mapped : {A B C : Type 0} (f : A → List C) (g : B → List C) (h : A → B) → ((x : A) → f x ≡ g (h x)) → (xs : List A) → flat_map f xs ≡ flat_map g (map h xs)
mapped f g h one [] = refl
mapped f g h one (x ∷ xs) = λ i. one x i ++ mapped f g h one xs i

flat_append : {A C : Type 0} (f : A → List C) (xs ys : List A) → flat_map f (xs ++ ys) ≡ flat_map f xs ++ flat_map f ys
flat_append f [] ys = refl
flat_append f (x ∷ xs) ys = ap (λ l. f x ++ l) (flat_append f xs ys) ∙ sym (append_assoc (f x) (flat_map f xs) (flat_map f ys))

-- keys of one kind by two names
keys_mapped : (f g : Key → RelationPath) (names others : List (List ℕ)) → ((part : Option ℕ) → f (record { names = names; part = part }) ≡ g (record { names = others; part = part }))
    → (k : KindTree) → map f (keys_at names (Some k)) ≡ map g (keys_at others (Some k))
keys_mapped f g names others one (extended last ps) = λ i. one None i ∷ parts 0 ps i
  where
    parts : (n : ℕ) (ps : List MembersTree) → map f (part_keys names n ps) ≡ map g (part_keys others n ps)
    parts n [] = refl
    parts n (p ∷ ps) = λ i. one (Some n) i ∷ parts (n + 1) ps i
keys_mapped f g names others one (fixed h) = λ i. one None i ∷ []
keys_mapped f g names others one (counted size k) = λ i. one None i ∷ []
keys_mapped f g names others one (by_fx h) = λ i. one None i ∷ []
keys_mapped f g names others one explicit = λ i. one None i ∷ []
keys_mapped f g names others one (compound ss) = λ i. one None i ∷ []

own_target : (o : Option (List ℕ × KindTree)) → o ≡ option_and_then (target_at []) o
own_target None = refl
own_target (Some t) = refl

next_target : (name : List ℕ) (names : List (List ℕ)) (o : Option (List ℕ × KindTree)) → option_and_then (target_at names) (option_and_then (target_below name) o) ≡ option_and_then (target_at (name ∷ names)) o
next_target name names None = refl
next_target name names (Some t) = refl

abbrev bare : KindTree → Placed
bare k = record { names = []; numbers = []; kind = k }

own_key : (text numbers : List ℕ) (k : KindTree) (target : Option (List ℕ × KindTree)) (part : Option ℕ) → related_here text numbers part k target ≡ key_for text numbers target (bare k) (record { names = []; part = part })
own_key text numbers k target part =
    let e = sym (append-nil numbers) in λ i. related_here text (e i) part k (own_target target i)

-- a part's place by how many parts are in common
by_count : (i : ℕ) (k : KindTree) (target : Option (List ℕ × KindTree)) → part_place (parts_with k target) i target ≡ shared_place (Some i) k target
by_count i k None = refl
by_count i k (Some t) = refl

own_parts : (text numbers : List ℕ) (k : KindTree) (target : Option (List ℕ × KindTree)) (n : ℕ) (ps : List MembersTree)
    → related_parts text numbers n ps (parts_with k target) target ≡ map (key_for text numbers target (bare k)) (part_keys [] n ps)
own_parts text numbers k target n [] = refl
own_parts text numbers k target n (p ∷ ps) =
    let here : related_part text numbers n (parts_with k target) target ≡ key_for text numbers target (bare k) (record { names = []; part = Some n }) = (
    λ i. record { text = with_part text (Some n); part = Some n; old = place_from numbers; new = by_count n k target i }) ∙ own_key text numbers k target (Some n) in
    λ i. here i ∷ own_parts text numbers k target (n + 1) ps i

under_path : (text numbers : List ℕ) (target : Option (List ℕ × KindTree)) (name : List ℕ) (s : ℕ) (p : Placed)
    → paths_for (at text name) (numbers ++ s ∷ []) (option_and_then (target_below name) target) p ≡ paths_for text numbers target (placed_under name s p)
under_path text numbers target name s p =
    let e = append_assoc numbers (s ∷ []) p.numbers in
    let f = next_target name p.names target in
    keys_mapped (key_for (at text name) (numbers ++ s ∷ []) (option_and_then (target_below name) target) p) (key_for text numbers target (placed_under name s p)) p.names (name ∷ p.names)
    (λ part. λ i. related_here (text_below (at text name) p.names) (e i) part p.kind (f i)) p.kind

mutual
  kind_paths : (text numbers : List ℕ) (k : KindTree) (target : Option (List ℕ × KindTree)) → related_kind text numbers k target ≡ flat_map (paths_for text numbers target) (placed_of k)
  kind_paths text numbers (compound ss) target = λ i. own_key text numbers (compound ss) target None i ∷ slots_paths text numbers 1 ss target i
  kind_paths text numbers (extended last ps) target =
      (λ i. own_key text numbers (extended last ps) target None i ∷ own_parts text numbers (extended last ps) target 0 ps i) ∙ sym (append-nil (paths_for text numbers target (bare (extended last ps))))
  kind_paths text numbers (fixed f) target = λ i. own_key text numbers (fixed f) target None i ∷ []
  kind_paths text numbers (counted size k) target = λ i. own_key text numbers (counted size k) target None i ∷ []
  kind_paths text numbers (by_fx f) target = λ i. own_key text numbers (by_fx f) target None i ∷ []
  kind_paths text numbers explicit target = λ i. own_key text numbers explicit target None i ∷ []

  slots_paths : (text numbers : List ℕ) (s : ℕ) (ss : SlotsTree) (target : Option (List ℕ × KindTree))
      → related_slots text numbers s ss (λ name. option_and_then (target_below name) target) ≡ flat_map (paths_for text numbers target) (placed_slots s ss)
  slots_paths text numbers s no_slots target = refl
  slots_paths text numbers s (slot_and spare_slot ss) target = slots_paths text numbers (s + 1) ss target
  slots_paths text numbers s (slot_and (subitem name k) ss) target =
      let under = option_and_then (target_below name) target in
      (λ i. kind_paths (at text name) (numbers ++ s ∷ []) k under i ++ slots_paths text numbers (s + 1) ss target i)
      ∙ ap (λ l. l ++ flat_map (paths_for text numbers target) (placed_slots (s + 1) ss))
      (mapped (paths_for (at text name) (numbers ++ s ∷ []) under) (paths_for text numbers target) (placed_under name s) (under_path text numbers target name s) (placed_of k))
      ∙ sym (flat_append (paths_for text numbers target) (map (placed_under name s) (placed_of k)) (placed_slots (s + 1) ss))

-- ---- the new place

abbrev leading : List ℕ → Option (List ℕ) → Option KindTree → Option (List ℕ × KindTree)
leading numbers steps kind = option_and_then (λ m. option_map (λ k. (numbers ++ m, k)) kind) steps

one_step : (numbers : List ℕ) (t : ℕ) (steps : Option (List ℕ)) (kind : Option KindTree) → leading (numbers ++ t ∷ []) steps kind ≡ leading numbers (option_map (λ m. t ∷ m) steps) kind
one_step numbers t None kind = refl
one_step numbers t (Some m) None = refl
one_step numbers t (Some m) (Some k) =
    let e = append_assoc numbers (t ∷ []) m in λ i. Some (e i, k)

leads : (names : List (List ℕ)) (numbers : List ℕ) (l : KindTree) → target_at names (numbers, l) ≡ leading numbers (steps_at names l) (kind_at names l)
leads [] numbers l =
    let e = sym (append-nil numbers) in λ i. Some (e i, l)
leads (name ∷ names) numbers (compound ts) = by (λ ns l. leads names ns l) (slot_named 1 name ts)
  where
    by : ((ns : List ℕ) (l : KindTree) → target_at names (ns, l) ≡ leading ns (steps_at names l) (kind_at names l)) → (o : Option (ℕ × KindTree))
        → option_and_then (target_at names) (option_map (λ t. (numbers ++ t.0 ∷ [], t.1)) o)
        ≡ leading numbers (option_and_then (λ s. option_map (λ steps. s.0 ∷ steps) (steps_at names s.1)) o) (option_and_then (λ s. kind_at names s.1) o)
    by below None = refl
    by below (Some t) = below (numbers ++ t.0 ∷ []) t.1 ∙ one_step numbers t.0 (steps_at names t.1) (kind_at names t.1)
leads (name ∷ names) numbers (fixed f) = refl
leads (name ∷ names) numbers (extended last ps) = refl
leads (name ∷ names) numbers (counted size k) = refl
leads (name ∷ names) numbers (by_fx f) = refl
leads (name ∷ names) numbers explicit = refl

either : (b : Bool) (o : Option Place) → o ≡ cond b o o
either true o = refl
either false o = refl

new_place : (part : Option ℕ) (k : KindTree) (steps : Option (List ℕ)) (kind : Option KindTree) → shared_place part k (leading [] steps kind) ≡ cond (are_shared part (Some k) kind) (option_map place_from steps) None
new_place part k None None = refl
new_place part k None (Some l) = either (is_shared_at part k l) None
new_place part k (Some m) None = refl
new_place part k (Some m) (Some l) = refl

-- ---- whole editions

one_path : (old new : SpecTree) (p : Placed) → StandsNamed (record_kind old) p → paths_for (three_digits old.category) [] (Some ([], record_kind new)) p ≡ related_keys old new p
one_path old new p h = keys_mapped (key_for (three_digits old.category) [] (Some ([], record_kind new)) p) (related_key old new p) p.names p.names one p.kind
  where
    shared_is : (part : Option ℕ) (names : List (List ℕ)) → names ≡ h.first ∷ h.others → are_shared part (kind_at names (record_kind old)) (kind_at names (record_kind new)) ≡ shared_names old new part names
    shared_is part [] e = cc
    shared_is part (name ∷ names) e = refl

    place : (part : Option ℕ) → shared_place part p.kind (target_at p.names ([], record_kind new)) ≡ cond (shared_names old new part p.names) (named_place new p.names) None
    place part =
        ap (shared_place part p.kind) (leads p.names [] (record_kind new)) ∙ new_place part p.kind (steps_at p.names (record_kind new)) (kind_at p.names (record_kind new))
        ∙ ap (λ o. cond (are_shared part o (kind_at p.names (record_kind new))) (named_place new p.names) None) (sym h.stands.kind) ∙ ap (λ b. cond b (named_place new p.names) None) (shared_is part p.names h.names)

    text : text_below (three_digits old.category) p.names ≡ path_text old.category p.names
    text = text_joined (three_digits old.category) p.names

    one : (part : Option ℕ) → key_for (three_digits old.category) [] (Some ([], record_kind new)) p (record { names = p.names; part = part }) ≡ related_key old new p (record { names = p.names; part = part })
    one part = λ i. record { text = with_part (text i) part; part = part; old = place_from p.numbers; new = place part i }

all_paths : (old new : SpecTree) (ps : List Placed) → AllByRecursion (StandsNamed (record_kind old)) ps → flat_map (paths_for (three_digits old.category) [] (Some ([], record_kind new))) ps ≡ flat_map (related_keys old new) ps
all_paths old new [] h = refl
all_paths old new (p ∷ ps) h = λ i. one_path old new p h.0 i ++ all_paths old new ps h.1 i

pub walk_is_relation : (old new : SpecTree) → Distinct (record_kind old) → related_slots (three_digits old.category) [] 1 (record_slots old) (λ name. option_and_then (target_below name) (Some ([], record_kind new))) ≡ relation_paths old new
walk_is_relation old new d = slots_paths (three_digits old.category) [] 1 (record_slots old) (Some ([], record_kind new)) ∙ all_paths old new (placed_paths old) (all_named old d)
