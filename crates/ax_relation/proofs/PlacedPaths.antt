-- The named paths with their places: each leads to its kind through its numbers.
use Rattle.std.proofs.Common.{◌≡◌, ℕ, ◌+◌, Bool, true, false, cond, ◌||◌, bytes_eq, is_some, List, [], ◌∷◌, ◌++◌, map, Option, Some, None, option_map, option_and_then, refl, ◌∙◌, ap}
use Rattle.std.specs.List.{AllByRecursion}
use Rattle.std.proofs.lemmas.List.{map-append}
use Rattle.ax_relation.proofs.NamedOnce.{own_name, not_again}
use Rattle.ax_relation.proofs.SameKinds.{bytes_same}
use Rattle.ax_relation.proofs.Distinct.{Distinct, SlotsDistinct}
use Rattle.ax_format.specs.Flaws.{is_among}
use Rattle.ax_format.specs.Named.{paths_of, slot_paths, kind_at}
use Rattle.ax_format.specs.Naming.{found_or, slot_named}
use Rattle.ax_format.specs.Placed.{Placed, steps_at, placed_under, placed_of, placed_slots, placed_paths}
use Rattle.ax_format.specs.Specification.{SpecTree, record_slots, record_kind}
use Rattle.ax_format.specs.Tree.{KindTree, fixed, extended, counted, by_fx, explicit, compound, SlotsTree, no_slots, slot_and, spare_slot, subitem}

-- ---- their names are the named paths

under : (name : List ℕ) (s : ℕ) (ps : List Placed) → map (λ p. p.names) (map (placed_under name s) ps) ≡ map (λ path. name ∷ path) (map (λ p. p.names) ps)
under name s [] = refl
under name s (p ∷ ps) = ap (λ l. (name ∷ p.names) ∷ l) (under name s ps)

mutual
  pub placed_names : (k : KindTree) → map (λ p. p.names) (placed_of k) ≡ paths_of k
  placed_names (compound ss) = ap (λ l. [] ∷ l) (placed_slot_names 1 ss)
  placed_names (fixed f) = refl
  placed_names (extended last ps) = refl
  placed_names (counted size k) = refl
  placed_names (by_fx f) = refl
  placed_names explicit = refl

  pub placed_slot_names : (s : ℕ) (ss : SlotsTree) → map (λ p. p.names) (placed_slots s ss) ≡ slot_paths ss
  placed_slot_names s no_slots = refl
  placed_slot_names s (slot_and spare_slot ss) = placed_slot_names (s + 1) ss
  placed_slot_names s (slot_and (subitem name k) ss) =
      map-append (λ p. p.names) (map (placed_under name s) (placed_of k)) (placed_slots (s + 1) ss)
      ∙ (λ i. (under name s (placed_of k) ∙ ap (map (λ path. name ∷ path)) (placed_names k)) i ++ placed_slot_names (s + 1) ss i)

-- ---- each leads to its kind through its numbers

pub record Stands (k : KindTree) (p : Placed) : Type 0 where
  pub kind : kind_at p.names k ≡ Some p.kind
  pub steps : steps_at p.names k ≡ Some p.numbers

-- the same below slots of which the first has the number n
abbrev kind_under : ℕ → SlotsTree → List (List ℕ) → Option KindTree
kind_under n ss [] = None
kind_under n ss (name ∷ names) = option_and_then (λ s. kind_at names s.1) (slot_named n name ss)

abbrev steps_under : ℕ → SlotsTree → List (List ℕ) → Option (List ℕ)
steps_under n ss [] = None
steps_under n ss (name ∷ names) = option_and_then (λ s. option_map (λ steps. s.0 ∷ steps) (steps_at names s.1)) (slot_named n name ss)

record StandsUnder (n : ℕ) (ss : SlotsTree) (p : Placed) : Type 0 where
  kind : kind_under n ss p.names ≡ Some p.kind
  steps : steps_under n ss p.names ≡ Some p.numbers

all_append : {A : Type 0} (P : A → Type 0) (xs ys : List A) → AllByRecursion P xs → AllByRecursion P ys → AllByRecursion P (xs ++ ys)
all_append P [] ys a b = b
all_append P (x ∷ xs) ys a b = (a.0, all_append P xs ys a.1 b)

all_map : {A B : Type 0} (P : A → Type 0) (Q : B → Type 0) (f : A → B) → ((x : A) → P x → Q (f x)) → (xs : List A) → AllByRecursion P xs → AllByRecursion Q (map f xs)
all_map P Q f one [] a = tt
all_map P Q f one (x ∷ xs) a = (one x a.0, all_map P Q f one xs a.1)

pub all_same : {A : Type 0} (P Q : A → Type 0) → ((x : A) → P x → Q x) → (xs : List A) → AllByRecursion P xs → AllByRecursion Q xs
all_same P Q one [] a = tt
all_same P Q one (x ∷ xs) a = (one x a.0, all_same P Q one xs a.1)

here : (n : ℕ) (own : List ℕ) (k : KindTree) (ss : SlotsTree) (p : Placed) → Stands k p → StandsUnder n (slot_and (subitem own k) ss) (placed_under own n p)
here n own k ss p h =
    let found : slot_named n own (slot_and (subitem own k) ss) ≡ Some (n, k) = ap (λ b. found_or (cond b (Some k) None) n (slot_named (n + 1) own ss)) (own_name own) in
    record {
      kind = ap (option_and_then (λ s. kind_at p.names s.1)) found ∙ h.kind;
      steps = ap (option_and_then (λ s. option_map (λ steps. s.0 ∷ steps) (steps_at p.names s.1))) found ∙ ap (option_map (λ steps. n ∷ steps)) h.steps;
    }

later : (n : ℕ) (earlier : List (List ℕ)) (own : List ℕ) (k : KindTree) (ss : SlotsTree) → SlotsDistinct (own ∷ earlier) ss → (p : Placed) → StandsUnder (n + 1) ss p → StandsUnder n (slot_and (subitem own k) ss) p
later n earlier own k ss d p h =
    let t = by p.names h.kind h.steps in record { kind = t.0; steps = t.1 }
  where
    with_name : (name : List ℕ) (names : List (List ℕ)) (b : Bool) → bytes_eq own name ≡ b → kind_under (n + 1) ss (name ∷ names) ≡ Some p.kind → found_or (cond b (Some k) None) n (slot_named (n + 1) name ss) ≡ slot_named (n + 1) name ss
    with_name name names true e a =
        let again : is_among name (own ∷ earlier) ≡ true = ap (λ x. bytes_eq name x || is_among name earlier) (bytes_same own name e) ∙ ap (λ b. b || is_among name earlier) (own_name name) in
        let none = ap (option_and_then (λ s. kind_at names s.1)) (not_again (n + 1) name (own ∷ earlier) ss again d) in cc
    with_name name names false e a = refl

    by : (names : List (List ℕ)) → kind_under (n + 1) ss names ≡ Some p.kind → steps_under (n + 1) ss names ≡ Some p.numbers → (kind_under n (slot_and (subitem own k) ss) names ≡ Some p.kind) × (steps_under n (slot_and (subitem own k) ss) names ≡ Some p.numbers)
    by [] a b = cc
    by (name ∷ names) a b =
        let same = with_name name names (bytes_eq own name) refl a in
        (ap (option_and_then (λ s. kind_at names s.1)) same ∙ a, ap (option_and_then (λ s. option_map (λ steps. s.0 ∷ steps) (steps_at names s.1))) same ∙ b)

after_spare : (n : ℕ) (ss : SlotsTree) (p : Placed) → StandsUnder (n + 1) ss p → StandsUnder n (slot_and spare_slot ss) p
after_spare n ss p h =
    let t = by p.names h.kind h.steps in record { kind = t.0; steps = t.1 }
  where
    by : (names : List (List ℕ)) → kind_under (n + 1) ss names ≡ Some p.kind → steps_under (n + 1) ss names ≡ Some p.numbers → (kind_under n (slot_and spare_slot ss) names ≡ Some p.kind) × (steps_under n (slot_and spare_slot ss) names ≡ Some p.numbers)
    by [] a b = (a, b)
    by (name ∷ names) a b = (a, b)

under_compound : (ss : SlotsTree) (p : Placed) → StandsUnder 1 ss p → Stands (compound ss) p
under_compound ss p h =
    let t = by p.names h.kind h.steps in record { kind = t.0; steps = t.1 }
  where
    by : (names : List (List ℕ)) → kind_under 1 ss names ≡ Some p.kind → steps_under 1 ss names ≡ Some p.numbers → (kind_at names (compound ss) ≡ Some p.kind) × (steps_at names (compound ss) ≡ Some p.numbers)
    by [] a b = cc
    by (name ∷ names) a b = (a, b)

mutual
  pub all_stand : (k : KindTree) → Distinct k → AllByRecursion (Stands k) (placed_of k)
  all_stand (compound ss) d = (record { kind = refl; steps = refl }, all_same (StandsUnder 1 ss) (Stands (compound ss)) (under_compound ss) (placed_slots 1 ss) (all_under 1 [] ss d))
  all_stand (fixed f) d = (record { kind = refl; steps = refl }, tt)
  all_stand (extended last ps) d = (record { kind = refl; steps = refl }, tt)
  all_stand (counted size k) d = (record { kind = refl; steps = refl }, tt)
  all_stand (by_fx f) d = (record { kind = refl; steps = refl }, tt)
  all_stand explicit d = (record { kind = refl; steps = refl }, tt)

  all_under : (n : ℕ) (earlier : List (List ℕ)) (ss : SlotsTree) → SlotsDistinct earlier ss → AllByRecursion (StandsUnder n ss) (placed_slots n ss)
  all_under n earlier no_slots d = tt
  all_under n earlier (slot_and spare_slot ss) d =
      all_same (StandsUnder (n + 1) ss) (StandsUnder n (slot_and spare_slot ss)) (after_spare n ss) (placed_slots (n + 1) ss) (all_under (n + 1) earlier ss d)
  all_under n earlier (slot_and (subitem own k) ss) d =
      all_append (StandsUnder n (slot_and (subitem own k) ss)) (map (placed_under own n) (placed_of k)) (placed_slots (n + 1) ss)
      (all_map (Stands k) (StandsUnder n (slot_and (subitem own k) ss)) (placed_under own n) (here n own k ss) (placed_of k) (all_stand k d.1))
      (all_same (StandsUnder (n + 1) ss) (StandsUnder n (slot_and (subitem own k) ss)) (later n earlier own k ss d.2) (placed_slots (n + 1) ss) (all_under (n + 1) (own ∷ earlier) ss d.2))

-- a named path of a record's slots has a name
pub record StandsNamed (k : KindTree) (p : Placed) : Type 0 where
  pub first : List ℕ
  pub others : List (List ℕ)
  pub names : p.names ≡ first ∷ others
  pub stands : Stands k p

pub all_named : (spec : SpecTree) → Distinct (record_kind spec) → AllByRecursion (StandsNamed (record_kind spec)) (placed_paths spec)
all_named spec d = all_same (StandsUnder 1 (record_slots spec)) (StandsNamed (record_kind spec)) with_name (placed_paths spec) (all_under 1 [] (record_slots spec) d)
  where
    with_name : (p : Placed) → StandsUnder 1 (record_slots spec) p → StandsNamed (record_kind spec) p
    with_name p h = by p.names refl h.kind
      where
        by : (names : List (List ℕ)) → p.names ≡ names → kind_under 1 (record_slots spec) names ≡ Some p.kind → StandsNamed (record_kind spec) p
        by [] e a = cc
        by (first ∷ others) e a = record { first = first; others = others; names = e; stands = under_compound (record_slots spec) p h }

-- a path that leads to a kind leads there through numbers
pub kind_has_steps : (names : List (List ℕ)) (k : KindTree) → is_some (steps_at names k) ≡ is_some (kind_at names k)
kind_has_steps [] k = refl
kind_has_steps (name ∷ names) (compound ss) = by_found (kind_has_steps names) (slot_named 1 name ss)
  where
    mapped : (n : ℕ) (o : Option (List ℕ)) → is_some (option_map (λ ms. n ∷ ms) o) ≡ is_some o
    mapped n None = refl
    mapped n (Some ms) = refl

    by_found : ((k : KindTree) → is_some (steps_at names k) ≡ is_some (kind_at names k)) → (o : Option (ℕ × KindTree))
        → is_some (option_and_then (λ s. option_map (λ ms. s.0 ∷ ms) (steps_at names s.1)) o) ≡ is_some (option_and_then (λ s. kind_at names s.1) o)
    by_found below None = refl
    by_found below (Some s) = mapped s.0 (steps_at names s.1) ∙ below s.1
kind_has_steps (name ∷ names) (fixed f) = refl
kind_has_steps (name ∷ names) (extended last ps) = refl
kind_has_steps (name ∷ names) (counted size k) = refl
kind_has_steps (name ∷ names) (by_fx f) = refl
kind_has_steps (name ∷ names) explicit = refl
