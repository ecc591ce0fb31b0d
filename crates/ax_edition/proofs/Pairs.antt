-- What the pairs of all named paths are: each with what is shared at it.
use Rattle.std.proofs.Common.{◌≡◌, ℕ, ◌+◌, List, [], ◌∷◌, ◌++◌, map, Option, Some, None, option_map, option_and_then, unwrap_or, refl, sym, ◌∙◌, ap, append_assoc, append-nil}
use Rattle.std.specs.List.{AllByRecursion}
use Rattle.std.proofs.lemmas.List.{map-append}
use Rattle.ax_edition.proofs.Said.{said_is_shared}
use Rattle.ax_edition.specs.Known.{kind_below, known_kind, known_slots}
use Rattle.ax_relation.specs.Known.{nothing, sharing_of, sharing_at, said_of, Knows, IsKnown}
use Rattle.ax_relation.specs.declared.known.Sharing.{Sharing}
use Rattle.ax_relation.specs.declared.known.Known.{Known}
use Rattle.ax_relation.proofs.Distinct.{Distinct}
use Rattle.ax_relation.proofs.DistinctNames.{record_distinct}
use Rattle.ax_relation.proofs.PlacedPaths.{StandsNamed, all_named, placed_slot_names}
use Rattle.ax_format.specs.Named.{kind_at, named_paths}
use Rattle.ax_format.specs.Naming.{slot_named}
use Rattle.ax_format.specs.OfCode.{HasNoFlaw}
use Rattle.ax_format.specs.Placed.{Placed, placed_under, placed_of, placed_slots, placed_paths}
use Rattle.ax_format.specs.Plain.{spec_tree}
use Rattle.ax_format.specs.Shared.{are_shared, in_common}
use Rattle.ax_format.specs.Specification.{SpecTree, record_slots, record_kind}
use Rattle.ax_format.specs.Tree.{KindTree, fixed, extended, counted, by_fx, explicit, compound, SlotsTree, no_slots, slot_and, spare_slot, subitem}
use Rattle.ax_format.specs.declared.spec.Spec.{Spec}

-- ---- the pairs are the named paths, each with what is shared at it

abbrev pair_for : List (List ℕ) → Option KindTree → Placed → List (List ℕ) × Sharing
pair_for names new p = (names ++ p.names, sharing_of (Some p.kind) (option_and_then (kind_at p.names) new))

below_is : (name : List ℕ) (names : List (List ℕ)) (new : Option KindTree) → option_and_then (kind_at names) (option_and_then (kind_below name) new) ≡ option_and_then (kind_at (name ∷ names)) new
below_is name names None = refl
below_is name names (Some (compound ts)) = by (slot_named 1 name ts)
  where
    by : (o : Option (ℕ × KindTree)) → option_and_then (kind_at names) (option_map (λ t. t.1) o) ≡ option_and_then (λ s. kind_at names s.1) o
    by None = refl
    by (Some s) = refl
below_is name names (Some (fixed f)) = refl
below_is name names (Some (extended last ps)) = refl
below_is name names (Some (counted size k)) = refl
below_is name names (Some (by_fx f)) = refl
below_is name names (Some explicit) = refl

own_is : (k : KindTree) (new : Option KindTree) → sharing_of (Some k) new ≡ sharing_of (Some k) (option_and_then (kind_at []) new)
own_is k None = refl
own_is k (Some l) = refl

abbrev pair_of : List (List ℕ) → KindTree → Option KindTree → List (List ℕ) × Sharing
pair_of names k new = (names, sharing_of (Some k) new)

own_pair : (names : List (List ℕ)) (k : KindTree) (new : Option KindTree) → pair_of names k new ≡ pair_for names new (record { names = []; numbers = []; kind = k })
own_pair names k new =
    let e = sym (append-nil names) in λ i. (e i, own_is k new i)

mapped : (names : List (List ℕ)) (name : List ℕ) (s : ℕ) (new : Option KindTree) (ps : List Placed) → map (pair_for (names ++ name ∷ []) (option_and_then (kind_below name) new)) ps ≡ map (pair_for names new) (map (placed_under name s) ps)
mapped names name s new [] = refl
mapped names name s new (p ∷ ps) =
    let e = append_assoc names (name ∷ []) p.names in
    let f = ap (sharing_of (Some p.kind)) (below_is name p.names new) in λ i. (e i, f i) ∷ mapped names name s new ps i

mutual
  kind_pairs : (names : List (List ℕ)) (k : KindTree) (new : Option KindTree) → known_kind names k new ≡ map (pair_for names new) (placed_of k)
  kind_pairs names (compound ss) new = λ i. own_pair names (compound ss) new i ∷ slot_pairs names 1 ss new i
  kind_pairs names (fixed f) new = λ i. own_pair names (fixed f) new i ∷ []
  kind_pairs names (extended last ps) new = λ i. own_pair names (extended last ps) new i ∷ []
  kind_pairs names (counted size k) new = λ i. own_pair names (counted size k) new i ∷ []
  kind_pairs names (by_fx f) new = λ i. own_pair names (by_fx f) new i ∷ []
  kind_pairs names explicit new = λ i. own_pair names explicit new i ∷ []

  slot_pairs : (names : List (List ℕ)) (s : ℕ) (ss : SlotsTree) (new : Option KindTree) → known_slots names ss (λ name. option_and_then (kind_below name) new) ≡ map (pair_for names new) (placed_slots s ss)
  slot_pairs names s no_slots new = refl
  slot_pairs names s (slot_and spare_slot ss) new = slot_pairs names (s + 1) ss new
  slot_pairs names s (slot_and (subitem name k) ss) new =
      (λ i. kind_pairs (names ++ name ∷ []) k (option_and_then (kind_below name) new) i ++ slot_pairs names (s + 1) ss new i)
      ∙ ap (λ l. l ++ map (pair_for names new) (placed_slots (s + 1) ss)) (mapped names name s new (placed_of k))
      ∙ sym (map-append (pair_for names new) (map (placed_under name s) (placed_of k)) (placed_slots (s + 1) ss))

shared_pairs : (old new : SpecTree) (ps : List Placed) → AllByRecursion (StandsNamed (record_kind old)) ps
    → map (pair_for [] (Some (record_kind new))) ps ≡ map (λ p. (p, sharing_at old new p)) (map (λ p. p.names) ps)
shared_pairs old new [] h = refl
shared_pairs old new (p ∷ ps) h =
    let e = ap (λ o. sharing_of o (kind_at p.names (record_kind new))) (sym h.0.stands.kind) ∙ shared_is p.names h.0.names in λ i. (p.names, e i) ∷ shared_pairs old new ps h.1 i
  where
    both : (o l : Option KindTree) → sharing_of o l ≡ record { path = are_shared None o l; parts = in_common o l }
    both (Some k) (Some l) = refl
    both (Some k) None = refl
    both None l = refl

    shared_is : (names : List (List ℕ)) → names ≡ h.0.first ∷ h.0.others → sharing_of (kind_at names (record_kind old)) (kind_at names (record_kind new)) ≡ sharing_at old new names
    shared_is [] e = cc
    shared_is (name ∷ names) e = both (kind_at (name ∷ names) (record_kind old)) (kind_at (name ∷ names) (record_kind new))

pairs_are : (old new : SpecTree) → Distinct (record_kind old) → known_slots [] (record_slots old) (λ name. option_and_then (kind_below name) (Some (record_kind new))) ≡ map (λ p. (p, sharing_at old new p)) (named_paths old)
pairs_are old new d =
    slot_pairs [] 1 (record_slots old) (Some (record_kind new)) ∙ shared_pairs old new (placed_paths old) (all_named old d) ∙ ap (map (λ p. (p, sharing_at old new p))) (placed_slot_names 1 (record_slots old))

-- the rule, by whole records
pub whole_known : (old new : Spec) (ss : SlotsTree) (rule : List ℕ → Option KindTree) (known : Known) → HasNoFlaw old → ss ≡ record_slots (spec_tree old)
    → ((name : List ℕ) → rule name ≡ option_and_then (kind_below name) (Some (record_kind (spec_tree new)))) → Knows (known_slots [] ss rule) known → IsKnown (spec_tree old) (spec_tree new) known
whole_known old new ss rule known h is by k =
    let d = record_distinct (spec_tree old) h in
    let rules : rule ≡ (λ name. option_and_then (kind_below name) (Some (record_kind (spec_tree new)))) = λ i name. by name i in record {
      sharing = λ path.
          ap (λ o. unwrap_or o nothing) (k.knows path ∙ (λ i. said_of path (known_slots [] (is i) (rules i)) None) ∙ ap (λ l. said_of path l None) (pairs_are (spec_tree old) (spec_tree new) d))
          ∙ said_is_shared (spec_tree old) (spec_tree new) path d;
    }
