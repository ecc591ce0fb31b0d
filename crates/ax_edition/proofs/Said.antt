-- What the pairs of all named paths say is what is shared at a path.
use Rattle.std.proofs.Common.{◌≡◌, ℕ, ◌+◌, Bool, true, false, cond, is_some, List, [], ◌∷◌, map, Option, Some, None, unwrap_or, refl, sym, ◌∙◌, ap, arith}
use Rattle.ax_relation.proofs.Distinct.{Distinct}
use Rattle.ax_relation.proofs.PathsOnce.{path_times, path_is, slot_once}
use Rattle.ax_relation.specs.Fates.{is_path}
use Rattle.ax_format.specs.Named.{named_paths, kind_at}
use Rattle.ax_format.specs.Shared.{are_shared, in_common}
use Rattle.ax_format.specs.Specification.{SpecTree, record_slots, record_kind}
use Rattle.ax_format.specs.Tree.{KindTree}
use Rattle.ax_relation.specs.Known.{nothing, sharing_at, said_of}
use Rattle.ax_relation.specs.declared.known.Sharing.{Sharing}

module _ (rule : List (List ℕ) → Sharing) (path : List (List ℕ)) where
  said_stays : (paths : List (List (List ℕ))) → said_of path (map (λ p. (p, rule p)) paths) (Some (rule path)) ≡ Some (rule path)
  said_stays [] = refl
  said_stays (p ∷ paths) = by (is_path path p) refl ∙ said_stays paths
    where
      by : (b : Bool) → is_path path p ≡ b → said_of path (map (λ q. (q, rule q)) paths) (cond b (Some (rule p)) (Some (rule path))) ≡ said_of path (map (λ q. (q, rule q)) paths) (Some (rule path))
      by true e = ap (λ x. said_of path (map (λ q. (q, rule q)) paths) (Some (rule x))) (sym (path_is path p e))
      by false e = refl

  said_where : (paths : List (List (List ℕ))) → (path_times path paths ≡ 0 → ⊥) → said_of path (map (λ p. (p, rule p)) paths) None ≡ Some (rule path)
  said_where [] h = absurd (h refl)
  said_where (p ∷ paths) h = by (is_path path p) refl h (λ g. said_where paths g)
    where
      by : (b : Bool) → is_path path p ≡ b → (cond b (path_times path paths + 1) (path_times path paths) ≡ 0 → ⊥) → ((path_times path paths ≡ 0 → ⊥) → said_of path (map (λ q. (q, rule q)) paths) None ≡ Some (rule path))
          → said_of path (map (λ q. (q, rule q)) paths) (cond b (Some (rule p)) None) ≡ Some (rule path)
      by true e h later = ap (λ x. said_of path (map (λ q. (q, rule q)) paths) (Some (rule x))) (sym (path_is path p e)) ∙ said_stays paths
      by false e h later = later h

  said_or : (paths : List (List (List ℕ))) → rule path ≡ nothing → unwrap_or (said_of path (map (λ p. (p, rule p)) paths) None) nothing ≡ nothing
  said_or [] e = refl
  said_or (p ∷ paths) e = by (is_path path p) refl (said_or paths e)
    where
      by : (b : Bool) → is_path path p ≡ b → unwrap_or (said_of path (map (λ q. (q, rule q)) paths) None) nothing ≡ nothing → unwrap_or (said_of path (map (λ q. (q, rule q)) paths) (cond b (Some (rule p)) None)) nothing ≡ nothing
      by true q later = ap (λ x. unwrap_or (said_of path (map (λ r. (r, rule r)) paths) (Some (rule x))) nothing) (sym (path_is path p q)) ∙ ap (λ o. unwrap_or o nothing) (said_stays paths) ∙ e
      by false q later = later

-- at a path of which the old edition has no kind
at_none : (o l : Option KindTree) → is_some o ≡ false → record { path = are_shared None o l; parts = in_common o l } ≡ nothing
at_none None l e = refl
at_none (Some k) l e = cc

pub said_is_shared : (old new : SpecTree) (path : List (List ℕ)) → Distinct (record_kind old) → unwrap_or (said_of path (map (λ p. (p, sharing_at old new p)) (named_paths old)) None) nothing ≡ sharing_at old new path
said_is_shared old new [] d = said_or (sharing_at old new) [] (named_paths old) refl
said_is_shared old new (name ∷ names) d = by (is_some (kind_at (name ∷ names) (record_kind old))) refl
  where
    by : (b : Bool) → is_some (kind_at (name ∷ names) (record_kind old)) ≡ b
        → unwrap_or (said_of (name ∷ names) (map (λ p. (p, sharing_at old new p)) (named_paths old)) None) nothing ≡ sharing_at old new (name ∷ names)
    by true e =
        let once = slot_once 1 [] name names (record_slots old) d e in ap (λ o. unwrap_or o nothing) (said_where (sharing_at old new) (name ∷ names) (named_paths old) (λ z. absurd (omega arith)))
    by false e =
        let none = at_none (kind_at (name ∷ names) (record_kind old)) (kind_at (name ∷ names) (record_kind new)) e in said_or (sharing_at old new) (name ∷ names) (named_paths old) none ∙ sym none
