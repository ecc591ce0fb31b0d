-- What a relation says of a path.
use Rattle.std.proofs.Common.{◌≡◌, ℕ, List, None, unwrap_or, ◌∙◌, ap}
use Rattle.ax_format.specs.Shared.{Shared, Common}
use Rattle.ax_format.specs.Plain.{spec_tree}
use Rattle.ax_format.specs.declared.spec.Spec.{Spec}
use Rattle.ax_relation.specs.Known.{nothing, said}
use Rattle.ax_relation.specs.Relates.{Relates}
use Rattle.ax_relation.specs.declared.known.Sharing.{Sharing}
use Rattle.ax_relation.specs.declared.relation.Relation.{Relation}

module _ (old new : Spec) (relation : Relation) (path names : List (List ℕ)) (s : Sharing) (e : s ≡ unwrap_or (said relation.known names) nothing) (n : names ≡ path) (r : Relates old new relation) where
  pub is_shared_path : s.path ≡ Shared (spec_tree old) (spec_tree new) (record { names = path; part = None })
  is_shared_path = ap (λ x. x.path) (e ∙ ap (λ x. unwrap_or (said relation.known x) nothing) n ∙ r.known.sharing path)

  pub are_shared_parts : s.parts ≡ Common (spec_tree old) (spec_tree new) path
  are_shared_parts = ap (λ x. x.parts) (e ∙ ap (λ x. unwrap_or (said relation.known x) nothing) n ∙ r.known.sharing path)

pub ruleset sharing = (is_shared_path, are_shared_parts)
