-- Why two editions have no relation.
use Rattle.std.specs.Prelude.{◌≡◌}
use Rattle.ax_edition.specs.declared.relation.RelateError.{RelateError}
use Rattle.ax_edition.specs.declared.relation.RelateError.TheVariants.{OtherCategory, OutOfMemory}
use Rattle.ax_format.specs.declared.spec.Spec.{Spec}

-- memory is wanted only where the categories are the same
abbrev pub WhyUnrelated : Spec → Spec → RelateError → Type 0
WhyUnrelated old new (OtherCategory one other) = (one ≡ old.category) × (other ≡ new.category) × (old.category ≡ new.category → ⊥)
WhyUnrelated old new OutOfMemory = old.category ≡ new.category
