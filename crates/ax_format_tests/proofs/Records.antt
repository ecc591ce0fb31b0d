-- The records of a block that fits.
use Rattle.std.proofs.Common.{◌≡◌, ℕ, List, [], ◌∷◌, Some, slice_get, subst}
use Rattle.std.specs.List.{AllByRecursion}
use Rattle.ax_model.specs.Blocks.{Fits, read_block}
use Rattle.ax_model.specs.Bodies.{RecordShape}
use Rattle.ax_model.specs.Plain.{record_tree, records_tree}
use Rattle.ax_model.specs.Specification.{SpecTree}
use Rattle.ax_format.specs.declared.record.Record.{Record}

pub first_shape : (spec : SpecTree) (category : ℕ) (rs : List Record) (r : Record) → Fits spec (read_block category (records_tree rs)) → slice_get rs 0 ≡ Some r → RecordShape spec (record_tree r)
first_shape spec category [] r h e = absurd (cc)
first_shape spec category (x ∷ rs) r h e =
    let same : x ≡ r = cc in
    let all : AllByRecursion (RecordShape spec) (records_tree (x ∷ rs)) = h.2 in
    subst (λ y. RecordShape spec (record_tree y)) same all.0
