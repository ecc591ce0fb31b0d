-- What the table of a category is of.
use Rattle.std.proofs.Common.{◌≡◌, ℕ, List, Option, Some, None, Bor, sym, ◌∙◌, ap}
use Rattle.std.specs.Option.{option_map, option_copied}
use Rattle.ax_format.specs.Plain.{spec_tree, catalogue_tree}
use Rattle.ax_format.specs.Specification.{SpecTree, spec_of}
use Rattle.ax_format.specs.declared.spec.Spec.{Spec}
use Rattle.ax_fspec.specs.Reading.{IsMaskOf, record_slot_list}
use Rattle.ax_text_lines.specs.declared.tables.PrintedUap.{PrintedUap}

abbrev tree_of : PrintedUap → SpecTree
tree_of table = spec_tree table.items

-- a table's mask is that of its slots
pub masked : (table : PrintedUap) → IsMaskOf (record_slot_list (tree_of table)) table.mask
masked table = record { count = table.count; defined = table.defined }

module _ (tables catalogue : List Spec) (category : ℕ) (same : tables ≡ catalogue) where
  abbrev Looked : Option (Bor PrintedUap) → Type 0
  Looked found = option_map tree_of (option_copied found) ≡ spec_of category (catalogue_tree tables)

  pub known : (found : Option (Bor PrintedUap)) (table : Bor PrintedUap) → Looked found → found ≡ Some table → spec_of category (catalogue_tree catalogue) ≡ Some (tree_of table.now)
  known found table looked is = ap (λ specs. spec_of category (catalogue_tree specs)) (sym same) ∙ sym looked ∙ ap (λ o. option_map tree_of (option_copied o)) is

  pub unknown : (found : Option (Bor PrintedUap)) → Looked found → found ≡ None → spec_of category (catalogue_tree catalogue) ≡ None
  unknown found looked is = ap (λ specs. spec_of category (catalogue_tree specs)) (sym same) ∙ sym looked ∙ ap (λ o. option_map tree_of (option_copied o)) is
