-- Numbers by name.
use Rattle.std.specs.Prelude.{◌≡◌, ℕ, ◌+◌, List, [], ◌∷◌, bytes_eq, if◌then◌else◌, Option, Some, None, option_map}
use Rattle.ax_edition.specs.declared.numbers.Numbers.{Numbers}
use Rattle.ax_format.specs.Naming.{slot_named}
use Rattle.ax_format.specs.Tree.{SlotsTree}
use Rattle.ax_format.specs.declared.spec.Item.{Item}
use Rattle.indexmap.specs.IndexMap.{get}

-- the number under a name
abbrev pub numbered : Numbers → List ℕ → Option ℕ
numbered numbers name = get bytes_eq numbers.numbers name

pub record Enters (name : List ℕ) (number : ℕ) (old new : Numbers) : Type 0 where
  pub enters : (other : List ℕ) → numbered new other ≡ (if bytes_eq name other then Some number else numbered old other)

-- the number of the first slot of each name, where the first of these slots has the number n
pub record Counts (n : ℕ) (ss : SlotsTree) (numbers : Numbers) : Type 0 where
  pub counts : (name : List ℕ) → numbered numbers name ≡ option_map (λ s. s.0) (slot_named n name ss)

-- the number of the first item of the name, where the first of these items has the number n
abbrev pub item_number : ℕ → List ℕ → List Item → Option ℕ
item_number n name [] = None
item_number n name (item ∷ items) = if bytes_eq item.name name then Some n else item_number (n + 1) name items

pub record CountsItems (n : ℕ) (items : List Item) (numbers : Numbers) : Type 0 where
  pub counts : (name : List ℕ) → numbered numbers name ≡ item_number n name items
