-- Expansion files as trees: the specification that each stands for, and their flaws (this project's own rules).
use Rattle.std.specs.Prelude.{◌≡◌, ℕ, ◌*◌, ◌&&◌, nat_le, nat_lt, Bool, false, List, [], ◌∷◌, ◌++◌, codes}
use Rattle.ax_format.specs.Flaws.{flaw_where, flaws_of}
use Rattle.ax_format.specs.Paths.{at, three_digits}
use Rattle.ax_format.specs.Plain.{slots_tree}
use Rattle.ax_format.specs.Specification.{SpecTree}
use Rattle.ax_format.specs.Tree.{SlotsTree, slot_count, compound}
use Rattle.ax_format.specs.declared.flaw.Flaw.{Flaw}
use Rattle.ax_format.specs.declared.flaw.FlawKind.TheVariants.{TooManySlots}
use Rattle.ax_format.specs.declared.spec.UapSlot.TheVariants as Uap
use Rattle.ax_expand.specs.declared.expansion.Expansion.{Expansion}
use Rattle.ax_expand.specs.declared.form.Form.{Form}
use Rattle.ax_expand.specs.declared.form.Form.TheVariants.{Fx, Fixed}

pub record ExpansionTree : Type 0 where
  pub category : ℕ
  pub edition : List ℕ
  pub form : Form
  pub slots : SlotsTree

-- the plain tree of the code's type
abbrev pub expansion_tree : Expansion → ExpansionTree
expansion_tree x = record { category = x.category; edition = x.edition; form = x.form; slots = slots_tree x.slots }

-- the name of the reserved expansion field
abbrev pub re : List ℕ
re = codes "RE"

-- the specification of one item, RE, a compound of the slots and without a title, and of a UAP of it alone
abbrev pub wrapped : ExpansionTree → SpecTree
wrapped x = record {
  category = x.category;
  edition = x.edition;
  items = record { name = re; title = []; kind = compound x.slots } ∷ [];
  uap = Uap.Item re ∷ [];
}

-- a fixed form has fewer marks than there are slots; more than 126 slots are a flaw of any compound, at the same path
abbrev pub has_too_few_marks : Form → ℕ → Bool
has_too_few_marks Fx slots = false
has_too_few_marks (Fixed n) slots = nat_lt (8 * n) slots && nat_le slots 126

abbrev pub mark_flaws : ExpansionTree → List Flaw
mark_flaws x = flaw_where (has_too_few_marks x.form (slot_count x.slots)) TooManySlots (at (three_digits x.category) re)

abbrev pub expansion_flaws : ExpansionTree → List Flaw
expansion_flaws x = flaws_of (wrapped x) ++ mark_flaws x

pub record NoExpansionFlaw (x : ExpansionTree) : Type 0 where
  pub none : expansion_flaws x ≡ []

-- ---- over the code's types

abbrev pub wrapped_tree : Expansion → SpecTree
wrapped_tree x = wrapped (expansion_tree x)

abbrev pub all_flaws : Expansion → List Flaw
all_flaws x = expansion_flaws (expansion_tree x)

abbrev pub HasNoExpansionFlaw : Expansion → Type 0
HasNoExpansionFlaw x = NoExpansionFlaw (expansion_tree x)
