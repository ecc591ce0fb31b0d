-- A specification of two numbers of eight bits, and a record of it, for the worked examples.
use Rattle.std.specs.Prelude.{ℕ, Bool, List, [], ◌∷◌, codes, ℤ}
use Rattle.ax_format.specs.Specification.{SpecTree}
use Rattle.ax_format.specs.Tree.{element, group, members_of, named, fixed, number, member_values, values_of, EntriesTree, no_entries, entry_and}
use Rattle.ax_format.specs.declared.content.Content.TheVariants.{Integer}
use Rattle.ax_format.specs.declared.content.Sign.TheVariants.{Unsigned, Signed}
use Rattle.ax_format.specs.declared.spec.UapSlot.TheVariants as Uap
use Rattle.ax_expressions.specs.Meaning.{holds}
use Rattle.ax_expressions.specs.Tree.{ExprTree, compared}
use Rattle.ax_expressions.specs.declared.expr.FullPath.{FullPath}
use Rattle.ax_expressions.specs.declared.expr.Op.{Op}

abbrev pub two_numbers : SpecTree
two_numbers = record {
  category = 210;
  edition = [];
  items = record {
    name = codes "010";
    title = [];
    kind = fixed (group (members_of (named (codes "U") (element 8 (Integer Unsigned)) ∷ named (codes "S") (element 8 (Integer Signed)) ∷ [])));
  } ∷ [];
  uap = Uap.Item (codes "010") ∷ [];
}

-- both numbers spelled 11001000, which is 200, and -56 in two's complement
abbrev pub both_200 : EntriesTree
both_200 = entry_and 1 (member_values (values_of (number 200 ∷ number 200 ∷ []))) no_entries

abbrev pub item : FullPath
item = record { category = 210; names = codes "010" ∷ [] }

abbrev pub member : List ℕ → FullPath
member name = record { category = 210; names = codes "010" ∷ name ∷ [] }

abbrev pub holds_of : EntriesTree → ExprTree → Bool
holds_of r e = holds (two_numbers ∷ []) 210 r e

abbrev pub is : List ℕ → Op → ℤ → ExprTree
is name op n = compared (member name) op n
