-- A member by itself: members of which it is the only one.
use Rattle.std.specs.Prelude.{◌≡◌, ℕ, List}
use Rattle.ax_format.specs.Reader.{members_value}
use Rattle.ax_format.specs.Tree.{MembersTree, no_members, member_and, MemberTree, ValueTree, ValuesTree, no_values, value_and}

abbrev pub member_alone : MemberTree → MembersTree
member_alone m = member_and m no_members

abbrev pub value_alone : ValueTree → ValuesTree
value_alone v = value_and v no_values

-- the value that the first of these bits spell
abbrev pub IsMemberValue : MemberTree → List ℕ → ValueTree → Type 0
IsMemberValue m b v = value_alone v ≡ members_value (member_alone m) b
