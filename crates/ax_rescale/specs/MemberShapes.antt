-- Which values a member of a group has.
use Rattle.ax_format.specs.Shape.{NumberShape, FixedShape}
use Rattle.ax_format.specs.Tree.{MemberTree, named, spare, ValueTree}

abbrev pub MemberShape : MemberTree → ValueTree → Type 0
MemberShape (named name f) v = FixedShape f v
MemberShape (spare w) v = NumberShape w v
