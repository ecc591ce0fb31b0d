-- The plain trees of what is held of fixed kinds and their members: those of what it was made of.
use Rattle.std.specs.Prelude.{List, map}
use Rattle.ax_format.specs.Tree.{FixedTree, element, group, MembersTree, MemberTree, named, spare, members_of}
use Rattle.ax_format.specs.declared.content.Content.{Content}
use Rattle.ax_held_kinds.specs.declared.kinds.HeldContent.{HeldContent}
use Rattle.ax_held_kinds.specs.declared.kinds.HeldContent.TheVariants as Held
use Rattle.ax_held_kinds.specs.declared.kinds.HeldFixed.{HeldFixed, fold-HeldFixed}
use Rattle.ax_held_kinds.specs.declared.kinds.HeldFixed.TheOpen.{HeldFixed-F, HeldMember-F}
use Rattle.ax_held_kinds.specs.declared.kinds.HeldMember.{HeldMember, fold-HeldMember}

abbrev pub held_content : HeldContent → Content
held_content (Held.Plain content) = content.now
held_content (Held.Table table) = Content.Table table.entries.now
held_content (Held.Quantity quantity) = Content.Quantity quantity.scale.now

abbrev pub fixed_step : HeldFixed-F FixedTree MemberTree → FixedTree
fixed_step (HeldFixed-F.Element w c) = element w (held_content c)
fixed_step (HeldFixed-F.Group ms) = group (members_of ms)

abbrev pub member_step : HeldMember-F FixedTree MemberTree → MemberTree
member_step (HeldMember-F.Named name f) = named name f
member_step (HeldMember-F.Short s) = named s.name (element s.width s.content.now)
member_step (HeldMember-F.Spare w) = spare w

abbrev pub held_fixed : HeldFixed → FixedTree
held_fixed f = fold-HeldFixed FixedTree MemberTree fixed_step member_step f

abbrev pub held_member : HeldMember → MemberTree
held_member m = fold-HeldMember FixedTree MemberTree fixed_step member_step m

abbrev pub held_members : List HeldMember → MembersTree
held_members ms = members_of (map held_member ms)
