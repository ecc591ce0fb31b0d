-- Trees of the fixed kinds and members of the code.
use Rattle.std.proofs.Common.{◌≡◌, ℕ, List, sym, ◌∙◌, ap}
use Rattle.ax_format.proofs.VariantTrees.{element_tree as of_element, group_tree as of_group}
use Rattle.ax_format.specs.Plain.{fixed_tree, member_tree, members_tree, fixed_step, member_step}
use Rattle.ax_format.specs.Tree.{FixedTree, element, group, MemberTree, named, spare}
use Rattle.ax_format.specs.declared.content.Content.{Content}
use Rattle.ax_format.specs.declared.kind.Fixed.{Fixed}
use Rattle.ax_format.specs.declared.kind.Fixed.TheOpen.{Member-F}
use Rattle.ax_format.specs.declared.kind.Fixed.TheVariants.{Element, Group}
use Rattle.ax_format.specs.declared.kind.Member.{Member, fold-roll-Member}
use Rattle.ax_format.specs.declared.kind.Member.TheVariants.{Named, Spare, rolls-Named, rolls-Spare}

pub element_tree : (fixed : Fixed) (w : ℕ) (c : Content) → fixed ≡ Element w c → fixed_tree fixed ≡ element w c
element_tree fixed w c e = ap fixed_tree e ∙ of_element w c

pub group_tree : (fixed : Fixed) (ms : List Member) → fixed ≡ Group ms → fixed_tree fixed ≡ group (members_tree ms)
group_tree fixed ms e = ap fixed_tree e ∙ of_group ms

pub named_tree : (member : Member) (name : List ℕ) (f : Fixed) → member ≡ Named name f → member_tree member ≡ named name (fixed_tree f)
named_tree member name f e = ap member_tree e ∙ ap member_tree (sym (rolls-Named name f)) ∙ fold-roll-Member FixedTree MemberTree fixed_step member_step (Member-F.Named name f)

pub spare_tree : (member : Member) (w : ℕ) → member ≡ Spare w → member_tree member ≡ spare w
spare_tree member w e = ap member_tree e ∙ ap member_tree (sym (rolls-Spare w)) ∙ fold-roll-Member FixedTree MemberTree fixed_step member_step (Member-F.Spare w)
