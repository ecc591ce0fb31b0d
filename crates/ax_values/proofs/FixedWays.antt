-- Each way through the readers of fixed kinds.
use Rattle.std.proofs.Common.{◌≡◌, ℕ, ◌+◌, ◌≤◌, List, take, sym, ◌∙◌, ap, subst, IfOk, Result}
use Rattle.std.proofs.lemmas.Result.{IfOk-weaker}
use Rattle.ax_bits.specs.Bits.{number_of}
use Rattle.ax_format.proofs.VariantTrees.{element_tree, group_tree, number_value, group_value}
use Rattle.ax_format.specs.InBounds.{IsWidth, FixedInBounds}
use Rattle.ax_format.specs.Plain.{fixed_tree, member_tree, members_tree, fixed_step, member_step, value_tree, values_tree}
use Rattle.ax_format.specs.Reader.{fixed_value, members_value}
use Rattle.ax_format.specs.Tree.{FixedTree, element, group, MemberTree, named, spare, no_members, member_and, number, member_values, no_values, value_and}
use Rattle.ax_format.specs.Widths.{width, members_width}
use Rattle.ax_format.specs.declared.content.Content.{Content}
use Rattle.ax_format.specs.declared.kind.Fixed.{Fixed}
use Rattle.ax_format.specs.declared.kind.Fixed.TheOpen.{Member-F}
use Rattle.ax_format.specs.declared.kind.Fixed.TheVariants.{Element, Group}
use Rattle.ax_format.specs.declared.kind.Member.{Member, fold-roll-Member}
use Rattle.ax_format.specs.declared.kind.Member.TheVariants.{Named, Spare, rolls-Named, rolls-Spare}
use Rattle.ax_format.specs.declared.value.Value.{Value}
use Rattle.ax_format.specs.declared.value.Value.TheVariants as ValueOf

-- ---- the trees of the code's variants

element_is : (fixed : Fixed) (w : ℕ) (c : Content) → fixed ≡ Element w c → fixed_tree fixed ≡ element w c
element_is fixed w c e = ap fixed_tree e ∙ element_tree w c

group_is : (fixed : Fixed) (ms : List Member) → fixed ≡ Group ms → fixed_tree fixed ≡ group (members_tree ms)
group_is fixed ms e = ap fixed_tree e ∙ group_tree ms

named_is : (member : Member) (name : List ℕ) (f : Fixed) → member ≡ Named name f → member_tree member ≡ named name (fixed_tree f)
named_is member name f e = ap member_tree e ∙ ap member_tree (sym (rolls-Named name f)) ∙ fold-roll-Member FixedTree MemberTree fixed_step member_step (Member-F.Named name f)

spare_is : (member : Member) (w : ℕ) → member ≡ Spare w → member_tree member ≡ spare w
spare_is member w e = ap member_tree e ∙ ap member_tree (sym (rolls-Spare w)) ∙ fold-roll-Member FixedTree MemberTree fixed_step member_step (Member-F.Spare w)

-- ---- elements and groups

pub element_bounds : (fixed : Fixed) (w : ℕ) (c : Content) → fixed ≡ Element w c → FixedInBounds (fixed_tree fixed) → IsWidth w
element_bounds fixed w c e h = subst FixedInBounds (element_is fixed w c e) h

pub element_within : (fixed : Fixed) (w : ℕ) (c : Content) (at most : ℕ) → fixed ≡ Element w c → at + width (fixed_tree fixed) ≤ most → at + w ≤ most
element_within fixed w c at most e h = subst (λ f. at + width f ≤ most) (element_is fixed w c e) h

pub element_read : (fixed : Fixed) (w n : ℕ) (c : Content) (b : List ℕ) → fixed ≡ Element w c → number n ≡ number (number_of (take w b)) → value_tree (ValueOf.Number n) ≡ fixed_value (fixed_tree fixed) b
element_read fixed w n c b e h = number_value n ∙ h ∙ ap (λ f. fixed_value f b) (sym (element_is fixed w c e))

pub element_end : (fixed : Fixed) (w : ℕ) (c : Content) (at end : ℕ) → fixed ≡ Element w c → end ≡ at + w → end ≡ at + width (fixed_tree fixed)
element_end fixed w c at end e h = subst (λ f. end ≡ at + width f) (sym (element_is fixed w c e)) h

pub group_read : (fixed : Fixed) (ms : List Member) (made : List Value) (b : List ℕ) → fixed ≡ Group ms → values_tree made ≡ members_value (members_tree ms) b → value_tree (ValueOf.Group made) ≡ fixed_value (fixed_tree fixed) b
group_read fixed ms made b e h = group_value made ∙ ap (λ vs. member_values vs) h ∙ ap (λ f. fixed_value f b) (sym (group_is fixed ms e))

pub group_end : (fixed : Fixed) (ms : List Member) (at end : ℕ) → fixed ≡ Group ms → end ≡ at + members_width (members_tree ms) → end ≡ at + width (fixed_tree fixed)
group_end fixed ms at end e h = subst (λ f. end ≡ at + width f) (sym (group_is fixed ms e)) h

-- ---- members

pub named_read : {E : Type 0} (member : Member) (name : List ℕ) (f : Fixed) (r : Result Value E) (b : List ℕ) → member ≡ Named name f → IfOk r (λ v. value_tree v ≡ fixed_value (fixed_tree f) b)
    → IfOk r (λ v. value_and (value_tree v) no_values ≡ members_value (member_and (member_tree member) no_members) b)
named_read member name f r b e h =
    IfOk-weaker r (λ v. value_tree v ≡ fixed_value (fixed_tree f) b) (λ v. value_and (value_tree v) no_values ≡ members_value (member_and (member_tree member) no_members) b)
    (λ v is. ap (λ x. value_and x no_values) is ∙ ap (λ m. members_value (member_and m no_members) b) (sym (named_is member name f e))) h

pub spare_read : (member : Member) (w n : ℕ) (b : List ℕ) → member ≡ Spare w → number n ≡ number (number_of (take w b)) → value_and (value_tree (ValueOf.Number n)) no_values ≡ members_value (member_and (member_tree member) no_members) b
spare_read member w n b e h = ap (λ x. value_and x no_values) (number_value n ∙ h) ∙ ap (λ m. members_value (member_and m no_members) b) (sym (spare_is member w e))
