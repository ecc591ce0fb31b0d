-- The ways out of the functions that list fixed kinds.
use Rattle.std.proofs.Common.{◌≡◌, ℕ, List, ◌∷◌, length, refl, ◌∙◌, ap, subst}
use Rattle.ax_format.specs.Plain.{member_tree, members_tree, value_tree, values_tree}
use Rattle.ax_format.specs.Shape.{MembersShape}
use Rattle.ax_format.specs.Tree.{MembersTree, no_members, member_and, MemberTree, named, spare, ValueTree, ValuesTree, no_values, value_and}
use Rattle.ax_format.specs.declared.kind.Member.{Member}
use Rattle.ax_format.specs.declared.value.Value.{Value}
use Rattle.ax_text_form.specs.Listable.{MemberListable, MembersListable}
use Rattle.ax_text_form.specs.Printing.{as_lines, Puts}
use Rattle.ax_text_form.specs.ShowText.{member_lines, members_lines}
use Rattle.ax_text_form.specs.Slots.{MemberShape}
use Rattle.ax_text_form.specs.ValueText.{Texts}
use Rattle.ax_text_form.proofs.FixedWays.{empty}
use Rattle.ax_text_form.proofs.Printed.{Leaves, leaves_all, leaves_fewer, leaves_none}

first_shape : (m : MemberTree) (ms : MembersTree) (v : ValueTree) (vs : ValuesTree) → MembersShape (member_and m ms) (value_and v vs) → MemberShape m v × MembersShape ms vs
first_shape (named name f) ms v vs h = h
first_shape (spare w) ms v vs h = h

-- members and values that are left
pub record MembersLeft (path : List ℕ) (whole : Texts → Texts) (old now : List ℕ) (ms : List Member) (vs : List Value) : Type 0 where
  pub listable : MembersListable (members_tree ms)
  pub shape : MembersShape (members_tree ms) (values_tree vs)
  pub left : Leaves as_lines whole (members_lines (members_tree ms) path (values_tree vs)) old now

pub members_first : (path : List ℕ) (ms : List Member) (vs : List Value) (out : List ℕ) → MembersListable (members_tree ms) → MembersShape (members_tree ms) (values_tree vs)
    → MembersLeft path (members_lines (members_tree ms) path (values_tree vs)) out out ms vs
members_first path ms vs out l h = record { listable = l; shape = h; left = leaves_all (members_lines (members_tree ms) path (values_tree vs)) out }

at_first : (path : List ℕ) (whole : Texts → Texts) (old now : List ℕ) (m : Member) (left ms : List Member) (v : Value) (right vs : List Value) → MembersLeft path whole old now left right → left ≡ m ∷ ms → right ≡ v ∷ vs → MembersLeft path whole old now (m ∷ ms) (v ∷ vs)
at_first path whole old now m left ms v right vs h e f = subst (λ right. MembersLeft path whole old now (m ∷ ms) right) f (subst (λ left. MembersLeft path whole old now left right) e h)

pub member_listable : (path : List ℕ) (whole : Texts → Texts) (old now : List ℕ) (m : Member) (left ms : List Member) (v : Value) (right vs : List Value) → MembersLeft path whole old now left right → left ≡ m ∷ ms → right ≡ v ∷ vs → MemberListable (member_tree m)
member_listable path whole old now m left ms v right vs h e f = (at_first path whole old now m left ms v right vs h e f).listable.0

pub member_shape : (path : List ℕ) (whole : Texts → Texts) (old now : List ℕ) (m : Member) (left ms : List Member) (v : Value) (right vs : List Value) → MembersLeft path whole old now left right → left ≡ m ∷ ms → right ≡ v ∷ vs → MemberShape (member_tree m) (value_tree v)
member_shape path whole old now m left ms v right vs h e f = (first_shape (member_tree m) (members_tree ms) (value_tree v) (values_tree vs) (at_first path whole old now m left ms v right vs h e f).shape).0

pub member_next : (path : List ℕ) (whole : Texts → Texts) (old now new : List ℕ) (m : Member) (left ms : List Member) (v : Value) (right vs : List Value) → MembersLeft path whole old now left right → left ≡ m ∷ ms → right ≡ v ∷ vs
    → Puts as_lines (member_lines (member_tree m) path (value_tree v)) now new → MembersLeft path whole old new ms vs
member_next path whole old now new m left ms v right vs h e f p =
    let t = at_first path whole old now m left ms v right vs h e f in record {
      listable = t.listable.1;
      shape = (first_shape (member_tree m) (members_tree ms) (value_tree v) (values_tree vs) t.shape).1;
      left = leaves_fewer whole (members_lines (members_tree (m ∷ ms)) path (values_tree (v ∷ vs))) (member_lines (member_tree m) path (value_tree v)) (members_lines (members_tree ms) path (values_tree vs)) old now new t.left (λ rest. refl) p;
    }

no_value_left : (path : List ℕ) (ms : MembersTree) (rest : Texts) → members_lines ms path no_values rest ≡ rest
no_value_left path no_members rest = refl
no_value_left path ms rest = refl

pub members_ended : (path : List ℕ) (whole : Texts → Texts) (old now : List ℕ) (ms : List Member) (vs : List Value) → MembersLeft path whole old now ms vs → length ms ≡ 0 → Puts as_lines whole old now
members_ended path whole old now ms vs h e = leaves_none whole (members_lines (members_tree ms) path (values_tree vs)) old now h.left (λ rest. ap (λ ms. members_lines (members_tree ms) path (values_tree vs) rest) (empty ms e))

pub values_ended : (path : List ℕ) (whole : Texts → Texts) (old now : List ℕ) (ms : List Member) (vs : List Value) → MembersLeft path whole old now ms vs → length vs ≡ 0 → Puts as_lines whole old now
values_ended path whole old now ms vs h e =
    leaves_none whole (members_lines (members_tree ms) path (values_tree vs)) old now h.left (λ rest. ap (λ vs. members_lines (members_tree ms) path (values_tree vs) rest) (empty vs e) ∙ no_value_left path (members_tree ms) rest)

pub ruleset members_ways = (members_first, member_listable, member_shape, members_ended, values_ended)
