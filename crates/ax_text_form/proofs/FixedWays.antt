-- The ways out of the functions that print fixed kinds.
use Rattle.std.proofs.Common.{◌≡◌, ℕ, List, [], ◌∷◌, length, refl, ◌∙◌, ap, arith}
use Rattle.ax_format.specs.Plain.{member_tree, members_tree, value_tree, values_tree}
use Rattle.ax_format.specs.Tree.{MembersTree, no_members, no_values}
use Rattle.ax_format.specs.declared.kind.Member.{Member}
use Rattle.ax_format.specs.declared.value.Value.{Value}
use Rattle.ax_text_form.specs.Printing.{after_spaces, Puts}
use Rattle.ax_text_form.specs.ValueText.{Texts, member_onto, members_onto}
use Rattle.ax_text_form.proofs.Printed.{none_put, both_put, braces_put, Leaves, leaves_all, leaves_fewer, leaves_none}

pub ruleset fixed_ways = (none_put, braces_put)

pub ruleset member_ways = (none_put, both_put)

-- ---- members

abbrev pub some_members : List Member → List Value → Texts → Texts
some_members ms vs = members_onto (members_tree ms) (values_tree vs)

pub members_first : (ms : List Member) (vs : List Value) (out : List ℕ) → Leaves after_spaces (some_members ms vs) (some_members ms vs) out out
members_first ms vs out = leaves_all (some_members ms vs) out

pub member_next : (whole : Texts → Texts) (old now new : List ℕ) (m : Member) (left ms : List Member) (v : Value) (right vs : List Value) → Leaves after_spaces whole (some_members left right) old now → left ≡ m ∷ ms → right ≡ v ∷ vs
    → Puts after_spaces (member_onto (member_tree m) (value_tree v)) now new → Leaves after_spaces whole (some_members ms vs) old new
member_next whole old now new m left ms v right vs h e f p =
    leaves_fewer whole (some_members left right) (member_onto (member_tree m) (value_tree v)) (some_members ms vs) old now new h (λ rest. (λ i. some_members (e i) (f i) rest)) p

no_value_left : (ms : MembersTree) (rest : Texts) → members_onto ms no_values rest ≡ rest
no_value_left no_members rest = refl
no_value_left ms rest = refl

pub empty : {A : Type 0} (xs : List A) → length xs ≡ 0 → xs ≡ []
empty [] e = refl
empty (x ∷ xs) e = absurd (omega (arith, e))

pub members_ended : (whole : Texts → Texts) (old now : List ℕ) (ms : List Member) (vs : List Value) → Leaves after_spaces whole (some_members ms vs) old now → length ms ≡ 0 → Puts after_spaces whole old now
members_ended whole old now ms vs h e = leaves_none whole (some_members ms vs) old now h (λ rest. ap (λ ms. some_members ms vs rest) (empty ms e))

pub values_ended : (whole : Texts → Texts) (old now : List ℕ) (ms : List Member) (vs : List Value) → Leaves after_spaces whole (some_members ms vs) old now → length vs ≡ 0 → Puts after_spaces whole old now
values_ended whole old now ms vs h e = leaves_none whole (some_members ms vs) old now h (λ rest. ap (λ vs. some_members ms vs rest) (empty vs e) ∙ no_value_left (members_tree ms) rest)

pub ruleset members_ways = (members_first, members_ended, values_ended)
