-- How deep the braces of texts nest.
use Rattle.std.specs.Prelude.{ℕ, ◌≤◌, List, Bool, IsTrue}
use Rattle.std.specs.Coded.{Unit-prop, le_prop}
use Rattle.std.proofs.Props.{props}
use Rattle.ax_format.specs.Characters.{IsName}
use Rattle.ax_format.specs.Tree.{FixedTree, element, group, MembersTree, no_members, member_and, named, spare}
use Rattle.ax_text_form.specs.Names.{FixedNamed, MembersNamed}
use Rattle.ax_text_form.specs.Tokens.{fixed_nesting, members_nesting}

-- the names are names, and the braces nest at most so deep
abbrev pub FixedWithin : ℕ → FixedTree → Type 0
FixedWithin most f = FixedNamed f × (fixed_nesting f ≤ most)

abbrev pub MembersWithin : ℕ → MembersTree → Type 0
MembersWithin most ms = MembersNamed ms × (members_nesting ms ≤ most)

-- ---- each has one proof at most

IsName-prop : (name : List ℕ) → IsProp (IsName name)
IsName-prop name = Prim.hlevel props

mutual
  FixedNamed-prop : (f : FixedTree) → IsProp (FixedNamed f)
  FixedNamed-prop (element w c) = Unit-prop
  FixedNamed-prop (group ms) = MembersNamed-prop ms

  MembersNamed-prop : (ms : MembersTree) → IsProp (MembersNamed ms)
  MembersNamed-prop no_members x y = Unit-prop x y
  MembersNamed-prop (member_and (spare w) ms) x y = MembersNamed-prop ms x y
  MembersNamed-prop (member_and (named name f) ms) x y = λ i. (IsName-prop name x.0 y.0 i, FixedNamed-prop f x.1 y.1 i, MembersNamed-prop ms x.2 y.2 i)

pub FixedShallow-prop : (shallow : Bool) (f : FixedTree) → IsProp (IsTrue shallow → FixedWithin 8 f)
FixedShallow-prop shallow f p q = λ i t. (FixedNamed-prop f (p t).0 (q t).0 i, le_prop (p t).1 (q t).1 i)

pub MembersShallow-prop : (shallow : Bool) (ms : MembersTree) → IsProp (IsTrue shallow → MembersWithin 8 ms)
MembersShallow-prop shallow ms p q = λ i t. (MembersNamed-prop ms (p t).0 (q t).0 i, le_prop (p t).1 (q t).1 i)

pub NamedShallow-prop : (shallow : Bool) (name : List ℕ) (f : FixedTree) → IsProp (IsTrue shallow → IsName name × FixedWithin 8 f)
NamedShallow-prop shallow name f p q = λ i t. (IsName-prop name (p t).0 (q t).0 i, (FixedNamed-prop f (p t).1.0 (q t).1.0 i, le_prop (p t).1.1 (q t).1.1 i))
