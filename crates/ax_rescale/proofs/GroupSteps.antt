-- The values of a group converted one after another.
use Rattle.std.proofs.Common.{◌≡◌, List, [], ◌∷◌, ◌++◌, length, refl, sym, ap, subst, Option, Some, None}
use Rattle.std.specs.Prelude.{IfSome, IfNone, MatchOption}
use Rattle.ax_format.specs.Plain.{member_tree, members_tree, value_tree, values_tree}
use Rattle.ax_format.specs.Shape.{MembersShape}
use Rattle.ax_format.specs.Tree.{group, MemberTree, MembersTree, no_members, member_and, named, spare, ValueTree, member_values, ValuesTree, no_values, value_and}
use Rattle.ax_format.specs.declared.kind.Member.{Member}
use Rattle.ax_format.specs.declared.value.Value.{Value}
use Rattle.ax_rescale.specs.Converted.{FixedConverted, MemberConverted, MembersConverted}
use Rattle.ax_rescale.specs.MemberShapes.{MemberShape}
use Rattle.ax_rescale.specs.Scales.{MemberScaled, MembersScaled}

pub no_group : (ms ns : MembersTree) (vs : ValuesTree) → ((xs : ValuesTree) → MembersConverted ms ns vs xs → ⊥) → (v : ValueTree) → FixedConverted (group ms) (group ns) (member_values vs) v → ⊥
no_group ms ns vs none (member_values xs) h = none xs h
no_group ms ns vs none _ h = absurd h

-- values in front of others
abbrev pub before : List Value → ValuesTree → ValuesTree
before [] y = y
before (v ∷ vs) y = value_and (value_tree v) (before vs y)

pub before_one : (made : List Value) (one : Value) (y : ValuesTree) → before made (value_and (value_tree one) y) ≡ before (made ++ one ∷ []) y
before_one [] one y = refl
before_one (v ∷ vs) one y = ap (value_and (value_tree v)) (before_one vs one y)

pub before_none : (made : List Value) → before made no_values ≡ values_tree made
before_none [] = refl
before_none (v ∷ vs) = ap (value_and (value_tree v)) (before_none vs)

-- what is left to convert, once the first values are made
pub record Goes (P Q : ValuesTree → Type 0) (made : List Value) : Type 0 where
  on : (y : ValuesTree) → Q y → P (before made y)
  back : (x : ValuesTree) → P x → (y : ValuesTree) × Q y

pub goes_on : (P Q R : ValuesTree → Type 0) (made : List Value) (one : Value) → Goes P Q made → ((y : ValuesTree) → R y → Q (value_and (value_tree one) y)) → ((x : ValuesTree) → Q x → (y : ValuesTree) × R y) → Goes P R (made ++ one ∷ [])
goes_on P Q R made one g f b = record {
  on = λ y r. subst P (before_one made one y) (g.on (value_and (value_tree one) y) (f y r));
  back = λ x p. let q = g.back x p in b q.0 q.1;
}

pub goes_all : (P Q : ValuesTree → Type 0) (made : List Value) → Goes P Q made → Q no_values → P (values_tree made)
goes_all P Q made g q = subst P (before_none made) (g.on no_values q)

pub goes_nowhere : (P Q : ValuesTree → Type 0) (made : List Value) → Goes P Q made → ((y : ValuesTree) → Q y → ⊥) → (x : ValuesTree) → P x → ⊥
goes_nowhere P Q made g none x p = let q = g.back x p in none q.0 q.1

pub goes_start : (P : ValuesTree → Type 0) → Goes P P []
goes_start P = record { on = λ y q. q; back = λ x p. (x, p) }

-- ---- members

pub record MembersGo (ms ns : MembersTree) (vs : ValuesTree) (made : List Value) (later others : List Member) (rest : List Value) : Type 0 where
  olds : MembersScaled (members_tree later)
  news : MembersScaled (members_tree others)
  shape : MembersShape (members_tree later) (values_tree rest)
  goes : Goes (MembersConverted ms ns vs) (MembersConverted (members_tree later) (members_tree others) (values_tree rest)) made

pub members_start : (ms ns : List Member) (vs : List Value) → MembersScaled (members_tree ms) → MembersScaled (members_tree ns) → MembersShape (members_tree ms) (values_tree vs) → MembersGo (members_tree ms) (members_tree ns) (values_tree vs) [] ms ns vs
members_start ms ns vs a b c = record { olds = a; news = b; shape = c; goes = goes_start (MembersConverted (members_tree ms) (members_tree ns) (values_tree vs)) }

first_member : (m : MemberTree) (ms : MembersTree) (v : ValueTree) (vs : ValuesTree) → MembersShape (member_and m ms) (value_and v vs) → MemberShape m v × MembersShape ms vs
first_member (named name f) ms v vs h = h
first_member (spare w) ms v vs h = h

first_value : (m n : MemberTree) (ms ns : MembersTree) (v : ValueTree) (vs x : ValuesTree) → MembersConverted (member_and m ms) (member_and n ns) (value_and v vs) x → (y : ValuesTree) × MembersConverted ms ns vs y
first_value m n ms ns v vs no_values h = absurd h
first_value m n ms ns v vs (value_and x xs) h = (xs, h.1)

no_first_value : (m n : MemberTree) (ms ns : MembersTree) (v : ValueTree) (vs : ValuesTree) → ((x : ValueTree) → MemberConverted m n v x → ⊥) → (x : ValuesTree) → MembersConverted (member_and m ms) (member_and n ns) (value_and v vs) x → ⊥
no_first_value m n ms ns v vs none no_values h = absurd h
no_first_value m n ms ns v vs none (value_and x xs) h = none x h.0

module _ (ms ns : MembersTree) (vs : ValuesTree) (made : List Value) (m n : Member) (later others olds_left news_left : List Member) (v : Value) (rest values_left : List Value)
    (g : MembersGo ms ns vs made olds_left news_left values_left) (ea : olds_left ≡ m ∷ later) (eb : news_left ≡ n ∷ others) (ec : values_left ≡ v ∷ rest) where
  opened : MembersGo ms ns vs made (m ∷ later) (n ∷ others) (v ∷ rest)
  opened =
      let P : List Member → Type 0 = λ x. MembersGo ms ns vs made x news_left values_left in
      let Q : List Member → Type 0 = λ x. MembersGo ms ns vs made (m ∷ later) x values_left in
      let R : List Value → Type 0 = λ x. MembersGo ms ns vs made (m ∷ later) (n ∷ others) x in subst R ec (subst Q eb (subst P ea g))

  pub member_ready : MemberScaled (member_tree m) × (MemberScaled (member_tree n) × MemberShape (member_tree m) (value_tree v))
  member_ready = (opened.olds.0, (opened.news.0, (first_member (member_tree m) (members_tree later) (value_tree v) (values_tree rest) opened.shape).0))

  pub member_made : (one : Value) (now : List Value) → now ≡ made ++ one ∷ [] → MemberConverted (member_tree m) (member_tree n) (value_tree v) (value_tree one) → MembersGo ms ns vs now later others rest
  member_made one now e c =
      let P : List Value → Type 0 = λ x. MembersGo ms ns vs x later others rest in subst P (sym e) record {
        olds = opened.olds.1;
        news = opened.news.1;
        shape = (first_member (member_tree m) (members_tree later) (value_tree v) (values_tree rest) opened.shape).1;
        goes = goes_on (MembersConverted ms ns vs) (MembersConverted (members_tree (m ∷ later)) (members_tree (n ∷ others)) (values_tree (v ∷ rest))) (MembersConverted (members_tree later) (members_tree others) (values_tree rest)) made one opened.goes
            (λ y r. (c, r)) (first_value (member_tree m) (member_tree n) (members_tree later) (members_tree others) (value_tree v) (values_tree rest));
      }

  pub member_none : ((x : ValueTree) → MemberConverted (member_tree m) (member_tree n) (value_tree v) x → ⊥) → (x : ValuesTree) → MembersConverted ms ns vs x → ⊥
  member_none none = goes_nowhere (MembersConverted ms ns vs) (MembersConverted (members_tree (m ∷ later)) (members_tree (n ∷ others)) (values_tree (v ∷ rest))) made opened.goes
      (no_first_value (member_tree m) (member_tree n) (members_tree later) (members_tree others) (value_tree v) (values_tree rest) none)

pub members_all : (ms ns : MembersTree) (vs : ValuesTree) (made : List Value) (olds_left news_left : List Member) (values_left : List Value) → MembersGo ms ns vs made olds_left news_left values_left
    → olds_left ≡ [] → length news_left ≡ 0 → MembersConverted ms ns vs (values_tree made)
members_all ms ns vs made [] [] [] g e f = goes_all (MembersConverted ms ns vs) (MembersConverted no_members no_members no_values) made g.goes tt
members_all ms ns vs made [] [] (v ∷ rest) g e f = absurd g.shape
members_all ms ns vs made [] (b ∷ bs) values_left g e f = absurd (cc)
members_all ms ns vs made (a ∷ olds_left) news_left values_left g e f = absurd (cc)

pub no_value_left : (ms ns : MembersTree) (vs : ValuesTree) (made : List Value) (m : Member) (later olds_left news_left : List Member) (values_left : List Value) → MembersGo ms ns vs made olds_left news_left values_left
    → olds_left ≡ m ∷ later → length values_left ≡ 0 → ⊥
no_value_left ms ns vs made m later olds_left news_left [] g ea e =
    let P : List Member → Type 0 = λ x. MembersShape (members_tree x) (values_tree []) in subst P ea g.shape
no_value_left ms ns vs made m later olds_left news_left (v ∷ values_left) g ea e = absurd (cc)

fewer : (m : MemberTree) (ms : MembersTree) (vs y : ValuesTree) → MembersConverted (member_and m ms) no_members vs y → ⊥
fewer m ms vs y h = h

more : (n : MemberTree) (ns : MembersTree) (vs y : ValuesTree) → MembersConverted no_members (member_and n ns) vs y → ⊥
more n ns vs y h = h

-- fewer members in the new group
pub no_member_left : (ms ns : MembersTree) (vs : ValuesTree) (made : List Value) (m : Member) (later olds_left news_left : List Member) (values_left : List Value) → MembersGo ms ns vs made olds_left news_left values_left
    → olds_left ≡ m ∷ later → length news_left ≡ 0 → (x : ValuesTree) → MembersConverted ms ns vs x → ⊥
no_member_left ms ns vs made m later [] news_left values_left g ea e = absurd (cc)
no_member_left ms ns vs made m later (a ∷ olds_left) [] values_left g ea e =
    goes_nowhere (MembersConverted ms ns vs) (MembersConverted (members_tree (a ∷ olds_left)) no_members (values_tree values_left)) made g.goes (fewer (member_tree a) (members_tree olds_left) (values_tree values_left))
no_member_left ms ns vs made m later (a ∷ olds_left) (b ∷ bs) values_left g ea e = absurd (cc)

-- more members in the new group
pub members_too_many : (ms ns : MembersTree) (vs : ValuesTree) (made : List Value) (olds_left news_left : List Member) (values_left : List Value) → MembersGo ms ns vs made olds_left news_left values_left
    → olds_left ≡ [] → (length news_left ≡ 0 → ⊥) → (x : ValuesTree) → MembersConverted ms ns vs x → ⊥
members_too_many ms ns vs made [] [] values_left g ea ne = absurd (ne refl)
members_too_many ms ns vs made [] (b ∷ bs) values_left g ea ne =
    goes_nowhere (MembersConverted ms ns vs) (MembersConverted no_members (members_tree (b ∷ bs)) (values_tree values_left)) made g.goes (more (member_tree b) (members_tree bs) (values_tree values_left))
members_too_many ms ns vs made (a ∷ olds_left) news_left values_left g ea ne = absurd (cc)

-- ---- answers

pub if_some : {A : Type 0} (P : A → Type 0) (o : Option A) (x : A) → o ≡ Some x → IfSome o P → P x
if_some {A = A} P o x e h = let Q : Option A → Type 0 = λ y. IfSome y P in subst Q e h

pub if_none : {A : Type 0} (P : Type 0) (o : Option A) → o ≡ None → IfNone o P → P
if_none {A = A} P o e h = let Q : Option A → Type 0 = λ y. IfNone y P in subst Q e h

pub match_some : {A : Type 0} (N : Type 0) (P : A → Type 0) (o : Option A) (x : A) → o ≡ Some x → MatchOption o N P → P x
match_some {A = A} N P o x e h = let Q : Option A → Type 0 = λ y. MatchOption y N P in subst Q e h

pub match_none : {A : Type 0} (N : Type 0) (P : A → Type 0) (o : Option A) → o ≡ None → MatchOption o N P → N
match_none {A = A} N P o e h = let Q : Option A → Type 0 = λ y. MatchOption y N P in subst Q e h
