-- The values of a counted kind, converted one by one.
use Rattle.std.proofs.Common.{◌≡◌, List, Box, Global, sym, ◌∙◌, ap, subst}
use Rattle.ax_format.proofs.VariantTrees.{counted_tree, repeat_value}
use Rattle.ax_format.specs.Plain.{kind_tree, value_tree, values_tree}
use Rattle.ax_format.specs.Shape.{Shape, EachShape}
use Rattle.ax_format.specs.Tree.{counted, KindTree, ValueTree, occurrences, ValuesTree}
use Rattle.ax_format.specs.declared.kind.Counter.{Counter}
use Rattle.ax_format.specs.declared.kind.Kind.{Kind}
use Rattle.ax_format.specs.declared.kind.Kind.TheVariants as KindOf
use Rattle.ax_format.specs.declared.value.Value.{Value}
use Rattle.ax_format.specs.declared.value.Value.TheVariants as ValueOf
use Rattle.ax_rescale.proofs.EachSteps.{no_occurrences}
use Rattle.ax_rescale.specs.Converted.{EachConverted, Converted}
use Rattle.ax_rescale.specs.Scales.{Scaled}

pub counted_is : (old k : Kind) (size : Counter) (inner : Box Kind Global) → old ≡ KindOf.Counted size inner → k ≡ inner.value → kind_tree old ≡ counted size (kind_tree k)
counted_is old k size inner e is = ap kind_tree e ∙ counted_tree size inner ∙ ap (λ x. counted size (kind_tree x)) (sym is)

repeat_is : (v : Value) (vs : List Value) → v ≡ ValueOf.Repeat vs → value_tree v ≡ occurrences (values_tree vs)
repeat_is v vs e = ap value_tree e ∙ repeat_value vs

pub scaled_inner : (old k : Kind) (size : Counter) (inner : Box Kind Global) → old ≡ KindOf.Counted size inner → k ≡ inner.value → Scaled (kind_tree old) → Scaled (kind_tree k)
scaled_inner old k size inner e is h = subst Scaled (counted_is old k size inner e is) h

pub shape_inner : (old k : Kind) (size : Counter) (inner : Box Kind Global) (v : Value) (vs : List Value) → old ≡ KindOf.Counted size inner → k ≡ inner.value → v ≡ ValueOf.Repeat vs
    → Shape (kind_tree old) (value_tree v) → EachShape (Shape (kind_tree k)) (values_tree vs)
shape_inner old k size inner v vs e is r h =
    let P : KindTree → Type 0 = λ x. Shape x (value_tree v) in
    let Q : ValueTree → Type 0 = λ x. Shape (counted size (kind_tree k)) x in (subst Q (repeat_is v vs r) (subst P (counted_is old k size inner e is) h)).1

module _ (old k : Kind) (size : Counter) (inner : Box Kind Global) (new l : Kind) (other : Counter) (own : Box Kind Global) (v : Value) (vs : List Value) where
  pub none_inner : old ≡ KindOf.Counted size inner → k ≡ inner.value → new ≡ KindOf.Counted other own → l ≡ own.value → v ≡ ValueOf.Repeat vs
      → ((xs : ValuesTree) → EachConverted (Converted (kind_tree k) (kind_tree l)) (values_tree vs) xs → ⊥) → (x : ValueTree) → Converted (kind_tree old) (kind_tree new) (value_tree v) x → ⊥
  none_inner a b c d e none x h =
      let P : KindTree → Type 0 = λ y. Converted y (kind_tree new) (value_tree v) x in
      let Q : KindTree → Type 0 = λ y. Converted (counted size (kind_tree k)) y (value_tree v) x in
      let R : ValueTree → Type 0 = λ y. Converted (counted size (kind_tree k)) (counted other (kind_tree l)) y x in
      no_occurrences size other (kind_tree k) (kind_tree l) (values_tree vs) none x (subst R (repeat_is v vs e) (subst Q (counted_is new l other own c d) (subst P (counted_is old k size inner a b) h)))

  pub made_inner : (made : List Value) → old ≡ KindOf.Counted size inner → k ≡ inner.value → new ≡ KindOf.Counted other own → l ≡ own.value → v ≡ ValueOf.Repeat vs
      → EachConverted (Converted (kind_tree k) (kind_tree l)) (values_tree vs) (values_tree made) → Converted (kind_tree old) (kind_tree new) (value_tree v) (value_tree (ValueOf.Repeat made))
  made_inner made a b c d e h =
      let P : KindTree → Type 0 = λ y. Converted y (kind_tree new) (value_tree v) (value_tree (ValueOf.Repeat made)) in
      let Q : KindTree → Type 0 = λ y. Converted (counted size (kind_tree k)) y (value_tree v) (value_tree (ValueOf.Repeat made)) in
      let R : ValueTree → Type 0 = λ y. Converted (counted size (kind_tree k)) (counted other (kind_tree l)) y (value_tree (ValueOf.Repeat made)) in
      let S : ValueTree → Type 0 = λ y. Converted (counted size (kind_tree k)) (counted other (kind_tree l)) (occurrences (values_tree vs)) y in
      subst P (sym (counted_is old k size inner a b)) (subst Q (sym (counted_is new l other own c d)) (subst R (sym (repeat_is v vs e)) (subst S (sym (repeat_value made)) h)))
