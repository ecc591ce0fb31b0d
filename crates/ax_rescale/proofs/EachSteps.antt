-- Occurrences converted one after another.
use Rattle.std.proofs.Common.{◌≡◌, List, [], ◌∷◌, ◌++◌, sym, subst}
use Rattle.ax_format.specs.Plain.{value_tree, values_tree}
use Rattle.ax_format.specs.Shape.{EachShape}
use Rattle.ax_format.specs.Tree.{KindTree, counted, by_fx, compound, FixedTree, SlotsTree, ValueTree, occurrences, marked, ValuesTree, no_values, value_and, EntriesTree}
use Rattle.ax_format.specs.declared.kind.Counter.{Counter}
use Rattle.ax_format.specs.declared.value.Value.{Value}
use Rattle.ax_rescale.proofs.GroupSteps.{Goes, goes_on, goes_all, goes_nowhere, goes_start}
use Rattle.ax_rescale.specs.Converted.{FixedConverted, EachConverted, Converted, EntriesConverted}

pub record EachGo (A : ValueTree → Type 0) (R : ValueTree → ValueTree → Type 0) (vs : ValuesTree) (made rest : List Value) : Type 0 where
  shape : EachShape A (values_tree rest)
  goes : Goes (EachConverted R vs) (EachConverted R (values_tree rest)) made

pub each_start : (A : ValueTree → Type 0) (R : ValueTree → ValueTree → Type 0) (vs : List Value) → EachShape A (values_tree vs) → EachGo A R (values_tree vs) [] vs
each_start A R vs h = record { shape = h; goes = goes_start (EachConverted R (values_tree vs)) }

first_value : (R : ValueTree → ValueTree → Type 0) (v : ValueTree) (vs x : ValuesTree) → EachConverted R (value_and v vs) x → (y : ValuesTree) × EachConverted R vs y
first_value R v vs no_values h = absurd h
first_value R v vs (value_and x xs) h = (xs, h.1)

no_first_value : (R : ValueTree → ValueTree → Type 0) (v : ValueTree) (vs : ValuesTree) → ((x : ValueTree) → R v x → ⊥) → (x : ValuesTree) → EachConverted R (value_and v vs) x → ⊥
no_first_value R v vs none no_values h = absurd h
no_first_value R v vs none (value_and x xs) h = none x h.0

module _ (A : ValueTree → Type 0) (R : ValueTree → ValueTree → Type 0) (vs : ValuesTree) (made : List Value) (v : Value) (later rest : List Value) (g : EachGo A R vs made rest) (e : rest ≡ v ∷ later) where
  opened : EachGo A R vs made (v ∷ later)
  opened = let P : List Value → Type 0 = λ x. EachGo A R vs made x in subst P e g

  pub each_ready : A (value_tree v)
  each_ready = opened.shape.0

  pub each_made : (one : Value) (now : List Value) → now ≡ made ++ one ∷ [] → R (value_tree v) (value_tree one) → EachGo A R vs now later
  each_made one now is c =
      let P : List Value → Type 0 = λ x. EachGo A R vs x later in subst P (sym is) record {
        shape = opened.shape.1;
        goes = goes_on (EachConverted R vs) (EachConverted R (values_tree (v ∷ later))) (EachConverted R (values_tree later)) made one opened.goes (λ y r. (c, r)) (first_value R (value_tree v) (values_tree later));
      }

  pub each_none : ((x : ValueTree) → R (value_tree v) x → ⊥) → (x : ValuesTree) → EachConverted R vs x → ⊥
  each_none none = goes_nowhere (EachConverted R vs) (EachConverted R (values_tree (v ∷ later))) made opened.goes (no_first_value R (value_tree v) (values_tree later) none)

pub each_all : (A : ValueTree → Type 0) (R : ValueTree → ValueTree → Type 0) (vs : ValuesTree) (made rest : List Value) → EachGo A R vs made rest → rest ≡ [] → EachConverted R vs (values_tree made)
each_all A R vs made [] g e = goes_all (EachConverted R vs) (EachConverted R no_values) made g.goes tt
each_all A R vs made (v ∷ rest) g e = absurd (cc)

-- ---- a kind without converted values inside has none itself

pub no_occurrences : (size other : Counter) (k l : KindTree) (vs : ValuesTree) → ((xs : ValuesTree) → EachConverted (Converted k l) vs xs → ⊥) → (v : ValueTree) → Converted (counted size k) (counted other l) (occurrences vs) v → ⊥
no_occurrences size other k l vs none (occurrences xs) h = none xs h
no_occurrences size other k l vs none _ h = absurd h

pub no_run : (f g : FixedTree) (vs : ValuesTree) → ((xs : ValuesTree) → EachConverted (FixedConverted f g) vs xs → ⊥) → (v : ValueTree) → Converted (by_fx f) (by_fx g) (occurrences vs) v → ⊥
no_run f g vs none (occurrences xs) h = none xs h
no_run f g vs none _ h = absurd h

pub no_compound : (ss ts : SlotsTree) (es : EntriesTree) → ((xs : EntriesTree) → EntriesConverted 1 ss ts es xs → ⊥) → (v : ValueTree) → Converted (compound ss) (compound ts) (marked es) v → ⊥
no_compound ss ts es none (marked xs) h = none xs h
no_compound ss ts es none _ h = absurd h

pub ruleset no_values_made = (no_occurrences, no_run, no_compound)
