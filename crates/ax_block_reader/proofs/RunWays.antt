-- Each way through the reader of an item that repeats by FX.
use Rattle.std.proofs.Common.{◌≡◌, ◌⊎◌, inl, inr, List, [], ◌∷◌, ◌++◌, refl, sym, ◌∙◌, ap, subst, arith}
use Rattle.ax_tokens.specs.Stopping.{Texts, Stops, IsNotFirst, Then}
use Rattle.ax_tokens.specs.declared.stopped.Stopped.{Stopped}
use Rattle.ax_tokens.proofs.Stops.{BeginsWith}
use Rattle.ax_format.specs.Plain.{value_tree, values_tree}
use Rattle.ax_format.specs.Shape.{FixedShape, EachShape}
use Rattle.ax_format.specs.Tree.{FixedTree, ValueTree, ValuesTree, no_values, value_and}
use Rattle.ax_format.specs.declared.value.Value.{Value}
use Rattle.ax_text_form.specs.Readable.{FixedReadable}
use Rattle.ax_text_form.specs.ValueText.{closing, fixed_onto}
use Rattle.ax_block_reader.specs.Continuing.{Continues, Spelled, IsRead}
use Rattle.ax_block_reader.specs.Languages.{fixed_texts, each_texts, SomeOf}
use Rattle.ax_block_reader.proofs.Continuations.{same_read, same_front}
use Rattle.ax_block_reader.proofs.Collecting.{Collects, none_collected, more_collected, all_collected, same_put, left_lacks, one_collected, one_lacks, skip_collected, Closes, closing_read, closing_cut}
use Rattle.ax_block_reader.proofs.Firsts.{fixed_first, each_closes}
use Rattle.ax_block_reader.proofs.MemberWays.{values_before, before_none, before_more}
use Rattle.ax_text_form.proofs.Onto.{fixed_more}

module _ (f : FixedTree) where
  abbrev S : ValueTree → Type 0
  S = FixedShape f

  abbrev spell : ValuesTree → Texts
  spell = each_texts (fixed_onto f)

  abbrev Parts : Texts → Type 0
  Parts = Then (Spelled S (fixed_texts f)) (Spelled (EachShape S) spell)

  some_f : (t : Texts) → Parts t → Spelled (SomeOf S) spell t
  some_f t (a, b, e, (v, h, q), (vs, g, r)) = (value_and v vs, (omega arith, (h, g)), e ∙ ap (λ x. x ++ b) q ∙ fixed_more f v [] b ∙ ap (fixed_onto f v) r)

  some_back : (t : Texts) (vs : ValuesTree) → SomeOf S vs → t ≡ spell vs → Parts t
  some_back t no_values h e = absurd (omega (arith, h.0))
  some_back t (value_and v vs) h e = (fixed_texts f v, spell vs, e ∙ sym (fixed_more f v [] (spell vs)), (v, h.1.0, refl), (vs, h.1.1, refl))

  some_start : (old : Texts) → Continues (Spelled (SomeOf S) spell) Parts old old
  some_start old = same_read (Spelled (SomeOf S) spell) Parts old old some_f (λ t m. some_back t m.0 m.1 m.2) refl

  start_front : (old : Texts) → (some_start old).front ≡ []
  unfolding some_start
  start_front old = same_front (Spelled (SomeOf S) spell) Parts old old some_f (λ t m. some_back t m.0 m.1 m.2) refl

  more_back : (t : Texts) (vs : ValuesTree) → EachShape S vs → t ≡ spell vs → BeginsWith closing t ⊎ Spelled (SomeOf S) spell t
  more_back t no_values h e = inl ([], e)
  more_back t (value_and v vs) h e = inr (value_and v vs, (omega arith, h), e)

  -- values were read, and a value must come
  pub record RunRead (made : List Value) (old now : Texts) : Type 0 where
    pub read : Collects (SomeOf S) (SomeOf S) spell spell (values_before made) old now

  pub no_value_read : (made : List Value) (old now : Texts) → made ≡ [] → now ≡ old → RunRead made old now
  no_value_read made old now e same = subst (λ m. RunRead m old now) (sym e) (record { read = same_put _ _ _ _ (λ vs. vs) (values_before []) old now (λ vs. refl) (none_collected (SomeOf S) spell old now same) })

  pub value_lacks : (made : List Value) (stopped : Stopped) (old now new : Texts) → RunRead made old now → Stops stopped (Spelled S (fixed_texts f)) now new → Stops stopped (Spelled (SomeOf S) spell) old new
  value_lacks made stopped old now new r s =
      left_lacks (SomeOf S) (SomeOf S) spell spell (values_before made) stopped old now new r.read
      (one_lacks (SomeOf S) (EachShape S) spell spell S (fixed_texts f) (closing ∷ []) stopped now now new (some_start now) (no_values, tt, refl) s)

  -- and one more
  pub record OneMore (made : List Value) (old now : Texts) : Type 0 where
    pub read : Collects (SomeOf S) (EachShape S) spell spell (values_before made) old now

  pub value_read : (made more : List Value) (v : Value) (old now new : Texts) → RunRead made old now → IsRead S (fixed_texts f) (value_tree v) now new → more ≡ made ++ v ∷ [] → OneMore more old new
  value_read made more v old now new r one pushed =
      let step = one_collected (SomeOf S) (EachShape S) spell spell S (fixed_texts f) value_and (value_tree v) [] now now new (some_start now) (start_front now)
      (λ vs h g. (omega arith, (h, g))) (λ vs h g. sym (fixed_more f (value_tree v) [] (spell vs))) one in
      subst (λ m. OneMore m old new) (sym pushed) (record {
        read = same_put _ _ _ _ (λ vs. values_before made (value_and (value_tree v) vs)) (values_before (made ++ v ∷ [])) old new (λ vs. before_more made v vs)
            (more_collected (SomeOf S) (SomeOf S) (EachShape S) spell spell spell (values_before made) (value_and (value_tree v)) old now new r.read step);
      })

  pub run_goes_on : (made : List Value) (old mid new : Texts) → OneMore made old mid → new ≡ mid → IsNotFirst (λ text. text ≡ closing) mid → RunRead made old new
  run_goes_on made old mid new r same n = record {
    read = more_collected (SomeOf S) (EachShape S) (SomeOf S) spell spell spell (values_before made) (λ vs. vs) old mid new r.read
        (skip_collected (EachShape S) (SomeOf S) spell spell closing mid new (λ vs h. h.1) (λ vs h. refl) (λ t m. more_back t m.0 m.1 m.2) n same);
  }

  closes : FixedReadable f → Closes (EachShape S) spell no_values
  closes r = each_closes S (fixed_onto f) (λ v x h. fixed_first f v x r h)

  pub run_cut : (made : List Value) (stopped : Stopped) (old mid new : Texts) → FixedReadable f → OneMore made old mid → mid ≡ [] → new ≡ [] → Stops stopped (Spelled (SomeOf S) spell) old new
  run_cut made stopped old mid new r one e g = left_lacks (SomeOf S) (EachShape S) spell spell (values_before made) stopped old mid new one.read (closing_cut (EachShape S) spell no_values stopped mid new (closes r) e g)

  pub run_ends : (made : List Value) (old mid new : Texts) → FixedReadable f → OneMore made old mid → mid ≡ closing ∷ new → IsRead (SomeOf S) spell (values_tree made) old new
  run_ends made old mid new r one e =
      subst (λ vs. IsRead (SomeOf S) spell vs old new) (before_none made)
      (all_collected (SomeOf S) (EachShape S) spell spell (values_before made) no_values old mid new one.read (closing_read (EachShape S) spell no_values mid new (closes r) e))

pub ruleset run_ways = (no_value_read, value_lacks)
