-- Each way through the reader of a counted item.
use Rattle.std.proofs.Common.{◌≡◌, ℕ, suc, ◌⊎◌, inl, inr, List, [], ◌∷◌, ◌++◌, refl, sym, ◌∙◌, ap, subst, arith}
use Rattle.ax_tokens.specs.Stopping.{Texts, Stops, IsNotFirst, Word, Then}
use Rattle.ax_tokens.specs.declared.stopped.Stopped.{Stopped}
use Rattle.ax_tokens.proofs.Stops.{BeginsWith}
use Rattle.ax_format.specs.Plain.{value_tree, values_tree}
use Rattle.ax_format.specs.Shape.{Shape}
use Rattle.ax_format.specs.Tree.{KindTree, ValueTree, ValuesTree, no_values, value_and}
use Rattle.ax_format.specs.declared.value.Value.{Value}
use Rattle.ax_text_form.specs.Readable.{Readable}
use Rattle.ax_text_form.specs.ValueText.{closing, kind_onto}
use Rattle.ax_block_reader.specs.Continuing.{Continues, Spelled, IsRead}
use Rattle.ax_block_reader.specs.Languages.{kind_texts, each_texts, FewerThan}
use Rattle.ax_block_reader.proofs.Continuations.{skip_read, skip_front}
use Rattle.ax_block_reader.proofs.Collecting.{Collects, none_collected, more_collected, all_collected, same_put, left_lacks, one_collected, one_lacks, Closes, closing_read, closing_lacks, closing_cut}
use Rattle.ax_block_reader.proofs.Firsts.{kind_first, fewer_closes}
use Rattle.ax_block_reader.proofs.MemberWays.{values_before, before_none, before_more}
use Rattle.ax_text_form.proofs.Onto.{kind_more}

-- values of a kind, fewer than the bound
module _ (bound : ℕ) (k : KindTree) where
  abbrev R : ValueTree → Type 0
  R = Shape k

  abbrev spell : ValuesTree → Texts
  spell = each_texts (kind_onto k)

  abbrev Fewer : ℕ → Texts → Type 0
  Fewer n = Spelled (FewerThan n R) spell

  abbrev Parts : ℕ → Texts → Type 0
  Parts n = Then (Spelled R (kind_texts k)) (Fewer n)

  more_f : (n : ℕ) (t : Texts) → Parts n t → Fewer (suc n) t
  more_f n t (a, b, e, (v, h, q), (vs, g, r)) = (value_and v vs, (omega (arith, g.0), (h, g.1)), e ∙ ap (λ x. x ++ b) q ∙ kind_more k v [] b ∙ ap (kind_onto k v) r)

  more_back : (n : ℕ) (t : Texts) (vs : ValuesTree) → FewerThan (suc n) R vs → t ≡ spell vs → BeginsWith closing t ⊎ Parts n t
  more_back n t no_values h e = inl ([], e)
  more_back n t (value_and v vs) h e = inr (kind_texts k v, spell vs, e ∙ sym (kind_more k v [] (spell vs)), (v, h.1.0, refl), (vs, (omega (arith, h.0), h.1.1), refl))

  more_start : (n : ℕ) (old now : Texts) → IsNotFirst (λ text. text ≡ closing) old → now ≡ old → Continues (Fewer (suc n)) (Parts n) old now
  more_start n old now first same = skip_read (Parts n) (Fewer (suc n)) closing old now (more_f n) (λ t m. more_back n t m.0 m.1 m.2) first same

  start_front : (n : ℕ) (old now : Texts) (first : IsNotFirst (λ text. text ≡ closing) old) (same : now ≡ old) → (more_start n old now first same).front ≡ []
  unfolding more_start
  start_front n old now first same = skip_front (Parts n) (Fewer (suc n)) closing old now (more_f n) (λ t m. more_back n t m.0 m.1 m.2) first same

  none_due : (n : ℕ) → Fewer (suc n) (closing ∷ [])
  none_due n = (no_values, (omega arith, tt), refl)

  -- values were read, and fewer than so many others may come
  pub record CountedRead (made : List Value) (left : ℕ) (old now : Texts) : Type 0 where
    pub read : Collects (FewerThan bound R) (FewerThan left R) spell spell (values_before made) old now

  pub no_value_read : (made : List Value) (old now : Texts) → made ≡ [] → now ≡ old → CountedRead made bound old now
  no_value_read made old now e same = subst (λ m. CountedRead m bound old now) (sym e) (record { read = same_put _ _ _ _ (λ vs. vs) (values_before []) old now (λ vs. refl) (none_collected (FewerThan bound R) spell old now same) })

  pub value_lacks : (made : List Value) (left less : ℕ) (stopped : Stopped) (old now mid new : Texts) → left ≡ suc (suc less) → CountedRead made left old now → mid ≡ now → IsNotFirst (λ text. text ≡ closing) now → Stops stopped (Spelled R (kind_texts k)) mid new
      → Stops stopped (Fewer bound) old new
  value_lacks made left less stopped old now mid new e r same n s =
      left_lacks (FewerThan bound R) (FewerThan left R) spell spell (values_before made) stopped old now new r.read
      (subst (λ z. Stops stopped (Fewer z) now new) (sym e)
      (one_lacks (FewerThan (suc (suc less)) R) (FewerThan (suc less) R) spell spell R (kind_texts k) (closing ∷ []) stopped now mid new (more_start (suc less) now mid n same) (none_due less) s))

  pub value_read : (made more : List Value) (v : Value) (left less : ℕ) (old now mid new : Texts) → left ≡ suc less → CountedRead made left old now → mid ≡ now → IsNotFirst (λ text. text ≡ closing) now → IsRead R (kind_texts k) (value_tree v) mid new → more ≡ made ++ v ∷ []
      → CountedRead more less old new
  value_read made more v left less old now mid new e r same n one pushed =
      let step = one_collected (FewerThan (suc less) R) (FewerThan less R) spell spell R (kind_texts k) value_and (value_tree v) [] now mid new (more_start less now mid n same) (start_front less now mid n same)
      (λ vs h g. (omega (arith, g.0), (h, g.1))) (λ vs h g. sym (kind_more k (value_tree v) [] (spell vs))) one in
      subst (λ m. CountedRead m less old new) (sym pushed) (record {
        read = same_put _ _ _ _ (λ vs. values_before made (value_and (value_tree v) vs)) (values_before (made ++ v ∷ [])) old new (λ vs. before_more made v vs)
            (more_collected (FewerThan bound R) (FewerThan left R) (FewerThan less R) spell spell spell (values_before made) (value_and (value_tree v)) old now new r.read
            (subst (λ z. Collects (FewerThan z R) (FewerThan less R) spell spell (value_and (value_tree v)) now new) (sym e) step));
      })

  closes : (n : ℕ) → Readable k → Closes (FewerThan (suc n) R) spell no_values
  closes n r = fewer_closes n R (kind_onto k) (λ v x h. kind_first k v x r h)

  pub counted_cut : (made : List Value) (left less : ℕ) (stopped : Stopped) (old now new : Texts) → left ≡ suc less → Readable k → CountedRead made left old now → now ≡ [] → new ≡ [] → Stops stopped (Fewer bound) old new
  counted_cut made left less stopped old now new same readable r e f =
      left_lacks (FewerThan bound R) (FewerThan left R) spell spell (values_before made) stopped old now new r.read
      (subst (λ z. Stops stopped (Fewer z) now new) (sym same) (closing_cut (FewerThan (suc less) R) spell no_values stopped now new (closes less readable) e f))

  pub counted_ends : (made : List Value) (left less : ℕ) (old now new : Texts) → left ≡ suc less → Readable k → CountedRead made left old now → now ≡ closing ∷ new → IsRead (FewerThan bound R) spell (values_tree made) old new
  counted_ends made left less old now new same readable r e =
      subst (λ vs. IsRead (FewerThan bound R) spell vs old new) (before_none made)
      (all_collected (FewerThan bound R) (FewerThan left R) spell spell (values_before made) no_values old now new r.read
      (subst (λ z. IsRead (FewerThan z R) spell no_values now new) (sym same) (closing_read (FewerThan (suc less) R) spell no_values now new (closes less readable) e)))

  full_back : (t : Texts) (vs : ValuesTree) → FewerThan 1 R vs → t ≡ spell vs → t ≡ closing ∷ []
  full_back t no_values h e = e
  full_back t (value_and v vs) h e = absurd (omega (arith, h.0))

  -- no other may come
  pub counted_lacks : (made : List Value) (left : ℕ) (stopped : Stopped) (old now new : Texts) → left ≡ 1 → Readable k → CountedRead made left old now → Stops stopped (Word closing) now new → Stops stopped (Fewer bound) old new
  counted_lacks made left stopped old now new e readable r s =
      left_lacks (FewerThan bound R) (FewerThan left R) spell spell (values_before made) stopped old now new r.read
      (subst (λ z. Stops stopped (Fewer z) now new) (sym e) (closing_lacks (FewerThan 1 R) spell no_values stopped now new (closes 0 readable) (λ t m. full_back t m.0 m.1 m.2) s))
