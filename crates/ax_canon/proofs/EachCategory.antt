-- What the records of categories are walked over by, category after category.
use Rattle.std.proofs.Common.{◌≡◌, ℕ, zero, suc, ◌+◌, ◌<◌, ◌⊎◌, inl, inr, List, [], ◌∷◌, ◌++◌, length, get_or, Option, None, IfSome, refl, sym, ◌∙◌, ap, arith, subst, length-append}
use Rattle.std.specs.Option.{option_map}
use Rattle.std.proofs.lemmas.List.{get_or_at, get_or_append_left}
use Rattle.ax_codec.specs.Standing.{codec_of}
use Rattle.ax_codec.specs.declared.codec.Codec.{Codec}
use Rattle.ax_walk.specs.RecordRows.{AreRecordRows}
use Rattle.ax_walk.specs.declared.record_rows.RecordRows.{RecordRows}
use Rattle.ax_canon.specs.CategoryRows.{AreRowsTo, own_codec}

before_or_last : (c n : ℕ) → c < n + 1 → (c < n) ⊎ (c ≡ n)
before_or_last c zero lt = inr (omega (arith, lt))
before_or_last zero (suc n) lt = inl (omega arith)
before_or_last (suc c) (suc n) lt = step (before_or_last c n (omega (arith, lt)))
  where
    step : (c < n) ⊎ (c ≡ n) → (suc c < suc n) ⊎ (suc c ≡ suc n)
    step (inl less) = inl (omega (arith, less))
    step (inr same) = inr (ap suc same)

pub rows_more : (codecs : List Codec) (n : ℕ) (rows new : List (Option RecordRows)) (one : Option RecordRows) → AreRowsTo codecs n rows → new ≡ rows ++ one ∷ [] → option_map own_codec one ≡ codec_of n codecs → IfSome one AreRecordRows → AreRowsTo codecs (n + 1) new
rows_more codecs n rows new one h e codec mine = subst (AreRowsTo codecs (n + 1)) (sym e) (record {
  size = length-append rows (one ∷ []) ∙ ap (λ k. k + 1) h.size;
  codec = λ c lt. by c (before_or_last c n lt);
  own = λ c lt. own_by c (before_or_last c n lt);
})
  where
    last : (c : ℕ) → c ≡ n → get_or (rows ++ one ∷ []) c None ≡ one
    last c same = ap (λ k. get_or (rows ++ one ∷ []) k None) (same ∙ sym h.size) ∙ get_or_at rows one [] None (length rows) refl

    front : (c : ℕ) → c < n → get_or (rows ++ one ∷ []) c None ≡ get_or rows c None
    front c lt = get_or_append_left rows (one ∷ []) None c (omega (arith, lt, h.size))

    by : (c : ℕ) → (c < n) ⊎ (c ≡ n) → option_map own_codec (get_or (rows ++ one ∷ []) c None) ≡ codec_of c codecs
    by c (inl lt) = ap (option_map own_codec) (front c lt) ∙ h.codec c lt
    by c (inr same) = ap (option_map own_codec) (last c same) ∙ codec ∙ ap (λ k. codec_of k codecs) (sym same)

    own_by : (c : ℕ) → (c < n) ⊎ (c ≡ n) → IfSome (get_or (rows ++ one ∷ []) c None) AreRecordRows
    own_by c (inl lt) = subst (λ r. IfSome r AreRecordRows) (sym (front c lt)) (h.own c lt)
    own_by c (inr same) = subst (λ r. IfSome r AreRecordRows) (sym (last c same)) mine
