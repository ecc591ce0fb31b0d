-- Answers that are kept, one after the other.
use Rattle.std.proofs.Common.{◌≡◌, ℕ, ◌<◌, ◌≤◌, ◌⊎◌, inl, inr, List, length, get_or, set, Option, sym, ◌∙◌, ap, subst, arith}
use Rattle.std.proofs.lemmas.Bool.{cases_eq}
use Rattle.std.proofs.lemmas.List.{get_or-set_other, get_or-set_same, length-set}
use Rattle.ax_filter.specs.Memos.{Recalls, no_answer}
use Rattle.ax_filter.specs.declared.memo.Answer.{Answer}
use Rattle.ax_expressions.specs.declared.plan.Found.{Found}

-- ---- one answer more

pub recalls_one_more : (found : ℕ → Option Found) (number : ℕ) (answers new : List Answer) (place : ℕ) (o : Option Found) → new ≡ set answers place (record { number = number; found = o }) → place < length answers → o ≡ found place → Recalls found number answers
    → Recalls found number new
recalls_one_more found number answers new place o put within is h = record { none_later = λ i lt. (by i lt).0; own = λ i lt. (by i lt).1 }
  where
    one : Answer
    one = record { number = number; found = o }

    IsRight : Answer → ℕ → Type 0
    IsRight x i = (x.number ≤ number) × (x.number ≡ number → x.found ≡ found i)

    by : (i : ℕ) → i < length new → IsRight (get_or new i no_answer) i
    by i lt = by_place (cases_eq i place)
      where
        by_place : (i ≡ place) ⊎ (i ≡ place → ⊥) → IsRight (get_or new i no_answer) i
        by_place (inl e) =
            let at : get_or new i no_answer ≡ one = ap (λ x. get_or x i no_answer) put ∙ ap (λ k. get_or (set answers place one) k no_answer) e ∙ get_or-set_same answers place one no_answer within in
            (omega (arith, ap (λ x. x.number) at), λ same. ap (λ x. x.found) at ∙ is ∙ sym (ap found e))
        by_place (inr d) =
            let at : get_or new i no_answer ≡ get_or answers i no_answer = ap (λ x. get_or x i no_answer) put ∙ get_or-set_other answers place i one no_answer d in
            let old : i < length answers = omega (arith, lt, ap length put, length-set answers place one) in
            let number_is = ap (λ x. x.number) at in
            (omega (arith, h.none_later i old, number_is), λ same. ap (λ x. x.found) at ∙ h.own i old (sym number_is ∙ same))

pub same_recalls : (found : ℕ → Option Found) (number : ℕ) (xs ys : List Answer) → xs ≡ ys → Recalls found number xs → Recalls found number ys
same_recalls found number xs ys e h = subst (Recalls found number) e h
