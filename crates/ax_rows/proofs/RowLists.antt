-- Rows among more steps.
use Rattle.std.proofs.Common.{◌≡◌, ℕ, zero, suc, ◌+◌, ◌*◌, ◌/◌, ◌%◌, ◌<◌, ◌⊎◌, inl, inr, List, [], ◌∷◌, ◌++◌, length, drop, get_or, refl, sym, ◌∙◌, ap, arith, subst, append_assoc, length-append}
use Rattle.ax_fspec.specs.Marks.{seven}
use Rattle.ax_rows.specs.Rows.{row_of, no_step, no_row, HaveRow, Stands, IsRowIfAny, EachRow, AreRows, Extends}
use Rattle.ax_rows.specs.declared.step.Step.{Step}

pub get_front : (xs ys : List Step) (i : ℕ) → i < length xs → get_or (xs ++ ys) i no_step ≡ get_or xs i no_step
get_front [] ys i lt = absurd (omega arith)
get_front (x ∷ xs) ys zero lt = refl
get_front (x ∷ xs) ys (suc i) lt = get_front xs ys i (omega arith)

get_back : (xs : List Step) (y : Step) (ys : List Step) → get_or (xs ++ y ∷ ys) (length xs) no_step ≡ y
get_back [] y ys = refl
get_back (x ∷ xs) y ys = get_back xs y ys

pub stands_more : (steps more : List Step) (i : ℕ) (row : List Step) → Stands steps i row → Stands (steps ++ more) i row
stands_more steps more i [] h = tt
stands_more steps more i (one ∷ row) h = (omega (arith, h.0, length-append steps more), get_front steps more i h.0 ∙ h.1, stands_more steps more (suc i) row h.2)

stands_last : (steps row : List Step) (i : ℕ) → i ≡ length steps → Stands (steps ++ row) i row
stands_last steps [] i e = tt
stands_last steps (one ∷ row) i e = (
  omega (arith, length-append steps (one ∷ row)),
  ap (λ n. get_or (steps ++ one ∷ row) n no_step) e ∙ get_back steps one row,
  subst (λ xs. Stands xs (suc i) row) (append_assoc steps (one ∷ []) row) (stands_last (steps ++ one ∷ []) row (suc i) (omega (arith, length-append steps (one ∷ [])))),
)

-- a row that was appended
pub row_stands : (octets links marks : List ℕ) (old new : List Step) (first : ℕ) → HaveRow octets links marks → new ≡ old ++ row_of octets links marks 0 → first ≡ length old → first < no_row → IsRowIfAny octets links marks new first
row_stands octets links marks old new first has e f lt = record {
  some = λ _. record { has = has; stands = subst (λ xs. Stands xs first (row_of octets links marks 0)) (sym e) (stands_last old (row_of octets links marks 0) first f) };
  none = λ z. absurd (omega arith);
}

pub row_none : (octets links marks : List ℕ) (steps : List Step) (first : ℕ) → first ≡ no_row → (HaveRow octets links marks → ⊥) → IsRowIfAny octets links marks steps first
row_none octets links marks steps first e lacks = record { some = λ some. absurd (some e); none = λ _. lacks }

-- a row stays where steps are appended
row_stays : (octets links marks : List ℕ) (old new : List Step) (first : ℕ) → Extends old new → IsRowIfAny octets links marks old first → IsRowIfAny octets links marks new first
row_stays octets links marks old new first ext h = record {
  some = λ some. (let row = h.some some in record {
    has = row.has;
    stands = subst (λ xs. Stands xs first (row_of octets links marks 0)) (sym ext.grown) (stands_more old ext.more first (row_of octets links marks 0) row.stands);
  });
  none = h.none;
}

get_start : (xs : List ℕ) (y j : ℕ) → j < length xs → get_or (xs ++ y ∷ []) j 0 ≡ get_or xs j 0
get_start [] y j lt = absurd (omega arith)
get_start (x ∷ xs) y zero lt = refl
get_start (x ∷ xs) y (suc j) lt = get_start xs y j (omega arith)

get_new : (xs : List ℕ) (y : ℕ) → get_or (xs ++ y ∷ []) (length xs) 0 ≡ y
get_new [] y = refl
get_new (x ∷ xs) y = get_new xs y

pub rows_none : (octets links start : List ℕ) (steps : List Step) → start ≡ [] → EachRow octets links start steps
rows_none octets links start steps e = record { rows = λ j lt. absurd (let z : length start ≡ 0 = ap length e in omega arith) }

pub rows_more : (octets links start left : List ℕ) (old new : List Step) (place row : ℕ) (after : List ℕ) → EachRow octets links start old → Extends old new → place ≡ length start → after ≡ start ++ row ∷ [] → left ≡ drop (7 * (place / 128)) links
    → IsRowIfAny octets left (seven (place % 128)) new row → EachRow octets links after new
rows_more octets links start left old new place row after h ext e is from there = subst (λ xs. EachRow octets links xs new) (sym is) (record { rows = rows })
  where
    At : ℕ → ℕ → Type 0
    At j first = IsRowIfAny octets (drop (7 * (j / 128)) links) (seven (j % 128)) new first

    rows : (j : ℕ) → j < length (start ++ row ∷ []) → At j (get_or (start ++ row ∷ []) j 0)
    rows j lt = by_case (let c : (j < length start) ⊎ (j ≡ length start) = grind (arith, length-append) in c)
      where
        by_case : (j < length start) ⊎ (j ≡ length start) → At j (get_or (start ++ row ∷ []) j 0)
        by_case (inl l) = subst (At j) (sym (get_start start row j l)) (row_stays octets (drop (7 * (j / 128)) links) (seven (j % 128)) old new (get_or start j 0) ext (h.rows j l))
        by_case (inr r) =
            let same : get_or (start ++ row ∷ []) j 0 ≡ row = ap (λ n. get_or (start ++ row ∷ []) n 0) r ∙ get_new start row in
            subst (At j) (sym same) (subst (λ k. At k row) (e ∙ sym r) (subst (λ ls. IsRowIfAny octets ls (seven (place % 128)) new row) from there))

pub rows_whole : (octets links start : List ℕ) (steps : List Step) (count place : ℕ) → count ≡ (length links + 6) / 7 → place ≡ 128 * count → place ≡ length start → EachRow octets links start steps → AreRows octets links start steps
rows_whole octets links start steps count place c p l h = record { size = sym l ∙ p ∙ ap (λ n. 128 * n) c; each = h }
