-- Plans of one level that are put into rows.
use Rattle.std.proofs.Common.{◌≡◌, Bool, true, false, List, [], ◌∷◌, ◌++◌, refl, sym, ◌∙◌, ap}
use Rattle.ax_expressions.proofs.Levels.{level_append, level_more, passed_on}
use Rattle.ax_expressions.specs.Plans.{plan_tree, joined, says, level_says, AreAlike}
use Rattle.ax_expressions.specs.declared.plan.Plan.{Plan}

swapped : (all m p r : Bool) → joined all (joined all m p) r ≡ joined all m (joined all r p)
swapped true false p r = refl
swapped true true true true = refl
swapped true true true false = refl
swapped true true false true = refl
swapped true true false false = refl
swapped false true p r = refl
swapped false false true true = refl
swapped false false true false = refl
swapped false false false true = refl
swapped false false false false = refl

-- a plan that goes to the plans that are made
pub put_by : (all : Bool) (made row made' : List Plan) (p : Plan) → made' ≡ made ++ p ∷ [] → AreAlike all (made' ++ row) (made ++ (row ++ p ∷ []))
put_by all made row made' p is marks found =
    ap (λ x. level_says all (x ++ row) marks found) is
    ∙ level_append marks found all (made ++ p ∷ []) row ∙ ap (λ b. joined all b (level_says all row marks found)) (level_more marks found all made p)
    ∙ swapped all (level_says all made marks found) (says marks found (plan_tree p)) (level_says all row marks found)
    ∙ ap (joined all (level_says all made marks found)) (sym (level_more marks found all row p)) ∙ sym (level_append marks found all made (row ++ p ∷ []))

after : (all : Bool) (left ps qs : List Plan) → AreAlike all ps qs → AreAlike all (left ++ ps) (left ++ qs)
after all left ps qs h marks found =
    level_append marks found all left ps ∙ ap (joined all (level_says all left marks found)) (h marks found) ∙ sym (level_append marks found all left qs)

-- a plan that goes from what is left to the row or to what is made
pub put_on : (all : Bool) (whole left left' made row made' row' made'' row'' : List Plan) (p : Plan) → left ≡ left' ++ p ∷ []
    → AreAlike all (made' ++ row') (made ++ row) → AreAlike all (made'' ++ row'') (made' ++ (row' ++ p ∷ [])) → AreAlike all (left ++ (made ++ row)) whole → AreAlike all (left' ++ (made'' ++ row'')) whole
put_on all whole left left' made row made' row' made'' row'' p taken alike put h marks found =
    after all left' (made'' ++ row'') (made' ++ (row' ++ p ∷ [])) put marks found
    ∙ passed_on all whole left left' made row made' row' (row' ++ p ∷ []) p taken refl alike h marks found
