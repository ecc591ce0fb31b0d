-- Paths of an expression, resolved.
use Rattle.std.proofs.Common.{◌≡◌, ℕ, ◌+◌, ◌<◌, List, [], ◌∷◌, ◌++◌, length, map, take, get_or, Option, Some, None, option_and_then, refl, sym, ◌∙◌, ap}
use Rattle.std.proofs.lemmas.List.{map-append, take_more}
use Rattle.ax_check.specs.Places.{place_of, element_at}
use Rattle.ax_format.specs.Specification.{SpecTree, spec_of}
use Rattle.ax_format.specs.Tree.{element, group, MembersTree}
use Rattle.ax_format.specs.declared.content.Content.{Content}
use Rattle.ax_format.specs.declared.place.Place.{Place}
use Rattle.ax_expressions.specs.Faults.{place_in, element_in}
use Rattle.ax_expressions.specs.Meaning.{is_signed}
use Rattle.ax_expressions.specs.Tests.{TestTree, test_and, tests_of, test_tree, element_for, element_at_path, resolved, all_resolved}
use Rattle.ax_expressions.specs.Tree.{exprs_of, expr_tree}
use Rattle.ax_expressions.specs.declared.expr.Expr.{Expr}
use Rattle.ax_expressions.specs.declared.expr.FullPath.{FullPath}
use Rattle.ax_expressions.specs.declared.test.Test.{Test}
use Rattle.ax_expressions.proofs.Leads.{place_is, element_is, no_file}

pub there : (catalogue : List SpecTree) (path : FullPath) (spec : SpecTree) (place : Option Place) → spec_of path.category catalogue ≡ Some spec → place ≡ place_of spec path.names → place ≡ place_in catalogue path
there catalogue path spec place e h = h ∙ sym (place_is catalogue path spec e)

pub nowhere : (catalogue : List SpecTree) (path : FullPath) → spec_of path.category catalogue ≡ None → None ≡ place_in catalogue path
nowhere catalogue path e = sym (no_file catalogue path e)

pub ruleset places = (there, nowhere)

none_there : (catalogue : List SpecTree) (path : FullPath) → place_in catalogue path ≡ None → None ≡ element_at_path catalogue path
none_there catalogue path e = sym (ap (option_and_then (λ place. option_and_then (element_for place) (element_in catalogue path))) e)

pub no_spec : (catalogue : List SpecTree) (path : FullPath) → spec_of path.category catalogue ≡ None → None ≡ element_at_path catalogue path
no_spec catalogue path e = none_there catalogue path (no_file catalogue path e)

pub no_place : (catalogue : List SpecTree) (path : FullPath) (spec : SpecTree) → spec_of path.category catalogue ≡ Some spec → None ≡ place_of spec path.names → None ≡ element_at_path catalogue path
no_place catalogue path spec e h = none_there catalogue path (place_is catalogue path spec e ∙ sym h)

at_known : (catalogue : List SpecTree) (path : FullPath) (spec : SpecTree) (place : Place) → spec_of path.category catalogue ≡ Some spec → Some place ≡ place_of spec path.names → element_at_path catalogue path ≡ option_and_then (element_for place) (element_at spec place)
at_known catalogue path spec place e h =
    ap (option_and_then (λ place. option_and_then (element_for place) (element_in catalogue path))) (place_is catalogue path spec e ∙ sym h)
    ∙ ap (option_and_then (element_for place)) (element_is catalogue path spec place e (sym h))

pub no_element : (catalogue : List SpecTree) (path : FullPath) (spec : SpecTree) (place : Place) → spec_of path.category catalogue ≡ Some spec → Some place ≡ place_of spec path.names → element_at spec place ≡ None → None ≡ element_at_path catalogue path
no_element catalogue path spec place e h f = sym (at_known catalogue path spec place e h ∙ ap (option_and_then (element_for place)) f)

pub a_group : (catalogue : List SpecTree) (path : FullPath) (spec : SpecTree) (place : Place) (ms : MembersTree) → spec_of path.category catalogue ≡ Some spec → Some place ≡ place_of spec path.names → element_at spec place ≡ Some (group ms) → None ≡ element_at_path catalogue path
a_group catalogue path spec place ms e h f = sym (at_known catalogue path spec place e h ∙ ap (option_and_then (element_for place)) f)

pub an_element : (catalogue : List SpecTree) (path : FullPath) (spec : SpecTree) (place : Place) (w : ℕ) (c : Content) → spec_of path.category catalogue ≡ Some spec → Some place ≡ place_of spec path.names → element_at spec place ≡ Some (element w c)
    → Some (record { place = place; signed = is_signed c; width = w }) ≡ element_at_path catalogue path
an_element catalogue path spec place w c e h f = sym (at_known catalogue path spec place e h ∙ ap (option_and_then (element_for place)) f)

pub ruleset elements = (no_spec, no_place, no_element, a_group, an_element)

-- ---- lists

pub each_resolved : (catalogue : List SpecTree) (es : List Expr) → tests_of (map (λ e. resolved catalogue (expr_tree e)) es) ≡ all_resolved catalogue (exprs_of (map expr_tree es))
each_resolved catalogue [] = refl
each_resolved catalogue (e ∷ es) = ap (test_and (resolved catalogue (expr_tree e))) (each_resolved catalogue es)

pub one_more : (rule : Expr → TestTree) (i : ℕ) (es : List Expr) (e : Expr) (t : Test) (made new : List Test) → i < length es → e ≡ get_or es i e → new ≡ made ++ t ∷ [] → test_tree t ≡ rule e
    → map test_tree made ≡ map rule (take i es) → map test_tree new ≡ map rule (take (i + 1) es)
one_more rule i es e t made new within is n one h =
    ap (map test_tree) n ∙ map-append test_tree made (t ∷ []) ∙ (λ j. h j ++ one j ∷ []) ∙ sym (map-append rule (take i es) (e ∷ []))
    ∙ ap (map rule) (sym (take_more es i e within ∙ ap (λ x. take i es ++ x ∷ []) (sym is)))
