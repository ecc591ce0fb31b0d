use Rattle.std.proofs.Common.{◌≡◌, ◌∷◌, [], ◌++◌, rules, sym, ◌∙◌, ap, subst}
use Rattle.ax_format.proofs.PathTexts.{begins, no_path, path_found}
use Rattle.ax_format.specs.Characters.{IsName}
use Rattle.ax_format.specs.Paths.{IsPathOf, pieces}
use Rattle.ax_format.proofs.path.Path.of.Goals as goal

pub returns-in_default : goal.returns-in_default
returns-in_default c =
    let s = begins c.first_piece.result.1 c.loop-name.rest.now c.first_piece.result.0.now (λ a. a.now) c.first_piece.ensures.pieces in
    let none : IsName c.first_piece.result.0.now → ⊥ = search rules in
    no_path c.args.text.now c.loop-name.names c.first_piece.result.0.now c.loop-name.rest.now s.0 c.loop-name.invariant.0 s.1 none

pub returns-in_default-following : goal.returns-in_default-following
returns-in_default-following c =
    let new : c.push.new.self ≡ c.loop-name.names ++ c.in-Some.name ∷ [] = search rules in
    let name : c.in-Some.name ≡ c.first_piece.result.0.now = search rules in
    let whole : pieces c.loop-name.rest.now ≡ c.first_piece.result.0.now ∷ [] = search rules in
    let named : IsName c.first_piece.result.0.now = search rules in
    let found = path_found c.args.text.now c.loop-name.names c.first_piece.result.0.now c.loop-name.rest.now c.loop-name.invariant.0 whole c.loop-name.invariant.1 named in
    subst (IsPathOf c.args.text.now) (ap (λ n. c.loop-name.names ++ n ∷ []) (sym name) ∙ sym new) found
