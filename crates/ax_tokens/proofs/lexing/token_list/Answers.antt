use Rattle.std.proofs.Common.{◌≡◌, ◌≤◌, length, List, refl, sym, ◌∙◌, ap, arith, ◌++◌, ◌∷◌, []}
use Rattle.std.proofs.lemmas.List.{length-map, map-append}
use Rattle.ax_tokens.specs.declared.token.Token.{Token}
use Rattle.ax_tokens.specs.PlainToken.{plain_token, plain_tokens}
use Rattle.ax_tokens.specs.Depth.{greatest_excess, level_after}
use Rattle.ax_tokens.proofs.Levels.{level_push}
use Rattle.ax_tokens.proofs.Steps.{lexed_push, lexed_bad, lexed_deep}
use Rattle.ax_tokens.proofs.lexing.token_list.Goals as goal

plain_push : (old new : List Token) (t : Token) → new ≡ old ++ t ∷ [] → plain_tokens new ≡ plain_tokens old ++ plain_token t ∷ []
plain_push old new t e = ap plain_tokens e ∙ map-append plain_token old (t ∷ [])

pub returns-in-Err-clause-fault : goal.returns-in-Err-clause-fault
returns-in-Err-clause-fault c =
    lexed_bad c.args.text.now c.args.depth (plain_tokens c.loop-rest.found.items) c.loop-rest.rest.now c.in-Err.offset _ c.loop-rest.invariant.lexed c.in-Err.ensures.stops refl

pub returns-in-None-clause-fault : goal.returns-in-None-clause-fault
returns-in-None-clause-fault c =
    let count : c.len.result ≡ length (plain_tokens c.loop-rest.found.items) = omega (arith, length-map c.loop-rest.found.items plain_token) in
    lexed_deep c.args.text.now c.args.depth (plain_tokens c.loop-rest.found.items) c.loop-rest.rest.now c.in-Ok.token.0 c.in-Ok.token.1 c.loop-rest.level c.len.result c.loop-rest.invariant.lexed c.in-Ok.ensures.token
    c.in-None.ensures.none.0 c.in-None.ensures.none.1 c.loop-rest.invariant.level count

pub loop-rest-preserved : goal.loop-rest-preserved
loop-rest-preserved c =
    let ts = plain_tokens c.loop-rest.found.items in
    let whole = plain_push _ _ _ c.in_ok-push.ensures.items in
    let slice = c.split_at-in-loop-rest.ensures in
    let next = c.split_at-in-loop-rest-2.ensures in
    let step = c.in-Some.ensures.some in
    let level : c.in-Some.next ≡ level_after c.in-Ok.token.0 (greatest_excess ts) = step.0 ∙ ap (level_after c.in-Ok.token.0) c.loop-rest.invariant.level in
    let fits : level_after c.in-Ok.token.0 (greatest_excess ts) ≤ c.args.depth = omega (arith, step.1) in record {
      lexed =
          lexed_push c.args.text.now c.args.depth ts _ c.loop-rest.rest.now c.split_at-in-loop-rest.result.1.now c.split_at-in-loop-rest-2.result.1.now _ c.in-Ok.token.1 c.gap_length-in-loop-rest.result c.loop-rest.invariant.lexed
          c.in-Ok.ensures.token c.gap_length-in-loop-rest.ensures fits slice.front slice.back next.back refl refl whole;
      level = level ∙ sym (ap greatest_excess whole ∙ level_push ts _);
    }
