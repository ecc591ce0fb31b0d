-- What holds of each token holds of the one at a place.
use Rattle.std.proofs.Common.{◌≡◌, ℕ, ◌<◌, nat_lt, Option, Some, None, IfSome, Bor, List, length, get_or, All, slice_get, refl, sym, ◌∙◌, ap, arith, subst}
use Rattle.std.specs.Option.{is_some, option_map}
use Rattle.std.proofs.lemmas.Option.{slice_get_within, slice_get-map, slice_get_read, get_or_from_slice_get}
use Rattle.std.proofs.lemmas.Bool.Decides.{nat_tests}
use Rattle.ax_tokens.specs.declared.token.Token.{Token}
use Rattle.ax_tokens.specs.PlainToken.{plain_token, plain_tokens}
use Rattle.ax_tokens.specs.Lexing.{HasTokenText}

pub text_at : (items found : List Token) (i : ℕ) (r : Option (Bor Token)) → items ≡ found → is_some r ≡ nat_lt i (length items) → IfSome r (λ t. t.now ≡ get_or items i t.now) → All HasTokenText (plain_tokens found)
    → IfSome r (λ t. HasTokenText (plain_token t.now))
text_at items found i None same some here all = tt
text_at items found i (Some t) same some here all =
    let one = plain_token t.now in
    let inside : i < length items = grind (arith, nat_tests) in
    let read : slice_get items i ≡ Some t.now = slice_get_read items (length items) i t.now refl inside here in
    let plain : slice_get (plain_tokens found) i ≡ Some one = ap (λ ts. slice_get (plain_tokens ts) i) (sym same) ∙ slice_get-map plain_token items i ∙ ap (option_map plain_token) read in
    subst HasTokenText (get_or_from_slice_get (plain_tokens found) i one one plain) (all i one (slice_get_within (plain_tokens found) i one plain))
