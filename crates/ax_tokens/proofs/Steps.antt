-- Each way through the loop that finds the tokens.
use Rattle.std.proofs.Common.{◌≡◌, ℕ, ◌+◌, ◌-◌, ◌<◌, ◌≤◌, List, [], ◌∷◌, ◌++◌, length, take, drop, refl, sym, ◌∙◌, ap, arith, append_assoc, append-nil, subst, length-append, take-append-drop}
use Rattle.std.proofs.lemmas.List.{length-take-le, take_all}
use Rattle.ax_tokens.specs.Octets.{open_brace}
use Rattle.ax_tokens.specs.PlainToken.{PlainToken}
use Rattle.ax_tokens.specs.Gap.{IsGap}
use Rattle.ax_tokens.specs.Depth.{greatest_excess, IsWithin, level_after}
use Rattle.ax_tokens.specs.Lexing.{IsTokenText, MayFollow, AreTokensWithGaps, Lexes, AreTokensOf}
use Rattle.ax_tokens.specs.Faults.{FitsNowhere, HasBadByte, opening, IsTooDeep}
use Rattle.ax_tokens.specs.Fronts.{BeginsNoGap, GapInFront, TokenInFront}
use Rattle.ax_tokens.specs.declared.token.TokenKind.{TokenKind}
use Rattle.ax_tokens.specs.declared.token.TokenKind.TheVariants.{Word, Str, Open, Close}
use Rattle.ax_tokens.proofs.Levels.{level_push, within_push, within_none}

-- tokens within the limit lex the text as far as rest, where no gap begins
pub record LexedTo (text : List ℕ) (limit : ℕ) (tokens : List PlainToken) (rest : List ℕ) : Type 0 where
  pub front : List ℕ
  pub split : text ≡ front ++ rest
  pub lexed : Lexes tokens front rest
  pub within : IsWithin limit tokens
  pub level : greatest_excess tokens ≤ limit
  pub few : length tokens ≤ length front
  pub ends : BeginsNoGap rest

-- before the first token
pub lexed_none : (text : List ℕ) (limit n : ℕ) → GapInFront text n → LexedTo text limit [] (drop n text)
lexed_none text limit n h = record {
  front = take n text;
  split = sym (take-append-drop n text);
  lexed = record { gap = take n text; more = []; split = sym (append-nil (take n text)); first_gap = h.is_gap; each_token = refl };
  within = within_none limit;
  level = omega arith;
  few = omega arith;
  ends = h.ends;
}

regroup : (more text gap rest : List ℕ) → (more ++ (text ++ gap)) ++ rest ≡ more ++ (text ++ (gap ++ rest))
regroup more text gap rest = append_assoc more (text ++ gap) rest ∙ ap (λ x. more ++ x) (append_assoc text gap rest)

-- one more token and the gap after it
tokens_push : (t : PlainToken) (gap rest : List ℕ) → IsTokenText t.kind t.text → MayFollow t.kind (gap ++ rest) → IsGap rest gap → (ts : List PlainToken) (at : ℕ) (octets : List ℕ)
    → t.from ≡ at + length octets → t.to ≡ t.from + length t.text → AreTokensWithGaps at ts octets (t.text ++ (gap ++ rest)) → AreTokensWithGaps at (ts ++ t ∷ []) (octets ++ (t.text ++ gap)) rest
tokens_push t gap rest is_text follows is_gap [] at octets from to h =
    let begins : t.from ≡ at = from ∙ ap (λ o. at + length o) h ∙ omega arith in (
      gap,
      [],
      ap (λ o. o ++ (t.text ++ gap)) h ∙ ap (λ x. t.text ++ x) (sym (append-nil gap)),
      begins,
      to ∙ ap (λ n. n + length t.text) begins,
      is_text,
      follows,
      is_gap,
      refl,
    )
tokens_push t gap rest is_text follows is_gap (u ∷ us) at octets from to (g, more, e, uf, ut, u_text, u_follows, u_gap, h) =
    let longer : length octets ≡ length u.text + (length g + length more) = ap length e ∙ length-append u.text (g ++ more) ∙ ap (λ n. length u.text + n) (length-append g more) in
    let begins : t.from ≡ (u.to + length g) + length more = omega arith in (
      g,
      more ++ (t.text ++ gap),
      ap (λ o. o ++ (t.text ++ gap)) e ∙ append_assoc u.text (g ++ more) (t.text ++ gap) ∙ ap (λ x. u.text ++ x) (append_assoc g more (t.text ++ gap)),
      uf,
      ut,
      u_text,
      subst (λ x. MayFollow u.kind (g ++ x)) (sym (regroup more t.text gap rest)) u_follows,
      subst (λ x. IsGap x g) (sym (regroup more t.text gap rest)) u_gap,
      tokens_push t gap rest is_text follows is_gap us (u.to + length g) more begins to h,
    )

lexes_push : (t : PlainToken) (gap rest : List ℕ) → IsTokenText t.kind t.text → MayFollow t.kind (gap ++ rest) → IsGap rest gap → (ts : List PlainToken) (front : List ℕ)
    → t.from ≡ length front → t.to ≡ t.from + length t.text → Lexes ts front (t.text ++ (gap ++ rest)) → Lexes (ts ++ t ∷ []) (front ++ (t.text ++ gap)) rest
lexes_push t gap rest is_text follows is_gap ts front from to h =
    let begins : t.from ≡ length h.gap + length h.more = from ∙ ap length h.split ∙ length-append h.gap h.more in
    record {
      gap = h.gap;
      more = h.more ++ (t.text ++ gap);
      split = ap (λ o. o ++ (t.text ++ gap)) h.split ∙ append_assoc h.gap h.more (t.text ++ gap);
      first_gap = subst (λ x. IsGap x h.gap) (sym (regroup h.more t.text gap rest)) h.first_gap;
      each_token = tokens_push t gap rest is_text follows is_gap ts (length h.gap) h.more begins to h.each_token;
    }

pub token_some : (kind : TokenKind) (text : List ℕ) → IsTokenText kind text → 0 < length text
token_some Word text h = h.0
token_some Str text (content, e, all) = omega (arith, ap length e)
token_some Open text h = omega (arith, ap length h)
token_some Close text h = omega (arith, ap length h)

place_of : (text front rest : List ℕ) → text ≡ front ++ rest → length front ≡ length text - length rest
place_of text front rest e = omega (arith, ap length e, length-append front rest)

-- a token is found, and the gap after it
pub lexed_push : (text : List ℕ) (limit : ℕ) (ts all : List PlainToken) (rest after next : List ℕ) (t : PlainToken) (n k : ℕ) → LexedTo text limit ts rest → TokenInFront rest t.kind n → GapInFront after k
    → level_after t.kind (greatest_excess ts) ≤ limit → t.text ≡ take n rest → after ≡ drop n rest → next ≡ drop k after → t.from ≡ length text - length rest → t.to ≡ t.from + n → all ≡ ts ++ t ∷ []
    → LexedTo text limit all next
lexed_push text limit ts all rest after next t n k h found gap fits slice following last begins ends whole =
    let g = take k after in
    let count : length t.text ≡ n = ap length slice ∙ length-take-le n rest found.inside in
    let parts : g ++ next ≡ after = ap (λ x. g ++ x) last ∙ take-append-drop k after in
    let split : t.text ++ (g ++ next) ≡ rest = (λ i. slice i ++ (parts ∙ following) i) ∙ take-append-drop n rest in
    let is_gap : IsGap next g = subst (λ x. IsGap x g) (sym last) gap.is_gap in
    let is_text : IsTokenText t.kind t.text = subst (λ x. IsTokenText t.kind x) (sym slice) found.is_text in
    let follows : MayFollow t.kind (g ++ next) = subst (λ x. MayFollow t.kind x) (sym (parts ∙ following)) found.follows in
    let at : t.from ≡ length h.front = begins ∙ sym (place_of text h.front rest h.split) in
    let is_following : t.to ≡ t.from + length t.text = ends ∙ ap (λ m. t.from + m) (sym count) in
    let before : Lexes ts h.front (t.text ++ (g ++ next)) = subst (λ x. Lexes ts h.front x) (sym split) h.lexed in
    let level_is : greatest_excess (ts ++ t ∷ []) ≤ limit = rw (level_push ts t) fits in
    let some : 0 < length t.text = token_some t.kind t.text is_text in
    let few : length (ts ++ t ∷ []) ≤ length (h.front ++ (t.text ++ g))
    = omega (arith, h.few, some, length-append h.front (t.text ++ g), length-append t.text g, length-append ts (t ∷ [])) in
    rw whole (record {
      front = h.front ++ (t.text ++ g);
      split = h.split ∙ ap (λ x. h.front ++ x) (sym split ∙ sym (append_assoc t.text g next)) ∙ sym (append_assoc h.front (t.text ++ g) next);
      lexed = lexes_push t g next is_text follows is_gap ts h.front at is_following before;
      within = within_push limit ts t h.within level_is;
      level = level_is;
      few = few;
      ends = subst BeginsNoGap (sym last) gap.ends;
    })

-- no token is in front, and no gap
pub lexed_bad : (text : List ℕ) (limit : ℕ) (ts : List PlainToken) (rest : List ℕ) (offset place : ℕ) → LexedTo text limit ts rest → FitsNowhere rest offset → place ≡ length text - length rest + offset → HasBadByte text limit place
lexed_bad text limit ts rest offset place h stops e = record {
  tokens = ts;
  front = h.front;
  rest = rest;
  offset = offset;
  split = h.split;
  lexed = h.lexed;
  within = h.within;
  stops = stops;
  is_at = e ∙ ap (λ n. n + offset) (sym (place_of text h.front rest h.split));
}

-- an Open at the limit
pub lexed_deep : (text : List ℕ) (limit : ℕ) (ts : List PlainToken) (rest : List ℕ) (kind : TokenKind) (n level number : ℕ) → LexedTo text limit ts rest → TokenInFront rest kind n → kind ≡ Open → level ≡ limit
    → level ≡ greatest_excess ts → number ≡ length ts → IsTooDeep text limit number
lexed_deep text limit ts rest kind n level number h found is_open full same e =
    let brace : take n rest ≡ open_brace ∷ [] = subst (λ k. IsTokenText k (take n rest)) is_open found.is_text in
    let parts : rest ≡ open_brace ∷ drop n rest = sym (take-append-drop n rest) ∙ ap (λ x. x ++ drop n rest) brace in
    let t : PlainToken = opening (length h.front) in
    let above : greatest_excess (ts ++ t ∷ []) ≡ greatest_excess ts + 1 = level_push ts t in
    let all : take (number + 1) (ts ++ t ∷ []) ≡ ts ++ t ∷ [] = take_all (number + 1) (ts ++ t ∷ []) (omega (arith, length-append ts (t ∷ []))) in
    let deeper : limit < greatest_excess (ts ++ t ∷ []) = omega arith in
    record {
      tokens = ts;
      front = h.front;
      rest = drop n rest;
      split = h.split ∙ ap (λ x. h.front ++ x) parts;
      lexed = subst (λ x. Lexes ts h.front x) parts h.lexed;
      within = h.within;
      is_numbered = e;
      deeper = rw all deeper;
    }

-- the whole text is lexed
pub lexed_all : (text : List ℕ) (limit : ℕ) (ts : List PlainToken) (rest : List ℕ) → LexedTo text limit ts rest → length rest ≡ 0 → AreTokensOf text limit ts
lexed_all text limit ts [] h e =
    let whole : h.front ≡ text = sym (append-nil h.front) ∙ sym h.split in record { lexed = subst (λ x. Lexes ts x []) whole h.lexed; within = h.within }
lexed_all text limit ts (x ∷ rest) h e = absurd (omega arith)

pub ruleset steps = (lexed_none, lexed_push, lexed_bad, lexed_deep, lexed_all)
