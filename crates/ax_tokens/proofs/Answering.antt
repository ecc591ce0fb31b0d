-- Tokens and faults of the definition are the reader's answer.
use Rattle.std.proofs.Common.{◌≡◌, ℕ, zero, suc, ◌+◌, ◌-◌, ◌<◌, ◌≤◌, true, false, cond, nat_lt, Ok, Err, List, [], ◌∷◌, ◌++◌, length, refl, sym, ◌∙◌, ap, arith, append_assoc, append-nil, subst, length-append}
use Rattle.std.proofs.lemmas.Bool.Decides.{nat_tests}
use Rattle.ax_tokens.specs.Octets.{open_brace}
use Rattle.ax_tokens.specs.PlainToken.{PlainToken}
use Rattle.ax_tokens.specs.Depth.{greatest_excess, depth_of, IsWithin}
use Rattle.ax_tokens.specs.Lexing.{AreTokensWithGaps, Lexes, AreTokensOf}
use Rattle.ax_tokens.specs.Faults.{HasBadByte, IsTooDeep, opening}
use Rattle.ax_tokens.specs.Fronts.{BeginsNoGap}
use Rattle.ax_tokens.specs.declared.token.TokenKind.{TokenKind}
use Rattle.ax_tokens.specs.declared.token.TokenKind.TheVariants.{Word, Str, Open, Close}
use Rattle.ax_tokens.specs.declared.token.LexError.TheVariants.{BadByte, TooDeep}
use Rattle.ax_tokens.proofs.Lexed.{gap_rest, stop, token, front_read, token_at, is_deep, read_on, read, reading}
use Rattle.ax_tokens.proofs.Back.{gap_rest_here, gap_back, token_starts, token_back, stop_back, nowhere_starts, brace_starts}
use Rattle.ax_tokens.proofs.Levels.{place_last, depth_here}
use Rattle.ax_tokens.proofs.Steps.{token_some}

-- a token in front, which is none too deep, is read, and the gap after it
read_token : (n limit at next_at : ℕ) (before : List PlainToken) (t : PlainToken) (octets rest next : List ℕ) → front_read octets ≡ token t.kind t.text rest → t ≡ token_at t.kind t.text at → gap_rest rest ≡ next
    → is_deep t.kind limit (before ++ t ∷ []) ≡ false → at + length t.text + (length rest - length next) ≡ next_at
    → read (suc n) limit before at octets ≡ read n limit (before ++ t ∷ []) next_at next
read_token n limit at next_at before t octets rest next front is gap shallow place =
    ap (read_on (read n limit) limit before at) front
    ∙ (λ i. cond (is_deep t.kind limit (before ++ sym is i ∷ [])) (Err (TooDeep (length before))) (read n limit (before ++ sym is i ∷ []) (at + length t.text + (length rest - length (gap i))) (gap i)))
    ∙ (λ i. cond (shallow i) (Err (TooDeep (length before))) (read n limit (before ++ t ∷ []) (place i) next))

shallow_by : (k : TokenKind) (limit : ℕ) (tokens : List PlainToken) → (k ≡ Open → greatest_excess tokens ≤ limit) → is_deep k limit tokens ≡ false
shallow_by Open limit tokens h = let le : greatest_excess tokens ≤ limit = h refl in grind (arith, nat_tests)
shallow_by Word limit tokens h = refl
shallow_by Str limit tokens h = refl
shallow_by Close limit tokens h = refl

shallow_in : (limit : ℕ) (before ts : List PlainToken) (t : PlainToken) → IsWithin limit (before ++ t ∷ ts) → is_deep t.kind limit (before ++ t ∷ []) ≡ false
shallow_in limit before ts t h =
    shallow_by t.kind limit (before ++ t ∷ []) (λ k. subst (λ d. d ≤ limit) (depth_here before ts t) (h (length before) t (place_last before ts t) k))

-- in front of rest no gap begins after tokens and their gaps
starts : (at : ℕ) (ts : List PlainToken) (octets rest : List ℕ) → BeginsNoGap rest → AreTokensWithGaps at ts octets rest → BeginsNoGap (octets ++ rest)
starts at [] octets rest h e = subst (λ o. BeginsNoGap (o ++ rest)) (sym e) h
starts at (t ∷ ts) octets rest h (gap, more, e, f, u, is_text, follows, is_gap, each) =
    subst (λ o. BeginsNoGap o) (sym (ap (λ o. o ++ rest) e ∙ append_assoc t.text (gap ++ more) rest)) (token_starts t.kind t.text ((gap ++ more) ++ rest) is_text)

-- what is left to be read in m steps, after the tokens
pub record Left (limit : ℕ) (all : List PlainToken) (at : ℕ) (rest : List ℕ) (n : ℕ) (before : List PlainToken) (from : ℕ) (octets : List ℕ) : Type 0 where
  pub steps : ℕ
  pub enough : length rest < steps
  pub same : read n limit before from octets ≡ read steps limit all at rest

-- one token, and then what is left after it
left_following : (n limit at next_at end last : ℕ) (before all whole : List PlainToken) (t : PlainToken) (octets next rest : List ℕ) → read (suc n) limit before at octets ≡ read n limit (before ++ t ∷ []) next_at next → all ≡ whole → end ≡ last
    → Left limit all end rest n (before ++ t ∷ []) next_at next → Left limit whole last rest (suc n) before at octets
left_following n limit at next_at end last before all whole t octets next rest one e f left =
    record { steps = left.steps; enough = left.enough; same = one ∙ left.same ∙ (λ i. read left.steps limit (e i) (f i) rest) }

read_tokens : (ts : List PlainToken) (n limit at : ℕ) (before : List PlainToken) (octets rest : List ℕ) → length octets + length rest < n → BeginsNoGap rest → IsWithin limit (before ++ ts)
    → AreTokensWithGaps at ts octets rest → Left limit (before ++ ts) (at + length octets) rest n before at (octets ++ rest)
read_tokens [] n limit at before octets rest lt no_gap within e = record {
  steps = n;
  enough = omega arith;
  same = λ i. read n limit (sym (append-nil before) i) ((let z : at ≡ at + length octets = omega (arith, ap length e) in z) i) (e i ++ rest);
}
read_tokens (t ∷ ts) zero limit at before octets rest lt no_gap within h = absurd (omega arith)
read_tokens (t ∷ ts) (suc n) limit at before octets rest lt no_gap within (gap, more, e, from, to, is_text, follows, is_gap, each) =
    let following = gap ++ (more ++ rest) in
    let regroup : octets ++ rest ≡ t.text ++ following = ap (λ o. o ++ rest) e ∙ append_assoc t.text (gap ++ more) rest ∙ ap (λ x. t.text ++ x) (append_assoc gap more rest) in
    let front : front_read (octets ++ rest) ≡ token t.kind t.text following = ap front_read regroup ∙ token_back t.kind t.text following is_text follows in
    let to_at : t.to ≡ at + length t.text = to in
    let is : t ≡ token_at t.kind t.text at = λ i. record { kind = t.kind; text = t.text; from = from i; to = to_at i } in
    let next : gap_rest following ≡ more ++ rest = gap_back (more ++ rest) gap is_gap ∙ gap_rest_here (more ++ rest) (starts (t.to + length gap) ts more rest no_gap each) in
    let some : 0 < length t.text = token_some t.kind t.text is_text in
    let lengths : length octets ≡ length t.text + (length gap + length more) = ap length e ∙ length-append t.text (gap ++ more) ∙ ap (λ n. length t.text + n) (length-append gap more) in
    let skipped : length following ≡ length gap + length (more ++ rest) = length-append gap (more ++ rest) in
    let place : at + length t.text + (length following - length (more ++ rest)) ≡ t.to + length gap = omega arith in
    let end : t.to + length gap + length more ≡ at + length octets = omega arith in
    let group : (before ++ t ∷ []) ++ ts ≡ before ++ t ∷ ts = append_assoc before (t ∷ []) ts in
    left_following n limit at (t.to + length gap) (t.to + length gap + length more) (at + length octets) before ((before ++ t ∷ []) ++ ts) (before ++ t ∷ ts) t (octets ++ rest) (more ++ rest) rest
    (read_token n limit at (t.to + length gap) before t (octets ++ rest) following (more ++ rest) front is next (shallow_in limit before ts t within) place) group end
    (read_tokens ts n limit (t.to + length gap) (before ++ t ∷ []) more rest (omega arith) no_gap (subst (λ x. IsWithin limit x) (sym group) within) each)

-- what is left of a text after its first gap
front_left : (text octets after rest : List ℕ) (limit at end last : ℕ) (ts : List PlainToken) → octets ≡ after → length text - length after ≡ at → end ≡ last → Left limit ts end rest (suc (length after)) [] at after
    → (m : ℕ) × (length rest < m) × (read (suc (length octets)) limit [] (length text - length octets) octets ≡ read m limit ts last rest)
front_left text octets after rest limit at end last ts e place f left = (
  left.steps,
  left.enough,
  (λ i. read (suc (length (e i))) limit [] (length text - length (e i)) (e i)) ∙ (λ i. read (suc (length after)) limit [] (place i) after) ∙ left.same ∙ (λ i. read left.steps limit ts (f i) rest),
)

-- the tokens of a front are read, and then what is after it
pub read_front : (text : List ℕ) (limit : ℕ) (ts : List PlainToken) (front rest : List ℕ) → text ≡ front ++ rest → BeginsNoGap rest → IsWithin limit ts → Lexes ts front rest
    → (m : ℕ) × (length rest < m) × (reading text limit ≡ read m limit ts (length front) rest)
read_front text limit ts front rest e no_gap within h =
    let after = h.more ++ rest in
    let regroup : text ≡ h.gap ++ after = e ∙ ap (λ f. f ++ rest) h.split ∙ append_assoc h.gap h.more rest in
    let following : gap_rest text ≡ after = ap gap_rest regroup ∙ gap_back after h.gap h.first_gap ∙ gap_rest_here after (starts (length h.gap) ts h.more rest no_gap h.each_token) in
    let lengths : length text ≡ length h.gap + length after = ap length regroup ∙ length-append h.gap after in
    let parts : length after ≡ length h.more + length rest = length-append h.more rest in
    let all = read_tokens ts (suc (length after)) limit (length h.gap) [] h.more rest (omega arith) no_gap within h.each_token in
    let place : length text - length after ≡ length h.gap = omega arith in
    let end : length h.gap + length h.more ≡ length front = sym (ap length h.split ∙ length-append h.gap h.more) in
    front_left text (gap_rest text) after rest limit (length h.gap) (length h.gap + length h.more) (length front) ts following place end all

stop_read : (m limit at k : ℕ) (before : List PlainToken) (octets : List ℕ) → length octets < m → front_read octets ≡ stop k → read m limit before at octets ≡ Err (BadByte (at + k))
stop_read zero limit at k before octets lt e = absurd (omega arith)
stop_read (suc m) limit at k before octets lt e = ap (read_on (read m limit) limit before at) e

end_read : (m limit at : ℕ) (before : List PlainToken) → 0 < m → read m limit before at [] ≡ Ok before
end_read zero limit at before lt = absurd (omega arith)
end_read (suc m) limit at before lt = refl

deep_read : (m limit at : ℕ) (before : List PlainToken) (rest : List ℕ) → 0 < m → limit < greatest_excess (before ++ opening at ∷ []) → read m limit before at (open_brace ∷ rest) ≡ Err (TooDeep (length before))
deep_read zero limit at before rest lt deep = absurd (omega arith)
deep_read (suc m) limit at before rest lt deep =
    let test : nat_lt limit (greatest_excess (before ++ opening at ∷ [])) ≡ true = grind (arith, nat_tests) in
    ap (λ b. cond b (Err (TooDeep (length before))) (read m limit (before ++ opening at ∷ []) (at + 1 + (length rest - length (gap_rest rest))) (gap_rest rest))) test

pub tokens_answer : (text : List ℕ) (limit : ℕ) (ts : List PlainToken) → AreTokensOf text limit ts → reading text limit ≡ Ok ts
tokens_answer text limit ts h =
    let all = read_front text limit ts text [] (sym (append-nil text)) tt h.within h.lexed in all.2 ∙ end_read all.0 limit (length text) ts all.1

pub bad_byte_answer : (text : List ℕ) (limit place : ℕ) → HasBadByte text limit place → reading text limit ≡ Err (BadByte place)
bad_byte_answer text limit place h =
    let all = read_front text limit h.tokens h.front h.rest h.split (nowhere_starts h.rest h.offset h.stops) h.within h.lexed in
    all.2 ∙ stop_read all.0 limit (length h.front) h.offset h.tokens h.rest all.1 (stop_back h.rest h.offset h.stops) ∙ ap (λ n. Err (BadByte n)) (sym h.is_at)

pub too_deep_answer : (text : List ℕ) (limit number : ℕ) → IsTooDeep text limit number → reading text limit ≡ Err (TooDeep number)
too_deep_answer text limit number h =
    let all = read_front text limit h.tokens h.front (open_brace ∷ h.rest) h.split brace_starts h.within h.lexed in
    let deeper : limit < depth_of (h.tokens ++ opening (length h.front) ∷ []) (length h.tokens) = subst (λ n. limit < depth_of (h.tokens ++ opening (length h.front) ∷ []) n) h.is_numbered h.deeper in
    let deep : limit < greatest_excess (h.tokens ++ opening (length h.front) ∷ []) = subst (λ d. limit < d) (depth_here h.tokens [] (opening (length h.front))) deeper in
    all.2 ∙ deep_read all.0 limit (length h.front) h.tokens h.rest (omega (arith, all.1)) deep ∙ ap (λ n. Err (TooDeep n)) (sym h.is_numbered)
