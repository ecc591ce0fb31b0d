-- Tokens at the front of octets, and what fits nowhere there.
use Rattle.std.proofs.Common.{◌≡◌, ◌≢◌, ℕ, suc, ◌+◌, ◌-◌, ◌<◌, ◌≤◌, true, false, cond, List, [], ◌∷◌, ◌++◌, length, take, drop, get_or, refl, sym, ◌∙◌, ap, arith, subst, length-drop, take-append-drop, get_or-drop}
use Rattle.std.specs.List.{prefix_len}
use Rattle.std.proofs.lemmas.List.{drop_more, take_all, length-take-le}
use Rattle.std.proofs.Math.Seq.{take-add}
use Rattle.ax_tokens.specs.Octets.{quote, open_brace, close_brace, is_word_octet, is_string_octet}
use Rattle.ax_tokens.specs.Lexing.{MayFollow}
use Rattle.ax_tokens.specs.Faults.{StopsStr, FitsNowhere, begins_nothing, stops_str}
use Rattle.ax_tokens.specs.Fronts.{BeginsNoGap, TokenInFront}
use Rattle.ax_tokens.specs.declared.token.TokenKind.TheVariants.{Word, Str, Open, Close}
use Rattle.ax_tokens.proofs.Prefixes.{Stops, prefix_passes, prefix_stops, prefix_inside}

pub open_front : (octets : List ℕ) → 0 < length octets → get_or octets 0 0 ≡ open_brace → TokenInFront octets Open 1
open_front [] lt e = absurd (omega arith)
open_front (x ∷ rest) lt e = record { inside = omega arith; is_text = ap (λ x. x ∷ []) e; follows = tt }

pub close_front : (octets : List ℕ) → 0 < length octets → get_or octets 0 0 ≡ close_brace → TokenInFront octets Close 1
close_front [] lt e = absurd (omega arith)
close_front (x ∷ rest) lt e = record { inside = omega arith; is_text = ap (λ x. x ∷ []) e; follows = tt }

word_ends : (xs : List ℕ) → Stops is_word_octet xs → MayFollow Word xs
word_ends [] h = tt
word_ends (x ∷ xs) h = h

pub word_front : (octets : List ℕ) (n : ℕ) → 0 < length octets → is_word_octet (get_or octets 0 0) ≡ true → n ≡ prefix_len is_word_octet octets → TokenInFront octets Word n
word_front [] n lt w e = absurd (omega arith)
word_front (x ∷ rest) n lt w e =
    let inside : prefix_len is_word_octet (x ∷ rest) ≤ length (x ∷ rest) = prefix_inside is_word_octet (x ∷ rest) in
    let le : n ≤ length (x ∷ rest) = omega arith in
    let some : prefix_len is_word_octet (x ∷ rest) ≡ 1 + prefix_len is_word_octet rest = ap (λ b. cond b (1 + prefix_len is_word_octet rest) 0) w in
    record {
      inside = le;
      is_text = ((let count : length (take n (x ∷ rest)) ≡ n = length-take-le n (x ∷ rest) le in omega arith), rw e (prefix_passes is_word_octet (x ∷ rest)));
      follows = rw e (word_ends (drop (prefix_len is_word_octet (x ∷ rest)) (x ∷ rest)) (prefix_stops is_word_octet (x ∷ rest)));
    }

str_ends : (xs : List ℕ) → Stops is_string_octet xs → (get_or xs 0 0 ≡ quote → 0 < length xs → ⊥) → StopsStr xs
str_ends [] h no_quote = tt
str_ends (x ∷ xs) h no_quote = (h, λ e. no_quote e (omega arith))

-- the content of a Str, after its first quote
rest_is : (x : ℕ) (rest : List ℕ) → take (length (x ∷ rest) - 1) (drop 1 (x ∷ rest)) ≡ rest
rest_is x rest = take_all (length (x ∷ rest) - 1) rest (omega arith)

following : (k : ℕ) (rest : List ℕ) → get_or (drop k rest) 0 0 ≡ get_or rest k 0
following k rest = get_or-drop k rest 0 0 ∙ ap (λ n. get_or rest n 0) (omega arith)

pub str_front : (octets : List ℕ) (k end : ℕ) → 0 < length octets → get_or octets 0 0 ≡ quote → k ≡ prefix_len is_string_octet (take (length octets - 1) (drop 1 octets)) → end ≡ 1 + k
    → end < length octets → get_or octets end 0 ≡ quote → TokenInFront octets Str (end + 1)
str_front [] k end some first is at lt last = absurd (omega arith)
str_front (x ∷ rest) k end some first is at lt last =
    let e : k ≡ prefix_len is_string_octet rest = is ∙ ap (prefix_len is_string_octet) (rest_is x rest) in
    let at1 : end ≡ suc k = omega arith in
    let inside : k < length rest = omega arith in
    let closing : get_or rest k 0 ≡ quote = subst (λ n. get_or (x ∷ rest) n 0 ≡ quote) at1 last in
    let front : take (k + 1) rest ≡ take k rest ++ quote ∷ [] = take-add k 1 rest ∙ ap (λ y. take k rest ++ take 1 y) (drop_more rest k 0 inside) ∙ ap (λ y. take k rest ++ y ∷ []) closing in
    let n : end + 1 ≡ suc (k + 1) = omega arith in
    record {
      inside = omega arith;
      is_text = (take k rest, rw n (λ i. first i ∷ front i), rw e (prefix_passes is_string_octet rest));
      follows = tt;
    }

pub str_stopped : (octets : List ℕ) (k end : ℕ) → 0 < length octets → get_or octets 0 0 ≡ quote → k ≡ prefix_len is_string_octet (take (length octets - 1) (drop 1 octets)) → end ≡ 1 + k
    → (end < length octets → get_or octets end 0 ≡ quote → ⊥) → FitsNowhere octets end
str_stopped [] k end some first is at no_quote = absurd (omega arith)
str_stopped (x ∷ rest) k end some first is at no_quote =
    let e : k ≡ prefix_len is_string_octet rest = is ∙ ap (prefix_len is_string_octet) (rest_is x rest) in
    let at1 : end ≡ suc k = omega arith in
    let inside : prefix_len is_string_octet rest ≤ length rest = prefix_inside is_string_octet rest in
    let le : k ≤ length rest = omega arith in
    let stops : Stops is_string_octet (drop k rest) = rw e (prefix_stops is_string_octet rest) in
    let no_end : get_or (drop k rest) 0 0 ≡ quote → 0 < length (drop k rest) → ⊥
    = λ q lt. no_quote (omega (arith, length-drop k rest)) (rw (at1, ← following k rest) q) in
    stops_str (take k rest) (drop k rest) (λ i. first i ∷ sym (take-append-drop k rest) i) (at ∙ ap (λ n. 1 + n) (sym (length-take-le k rest le)))
    (rw e (prefix_passes is_string_octet rest)) (str_ends (drop k rest) stops no_end)

pub ruleset strs = (str_front, str_stopped)

-- an octet that begins no gap and no token
pub nothing_front : (octets : List ℕ) → 0 < length octets → BeginsNoGap octets → get_or octets 0 0 ≢ open_brace → get_or octets 0 0 ≢ close_brace → get_or octets 0 0 ≢ quote
    → is_word_octet (get_or octets 0 0) ≡ false → FitsNowhere octets 0
nothing_front [] lt gap o c q w = absurd (omega arith)
nothing_front (x ∷ rest) lt gap o c q w =
    begins_nothing x rest refl refl (record { no_separator = gap.0; no_comment = gap.1; no_str = q; no_open = o; no_close = c; no_word = w })

pub ruleset fronts = (open_front, close_front, word_front, nothing_front)
