-- What the definition allows is what the reader reads.
use Rattle.std.proofs.Common.{◌≡◌, ◌≢◌, ℕ, ◌+◌, true, false, cond, ◌==◌, List, [], ◌∷◌, ◌++◌, length, take, drop, refl, sym, ◌∙◌, ap, arith, append_assoc}
use Rattle.std.specs.List.{prefix_len, list_all}
use Rattle.std.proofs.lemmas.List.{take_at, drop_at}
use Rattle.std.proofs.lemmas.Bool.Decides.{nat_tests}
use Rattle.ax_tokens.specs.Octets.{line_feed, hash, quote, open_brace, close_brace, is_separator, is_word_octet, is_string_octet, is_comment_octet}
use Rattle.ax_tokens.specs.Gap.{EndsComment, IsGap, no_octet, separator, comment}
use Rattle.ax_tokens.specs.Lexing.{IsTokenText, MayFollow}
use Rattle.ax_tokens.specs.Faults.{StopsStr, FitsNowhere, begins_nothing, stops_str}
use Rattle.ax_tokens.specs.Fronts.{BeginsNoGap}
use Rattle.ax_tokens.specs.declared.token.TokenKind.{TokenKind}
use Rattle.ax_tokens.specs.declared.token.TokenKind.TheVariants.{Word, Str, Open, Close}
use Rattle.ax_tokens.proofs.Prefixes.{Stops, prefix_is, and_first, and_second}
use Rattle.ax_tokens.proofs.Lexed.{gap_rest, comment_rest, stop, token, str_read, front_read}

-- ---- tests of octets

is_not : (x y : ℕ) → x ≢ y → (x == y) ≡ false
is_not x y h = grind (arith, nat_tests)

word_is_none : (x : ℕ) → is_word_octet x ≡ true → ((x == open_brace) ≡ false) × ((x == close_brace) ≡ false) × ((x == quote) ≡ false) × (is_separator x ≡ false) × (x ≢ hash)
unfolding is_word_octet is_separator
word_is_none x h = grind (arith, nat_tests)

comment_goes_on : (x : ℕ) → is_comment_octet x ≡ true → (x == line_feed) ≡ false
unfolding is_comment_octet
comment_goes_on x h = grind (arith, nat_tests)

quote_stops : is_string_octet quote ≡ false
unfolding is_string_octet
quote_stops = refl

pub brace_starts : (is_separator open_brace ≡ false) × (open_brace ≢ hash)
unfolding is_separator
brace_starts = (refl, λ e. absurd (omega (arith, e)))

close_starts : (is_separator close_brace ≡ false) × (close_brace ≢ hash)
unfolding is_separator
close_starts = (refl, λ e. absurd (omega (arith, e)))

quote_starts : (is_separator quote ≡ false) × (quote ≢ hash)
unfolding is_separator
quote_starts = (refl, λ e. absurd (omega (arith, e)))

hash_is_no_separator : is_separator hash ≡ false
unfolding is_separator
hash_is_no_separator = refl

-- ---- gaps

-- where no gap begins, nothing is left out
pub gap_rest_here : (xs : List ℕ) → BeginsNoGap xs → gap_rest xs ≡ xs
gap_rest_here [] h = refl
gap_rest_here (x ∷ xs) h = let no = is_not x hash h.1 in rw (h.0, no) refl

comment_over : (body xs : List ℕ) → list_all is_comment_octet body ≡ true → comment_rest (body ++ xs) ≡ comment_rest xs
comment_over [] xs all = refl
comment_over (x ∷ body) xs all =
    let goes_on = comment_goes_on x (and_first (is_comment_octet x) (list_all is_comment_octet body) all) in
    rw goes_on (comment_over body xs (and_second (is_comment_octet x) (list_all is_comment_octet body) all))

line_feed_separates : (xs : List ℕ) → gap_rest (line_feed ∷ xs) ≡ gap_rest xs
unfolding is_separator
line_feed_separates xs = refl

comment_ends : (xs : List ℕ) → EndsComment xs → comment_rest xs ≡ gap_rest xs
comment_ends [] h = refl
comment_ends (x ∷ xs) h = rw h (sym (line_feed_separates xs))

hash_begins : (xs : List ℕ) → gap_rest (hash ∷ xs) ≡ comment_rest xs
hash_begins xs = rw hash_is_no_separator refl

pub gap_back : (rest g : List ℕ) → IsGap rest g → gap_rest (g ++ rest) ≡ gap_rest rest
gap_back rest g no_octet = refl
gap_back rest g (separator x gap s h) = rw s (gap_back rest gap h)
gap_back rest g (comment body gap octets e all ends h) =
    ap (λ o. gap_rest (o ++ rest)) e ∙ hash_begins ((body ++ gap) ++ rest) ∙ ap comment_rest (append_assoc body gap rest)
    ∙ comment_over body (gap ++ rest) all ∙ comment_ends (gap ++ rest) ends ∙ gap_back rest gap h

-- ---- tokens

pub token_starts : (kind : TokenKind) (text rest : List ℕ) → IsTokenText kind text → BeginsNoGap (text ++ rest)
token_starts Word [] rest h = absurd (omega (arith, h.0))
token_starts Word (x ∷ xs) rest h = let no = word_is_none x (and_first (is_word_octet x) (list_all is_word_octet xs) h.1) in (no.3, no.4)
token_starts Str text rest (content, e, all) = rw e quote_starts
token_starts Open text rest h = rw h brace_starts
token_starts Close text rest h = rw h close_starts

follows_stops : (rest : List ℕ) → MayFollow Word rest → Stops is_word_octet rest
follows_stops [] h = tt
follows_stops (x ∷ rest) h = h

pub token_back : (kind : TokenKind) (text rest : List ℕ) → IsTokenText kind text → MayFollow kind rest → front_read (text ++ rest) ≡ token kind text rest
token_back Word [] rest h f = absurd (omega (arith, h.0))
token_back Word (x ∷ xs) rest h f =
    let first = and_first (is_word_octet x) (list_all is_word_octet xs) h.1 in
    let no = word_is_none x first in
    let e : prefix_len is_word_octet ((x ∷ xs) ++ rest) ≡ length (x ∷ xs) = prefix_is is_word_octet (x ∷ xs) rest h.1 (follows_stops rest f) in
    let n = prefix_len is_word_octet ((x ∷ xs) ++ rest) in
    (λ i. cond (no.0 i) (token Open (x ∷ []) (xs ++ rest)) (cond (no.1 i) (token Close (x ∷ []) (xs ++ rest))
    (cond (no.2 i) (str_read (take (prefix_len is_string_octet (xs ++ rest)) (xs ++ rest)) (drop (prefix_len is_string_octet (xs ++ rest)) (xs ++ rest)))
    (cond (first i) (token Word (take n ((x ∷ xs) ++ rest)) (drop n ((x ∷ xs) ++ rest))) (stop 0)))))
    ∙ (λ i. token Word (take_at (x ∷ xs) rest n (sym e) i) (drop_at (x ∷ xs) rest n (sym e) i))
token_back Str text rest (content, e, all) f =
    let ys = (content ++ quote ∷ []) ++ rest in
    let regroup : ys ≡ content ++ quote ∷ rest = append_assoc content (quote ∷ []) rest in
    let n : prefix_len is_string_octet ys ≡ length content = ap (prefix_len is_string_octet) regroup ∙ prefix_is is_string_octet content (quote ∷ rest) all quote_stops in
    let front : take (prefix_len is_string_octet ys) ys ≡ content = ap (take (prefix_len is_string_octet ys)) regroup ∙ take_at content (quote ∷ rest) (prefix_len is_string_octet ys) (sym n) in
    let following : drop (prefix_len is_string_octet ys) ys ≡ quote ∷ rest = ap (drop (prefix_len is_string_octet ys)) regroup ∙ drop_at content (quote ∷ rest) (prefix_len is_string_octet ys) (sym n) in
    let read : front_read (quote ∷ ys) ≡ token Str (quote ∷ (content ++ quote ∷ [])) rest = λ i. str_read (front i) (following i) in
    ap (λ t. front_read (t ++ rest)) e ∙ read ∙ ap (λ t. token Str t rest) (sym e)
token_back Open text rest h f = ap (λ t. front_read (t ++ rest)) h ∙ ap (λ t. token Open t rest) (sym h)
token_back Close text rest h f = ap (λ t. front_read (t ++ rest)) h ∙ ap (λ t. token Close t rest) (sym h)

str_stops_read : (content rest : List ℕ) → StopsStr rest → str_read content rest ≡ stop (1 + length content)
str_stops_read content [] h = refl
str_stops_read content (x ∷ rest) h = ap (λ b. cond b (token Str (quote ∷ (content ++ quote ∷ [])) rest) (stop (1 + length content))) (is_not x quote h.1)

str_stops_prefix : (rest : List ℕ) → StopsStr rest → Stops is_string_octet rest
str_stops_prefix [] h = tt
str_stops_prefix (x ∷ rest) h = h.0

pub stop_back : (octets : List ℕ) (k : ℕ) → FitsNowhere octets k → front_read octets ≡ stop k
stop_back octets k (begins_nothing x rest e at h) =
    ap front_read e
    ∙ (λ i. cond (is_not x open_brace h.no_open i) (token Open (x ∷ []) rest) (cond (is_not x close_brace h.no_close i) (token Close (x ∷ []) rest)
    (cond (is_not x quote h.no_str i) (str_read (take (prefix_len is_string_octet rest) rest) (drop (prefix_len is_string_octet rest) rest))
    (cond (h.no_word i) (token Word (take (prefix_len is_word_octet (x ∷ rest)) (x ∷ rest)) (drop (prefix_len is_word_octet (x ∷ rest)) (x ∷ rest))) (stop 0)))))
    ∙ ap stop (sym at)
stop_back octets k (stops_str content rest e at all h) =
    let ys = content ++ rest in
    let n : prefix_len is_string_octet ys ≡ length content = prefix_is is_string_octet content rest all (str_stops_prefix rest h) in
    let front : take (prefix_len is_string_octet ys) ys ≡ content = take_at content rest (prefix_len is_string_octet ys) (sym n) in
    let following : drop (prefix_len is_string_octet ys) ys ≡ rest = drop_at content rest (prefix_len is_string_octet ys) (sym n) in
    let read : front_read (quote ∷ ys) ≡ str_read content rest = λ i. str_read (front i) (following i) in
    ap front_read e ∙ read ∙ str_stops_read content rest h ∙ ap stop (sym at)

pub nowhere_starts : (octets : List ℕ) (k : ℕ) → FitsNowhere octets k → BeginsNoGap octets
nowhere_starts octets k (begins_nothing x rest e at h) = rw e (h.no_separator, h.no_comment)
nowhere_starts octets k (stops_str content rest e at all h) = rw e quote_starts
