-- The reader's answer holds by the definition, so each text has an answer.
use Rattle.std.proofs.Common.{◌≡◌, ◌≢◌, ℕ, zero, suc, ◌+◌, ◌-◌, ◌<◌, ◌≤◌, Bool, true, false, cond, ◌==◌, Result, Ok, Err, List, [], ◌∷◌, ◌++◌, length, take, drop, refl, sym, ◌∙◌, ap, arith, append_assoc, subst, length-append, take-append-drop}
use Rattle.std.specs.List.{prefix_len, list_all}
use Rattle.std.proofs.lemmas.List.{take_at, drop_at}
use Rattle.std.proofs.lemmas.Bool.Decides.{nat_tests}
use Rattle.ax_tokens.specs.Octets.{line_feed, hash, quote, open_brace, close_brace, is_separator, is_word_octet, is_string_octet, is_comment_octet}
use Rattle.ax_tokens.specs.PlainToken.{PlainToken}
use Rattle.ax_tokens.specs.Gap.{EndsComment, IsGap, no_octet, separator, comment}
use Rattle.ax_tokens.specs.Depth.{greatest_excess, level_after}
use Rattle.ax_tokens.specs.Lexing.{IsTokenText, MayFollow, AreTokensOf}
use Rattle.ax_tokens.specs.Faults.{FitsNowhere, begins_nothing, stops_str, HasBadByte, IsTooDeep}
use Rattle.ax_tokens.specs.Fronts.{BeginsNoGap, GapInFront, TokenInFront}
use Rattle.ax_tokens.specs.declared.token.TokenKind.{TokenKind}
use Rattle.ax_tokens.specs.declared.token.TokenKind.TheVariants.{Word, Str, Open, Close}
use Rattle.ax_tokens.specs.declared.token.LexError.{LexError}
use Rattle.ax_tokens.specs.declared.token.LexError.TheVariants.{BadByte, TooDeep, OutOfMemory}
use Rattle.ax_tokens.proofs.Prefixes.{Stops, prefix_passes, prefix_stops}
use Rattle.ax_tokens.proofs.Fronts.{word_front}
use Rattle.ax_tokens.proofs.Levels.{level_push}
use Rattle.ax_tokens.proofs.Lexed.{gap_rest, comment_rest, Front, nothing, stop, token, str_read, front_read, token_at, is_deep, read_on, read, reading}
use Rattle.ax_tokens.proofs.Steps.{LexedTo, lexed_none, lexed_push, lexed_bad, lexed_deep, lexed_all, token_some}

-- ---- gaps

-- octets are a gap and rest, where no gap begins
record Gapped (octets rest : List ℕ) : Type 0 where
  gap : List ℕ
  split : octets ≡ gap ++ rest
  is_gap : IsGap rest gap
  ends : BeginsNoGap rest

-- octets are the rest of a comment, a gap and rest
record Commented (octets rest : List ℕ) : Type 0 where
  body : List ℕ
  gap : List ℕ
  split : octets ≡ body ++ (gap ++ rest)
  passes : list_all is_comment_octet body ≡ true
  stops : EndsComment (gap ++ rest)
  is_gap : IsGap rest gap
  ends : BeginsNoGap rest

goes_on : (x : ℕ) → (x == line_feed) ≡ false → is_comment_octet x ≡ true
unfolding is_comment_octet
goes_on x h = rw h refl

line_feed_separates : is_separator line_feed ≡ true
unfolding is_separator
line_feed_separates = refl

is_equal : (x y : ℕ) → (x == y) ≡ true → x ≡ y
is_equal x y h = grind (arith, nat_tests)

is_unequal : (x y : ℕ) → (x == y) ≡ false → x ≢ y
is_unequal x y h = grind (arith, nat_tests)

gap_by : (s c : Bool) (x : ℕ) (xs : List ℕ) → is_separator x ≡ s → (x == hash) ≡ c → Gapped xs (gap_rest xs) → Commented xs (comment_rest xs) → Gapped (x ∷ xs) (cond s (gap_rest xs) (cond c (comment_rest xs) (x ∷ xs)))
gap_by true c x xs is_s is_c g h = record { gap = x ∷ g.gap; split = ap (λ o. x ∷ o) g.split; is_gap = separator x g.gap is_s g.is_gap; ends = g.ends }
gap_by false true x xs is_s is_c g h = record {
  gap = hash ∷ (h.body ++ h.gap);
  split = (λ i. is_equal x hash is_c i ∷ h.split i) ∙ ap (λ o. hash ∷ o) (sym (append_assoc h.body h.gap (comment_rest xs)));
  is_gap = comment h.body h.gap (hash ∷ (h.body ++ h.gap)) refl h.passes h.stops h.is_gap;
  ends = h.ends;
}
gap_by false false x xs is_s is_c g h = record { gap = []; split = refl; is_gap = no_octet; ends = (is_s, is_unequal x hash is_c) }

comment_by : (l : Bool) (x : ℕ) (xs : List ℕ) → (x == line_feed) ≡ l → Gapped xs (gap_rest xs) → Commented xs (comment_rest xs) → Commented (x ∷ xs) (cond l (gap_rest xs) (comment_rest xs))
comment_by true x xs is_l g h =
    let e = is_equal x line_feed is_l in
    record { body = []; gap = x ∷ g.gap; split = ap (λ o. x ∷ o) g.split; passes = refl; stops = e; is_gap = separator x g.gap (rw e line_feed_separates) g.is_gap; ends = g.ends }
comment_by false x xs is_l g h =
    let passes : list_all is_comment_octet (x ∷ h.body) ≡ true = rw (goes_on x is_l) h.passes in
    record { body = x ∷ h.body; gap = h.gap; split = ap (λ o. x ∷ o) h.split; passes = passes; stops = h.stops; is_gap = h.is_gap; ends = h.ends }

mutual
  gap_is : (xs : List ℕ) → Gapped xs (gap_rest xs)
  gap_is [] = record { gap = []; split = refl; is_gap = no_octet; ends = tt }
  gap_is (x ∷ xs) = gap_by (is_separator x) (x == hash) x xs refl refl (gap_is xs) (comment_is xs)

  comment_is : (xs : List ℕ) → Commented xs (comment_rest xs)
  comment_is [] = record { body = []; gap = []; split = refl; passes = refl; stops = tt; is_gap = no_octet; ends = tt }
  comment_is (x ∷ xs) = comment_by (x == line_feed) x xs refl (gap_is xs) (comment_is xs)

-- the gap in front, by its length
record Measured (octets : List ℕ) : Type 0 where
  n : ℕ
  in_front : GapInFront octets n
  rest : gap_rest octets ≡ drop n octets
  length_is : n + length (gap_rest octets) ≡ length octets

gap_measured : (xs : List ℕ) → Measured xs
gap_measured xs =
    let g = gap_is xs in
    let front : take (length g.gap) xs ≡ g.gap = ap (take (length g.gap)) g.split ∙ take_at g.gap (gap_rest xs) (length g.gap) refl in
    let following : drop (length g.gap) xs ≡ gap_rest xs = ap (drop (length g.gap)) g.split ∙ drop_at g.gap (gap_rest xs) (length g.gap) refl in
    let sum : length xs ≡ length g.gap + length (gap_rest xs) = ap length g.split ∙ length-append g.gap (gap_rest xs) in
    let is_gap : IsGap (drop (length g.gap) xs) (take (length g.gap) xs) = rw (front, following) g.is_gap in
    let ends : BeginsNoGap (drop (length g.gap) xs) = rw following g.ends in
    record {
      n = length g.gap;
      in_front = record { inside = omega arith; is_gap = is_gap; ends = ends };
      rest = sym following;
      length_is = sym sum;
    }

-- ---- tokens

-- what the reader finds in front is there
abbrev FrontIs : List ℕ → Front → Type 0
FrontIs octets nothing = octets ≡ []
FrontIs octets (stop k) = FitsNowhere octets k
FrontIs octets (token kind text rest) = TokenInFront octets kind (length text) × (text ≡ take (length text) octets) × (rest ≡ drop (length text) octets)

token_is : (kind : TokenKind) (octets text rest : List ℕ) → octets ≡ text ++ rest → IsTokenText kind text → MayFollow kind rest → FrontIs octets (token kind text rest)
token_is kind octets text rest e is_text follows =
    let front : take (length text) octets ≡ text = ap (take (length text)) e ∙ take_at text rest (length text) refl in
    let following : drop (length text) octets ≡ rest = ap (drop (length text)) e ∙ drop_at text rest (length text) refl in
    let inside : length text ≤ length octets = omega (arith, ap length e, length-append text rest) in
    let is_text_here : IsTokenText kind (take (length text) octets) = rw front is_text in
    let follows_here : MayFollow kind (drop (length text) octets) = rw following follows in
    (record { inside = inside; is_text = is_text_here; follows = follows_here }, sym front, sym following)

-- an octet that stops a content is the quote, or it may not stand there
str_by : (q : Bool) (xs content : List ℕ) (x : ℕ) (rest : List ℕ) → xs ≡ content ++ x ∷ rest → list_all is_string_octet content ≡ true → is_string_octet x ≡ false → (x == quote) ≡ q
    → FrontIs (quote ∷ xs) (cond q (token Str (quote ∷ (content ++ quote ∷ [])) rest) (stop (1 + length content)))
str_by true xs content x rest e all h is_q =
    let last : xs ≡ (content ++ quote ∷ []) ++ rest = e ∙ ap (λ y. content ++ y ∷ rest) (is_equal x quote is_q) ∙ sym (append_assoc content (quote ∷ []) rest) in
    token_is Str (quote ∷ xs) (quote ∷ (content ++ quote ∷ [])) rest (ap (λ o. quote ∷ o) last) (content, refl, all) tt
str_by false xs content x rest e all h is_q = stops_str content (x ∷ rest) (ap (λ o. quote ∷ o) e) refl all (h, is_unequal x quote is_q)

str_is : (xs content rest : List ℕ) → xs ≡ content ++ rest → list_all is_string_octet content ≡ true → Stops is_string_octet rest → FrontIs (quote ∷ xs) (str_read content rest)
str_is xs content [] e all h = stops_str content [] (ap (λ o. quote ∷ o) e) refl all tt
str_is xs content (x ∷ rest) e all h = str_by (x == quote) xs content x rest e all h refl

str_front_is : (xs : List ℕ) → FrontIs (quote ∷ xs) (str_read (take (prefix_len is_string_octet xs) xs) (drop (prefix_len is_string_octet xs) xs))
str_front_is xs =
    let n = prefix_len is_string_octet xs in
    str_is xs (take n xs) (drop n xs) (sym (take-append-drop n xs)) (prefix_passes is_string_octet xs) (prefix_stops is_string_octet xs)

word_front_is : (x : ℕ) (xs : List ℕ) → is_word_octet x ≡ true → FrontIs (x ∷ xs) (token Word (take (prefix_len is_word_octet (x ∷ xs)) (x ∷ xs)) (drop (prefix_len is_word_octet (x ∷ xs)) (x ∷ xs)))
word_front_is x xs h =
    let n = prefix_len is_word_octet (x ∷ xs) in
    let found = word_front (x ∷ xs) n (omega arith) h refl in
    token_is Word (x ∷ xs) (take n (x ∷ xs)) (drop n (x ∷ xs)) (sym (take-append-drop n (x ∷ xs))) found.is_text found.follows

front_by : (o c q w : Bool) (x : ℕ) (xs : List ℕ) → (x == open_brace) ≡ o → (x == close_brace) ≡ c → (x == quote) ≡ q → is_word_octet x ≡ w → BeginsNoGap (x ∷ xs)
    → FrontIs (x ∷ xs) (cond o (token Open (x ∷ []) xs) (cond c (token Close (x ∷ []) xs)
    (cond q (str_read (take (prefix_len is_string_octet xs) xs) (drop (prefix_len is_string_octet xs) xs))
    (cond w (token Word (take (prefix_len is_word_octet (x ∷ xs)) (x ∷ xs)) (drop (prefix_len is_word_octet (x ∷ xs)) (x ∷ xs))) (stop 0)))))
front_by true c q w x xs is_o is_c is_q is_w no_gap = token_is Open (x ∷ xs) (x ∷ []) xs refl (ap (λ y. y ∷ []) (is_equal x open_brace is_o)) tt
front_by false true q w x xs is_o is_c is_q is_w no_gap = token_is Close (x ∷ xs) (x ∷ []) xs refl (ap (λ y. y ∷ []) (is_equal x close_brace is_c)) tt
front_by false false true w x xs is_o is_c is_q is_w no_gap =
    subst (λ y. FrontIs (y ∷ xs) (str_read (take (prefix_len is_string_octet xs) xs) (drop (prefix_len is_string_octet xs) xs))) (sym (is_equal x quote is_q)) (str_front_is xs)
front_by false false false true x xs is_o is_c is_q is_w no_gap = word_front_is x xs is_w
front_by false false false false x xs is_o is_c is_q is_w no_gap =
    begins_nothing x xs refl refl (record {
      no_separator = no_gap.0;
      no_comment = no_gap.1;
      no_str = is_unequal x quote is_q;
      no_open = is_unequal x open_brace is_o;
      no_close = is_unequal x close_brace is_c;
      no_word = is_w;
    })

front_is : (octets : List ℕ) → BeginsNoGap octets → FrontIs octets (front_read octets)
front_is [] no_gap = refl
front_is (x ∷ xs) no_gap = front_by (x == open_brace) (x == close_brace) (x == quote) (is_word_octet x) x xs refl refl refl refl no_gap

-- ---- texts

-- the answer holds by the definition; want of memory is none
abbrev pub IsAnswer : List ℕ → ℕ → Result (List PlainToken) LexError → Type 0
IsAnswer text limit (Ok ts) = AreTokensOf text limit ts
IsAnswer text limit (Err (BadByte place)) = HasBadByte text limit place
IsAnswer text limit (Err (TooDeep number)) = IsTooDeep text limit number
IsAnswer text limit (Err OutOfMemory) = ⊥

-- the reader at a place of a text, where the octets from there on take fewer than n steps
abbrev Reads : ℕ → List ℕ → ℕ → Type 0
Reads n text limit = (before : List PlainToken) (at : ℕ) (octets : List ℕ) → length octets < n → at ≡ length text - length octets → LexedTo text limit before octets → IsAnswer text limit (read n limit before at octets)

deep_is : (kind : TokenKind) (limit : ℕ) (tokens : List PlainToken) → is_deep kind limit tokens ≡ true → (kind ≡ Open) × (limit < greatest_excess tokens)
deep_is Open limit tokens h = let lt : limit < greatest_excess tokens = grind (arith, nat_tests) in (refl, lt)
deep_is Word limit tokens h = cc
deep_is Str limit tokens h = cc
deep_is Close limit tokens h = cc

shallow_is : (kind : TokenKind) (limit level : ℕ) (tokens : List PlainToken) → is_deep kind limit tokens ≡ false → level ≤ limit → greatest_excess tokens ≡ level_after kind level → level_after kind level ≤ limit
shallow_is Open limit level tokens h le e = let ge : greatest_excess tokens ≤ limit = grind (arith, nat_tests) in omega arith
shallow_is Word limit level tokens h le e = le
shallow_is Str limit level tokens h le e = le
shallow_is Close limit level tokens h le e = omega arith

token_by : (deep : Bool) (n : ℕ) (text : List ℕ) (limit : ℕ) → Reads n text limit → (before : List PlainToken) (at : ℕ) (octets : List ℕ) → length octets < suc n → at ≡ length text - length octets → LexedTo text limit before octets
    → (kind : TokenKind) (slice rest : List ℕ) → FrontIs octets (token kind slice rest) → is_deep kind limit (before ++ token_at kind slice at ∷ []) ≡ deep
    → IsAnswer text limit (cond deep (Err (TooDeep (length before))) (read n limit (before ++ token_at kind slice at ∷ []) (at + length slice + (length rest - length (gap_rest rest))) (gap_rest rest)))
token_by true n text limit go before at octets lt is_at h kind slice rest (found, front, following) is_d =
    let d = deep_is kind limit (before ++ token_at kind slice at ∷ []) is_d in
    let above : greatest_excess (before ++ token_at kind slice at ∷ []) ≡ greatest_excess before + 1 = level_push before (token_at kind slice at) ∙ ap (λ k. level_after k (greatest_excess before)) d.0 in
    let full : greatest_excess before ≡ limit = omega (arith, d.1, h.level) in
    lexed_deep text limit before octets kind (length slice) (greatest_excess before) (length before) h found d.0 full refl refl
token_by false n text limit go before at octets lt is_at h kind slice rest (found, front, following) is_d =
    let t = token_at kind slice at in
    let gap = gap_measured rest in
    let fits = shallow_is kind limit (greatest_excess before) (before ++ t ∷ []) is_d h.level (level_push before t) in
    let next = lexed_push text limit before (before ++ t ∷ []) octets rest (gap_rest rest) t (length slice) gap.n h found gap.in_front fits front following gap.rest is_at refl refl in
    let some : 0 < length slice = token_some kind slice (subst (λ x. IsTokenText kind x) (sym front) found.is_text) in
    let parts : length octets ≡ length slice + length rest = ap length (sym (take-append-drop (length slice) octets) ∙ (λ i. sym front i ++ sym following i)) ∙ length-append slice rest in
    let all : length text ≡ length h.front + length octets = ap length h.split ∙ length-append h.front octets in
    let gap_sum : gap.n + length (gap_rest rest) ≡ length rest = gap.length_is in
    go (before ++ t ∷ []) _ (gap_rest rest) (omega arith) (omega arith) next

front_by_kind : (n : ℕ) (text : List ℕ) (limit : ℕ) → Reads n text limit → (before : List PlainToken) (at : ℕ) (octets : List ℕ) → length octets < suc n → at ≡ length text - length octets → LexedTo text limit before octets
    → (f : Front) → FrontIs octets f → IsAnswer text limit (read_on (read n limit) limit before at f)
front_by_kind n text limit go before at octets lt is_at h nothing e = lexed_all text limit before octets h (ap length e)
front_by_kind n text limit go before at octets lt is_at h (stop k) stops = lexed_bad text limit before octets k (at + k) h stops (ap (λ n. n + k) is_at)
front_by_kind n text limit go before at octets lt is_at h (token kind slice rest) found =
    token_by (is_deep kind limit (before ++ token_at kind slice at ∷ [])) n text limit go before at octets lt is_at h kind slice rest found refl

reads : (n : ℕ) (text : List ℕ) (limit : ℕ) → Reads n text limit
reads zero text limit before at octets lt is_at h = absurd (omega arith)
reads (suc n) text limit before at octets lt is_at h = front_by_kind n text limit (reads n text limit) before at octets lt is_at h (front_read octets) (front_is octets h.ends)

-- each text has an answer
pub reading_is : (text : List ℕ) (limit : ℕ) → IsAnswer text limit (reading text limit)
reading_is text limit =
    let gap = gap_measured text in
    let start : LexedTo text limit [] (gap_rest text) = rw gap.rest (lexed_none text limit gap.n gap.in_front) in
    reads (suc (length (gap_rest text))) text limit [] (length text - length (gap_rest text)) (gap_rest text) (omega arith) refl start
