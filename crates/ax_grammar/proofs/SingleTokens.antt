-- What the octets of a token stand for.
use Rattle.std.proofs.Common.{◌≡◌, ◌≢◌, ℕ, zero, suc, ◌+◌, ◌-◌, ◌*◌, ◌^◌, ◌<◌, ◌≤◌, Bool, true, false, ◌&&◌, cond, eqb, List, [], ◌∷◌, ◌++◌, length, take, drop, Option, Some, None, refl, sym, ◌∙◌, ap, subst, arith, lit<}
use Rattle.std.specs.Prelude.{MatchOption, nat_le, get_or}
use Rattle.std.specs.List.{list_all, AllByRecursion}
use Rattle.std.specs.Option.{option_map, option_and_then}
use Rattle.std.proofs.lemmas.Bool.{and_parts, and_from, leb-true, le-leb, eqb-true, eqb-false, ne_eqb, cond-true, cond-false, not-true, not_from_false, ltb-true, lt-ltb, le-ltb}
use Rattle.std.proofs.lemmas.Option.{cond_some}
use Rattle.std.proofs.lemmas.List.{take_at, length-append}
use Rattle.std.proofs.Math.Nat.{pow-le-pow_right}
use Rattle.ax_format.specs.Characters.{IsName, is_name_octet, IsTextOctet}
use Rattle.ax_tokens.specs.Octets.{quote, is_string_octet, is_word_octet}
use Rattle.ax_tokens.specs.Lexing.{IsTokenText}
use Rattle.ax_tokens.specs.declared.token.TokenKind.{TokenKind}
use Rattle.ax_tokens.specs.declared.token.TokenKind.TheVariants.{Word, Str, Open, Close}
use Rattle.ax_grammar.specs.InRange.{IsText}
use Rattle.ax_grammar.specs.Spelling.{quoted}
use Rattle.ax_grammar.specs.Tests.{is_digit, name_of, unquoted, content_in_quotes, if_short, text_of}

-- ---- names

abbrev name_test : (text : List ℕ) → Bool
name_test text = nat_le 1 (length text) && nat_le (length text) 16 && list_all is_name_octet text

pub name_some : (text : List ℕ) → IsName text → name_of text ≡ Some text
unfolding name_of
name_some text h =
    cond-true (name_test text) (Some text) None (and_from _ _ (and_from _ _ (le-leb 1 (length text) h.0) (le-leb (length text) 16 h.1)) h.2)

pub name_found : (text name : List ℕ) → name_of text ≡ Some name → IsName name × (text ≡ name)
unfolding name_of
name_found text name e =
    let p = cond_some (name_test text) text name e in
    let q = and_parts _ _ p.0 in
    let r = and_parts _ _ q.0 in
    subst (λ x. IsName x × (text ≡ x)) p.1 ((leb-true 1 (length text) r.0, leb-true (length text) 16 r.1, q.1), refl)

name_nothing : (text : List ℕ) (o : Option (List ℕ)) → name_of text ≡ o → (IsName text → ⊥) → name_of text ≡ None
name_nothing text None e h = e
name_nothing text (Some name) e h = let p = name_found text name e in absurd (h (subst IsName (sym p.1) p.0))

pub name_is : (text : List ℕ) (r : Option (List ℕ)) → MatchOption r (IsName text → ⊥) (λ name. IsName text × (name ≡ text)) → r ≡ name_of text
name_is text None h = sym (name_nothing text (name_of text) refl h)
name_is text (Some name) h = ap (λ x. Some x) h.1 ∙ sym (name_some text h.0)

-- ---- texts in quotes

unquoted_is : (content : List ℕ) → list_all is_string_octet content ≡ true → unquoted (content ++ quote ∷ []) ≡ Some content
unquoted_is [] h = refl
unquoted_is (x ∷ []) h = cond-true (is_string_octet x) (Some (x ∷ [])) None (and_parts (is_string_octet x) true h).0
unquoted_is (x ∷ y ∷ content) h =
    let p = and_parts _ _ h in
    cond-true _ _ _ p.0 ∙ ap (option_map (λ content. x ∷ content)) (unquoted_is (y ∷ content) p.1)

option_map_found : (x : ℕ) (o : Option (List ℕ)) (content : List ℕ) → option_map (λ content. x ∷ content) o ≡ Some content → (rest : List ℕ) × (o ≡ Some rest) × (x ∷ rest ≡ content)
option_map_found x None content e = absurd cc
option_map_found x (Some rest) content e = (rest, refl, cc)

guarded : (b : Bool) (o : Option (List ℕ)) (content : List ℕ) → cond b o None ≡ Some content → (b ≡ true) × (o ≡ Some content)
guarded true o content e = (refl, e)
guarded false o content e = absurd cc

unquoted_found : (text content : List ℕ) → unquoted text ≡ Some content → (text ≡ content ++ quote ∷ []) × (list_all is_string_octet content ≡ true)
unquoted_found [] content e = absurd cc
unquoted_found (x ∷ []) content e =
    let p = cond_some _ [] content e in
    subst (λ c. (x ∷ [] ≡ c ++ quote ∷ []) × (list_all is_string_octet c ≡ true)) p.1 (ap (λ y. y ∷ []) (eqb-true x quote p.0), refl)
unquoted_found (x ∷ y ∷ text) content e =
    let p = guarded _ _ content e in
    let q = option_map_found x (unquoted (y ∷ text)) content p.1 in
    let ih = unquoted_found (y ∷ text) q.0 q.1 in
    subst (λ c. (x ∷ y ∷ text ≡ c ++ quote ∷ []) × (list_all is_string_octet c ≡ true)) q.2 (ap (λ t. x ∷ t) ih.0, and_from _ _ p.0 ih.1)

is_text_octet : (x : ℕ) → is_string_octet x ≡ true → IsTextOctet x
unfolding is_string_octet
is_text_octet x h =
    let p = and_parts _ _ h in
    let q = and_parts _ _ p.0 in
    (leb-true 32 x q.0, leb-true x 126 q.1, eqb-false x 34 (not-true _ p.1))

is_string : (x : ℕ) → IsTextOctet x → is_string_octet x ≡ true
unfolding is_string_octet
is_string x h = and_from _ _ (and_from _ _ (le-leb 32 x h.0) (le-leb x 126 h.1)) (not_from_false _ (ne_eqb x 34 h.2))

pub are_text : (content : List ℕ) → list_all is_string_octet content ≡ true → AllByRecursion IsTextOctet content
are_text [] h = tt
are_text (x ∷ content) h = let p = and_parts _ _ h in (is_text_octet x p.0, are_text content p.1)

pub are_string : (content : List ℕ) → AllByRecursion IsTextOctet content → list_all is_string_octet content ≡ true
are_string [] h = refl
are_string (x ∷ content) h = and_from _ _ (is_string x h.0) (are_string content h.1)

pub quoted_is : (content : List ℕ) → IsText content → text_of (quoted content) ≡ Some content
unfolding text_of
quoted_is content h =
    ap (option_and_then if_short) (unquoted_is content (are_string content h.1)) ∙ cond-true _ _ _ (lt-ltb (length content) 4294967296 h.0)

then_found : (o : Option (List ℕ)) (content : List ℕ) → option_and_then if_short o ≡ Some content → (o ≡ Some content) × (length content < 4294967296)
then_found None content e = absurd cc
then_found (Some c) content e =
    let p = cond_some _ c content e in (ap (λ x. Some x) p.1, subst (λ x. length x < 4294967296) p.1 (ltb-true (length c) 4294967296 p.0))

in_quotes_found : (text content : List ℕ) → content_in_quotes text ≡ Some content → (text ≡ quoted content) × AllByRecursion IsTextOctet content
in_quotes_found [] content e = absurd cc
in_quotes_found (x ∷ text) content e =
    let p = guarded _ _ content e in
    let q = unquoted_found text content p.1 in
    (ap (λ y. y ∷ text) (eqb-true x quote p.0) ∙ ap (λ t. quote ∷ t) q.0, are_text content q.1)

pub text_found : (text content : List ℕ) → text_of text ≡ Some content → IsText content × (text ≡ quoted content)
unfolding text_of
text_found text content e =
    let p = then_found (content_in_quotes text) content e in
    let q = in_quotes_found text content p.0 in
    ((p.1, q.1), q.0)

-- a Str is its content in quotes
pub str_parts : (text : List ℕ) → IsTokenText Str text → (2 ≤ length text) × (text ≡ quoted (take (length text - 1 - 1) (drop 1 text))) × AllByRecursion IsTextOctet (take (length text - 1 - 1) (drop 1 text))
str_parts text h =
    let content = h.0 in
    let long : length text ≡ 2 + length content = ap length h.1 ∙ omega (arith, length-append content (quote ∷ [])) in
    let rest : drop 1 text ≡ content ++ quote ∷ [] = ap (drop 1) h.1 in
    let count : length text - 1 - 1 ≡ length content = omega (arith, long) in
    let middle : take (length text - 1 - 1) (drop 1 text) ≡ content = rw (count, rest) (take_at content (quote ∷ []) (length content) refl) in
    (omega (arith, long), h.1 ∙ ap quoted (sym middle), subst (λ c. AllByRecursion IsTextOctet c) (sym middle) (are_text content h.2))

word_no_quote : (x : ℕ) → is_word_octet x ≡ true → eqb x quote ≡ false
unfolding is_word_octet
word_no_quote x h =
    let p = and_parts _ _ h in
    let q = and_parts _ _ p.0 in
    let r = and_parts _ _ q.0 in
    let s = and_parts _ _ r.0 in
    not-true (eqb x quote) s.1

-- no other token is a text in quotes
no_text : (kind : TokenKind) (text : List ℕ) → IsTokenText kind text → kind ≢ Str → content_in_quotes text ≡ None
no_text Word [] h n = refl
no_text Word (x ∷ text) h n = cond-false _ _ _ (word_no_quote x (and_parts _ _ h.1).0)
no_text Str text h n = absurd (n refl)
no_text Open text h n = ap content_in_quotes h
no_text Close text h n = ap content_in_quotes h

pub other_token : (kind : TokenKind) (text : List ℕ) → IsTokenText kind text → kind ≢ Str → text_of text ≡ None
unfolding text_of
other_token kind text h n = ap (option_and_then if_short) (no_text kind text h n)

pub str_token : (kind : TokenKind) (text : List ℕ) → IsTokenText kind text → kind ≡ Str → (2 ≤ length text) × (text ≡ quoted (take (length text - 1 - 1) (drop 1 text))) × AllByRecursion IsTextOctet (take (length text - 1 - 1) (drop 1 text))
str_token kind text h e = str_parts text (subst (λ k. IsTokenText k text) e h)

pub long_token : (kind : TokenKind) (text : List ℕ) → IsTokenText kind text → kind ≡ Str → 4294967296 ≤ length text - 1 - 1 → text_of text ≡ None
unfolding text_of
long_token kind text h e long =
    let p = str_token kind text h e in
    let content = take (length text - 1 - 1) (drop 1 text) in
    let size : length text ≡ 2 + length content = ap length p.1 ∙ omega (arith, length-append content (quote ∷ [])) in
    ap (λ t. option_and_then if_short (content_in_quotes t)) p.1 ∙ ap (option_and_then if_short) (unquoted_is content (are_string content p.2))
    ∙ cond-false _ _ _ (le-ltb (length content) 4294967296 (omega (arith, size)))

pub short_token : (kind : TokenKind) (text : List ℕ) → IsTokenText kind text → kind ≡ Str → length text - 1 - 1 < 4294967296
    → (Some (take (length text - 1 - 1) (drop 1 text)) ≡ text_of text) × IsText (take (length text - 1 - 1) (drop 1 text))
short_token kind text h e short =
    let p = str_token kind text h e in
    let content = take (length text - 1 - 1) (drop 1 text) in
    let size : length text ≡ 2 + length content = ap length p.1 ∙ omega (arith, length-append content (quote ∷ [])) in
    let fits : IsText content = (omega (arith, size), p.2) in
    (sym (ap text_of p.1 ∙ quoted_is content fits), fits)

-- ---- digits

pub digit_at : (digits : List ℕ) (i : ℕ) → list_all is_digit digits ≡ true → i < length digits → (48 ≤ get_or digits i 0) × (get_or digits i 0 ≤ 57)
digit_at [] i h lt = absurd (omega arith)
digit_at (x ∷ digits) zero h lt = let p = and_parts _ _ (and_parts _ _ h).0 in (leb-true 48 x p.0, leb-true x 57 p.1)
digit_at (x ∷ digits) (suc i) h lt = digit_at digits i (and_parts _ _ h).1 (omega arith)

-- 18 digits fit
pub room : (value i : ℕ) → value < 10 ^ i → i < 18 → 10 * value + 9 < 10 ^ 18
room value i h lt =
    let le : i ≤ 17 = omega arith in
    let few : 10 ^ i ≤ 10 ^ 17 = pow-le-pow_right (lit< tt) le in
    omega (arith, few, h)

pub bound_most : (value n most : ℕ) → value < 10 ^ n → n ≤ most → value < 10 ^ most
bound_most value n most h le =
    let more : 10 ^ n ≤ 10 ^ most = pow-le-pow_right (lit< tt) le in
    omega (arith, more, h)
