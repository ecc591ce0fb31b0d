-- Single texts that are read.
use Rattle.std.proofs.Common.{◌≡◌, ℕ, ◌+◌, ◌-◌, ◌<◌, ◌≤◌, ◌^◌, List, [], ◌∷◌, ◌++◌, length, take, drop, get_or, refl, sym, ◌∙◌, ap, subst, arith, append_assoc, length-append}
use Rattle.std.specs.Prelude.{decimal}
use Rattle.std.proofs.lemmas.Fmt.{decimal_digit}
use Rattle.std.proofs.lemmas.List.{take_at, drop_more}
use Rattle.hex.specs.Hex.{encode_lower}
use Rattle.ax_bits.specs.Bits.{AreOctets}
use Rattle.ax_tokens.specs.Octets.{quote}
use Rattle.ax_format.specs.Characters.{IsName}
use Rattle.ax_format.specs.Paths.{three_digits}
use Rattle.ax_text_form.proofs.WordTokens.{IsWord, decimal_word, name_word, category_word, hex_token}
use Rattle.ax_text_form.specs.ValueText.{Texts, opening, closing, hex_text}
use Rattle.ax_tokens.specs.Depth.{level_after}
use Rattle.ax_tokens.specs.Lexing.{IsTokenText, MayFollow}
use Rattle.ax_tokens.specs.declared.token.TokenKind.{TokenKind}
use Rattle.ax_tokens.specs.declared.token.TokenKind.TheVariants.{Word, Open, Close}
use Rattle.ax_printed_lines.specs.Printed.{Place, AfterGap, IsAfterOctet, Stands, AreInFront, IsOneWord, Keeps, Goes}
use Rattle.ax_printed_lines.proofs.Separators.{stands_there, space_gap, space_ends}

-- ---- texts after others

pub goes_none : (old : Place) → Goes old old []
goes_none old = record { left = refl; keeps = λ rest k. k }

pub front_both : (a b : Texts) (x y z : List ℕ) → AreInFront a x y → AreInFront b y z → AreInFront (a ++ b) x z
front_both [] b x y z h k = subst (λ l. AreInFront b l z) (sym h) k
front_both (text ∷ a) b x y z (more, s, h) k = (more, s, front_both a b more y z h k)

pub goes_both : (old mid new : Place) (a b : Texts) → Goes old mid a → Goes mid new b → Goes old new (a ++ b)
goes_both old mid new a b h k = record {
  left = front_both a b old.left mid.left new.left h.left k.left;
  keeps = λ rest r. subst (Keeps old.level) (sym (append_assoc a b rest)) (h.keeps (b ++ rest) (k.keeps rest r));
}

pub goes_same : (old new : Place) (a b : Texts) → a ≡ b → Goes old new a → Goes old new b
goes_same old new a b e h = subst (Goes old new) e h

-- ---- one text

pub word_goes : (old new : Place) (text : List ℕ) → IsOneWord text → Stands Word text old.left new.left → new.level ≡ old.level → old.level ≤ 20 → Goes old new (text ∷ [])
word_goes old new text w s l le = record {
  left = (new.left, subst (λ kind. Stands kind text old.left new.left) (sym w.0) s, refl);
  keeps = λ rest k. subst (λ kind. IsTokenText kind text × (level_after kind old.level ≤ 20) × Keeps (level_after kind old.level) rest) (sym w.0) (w.1, le, subst (λ n. Keeps n rest) l k);
}

pub one_word : (text : List ℕ) → IsWord text → IsOneWord text
one_word text h = (h.kind, h.octets)

pub name_one : (name : List ℕ) → IsName name → IsOneWord name
name_one name h = one_word name (name_word name h)

pub octet_after : (octets following left : List ℕ) (x y : ℕ) → octets ≡ y ∷ following → y ≡ x → AfterGap following left → IsAfterOctet x octets left
octet_after octets following left x y e same g = (following, e ∙ ap (λ k. k ∷ following) same, g)

pub ruleset octets = (octet_after)

pub octets_none : (octets : List ℕ) → length octets < 1 → octets ≡ []
octets_none [] h = refl
octets_none (x ∷ octets) h = absurd (omega (arith, h))

pub octet_last : (octets following left : List ℕ) (x y : ℕ) → octets ≡ y ∷ following → y ≡ x → AfterGap following left → left ≡ [] → IsAfterOctet x octets []
octet_last octets following left x y e same g none = octet_after octets following [] x y e same (subst (AfterGap following) none g)

-- a token of one octet, of a kind that anything may follow
one_stands : (kind : TokenKind) (x : ℕ) (octets left : List ℕ) → ((rest : List ℕ) → MayFollow kind rest) → IsAfterOctet x octets left → Stands kind (x ∷ []) octets left
one_stands kind x octets left any (following, e, g) = record { gap = g.gap; split = e ∙ ap (λ l. x ∷ l) g.split; each = g.each; follows = any (g.gap ++ left) }

pub close_stands : (octets left : List ℕ) → IsAfterOctet 125 octets left → Stands Close closing octets left
close_stands octets left h = one_stands Close 125 octets left (λ rest. tt) h

pub open_goes : (old new : Place) → IsAfterOctet 123 old.left new.left → new.level ≡ old.level + 1 → old.level < 20 → Goes old new (opening ∷ [])
open_goes old new h l le = record { left = (new.left, one_stands Open 123 old.left new.left (λ rest. tt) h, refl); keeps = λ rest k. (refl, omega (arith, le), subst (λ n. Keeps n rest) l k) }

pub close_goes : (old new : Place) → IsAfterOctet 125 old.left new.left → new.level ≡ old.level - 1 → old.level ≤ 20 → Goes old new (closing ∷ [])
close_goes old new h l le = record { left = (new.left, close_stands old.left new.left h, refl); keeps = λ rest k. (refl, omega (arith, le), subst (λ n. Keeps n rest) l k) }

pub after_less : (x : ℕ) (octets left : List ℕ) → IsAfterOctet x octets left → length left < length octets
after_less x octets left (following, e, g) = omega (arith, ap length e, ap length g.split, length-append g.gap left)

pub number_goes : (old new : Place) (n : ℕ) (digits : List ℕ) → n < 2 ^ 64 → digits ≡ decimal n → Stands Word digits old.left new.left → new.level ≡ old.level → old.level ≤ 20 → Goes old new (decimal n ∷ [])
number_goes old new n digits small is s l le = word_goes old new (decimal n) (one_word (decimal n) (decimal_word n (omega (arith, small)))) (subst (λ t. Stands Word t old.left new.left) is s) l le

-- a number, and what ends it
pub standing_goes : (old new : Place) (n : ℕ) → n < 2 ^ 64 → Stands Word (decimal n) old.left new.left → new.level ≡ old.level → old.level ≤ 20 → Goes old new (decimal n ∷ [])
standing_goes old new n small s l le = number_goes old new n (decimal n) small refl s l le

pub digit_stands : (octets following left : List ℕ) (x n : ℕ) → 48 ≤ x → x ≤ 57 → n ≡ x - 48 → octets ≡ x ∷ following → AfterGap following left → MayFollow Word following → Stands Word (decimal n) octets left
digit_stands octets following left x n low high is e g f =
    let back : 48 + n ≡ x = omega (arith, low, is) in
    let text : x ∷ [] ≡ decimal n = ap (λ k. k ∷ []) (sym back) ∙ sym (decimal_digit n (omega (arith, high, is))) in
    subst (λ t. Stands Word t octets left) text (stands_there Word (x ∷ []) following octets left e g f)

pub digits_go : (old new : Place) (n : ℕ) (following : List ℕ) → n < 2 ^ 64 → old.left ≡ decimal n ++ following → AfterGap following new.left → MayFollow Word following → new.level ≡ old.level → old.level ≤ 20 → Goes old new (decimal n ∷ [])
digits_go old new n following small e g f l le = number_goes old new n (decimal n) small refl (stands_there Word (decimal n) following old.left new.left e g f) l le

-- a digit, and one space behind it
pub spaced_digit_stands : (octets : List ℕ) (n : ℕ) → 3 ≤ length octets → 48 ≤ get_or octets 0 0 → get_or octets 0 0 ≤ 57 → n ≡ get_or octets 0 0 - 48 → get_or octets 1 0 ≡ 32 → Stands Word (decimal n) octets (drop 2 octets)
spaced_digit_stands octets n within low high is space =
    let x = get_or octets 0 0 in
    let y = get_or octets 1 0 in
    let following = drop 1 octets in
    let first : octets ≡ x ∷ following = drop_more octets 0 0 (omega (arith, within)) in
    let second : following ≡ y ∷ drop 2 octets = drop_more octets 1 0 (omega (arith, within)) in
    digit_stands octets following (drop 2 octets) x n low high is first (space_gap following (drop 2 octets) y second space) (space_ends following (drop 2 octets) y second space)

-- ---- a name

pub name_goes : (old new : Place) (name front : List ℕ) → IsName name → Stands Word front old.left new.left → length front ≡ length name → take (length name) old.left ≡ name → new.level ≡ old.level → old.level ≤ 20 → Goes old new (name ∷ [])
name_goes old new name front is s size same l le =
    let here : front ≡ name = sym (take_at front (s.gap ++ new.left) (length name) size) ∙ ap (take (length name)) (sym s.split) ∙ same in
    word_goes old new name (name_one name is) (subst (λ t. Stands Word t old.left new.left) here s) l le

pub name_less : (name front octets left : List ℕ) → IsName name → Stands Word front octets left → length front ≡ length name → length left < length octets
name_less name front octets left is s size = omega (arith, is.0, size, ap length s.split, length-append front (s.gap ++ left), length-append s.gap left)

pub ruleset names = (name_goes, name_less)

-- a short name, and one space behind it
spaced_stands : (name octets left : List ℕ) → octets ≡ name ++ 32 ∷ left → Stands Word name octets left
spaced_stands name octets left e = stands_there Word name (32 ∷ left) octets left e (space_gap (32 ∷ left) left 32 refl refl) (space_ends (32 ∷ left) left 32 refl refl)

pub spaced_goes : (old new : Place) (name : List ℕ) → IsName name → old.left ≡ name ++ 32 ∷ new.left → new.level ≡ old.level → old.level ≤ 20 → Goes old new (name ∷ [])
spaced_goes old new name is e l le = word_goes old new name (name_one name is) (spaced_stands name old.left new.left e) l le

pub spaced_less : (name octets left : List ℕ) → octets ≡ name ++ 32 ∷ left → length left < length octets
spaced_less name octets left e = omega (arith, ap length e, length-append name (32 ∷ left))

pub ruleset short_names = (spaced_goes, spaced_less)

-- a short name, and a number behind it
pub named_number_goes : (old new : Place) (name following : List ℕ) (n : ℕ) → IsName name → old.left ≡ name ++ 32 ∷ following → n < 2 ^ 64 → Stands Word (decimal n) following new.left → new.level ≡ old.level → old.level ≤ 20 → Goes old new (name ∷ decimal n ∷ [])
named_number_goes old new name following n is e small s l le =
    let mid : Place = record { left = following; level = old.level } in
    goes_both old mid new (name ∷ []) (decimal n ∷ []) (spaced_goes old mid name is e refl le) (standing_goes mid new n small s l le)

pub category_goes : (old new : Place) (n : ℕ) (digits : List ℕ) → n < 256 → digits ≡ three_digits n → Stands Word digits old.left new.left → new.level ≡ old.level → old.level ≤ 20 → Goes old new (three_digits n ∷ [])
category_goes old new n digits small is s l le = word_goes old new (three_digits n) (one_word (three_digits n) (category_word n small)) (subst (λ t. Stands Word t old.left new.left) is s) l le

pub quoted_goes : (old new : Place) (text digits octets : List ℕ) → AreOctets octets → text ≡ quote ∷ (digits ++ quote ∷ []) → digits ≡ encode_lower octets → Stands Word text old.left new.left → new.level ≡ old.level → old.level ≤ 20 → Goes old new (hex_text octets ∷ [])
quoted_goes old new text digits octets h is same s l le =
    let whole : text ≡ hex_text octets = is ∙ ap (λ d. quote ∷ (d ++ quote ∷ [])) same in
    record {
      left = (new.left, record { gap = s.gap; split = s.split ∙ ap (λ t. t ++ (s.gap ++ new.left)) whole; each = s.each; follows = tt }, refl);
      keeps = λ rest k. (hex_token octets h, le, subst (λ n. Keeps n rest) l k);
    }

pub ruleset quotes = (quoted_goes)

pub ruleset words = (word_goes)

pub ruleset braces = (open_goes, close_goes, after_less)

pub ruleset named_numbers = (named_number_goes)

pub ruleset numbers = (digits_go, standing_goes)

pub ruleset categories = (category_goes)

-- ---- how much is left

front_less : (texts : Texts) (octets left : List ℕ) → AreInFront texts octets left → length left ≤ length octets
front_less [] octets left h = omega (arith, ap length h)
front_less (text ∷ texts) octets left (more, s, h) = omega (arith, front_less texts more left h, ap length s.split, length-append text (s.gap ++ more), length-append s.gap more)

pub less_left : (old new : Place) (texts : Texts) → Goes old new texts → length new.left ≤ length old.left
less_left old new texts h = front_less texts old.left new.left h.left
