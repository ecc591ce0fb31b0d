-- Separators behind a token.
use Rattle.std.proofs.Common.{◌≡◌, ℕ, ◌≤◌, true, false, List, [], ◌∷◌, ◌++◌, length, drop, get_or, arith, refl, sym, ◌∙◌, ap, subst, append_assoc}
use Rattle.std.specs.List.{list_all}
use Rattle.std.proofs.lemmas.Bool.{and_from, and_parts}
use Rattle.std.proofs.lemmas.List.{drop_more}
use Rattle.ax_tokens.specs.Lexing.{MayFollow}
use Rattle.ax_tokens.specs.Octets.{is_separator, is_word_octet}
use Rattle.ax_tokens.specs.declared.token.TokenKind.{TokenKind}
use Rattle.ax_tokens.specs.declared.token.TokenKind.TheVariants.{Word}
use Rattle.ax_printed_lines.specs.Printed.{AfterGap, IsAfterOctet, Stands}

pub no_gap : (octets : List ℕ) → AfterGap octets octets
no_gap octets = record { gap = []; split = refl; each = refl }

one_more : (gap : List ℕ) (x : ℕ) → list_all is_separator gap ≡ true → is_separator x ≡ true → list_all is_separator (gap ++ x ∷ []) ≡ true
one_more [] x h e = and_from (is_separator x) true e refl
one_more (y ∷ gap) x h e = let p = and_parts (is_separator y) (list_all is_separator gap) h in and_from (is_separator y) (list_all is_separator (gap ++ x ∷ [])) p.0 (one_more gap x p.1 e)

pub gap_more : (octets left later : List ℕ) (x : ℕ) → AfterGap octets left → left ≡ x ∷ later → is_separator x ≡ true → AfterGap octets later
gap_more octets left later x g e s = record {
  gap = g.gap ++ x ∷ [];
  split = g.split ∙ ap (λ l. g.gap ++ l) e ∙ sym (append_assoc g.gap (x ∷ []) later);
  each = one_more g.gap x g.each s;
}

pub ruleset gaps = (no_gap, gap_more)

-- one space
separator : is_separator 32 ≡ true
unfolding is_separator
separator = refl

no_word_octet : is_word_octet 32 ≡ false
unfolding is_word_octet
no_word_octet = refl

pub space_gap : (octets following : List ℕ) (x : ℕ) → octets ≡ x ∷ following → x ≡ 32 → AfterGap octets following
space_gap octets following x e is = gap_more octets octets following x (no_gap octets) e (ap is_separator is ∙ separator)

pub space_ends : (octets following : List ℕ) (x : ℕ) → octets ≡ x ∷ following → x ≡ 32 → MayFollow Word octets
space_ends octets following x e is = subst (MayFollow Word) (sym (e ∙ ap (λ k. k ∷ following) is)) no_word_octet

pub ruleset spaces = (space_gap)

pub ends_there : (octets : List ℕ) → octets ≡ [] → MayFollow Word octets
ends_there octets e = subst (MayFollow Word) (sym e) tt

pub ruleset ends = (ends_there)

-- a token in front of a gap
pub stands_there : (kind : TokenKind) (text following octets left : List ℕ) → octets ≡ text ++ following → AfterGap following left → MayFollow kind following → Stands kind text octets left
stands_there kind text following octets left e g f = record {
  gap = g.gap;
  split = e ∙ ap (λ l. text ++ l) g.split;
  each = g.each;
  follows = subst (MayFollow kind) g.split f;
}

pub ruleset stands = (stands_there)

-- an octet, and one space behind it
pub spaced_octet : (octets : List ℕ) (x : ℕ) → 3 ≤ length octets → get_or octets 0 0 ≡ x → get_or octets 1 0 ≡ 32 → IsAfterOctet x octets (drop 2 octets)
spaced_octet octets x within is space =
    let first : octets ≡ x ∷ drop 1 octets = drop_more octets 0 0 (omega (arith, within)) ∙ ap (λ k. k ∷ drop 1 octets) is in
    let second : drop 1 octets ≡ get_or octets 1 0 ∷ drop 2 octets = drop_more octets 1 0 (omega (arith, within)) in
    (drop 1 octets, first, space_gap (drop 1 octets) (drop 2 octets) (get_or octets 1 0) second space)
