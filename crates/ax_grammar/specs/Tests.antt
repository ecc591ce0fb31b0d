-- Single tokens: what a text stands for, or None.
use Rattle.std.specs.Prelude.{ℕ, ◌+◌, ◌-◌, ◌*◌, Bool, false, not, ◌&&◌, ◌==◌, nat_le, nat_lt, if◌then◌else◌, List, [], ◌∷◌, length, Option, Some, None}
use Rattle.std.specs.List.{list_all}
use Rattle.std.specs.Option.{option_map, option_and_then}
use Rattle.ax_format.specs.Characters.{is_name_octet}
use Rattle.ax_tokens.specs.Octets.{quote, is_string_octet}

-- a name
unfoldable pub name_of : List ℕ → Option (List ℕ)
name_of text =
    if nat_le 1 (length text) && nat_le (length text) 16 && list_all is_name_octet text then Some text else None

-- an octet 0 to 9
abbrev pub is_digit : ℕ → Bool
is_digit octet = nat_le 48 octet && nat_le octet 57

-- the number that digits after a number stand for
abbrev pub number_after_digits : ℕ → List ℕ → ℕ
number_after_digits n [] = n
number_after_digits n (digit ∷ digits) = number_after_digits (10 * n + (digit - 48)) digits

-- the first of several octets is the digit 0
abbrev pub has_leading_zero : List ℕ → Bool
has_leading_zero [] = false
has_leading_zero (first ∷ []) = false
has_leading_zero (first ∷ second ∷ rest) = first == 48

-- a decimal number of at most that many digits, without leading zeros
unfoldable pub number_of : ℕ → List ℕ → Option ℕ
number_of most text =
    if nat_le 1 (length text) && nat_le (length text) most && list_all is_digit text && not (has_leading_zero text)
    then Some (number_after_digits 0 text) else None

-- a number is from the least to the most
abbrev pub if_within : ℕ → ℕ → ℕ → Option ℕ
if_within least most n = if nat_le least n && nat_le n most then Some n else None

-- a decimal number from the least to the most, of at most 18 digits and without leading zeros
unfoldable pub number_within : ℕ → ℕ → List ℕ → Option ℕ
number_within least most text = option_and_then (if_within least most) (number_of 18 text)

-- three digits, 000 to 255
unfoldable pub category_of : List ℕ → Option ℕ
category_of text =
    if length text == 3 && list_all is_digit text && nat_lt (number_after_digits 0 text) 256
    then Some (number_after_digits 0 text) else None

-- octets of a text, and the quote that ends it
abbrev pub unquoted : List ℕ → Option (List ℕ)
unquoted [] = None
unquoted (octet ∷ []) = if octet == quote then Some [] else None
unquoted (octet ∷ next ∷ rest) =
    if is_string_octet octet then option_map (λ content. octet ∷ content) (unquoted (next ∷ rest)) else None

-- a text is short enough to be stored
abbrev pub if_short : List ℕ → Option (List ℕ)
if_short content = if nat_lt (length content) 4294967296 then Some content else None

-- what stands between quotes
abbrev pub content_in_quotes : List ℕ → Option (List ℕ)
content_in_quotes [] = None
content_in_quotes (octet ∷ rest) = if octet == quote then unquoted rest else None

-- a text in quotes, fewer than 2^32 octets
unfoldable pub text_of : List ℕ → Option (List ℕ)
text_of text = option_and_then if_short (content_in_quotes text)
