-- What the number of an element means, as a listing shows it after the number.
use Rattle.std.specs.Prelude.{ℕ, zero, suc, ◌+◌, ◌*◌, ◌/◌, ◌%◌, ◌^◌, ◌==◌, nat_le, ◌&&◌, ◌||◌, not, if◌then◌else◌, ℤ, pos, negsuc, List, [], ◌∷◌, ◌++◌, map, find, Option, Some, None, codes, decimal}
use Rattle.std.specs.Fmt.{signed_decimal}
use Rattle.ax_bits.specs.Bits.{signed}
use Rattle.ax_format.specs.Signs.{by_sign}
use Rattle.ax_format.specs.declared.content.Content.{Content}
use Rattle.ax_format.specs.declared.content.Content.TheVariants.{Raw, Table, Ascii, Icao, Octal, Integer, Quantity}
use Rattle.ax_format.specs.declared.content.Scale.{Scale}
use Rattle.ax_format.specs.declared.content.Sign.TheVariants.{Unsigned, Signed}
use Rattle.ax_format.specs.declared.content.TableText.{TableText}
use Rattle.ax_tokens.specs.Octets.{quote}
use Rattle.ax_text_form.specs.declared.characters.Alphabet.{Alphabet}
use Rattle.ax_text_form.specs.declared.characters.Alphabet.TheVariants.{Eight, Six, Three}

abbrev pub quoted : List ℕ → List ℕ
quoted text = quote ∷ (text ++ quote ∷ [])

-- ---- characters

-- the pieces of so many bits of which a number is made, the most significant first
abbrev pub pieces_of : ℕ → ℕ → ℕ → List ℕ
pieces_of size zero n = []
pieces_of size (suc left) n = n / 2 ^ (size * left) % 2 ^ size ∷ pieces_of size left n

-- a printing octet other than the quote stands for itself, any other is shown as a dot
abbrev pub ascii_character : ℕ → ℕ
ascii_character x = if nat_le 32 x && nat_le x 126 && not (x == quote) then x else 46

-- six bits: letters are numbered from 1, the space and the digits are as in ASCII, any other is shown as a dot
abbrev pub icao_character : ℕ → ℕ
icao_character x = if nat_le 1 x && nat_le x 26 then 64 + x else (if x == 32 || (nat_le 48 x && nat_le x 57) then x else 46)

abbrev pub octal_digit : ℕ → ℕ
octal_digit x = 48 + x

-- ---- fractions

-- the greatest number up to n, from 1, that divides both
abbrev pub common_divisor : ℕ → ℕ → ℕ → ℕ
common_divisor zero a b = 1
common_divisor (suc n) a b = if a % suc n == 0 && b % suc n == 0 then suc n else common_divisor n a b

-- a over b in lowest terms; b is above 0
abbrev pub reduced_text : ℕ → ℕ → List ℕ
reduced_text a b = decimal (a / common_divisor b a b) ++ codes "/" ++ decimal (b / common_divisor b a b)

-- so many times num over den
abbrev pub multiple_text : ℤ → ℕ → ℕ → List ℕ
multiple_text (pos n) num den = reduced_text (n * num) den
multiple_text (negsuc n) num den = codes "-" ++ reduced_text (suc n * num) den

-- the number that w bits spell as n, by the scale's sign and fraction: a multiple of its unit
abbrev pub scaled_text : Scale → ℕ → ℕ → List ℕ
scaled_text scale w n = multiple_text (by_sign scale.sign w n) scale.num scale.den

-- ---- contents

abbrev pub entry_remark : Option TableText → List ℕ
entry_remark None = []
entry_remark (Some entry) = codes " " ++ quoted entry.text

-- of an element of w bits that spell n; it begins with a space, where there is one
abbrev pub remark : ℕ → Content → ℕ → List ℕ
remark w Raw n = []
remark w (Table entries) n = entry_remark (find (λ entry. entry.number == n) entries)
remark w Ascii n = codes " " ++ quoted (map ascii_character (pieces_of 8 (w / 8) n))
remark w Icao n = codes " " ++ quoted (map icao_character (pieces_of 6 (w / 6) n))
remark w Octal n = codes " " ++ quoted (map octal_digit (pieces_of 3 (w / 3) n))
remark w (Integer Unsigned) n = []
remark w (Integer Signed) n = codes " " ++ signed_decimal (signed w n)
remark w (Quantity scale) n = codes " " ++ scaled_text scale w n ++ codes " " ++ quoted scale.unit

-- ---- the alphabets of the code

abbrev pub piece_size : Alphabet → ℕ
piece_size Eight = 8
piece_size Six = 6
piece_size Three = 3

abbrev pub character : Alphabet → ℕ → ℕ
character Eight x = ascii_character x
character Six x = icao_character x
character Three x = octal_digit x

abbrev pub characters : Alphabet → ℕ → ℕ → List ℕ
characters alphabet w n = map (character alphabet) (pieces_of (piece_size alphabet) (w / piece_size alphabet) n)
