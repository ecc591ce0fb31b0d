-- The ways out of the functions that list blocks.
use Rattle.std.proofs.Common.{◌≡◌, ℕ, ◌+◌, List, [], ◌∷◌, ◌++◌, length, codes, decimal, sym, append-nil}
use Rattle.ax_format.specs.Paths.{three_digits}
use Rattle.ax_text_form.specs.Printing.{as_lines, Puts}
use Rattle.ax_text_form.specs.ShowText.{block_front, OpaqueShown}
use Rattle.ax_text_form.specs.ValueText.{one_onto, hex_text}
use Rattle.ax_text_form.proofs.Pieces.{two_pieces, three_pieces, line_put}

pub front_put : (old a b c d e f : List ℕ) (n category octets : ℕ) → a ≡ old ++ codes "block " → b ≡ a ++ decimal n → c ≡ b ++ codes " category " → d ≡ c ++ three_digits category → e ≡ d ++ codes " octets " → f ≡ e ++ decimal octets → f ≡ old ++ block_front n category octets
front_put old a b c d e f n category octets g h k l m o =
    three_pieces old d e f (codes "block " ++ decimal n ++ codes " category " ++ three_digits category) (codes " octets ") (decimal octets)
    (three_pieces old b c d (codes "block " ++ decimal n) (codes " category ") (three_digits category) (three_pieces old old a b [] (codes "block ") (decimal n) (sym (append-nil old)) g h) k l) m o

pub block_put : (old a b c d : List ℕ) (n category octets records : ℕ) → a ≡ old ++ block_front n category octets → b ≡ a ++ codes " records " → c ≡ b ++ decimal records → d ≡ c ++ 0x0A ∷ [] → Puts as_lines (one_onto (block_front n category octets ++ codes " records " ++ decimal records)) old d
block_put old a b c d n category octets records e f g h = line_put old c d (block_front n category octets ++ codes " records " ++ decimal records) (three_pieces old a b c (block_front n category octets) (codes " records ") (decimal records) e f g) h

pub opaque_line_put : (n category : ℕ) (content old b c d e : List ℕ) → b ≡ old ++ block_front n category (3 + length content) → c ≡ b ++ codes " opaque " → d ≡ c ++ hex_text content → e ≡ d ++ 0x0A ∷ [] → e ≡ old ++ OpaqueShown n category content
opaque_line_put n category content old b c d e g h k l =
    let line = block_front n category (3 + length content) ++ codes " opaque " ++ hex_text content in
    two_pieces old d e line (0x0A ∷ []) (three_pieces old b c d (block_front n category (3 + length content)) (codes " opaque ") (hex_text content) g h k) l

pub ruleset opaque_line_ways = opaque_line_put
