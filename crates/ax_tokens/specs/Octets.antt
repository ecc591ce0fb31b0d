-- The octets of texts: which separate, and which stand in a Word or between the quotes of a Str.
use Rattle.std.specs.Prelude.{ℕ, Bool, not, ◌&&◌, ◌||◌, ◌==◌, nat_le}

-- the octet that ends a comment, and separates
abbrev pub line_feed : ℕ
line_feed = 0x0A

-- the octet that begins a comment
abbrev pub hash : ℕ
hash = 0x23

-- the octet in front of and after the content of a Str
abbrev pub quote : ℕ
quote = 0x22

-- the octet of an Open
abbrev pub open_brace : ℕ
open_brace = 0x7B

-- the octet of a Close
abbrev pub close_brace : ℕ
close_brace = 0x7D

-- space, tab, carriage return and line feed
unfoldable pub is_separator : ℕ → Bool
is_separator octet = octet == 0x20 || octet == 0x09 || octet == 0x0D || octet == line_feed

-- a printing octet other than the space, the quote, the braces and the octet of comments
unfoldable pub is_word_octet : ℕ → Bool
is_word_octet octet =
    nat_le 0x21 octet && nat_le octet 0x7E
    && not (octet == quote) && not (octet == hash) && not (octet == open_brace) && not (octet == close_brace)

-- a space or a printing octet, other than the quote
unfoldable pub is_string_octet : ℕ → Bool
is_string_octet octet = nat_le 0x20 octet && nat_le octet 0x7E && not (octet == quote)

-- any octet but a line feed may stand in a comment
unfoldable pub is_comment_octet : ℕ → Bool
is_comment_octet octet = not (octet == line_feed)
