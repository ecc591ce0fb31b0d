-- What an octet of a text, and a name, may be (this project's own rules).
use Rattle.std.specs.Prelude.{ℕ, ◌≤◌, ◌≢◌, Bool, ◌&&◌, ◌||◌, nat_le, IsTrue, List, length}
use Rattle.std.specs.List.{list_all}

-- 0x20 to 0x7E, and no double quote
abbrev pub IsTextOctet : ℕ → Type 0
IsTextOctet x = (32 ≤ x) × (x ≤ 126) × (x ≢ 34)

-- a capital letter A to Z or a digit
abbrev pub is_name_octet : ℕ → Bool
is_name_octet x = (nat_le 65 x && nat_le x 90) || (nat_le 48 x && nat_le x 57)

-- a name has 1 to 16 of them
abbrev pub IsName : List ℕ → Type 0
IsName text = (1 ≤ length text) × (length text ≤ 16) × IsTrue (list_all is_name_octet text)
