-- How octets are framed into data blocks, and where that ends (data blocks; the limit on an input is this project's own rule).
use Rattle.std.specs.Prelude.{◌≡◌, ℕ, ◌+◌, ◌*◌, ◌<◌, ◌≤◌, ◌⊎◌, List, [], ◌∷◌, ◌++◌, length}
use Rattle.ax_format.specs.Blocks.{IsFramed}

-- a block as it stands in the input: its category and its body
pub record RawTree : Type 0 where
  pub category : ℕ
  pub body : List ℕ

-- the octets join blocks, each with a LEN of at least 4 that counts its own octets
abbrev pub AreRaws : List RawTree → List ℕ → Type 0
AreRaws [] octets = octets ≡ []
AreRaws (raw ∷ raws) octets =
    (front : List ℕ) × (rest : List ℕ) × (octets ≡ front ++ rest) × IsFramed raw.category raw.body front × (0 < length raw.body) × AreRaws raws rest

-- how framing ends; a bit is counted from the first bit of the block that isn't there whole
pub data FramingEnd : Type 0 where
  whole : FramingEnd
  input_too_long : FramingEnd
  ends_in_header : ℕ → FramingEnd
  bad_len : FramingEnd
  ends_in_block : ℕ → FramingEnd

-- the number in the LEN of the block that begins the octets
abbrev pub len_of : List ℕ → ℕ
len_of (category ∷ high ∷ low ∷ rest) = 256 * high + low
len_of _ = 0

-- the header, or the block whose LEN is at least 4, contains octet number limit + 1 of an input in which `before` octets
-- stand in front of the rest, and that octet is there
pub record HeaderPassesLimit (limit before : ℕ) (rest : List ℕ) : Type 0 where
  pub in_header : limit < before + 3
  pub there : limit < before + length rest

pub record BlockPassesLimit (limit before : ℕ) (rest : List ℕ) : Type 0 where
  pub header : 3 ≤ length rest
  pub header_within : before + 3 ≤ limit
  pub len : 4 ≤ len_of rest
  pub in_block : limit < before + len_of rest
  pub there : limit < before + length rest

pub record HeaderIsCut (limit before : ℕ) (rest : List ℕ) (bit : ℕ) : Type 0 where
  pub some : 1 ≤ length rest
  pub cut : length rest < 3
  pub within : before + length rest ≤ limit
  pub missing : bit ≡ 8 * length rest

pub record LenIsBad (limit before : ℕ) (rest : List ℕ) : Type 0 where
  pub header : 3 ≤ length rest
  pub within : before + 3 ≤ limit
  pub bad : len_of rest < 4

pub record BlockIsCut (limit before : ℕ) (rest : List ℕ) (bit : ℕ) : Type 0 where
  pub header : 3 ≤ length rest
  pub len : 4 ≤ len_of rest
  pub cut : length rest < len_of rest
  pub within : before + length rest ≤ limit
  pub missing : bit ≡ 8 * length rest

-- framing ends so, where the rest stands after whole blocks of `before` octets
abbrev pub FramingEnds : ℕ → ℕ → List ℕ → FramingEnd → Type 0
FramingEnds limit before rest whole = rest ≡ []
FramingEnds limit before rest input_too_long = HeaderPassesLimit limit before rest ⊎ BlockPassesLimit limit before rest
FramingEnds limit before rest (ends_in_header bit) = HeaderIsCut limit before rest bit
FramingEnds limit before rest bad_len = LenIsBad limit before rest
FramingEnds limit before rest (ends_in_block bit) = BlockIsCut limit before rest bit

-- the rest begins with the octets of this block, of a LEN of at least 4, and the limit allows them
pub record BeginsWithBlock (limit before : ℕ) (rest : List ℕ) (raw : RawTree) : Type 0 where
  pub front : List ℕ
  pub after : List ℕ
  pub split : rest ≡ front ++ after
  pub framed : IsFramed raw.category raw.body front
  pub some : 0 < length raw.body
  pub within : before + length front ≤ limit

-- what comes next in an input: a block, or the end of framing
pub data NextPart : Type 0 where
  block : RawTree → NextPart
  end : FramingEnd → NextPart

abbrev pub IsNext : ℕ → ℕ → List ℕ → NextPart → Type 0
IsNext limit before rest (block raw) = BeginsWithBlock limit before rest raw
IsNext limit before rest (end e) = FramingEnds limit before rest e

-- this comes next, and nothing else
pub record IsJustNext (limit before : ℕ) (rest : List ℕ) (part : NextPart) : Type 0 where
  pub is : IsNext limit before rest part
  pub just : (other : NextPart) → IsNext limit before rest other → other ≡ part

-- the octets join these whole blocks, which the limit allows, and a rest at which framing ends so
pub record Framed (octets : List ℕ) (limit : ℕ) (raws : List RawTree) (end : FramingEnd) : Type 0 where
  pub front : List ℕ
  pub rest : List ℕ
  pub split : octets ≡ front ++ rest
  pub blocks : AreRaws raws front
  pub within : length front ≤ limit
  pub ends : FramingEnds limit (length front) rest end
