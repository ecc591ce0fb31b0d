-- The worked examples of framing and of the ends of an input.
use Rattle.std.proofs.Common.{◌≡◌, ℕ, List, [], ◌∷◌, refl, lit<, arith, ap}
use Rattle.ax_format.proofs.EndsOnce.{ends_once}
use Rattle.ax_format.proofs.FramedOnce.{framed_once}
use Rattle.ax_model.proofs.WorkedExamples.{second_record}
use Rattle.ax_format.specs.Ends.{InputEnd, by_framing, by_body, Ends}
use Rattle.ax_format.specs.Examples.{small}
use Rattle.ax_format.specs.Framing.{RawTree, FramingEnd, whole, input_too_long, ends_in_header, bad_len, ends_in_block, Framed}
use Rattle.ax_format.specs.declared.fault.BodyCause.TheVariants.{UndefinedSlot}

abbrev bit_of : FramingEnd → ℕ
bit_of (ends_in_header bit) = bit
bit_of (ends_in_block bit) = bit
bit_of bad_len = 1
bit_of whole = 0
bit_of input_too_long = 0

abbrev body_bit_of : InputEnd → ℕ
body_bit_of (by_body number bit c) = bit
body_bit_of (by_framing e) = 0

-- ---- in a header

pub in_header : Framed (0x30 ∷ 0x00 ∷ []) 100 [] (ends_in_header 16)
in_header = record { front = []; rest = 0x30 ∷ 0x00 ∷ []; split = refl; blocks = refl; within = omega arith; ends = record { some = omega arith; cut = omega arith; within = omega arith; missing = refl } }

pub not_at_second_octet : Framed (0x30 ∷ 0x00 ∷ []) 100 [] (ends_in_header 8) → ⊥
not_at_second_octet h = let n : 8 ≡ 16 = ap bit_of (framed_once (0x30 ∷ 0x00 ∷ []) 100 [] [] (ends_in_header 8) (ends_in_header 16) h in_header).1 in absurd (omega (arith, n))

pub in_second_header : Framed (0x3e ∷ 0x00 ∷ 0x04 ∷ 0xaa ∷ 0x30 ∷ []) 100 (record { category = 0x3e; body = 0xaa ∷ [] } ∷ []) (ends_in_header 8)
in_second_header = record {
  front = 0x3e ∷ 0x00 ∷ 0x04 ∷ 0xaa ∷ [];
  rest = 0x30 ∷ [];
  split = refl;
  blocks = (0x3e ∷ 0x00 ∷ 0x04 ∷ 0xaa ∷ [], [], refl, record { high = 0; low = 4; layout = refl; counted = refl; high_octet = lit< tt; low_octet = lit< tt }, lit< tt, refl);
  within = omega arith;
  ends = record { some = omega arith; cut = omega arith; within = omega arith; missing = refl };
}

pub not_from_the_start : Framed (0x3e ∷ 0x00 ∷ 0x04 ∷ 0xaa ∷ 0x30 ∷ []) 100 (record { category = 0x3e; body = 0xaa ∷ [] } ∷ []) (ends_in_header 40) → ⊥
not_from_the_start h =
    let raws : List RawTree = record { category = 0x3e; body = 0xaa ∷ [] } ∷ [] in
    let n : 40 ≡ 8 = ap bit_of (framed_once (0x3e ∷ 0x00 ∷ 0x04 ∷ 0xaa ∷ 0x30 ∷ []) 100 raws raws (ends_in_header 40) (ends_in_header 8) h in_second_header).1 in
    absurd (omega (arith, n))

-- ---- in a block

pub in_block : Framed (0x30 ∷ 0x00 ∷ 0x06 ∷ 0x80 ∷ 0x19 ∷ []) 100 [] (ends_in_block 40)
in_block = record {
  front = [];
  rest = 0x30 ∷ 0x00 ∷ 0x06 ∷ 0x80 ∷ 0x19 ∷ [];
  split = refl;
  blocks = refl;
  within = omega arith;
  ends = record { header = omega arith; len = omega arith; cut = omega arith; within = omega arith; missing = refl };
}

pub not_in_last_octet : Framed (0x30 ∷ 0x00 ∷ 0x06 ∷ 0x80 ∷ 0x19 ∷ []) 100 [] (ends_in_block 32) → ⊥
not_in_last_octet h =
    let n : 32 ≡ 40 = ap bit_of (framed_once (0x30 ∷ 0x00 ∷ 0x06 ∷ 0x80 ∷ 0x19 ∷ []) 100 [] [] (ends_in_block 32) (ends_in_block 40) h in_block).1 in
    absurd (omega (arith, n))

-- ---- LEN

pub len_of_three : Framed (0x30 ∷ 0x00 ∷ 0x03 ∷ []) 100 [] bad_len
len_of_three = record { front = []; rest = 0x30 ∷ 0x00 ∷ 0x03 ∷ []; split = refl; blocks = refl; within = omega arith; ends = record { header = omega arith; within = omega arith; bad = omega arith } }

only_header : Framed (0x30 ∷ 0x00 ∷ 0x04 ∷ []) 100 [] (ends_in_block 24)
only_header = record {
  front = [];
  rest = 0x30 ∷ 0x00 ∷ 0x04 ∷ [];
  split = refl;
  blocks = refl;
  within = omega arith;
  ends = record { header = omega arith; len = omega arith; cut = omega arith; within = omega arith; missing = refl };
}

pub not_len_of_four : Framed (0x30 ∷ 0x00 ∷ 0x04 ∷ []) 100 [] bad_len → ⊥
not_len_of_four h = let n : 1 ≡ 24 = ap bit_of (framed_once (0x30 ∷ 0x00 ∷ 0x04 ∷ []) 100 [] [] bad_len (ends_in_block 24) h only_header).1 in absurd (omega (arith, n))

-- ---- a body's fault

pub past_the_header : Ends (small ∷ []) (0x30 ∷ 0x00 ∷ 0x06 ∷ 0x80 ∷ 0xaa ∷ 0x40 ∷ []) 100 [] (by_body 0 41 UndefinedSlot)
past_the_header = record {
  before = [];
  bad = record { category = 48; body = 0x80 ∷ 0xaa ∷ 0x40 ∷ [] };
  after = [];
  end = whole;
  framed = record {
    front = 0x30 ∷ 0x00 ∷ 0x06 ∷ 0x80 ∷ 0xaa ∷ 0x40 ∷ [];
    rest = [];
    split = refl;
    blocks = (0x30 ∷ 0x00 ∷ 0x06 ∷ 0x80 ∷ 0xaa ∷ 0x40 ∷ [], [], refl, record { high = 0; low = 6; layout = refl; counted = refl; high_octet = lit< tt; low_octet = lit< tt }, lit< tt, refl);
    within = omega arith;
    ends = refl;
  };
  spelled = tt;
  place = 17;
  fails = record { spec = small; known = refl; fails = second_record };
  counted = refl;
  header = refl;
}

pub not_from_the_body : Ends (small ∷ []) (0x30 ∷ 0x00 ∷ 0x06 ∷ 0x80 ∷ 0xaa ∷ 0x40 ∷ []) 100 [] (by_body 0 17 UndefinedSlot) → ⊥
not_from_the_body h =
    let octets : List ℕ = 0x30 ∷ 0x00 ∷ 0x06 ∷ 0x80 ∷ 0xaa ∷ 0x40 ∷ [] in
    let n : 17 ≡ 41 = ap body_bit_of (ends_once (small ∷ []) octets 100 [] [] (by_body 0 17 UndefinedSlot) (by_body 0 41 UndefinedSlot) h past_the_header).1 in
    absurd (omega (arith, n))
