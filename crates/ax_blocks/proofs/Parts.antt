-- A part of a block, taken into a buffer.
use Rattle.std.proofs.Common.{◌≡◌, ℕ, zero, suc, ◌+◌, ◌-◌, ◌<◌, ◌≤◌, ◌⊎◌, inl, inr, List, [], ◌∷◌, ◌++◌, Option, get_or, length, take, sym, ◌∙◌, ap, arith, length-take-le}
use Rattle.std.proofs.lemmas.Bool.{cases_lt}
use Rattle.std.proofs.Math.Seq.{take-append-add}
use Rattle.std.proofs.lemmas.List.{take-append-le}
use borrow.Rule.Slice.PartMut.{put_mid, post_of}
use Rattle.ax_bits.specs.Bits.{AreOctets}
use Rattle.ax_bits.proofs.Pieces.{AreOctets-items}
use Rattle.ax_blocks.specs.Taking.{Took, PartTaken, PartPastRoom, PartCut}
use Rattle.ax_endpoints.specs.Told.{with_front, IsAtEnd}

-- the first n octets of the part stand after those buffered
stands_following : (buffer part : List ℕ) (buffered k n : ℕ) → buffered ≤ length buffer → n ≤ length part → take (buffered + n) (put_mid buffered k buffer part) ≡ take buffered buffer ++ take n part
stands_following buffer part buffered k n le room =
    let e : length (take buffered buffer) ≡ buffered = length-take-le buffered buffer le in
    ap (λ m. take (m + n) (put_mid buffered k buffer part)) (sym e) ∙ take-append-add (take buffered buffer) (part ++ post_of buffered k buffer) n
    ∙ ap (λ l. take buffered buffer ++ l) (take-append-le n part (post_of buffered k buffer) room)

octets_first : (xs ys : List ℕ) → AreOctets (xs ++ ys) → AreOctets xs
octets_first [] ys are = tt
octets_first (x ∷ xs) ys are = (are.0, octets_first xs ys are.1)

octets_following : (xs ys : List ℕ) → AreOctets (xs ++ ys) → AreOctets ys
octets_following [] ys are = are
octets_following (x ∷ xs) ys are = octets_following xs ys are.1

-- a part of a buffer of octets
pub part_octets : (buffer part : List ℕ) (buffered k : ℕ) → ((i : ℕ) → get_or (put_mid buffered k buffer part) i 0 < 256) → AreOctets part
part_octets buffer part buffered k fits = octets_first part (post_of buffered k buffer) (octets_following (take buffered buffer) (part ++ post_of buffered k buffer) (AreOctets-items (put_mid buffered k buffer part) fits))

octets_front : (part : List ℕ) (n : ℕ) → AreOctets part → AreOctets (take n part)
octets_front part zero are = tt
octets_front [] (suc n) are = tt
octets_front (x ∷ part) (suc n) are = (are.0, octets_front part n are.1)

took_front : (left left' : Option (List ℕ)) (taken taken' : ℕ) (part : List ℕ) (n : ℕ) → AreOctets part → n ≤ length part → left ≡ with_front (take n part) left' → taken' ≡ taken + n
    → Took left left' taken taken' (take n part)
took_front left left' taken taken' part n are le gives counted = record {
  octets_are = octets_front part n are;
  gives = gives;
  counted = (let e : length (take n part) ≡ n = length-take-le n part le in omega arith);
}

-- what is wanted: all that is needed, or one octet past the room
pub record IsWanted (needed room wanted : ℕ) : Type 0 where
  pub most : wanted ≤ needed
  pub past : wanted < needed → wanted ≡ room + 1
  pub within : wanted ≤ room + 1

pub wants_past : (needed room wanted : ℕ) → room < needed → wanted ≡ room + 1 → IsWanted needed room wanted
wants_past needed room wanted lt e = record { most = omega arith; past = λ h. e; within = omega arith }

pub wants_all : (needed room wanted : ℕ) → needed ≤ room → wanted ≡ needed → IsWanted needed room wanted
wants_all needed room wanted le e = record { most = omega arith; past = λ h. absurd (omega arith); within = omega arith }

-- the part isn't full where the needed octets aren't there
is_fewer : (needed room wanted buffered n size : ℕ) → (wanted < needed) ⊎ (needed ≤ wanted) → (wanted < needed → wanted ≡ room + 1) → size ≡ wanted - buffered → buffered + n < needed → buffered + n ≤ room → n < size
is_fewer needed room wanted buffered n size (inl lt) past e fewer within = let w : wanted ≡ room + 1 = past lt in omega arith
is_fewer needed room wanted buffered n size (inr le) past e fewer within = omega arith

pub part_taken : (left left' : Option (List ℕ)) (taken taken' : ℕ) (buffer part : List ℕ) (buffered needed room wanted n : ℕ) → AreOctets part → buffered ≤ length buffer → IsWanted needed room wanted → length part ≡ wanted - buffered → n ≤ length part
    → left ≡ with_front (take n part) left' → taken' ≡ taken + n → buffered + n ≤ room → buffered < needed → buffered ≤ room → (n < length part → IsAtEnd left')
    → PartTaken left left' taken taken' buffer (put_mid buffered (wanted - buffered) buffer part) buffered needed room (buffered + n)
part_taken left left' taken taken' buffer part buffered needed room wanted n are le w size fits gives counted within lt le' ended = record {
  octets = take n part;
  took = took_front left left' taken taken' part n are fits gives counted;
  stands = stands_following buffer part buffered (wanted - buffered) n le fits;
  count = (let e : length (take n part) ≡ n = length-take-le n part fits in omega arith);
  most = (let m : wanted ≤ needed = w.most in omega arith);
  within = within;
  ended = λ fewer. ended (is_fewer needed room wanted buffered n (length part) (cases_lt wanted needed) w.past size fewer within);
}

pub part_cut : (left left' : Option (List ℕ)) (taken taken' : ℕ) (part : List ℕ) (buffered needed room wanted n : ℕ) → AreOctets part → IsWanted needed room wanted → length part ≡ wanted - buffered → buffered < needed → buffered ≤ room
    → n < length part → left ≡ with_front (take n part) left' → taken' ≡ taken + n → PartCut left left' taken taken' buffered needed room
part_cut left left' taken taken' part buffered needed room wanted n are w size lt le fewer gives counted =
    let e : length (take n part) ≡ n = length-take-le n part (omega arith) in
    let most : wanted ≤ needed = w.most in
    let within : wanted ≤ room + 1 = w.within in
    record { octets = take n part; took = took_front left left' taken taken' part n are (omega arith) gives counted; fewer = omega arith; within = omega arith }

pub part_past : (left left' : Option (List ℕ)) (taken taken' : ℕ) (part : List ℕ) (buffered needed room wanted n : ℕ) → AreOctets part → IsWanted needed room wanted → length part ≡ wanted - buffered → buffered < needed
    → buffered ≤ room → n ≤ length part → room < buffered + n → left ≡ with_front (take n part) left' → taken' ≡ taken + n → PartPastRoom left left' taken taken' buffered needed room
part_past left left' taken taken' part buffered needed room wanted n are w size lt le fits past gives counted =
    let e : length (take n part) ≡ n = length-take-le n part fits in
    let most : wanted ≤ needed = w.most in
    let within : wanted ≤ room + 1 = w.within in
    record { octets = take n part; took = took_front left left' taken taken' part n are fits gives counted; count = omega arith; needs = omega arith }
