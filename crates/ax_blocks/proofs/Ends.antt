-- What the octets taken show: a block, or an end of framing.
use Rattle.std.proofs.Common.{◌≡◌, ℕ, suc, ◌+◌, ◌-◌, ◌*◌, ◌<◌, ◌≤◌, inl, inr, List, [], ◌∷◌, ◌++◌, Option, Some, None, get_or, length, take, drop, refl, sym, ◌∙◌, ap, arith, subst, length-append, length-take-le}
use Rattle.std.specs.Int.{w16, from_be_bytes}
use Rattle.std.specs.Prelude.{Result, Ok, Err, IsErrAnd, IfSome}
use Rattle.ax_blocks.specs.declared.next_error.NextError.{NextError}
use Rattle.ax_blocks.specs.declared.next_error.NextError.TheVariants.{InputTooLong, ReadFault}
use Rattle.ax_blocks.specs.Reader.{ReaderState, IsOpen, IsAfter, GivesBlock, FindsEnd, StopsUnfinished, HoldsBlock, OnEnd, OnReadFault}
use Rattle.ax_bits.specs.Bits.{AreOctets}
use Rattle.ax_blocks.specs.Taking.{Took, PartTaken, PartPastRoom, PartCut, PartMeans}
use Rattle.ax_format.specs.Blocks.{IsFramed}
use Rattle.ax_format.specs.Framing.{RawTree, input_too_long, ends_in_block, len_of, block, end}
use Rattle.ax_format.proofs.Framings.{just_next}
use Rattle.ax_blocks.specs.declared.reader.EndedBlocks.{EndedBlocks}
use Rattle.ax_format.specs.declared.record.RawBlock.{RawBlock}
use Rattle.ax_endpoints.specs.Told.{with_front, IsAtEnd}
use Rattle.ax_endpoints.proofs.Ends.{with_front-append}

-- ---- octets in front of what is left

octets_both : (a b : List ℕ) → AreOctets a → AreOctets b → AreOctets (a ++ b)
octets_both [] b h g = g
octets_both (x ∷ a) b h g = (h.0, octets_both a b h.1 g)

pub took_both : (left mid left' : Option (List ℕ)) (taken between taken' : ℕ) (a b : List ℕ) → Took left mid taken between a → Took mid left' between taken' b → Took left left' taken taken' (a ++ b)
took_both left mid left' taken between taken' a b p q = record {
  octets_are = octets_both a b p.octets_are q.octets_are;
  gives = p.gives ∙ ap (with_front a) q.gives ∙ with_front-append left' a b;
  counted = (let e : length (a ++ b) ≡ length a + length b = length-append a b in let m = p.counted in let n = q.counted in omega arith);
}

-- LEN stands in the first three octets
len_of-append : (front rest : List ℕ) → 3 ≤ length front → len_of (front ++ rest) ≡ len_of front
len_of-append [] rest h = absurd (omega (arith, h))
len_of-append (a ∷ []) rest h = absurd (omega (arith, h))
len_of-append (a ∷ b ∷ []) rest h = absurd (omega (arith, h))
len_of-append (a ∷ b ∷ c ∷ front) rest h = refl

-- ---- the header

-- the two octets of LEN as the code reads them
pub len_read : (xs : List ℕ) → 3 ≤ length xs → from_be_bytes w16 (get_or xs 1 0 ∷ get_or xs 2 0 ∷ []) ≡ len_of (take 3 xs)
len_read [] h = absurd (omega (arith, h))
len_read (a ∷ []) h = absurd (omega (arith, h))
len_read (a ∷ b ∷ []) h = absurd (omega (arith, h))
len_read (a ∷ b ∷ c ∷ xs) h = omega arith

-- the octet past the limit is one of the header's
pub header_past : (limit given : ℕ) (left left' : Option (List ℕ)) (taken taken' : ℕ) → given ≤ limit → PartPastRoom left left' taken taken' 0 3 (limit - given) → FindsEnd limit given left left' taken taken' input_too_long
header_past limit given left left' taken taken' le p =
    let count : 0 + length p.octets ≡ limit - given + 1 = p.count in
    let needs : limit - given < 3 = p.needs in
    record {
      octets = p.octets;
      took = p.took;
      count = omega arith;
      ran_out = tt;
      just = λ rest none. just_next limit given (p.octets ++ rest) (end input_too_long) le
          (let e : length (p.octets ++ rest) ≡ length p.octets + length rest = length-append p.octets rest in inl (record { in_header = omega arith; there = omega arith }));
    }

pub header_ends : (limit given : ℕ) (left left' : Option (List ℕ)) (taken taken' : ℕ) (buffer buffer' : List ℕ) → given ≤ limit → (e : NextError) → PartMeans left left' taken taken' buffer buffer' 0 3 (limit - given) (Err e)
    → OnEnd {A = ℕ} (Err e) (FindsEnd limit given left left' taken taken')
header_ends limit given left left' taken taken' buffer buffer' le InputTooLong p = header_past limit given left left' taken taken' le p
header_ends limit given left left' taken taken' buffer buffer' le ReadFault p = tt
header_ends limit given left left' taken taken' buffer buffer' le _ p = absurd p

-- the octets of the header, and those after it
pub record Header (limit given : ℕ) (left mid : Option (List ℕ)) (taken between : ℕ) (buffer : List ℕ) (n : ℕ) : Type 0 where
  pub took : Took left mid taken between (take 3 buffer)
  pub count : length (take 3 buffer) ≡ 3
  pub within : given + 3 ≤ limit
  pub len : len_of (take 3 buffer) ≡ n
  pub least : 4 ≤ n

pub header_there : (limit given : ℕ) (left mid : Option (List ℕ)) (taken between : ℕ) (buffer buffer' : List ℕ) (buffered n : ℕ) → given ≤ limit → PartTaken left mid taken between buffer buffer' 0 3 (limit - given) buffered
    → 3 ≤ buffered → 3 ≤ length buffer' → n ≡ from_be_bytes w16 (get_or buffer' 1 0 ∷ get_or buffer' 2 0 ∷ []) → 4 ≤ n → Header limit given left mid taken between buffer' n
header_there limit given left mid taken between buffer buffer' buffered n le p three fits len least =
    let within : buffered ≤ limit - given = p.within in
    let most : buffered ≤ 3 = p.most in
    let count : buffered ≡ 0 + length p.octets = p.count in
    let buffered_three : buffered ≡ 3 = omega arith in
    let stands : p.octets ≡ take 3 buffer' = sym p.stands ∙ ap (λ k. take k buffer') buffered_three in record {
      took = subst (Took left mid taken between) stands p.took;
      count = ap length (sym stands) ∙ omega arith;
      within = omega arith;
      len = sym (len_read buffer' fits) ∙ sym len;
      least = least;
    }

module _ (limit given : ℕ) (left mid left' : Option (List ℕ)) (taken between taken' : ℕ) (header buffer : List ℕ) (n : ℕ) (le : given ≤ limit) (h : Header limit given left mid taken between header n) where
  pub block_cut : (m : ℕ) → m < n → PartTaken mid left' between taken' header buffer 3 n (limit - given) m → FindsEnd limit given left left' taken taken' (ends_in_block (8 * m))
  block_cut m cut p =
      let whole_took : Took left left' taken taken' (take 3 header ++ p.octets) = took_both left mid left' taken between taken' (take 3 header) p.octets h.took p.took in
      let c : length (take 3 header) ≡ 3 = h.count in
      let count : m ≡ 3 + length p.octets = p.count in
      let within : m ≤ limit - given = p.within in
      let least : 4 ≤ n = h.least in
      let l : length (take 3 header ++ p.octets) ≡ length (take 3 header) + length p.octets = length-append (take 3 header) p.octets in
      let at_end : IsAtEnd left' = p.ended cut in record {
        octets = take 3 header ++ p.octets;
        took = whole_took;
        count = omega arith;
        ran_out = at_end;
        just = λ rest none. just_next limit given ((take 3 header ++ p.octets) ++ rest) (end (ends_in_block (8 * m))) le
            (let e : length ((take 3 header ++ p.octets) ++ rest) ≡ length (take 3 header ++ p.octets) + length rest = length-append (take 3 header ++ p.octets) rest in
            let z : length rest ≡ 0 = ap length none in
            let len : len_of ((take 3 header ++ p.octets) ++ rest) ≡ n = len_of-append (take 3 header ++ p.octets) rest (omega arith) ∙ len_of-append (take 3 header) p.octets (omega arith) ∙ h.len in
            record { header = omega arith; len = omega arith; cut = omega arith; within = omega arith; missing = omega arith });
      }

  pub block_past : PartPastRoom mid left' between taken' 3 n (limit - given) → FindsEnd limit given left left' taken taken' input_too_long
  block_past p =
      let whole_took : Took left left' taken taken' (take 3 header ++ p.octets) = took_both left mid left' taken between taken' (take 3 header) p.octets h.took p.took in
      let c : length (take 3 header) ≡ 3 = h.count in
      let count : 3 + length p.octets ≡ limit - given + 1 = p.count in
      let needs : limit - given < n = p.needs in
      let within : given + 3 ≤ limit = h.within in
      let least : 4 ≤ n = h.least in
      let l : length (take 3 header ++ p.octets) ≡ length (take 3 header) + length p.octets = length-append (take 3 header) p.octets in record {
        octets = take 3 header ++ p.octets;
        took = whole_took;
        count = omega arith;
        ran_out = tt;
        just = λ rest none. just_next limit given ((take 3 header ++ p.octets) ++ rest) (end input_too_long) le
            (let e : length ((take 3 header ++ p.octets) ++ rest) ≡ length (take 3 header ++ p.octets) + length rest = length-append (take 3 header ++ p.octets) rest in
            let len : len_of ((take 3 header ++ p.octets) ++ rest) ≡ n = len_of-append (take 3 header ++ p.octets) rest (omega arith) ∙ len_of-append (take 3 header) p.octets (omega arith) ∙ h.len in
            inr (record { header = omega arith; header_within = within; len = omega arith; in_block = omega arith; there = omega arith }));
      }

  pub block_fault : PartCut mid left' between taken' 3 n (limit - given) → StopsUnfinished limit given left left' taken taken'
  block_fault p =
      let c : length (take 3 header) ≡ 3 = h.count in
      let fewer : 3 + length p.octets < n = p.fewer in
      let within : 3 + length p.octets ≤ limit - given = p.within in
      let least : 4 ≤ n = h.least in
      let l : length (take 3 header ++ p.octets) ≡ length (take 3 header) + length p.octets = length-append (take 3 header) p.octets in
      let len : len_of (take 3 header ++ p.octets) ≡ n = len_of-append (take 3 header) p.octets (omega arith) ∙ h.len in record {
        octets = take 3 header ++ p.octets;
        took = took_both left mid left' taken between taken' (take 3 header) p.octets h.took p.took;
        unfinished = record { within = omega arith; len = λ _. omega arith; more = λ _. omega arith };
      }

  -- the part after the header is refused
  pub block_ends : (e : NextError) → PartMeans mid left' between taken' header buffer 3 n (limit - given) (Err e) → OnEnd {A = ℕ} (Err e) (FindsEnd limit given left left' taken taken')
  block_ends InputTooLong p = block_past p
  block_ends ReadFault p = tt
  block_ends _ p = absurd p

  pub block_faults : (e : NextError) → PartMeans mid left' between taken' header buffer 3 n (limit - given) (Err e) → OnReadFault {A = ℕ} (Err e) (StopsUnfinished limit given left left' taken taken')
  block_faults InputTooLong p = tt
  block_faults ReadFault p = block_fault p
  block_faults _ p = absurd p

-- ---- a block of the first n octets of a buffer

pub frames : (xs : List ℕ) (n : ℕ) → get_or xs 1 0 < 256 → get_or xs 2 0 < 256 → 4 ≤ n → n ≤ length xs → len_of (take n xs) ≡ n → IsFramed (get_or xs 0 0) (take (n - 3) (drop 3 xs)) (take n xs)
frames [] n high low least most len = absurd (omega (arith, most))
frames (a ∷ []) n high low least most len = absurd (omega (arith, most))
frames (a ∷ b ∷ []) n high low least most len = absurd (omega (arith, most))
frames (a ∷ b ∷ c ∷ xs) (suc (suc (suc n))) high low least most len =
    let count : length (take n xs) ≡ n = length-take-le n xs (omega arith) in
    let three : suc (suc (suc n)) - 3 ≡ n = omega arith in
    record {
      high = b;
      low = c;
      layout = ap (λ k. a ∷ b ∷ c ∷ take k xs) (sym three);
      counted = len ∙ omega (arith, count);
      high_octet = high;
      low_octet = low;
    }
frames (a ∷ b ∷ c ∷ xs) n high low least most len = absurd (omega (arith, least))

-- ---- a refusal passed on

-- it is the same refusal
pub passed_on : {A : Type 0} (P : Result A NextError → Type 0) (r : Result A NextError) (e : NextError) → IsErrAnd r (λ x. x ≡ e) → P (Err e) → P r
passed_on P (Ok a) e same h = absurd same
passed_on P (Err x) e same h = subst (λ y. P (Err y)) (sym same) h

-- ---- the block given

-- the first n octets of the buffer are this block
pub gives_block : (limit given : ℕ) (left left' : Option (List ℕ)) (taken taken' : ℕ) (buffer : List ℕ) (n : ℕ) (raw : RawTree) → given ≤ limit → HoldsBlock limit given left left' taken taken' buffer n
    → IsFramed raw.category raw.body (take n buffer) → length raw.body + 3 ≡ n → GivesBlock limit given left left' taken taken' raw
gives_block limit given left left' taken taken' buffer n raw le h framed count =
    let most : n ≤ length buffer = h.most in
    let least : 4 ≤ n = h.least in
    let within : given + n ≤ limit = h.within in
    let size : length (take n buffer) ≡ n = length-take-le n buffer most in
    record {
      octets = take n buffer;
      framed = framed;
      took = h.took;
      within = omega arith;
      just = λ rest. just_next limit given (take n buffer ++ rest) (block raw) le
          (record { front = take n buffer; after = rest; split = refl; framed = framed; some = omega arith; within = omega arith });
    }

-- the reader that gave it, as it was seen before
pub after_block : (old seen : ReaderState) (n : ℕ) (raw : RawBlock) → seen ≡ old → IsOpen seen → seen.given + n ≤ seen.limit → length raw.body.now + 3 ≡ n
    → IsAfter old (Ok (Some raw)) (record { limit = seen.limit; given = seen.given + n; ended = seen.ended })
after_block old seen n raw is is_open within count =
    let of : ReaderState → Type 0 = λ r. IsAfter r (Ok (Some raw)) (record { limit = seen.limit; given = seen.given + n; ended = seen.ended }) in
    subst of is (record { same_limit = refl; counts = omega arith; within = within; keeps = is_open })

pub seen_block : (old seen : ReaderState) (left left' : Option (List ℕ)) (taken taken' : ℕ) (raw : RawTree) → seen ≡ old → GivesBlock seen.limit seen.given left left' taken taken' raw → GivesBlock old.limit old.given left left' taken taken' raw
seen_block old seen left left' taken taken' raw is h = let of : ReaderState → Type 0 = λ r. GivesBlock r.limit r.given left left' taken taken' raw in subst of is h

-- it had kept no answer
pub none_kept : (P : EndedBlocks → Type 0) (old seen : ReaderState) → seen ≡ old → IsOpen seen → IfSome old.ended P
none_kept P old seen is is_open = let e : None ≡ old.ended = sym is_open ∙ ap (λ r. r.ended) is in subst (λ k. IfSome k P) e tt
