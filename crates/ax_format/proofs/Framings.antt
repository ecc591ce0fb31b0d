-- What comes next in an input is one thing: a whole block, or one end of framing.
use Rattle.std.proofs.Common.{◌≡◌, ℕ, ◌+◌, ◌-◌, ◌*◌, ◌<◌, ◌≤◌, ◌⊎◌, inl, inr, List, [], ◌∷◌, ◌++◌, length, take, drop, refl, sym, ◌∙◌, ap, arith, length-append, take-append-drop, length-take-le}
use Rattle.std.proofs.lemmas.Bool.{cases_lt}
use Rattle.std.proofs.Math.Seq.{take-append_seam}
use Rattle.ax_bits.specs.Bits.{AreOctets}
use Rattle.ax_format.specs.Blocks.{IsFramed}
use Rattle.ax_format.specs.Framing.{RawTree, FramingEnd, whole, input_too_long, ends_in_header, bad_len, ends_in_block, len_of, FramingEnds, BeginsWithBlock, NextPart, block, end, IsNext, IsJustNext}

-- ---- a block that begins the rest

-- LEN stands in the first three octets, and counts the block's octets
pub len_of_front : (category : ℕ) (body front after rest : List ℕ) → IsFramed category body front → rest ≡ front ++ after
    → (len_of rest ≡ length front) × (length front ≡ 3 + length body) × (length rest ≡ length front + length after)
len_of_front category body front after rest f e =
    let layout : front ++ after ≡ category ∷ f.high ∷ f.low ∷ (body ++ after) = ap (λ l. l ++ after) f.layout in
    let len : len_of rest ≡ 256 * f.high + f.low = ap len_of (e ∙ layout) in
    let count : length front ≡ 3 + length body = ap length f.layout ∙ omega arith in
    (len ∙ f.counted, count, ap length e ∙ length-append front after)

-- two blocks that begin one rest
pub same_front : (a b x y : List ℕ) → a ++ x ≡ b ++ y → length a ≡ length b → a ≡ b
same_front a b x y e n = sym (take-append_seam a x) ∙ ap (take (length a)) e ∙ ap (λ k. take k (b ++ y)) n ∙ take-append_seam b y

one_block : (limit before : ℕ) (rest : List ℕ) (raw other : RawTree) → BeginsWithBlock limit before rest raw → BeginsWithBlock limit before rest other → other ≡ raw
one_block limit before rest raw other h g =
    let p = len_of_front raw.category raw.body h.front h.after rest h.framed h.split in
    let q = len_of_front other.category other.body g.front g.after rest g.framed g.split in
    let n : length g.front ≡ length h.front = sym q.0 ∙ p.0 in
    let fronts : g.front ≡ h.front = same_front g.front h.front g.after h.after (sym g.split ∙ h.split) n in
    let layouts : other.category ∷ g.framed.high ∷ g.framed.low ∷ other.body ≡ raw.category ∷ h.framed.high ∷ h.framed.low ∷ raw.body
    = sym g.framed.layout ∙ fronts ∙ h.framed.layout in
    let category : other.category ≡ raw.category = cc in
    let body : other.body ≡ raw.body = cc in
    λ i. record { category = category i; body = body i }

-- ---- the end is no other where a block begins the rest

block_no_end : (limit before : ℕ) (rest : List ℕ) (raw : RawTree) (e : FramingEnd) → BeginsWithBlock limit before rest raw → FramingEnds limit before rest e → ⊥
block_no_end limit before rest raw whole h g = let p = len_of_front raw.category raw.body h.front h.after rest h.framed h.split in omega (arith, p, ap length g)
block_no_end limit before rest raw input_too_long h (inl g) = let p = len_of_front raw.category raw.body h.front h.after rest h.framed h.split in omega (arith, p)
block_no_end limit before rest raw input_too_long h (inr g) = let p = len_of_front raw.category raw.body h.front h.after rest h.framed h.split in omega (arith, p)
block_no_end limit before rest raw (ends_in_header bit) h g = let p = len_of_front raw.category raw.body h.front h.after rest h.framed h.split in omega (arith, p)
block_no_end limit before rest raw bad_len h g = let some : 0 < length raw.body = h.some in let p = len_of_front raw.category raw.body h.front h.after rest h.framed h.split in omega (arith, p)
block_no_end limit before rest raw (ends_in_block bit) h g = let p = len_of_front raw.category raw.body h.front h.after rest h.framed h.split in omega (arith, p)

-- ---- one end

one_end : (limit before : ℕ) (rest : List ℕ) (e d : FramingEnd) → before ≤ limit → FramingEnds limit before rest e → FramingEnds limit before rest d → d ≡ e
one_end limit before rest whole whole le h g = refl
one_end limit before rest whole input_too_long le h (inl g) = absurd (omega (arith, ap length h))
one_end limit before rest whole input_too_long le h (inr g) = absurd (omega (arith, ap length h))
one_end limit before rest whole (ends_in_header bit) le h g = absurd (omega (arith, ap length h))
one_end limit before rest whole bad_len le h g = absurd (omega (arith, ap length h))
one_end limit before rest whole (ends_in_block bit) le h g = absurd (omega (arith, ap length h))
one_end limit before rest input_too_long whole le (inl h) g = absurd (omega (arith, ap length g))
one_end limit before rest input_too_long whole le (inr h) g = absurd (omega (arith, ap length g))
one_end limit before rest input_too_long input_too_long le h g = refl
one_end limit before rest input_too_long (ends_in_header bit) le (inl h) g = absurd (omega arith)
one_end limit before rest input_too_long (ends_in_header bit) le (inr h) g = absurd (omega arith)
one_end limit before rest input_too_long bad_len le (inl h) g = absurd (omega arith)
one_end limit before rest input_too_long bad_len le (inr h) g = absurd (omega arith)
one_end limit before rest input_too_long (ends_in_block bit) le (inl h) g = absurd (omega arith)
one_end limit before rest input_too_long (ends_in_block bit) le (inr h) g = absurd (omega arith)
one_end limit before rest (ends_in_header bit) whole le h g = absurd (omega (arith, ap length g))
one_end limit before rest (ends_in_header bit) input_too_long le h (inl g) = absurd (omega arith)
one_end limit before rest (ends_in_header bit) input_too_long le h (inr g) = absurd (omega arith)
one_end limit before rest (ends_in_header bit) (ends_in_header other) le h g = ap ends_in_header (g.missing ∙ sym h.missing)
one_end limit before rest (ends_in_header bit) bad_len le h g = absurd (omega arith)
one_end limit before rest (ends_in_header bit) (ends_in_block other) le h g = absurd (omega arith)
one_end limit before rest bad_len whole le h g = absurd (omega (arith, ap length g))
one_end limit before rest bad_len input_too_long le h (inl g) = absurd (omega arith)
one_end limit before rest bad_len input_too_long le h (inr g) = absurd (omega arith)
one_end limit before rest bad_len (ends_in_header bit) le h g = absurd (omega arith)
one_end limit before rest bad_len bad_len le h g = refl
one_end limit before rest bad_len (ends_in_block bit) le h g = absurd (omega arith)
one_end limit before rest (ends_in_block bit) whole le h g = absurd (omega (arith, ap length g))
one_end limit before rest (ends_in_block bit) input_too_long le h (inl g) = absurd (omega arith)
one_end limit before rest (ends_in_block bit) input_too_long le h (inr g) = absurd (omega arith)
one_end limit before rest (ends_in_block bit) (ends_in_header other) le h g = absurd (omega arith)
one_end limit before rest (ends_in_block bit) bad_len le h g = absurd (omega arith)
one_end limit before rest (ends_in_block bit) (ends_in_block other) le h g = ap ends_in_block (g.missing ∙ sym h.missing)

-- ---- what comes next is one thing

pub one_next : (limit before : ℕ) (rest : List ℕ) (p q : NextPart) → before ≤ limit → IsNext limit before rest p → IsNext limit before rest q → q ≡ p
one_next limit before rest (block raw) (block other) le h g = ap block (one_block limit before rest raw other h g)
one_next limit before rest (block raw) (end e) le h g = absurd (block_no_end limit before rest raw e h g)
one_next limit before rest (end e) (block raw) le h g = absurd (block_no_end limit before rest raw e g h)
one_next limit before rest (end e) (end d) le h g = ap end (one_end limit before rest e d le h g)

pub just_next : (limit before : ℕ) (rest : List ℕ) (part : NextPart) → before ≤ limit → IsNext limit before rest part → IsJustNext limit before rest part
just_next limit before rest part le h = record { is = h; just = λ other g. one_next limit before rest part other le h g }

-- ---- something comes next

flip : {A B : Type 0} → A ⊎ B → B ⊎ A
flip (inl a) = inr a
flip (inr b) = inl b

-- the header is there, with a LEN of at least 4
block_or_end : (limit before category high low : ℕ) (more : List ℕ) → high < 256 → low < 256 → before + 3 ≤ limit → 4 ≤ 256 * high + low
    → (256 * high + low < 4 + length more) ⊎ (4 + length more ≤ 256 * high + low) → (before + (256 * high + low) ≤ limit) ⊎ (limit < before + (256 * high + low)) → (before + (3 + length more) ≤ limit) ⊎ (limit < before + (3 + length more))
    → (part : NextPart) × IsNext limit before (category ∷ high ∷ low ∷ more) part
block_or_end limit before category high low more h l le four (inl there) (inl within) _ =
    let body : List ℕ = take (256 * high + low - 3) more in
    let count : length body ≡ 256 * high + low - 3 = length-take-le (256 * high + low - 3) more (omega arith) in (
      block (record { category = category; body = body }),
      record {
        front = category ∷ high ∷ low ∷ body;
        after = drop (256 * high + low - 3) more;
        split = ap (λ l. category ∷ high ∷ low ∷ l) (sym (take-append-drop (256 * high + low - 3) more));
        framed = record { high = high; low = low; layout = refl; counted = omega (arith, count); high_octet = h; low_octet = l };
        some = omega (arith, count);
        within = omega (arith, count);
      },
    )
block_or_end limit before category high low more h l le four (inl there) (inr past) _ = (end input_too_long, inr (record { header = omega arith; header_within = le; len = four; in_block = past; there = omega arith }))
block_or_end limit before category high low more h l le four (inr cut) _ (inl within) = (end (ends_in_block (8 * (3 + length more))), record { header = omega arith; len = four; cut = omega arith; within = omega arith; missing = omega arith })
block_or_end limit before category high low more h l le four (inr cut) _ (inr past) = (end input_too_long, inr (record { header = omega arith; header_within = le; len = four; in_block = omega arith; there = omega arith }))

at_len : (limit before category high low : ℕ) (more : List ℕ) → high < 256 → low < 256 → before + 3 ≤ limit → (256 * high + low < 4) ⊎ (4 ≤ 256 * high + low)
    → (part : NextPart) × IsNext limit before (category ∷ high ∷ low ∷ more) part
at_len limit before category high low more h l le (inl bad) = (end bad_len, record { header = omega arith; within = le; bad = bad })
at_len limit before category high low more h l le (inr four) =
    block_or_end limit before category high low more h l le four (cases_lt (256 * high + low) (4 + length more)) (flip (cases_lt limit (before + (256 * high + low)))) (flip (cases_lt limit (before + (3 + length more))))

at_header : (limit before category high low : ℕ) (more : List ℕ) → high < 256 → low < 256 → (limit < before + 3) ⊎ (before + 3 ≤ limit)
    → (part : NextPart) × IsNext limit before (category ∷ high ∷ low ∷ more) part
at_header limit before category high low more h l (inl past) = (end input_too_long, inl (record { in_header = past; there = omega arith }))
at_header limit before category high low more h l (inr le) = at_len limit before category high low more h l le (cases_lt (256 * high + low) 4)

-- one or two octets are there
at_part : (limit before : ℕ) (rest : List ℕ) → 1 ≤ length rest → length rest < 3 → (limit < before + length rest) ⊎ (before + length rest ≤ limit) → (part : NextPart) × IsNext limit before rest part
at_part limit before rest some cut (inl past) = (end input_too_long, inl (record { in_header = omega arith; there = past }))
at_part limit before rest some cut (inr le) = (end (ends_in_header (8 * length rest)), record { some = some; cut = cut; within = le; missing = refl })

pub some_next : (limit before : ℕ) (rest : List ℕ) → AreOctets rest → (part : NextPart) × IsNext limit before rest part
some_next limit before [] octets = (end whole, refl)
some_next limit before (category ∷ []) octets = at_part limit before (category ∷ []) (omega arith) (omega arith) (cases_lt limit (before + 1))
some_next limit before (category ∷ high ∷ []) octets = at_part limit before (category ∷ high ∷ []) (omega arith) (omega arith) (cases_lt limit (before + 2))
some_next limit before (category ∷ high ∷ low ∷ more) octets =
    at_header limit before category high low more octets.1.0 octets.1.1.0 (cases_lt limit (before + 3))
