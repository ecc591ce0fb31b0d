-- Fixed kinds: how long a spelling is, that it determines the value, and that any bits of the width are one.
use Rattle.std.proofs.Common.{◌≡◌, ℕ, zero, suc, ◌+◌, ◌*◌, ◌/◌, ◌%◌, ◌^◌, ◌<◌, ◌≤◌, List, [], ◌∷◌, ◌++◌, length, take, drop, refl, sym, ◌∙◌, ap, arith, length-append, length-drop, append_assoc, append-nil, subst}
use Rattle.std.proofs.lemmas.List.{take_at, drop_at, length-take-le}
use Rattle.std.proofs.lemmas.Nat.{div-add-mod'}
use Rattle.std.proofs.Math.Nat.{mod-lt, mod-eq_of_lt, div-lt_iff_lt-mul, pow-suc}
use Rattle.std.proofs.Math.Pow.{pow_pos}
use Rattle.std.proofs.Math.Seq.{take-add}
use Rattle.ax_bits.proofs.Words.{word-mod, length-word, number_below, word-number}
use Rattle.ax_bits.specs.Bits.{number_of, word, AreBits}
use Rattle.ax_format.specs.Reader.{split, cut, short, Split, cut_more, fixed_value, members_value}
use Rattle.ax_format.specs.Spelling.{NumberSpells, FixedSpells, MembersSpell}
use Rattle.ax_format.specs.Tree.{ValueTree, number, FixedTree, element, group, member_values, MembersTree, ValuesTree, no_members, no_values, value_and, member_and, named, spare}
use Rattle.ax_format.specs.Widths.{width, members_width}

-- ---- splits

pub split_at : (x y : List ℕ) (w : ℕ) → length x ≡ w → split w (x ++ y) ≡ cut x y
split_at [] y zero e = refl
split_at [] y (suc w) e = absurd (omega arith)
split_at (a ∷ x) y zero e = absurd (omega arith)
split_at (a ∷ x) y (suc w) e = rw (split_at x y w (omega arith))

pub split_short : (b : List ℕ) (w : ℕ) → length b < w → split w b ≡ short
split_short b zero h = absurd (omega arith)
split_short [] (suc w) h = refl
split_short (x ∷ b) (suc w) h = rw (split_short b w (omega arith))

abbrev pub SplitIs : ℕ → List ℕ → Split → Type 0
SplitIs w b short = length b < w
SplitIs w b (cut x y) = (b ≡ x ++ y) × (length x ≡ w)

split_is_more : (a : ℕ) (b : List ℕ) (w : ℕ) (s : Split) → SplitIs w b s → SplitIs (suc w) (a ∷ b) (cut_more a s)
split_is_more a b w short h = omega arith
split_is_more a b w (cut x y) h = (ap (λ c. a ∷ c) h.0, ap suc h.1)

pub split_is : (b : List ℕ) (w : ℕ) → SplitIs w b (split w b)
split_is b zero = (refl, refl)
split_is [] (suc w) = omega arith
split_is (a ∷ b) (suc w) = split_is_more a b w (split w b) (split_is b w)

-- ---- numbers

pub number_word : (w n : ℕ) → n < 2 ^ w → number_of (word w n) ≡ n
number_word zero n h = omega arith
number_word (suc w) n h =
    let d = n / 2 ^ w in
    let m = n % 2 ^ w in
    let parts : d * 2 ^ w + m ≡ n = div-add-mod' n (2 ^ w) in
    let small : m < 2 ^ w = mod-lt n (pow_pos w) in
    let h2 : n < 2 * 2 ^ w = (let e : 2 ^ suc w ≡ 2 ^ w * 2 = pow-suc 2 w in omega arith) in
    let two : d < 2 = (div-lt_iff_lt-mul (pow_pos w)).1 h2 in
    let head : d % 2 ≡ d = mod-eq_of_lt two in
    let same : word w n ≡ word w m = ap (word w) (let e : n ≡ m + d * 2 ^ w = omega arith in e) ∙ word-mod w d m in
    let low : number_of (word w n) ≡ m = ap number_of same ∙ number_word w m small in
    let long : length (word w n) ≡ w = length-word w n in
    (λ i. head i * 2 ^ long i + low i) ∙ parts

-- ---- fixed kinds

element_length : (w : ℕ) (v : ValueTree) (b : List ℕ) → NumberSpells w v b → length b ≡ w
element_length w (number n) b h = ap length h.1 ∙ length-word w n
element_length w _ b h = absurd h

mutual
  pub fixed_length : (f : FixedTree) (v : ValueTree) (b : List ℕ) → FixedSpells f v b → length b ≡ width f
  fixed_length (element w c) v b h = element_length w v b h
  fixed_length (group ms) (member_values vs) b h = members_length ms vs b h
  fixed_length (group ms) _ b h = absurd h

  pub members_length : (ms : MembersTree) (vs : ValuesTree) (b : List ℕ) → MembersSpell ms vs b → length b ≡ members_width ms
  members_length no_members no_values b h = ap length h
  members_length no_members (value_and v vs) b h = absurd h
  members_length (member_and (named name f) ms) no_values b h = absurd h
  members_length (member_and (spare w) ms) no_values b h = absurd h
  members_length (member_and (named name f) ms) (value_and v vs) b (x, y, e, p, q) =
      let l : length b ≡ length x + length y = ap length e ∙ length-append x y in
      let m : length x ≡ width f = fixed_length f v x p in
      let n : length y ≡ members_width ms = members_length ms vs y q in omega arith
  members_length (member_and (spare w) ms) (value_and v vs) b (x, y, e, p, q) =
      let l : length b ≡ length x + length y = ap length e ∙ length-append x y in
      let m : length x ≡ w = element_length w v x p in
      let n : length y ≡ members_width ms = members_length ms vs y q in omega arith

element_back : (w : ℕ) (v : ValueTree) (b r : List ℕ) → NumberSpells w v b → number (number_of (take w (b ++ r))) ≡ v
element_back w (number n) b r h =
    let e : length b ≡ w = ap length h.1 ∙ length-word w n in
    ap (λ n. number n) (ap number_of (take_at b r w e ∙ h.1) ∙ number_word w n h.0)
element_back w _ b r h = absurd h

mutual
  pub fixed_back : (f : FixedTree) (v : ValueTree) (b r : List ℕ) → FixedSpells f v b → fixed_value f (b ++ r) ≡ v
  fixed_back (element w c) v b r h = element_back w v b r h
  fixed_back (group ms) (member_values vs) b r h = ap (λ vs. member_values vs) (members_back ms vs b r h)
  fixed_back (group ms) _ b r h = absurd h

  pub members_back : (ms : MembersTree) (vs : ValuesTree) (b r : List ℕ) → MembersSpell ms vs b → members_value ms (b ++ r) ≡ vs
  members_back no_members no_values b r h = refl
  members_back no_members (value_and v vs) b r h = absurd h
  members_back (member_and (named name f) ms) no_values b r h = absurd h
  members_back (member_and (spare w) ms) no_values b r h = absurd h
  members_back (member_and (named name f) ms) (value_and v vs) b r (x, y, e, p, q) =
      rw (e, append_assoc, drop_at x (y ++ r) (width f) (fixed_length f v x p), fixed_back f v x (y ++ r) p, members_back ms vs y r q) refl
  members_back (member_and (spare w) ms) (value_and v vs) b r (x, y, e, p, q) =
      rw (e, append_assoc, drop_at x (y ++ r) w (element_length w v x p), element_back w v x (y ++ r) p, members_back ms vs y r q) refl

pub fixed_back_all : (f : FixedTree) (v : ValueTree) (b : List ℕ) → FixedSpells f v b → fixed_value f b ≡ v
fixed_back_all f v b h = ap (fixed_value f) (sym (append-nil b)) ∙ fixed_back f v b [] h

pub members_back_all : (ms : MembersTree) (vs : ValuesTree) (b : List ℕ) → MembersSpell ms vs b → members_value ms b ≡ vs
members_back_all ms vs b h = ap (members_value ms) (sym (append-nil b)) ∙ members_back ms vs b [] h

-- any bits of the width spell a value
take-AreBits : (n : ℕ) (b : List ℕ) → AreBits b → AreBits (take n b)
take-AreBits zero b h = tt
take-AreBits (suc n) [] h = tt
take-AreBits (suc n) (x ∷ b) h = (h.0, take-AreBits n b h.1)

drop-AreBits : (n : ℕ) (b : List ℕ) → AreBits b → AreBits (drop n b)
drop-AreBits zero b h = h
drop-AreBits (suc n) [] h = tt
drop-AreBits (suc n) (x ∷ b) h = drop-AreBits n b h.1

element_some : (w : ℕ) (b : List ℕ) → AreBits b → w ≤ length b → NumberSpells w (number (number_of (take w b))) (take w b)
element_some w b h le =
    let t = take w b in
    let bits : AreBits t = take-AreBits w b h in
    let long : length t ≡ w = length-take-le w b le in
    let P : ℕ → Type 0 = λ w. (number_of t < 2 ^ w) × (t ≡ word w (number_of t)) in subst P long (number_below t bits, sym (word-number t bits))

mutual
  pub fixed_some : (f : FixedTree) (b : List ℕ) → AreBits b → width f ≤ length b → FixedSpells f (fixed_value f b) (take (width f) b)
  fixed_some (element w c) b h le = element_some w b h le
  fixed_some (group ms) b h le = members_some ms b h le

  pub members_some : (ms : MembersTree) (b : List ℕ) → AreBits b → members_width ms ≤ length b → MembersSpell ms (members_value ms b) (take (members_width ms) b)
  members_some no_members b h le = refl
  members_some (member_and (named name f) ms) b h le = (
    take (width f) b,
    take (members_width ms) (drop (width f) b),
    take-add (width f) (members_width ms) b,
    fixed_some f b h (omega arith),
    members_some ms (drop (width f) b) (drop-AreBits (width f) b h) (omega (arith, length-drop (width f) b)),
  )
  members_some (member_and (spare w) ms) b h le = (
    take w b,
    take (members_width ms) (drop w b),
    take-add w (members_width ms) b,
    element_some w b h (omega arith),
    members_some ms (drop w b) (drop-AreBits w b h) (omega (arith, length-drop w b)),
  )
