-- The first parts of an extended item, by octets.
use Rattle.std.proofs.Common.{List, [], ap, append-nil, append_assoc, arith, inl, inr, length, length-append, refl, suc, sym, take, zero, ℕ, ◌%◌, ◌*◌, ◌++◌, ◌+◌, ◌-◌, ◌/◌, ◌<◌, ◌∙◌, ◌∷◌, ◌≡◌, ◌≤◌, ◌⊎◌}
use Rattle.std.proofs.lemmas.Bool.{cases_lt}
use Rattle.ax_bits.proofs.Pieces.{take-bits, word-last}
use Rattle.ax_bits.proofs.Words.{bits-append, length-bits, length-word}
use Rattle.ax_bits.specs.Bits.{bits, word}
use Rattle.ax_relation.proofs.CutParts.{parts_cut, parts_whole}
use Rattle.ax_relation.specs.CutParts.{first_bits}
use Rattle.ax_relation.specs.Moved.{first_lists}
use Rattle.ax_moves.specs.Fronts.{cleared, front_octets}
use Rattle.ax_moves.specs.Octets.{first_parts, value_canon_by}
use Rattle.ax_format.proofs.CanonSpells.{members_spell}
use Rattle.ax_format.proofs.FixedKinds.{members_length}
use Rattle.ax_format.specs.Canonical.{canon, members_canon, parts_canon}
use Rattle.ax_format.specs.Fitting.{list_count}
use Rattle.ax_format.specs.InBounds.{PartsInBounds}
use Rattle.ax_format.specs.Shape.{FixedShape, MembersShape, PartsShape}
use Rattle.ax_format.specs.Tree.{FixedTree, ListsTree, MembersTree, ValueTree, ValuesTree, element, fixed, group, list_and, member_values, no_lists, number}
use Rattle.ax_format.specs.Widths.{fx_width, members_width}
use Rattle.ax_format.specs.declared.kind.LastPart.{LastPart}
use Rattle.ax_relation.specs.Moves.{MovesTree}

-- a value of a fixed kind is whole
pub fixed_value : (c : ℕ) (f : FixedTree) (v : ValueTree) → FixedShape f v → first_parts c v ≡ v
fixed_value c (element w k) (number n) h = refl
fixed_value c (element w k) _ h = absurd h
fixed_value c (group ms) (member_values vs) h = refl
fixed_value c (group ms) _ h = absurd h

pub fixed_whole : (c : ℕ) (below : MovesTree) (f : FixedTree) (v : ValueTree) → FixedShape f v → value_canon_by c below (fixed f) v ≡ canon (fixed f) v
fixed_whole c below f v h = ap (canon (fixed f)) (fixed_value c f v h)

-- ---- how many parts are present

pub list_few : (ps : List MembersTree) (ls : ListsTree) → PartsShape ps ls → list_count ls ≤ length ps
list_few ps no_lists h = absurd h
list_few [] (list_and vs ls) h = absurd h
list_few (p ∷ ps) (list_and vs no_lists) h = omega arith
list_few (p ∷ ps) (list_and vs (list_and ws ls)) h = let later = list_few ps (list_and ws ls) h.1 in omega arith

list_some : (ps : List MembersTree) (ls : ListsTree) → PartsShape ps ls → 0 < list_count ls
list_some ps no_lists h = absurd h
list_some ps (list_and vs ls) h = omega arith

part_length : (p : MembersTree) (vs : ValuesTree) → MembersShape p vs → length (members_canon p vs) ≡ members_width p
part_length p vs h = members_length p vs (members_canon p vs) (members_spell p vs h)

last_length : (last : LastPart) (p : MembersTree) (ps : List MembersTree) (vs : ValuesTree) → MembersShape p vs → length (parts_canon last (p ∷ ps) (list_and vs no_lists)) ≡ members_width p + fx_width last (length ps)
last_length last p ps vs h = omega (arith, length-append (members_canon p vs) (word (fx_width last (length ps)) 0), part_length p vs h, length-word (fx_width last (length ps)) 0)

more_length : (last : LastPart) (p : MembersTree) (ps : List MembersTree) (vs ws : ValuesTree) (ls : ListsTree) → MembersShape p vs → length (parts_canon last (p ∷ ps) (list_and vs (list_and ws ls))) ≡ members_width p + 1 + length (parts_canon last ps (list_and ws ls))
more_length last p ps vs ws ls h = omega (arith, length-append (members_canon p vs) (1 ∷ parts_canon last ps (list_and ws ls)), part_length p vs h)

-- more parts than c have more bits
many_bits : (last : LastPart) (c : ℕ) (ps : List MembersTree) (ls : ListsTree) → PartsInBounds last ps → PartsShape ps ls → c < list_count ls → first_bits c ps < length (parts_canon last ps ls)
many_bits last c ps no_lists b h more = absurd h
many_bits last c [] (list_and vs ls) b h more = absurd h
many_bits last zero (p ∷ ps) (list_and vs no_lists) b h more = let some = b.0.3 in omega (arith, some, last_length last p ps vs h)
many_bits last zero (p ∷ ps) (list_and vs (list_and ws ls)) b h more = omega (arith, more_length last p ps vs ws ls h.0)
many_bits last (suc c) (p ∷ ps) (list_and vs no_lists) b h more = absurd (omega arith)
many_bits last (suc c) (p ∷ ps) (list_and vs (list_and ws ls)) b h more =
    let later = many_bits last c ps (list_and ws ls) b.1 h.1 (omega arith) in omega (arith, later, more_length last p ps vs ws ls h.0)

-- each part has an octet at least
count_octets : (last : LastPart) (ps : List MembersTree) (ls : ListsTree) → PartsInBounds last ps → PartsShape ps ls → 8 * list_count ls ≤ length (parts_canon last ps ls)
count_octets last ps no_lists b h = absurd h
count_octets last [] (list_and vs ls) b h = absurd h
count_octets last (p ∷ ps) (list_and vs no_lists) b h = let whole = b.0.0 in let some = b.0.3 in omega (arith, whole, some, last_length last p ps vs h)
count_octets last (p ∷ []) (list_and vs (list_and ws ls)) b h = absurd h.1
count_octets last (p ∷ q ∷ ps) (list_and vs (list_and ws ls)) b h =
    let whole : (members_width p + 1) % 8 ≡ 0 = b.0.0 in
    let later = count_octets last (q ∷ ps) (list_and ws ls) b.1 h.1 in omega (arith, whole, later, more_length last p (q ∷ ps) vs ws ls h.0)

-- c parts or fewer have no more bits, where c aren't all
few_bits : (last : LastPart) (c : ℕ) (ps : List MembersTree) (ls : ListsTree) → PartsShape ps ls → c < length ps → list_count ls ≤ c → length (parts_canon last ps ls) ≤ first_bits c ps
few_bits last c ps no_lists h lt few = absurd h
few_bits last c [] (list_and vs ls) h lt few = absurd h
few_bits last zero (p ∷ ps) (list_and vs ls) h lt few = absurd (omega arith)
few_bits last (suc c) (p ∷ []) (list_and vs ls) h lt few = absurd (omega arith)
few_bits last (suc c) (p ∷ q ∷ ps) (list_and vs no_lists) h lt few = omega (arith, last_length last p (q ∷ ps) vs h)
few_bits last (suc c) (p ∷ q ∷ ps) (list_and vs (list_and ws ls)) h lt few =
    let later = few_bits last c (q ∷ ps) (list_and ws ls) h.1 (omega arith) (omega arith) in omega (arith, later, more_length last p (q ∷ ps) vs ws ls h.0)

-- the octets of the first parts are whole
front_bits : (last : LastPart) (c : ℕ) (ps : List MembersTree) → PartsInBounds last ps → c < length ps → 8 * front_octets c ps ≡ first_bits c ps
front_bits last zero ps b lt = refl
front_bits last (suc c) [] b lt = absurd (omega arith)
front_bits last (suc c) (p ∷ []) b lt = absurd (omega arith)
front_bits last (suc c) (p ∷ q ∷ ps) b lt =
    let whole : (members_width p + 1) % 8 ≡ 0 = b.0.0 in
    let later = front_bits last c (q ∷ ps) b.1 (omega arith) in omega arith

-- ---- a bit cleared

cleared_last : (xs : List ℕ) (y : ℕ) → cleared (xs ++ y ∷ []) ≡ xs ++ 0 ∷ []
cleared_last [] y = refl
cleared_last (x ∷ []) y = refl
cleared_last (x ∷ z ∷ xs) y = ap (λ l. x ∷ l) (cleared_last (z ∷ xs) y)

cleared_take : (m : ℕ) (xs : List ℕ) → m < length xs → cleared (take (suc m) xs) ≡ take m xs ++ 0 ∷ []
cleared_take m [] lt = absurd (omega arith)
cleared_take zero (x ∷ xs) lt = refl
cleared_take (suc m) (x ∷ []) lt = absurd (omega arith)
cleared_take (suc m) (x ∷ y ∷ xs) lt = ap (λ l. x ∷ l) (cleared_take m (y ∷ xs) (omega arith))

-- of octets that is the lowest bit of the last one
pub cleared_octets : (xs : List ℕ) (x : ℕ) → bits xs ++ bits (x / 2 * 2 ∷ []) ≡ cleared (bits (xs ++ x ∷ []))
cleared_octets xs x =
    let front = bits xs ++ word 7 (x / 2) in
    let lower : x / 2 * 2 / 2 ≡ x / 2 = omega arith in
    let bit : x / 2 * 2 % 2 ≡ 0 = omega arith in
    let new : word 8 (x / 2 * 2) ++ [] ≡ word 7 (x / 2) ++ 0 ∷ [] = append-nil (word 8 (x / 2 * 2)) ∙ word-last (x / 2 * 2) ∙ (λ i. word 7 (lower i) ++ bit i ∷ []) in
    let old : word 8 x ++ [] ≡ word 7 (x / 2) ++ x % 2 ∷ [] = append-nil (word 8 x) ∙ word-last x in
    ap (λ l. bits xs ++ l) new ∙ sym (append_assoc (bits xs) (word 7 (x / 2)) (0 ∷ [])) ∙ sym (cleared_last front (x % 2))
    ∙ ap cleared (append_assoc (bits xs) (word 7 (x / 2)) (x % 2 ∷ []) ∙ ap (λ l. bits xs ++ l) (sym old) ∙ sym (bits-append xs (x ∷ [])))

-- ---- what is kept of an item

module _ (last : LastPart) (c : ℕ) (ps : List MembersTree) (ls : ListsTree) (body : List ℕ) (b : PartsInBounds last ps) (h : PartsShape ps ls) (spelled : bits body ≡ parts_canon last ps ls) where
  all_bits : 8 * length body ≡ length (parts_canon last ps ls)
  all_bits = sym (length-bits body) ∙ ap length spelled

  pub some_octets : 0 < length body
  some_octets = let some = many_bits last 0 ps ls b h (list_some ps ls h) in omega (arith, some, all_bits)

  -- there are no more parts than octets
  pub count_within : list_count ls ≤ length body
  count_within = omega (arith, all_bits, count_octets last ps ls b h)

  pub few_kept : length body ≤ c → bits body ≡ parts_canon last ps (first_lists c ls)
  few_kept few = spelled ∙ ap (parts_canon last ps) (sym (parts_whole c ls (omega (arith, few, count_within))))

  -- more octets are more parts
  pub front_more : c < length ps → front_octets c ps < length body → c < list_count ls
  front_more lt more = by (cases_lt c (list_count ls))
    where
      by : (c < list_count ls) ⊎ (list_count ls ≤ c) → c < list_count ls
      by (inl less) = less
      by (inr few) = absurd (omega (arith, more, all_bits, front_bits last c ps b lt, few_bits last c ps ls h lt few))

  pub front_all : (length ps ≤ c) ⊎ (length body ≤ front_octets c ps) → list_count ls ≤ c
  front_all (inl past) = omega (arith, past, list_few ps ls h)
  front_all (inr few) = by (cases_lt c (list_count ls)) (cases_lt c (length ps))
    where
      by : (c < list_count ls) ⊎ (list_count ls ≤ c) → (c < length ps) ⊎ (length ps ≤ c) → list_count ls ≤ c
      by (inr le) o = le
      by (inl less) (inl lt) = absurd (omega (arith, few, all_bits, front_bits last c ps b lt, many_bits last c ps ls b h less))
      by (inl less) (inr past) = omega (arith, past, list_few ps ls h)

  pub whole_kept : (length ps ≤ c) ⊎ (length body ≤ front_octets c ps) → bits body ≡ parts_canon last ps (first_lists c ls)
  whole_kept o = spelled ∙ ap (parts_canon last ps) (sym (parts_whole c ls (front_all o)))

  pub front_kept : (n : ℕ) → c < length ps → n ≡ front_octets c ps → n < length body → cleared (bits (take n body)) ≡ parts_canon last ps (first_lists c ls)
  front_kept n lt is more = by c refl
    where
      none : (qs : List MembersTree) → [] ≡ parts_canon last qs no_lists
      none [] = refl
      none (q ∷ qs) = refl

      some : (m : ℕ) → first_bits c ps ≡ suc m → 0 < c → cleared (bits (take n body)) ≡ parts_canon last ps (first_lists c ls)
      some m e pos =
          let bits_are : 8 * n ≡ suc m = omega (arith, is, e, front_bits last c ps b lt) in
          let fits : m < length (bits body) = omega (arith, bits_are, more, length-bits body) in
          let lower : m ≡ first_bits c ps - 1 = omega (arith, e) in
          ap cleared (sym (take-bits n body) ∙ ap (λ k. take k (bits body)) bits_are) ∙ cleared_take m (bits body) fits ∙ (λ i. take (lower i) (spelled i) ++ 0 ∷ [])
          ∙ sym (parts_cut last c ps ls h pos (front_more lt (omega (arith, is, more))))

      bits_some : (k : ℕ) (qs : List MembersTree) → suc k < length qs → (m : ℕ) × (first_bits (suc k) qs ≡ suc m)
      bits_some k [] lt = absurd (omega arith)
      bits_some k (q ∷ qs) lt = (members_width q + first_bits k qs, omega arith)

      by : (k : ℕ) → c ≡ k → cleared (bits (take n body)) ≡ parts_canon last ps (first_lists c ls)
      by zero e =
          let start : n ≡ 0 = is ∙ ap (λ k. front_octets k ps) e in
          ap (λ k. cleared (bits (take k body))) start ∙ none ps ∙ ap (λ k. parts_canon last ps (first_lists k ls)) (sym e)
      by (suc k) e =
          let t = bits_some k ps (omega (arith, e, lt)) in some t.0 (ap (λ k. first_bits k ps) e ∙ t.1) (omega (arith, e))
