-- Spellings of parts and of occurrences, cut into the octets of each.
use Rattle.std.proofs.Common.{◌≡◌, ℕ, suc, ◌+◌, ◌-◌, ◌*◌, ◌/◌, ◌%◌, ◌<◌, ◌≤◌, Bool, true, false, List, [], ◌∷◌, ◌++◌, length, take, drop, map, flat_map, refl, sym, ◌∙◌, ap, arith, subst, length-append, append-nil, append_assoc, take-append-drop, length-drop}
use Rattle.std.proofs.Math.Nat.{suc-mul, zero-mul}
use Rattle.std.proofs.lemmas.List.{take_at, drop_at, drop_all, length-take-le, nil_from_length}
use Rattle.ax_bits.proofs.Pieces.{take-bits, drop-bits}
use Rattle.ax_bits.proofs.Words.{length-bits, length-word}
use Rattle.ax_bits.specs.Bits.{bits, word}
use Rattle.ax_format.proofs.Bounds.{bounds_whole}
use Rattle.ax_format.proofs.FixedKinds.{members_length, fixed_length}
use Rattle.ax_format.proofs.Spelled.{read_spelled}
use Rattle.ax_format.proofs.WholeOctets.{spells_whole}
use Rattle.ax_format.specs.InBounds.{InBounds, PartInBounds, PartsInBounds}
use Rattle.ax_format.specs.Reader.{got, read}
use Rattle.ax_format.specs.Spelling.{MembersSpell, FixedSpells, PartsSpell, RunSpells, EachSpells, Spells}
use Rattle.ax_format.specs.Tree.{FixedTree, MembersTree, KindTree, fixed, ValueTree, ValuesTree, no_values, value_and, value_count, ListsTree, no_lists, list_and}
use Rattle.ax_format.specs.Widths.{width, members_width, fx_width}
use Rattle.ax_format.specs.declared.kind.LastPart.{LastPart}
use Rattle.ax_walk.specs.Pieces.{octets_taken, first_size, pieces, ArePieces, part_pieces, ArePartPieces, part_size, part_sizes}
use Rattle.ax_walk.specs.Shown.{PartsAre, fx_before, values_list}
use Rattle.ax_walk.specs.Values.{IsAll, IsOne, IsWithFx, IsItemOf, value_read, value_in}

-- ---- octets of a front of the bits

module _ (xs x y : List ℕ) (m : ℕ) (e : bits xs ≡ x ++ y) (l : length x ≡ 8 * m) where
  front_is : bits (take m xs) ≡ x
  front_is = sym (take-bits m xs) ∙ ap (take (8 * m)) e ∙ take_at x y (8 * m) l

  rest_is : bits (drop m xs) ≡ y
  rest_is = sym (drop-bits m xs) ∙ ap (drop (8 * m)) e ∙ drop_at x y (8 * m) l

  front_within : m ≤ length xs
  front_within = omega (arith, ap length e, length-append x y, length-bits xs)

-- ---- parts

pub record PartsCut (last : LastPart) (ps : List MembersTree) (ls : ListsTree) (xs : List ℕ) : Type 0 where
  pub are_pieces : ArePartPieces (part_sizes last ps) xs
  pub spelled : PartsAre last ps ls (part_pieces (part_sizes last ps) xs)
  pub joined : flat_map (λ x. x) (part_pieces (part_sizes last ps) xs) ≡ xs

-- no octets are left after the last part
none_cut : (last : LastPart) (ps : List MembersTree) (xs : List ℕ) → xs ≡ [] → PartsCut last ps no_lists xs
none_cut last ps xs e = subst (PartsCut last ps no_lists) (sym e) (by ps)
  where
    by : (ps : List MembersTree) → PartsCut last ps no_lists []
    by [] = record { are_pieces = refl; spelled = tt; joined = refl }
    by (p ∷ ps) = record { are_pieces = tt; spelled = tt; joined = refl }

one_cut : (last : LastPart) (p : MembersTree) (ps : List MembersTree) (vs : ValuesTree) (ls : ListsTree) (xs x y : List ℕ) → length (fx_before (fx_width last (length ps)) ls) ≡ fx_width last (length ps) → PartInBounds (fx_width last (length ps)) p → MembersSpell p vs x
    → bits xs ≡ (x ++ fx_before (fx_width last (length ps)) ls) ++ y → PartsCut last ps ls (drop (part_size (fx_width last (length ps)) p) xs) → PartsCut last (p ∷ ps) (list_and vs ls) xs
one_cut last p ps vs ls xs x y l bounds s e h = by xs e h
  where
    fx : List ℕ
    fx = fx_before (fx_width last (length ps)) ls

    n : ℕ
    n = part_size (fx_width last (length ps)) p

    long : length (x ++ fx) ≡ 8 * n
    long = let w = members_length p vs x s in let whole = bounds.0 in omega (arith, length-append x fx, l)

    some : 0 < n
    some = let whole = bounds.0 in let bit = bounds.3 in omega arith

    by : (xs : List ℕ) → bits xs ≡ (x ++ fx) ++ y → PartsCut last ps ls (drop n xs) → PartsCut last (p ∷ ps) (list_and vs ls) xs
    by [] e h = absurd (let le = front_within [] (x ++ fx) y n e long in let pos = some in omega arith)
    by (a ∷ xs) e h =
        record {
          are_pieces = (some, front_within (a ∷ xs) (x ++ fx) y n e long, h.are_pieces);
          spelled = ((x, s, front_is (a ∷ xs) (x ++ fx) y n e long), h.spelled);
          joined = ap (λ z. take n (a ∷ xs) ++ z) h.joined ∙ take-append-drop n (a ∷ xs);
        }

pub parts_cut : (last : LastPart) (ps : List MembersTree) (ls : ListsTree) (xs : List ℕ) → PartsInBounds last ps → PartsSpell last ps ls (bits xs) → PartsCut last ps ls xs
parts_cut last [] no_lists xs bounds h = absurd h
parts_cut last (p ∷ ps) no_lists xs bounds h = absurd h
parts_cut last [] (list_and vs ls) xs bounds h = absurd h
parts_cut last (p ∷ ps) (list_and vs no_lists) xs bounds (x, e, s) =
    let fx = fx_width last (length ps) in
    let w = members_length p vs x s in
    let whole = bounds.0.0 in
    let l : length (word fx 0) ≡ fx = length-word fx 0 in
    let end : part_size fx p ≡ length xs = omega (arith, ap length e, length-append x (word fx 0), l, length-bits xs) in
    one_cut last p ps vs no_lists xs x [] l bounds.0 s (e ∙ sym (append-nil (x ++ word fx 0))) (none_cut last ps (drop (part_size fx p) xs) (drop_all (part_size fx p) xs (omega arith)))
parts_cut last (p ∷ []) (list_and vs (list_and ws ls)) xs bounds (x, y, e, s, t) = absurd t
parts_cut last (p ∷ q ∷ ps) (list_and vs (list_and ws ls)) xs bounds (x, y, e, s, t) =
    let w = members_length p vs x s in
    let whole : (members_width p + 1) % 8 ≡ 0 = bounds.0.0 in
    let split : bits xs ≡ (x ++ 1 ∷ []) ++ y = e ∙ sym (append_assoc x (1 ∷ []) y) in
    let long : length (x ++ 1 ∷ []) ≡ 8 * part_size 1 p = omega (arith, length-append x (1 ∷ [])) in
    let rest : bits (drop (part_size 1 p) xs) ≡ y = rest_is xs (x ++ 1 ∷ []) y (part_size 1 p) split long in
    one_cut last p (q ∷ ps) vs (list_and ws ls) xs x y refl bounds.0 s split (parts_cut last (q ∷ ps) (list_and ws ls) (drop (part_size 1 p) xs) bounds.1 (subst (PartsSpell last (q ∷ ps) (list_and ws ls)) (sym rest) t))

-- ---- occurrences

pub record Cut (fx : Bool) (k : KindTree) (vs : ValuesTree) (xs : List ℕ) : Type 0 where
  pub are_pieces : ArePieces fx k (value_count vs) xs
  pub values : map (value_in k) (pieces fx k (value_count vs) xs) ≡ values_list vs

-- one value more in front
cut_and : (fx : Bool) (k : KindTree) (v : ValueTree) (vs : ValuesTree) (m : ℕ) (xs : List ℕ) → first_size fx k xs ≡ m → m ≤ length xs → IsItemOf fx k (take m xs) → value_in k (take m xs) ≡ v → Cut fx k vs (drop m xs) → Cut fx k (value_and v vs) xs
cut_and fx k v vs m xs e le one value h = record {
  are_pieces = (subst (λ m. m ≤ length xs) (sym e) le, subst (λ m. IsItemOf fx k (take m xs)) (sym e) one, subst (λ m. ArePieces fx k (value_count vs) (drop m xs)) (sym e) h.are_pieces);
  values = λ i. (ap (λ m. value_in k (take m xs)) e ∙ value) i ∷ (ap (λ m. map (value_in k) (pieces fx k (value_count vs) (drop m xs))) e ∙ h.values) i;
}

no_bits : (xs : List ℕ) → bits xs ≡ [] → xs ≡ []
no_bits xs e = nil_from_length xs (omega (arith, ap length e, length-bits xs))

pub each_cut : (k : KindTree) (vs : ValuesTree) (xs : List ℕ) → InBounds k → length xs ≤ 65532 → EachSpells (Spells k) vs (bits xs) → Cut false k vs xs
unfolding value_in
each_cut k no_values xs bounds few h = record { are_pieces = no_bits xs h; values = refl }
each_cut k (value_and v vs) xs bounds few (x, y, e, s, t) =
    let whole : length x % 8 ≡ 0 = spells_whole k v x (bounds_whole k bounds) s in
    let m = length x / 8 in
    let l : length x ≡ 8 * m = omega arith in
    let size : first_size false k xs ≡ m = ap octets_taken (ap (read k) e ∙ read_spelled k v x y s) in
    let within : m ≤ length xs = front_within xs x y m e l in
    let alone : read k (bits (take m xs)) ≡ got v (length x) [] = ap (read k) (front_is xs x y m e l ∙ sym (append-nil x)) ∙ read_spelled k v x [] s in
    let one : IsOne k (take m xs) = record { all = subst IsAll (sym alone) refl; few = omega (arith, few, length-take-le m xs within) } in
    let rest : bits (drop m xs) ≡ y = rest_is xs x y m e l in
    cut_and false k v vs m xs size within one (ap value_read alone) (each_cut k vs (drop m xs) bounds (omega (arith, few, length-drop m xs)) (subst (EachSpells (Spells k) vs) (sym rest) t))

pub record RunCut (f : FixedTree) (vs : ValuesTree) (xs : List ℕ) : Type 0 where
  pub cut : Cut true (fixed f) vs xs
  pub long : length xs ≡ value_count vs * ((width f + 1) / 8)

-- one occurrence in front
run_and : (f : FixedTree) (v : ValueTree) (vs : ValuesTree) (xs x y : List ℕ) (fx : ℕ) → (width f + 1) % 8 ≡ 0 → length xs ≤ 65532 → FixedSpells f v x → bits xs ≡ x ++ fx ∷ y → RunCut f vs (drop ((width f + 1) / 8) xs) → RunCut f (value_and v vs) xs
unfolding value_in
run_and f v vs xs x y fx whole few s e h =
    let m = (width f + 1) / 8 in
    let w : length x ≡ width f = fixed_length f v x s in
    let split : bits xs ≡ (x ++ fx ∷ []) ++ y = e ∙ sym (append_assoc x (fx ∷ []) y) in
    let l : length (x ++ fx ∷ []) ≡ 8 * m = omega (arith, length-append x (fx ∷ [])) in
    let within : m ≤ length xs = front_within xs (x ++ fx ∷ []) y m split l in
    let taken : length (take m xs) ≡ m = length-take-le m xs within in
    let item : IsWithFx (fixed f) (take m xs) = record { fits = omega arith; few = omega arith } in
    let value : value_in (fixed f) (take m xs) ≡ v = ap value_read (ap (read (fixed f)) (front_is xs (x ++ fx ∷ []) y m split l) ∙ read_spelled (fixed f) v x (fx ∷ []) s) in
    let rest = h.long in
    let all : length xs ≡ suc (value_count vs) * m = mult (value_count vs) m (length xs) within (rest_of m rest) in
    record { cut = cut_and true (fixed f) v vs m xs refl within item value h.cut; long = all }
  where
    rest_of : (m : ℕ) → length (drop m xs) ≡ value_count vs * m → length xs - m ≡ value_count vs * m
    rest_of m r = sym (length-drop m xs) ∙ r

    mult : (c m n : ℕ) → m ≤ n → n - m ≡ c * m → n ≡ suc c * m
    mult c m n le e = let d : suc c * m ≡ m + c * m = suc_times c m in omega (arith, le, e, d)
      where
        suc_times : (c m : ℕ) → suc c * m ≡ m + c * m
        suc_times c m = suc-mul c m ∙ (let d : c * m + m ≡ m + c * m = omega arith in d)

pub run_cut : (f : FixedTree) (vs : ValuesTree) (xs : List ℕ) → (width f + 1) % 8 ≡ 0 → length xs ≤ 65532 → RunSpells f vs (bits xs) → RunCut f vs xs
run_cut f no_values xs whole few h = absurd h
run_cut f (value_and v no_values) xs whole few (x, e, s) =
    let m = (width f + 1) / 8 in
    let w = fixed_length f v x s in
    let end : m ≡ length xs = omega (arith, ap length e, length-append x (0 ∷ []), length-bits xs) in
    let none : drop m xs ≡ [] = drop_all m xs (omega arith) in
    run_and f v no_values xs x [] 0 whole few s e (record { cut = record { are_pieces = none; values = refl }; long = ap length none ∙ sym (zero-mul m) })
run_cut f (value_and v (value_and u vs)) xs whole few (x, y, e, s, t) =
    let m = (width f + 1) / 8 in
    let w = fixed_length f v x s in
    let split : bits xs ≡ (x ++ 1 ∷ []) ++ y = e ∙ sym (append_assoc x (1 ∷ []) y) in
    let l : length (x ++ 1 ∷ []) ≡ 8 * m = omega (arith, length-append x (1 ∷ [])) in
    let rest : bits (drop m xs) ≡ y = rest_is xs (x ++ 1 ∷ []) y m split l in
    run_and f v (value_and u vs) xs x y 1 whole few s e (run_cut f (value_and u vs) (drop m xs) whole (omega (arith, few, length-drop m xs)) (subst (RunSpells f (value_and u vs)) (sym rest) t))
