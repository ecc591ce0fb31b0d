-- The spelling of the first parts of a value is the front of the whole one, with the last FX bit cleared.
use Rattle.std.proofs.Common.{◌≡◌, ℕ, zero, suc, ◌+◌, ◌-◌, ◌<◌, ◌≤◌, List, [], ◌∷◌, ◌++◌, length, take, refl, sym, ◌∙◌, ap, arith, append_assoc}
use Rattle.ax_relation.specs.CutParts.{first_bits, cut_after}
use Rattle.ax_relation.specs.Moved.{first_lists}
use Rattle.ax_format.proofs.CanonSpells.{members_spell}
use Rattle.ax_format.proofs.FixedKinds.{members_length}
use Rattle.ax_format.specs.Canonical.{members_canon, parts_canon}
use Rattle.ax_format.specs.Fitting.{list_count}
use Rattle.ax_format.specs.Shape.{MembersShape, PartsShape}
use Rattle.ax_format.specs.Tree.{MembersTree, ValuesTree, ListsTree, no_lists, list_and}
use Rattle.ax_format.specs.Widths.{members_width}
use Rattle.ax_format.specs.declared.kind.LastPart.{LastPart}

part_length : (p : MembersTree) (vs : ValuesTree) → MembersShape p vs → length (members_canon p vs) ≡ members_width p
part_length p vs h = members_length p vs (members_canon p vs) (members_spell p vs h)

take_past : (xs ys : List ℕ) (n m : ℕ) → n ≡ length xs + m → take n (xs ++ ys) ≡ xs ++ take m ys
take_past [] ys n m e = ap (λ k. take k ys) (omega (arith, e))
take_past (x ∷ xs) ys zero m e = absurd (omega (arith, e))
take_past (x ∷ xs) ys (suc n) m e = ap (λ l. x ∷ l) (take_past xs ys n m (omega (arith, e)))

some_bits : (c : ℕ) (ps : List MembersTree) (ls : ListsTree) → PartsShape ps ls → 0 < c → 0 < first_bits c ps
some_bits zero ps ls h some = absurd (omega arith)
some_bits (suc c) [] no_lists h some = absurd h
some_bits (suc c) [] (list_and vs ls) h some = absurd h
some_bits (suc c) (p ∷ ps) ls h some = omega arith

pub parts_cut : (last : LastPart) (c : ℕ) (ps : List MembersTree) (ls : ListsTree) → PartsShape ps ls → 0 < c → c < list_count ls → parts_canon last ps (first_lists c ls) ≡ cut_after (first_bits c ps) (parts_canon last ps ls)
parts_cut last zero ps ls h some few = absurd (omega arith)
parts_cut last (suc c) [] no_lists h some few = absurd h
parts_cut last (suc c) [] (list_and vs ls) h some few = absurd h
parts_cut last (suc c) (p ∷ ps) no_lists h some few = absurd h
parts_cut last (suc c) (p ∷ ps) (list_and vs no_lists) h some few = absurd (omega arith)
parts_cut last (suc zero) (p ∷ []) (list_and vs (list_and ws ls)) h some few = absurd h.1
parts_cut last (suc zero) (p ∷ q ∷ ps) (list_and vs (list_and ws ls)) h some few =
    ap (λ l. l ++ 0 ∷ []) (sym (take_past (members_canon p vs) (1 ∷ parts_canon last (q ∷ ps) (list_and ws ls)) (members_width p + 1 + 0 - 1) 0 (omega (arith, part_length p vs h.0)) ∙ nothing_after (members_canon p vs)))
  where
    nothing_after : (xs : List ℕ) → xs ++ [] ≡ xs
    nothing_after [] = refl
    nothing_after (x ∷ xs) = ap (λ l. x ∷ l) (nothing_after xs)
parts_cut last (suc (suc c)) (p ∷ ps) (list_and vs (list_and ws ls)) h some few =
    let later = parts_cut last (suc c) ps (list_and ws ls) h.1 (omega arith) (omega arith) in
    let n = first_bits (suc c) ps in
    let pos = some_bits (suc c) ps (list_and ws ls) h.1 (omega arith) in
    ap (λ l. members_canon p vs ++ 1 ∷ l) later
    ∙ sym (append_assoc (members_canon p vs) (1 ∷ take (n - 1) (parts_canon last ps (list_and ws ls))) (0 ∷ []))
    ∙ ap (λ l. l ++ 0 ∷ []) (sym (take_past (members_canon p vs) (1 ∷ parts_canon last ps (list_and ws ls)) (members_width p + 1 + n - 1) (suc (n - 1)) (omega (arith, part_length p vs h.0, pos))))

-- and the whole one, where no more parts are present
pub parts_whole : (c : ℕ) (ls : ListsTree) → list_count ls ≤ c → first_lists c ls ≡ ls
parts_whole zero no_lists few = refl
parts_whole zero (list_and vs ls) few = absurd (omega arith)
parts_whole (suc c) no_lists few = refl
parts_whole (suc c) (list_and vs ls) few = ap (list_and vs) (parts_whole c ls (omega arith))
