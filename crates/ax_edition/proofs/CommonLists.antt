-- How many first parts two lists have in common, one part at a time.
use Rattle.std.proofs.Common.{List, [], ap, arith, cond, drop, false, get_or, length, map, refl, suc, true, ℕ, ◌+◌, ◌<◌, ◌∙◌, ◌∷◌, ◌≡◌, ◌≤◌}
use Rattle.std.proofs.lemmas.List.{drop_all}
use Rattle.ax_format.specs.Same.{are_same_members, common}
use Rattle.ax_format.proofs.Namings.{from_place}
use Rattle.ax_format.specs.Plain.{part_tree}
use Rattle.ax_format.specs.Tree.{MembersTree}
use Rattle.ax_format.specs.declared.kind.Part.{Part}

no_new : (ps : List MembersTree) → common ps [] ≡ 0
no_new [] = refl
no_new (p ∷ ps) = refl

module _ (olds : List Part) (i : ℕ) (news : List Part) (n all : ℕ) (e : all ≡ n + common (map part_tree (drop i olds)) (map part_tree news)) where
  pub old_ends : length olds ≤ i → n ≡ all
  old_ends past =
      let none = ap (λ x. common (map part_tree x) (map part_tree news)) (drop_all i olds past) in omega (arith, e, none)

  pub new_ends : news ≡ [] → n ≡ all
  new_ends is =
      let none = ap (λ x. common (map part_tree (drop i olds)) (map part_tree x)) is ∙ no_new (map part_tree (drop i olds)) in omega (arith, e, none)

  module _ (part own : Part) (later : List Part) (within : i < length olds) (here : part ≡ get_or olds i part) (is : news ≡ own ∷ later) where
    first : common (map part_tree (drop i olds)) (map part_tree news) ≡ cond (are_same_members (part_tree part) (part_tree own)) (suc (common (map part_tree (drop (i + 1) olds)) (map part_tree later))) 0
    first = λ j. common (map part_tree (from_place olds i part within here j)) (map part_tree (is j))

    pub one_more : are_same_members (part_tree part) (part_tree own) ≡ true → all ≡ n + 1 + common (map part_tree (drop (i + 1) olds)) (map part_tree later)
    one_more same =
        let next = first ∙ ap (λ b. cond b (suc (common (map part_tree (drop (i + 1) olds)) (map part_tree later))) 0) same in omega (arith, e, next)

    pub differs : are_same_members (part_tree part) (part_tree own) ≡ false → n ≡ all
    differs same =
        let next = first ∙ ap (λ b. cond b (suc (common (map part_tree (drop (i + 1) olds)) (map part_tree later))) 0) same in omega (arith, e, next)

pub ruleset commons = (old_ends, new_ends, one_more, differs)
