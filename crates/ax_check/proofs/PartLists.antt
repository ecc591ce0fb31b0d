-- The flaws of the parts of an extended or closed kind, found one part at a time.
use Rattle.std.proofs.Common.{◌≡◌, ℕ, ◌+◌, ◌-◌, ◌<◌, ◌≤◌, ◌==◌, List, [], ◌∷◌, ◌++◌, length, map, drop, get_or, codes, decimal, refl, sym, ◌∙◌, ap, arith, append_assoc, append-nil, length-drop}
use Rattle.std.proofs.lemmas.List.{drop_all, length-map}
use Rattle.ax_check.proofs.FlawLists.{members_same, names_same}
use Rattle.ax_format.proofs.Namings.{from_place}
use Rattle.ax_check.specs.Members.{extended_flaws, part_flaws}
use Rattle.ax_check.specs.Names.{AreSame}
use Rattle.ax_format.specs.Flaws.{flaw_where, is_no_multiple, is_too_wide, is_nothing, parts_flaws, names_with}
use Rattle.ax_format.specs.Paths.{at}
use Rattle.ax_format.specs.Plain.{part_tree}
use Rattle.ax_format.specs.Tree.{MembersTree}
use Rattle.ax_format.specs.Widths.{members_width, fx_width}
use Rattle.ax_format.specs.declared.flaw.Flaw.{Flaw}
use Rattle.ax_format.specs.declared.flaw.FlawKind.TheVariants.{PartNotOctets, TooWide, Empty}
use Rattle.ax_format.specs.declared.kind.LastPart.{LastPart}
use Rattle.ax_format.specs.declared.kind.Part.{Part}

parts_same : (last : LastPart) (path : List ℕ) (n : ℕ) (a b : List (List ℕ)) (ps : List MembersTree) → AreSame a b → parts_flaws last path n a ps ≡ parts_flaws last path n b ps
parts_same last path n a b [] h = refl
parts_same last path n a b (p ∷ ps) h = λ i.
    flaw_where (is_no_multiple 8 (members_width p + fx_width last (length ps))) PartNotOctets (at path (codes "part" ++ decimal n))
    ++ flaw_where (is_too_wide (members_width p)) TooWide (at path (codes "part" ++ decimal n))
    ++ flaw_where (is_nothing (fx_width last (length ps)) p) Empty (at path (codes "part" ++ decimal n))
    ++ members_same path a b p h i ++ parts_same last path (n + 1) (names_with a p) (names_with b p) ps (names_same a b p h) i

pub part_start : (last : LastPart) (path : List ℕ) (ps : List Part) (names : List (List ℕ)) (found noted : List Flaw) → names ≡ [] → noted ≡ found ++ flaw_where (length ps == 0) Empty path
    → noted ++ parts_flaws last path 0 names (map part_tree ps) ≡ found ++ (flaw_where (length ps == 0) Empty path ++ parts_flaws last path 0 [] (map part_tree ps))
part_start last path ps names found noted none n =
    (λ i. n i ++ parts_flaws last path 0 (none i) (map part_tree ps)) ∙ append_assoc found (flaw_where (length ps == 0) Empty path) (parts_flaws last path 0 [] (map part_tree ps))

-- how many parts stand after the one of number i
others_left : (ps : List Part) (i others : ℕ) → i < length ps → others ≡ length ps - i - 1 → length (map part_tree (drop (i + 1) ps)) ≡ others
others_left ps i others within e = length-map (drop (i + 1) ps) part_tree ∙ length-drop (i + 1) ps ∙ (let same : length ps - (i + 1) ≡ others = omega arith in same)

pub part_step : (last : LastPart) (path : List ℕ) (n i others fx : ℕ) (a b : List (List ℕ)) (ps : List Part) (p : Part) (found new all : List Flaw) → i < length ps → p ≡ get_or ps i p
    → others ≡ length ps - i - 1 → fx ≡ fx_width last others → new ≡ found ++ part_flaws fx path n a (part_tree p) → AreSame b (names_with a (part_tree p))
    → found ++ parts_flaws last path n a (map part_tree (drop i ps)) ≡ all → new ++ parts_flaws last path (n + 1) b (map part_tree (drop (i + 1) ps)) ≡ all
part_step last path n i others fx a b ps p found new all within is o f e s h =
    let rest = map part_tree (drop (i + 1) ps) in
    let own : new ≡ found ++ part_flaws (fx_width last (length rest)) path n a (part_tree p) =
    e ∙ ap (λ k. found ++ part_flaws k path n a (part_tree p)) (f ∙ ap (fx_width last) (sym (others_left ps i others within o))) in
    let first = ap (λ x. parts_flaws last path n a (map part_tree x)) (from_place ps i p within is) in
    ap (λ l. l ++ parts_flaws last path (n + 1) b rest) own ∙ append_assoc found (part_flaws (fx_width last (length rest)) path n a (part_tree p)) (parts_flaws last path (n + 1) b rest)
    ∙ ap (λ l. found ++ (part_flaws (fx_width last (length rest)) path n a (part_tree p) ++ l)) (parts_same last path (n + 1) b (names_with a (part_tree p)) rest s) ∙ ap (λ l. found ++ l) (sym first) ∙ h

pub part_end : (last : LastPart) (path : List ℕ) (n i : ℕ) (a : List (List ℕ)) (ps : List Part) (start found : List Flaw) → length ps ≤ i
    → found ++ parts_flaws last path n a (map part_tree (drop i ps)) ≡ start ++ (flaw_where (length ps == 0) Empty path ++ parts_flaws last path 0 [] (map part_tree ps))
    → found ≡ start ++ extended_flaws path last (map part_tree ps)
part_end last path n i a ps start found past h =
    sym (append-nil found) ∙ ap (λ l. found ++ l) (sym (ap (λ x. parts_flaws last path n a (map part_tree x)) (drop_all i ps past))) ∙ h
    ∙ ap (λ m. start ++ (flaw_where (m == 0) Empty path ++ parts_flaws last path 0 [] (map part_tree ps))) (sym (length-map ps part_tree))

pub ruleset parts = (part_start, part_step, part_end)
