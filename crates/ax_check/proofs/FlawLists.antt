-- Lists of flaws, found one member at a time.
use Rattle.std.proofs.Common.{◌≡◌, ℕ, ◌+◌, ◌<◌, ◌≤◌, ◌==◌, ◌||◌, List, [], ◌∷◌, ◌++◌, length, drop, get_or, bytes_eq, refl, sym, ◌∙◌, ap, subst, arith, append_assoc, append-nil, codes}
use Rattle.std.proofs.lemmas.List.{drop_all}
use Rattle.std.proofs.lemmas.Bool.{ne_eqb}
use Rattle.ax_format.proofs.Namings.{from_place}
use Rattle.ax_check.specs.Members.{member_flaws, with_member}
use Rattle.ax_check.specs.Names.{AreSame}
use Rattle.ax_format.specs.Flaws.{flaw_where, is_bad_width, fixed_flaws, members_flaws, names_with, has_no_member}
use Rattle.ax_format.specs.Paths.{at}
use Rattle.ax_format.specs.Plain.{member_tree, members_tree}
use Rattle.ax_format.specs.Tree.{MembersTree, no_members, member_and, MemberTree, named, spare, group}
use Rattle.ax_format.specs.declared.flaw.Flaw.{Flaw}
use Rattle.ax_format.specs.declared.flaw.FlawKind.TheVariants.{BadWidth, DuplicateName, Empty}
use Rattle.ax_format.specs.declared.kind.Member.{Member}

-- ---- the same names

pub same_more : (name : List ℕ) (a b : List (List ℕ)) → AreSame a b → AreSame (name ∷ a) (name ∷ b)
same_more name a b h = record { same = λ n. ap (λ t. bytes_eq n name || t) (h.same n) }

-- one list's names are another's, which are a third's
pub same_through : (a b c : List (List ℕ)) → AreSame a b → AreSame b c → AreSame a c
same_through a b c h g = record { same = λ n. h.same n ∙ g.same n }

-- ---- members

pub members_same : (path : List ℕ) (a b : List (List ℕ)) (ms : MembersTree) → AreSame a b → members_flaws path a ms ≡ members_flaws path b ms
members_same path a b no_members h = refl
members_same path a b (member_and (spare w) ms) h = ap (λ l. flaw_where (is_bad_width w) BadWidth (at path (codes "spare")) ++ l) (members_same path a b ms h)
members_same path a b (member_and (named name f) ms) h = λ i.
    flaw_where (h.same name i) DuplicateName (at path name) ++ fixed_flaws (at path name) f ++ members_same path (name ∷ a) (name ∷ b) ms (same_more name a b h) i

pub names_same : (a b : List (List ℕ)) (ms : MembersTree) → AreSame a b → AreSame (names_with a ms) (names_with b ms)
names_same a b no_members h = h
names_same a b (member_and (spare w) ms) h = names_same a b ms h
names_same a b (member_and (named name f) ms) h = names_same (name ∷ a) (name ∷ b) ms (same_more name a b h)

first_flaws : (path : List ℕ) (a : List (List ℕ)) (m : MemberTree) (ms : MembersTree) → members_flaws path a (member_and m ms) ≡ member_flaws path a m ++ members_flaws path (with_member a m) ms
first_flaws path a (spare w) ms = refl
first_flaws path a (named name f) ms = refl

first_names : (a : List (List ℕ)) (m : MemberTree) (ms : MembersTree) → names_with a (member_and m ms) ≡ names_with (with_member a m) ms
first_names a (spare w) ms = refl
first_names a (named name f) ms = refl

pub member_found : (path : List ℕ) (a b : List (List ℕ)) (ms : List Member) (i : ℕ) (m : Member) (found new all : List Flaw) → i < length ms → m ≡ get_or ms i m
    → new ≡ found ++ member_flaws path a (member_tree m) → AreSame b (with_member a (member_tree m)) → found ++ members_flaws path a (members_tree (drop i ms)) ≡ all
    → new ++ members_flaws path b (members_tree (drop (i + 1) ms)) ≡ all
member_found path a b ms i m found new all within is n s h =
    let rest = members_tree (drop (i + 1) ms) in
    let first = ap (λ x. members_flaws path a (members_tree x)) (from_place ms i m within is) ∙ first_flaws path a (member_tree m) rest in
    ap (λ l. l ++ members_flaws path b rest) n ∙ append_assoc found (member_flaws path a (member_tree m)) (members_flaws path b rest)
    ∙ ap (λ l. found ++ (member_flaws path a (member_tree m) ++ l)) (members_same path b (with_member a (member_tree m)) rest s) ∙ ap (λ l. found ++ l) (sym first) ∙ h

pub member_named : (a b all : List (List ℕ)) (ms : List Member) (i : ℕ) (m : Member) → i < length ms → m ≡ get_or ms i m → AreSame b (with_member a (member_tree m))
    → AreSame (names_with a (members_tree (drop i ms))) all → AreSame (names_with b (members_tree (drop (i + 1) ms))) all
member_named a b all ms i m within is s h =
    let first = ap (λ x. names_with a (members_tree x)) (from_place ms i m within is) ∙ first_names a (member_tree m) (members_tree (drop (i + 1) ms)) in
    same_through (names_with b (members_tree (drop (i + 1) ms))) (names_with a (members_tree (drop i ms))) all
    (subst (AreSame (names_with b (members_tree (drop (i + 1) ms)))) (sym first) (names_same b (with_member a (member_tree m)) (members_tree (drop (i + 1) ms)) s)) h

pub members_found : (path : List ℕ) (a : List (List ℕ)) (ms : List Member) (i : ℕ) (found all : List Flaw) → length ms ≤ i → found ++ members_flaws path a (members_tree (drop i ms)) ≡ all → found ≡ all
members_found path a ms i found all past h =
    sym (append-nil found) ∙ ap (λ l. found ++ l) (sym (ap (λ x. members_flaws path a (members_tree x)) (drop_all i ms past))) ∙ h

pub members_named : (a all : List (List ℕ)) (ms : List Member) (i : ℕ) → length ms ≤ i → AreSame (names_with a (members_tree (drop i ms))) all → AreSame a all
members_named a all ms i past h = subst (λ x. AreSame x all) (ap (λ x. names_with a (members_tree x)) (drop_all i ms past)) h

pub ruleset members = (member_found, member_named, members_found, members_named)

pub no_member : (ms : List Member) → (length ms == 0) ≡ has_no_member (members_tree ms)
no_member [] = refl
no_member (m ∷ ms) = ne_eqb (length (m ∷ ms)) 0 (λ e. absurd (omega arith))

pub group_found : (path : List ℕ) (ms : List Member) (names : List (List ℕ)) (found noted new : List Flaw) → names ≡ [] → noted ≡ found ++ flaw_where (length ms == 0) Empty path
    → new ≡ noted ++ members_flaws path names (members_tree ms) → new ≡ found ++ fixed_flaws path (group (members_tree ms))
group_found path ms names found noted new none n m =
    m ∙ (λ i. n i ++ members_flaws path (none i) (members_tree ms)) ∙ append_assoc found (flaw_where (length ms == 0) Empty path) (members_flaws path [] (members_tree ms))
    ∙ ap (λ b. found ++ (flaw_where b Empty path ++ members_flaws path [] (members_tree ms))) (no_member ms)

pub ruleset groups = (group_found)
