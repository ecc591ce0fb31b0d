-- Numbers and members printed from any bit of a body on.
use Rattle.std.proofs.Common.{◌≡◌, ℕ, ◌+◌, ◌^◌, ◌<◌, ◌≤◌, List, length, take, drop, decimal, refl, sym, ◌∙◌, ap, arith, subst, get_or}
use Rattle.std.proofs.lemmas.List.{drop-drop, drop_all}
use Rattle.ax_bits.proofs.Pieces.{number-word}
use Rattle.ax_bits.specs.Bits.{number_of, word}
use Rattle.ax_format.specs.InBounds.{MembersInBounds}
use Rattle.ax_format.specs.Plain.{fixed_step, member_step, member_tree, members_tree}
use Rattle.ax_format.specs.Tree.{FixedTree, MembersTree, no_members, member_and, MemberTree, named, spare}
use Rattle.ax_format.specs.Widths.{width, members_width}
use Rattle.ax_format.specs.declared.kind.Fixed.TheOpen.{Member-F}
use Rattle.ax_format.specs.declared.kind.Member.{Member, fold-roll-Member}
use Rattle.ax_format.specs.declared.kind.Member.TheVariants.{Spare, rolls-Spare}
use Rattle.ax_text_form.proofs.Printed.{Leaves, leaves_all, leaves_fewer, leaves_none}
use Rattle.ax_text_form.specs.Printing.{after_spaces, Puts}
use Rattle.ax_text_form.specs.ValueText.{Texts, one_onto}
use Rattle.ax_text_lines.specs.Prints.{members_read_onto}
use Rattle.ax_values.proofs.FixedRead.{width_more, bounds_first, bounds_rest, members_from}

pub spare_tree : (w : ℕ) → member_tree (Spare w) ≡ spare w
spare_tree w = ap member_tree (sym (rolls-Spare w)) ∙ fold-roll-Member FixedTree MemberTree fixed_step member_step (Member-F.Spare w)

pub number_printed : (b : List ℕ) (at w n : ℕ) (old new : List ℕ) → n < 2 ^ w → word w n ≡ take w (drop at b) → Puts after_spaces (one_onto (decimal n)) old new → Puts after_spaces (one_onto (decimal (number_of (take w (drop at b))))) old new
number_printed b at w n old new lt e p = subst (λ n. Puts after_spaces (one_onto (decimal n)) old new) (sym (number-word w n lt) ∙ ap number_of e) p

-- ---- members so far

text_more : (m : MemberTree) (ms : MembersTree) (b : List ℕ) (rest : Texts)
    → members_read_onto (member_and m ms) b rest ≡ members_read_onto (member_and m no_members) b (members_read_onto ms (drop (members_width (member_and m no_members)) b) rest)
text_more (named name f) ms b rest =
    let n : width f ≡ width f + 0 = omega arith in
    ap (λ k. members_read_onto (member_and (named name f) no_members) b (members_read_onto ms (drop k b) rest)) n
text_more (spare w) ms b rest =
    let n : w ≡ w + 0 = omega arith in
    ap (λ k. members_read_onto (member_and (spare w) no_members) b (members_read_onto ms (drop k b) rest)) n

-- the members before place i are printed, with their values from bit start up to bit at
pub record MembersPrinted (all : List Member) (i : ℕ) (b : List ℕ) (start at : ℕ) (old now : List ℕ) : Type 0 where
  pub bounds : MembersInBounds (members_tree (drop i all))
  pub width : at + members_width (members_tree (drop i all)) ≡ start + members_width (members_tree all)
  pub left : Leaves after_spaces (members_read_onto (members_tree all) (drop start b)) (members_read_onto (members_tree (drop i all)) (drop at b)) old now

pub printed_none : (all : List Member) (b : List ℕ) (start : ℕ) (out : List ℕ) → MembersInBounds (members_tree all) → MembersPrinted all 0 b start start out out
printed_none all b start out h = record { bounds = h; width = refl; left = leaves_all (members_read_onto (members_tree all) (drop start b)) out }

pub printed_more : (all : List Member) (i : ℕ) (m : Member) (b : List ℕ) (start at next : ℕ) (old now new : List ℕ) → MembersPrinted all i b start at old now → i < length all → m ≡ get_or all i m
    → Puts after_spaces (members_read_onto (member_and (member_tree m) no_members) (drop at b)) now new → next ≡ at + members_width (member_and (member_tree m) no_members)
    → MembersPrinted all (i + 1) b start next old new
printed_more all i m b start at next old now new h within e p g =
    let mt = member_tree m in
    let ms = members_tree (drop (i + 1) all) in
    let from : members_tree (drop i all) ≡ member_and mt ms = members_from all i m within e in
    let bounds : MembersInBounds (member_and mt ms) = subst MembersInBounds from h.bounds in
    let w : at + members_width (member_and mt ms) ≡ start + members_width (members_tree all) = subst (λ left. at + members_width left ≡ start + members_width (members_tree all)) from h.width in
    let more : members_width (member_and mt ms) ≡ members_width (member_and mt no_members) + members_width ms = width_more mt ms in
    let n = members_width (member_and mt no_members) in
    let place : drop n (drop at b) ≡ drop next b = drop-drop n at b ∙ ap (λ k. drop k b) (let z : at + n ≡ next = sym g in z) in
    record {
      bounds = bounds_rest mt ms bounds;
      width = omega arith;
      left = leaves_fewer (members_read_onto (members_tree all) (drop start b)) (members_read_onto (members_tree (drop i all)) (drop at b)) (members_read_onto (member_and mt no_members) (drop at b)) (members_read_onto ms (drop next b)) old now new h.left
          (λ rest. ap (λ left. members_read_onto left (drop at b) rest) from ∙ text_more mt ms (drop at b) rest ∙ ap (λ c. members_read_onto (member_and mt no_members) (drop at b) (members_read_onto ms c rest)) place) p;
    }

pub printed_bounds : (all : List Member) (i : ℕ) (m : Member) (b : List ℕ) (start at : ℕ) (old now : List ℕ) → MembersPrinted all i b start at old now → i < length all → m ≡ get_or all i m → MembersInBounds (member_and (member_tree m) no_members)
printed_bounds all i m b start at old now h within e = bounds_first (member_tree m) (members_tree (drop (i + 1) all)) (subst MembersInBounds (members_from all i m within e) h.bounds)

pub printed_within : (all : List Member) (i : ℕ) (m : Member) (b : List ℕ) (start at : ℕ) (old now : List ℕ) → MembersPrinted all i b start at old now → i < length all → m ≡ get_or all i m
    → at + members_width (member_and (member_tree m) no_members) ≤ start + members_width (members_tree all)
printed_within all i m b start at old now h within e =
    let from : members_width (members_tree (drop i all)) ≡ members_width (member_and (member_tree m) (members_tree (drop (i + 1) all))) = ap members_width (members_from all i m within e) in
    omega (arith, h.width, width_more (member_tree m) (members_tree (drop (i + 1) all)))

pub printed_all : (all : List Member) (i : ℕ) (b : List ℕ) (start at : ℕ) (old now : List ℕ) → MembersPrinted all i b start at old now → length all ≤ i → Puts after_spaces (members_read_onto (members_tree all) (drop start b)) old now
printed_all all i b start at old now h past =
    leaves_none (members_read_onto (members_tree all) (drop start b)) (members_read_onto (members_tree (drop i all)) (drop at b)) old now h.left (λ rest. ap (λ left. members_read_onto (members_tree left) (drop at b) rest) (drop_all i all past))

pub printed_end : (all : List Member) (i : ℕ) (b : List ℕ) (start at : ℕ) (old now : List ℕ) → MembersPrinted all i b start at old now → length all ≤ i → at ≡ start + members_width (members_tree all)
printed_end all i b start at old now h past =
    let w : members_width (members_tree (drop i all)) ≡ 0 = ap (λ left. members_width (members_tree left)) (drop_all i all past) in omega (arith, h.width)

pub ruleset members = (printed_none, printed_more, printed_bounds, printed_within, printed_all, printed_end)
