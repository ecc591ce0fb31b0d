-- What is left of a making, in a loop.
use Rattle.std.proofs.Common.{◌≡◌, ℕ, zero, suc, ◌+◌, ◌-◌, ◌*◌, ◌%◌, ◌^◌, ◌<◌, ◌≤◌, List, [], ◌∷◌, ◌++◌, length, drop, map, get_or, refl, sym, ◌∙◌, ap, subst, arith, add-one, append_assoc, append-nil, drop-cons, lit<}
use Rattle.std.proofs.lemmas.List.{drop_all, length-map}
use Rattle.std.proofs.lemmas.Nat.{mul-add-lt, pow-add, pow_pos}
use Rattle.std.proofs.Math.Nat.{pow-le-pow_right}
use Rattle.ax_bits.specs.Bits.{word}
use Rattle.ax_format.specs.InBounds.{MembersInBounds, PartsInBounds}
use Rattle.ax_format.specs.Plain.{member_tree, members_tree, part_tree}
use Rattle.ax_format.specs.Tree.{FixedTree, MemberTree, named, spare, MembersTree, member_and, no_members}
use Rattle.ax_format.proofs.Completions.{fx_few}
use Rattle.ax_format.specs.Widths.{fx_width}
use Rattle.ax_format.specs.declared.kind.LastPart.{LastPart}
use Rattle.ax_format.specs.declared.kind.Member.{Member}
use Rattle.ax_format.specs.declared.kind.Part.{Part}
use Rattle.ax_vectors.specs.Made.{members_made, fixed_made, joined, draws_needed, number_made, fx_before, parts_made, run_made}
use Rattle.ax_vectors.specs.Draws.{drawn, next_state}
use Rattle.ax_vectors.specs.Making.{Maker, just, both, Adds}

-- of the whole, what is there and what the rest still makes
pub record Left (whole rest : Maker) (old now : List ℕ) (first state : ℕ) : Type 0 where
  pub list : old ++ (whole first).0 ≡ now ++ (rest state).0
  pub left : (whole first).1 ≡ (rest state).1

pub left_whole : (whole : Maker) (old : List ℕ) (first : ℕ) → Left whole whole old old first first
left_whole whole old first = record { list = refl; left = refl }

pub left_step : (whole one rest : Maker) (old now new : List ℕ) (first state after : ℕ) → Left whole (both one rest) old now first state → Adds one now new state after → Left whole rest old new first after
left_step whole one rest old now new first state after h a = record {
  list = h.list ∙ ap (λ s. now ++ ((one state).0 ++ (rest s).0)) (sym a.left) ∙ sym (append_assoc now (one state).0 (rest after).0) ∙ ap (λ x. x ++ (rest after).0) (sym a.list);
  left = h.left ∙ ap (λ s. (rest s).1) (sym a.left);
}

pub left_none : (whole : Maker) (old now : List ℕ) (first state : ℕ) → Left whole (just []) old now first state → Adds whole old now first state
left_none whole old now first state h = record { list = sym (h.list ∙ append-nil now); left = sym h.left }

pub adds_just : (b : List ℕ) (old new : List ℕ) (state : ℕ) → new ≡ old ++ b → Adds (just b) old new state state
adds_just b old new state e = record { list = e; left = refl }

pub adds_both : (one two : Maker) (old mid new : List ℕ) (first state after : ℕ) → Adds one old mid first state → Adds two mid new state after → Adds (both one two) old new first after
adds_both one two old mid new first state after a b = record {
  list = b.list ∙ ap (λ x. x ++ (two state).0) a.list ∙ append_assoc old (one first).0 (two state).0 ∙ ap (λ s. old ++ ((one first).0 ++ (two s).0)) a.left;
  left = b.left ∙ ap (λ s. (two s).1) a.left;
}

from_place : {A : Type 0} (xs : List A) (i : ℕ) (x : A) → i < length xs → x ≡ get_or xs i x → drop i xs ≡ x ∷ drop (i + 1) xs
from_place xs i x lt e = drop-cons xs i x lt ∙ (λ k. sym e k ∷ drop (sym (add-one i) k) xs)

-- ---- numbers

-- the draws that are left of a number
pub record JoinedLeft (count now number first state : ℕ) : Type 0 where
  pub rest : joined count 0 first ≡ joined now number state
  pub below : number < 2 ^ (32 * (count - now))
  pub within : now ≤ count

pub joined_first : (count first : ℕ) → JoinedLeft count count 0 first first
joined_first count first = record { rest = refl; below = pow_pos (32 * (count - count)); within = omega arith }

-- one draw more, in how many bits it is
pub joined_below : (count now number first state d : ℕ) → JoinedLeft count now number first state → d < 4294967296 → number * 4294967296 + d < 2 ^ (32 * (count - now) + 32)
joined_below count now number first state d h low = omega (arith, pow-add 2 (32 * (count - now)) 32, mul-add-lt number (2 ^ 32) d (2 ^ (32 * (count - now))) h.below low)

pub joined_fits : (count now number first state d : ℕ) → JoinedLeft count now number first state → d < 4294967296 → 0 < now → count ≤ 4 → number * 4294967296 + d < 2 ^ 128
joined_fits count now number first state d h low some few =
    let bits : 32 * (count - now) + 32 ≤ 128 = omega (arith, h.within) in
    let wide : 2 ^ (32 * (count - now) + 32) ≤ 2 ^ 128 = pow-le-pow_right (lit< tt) bits in
    omega (arith, joined_below count now number first state d h low)

pub joined_next : (count now number first state d after : ℕ) → JoinedLeft count now number first state → d < 4294967296 → 0 < now → d ≡ drawn state → after ≡ next_state state → JoinedLeft count (now - 1) (number * 4294967296 + d) first after
joined_next count now number first state d after h low some is left =
    let e : now ≡ suc (now - 1) = omega arith in
    let wide : 32 * (count - now) + 32 ≡ 32 * (count - (now - 1)) = omega (arith, h.within) in
    record {
      rest = h.rest ∙ ap (λ n. joined n number state) e ∙ ap (λ d. joined (now - 1) (number * 4294967296 + d) (next_state state)) (sym is) ∙ ap (λ s. joined (now - 1) (number * 4294967296 + d) s) (sym left);
      below = subst (λ k. number * 4294967296 + d < 2 ^ k) wide (joined_below count now number first state d h low);
      within = omega (arith, h.within);
    }

pub joined_over : (count now number first state : ℕ) → JoinedLeft count now number first state → now ≤ 0 → joined count 0 first ≡ (number, state)
joined_over count now number first state h none = let e : now ≡ 0 = omega arith in h.rest ∙ ap (λ n. joined n number state) e

pub number_over : (count now number first state : ℕ) → JoinedLeft count now number first state → now ≤ 0 → number ≡ (joined count 0 first).0
number_over count now number first state h none = sym (ap (λ p. p.0) (joined_over count now number first state h none))

pub state_over : (count now number first state : ℕ) → JoinedLeft count now number first state → now ≤ 0 → state ≡ (joined count 0 first).1
state_over count now number first state h none = sym (ap (λ p. p.1) (joined_over count now number first state h none))

pub ruleset numbers = (joined_first, joined_fits, joined_next, number_over, state_over)

pub number_adds : (w number : ℕ) (old new : List ℕ) (first state : ℕ) → number ≡ (joined (draws_needed w) 0 first).0 → state ≡ (joined (draws_needed w) 0 first).1 → new ≡ old ++ word w (number % 2 ^ w) → Adds (number_made w) old new first state
number_adds w number old new first state is left e = record { list = e ∙ ap (λ n. old ++ word w (n % 2 ^ w)) is; left = left }

-- ---- members

pub record MembersLeft (all : List Member) (i : ℕ) (old now : List ℕ) (first state : ℕ) : Type 0 where
  pub bounds : MembersInBounds (members_tree (drop i all))
  pub left : Left (members_made (members_tree all)) (members_made (members_tree (drop i all))) old now first state

first_bounds : (m : MemberTree) (ms : MembersTree) → MembersInBounds (member_and m ms) → MembersInBounds (member_and m no_members) × MembersInBounds ms
first_bounds (named name f) ms h = ((h.0, tt), h.1)
first_bounds (spare w) ms h = ((h.0, tt), h.1)

pub members_first : (all : List Member) (old : List ℕ) (first : ℕ) → MembersInBounds (members_tree all) → MembersLeft all 0 old old first first
members_first all old first b = record { bounds = b; left = left_whole (members_made (members_tree all)) old first }

pub members_bounds : (all : List Member) (i : ℕ) (m : Member) (old now : List ℕ) (first state : ℕ) → MembersLeft all i old now first state → i < length all → m ≡ get_or all i m → MembersInBounds (member_and (member_tree m) no_members)
members_bounds all i m old now first state h lt e = (first_bounds (member_tree m) (members_tree (drop (i + 1) all)) (subst (λ ms. MembersInBounds (members_tree ms)) (from_place all i m lt e) h.bounds)).0

pub members_ended : (all : List Member) (i : ℕ) (old now : List ℕ) (first state : ℕ) → MembersLeft all i old now first state → length all ≤ i → Adds (members_made (members_tree all)) old now first state
members_ended all i old now first state h past = left_none (members_made (members_tree all)) old now first state
    (subst (λ ms. Left (members_made (members_tree all)) (members_made (members_tree ms)) old now first state) (drop_all i all past) h.left)

pub ruleset members = (members_first, members_bounds, members_ended)

-- ---- units, and the FX bits after them

pub fx_more : (fx left : ℕ) (old new : List ℕ) → 0 < left → new ≡ old ++ word 1 1 → new ≡ old ++ fx_before fx left
fx_more fx zero old new some e = absurd (omega arith)
fx_more fx (suc left) old new some e = e

pub fx_none : (fx left : ℕ) (old : List ℕ) → left ≤ 0 → fx ≡ 0 → old ≡ old ++ fx_before fx left
fx_none fx zero old none e = sym (ap (λ n. old ++ word n 0) e ∙ append-nil old)
fx_none fx (suc left) old none e = absurd (omega arith)

pub fx_last : (fx left : ℕ) (old new : List ℕ) → left ≤ 0 → fx ≤ 1 → (fx ≡ 0 → ⊥) → new ≡ old ++ word 1 0 → new ≡ old ++ fx_before fx left
fx_last zero left old new none few some e = absurd (some refl)
fx_last (suc zero) zero old new none few some e = e
fx_last (suc zero) (suc left) old new none few some e = absurd (omega arith)
fx_last (suc (suc fx)) left old new none few some e = absurd (omega arith)

pub ruleset unit_ends = (fx_more, fx_none, fx_last)

-- what is left of n units, where one was made with what ends it
unit_step : (whole one rest : Maker) (end : List ℕ) (old now mid new : List ℕ) (first state after : ℕ) → Left whole (both one (both (just end) rest)) old now first state
    → Adds one now mid state after → new ≡ mid ++ end → Left whole rest old new first after
unit_step whole one rest end old now mid new first state after h a e =
    left_step whole (just end) rest old mid new first after after (left_step whole one (both (just end) rest) old now mid first state after h a) (adds_just end mid new after e)

pub record PartsLeft (last : LastPart) (all rest : List Part) (n count : ℕ) (old now : List ℕ) (first state : ℕ) : Type 0 where
  pub bounds : PartsInBounds last (map part_tree rest)
  pub left : Left (parts_made last count (map part_tree all)) (parts_made last n (map part_tree rest)) old now first state

pub parts_first : (last : LastPart) (all rest : List Part) (count : ℕ) (old : List ℕ) (first : ℕ) → rest ≡ all → PartsInBounds last (map part_tree all) → PartsLeft last all rest count count old old first first
parts_first last all rest count old first e b =
    subst (λ ps. PartsLeft last all ps count count old old first first) (sym e) (record { bounds = b; left = left_whole (parts_made last count (map part_tree all)) old first })

parts_here : (last : LastPart) (all rest later : List Part) (n count : ℕ) (p : Part) (old now : List ℕ) (first state : ℕ) → PartsLeft last all rest n count old now first state → rest ≡ p ∷ later → PartsLeft last all (p ∷ later) n count old now first state
parts_here last all rest later n count p old now first state h e = subst (λ ps. PartsLeft last all ps n count old now first state) e h

pub parts_bounds : (last : LastPart) (all rest later : List Part) (n count : ℕ) (p : Part) (old now : List ℕ) (first state : ℕ) → PartsLeft last all rest n count old now first state → rest ≡ p ∷ later → MembersInBounds (part_tree p)
parts_bounds last all rest later n count p old now first state h e = (parts_here last all rest later n count p old now first state h e).bounds.0.2

pub part_fx : (last : LastPart) (fx n : ℕ) → fx ≡ fx_width last n → fx ≤ 1
part_fx last fx n e = omega (arith, fx_few last n)

pub parts_next : (last : LastPart) (all rest later : List Part) (n less count fx : ℕ) (p : Part) (old now mid new : List ℕ) (first state after : ℕ) → PartsLeft last all rest n count old now first state → rest ≡ p ∷ later
    → n ≡ suc less → fx ≡ fx_width last (length later) → Adds (members_made (part_tree p)) now mid state after → new ≡ mid ++ fx_before fx less → PartsLeft last all later less count old new first after
parts_next last all rest later n less count fx p old now mid new first state after h e more is a ends =
    let here = parts_here last all rest later n count p old now first state h e in
    let w = fx_width last (length (map part_tree later)) in
    let width : fx ≡ w = is ∙ ap (λ n. fx_width last n) (sym (length-map later part_tree)) in
    record {
      bounds = here.bounds.1;
      left = unit_step (parts_made last count (map part_tree all)) (members_made (part_tree p)) (parts_made last less (map part_tree later)) (fx_before w less) old now mid new first state after
          (subst (λ n. Left (parts_made last count (map part_tree all)) (parts_made last n (map part_tree (p ∷ later))) old now first state) more here.left) a (ends ∙ ap (λ fx. mid ++ fx_before fx less) width);
    }

pub parts_over : (last : LastPart) (all rest : List Part) (n count : ℕ) (old now : List ℕ) (first state : ℕ) → PartsLeft last all rest n count old now first state → n ≡ 0 → Adds (parts_made last count (map part_tree all)) old now first state
parts_over last all rest n count old now first state h none = left_none (parts_made last count (map part_tree all)) old now first state
    (subst (λ n. Left (parts_made last count (map part_tree all)) (parts_made last n (map part_tree rest)) old now first state) none h.left)

no_parts : (last : LastPart) (n : ℕ) → parts_made last n [] ≡ just []
no_parts last zero = refl
no_parts last (suc n) = refl

pub parts_ended : (last : LastPart) (all rest : List Part) (n count : ℕ) (old now : List ℕ) (first state : ℕ) → PartsLeft last all rest n count old now first state → length rest ≡ 0 → Adds (parts_made last count (map part_tree all)) old now first state
parts_ended last all [] n count old now first state h none = left_none (parts_made last count (map part_tree all)) old now first state
    (subst (λ left. Left (parts_made last count (map part_tree all)) left old now first state) (no_parts last n) h.left)
parts_ended last all (p ∷ rest) n count old now first state h none = absurd (omega (arith, none))

pub ruleset parts = (parts_first, parts_bounds, part_fx, parts_over, parts_ended)

pub run_next : (f : FixedTree) (n less count : ℕ) (old now mid new : List ℕ) (first state after : ℕ) → Left (run_made count f) (run_made n f) old now first state → n ≡ suc less
    → Adds (fixed_made f) now mid state after → new ≡ mid ++ fx_before 1 less → Left (run_made count f) (run_made less f) old new first after
run_next f n less count old now mid new first state after h more a fx =
    unit_step (run_made count f) (fixed_made f) (run_made less f) (fx_before 1 less) old now mid new first state after (subst (λ n. Left (run_made count f) (run_made n f) old now first state) more h) a fx

pub run_over : (f : FixedTree) (n count : ℕ) (old now : List ℕ) (first state : ℕ) → Left (run_made count f) (run_made n f) old now first state → n ≤ 0 → Adds (run_made count f) old now first state
run_over f n count old now first state h none =
    let zero_left : n ≡ 0 = omega arith in
    left_none (run_made count f) old now first state (subst (λ n. Left (run_made count f) (run_made n f) old now first state) zero_left h)

pub run_begun : (f : FixedTree) (count : ℕ) (old : List ℕ) (first : ℕ) → Left (run_made count f) (run_made count f) old old first first
run_begun f count old first = left_whole (run_made count f) old first

pub ruleset run = (run_begun, run_over)
