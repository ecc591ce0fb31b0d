-- What is made by a draw, under one kind.
use Rattle.std.proofs.Common.{◌≡◌, ℕ, suc, ◌+◌, ◌-◌, ◌%◌, ◌^◌, ◌<◌, ◌≤◌, cond, List, ◌++◌, length, map, sym, ◌∙◌, ap, subst, arith}
use Rattle.std.proofs.lemmas.List.{length-map}
use Rattle.std.proofs.lemmas.Nat.{mod_below}
use Rattle.ax_bits.specs.Bits.{word}
use Rattle.ax_format.specs.Plain.{part_tree}
use Rattle.ax_format.specs.Tree.{FixedTree, MembersTree, KindTree, extended, counted, by_fx, explicit}
use Rattle.ax_format.specs.Widths.{counter_width}
use Rattle.ax_format.specs.declared.kind.Counter.{Counter}
use Rattle.ax_format.specs.declared.kind.Counter.TheVariants.{One, Two}
use Rattle.ax_format.specs.declared.kind.LastPart.{LastPart}
use Rattle.ax_format.specs.declared.kind.Part.{Part}
use Rattle.ax_vectors.proofs.FieldOctets.{is_below, is_not_below}
use Rattle.ax_vectors.proofs.Left.{Left, left_whole, left_step, left_none, adds_just, adds_both}
use Rattle.ax_vectors.specs.Draws.{drawn, next_state}
use Rattle.ax_vectors.specs.Made.{parts_made, run_made, octet_made, content_made, counted_made, kind_made}
use Rattle.ax_vectors.specs.Making.{Maker, just, times, by_draw, Adds}

-- by the draw that comes first
drawn_first : (rule : ℕ → Maker) (d : ℕ) (old new : List ℕ) (first mid after : ℕ) → d ≡ drawn first → mid ≡ next_state first → Adds (rule d) old new mid after → Adds (by_draw rule) old new first after
drawn_first rule d old new first mid after is left a = record {
  list = a.list ∙ ap (λ p. old ++ p.0) ((λ k. rule (is k) (left k)));
  left = a.left ∙ ap (λ p. p.1) ((λ k. rule (is k) (left k)));
}

pub extended_adds : (last : LastPart) (parts : List Part) (d count : ℕ) (old new : List ℕ) (first mid after : ℕ) → d ≡ drawn first → mid ≡ next_state first → count ≡ length parts
    → Adds (parts_made last (1 + d % count) (map part_tree parts)) old new mid after → Adds (kind_made 0 (extended last (map part_tree parts))) old new first after
extended_adds last parts d count old new first mid after is left size a =
    let ps : List MembersTree = map part_tree parts in
    drawn_first (λ d. parts_made last (1 + d % length ps) ps) d old new first mid after is left (subst (λ n. Adds (parts_made last (1 + d % n) ps) old new mid after) (size ∙ sym (length-map parts part_tree)) a)

pub by_fx_adds : (f : FixedTree) (d : ℕ) (old new : List ℕ) (first mid after : ℕ) → d ≡ drawn first → mid ≡ next_state first → Adds (run_made (1 + d % 3) f) old new mid after → Adds (kind_made 0 (by_fx f)) old new first after
by_fx_adds f d old new first mid after is left a = drawn_first (λ d. run_made (1 + d % 3) f) d old new first mid after is left a

pub explicit_adds : (d : ℕ) (old mid_list new : List ℕ) (first mid after : ℕ) → d ≡ drawn first → mid ≡ next_state first → mid_list ≡ old ++ word 8 (1 + d % 5) → Adds (times (d % 5) octet_made) mid_list new mid after
    → Adds (kind_made 0 explicit) old new first after
explicit_adds d old mid_list new first mid after is left e a =
    drawn_first (λ d. content_made (d % 5)) d old new first mid after is left
    (adds_both (just (word 8 (1 + d % 5))) (times (d % 5) octet_made) old mid_list new mid mid after (adds_just (word 8 (1 + d % 5)) old mid_list mid e) a)

pub octet_adds : (d : ℕ) (old new : List ℕ) (first after : ℕ) → d ≡ drawn first → after ≡ next_state first → new ≡ old ++ word 8 (d % 256) → Adds octet_made old new first after
octet_adds d old new first after is left e = drawn_first (λ d. just (word 8 (d % 256))) d old new first after after is left (adds_just (word 8 (d % 256)) old new after e)

-- ---- one maker, so many times

pub each_begun : (one : Maker) (count : ℕ) (old : List ℕ) (first : ℕ) → Left (times count one) (times count one) old old first first
each_begun one count old first = left_whole (times count one) old first

pub each_next : (one : Maker) (count now : ℕ) (old mid new : List ℕ) (first state after : ℕ) → Left (times count one) (times now one) old mid first state → 0 < now → Adds one mid new state after → Left (times count one) (times (now - 1) one) old new first after
each_next one count now old mid new first state after h some a =
    let more : now ≡ suc (now - 1) = omega arith in
    left_step (times count one) one (times (now - 1) one) old mid new first state after (subst (λ n. Left (times count one) (times n one) old mid first state) more h) a

pub each_over : (one : Maker) (count now : ℕ) (old new : List ℕ) (first state : ℕ) → Left (times count one) (times now one) old new first state → now ≤ 0 → Adds (times count one) old new first state
each_over one count now old new first state h none =
    let zero_left : now ≡ 0 = omega arith in
    left_none (times count one) old new first state (subst (λ n. Left (times count one) (times n one) old new first state) zero_left h)

pub ruleset each = (each_begun, each_next, each_over)

-- ---- counted kinds

pub few_fit : (size : Counter) (n : ℕ) → n < 256 → n < 2 ^ counter_width size
few_fit One n h = h
few_fit Two n h = let le : n < 65536 = omega arith in le

pub no_count_fits : (size : Counter) → 0 < 2 ^ counter_width size
no_count_fits size = few_fit size 0 (omega arith)

pub drawn_count_fits : (size : Counter) (d : ℕ) → d % 3 < 2 ^ counter_width size
drawn_count_fits size d = let low : d % 3 < 3 = mod_below d 3 (omega arith) in few_fit size (d % 3) (omega arith)

pub counted_some : (size : Counter) (k : KindTree) (around d : ℕ) (old mid_list new : List ℕ) (first mid after : ℕ) → around < 2 → d ≡ drawn first → mid ≡ next_state first → mid_list ≡ old ++ word (counter_width size) (d % 3)
    → Adds (times (d % 3) (kind_made (around + 1) k)) mid_list new mid after → Adds (kind_made around (counted size k)) old new first after
counted_some size k around d old mid_list new first mid after few is left e a =
    let w = counter_width size in
    let some : Maker = by_draw (λ d. counted_made size (d % 3) (kind_made (around + 1) k)) in
    subst (λ b. Adds (cond b some (just (word w 0))) old new first after) (sym (is_below around 2 few))
    (drawn_first (λ d. counted_made size (d % 3) (kind_made (around + 1) k)) d old new first mid after is left
    (adds_both (just (word w (d % 3))) (times (d % 3) (kind_made (around + 1) k)) old mid_list new mid mid after (adds_just (word w (d % 3)) old mid_list mid e) a))

pub counted_none : (size : Counter) (k : KindTree) (around : ℕ) (old new : List ℕ) (first : ℕ) → 2 ≤ around → new ≡ old ++ word (counter_width size) 0 → Adds (kind_made around (counted size k)) old new first first
counted_none size k around old new first many e =
    let w = counter_width size in
    let some : Maker = by_draw (λ d. counted_made size (d % 3) (kind_made (around + 1) k)) in
    subst (λ b. Adds (cond b some (just (word w 0))) old new first first) (sym (is_not_below around 2 many)) (adds_just (word w 0) old new first e)

pub ruleset counted_adds = (no_count_fits, drawn_count_fits, counted_some, counted_none)
