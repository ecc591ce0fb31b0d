-- The numbers of blocks, one by one.
use Rattle.std.proofs.Common.{◌≡◌, ℕ, suc, ◌+◌, ◌-◌, ◌<◌, ◌≤◌, List, [], ◌∷◌, ◌++◌, length, sum, sum_by, refl, sym, ◌∙◌, ap, subst, arith, append-nil, append_assoc, length-append}
use Rattle.std.proofs.lemmas.List.Concat.{flat_map-append}
use Rattle.std.proofs.lemmas.List.Sums.{sum_by-append}
use Rattle.ax_format.specs.Blocks.{BlockTree, SpellsBlock, SpellsStream}
use Rattle.ax_format.specs.CanonicalOctets.{CanonBytes, canon_over, category_of}
use Rattle.ax_format.specs.Specification.{SpecTree, spec_of}
use Rattle.ax_trial.specs.Counting.{IsCanonOf, AddsNumbers, AreNumbersOf, AreTotals}
use Rattle.ax_trial.specs.Trial.{record_count, numbers_line, IsTrial}
use Rattle.ax_trial.specs.declared.totals.Totals.{Totals}
use Rattle.ax_vectors.proofs.Left.{Left, left_whole, left_step, left_none}
use Rattle.ax_vectors.specs.Made.{block_made}
use Rattle.ax_vectors.specs.Making.{both, times, Adds}

-- a stream and one block more
stream_more : (catalogue : List SpecTree) (blocks : List BlockTree) (block : BlockTree) (octets more : List ℕ) → SpellsStream catalogue blocks octets → SpellsBlock catalogue block more → SpellsStream catalogue (blocks ++ block ∷ []) (octets ++ more)
stream_more catalogue [] block octets more h one = (more, [], ap (λ x. x ++ more) h ∙ sym (append-nil more), one, refl)
stream_more catalogue (b ∷ blocks) block octets more (front, rest, e, first, h) one =
    (front, rest ++ more, ap (λ x. x ++ more) e ∙ append_assoc front rest more, first, stream_more catalogue blocks block rest more h one)

-- what was counted, and what is still to be made
pub record SoFar (spec : SpecTree) (seed count left : ℕ) (t : Totals) (state : ℕ) : Type 0 where
  pub made : List ℕ
  pub blocks : List BlockTree
  pub rest : Left (times count (block_made spec)) (times left (block_made spec)) [] made seed state
  pub spelled : SpellsStream (spec ∷ []) blocks made
  pub numbers : AreNumbersOf spec blocks made t
  pub counted : length blocks + left ≡ count

pub none_yet : (spec : SpecTree) (seed count : ℕ) (t : Totals) → t ≡ record { blocks = 0; records = 0; octets = 0; canonical = 0; sum = 0 } → SoFar spec seed count count t seed
none_yet spec seed count t e = subst (λ t. SoFar spec seed count count t seed) (sym e) (record {
  made = [];
  blocks = [];
  rest = left_whole (times count (block_made spec)) [] seed;
  spelled = refl;
  numbers = record {
    blocks_are = refl;
    records_are = refl;
    octets_are = refl;
    canonical_are = refl;
    sum_is = refl;
    within = record { records = omega arith; octets = omega arith; canonical = omega arith; sum = omega arith };
  };
  counted = omega arith;
})

pub few_yet : (spec : SpecTree) (seed count left : ℕ) (t : Totals) (state : ℕ) → SoFar spec seed count left t state → 0 < left → count ≤ 1000000 → t.blocks < 1000000
few_yet spec seed count left t state h some few = omega (arith, h.counted, h.numbers.blocks_are)

pub one_more : (spec : SpecTree) (seed count left : ℕ) (old new : Totals) (octets canonical : List ℕ) (records state after : ℕ) → SoFar spec seed count left old state → 0 < left → Adds (block_made spec) [] octets state after
    → IsCanonOf spec octets records canonical → AddsNumbers old new records octets canonical → SoFar spec seed count (left - 1) new after
one_more spec seed count left old new octets canonical records state after h some a form n =
    let more : left ≡ suc (left - 1) = omega arith in
    let one = block_made spec in
    let here : Left (times count one) (both one (times (left - 1) one)) [] h.made seed state = subst (λ n. Left (times count one) (times n one) [] h.made seed state) more h.rest in
    let joined : CanonBytes (spec ∷ []) (h.blocks ++ form.block ∷ []) ≡ CanonBytes (spec ∷ []) h.blocks ++ canonical =
    flat_map-append (λ block. canon_over (spec_of (category_of block) (spec ∷ [])) block) h.blocks (form.block ∷ []) ∙ ap (λ x. CanonBytes (spec ∷ []) h.blocks ++ x) (sym form.canonical_is) in
    let records_in : sum_by record_count (h.blocks ++ form.block ∷ []) ≡ sum_by record_count h.blocks + (0 + record_count form.block) = sum_by-append record_count h.blocks (form.block ∷ []) in
    let sum_in : sum (CanonBytes (spec ∷ []) h.blocks ++ canonical) ≡ sum (CanonBytes (spec ∷ []) h.blocks) + sum canonical = sum_by-append (λ x. x) (CanonBytes (spec ∷ []) h.blocks) canonical in
    record {
      made = h.made ++ octets;
      blocks = h.blocks ++ form.block ∷ [];
      rest = left_step (times count one) one (times (left - 1) one) [] h.made (h.made ++ octets) seed state after here (record { list = ap (λ x. h.made ++ x) a.list; left = a.left });
      spelled = stream_more (spec ∷ []) h.blocks form.block h.made octets h.spelled form.spelled;
      numbers = record {
        blocks_are = omega (arith, n.blocks, h.numbers.blocks_are, length-append h.blocks (form.block ∷ []));
        records_are = omega (arith, n.records_are, h.numbers.records_are, records_in, form.records_are);
        octets_are = n.octets_are ∙ omega (arith, h.numbers.octets_are, length-append h.made octets);
        canonical_are = n.canonical_are ∙ omega (arith, h.numbers.canonical_are, ap length joined, length-append (CanonBytes (spec ∷ []) h.blocks) canonical);
        sum_is = omega (arith, n.sum_is, h.numbers.sum_is, ap sum joined, sum_in);
        within = n.within;
      };
      counted = omega (arith, h.counted, length-append h.blocks (form.block ∷ []));
    }

pub all_made : (spec : SpecTree) (seed count left : ℕ) (t : Totals) (state : ℕ) → SoFar spec seed count left t state → left ≤ 0 → AreTotals spec seed count t
all_made spec seed count left t state h none =
    let zero_left : left ≡ 0 = omega arith in
    let over = left_none (times count (block_made spec)) [] h.made seed state (subst (λ n. Left (times count (block_made spec)) (times n (block_made spec)) [] h.made seed state) zero_left h.rest) in
    record {
      blocks = h.blocks;
      spelled = subst (SpellsStream (spec ∷ []) h.blocks) over.list h.spelled;
      numbers = subst (λ m. AreNumbersOf spec h.blocks m t) over.list h.numbers;
      counted = omega (arith, h.counted);
    }

pub ruleset steps = (none_yet, few_yet, all_made)

pub line_is : (spec : SpecTree) (seed count : ℕ) (t : Totals) (line : List ℕ) → AreTotals spec seed count t → count ≤ 1000000 → line ≡ numbers_line t.blocks t.records t.octets t.canonical t.sum → IsTrial spec seed count line
line_is spec seed count t line h few e = record {
  blocks = h.blocks;
  spelled = h.spelled;
  is = e ∙ (λ k. numbers_line (h.numbers.blocks_are k) (h.numbers.records_are k) (h.numbers.octets_are k) (h.numbers.canonical_are k) (h.numbers.sum_is k));
  counted = h.counted;
  fits = omega (arith, sym h.numbers.sum_is, h.numbers.within.sum, h.numbers.blocks_are, h.counted);
}

pub ruleset trials = (line_is)
