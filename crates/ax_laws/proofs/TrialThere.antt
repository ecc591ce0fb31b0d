-- A specification without flaw, a seed and a count have a line.
use Rattle.std.proofs.Common.{◌≡◌, ℕ, zero, suc, ◌+◌, ◌*◌, ◌<◌, ◌≤◌, cond, List, [], ◌∷◌, ◌++◌, length, sum, drop, Some, None, refl, ap, arith, length-drop}
use Rattle.std.proofs.lemmas.Bool.{eq-eqb}
use Rattle.std.proofs.lemmas.List.Sums.{sum_by-append}
use Rattle.ax_format.specs.Blocks.{BlockTree, read_block, SpellsStream}
use Rattle.ax_format.specs.CanonicalOctets.{CanonBytes, canon_block, canon_over}
use Rattle.ax_format.specs.Flaws.{NoFlaw}
use Rattle.ax_format.specs.Specification.{SpecTree, spec_of}
use Rattle.ax_trial.proofs.Forms.{block_octets_few, body_spelled}
use Rattle.ax_trial.specs.Trial.{IsTrial, trial_line}
use Rattle.ax_vectors.proofs.RecordDraws.{made_spelled}
use Rattle.ax_vectors.specs.Made.{block_made, Made, IsSpelledBlock}
use Rattle.ax_vectors.specs.Making.{times}
use Rattle.ax_laws.proofs.CanonSums.{framed_sum}

known : (spec : SpecTree) → spec_of spec.category (spec ∷ []) ≡ Some spec
known spec = ap (λ b. cond b (Some spec) None) (eq-eqb spec.category spec.category refl)

-- blocks made from a state, and the sum of their canonical octets
record MadeFrom (spec : SpecTree) (count state : ℕ) : Type 0 where
  blocks : List BlockTree
  spelled : SpellsStream (spec ∷ []) blocks (times count (block_made spec) state).0
  counted : length blocks ≡ count
  small : sum (CanonBytes (spec ∷ []) blocks) ≤ 16711425 * count

module _ (spec : SpecTree) (clean : NoFlaw spec) (low : spec.category < 256) where
  block_small : (octets : List ℕ) (h : IsSpelledBlock spec octets) → sum (canon_over (spec_of spec.category (spec ∷ [])) (read_block spec.category h.records)) ≤ 16711425
  block_small octets h =
      let few = block_octets_few spec octets h in
      let small = framed_sum spec clean h.records (drop 3 octets) (body_spelled spec octets h) spec.category low in
      let size = length-drop 3 octets in
      let same : canon_over (spec_of spec.category (spec ∷ [])) (read_block spec.category h.records) ≡ canon_block spec (read_block spec.category h.records) = ap (λ o. canon_over o (read_block spec.category h.records)) (known spec) in
      let total = ap sum same in
      omega (arith, few, small, size, total)

  made_from : (count state : ℕ) → MadeFrom spec count state
  made_from zero state = record { blocks = []; spelled = refl; counted = refl; small = omega arith }
  made_from (suc count) state =
      let first = (block_made spec state).0 in
      let one = made_spelled spec state clean in
      let more = made_from count (block_made spec state).1 in
      let own = canon_over (spec_of spec.category (spec ∷ [])) (read_block spec.category one.records) in
      let total : sum (own ++ CanonBytes (spec ∷ []) more.blocks) ≡ sum own + sum (CanonBytes (spec ∷ []) more.blocks) = sum_by-append (λ x. x) own (CanonBytes (spec ∷ []) more.blocks) in
      record {
        blocks = read_block spec.category one.records ∷ more.blocks;
        spelled = (first, (times count (block_made spec) (block_made spec state).1).0, refl, one.spelled, more.spelled);
        counted = ap suc more.counted;
        small = omega (arith, total, block_small first one, more.small);
      }

  pub trial_there : (seed count : ℕ) → count ≤ 1000000 → (line : List ℕ) × IsTrial spec seed count line
  trial_there seed count few =
      let m = made_from count seed in
      (trial_line spec m.blocks (Made spec seed count), record { blocks = m.blocks; spelled = m.spelled; is = refl; counted = m.counted; fits = omega (arith, m.small, few) })
