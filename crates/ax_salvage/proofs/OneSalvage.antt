-- A block has one verdict, and an input one salvage.
use Rattle.std.proofs.Common.{◌≡◌, ℕ, ◌+◌, ◌==◌, List, [], ◌∷◌, ◌++◌, Bool, true, false, cond, ◌&&◌, not, length, map, refl, sym, ◌∙◌, ap, subst, arith}
use Rattle.std.specs.List.{AllByRecursion}
use Rattle.std.proofs.lemmas.List.Sums.{sum_by-cons}
use Rattle.ax_bits.specs.Bits.{AreOctets}
use Rattle.ax_format.proofs.EndsOnce.{raw_no_fault, one_fault}
use Rattle.ax_format.proofs.FramedOnce.{framed_once, some_framed}
use Rattle.ax_format.proofs.StreamsApart.{found_in}
use Rattle.ax_format.specs.Flaws.{NoFlaw}
use Rattle.ax_format.specs.Framing.{RawTree, Framed}
use Rattle.ax_format.specs.Specification.{SpecTree}
use Rattle.ax_salvage.proofs.Blocks.{all_judged, raws_of_judged}
use Rattle.ax_salvage.specs.Salvaged.{HasOneSalvage, Salvaged, WrittenOrReported, is_written, is_reported, all_saved, last_lines, refused_lines, salvage_end}
use Rattle.ax_salvage.specs.Tallying as Tallying
use Rattle.ax_salvage.specs.Tallying.{blocks_of, is_sound, refused_of, written_of}
use Rattle.ax_salvage.specs.Verdicts.{IsJudged, IsVerdict, Judged, Verdict, faulty, judge_all, sound}
use Rattle.ax_salvage.specs.declared.salvaging.SalvageEnd.{SalvageEnd}

pub one_verdict : (catalogue : List SpecTree) (raw : RawTree) (v w : Verdict) → IsVerdict catalogue raw v → IsVerdict catalogue raw w → v ≡ w
one_verdict catalogue raw sound sound h g = refl
one_verdict catalogue raw sound (faulty q d) (block, h) g = absurd (raw_no_fault catalogue raw block q d h g)
one_verdict catalogue raw (faulty p c) sound h (block, g) = absurd (raw_no_fault catalogue raw block p c g h)
one_verdict catalogue raw (faulty p c) (faulty q d) h g = let t = one_fault catalogue raw p q c d h g in λ i. faulty (t.0 i) (t.1 i)

same_blocks : (catalogue : List SpecTree) (blocks others : List Judged) → map (λ one. one.raw) blocks ≡ map (λ one. one.raw) others → AllByRecursion (IsJudged catalogue) blocks → AllByRecursion (IsJudged catalogue) others → blocks ≡ others
same_blocks catalogue [] [] e h g = refl
same_blocks catalogue [] (other ∷ others) e h g = absurd (cc)
same_blocks catalogue (one ∷ blocks) [] e h g = absurd (cc)
same_blocks catalogue (one ∷ blocks) (other ∷ others) e h g =
    let f : one.raw ∷ map (λ one. one.raw) blocks ≡ other.raw ∷ map (λ one. one.raw) others = e in
    let raw : one.raw ≡ other.raw = cc in
    let raws : map (λ one. one.raw) blocks ≡ map (λ one. one.raw) others = cc in
    let v : one.verdict ≡ other.verdict = one_verdict catalogue other.raw one.verdict other.verdict (subst (λ r. IsVerdict catalogue r one.verdict) raw h.0) g.0 in
    let more : blocks ≡ others = same_blocks catalogue blocks others raws h.1 g.1 in
    λ i. record { raw = raw i; verdict = v i } ∷ more i

pub salvaged_once : (catalogue : List SpecTree) (octets : List ℕ) (limit : ℕ) (end other : SalvageEnd) (out others report lines : List ℕ) → Salvaged catalogue octets limit end out report → Salvaged catalogue octets limit other others lines
    → (end ≡ other) × (out ≡ others) × (report ≡ lines)
salvaged_once catalogue octets limit end other out others report lines h g =
    let t = framed_once octets limit (map (λ one. one.raw) h.blocks) (map (λ one. one.raw) g.blocks) h.framing g.framing h.framed g.framed in
    let b : h.blocks ≡ g.blocks = same_blocks catalogue h.blocks g.blocks t.0 h.judged g.judged in (
      h.end_is ∙ (λ i. salvage_end (length (b i)) (t.1 i)) ∙ sym g.end_is,
      h.out_is ∙ ap all_saved b ∙ sym g.out_is,
      h.report_is ∙ (λ i. refused_lines 0 (b i) ++ last_lines (t.1 i) (b i)) ∙ sym g.report_is,
    )

some_salvaged : (catalogue : List SpecTree) (octets : List ℕ) (limit : ℕ) → AreOctets octets → AllByRecursion NoFlaw catalogue → (end : SalvageEnd) × (out : List ℕ) × (report : List ℕ) × Salvaged catalogue octets limit end out report
some_salvaged catalogue octets limit are clean =
    let t = some_framed octets limit are in
    let blocks : List Judged = judge_all catalogue t.0 in (
      salvage_end (length blocks) t.1,
      all_saved blocks,
      refused_lines 0 blocks ++ last_lines t.1 blocks,
      record {
        blocks = blocks;
        framing = t.1;
        framed = subst (λ raws. Framed octets limit raws t.1) (sym (raws_of_judged catalogue t.0)) t.2;
        judged = all_judged catalogue (λ category spec known. (found_in category catalogue spec clean known).0) t.0 t.2.front t.2.blocks;
        out_is = refl;
        report_is = refl;
        end_is = refl;
      },
    )

pub one_salvage : (catalogue : List SpecTree) (octets : List ℕ) (limit : ℕ) → AreOctets octets → AllByRecursion NoFlaw catalogue → HasOneSalvage catalogue octets limit
one_salvage catalogue octets limit are clean = record {
  some = some_salvaged catalogue octets limit are clean;
  one = λ end other out others report lines h g. salvaged_once catalogue octets limit end other out others report lines h g;
}

of_verdict : (number : ℕ) (raw : RawTree) (v : Verdict) → WrittenOrReported number (record { raw = raw; verdict = v })
of_verdict number raw sound = is_written refl refl
of_verdict number raw (faulty p c) = is_reported p c refl refl

pub written_or_reported : (number : ℕ) (one : Judged) → WrittenOrReported number one
written_or_reported number one = of_verdict number one.raw one.verdict

-- ---- counts

one_counted : (there good : Bool) → cond (there && good) 1 0 + cond (there && not good) 1 0 ≡ cond there 1 0
one_counted true true = refl
one_counted true false = refl
one_counted false true = refl
one_counted false false = refl

pub all_counted : (category : ℕ) (blocks : List Judged) → written_of category blocks + refused_of category blocks ≡ blocks_of category blocks
all_counted category [] = refl
all_counted category (one ∷ blocks) =
    let here : Bool = one.raw.category == category in
    let good : Bool = is_sound one.verdict in
    let w : written_of category (one ∷ blocks) ≡ cond (here && good) 1 0 + written_of category blocks = sum_by-cons (λ x. cond (Tallying.is_written category x) 1 0) one blocks in
    let r : refused_of category (one ∷ blocks) ≡ cond (here && not good) 1 0 + refused_of category blocks = sum_by-cons (λ x. cond (Tallying.is_refused category x) 1 0) one blocks in
    let b : blocks_of category (one ∷ blocks) ≡ cond here 1 0 + blocks_of category blocks = sum_by-cons (λ x. cond (x.raw.category == category) 1 0) one blocks in
    omega (arith, w, r, b, one_counted here good, all_counted category blocks)
