-- Each framed block whose body isn't empty has one verdict.
use Rattle.std.proofs.Common.{◌≡◌, ℕ, ◌<◌, List, [], ◌∷◌, length, append-nil, refl, sym}
use Rattle.std.specs.List.{AllByRecursion}
use Rattle.ax_format.proofs.StreamsApart.{found_in}
use Rattle.ax_format.specs.Blocks.{IsFramed}
use Rattle.ax_format.specs.Flaws.{NoFlaw}
use Rattle.ax_format.specs.Framing.{RawTree}
use Rattle.ax_format.specs.Specification.{SpecTree}
use Rattle.ax_salvage.proofs.Blocks.{all_judged}
use Rattle.ax_salvage.proofs.OneSalvage.{one_verdict}
use Rattle.ax_salvage.specs.Verdicts.{IsVerdict, Verdict, verdict_of}

pub some_verdict : (catalogue : List SpecTree) (raw : RawTree) (octets : List ℕ) → AllByRecursion NoFlaw catalogue → IsFramed raw.category raw.body octets → 0 < length raw.body → IsVerdict catalogue raw (verdict_of catalogue raw)
some_verdict catalogue raw octets clean framed some =
    (all_judged catalogue (λ category spec known. (found_in category catalogue spec clean known).0) (raw ∷ []) octets (octets, [], sym (append-nil octets), framed, some, refl)).0

pub only_verdict : (catalogue : List SpecTree) (raw : RawTree) (octets : List ℕ) (verdict : Verdict) → AllByRecursion NoFlaw catalogue → IsFramed raw.category raw.body octets → 0 < length raw.body → IsVerdict catalogue raw verdict → verdict ≡ verdict_of catalogue raw
only_verdict catalogue raw octets verdict clean framed some h = one_verdict catalogue raw verdict (verdict_of catalogue raw) h (some_verdict catalogue raw octets clean framed some)
