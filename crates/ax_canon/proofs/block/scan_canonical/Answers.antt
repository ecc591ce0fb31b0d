use Rattle.std.proofs.lemmas.Result.{IfOk-weaker}
use Rattle.ax_canon.proofs.KeptRecords.{each_canonical}
use Rattle.ax_canon.specs.Blocks.{IsCanonical}
use Rattle.ax_canon.specs.Kept.{IsCanonicalIf}
use Rattle.std.proofs.Common.{◌≡◌, true}
use Rattle.ax_canon.proofs.block.scan_canonical.Goals as goal

pub returns-clause-canonical : goal.returns-clause-canonical
returns-clause-canonical c =
    IfOk-weaker c.scan_kept.result (λ n. IsCanonicalIf (λ one answer. answer ≡ true) c.args.records.now.codec.now c.args.body.now n c.args.out.now c.scan_kept.new.out) (λ n. IsCanonical c.args.records.now.codec.now c.args.body.now n c.args.out.now c.scan_kept.new.out)
    (λ n kept. each_canonical c.args.records.now.codec.now c.args.body.now n c.args.out.now c.scan_kept.new.out c.scan_kept.ensures.same_loan kept) c.scan_kept.ensures.kept
