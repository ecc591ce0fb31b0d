use Rattle.std.proofs.Common.{IfOk, sym, subst}
use Rattle.ax_codec.specs.Standing.{IsCompiled}
use Rattle.ax_format.specs.Plain.{spec_tree}
use Rattle.ax_codec_tests.proofs.ranges.editions_answer.Goals as goal

pub new-migrator-requires-clause-compiled : goal.new-migrator-requires-clause-compiled
new-migrator-requires-clause-compiled g c =
    subst (λ s. IsCompiled c.expect-codec.result (spec_tree s)) (sym c.spec.ensures.spec) (subst (λ r. IfOk r (λ codec. IsCompiled codec (spec_tree c.args.editions.now.old))) c.expect-codec.ensures c.compile.ensures)
