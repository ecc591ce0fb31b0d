use Rattle.std.proofs.Common.{◌≡◌, ℕ, subst}
use Rattle.ax_bits.specs.Bits.{bits}
use Rattle.ax_format.specs.Plain.{slots_tree, value_tree}
use Rattle.ax_format.specs.Tree.{ValueTree}
use Rattle.ax_expand.proofs.Decoded.{where_spelled, where_faulty}
use Rattle.ax_expand.specs.Answers.{IsOrMemory, AnswersFault}
use Rattle.ax_expand.specs.Content.{SpellsContent, FailsContent}
use Rattle.ax_expand.specs.declared.fault.ContentCause.{ContentCause}
use Rattle.ax_expand.proofs.decode.decode_content.Goals as goal

pub returns-clause-where_spelled : goal.returns-clause-where_spelled
returns-clause-where_spelled c =
    let b = bits c.args.content.now in
    subst (λ y. (v : ValueTree) → SpellsContent y.form (slots_tree y.slots) v b → IsOrMemory (λ value. value_tree value ≡ v) c.decode_whole.result) c.expansion-expansion.ensures.expansion
    (where_spelled c.expansion-expansion.result.now.form (slots_tree c.expansion-expansion.result.now.slots) b c.decode_whole.result c.decode_whole.ensures.value c.decode_whole.ensures.fault)

pub returns-clause-where_faulty : goal.returns-clause-where_faulty
returns-clause-where_faulty c =
    let b = bits c.args.content.now in
    subst (λ y. (p : ℕ) (e : ContentCause) → FailsContent y.form (slots_tree y.slots) b p e → AnswersFault p e c.decode_whole.result) c.expansion-expansion.ensures.expansion
    (where_faulty c.expansion-expansion.result.now.form (slots_tree c.expansion-expansion.result.now.slots) b c.decode_whole.result c.decode_whole.ensures.value c.decode_whole.ensures.fault)
