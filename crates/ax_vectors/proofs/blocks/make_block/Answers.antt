use Rattle.std.proofs.Common.{◌≡◌, [], ap, subst, ◌∙◌}
use Rattle.std.proofs.lemmas.Result.{IfOk-weaker}
use Rattle.ax_bits.specs.Bits.{AreOctets}
use Rattle.ax_format.specs.CanonicalOctets.{octets_of}
use Rattle.ax_format.specs.Plain.{spec_tree}
use Rattle.ax_vectors.proofs.RecordDraws.{octets_are, block_adds, spelled_made}
use Rattle.ax_vectors.specs.Made.{block_of, block_made, records_made, IsSpelledBlock}
use Rattle.ax_vectors.specs.Making.{Adds}
use Rattle.ax_vectors.proofs.blocks.make_block.Goals as goal

pub returns-clause-made : goal.returns-clause-made
returns-clause-made c =
    let state = c.args.draws.now in
    let tree = spec_tree c.args.accepted.now in
    let body = c.in_ok-body.body.items in
    let same = c.deref.ensures.value in
    let spec = c.spec-spec.ensures.spec in
    let made = c.in_ok-body.ensures in
    let octets : body ≡ octets_of (records_made tree state).0 =
    octets_are body (records_made tree state).0 (subst AreOctets same c.block_of.ensures.octets) (made.body ∙ ap (λ s. (records_made (spec_tree s) state).0) spec) in
    IfOk-weaker c.block_of.result (λ block. block.items ≡ block_of c.spec-spec.result.now.category c.deref.result.now) (λ block. Adds (block_made tree) [] block.items state c.make_body.new.draws)
    (λ block is. block_adds tree body block.items state c.make_body.new.draws octets (made.state ∙ ap (λ s. (records_made (spec_tree s) state).1) spec) (is ∙ (λ k. block_of (spec k).category (same k))))
    c.block_of.ensures.block

pub returns-clause-spelled : goal.returns-clause-spelled
returns-clause-spelled c =
    let tree = spec_tree c.args.accepted.now in
    IfOk-weaker c.block_of.result (λ block. Adds (block_made tree) [] block.items c.args.draws.now c.make_body.new.draws) (λ block. IsSpelledBlock tree block.items)
    (λ block made. spelled_made tree block.items c.args.draws.now c.make_body.new.draws c.spec-spec.ensures.no_flaw made)
    (returns-clause-made c)
