use Rattle.std.proofs.Common.{◌≡◌, ◌+◌, sym, ◌∙◌, ap, subst}
use Rattle.ax_format.proofs.BlockLengths.{read_length}
use Rattle.ax_format.specs.Lengths.{capped, records_octets}
use Rattle.ax_format.specs.OfCode.{BlockFits, block_length}
use Rattle.ax_format.proofs.canonical_length.canon_length.Goals as goal

pub returns-in-Read : goal.returns-in-Read
returns-in-Read c =
    let fit = subst (BlockFits c.args.spec.now) c.in-Read.is c.requires.block_fits in
    let members = ap (records_octets c.args.spec.now) c.as_slice.ensures.members in
    let count : c.saturating_add.result ≡ capped (capped (records_octets c.args.spec.now c.in-Read.records) + 3) =
    c.saturating_add.ensures ∙ ap (λ x. capped (x + 3)) (c.octets_of_records-body.ensures ∙ ap capped members) in
    read_length c.args.spec.now c.in-Read.category c.in-Read.records c.saturating_add.result c.requires.no_flaw fit.2 count ∙ ap (λ b. capped (block_length c.args.spec.now b)) (sym c.in-Read.is)
