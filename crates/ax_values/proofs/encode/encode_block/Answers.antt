use Rattle.std.proofs.Common.{◌≤◌, arith, subst, sym, ap, ◌∙◌}
use Rattle.ax_format.specs.OfCode.{block_length, block_octets}
use Rattle.ax_values.proofs.RoundTrip.{read_back}
use Rattle.ax_values.specs.Decoding.{ReadsBack}
use Rattle.ax_values.proofs.encode.encode_block.Goals as goal

pub returns-clause-reads_back : goal.returns-clause-reads_back
returns-clause-reads_back c =
    let spec = c.args.spec.now in
    let block = c.args.block.now in
    let short : block_length spec block ≤ 65535 = omega (arith, c.canon_length-length.ensures, c.if-length-gt65535.false) in
    subst (ReadsBack spec block) (sym (c.in_ok-octets.ensures ∙ ap (λ s. block_octets s block) c.in_ok-items.ensures)) (read_back spec block c.requires.no_flaw c.requires.block_fits short)
