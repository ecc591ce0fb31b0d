use Rattle.std.proofs.Common.{[], ◌∷◌, ◌++◌, sym, ◌∙◌, ap, arith}
use Rattle.hex.specs.Hex.{encode_lower}
use Rattle.ax_bits.proofs.Pieces.{AreOctets-items}
use Rattle.ax_expand_work.proofs.Appended.{octets_back}
use Rattle.ax_expand_work.proofs.lines.push_hex.Goals as goal

pub returns : goal.returns
returns c =
    let back = octets_back c.args.octets.now (AreOctets-items c.args.octets.now (λ i. (let fits = c.type_inv.octets i in omega arith))) in
    c.in_ok-text3.ensures.appended
    ∙ ap (λ t. c.args.lines.now.octets ++ (0x22 ∷ [] ++ (t ++ 0x22 ∷ []))) (c.as_bytes.ensures.value ∙ c.in_ok-digits.ensures)
    ∙ ap (λ o. c.args.lines.now.octets ++ (0x22 ∷ [] ++ (encode_lower o ++ 0x22 ∷ []))) (sym back)
