use Rattle.std.proofs.Common.{arith}
use Rattle.ax_printed_lines.proofs.Fronts.{front_bits}
use Rattle.ax_printed_lines.proofs.names.eight_in_front.Goals as goal

pub returns : goal.returns
returns c = λ w le. front_bits c.args.octets.now w c.from_be_bytes.result (omega arith) le (λ i. let fits = c.type_inv.octets i in omega (arith, fits)) c.from_be_bytes.ensures
