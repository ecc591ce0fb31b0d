use Rattle.ax_expand.proofs.Shapes.{entries_of}
use Rattle.ax_expand.proofs.encode.encode_content.Goals as goal

pub encode_entries-requires : goal.encode_entries-requires
encode_entries-requires c = record {
  entries = entries_of c.args.x.now c.expansion-expansion.result.now c.args.value.now c.in-Compound.entries c.expansion-expansion.ensures.expansion c.expansion-expansion.ensures.no_flaw c.requires c.in-Compound.is;
}
