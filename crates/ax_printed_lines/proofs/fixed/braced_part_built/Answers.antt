use Rattle.std.proofs.Common.{rules}
use Rattle.std.proofs.lemmas.Option.{IfSome_then}
use Rattle.ax_format.specs.Plain.{part_tree}
use Rattle.ax_printed_lines.proofs.ListsBuilt.{part_built}
use Rattle.ax_printed_lines.proofs.fixed.braced_part_built.Goals as goal

pub returns : goal.returns
returns c =
    IfSome_then c.members_built.result c.members_built.ensures (λ done. part_built (part_tree c.args.part.now) c.args.cursor.now c.takes.new.self c.opens.new.self c.members_built.new.cursor c.args.out.now c.members_built.new.out (search rules) (search rules))
