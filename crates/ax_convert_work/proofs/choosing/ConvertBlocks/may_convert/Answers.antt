use Rattle.std.proofs.Common.{length, rules, ◌==◌, ◌∙◌, ap, true}
use Rattle.ax_blocks.specs.Reader.{raw_tree}
use Rattle.ax_convert_work.proofs.ToldBlocks.{tells_none, tells_fault}
use Rattle.ax_convert_work.proofs.choosing.ConvertBlocks.may_convert.Goals as goal
use Rattle.ax_walk.proofs.ItemSteps.{empty_is}

pub returns-then-is_empty : goal.returns-then-is_empty
returns-then-is_empty c =
    tells_none c.args.self.now.migrator.now (raw_tree c.args.raw.now) c.args.self.now.slots.items c.requires.slots
    (empty_is c.args.self.now.slots.items c.is_empty.result (c.is_empty.ensures ∙ ap (λ xs. length xs == 0) c.as_slice-slots.ensures.value) c.if-is_empty.true)

pub returns-in-Err : goal.returns-in-Err
returns-in-Err c =
    tells_fault c.args.self.now.migrator.now (raw_tree c.args.raw.now) c.args.self.now.slots.items c.requires.slots (search rules) true c.in-Err.field-0 (search rules)
