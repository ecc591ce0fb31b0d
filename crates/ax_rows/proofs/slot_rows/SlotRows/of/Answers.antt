use Rattle.ax_rows.proofs.slot_rows.SlotRows.of.Goals as goal

pub returns-then-slots-gt-MOST_SLOTS-clause-rows : goal.returns-then-slots-gt-MOST_SLOTS-clause-rows
returns-then-slots-gt-MOST_SLOTS-clause-rows c = c.new.ensures.rows c.args.octets.now
