use Rattle.std.proofs.Common.{◌∙◌}
use Rattle.ax_format.specs.Plain.{entries_tree, spec_tree}
use Rattle.ax_text_form.proofs.Pieces.{last_put}
use Rattle.ax_text.proofs.ListedRecords.{record_put}
use Rattle.ax_text.proofs.records.list_record.Goals as goal

pub returns : goal.returns
returns c = last_put c.list_items.result c.list_items.ensures (λ h. record_put (spec_tree c.args.spec.now) c.args.number (entries_tree c.args.one.now.entries) _ _ _ _ (c.set.ensures ∙ c.category_digits.ensures) c.in_ok-record_front.ensures h)
