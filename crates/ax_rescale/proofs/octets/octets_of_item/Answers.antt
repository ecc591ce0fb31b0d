use Rattle.std.proofs.Common.{◌≡◌, None, rules, sym, ap}
use Rattle.ax_format.proofs.Counting.{no_item_counted}
use Rattle.ax_format.specs.Lengths.{capped}
use Rattle.ax_format.specs.Lookup.{item_of_frn}
use Rattle.ax_format.specs.Plain.{value_tree}
use Rattle.ax_rescale.proofs.octets.octets_of_item.Goals as goal

pub returns-in-None : goal.returns-in-None
returns-in-None c =
    let none : item_of_frn c.args.entry.now.slot c.args.spec.now.uap c.args.spec.now.items ≡ None = search rules in
    sym (ap capped (no_item_counted c.args.spec.now c.args.entry.now.slot (value_tree c.args.entry.now.value) none))
