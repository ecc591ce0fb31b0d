use Rattle.std.proofs.Common.{◌≡◌, ◌+◌, drop}
use Rattle.std.specs.List.{position_or_len}
use Rattle.std.specs.Str.{bytes_eq}
use Rattle.ax_uap.proofs.items.place_of_name.Given as goal

abbrev pub invariant-loop-item : goal.invariant-loop-item
invariant-loop-item l = (l.place ≡ l.item-index) × (position_or_len (λ item. bytes_eq item.name l.fn.name) l.fn.spec.items ≡ l.place + position_or_len (λ item. bytes_eq item.name l.fn.name) (drop l.place l.fn.spec.items))
