use Rattle.std.proofs.Common.{Some, ap, sym, ◌∙◌}
use Rattle.ax_moves.proofs.subitems.lacks_leaving.Goals as goal

pub returns-in-Some-item_of : goal.returns-in-Some-item_of
returns-in-Some-item_of c sure =
    let h = c.has_none_of.ensures sure in
    record {
      leaving = c.in-Some.leaving;
      is = c.in-Some.is;
      entries = h.only.entries;
      value = sym c.in-Some-item_of.ensures.value ∙ ap (λ v. Some v) h.only.value;
      marks = h.marks;
      size = h.only.size;
      others = h.only.others;
      apart = h.apart;
    }
