-- Steps in two editions over the code's types.
use Rattle.std.specs.Prelude.{ℕ, List}
use Rattle.std.specs.Borrow.{Bor}
use Rattle.ax_format.specs.Plain.{kind_tree}
use Rattle.ax_format.specs.Tree.{KindTree}
use Rattle.ax_format.specs.declared.kind.Kind.{Kind}
use Rattle.ax_format.specs.declared.name.Name.{Name}
use Rattle.ax_rescale.specs.Beside.{StepBeside}
use Rattle.ax_rescale.specs.declared.beside.SlotPair.{SlotPair}

abbrev pub step_tree : SlotPair → StepBeside
step_tree s = record { number = s.number; old = kind_tree s.old.now; new = kind_tree s.new.now }

abbrev pub named_kind : Bor Name × Bor Kind → List ℕ × KindTree
named_kind p = (p.0.now, kind_tree p.1.now)
