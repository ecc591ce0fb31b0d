use Rattle.std.proofs.Common.{rules}
use Rattle.ax_filter.proofs.Memos.{same_recalls}
use Rattle.ax_filter.proofs.filter.Filter.holds_with.Goals as goal

pub holds_by-requires : goal.holds_by-requires
holds_by-requires c found = same_recalls found c.go_on.new.self.number c.go_on.new.self.answers.items c.deref_mut.result.now (search rules) (c.go_on.ensures found)
