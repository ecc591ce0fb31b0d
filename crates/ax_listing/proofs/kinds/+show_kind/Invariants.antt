use Rattle.std.proofs.Common.{length, map}
use Rattle.ax_fspec.specs.Marks.{slots_of}
use Rattle.ax_held_kinds.specs.Held.{held_kind, held_slot}
use Rattle.ax_format.specs.Tree as Tree
use Rattle.ax_fspec.specs.Reading.{FailsAt, kind_read}
use Rattle.ax_listing.proofs.CountedLines.{CountShown}
use Rattle.ax_listing.proofs.MarkedLines.{MarksShown, compound_done}
use Rattle.ax_listing.proofs.kinds.+show_kind.Given as goal

abbrev pub invariant-show_each-loop-number : goal.invariant-show_each-loop-number
invariant-show_each-loop-number l = CountShown l.fn.size (held_kind l.inner) l.path l.from.body.now l.count l.number l.from.at l.here l.fn.lister.out.octets l.lister.out.octets

abbrev pub invariant-show_subitems-loop-number : goal.invariant-show_subitems-loop-number
invariant-show_subitems-loop-number l =
    MarksShown (compound_done (map held_slot l.slots) l.path l.from.body.now l.from.at l.fn.lister.out.octets) (FailsAt (kind_read (Tree.compound (Tree.slots_of (map held_slot l.slots))) l.from.body.now l.from.at) l.from.at) (map held_slot l.slots) l.path l.left l.from.body.now l.here l.lister.out.octets l.count

abbrev pub decreases-show_subitems-loop-number : goal.decreases-show_subitems-loop-number
decreases-show_subitems-loop-number l = length (slots_of l.left)
