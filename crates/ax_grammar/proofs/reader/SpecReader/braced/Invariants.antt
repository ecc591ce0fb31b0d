use Rattle.std.proofs.Common.{◌≡◌, ◌≤◌, ◌+◌, length, map}
use Rattle.ax_grammar.specs.Parsing.{list_at}
use Rattle.ax_grammar.proofs.Lists.{with_front}
use Rattle.ax_grammar.proofs.reader.SpecReader.braced.Given as goal

abbrev pub invariant-loop-elements : goal.invariant-loop-elements
invariant-loop-elements g l =
    let rule = g.E.Braced.rule in
    record {
      read : with_front (map g.E.Braced.tree l.elements) (list_at rule l.self) ≡ list_at rule l.initial.self;
      few : length l.elements + length l.self ≤ length l.initial.self;
    }

abbrev pub decreases-loop-elements : goal.decreases-loop-elements
decreases-loop-elements g l = length l.self
