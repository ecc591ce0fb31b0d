use Rattle.std.proofs.Common.{◌≡◌, map, ◌∙◌, ap, sym, subst}
use Rattle.ax_edition.proofs.Relations.{paths_are, known_are, moves_are}
use Rattle.ax_relation.specs.Known.{IsKnown}
use Rattle.ax_relation.specs.PlainMoves.{move_tree}
use Rattle.ax_edition.specs.SlotItems.{items_tree}
use Rattle.ax_format.specs.Plain.{spec_tree}
use Rattle.ax_format.specs.Specification.{record_slots}
use Rattle.ax_edition.proofs.relation.relation_of.Goals as goal

pub new-requires : goal.new-requires
new-requires c =
    let os = items_tree c.in_ok-old_items.old_items in
    let ns = items_tree c.in_ok-new_items.new_items in
    let o : os ≡ record_slots (spec_tree c.args.old.now) = c.in_ok-old_items.ensures in
    let n : ns ≡ record_slots (spec_tree c.args.new.now) = c.in_ok-new_items.ensures in
    ∣ record {
      old = c.args.old.now;
      new = c.args.new.now;
      are = record {
        old_no_flaw = c.requires.old_no_flaw;
        new_no_flaw = c.requires.new_no_flaw;
        category = c.requires.category;
        paths = paths_are c.args.old.now c.args.new.now os ns o n c.in_ok-paths.paths c.requires.old_no_flaw c.in_ok-paths.ensures;
        known = known_are c.args.old.now c.args.new.now os ns o n c.in_ok-known.known c.requires.old_no_flaw c.in_ok-known.ensures;
        moves = moves_are c.args.old.now c.args.new.now os ns o n (map move_tree c.in_ok-moves.moves) c.in_ok-moves.ensures;
      };
    } ∣₁

pub returns : goal.returns
returns c =
    let os = items_tree c.in_ok-old_items.old_items in
    let ns = items_tree c.in_ok-new_items.new_items in
    let o : os ≡ record_slots (spec_tree c.args.old.now) = c.in_ok-old_items.ensures in
    let n : ns ≡ record_slots (spec_tree c.args.new.now) = c.in_ok-new_items.ensures in
    record {
      old_no_flaw = c.requires.old_no_flaw;
      new_no_flaw = c.requires.new_no_flaw;
      category = c.requires.category;
      paths = c.new.ensures.paths ∙ paths_are c.args.old.now c.args.new.now os ns o n c.in_ok-paths.paths c.requires.old_no_flaw c.in_ok-paths.ensures;
      known = subst (IsKnown (spec_tree c.args.old.now) (spec_tree c.args.new.now)) (sym c.new.ensures.known) (known_are c.args.old.now c.args.new.now os ns o n c.in_ok-known.known c.requires.old_no_flaw c.in_ok-known.ensures);
      moves = ap (map move_tree) c.new.ensures.moves ∙ moves_are c.args.old.now c.args.new.now os ns o n (map move_tree c.in_ok-moves.moves) c.in_ok-moves.ensures;
    }
