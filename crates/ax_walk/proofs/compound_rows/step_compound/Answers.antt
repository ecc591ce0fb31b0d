use Rattle.std.proofs.Common.{subst, ◌∙◌}
use Rattle.ax_format.specs.InBounds.{InBounds}
use Rattle.ax_rows.specs.Rows.{AreRows}
use Rattle.ax_codec.specs.Table.{kind_at, record_kind_at}
use Rattle.ax_walk.proofs.CompoundRows.{under_is}
use Rattle.ax_walk.proofs.NodeKinds.{end_as, is_compound, compound_links, compound_mask}
use Rattle.ax_walk.proofs.compound_rows.step_compound.Goals as goal

pub invariant_of-slots : goal.invariant_of-slots
invariant_of-slots c =
    record {
      slots = record {
        within = compound_links c.args.table.nodes.now c.args.link c.index-table-link.result c.args.table.table c.requires.link.0 c.requires.link.1 c.index-table-link.is c.in-Compound.mask c.in-Compound.slots c.as_slice-links.result.now (c.index-table-link.is ∙ c.in-Compound.is) c.as_slice-links.ensures.members;
        mask = compound_mask c.args.table.nodes.now c.args.link c.index-table-link.result c.args.table.table c.requires.link.0 c.requires.link.1 c.index-table-link.is c.in-Compound.mask c.in-Compound.slots c.as_slice-links.result.now (c.index-table-link.is ∙ c.in-Compound.is) c.as_slice-links.ensures.members;
        bounds = subst InBounds (is_compound c.args.table.nodes.now c.args.link c.index-table-link.result c.args.table.table c.requires.link.0 c.requires.link.1 c.index-table-link.is c.in-Compound.mask c.in-Compound.slots c.as_slice-links.result.now (c.index-table-link.is ∙ c.in-Compound.is) c.as_slice-links.ensures.members) c.requires.bounds;
      };
    }

pub walk_subitems-requires-clause-rows : goal.walk_subitems-requires-clause-rows
walk_subitems-requires-clause-rows c =
    subst (λ links. AreRows c.args.table.octets.now links c.args.rows.start.now c.args.rows.steps.now)
    (under_is c.args.table.nodes.now c.args.link c.index-table-link.result c.in-Compound.mask c.in-Compound.slots c.as_slice-links.result.now c.requires.link.0 c.requires.link.1 c.index-table-link.is (c.index-table-link.is ∙ c.in-Compound.is) c.as_slice-links.ensures.members) c.requires.rows

pub returns-clause-end : goal.returns-clause-end
returns-clause-end c =
    end_as c.args.start.body.now c.args.start.at (kind_at c.args.table.nodes.now c.args.link) (record_kind_at c.args.table.nodes.now c.as_slice-links.result.now) (is_compound c.args.table.nodes.now c.args.link c.index-table-link.result c.args.table.table c.requires.link.0 c.requires.link.1 c.index-table-link.is c.in-Compound.mask c.in-Compound.slots c.as_slice-links.result.now (c.index-table-link.is ∙ c.in-Compound.is) c.as_slice-links.ensures.members)
    c.walk_subitems.new.notes.least c.walk_subitems.result c.walk_subitems.ensures.end
