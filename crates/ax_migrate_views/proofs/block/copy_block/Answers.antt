use Rattle.std.proofs.Common.{List, ℕ, ◌∙◌, ap, arith, length, subst, take}
use Rattle.ax_migrate_views.proofs.Takings.{in_place}
use Rattle.ax_blocks.specs.BlockTaking.{WritesOctets}
use Rattle.ax_endpoints.specs.Changes.{sink_change}
use Rattle.ax_migrate_views.proofs.block.copy_block.Goals as goal

pub returns : goal.returns
returns g c =
    let front = ap (take c.lay_opaque-count.result) c.deref.ensures.value
    ∙ in_place _ _ c.lay_opaque-count.new.output _ c.lay_opaque-count.ensures.within c.lay_opaque-count.ensures.room (omega (arith, c.deref_mut.ensures.len, ap length c.deref_mut.ensures.value, c.args.outputs.now.room)) in
    subst (λ (octets : List ℕ). WritesOctets (sink_change g.K.Sink c.args.out.now c.write_piece.new.out) octets c.write_piece.result) (front ∙ c.lay_opaque-count.ensures.laid) c.write_piece.ensures
