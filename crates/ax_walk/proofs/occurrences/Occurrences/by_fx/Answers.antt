use Rattle.std.proofs.Common.{◌+◌, ◌/◌, length, refl, ap, ◌∙◌}
use Rattle.ax_format.specs.Widths.{width}
use Rattle.ax_codec.specs.Meaning.{meanings, linked, fixed_of}
use Rattle.ax_walk.proofs.ItemPieces.{by_fx_made, by_fx_shown}
use Rattle.ax_walk.proofs.occurrences.Occurrences.by_fx.Goals as goal

pub invariant_of-result : goal.invariant_of-result
invariant_of-result c = record { occurrences = by_fx_made c.args.codec.now c.args.inner c.args.body.now c.requires.link c.requires.bounds c.requires.one ((c.fixed_width.result + 1) / 8) (length c.args.body.now / ((c.fixed_width.result + 1) / 8)) (ap (λ n. (n + 1) / 8) (c.fixed_width.ensures ∙ ap (λ ns. width (fixed_of (linked (meanings ns) c.args.inner))) c.as_slice.ensures.members)) refl }

pub returns : goal.returns
returns c = by_fx_shown c.args.codec.now c.args.inner c.args.body.now c.requires.link c.requires.bounds c.requires.one ((c.fixed_width.result + 1) / 8) (length c.args.body.now / ((c.fixed_width.result + 1) / 8)) (ap (λ n. (n + 1) / 8) (c.fixed_width.ensures ∙ ap (λ ns. width (fixed_of (linked (meanings ns) c.args.inner))) c.as_slice.ensures.members)) refl
