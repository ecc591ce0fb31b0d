use Rattle.std.proofs.Common.{◌≡◌, ◌∙◌, ap, length, take, arith, sym}
use Rattle.std.proofs.lemmas.List.{take_all}
use Rattle.ax_format.specs.CanonicalOctets.{framed}
use Rattle.ax_migrate_views.proofs.Takings.{opaque_taken}
use Rattle.ax_migrate_views.proofs.work.MigrateViewsBlockWork.take.Goals as goal

pub returns-then-raw-category-clause-takes : goal.returns-then-raw-category-clause-takes
returns-then-raw-category-clause-takes g c =
    let octets = framed c.args.raw.now.category c.args.raw.now.body.now in
    let whole : take (length octets) octets ≡ octets = take_all (length octets) octets (omega arith) in
    opaque_taken c.args.self.now.migrator.now c.args.number (record { category = c.args.raw.now.category; body = c.args.raw.now.body.now }) _ _ _ (length octets) octets octets _
    (λ e. c.if-raw-category.true (e ∙ sym c.args.self.now.migrator.now.editions.compiled.stands.category ∙ sym (ap (λ codec. codec.category) c.old.ensures) ∙ sym c.category.ensures)) c.args.raw.now.within_block c.args.raw.now.nonempty whole (sym whole)
    c.copy_block.ensures
