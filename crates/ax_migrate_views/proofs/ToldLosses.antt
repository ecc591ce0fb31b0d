-- What the records of a view lose is what the records of its body lose.
use Rattle.std.proofs.Common.{◌≡◌, ℕ, ◌+◌, List, [], ◌∷◌, ◌++◌, Option, length, refl, sym, ◌∙◌, ap, subst, append-nil, Result}
use Rattle.std.specs.List.{AllByRecursion, AllZip}
use Rattle.ax_bits.specs.Bits.{bits}
use Rattle.ax_relation.specs.Paths.{relation_paths}
use Rattle.ax_relation.specs.declared.relation.RelationPath.{RelationPath}
use Rattle.ax_canon.proofs.Patching.{body_shape}
use Rattle.ax_relation.proofs.Distinct.{Distinct}
use Rattle.ax_relation.proofs.DistinctNames.{record_distinct}
use Rattle.ax_migration.proofs.Found.{all_found, found_is_lost}
use Rattle.ax_migration.specs.Finding.{found_losses, record_losses}
use Rattle.ax_migration.specs.Losing.{losses_from, lost_lines}
use Rattle.ax_migration.specs.declared.losses.LossEntry.{LossEntry}
use Rattle.ax_migrate_views.proofs.GonePaths.{found_gone}
use Rattle.ax_migrate_views.specs.Blocks.{old_tree, new_tree, IsOfEditions}
use Rattle.ax_migrate_views.specs.Bodies.{TellsBody}
use Rattle.ax_moves.specs.Lost.{key_paths}
use Rattle.ax_migrate_views.specs.Losses.{shown_entries, shown_losses, LosesEach, TellsLosses, WritesLosses}
use Rattle.ax_migrate_views.specs.declared.migrator.Migrator.{Migrator}
use Rattle.ax_format.proofs.Spelled.{read_spelled}
use Rattle.ax_format.specs.Bodies.{RecordShape}
use Rattle.ax_format.specs.Reader.{read, got}
use Rattle.ax_format.specs.Specification.{SpecTree, record_kind}
use Rattle.ax_format.specs.Tree.{marked, EntriesTree}
use Rattle.ax_endpoints.proofs.Pieces.{change, same_text}
use Rattle.ax_endpoints.specs.Changes.{Wrote}
use Rattle.ax_endpoints.specs.declared.sinks.SinkFailed.{SinkFailed}
use Rattle.ax_codec.proofs.BareKinds.{bare_read, stands_record}
use Rattle.ax_codec.specs.Standing.{StandsFor}
use Rattle.ax_codec.specs.Table.{record_kind_at}
use Rattle.ax_codec.specs.declared.codec.Codec.{Codec}
use Rattle.ax_walk.specs.Values.{value_in, value_read, entries_in}
use Rattle.ax_walk.specs.Views.{IsRecordOf, SpellEach}

-- what octets that spell a record show is that record
shown_is : (codec : Codec) (spec : SpecTree) (entries : EntriesTree) (s : Codec × List ℕ) → StandsFor codec spec → IsRecordOf codec spec entries s → shown_entries s ≡ entries
unfolding value_in
shown_is codec spec entries s stands h =
    let own : StandsFor s.0 spec = subst (λ c. StandsFor c spec) (sym h.0) stands in
    let same : read (record_kind_at s.0.nodes s.0.slots) (bits s.1) ≡ read (record_kind spec) (bits s.1) = ap (λ k. read k (bits s.1)) (stands_record s.0 spec own) ∙ bare_read (record_kind spec) (bits s.1) in
    let whole : read (record_kind spec) (bits s.1) ≡ got (marked entries) (length (bits s.1)) [] = ap (read (record_kind spec)) (sym (append-nil (bits s.1))) ∙ read_spelled (record_kind spec) (marked entries) (bits s.1) [] h.1.spells in
    ap (λ r. entries_in (value_read r)) (same ∙ whole)

shown_told : (codec : Codec) (old new : SpecTree) (n : ℕ) (records : List EntriesTree) (shown : List (Codec × List ℕ)) → StandsFor codec old → Distinct (record_kind old) → AllByRecursion (RecordShape old) records → AllZip (IsRecordOf codec old) records shown
    → shown_losses (relation_paths old new) n shown ≡ losses_from old new n records
shown_told codec old new n [] [] stands d shapes h = refl
shown_told codec old new n [] (s ∷ shown) stands d shapes h = absurd h
shown_told codec old new n (r ∷ records) [] stands d shapes h = absurd h
shown_told codec old new n (r ∷ records) (s ∷ shown) stands d shapes h =
    let first = ap (λ es. record_losses n es (relation_paths old new)) (shown_is codec old r s stands h.0) ∙ found_is_lost old new n r d shapes.0 in
    λ i. first i ++ shown_told codec old new (n + 1) records shown stands d shapes.1 h.1 i

pub losses_each : (m : Migrator) (body : List ℕ) (paths : List RelationPath) (shown : List (Codec × List ℕ)) → IsOfEditions m → paths ≡ m.relation.now.paths → SpellEach m.codec.now body shown → LosesEach m body (shown_losses paths 0 shown)
losses_each m body paths shown of are each = record {
  each = λ records spells. ap (λ ps. shown_losses ps 0 shown) (are ∙ of.related.paths)
      ∙ shown_told m.codec.now (old_tree m) (new_tree m) 0 records shown of.compiled.stands (record_distinct (old_tree m) of.related.old_no_flaw) (body_shape (old_tree m) records (bits body) spells.spelled) (each.spells (old_tree m) records of.compiled.clean of.compiled.stands spells);
}

-- those that were written
pub losses_written : (m : Migrator) (body : List ℕ) (block : ℕ) (losses : List LossEntry) (h h' : Option (List ℕ)) (f f' : ℕ) (r : Result Unit SinkFailed) → LosesEach m body losses → Wrote (change h h' f f') r (lost_lines block losses) → WritesLosses m body block (change h h' f f') r
losses_written m body block losses h h' f f' r are w = record {
  lines = λ records spells. same_text h h' f f' r (lost_lines block losses) (lost_lines block (losses_from (old_tree m) (new_tree m) 0 records)) (ap (lost_lines block) (are.each records spells)) w;
}

-- those that were laid
pub losses_told : (m : Migrator) (body : List ℕ) (block n : ℕ) (before lines : List ℕ) → IsOfEditions m → TellsBody m.codec.now (key_paths m.lost.items) block body n before lines → TellsLosses m body block n lines
losses_told m body block n before lines of t = record {
  told = λ records spells short. (
      (t.told (old_tree m) records of.compiled.clean of.compiled.stands spells).laid short ∙ ap (λ ps. lost_lines block (found_losses ps 0 records)) of.lost.gone
      ∙ ap (lost_lines block) (found_gone 0 m.relation.now.paths records ∙ ap (λ ps. found_losses ps 0 records) of.related.paths ∙ all_found (old_tree m) (new_tree m) 0 records (record_distinct (old_tree m) of.related.old_no_flaw) (body_shape (old_tree m) records (bits body) spells.spelled)));
}
