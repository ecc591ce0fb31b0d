-- Some of the records of a view, by their octets in its body.
use Rattle.std.proofs.Common.{◌≡◌, ℕ, ◌+◌, ◌-◌, ◌*◌, ◌<◌, ◌≤◌, min, max, false, List, length, map, take, drop, refl, sym, ◌∙◌, ap, arith, subst, length-drop, length-take}
use Rattle.std.proofs.lemmas.List.{drop-map, take-map}
use Rattle.std.specs.List.{AllZip}
use Rattle.ax_bits.proofs.Words.{length-bits}
use Rattle.ax_bits.specs.Bits.{bits}
use Rattle.ax_bits.specs.Out.{Appends}
use Rattle.ax_bits.specs.declared.output.Out.{Out}
use Rattle.ax_canon.proofs.BodyWriting.{some_bits}
use Rattle.ax_relation.specs.Moved.{moved_record}
use Rattle.ax_migrate_views.proofs.RangeRecords.{range_is, shown_fewer, shown_spelled, zip_drop, zip_length, zip_take}
use Rattle.ax_migrate_views.proofs.ViewBlocks.{view_spells}
use Rattle.ax_migrate_views.specs.Blocks.{old_tree, new_tree, IsOfEditions, LaysMigrated}
use Rattle.ax_migrate_views.specs.Ranges.{made_of, made_from, made_range, shown_octets, AppendsRange, AreRecordsOf, FitsFrom, FitsShown, HasRange, HasRecords, LaysRange, SpellsOld, SpellsRange}
use Rattle.ax_migrate_views.specs.declared.migrator.Migrator.{Migrator}
use Rattle.ax_migrate_views.specs.declared.ranges.Fit.{Fit}
use Rattle.ax_format.specs.Blocks.{read_block}
use Rattle.ax_format.specs.Bodies.{RecordsSpell, SpellsBody}
use Rattle.ax_format.specs.CanonicalOctets.{canon_block, canon_length}
use Rattle.ax_format.specs.Split.{fit_count, records_length}
use Rattle.ax_format.specs.Tree.{EntriesTree}
use Rattle.ax_codec.specs.Table.{record_kind_at}
use Rattle.ax_codec.specs.declared.codec.Codec.{Codec}
use Rattle.ax_walk.specs.Pieces.{ArePieces}
use Rattle.ax_walk.specs.Views.{IsRecordOf, SpellEach}

range_made : (m : Migrator) (from count : ℕ) (records : List EntriesTree) → made_of m (take count (drop from records)) ≡ made_range m from count records
range_made m from count records =
    sym (take-map (moved_record (old_tree m) (new_tree m)) count (drop from records)) ∙ ap (take count) (sym (drop-map (moved_record (old_tree m) (new_tree m)) from records))

-- ---- the octets of some

module _ (m : Migrator) (of : IsOfEditions m) (body : List ℕ) (few : length body ≤ 65532) (some : 1 ≤ length body) (n : ℕ) (pieces : ArePieces false (record_kind_at m.codec.now.nodes m.codec.now.slots) n body) where
  pub all : (records : List EntriesTree) × SpellsBody (old_tree m) records (bits body)
  all = view_spells m.codec.now (old_tree m) of.compiled.clean of.compiled.stands n body some pieces

  module _ (shown : List (Codec × List ℕ)) (each : SpellEach m.codec.now body shown) where
    zip : (records : List EntriesTree) → SpellsBody (old_tree m) records (bits body) → AllZip (IsRecordOf m.codec.now (old_tree m)) records shown
    zip records s = each.spells (old_tree m) records of.compiled.clean of.compiled.stands s

    pub there_in : (k : ℕ) → HasRecords m body k → k ≤ length shown
    there_in k h = subst (λ x. k ≤ x) (zip_length (IsRecordOf m.codec.now (old_tree m)) all.0 shown (zip all.0 all.1)) (h.there all.0 all.1)

    pub shown_few : length (shown_octets shown) ≤ 65532
    shown_few = subst (λ x. length x ≤ 65532) (sym each.joined) few

    pub later_few : (from : ℕ) (later : List (Codec × List ℕ)) → later ≡ drop from shown → length (shown_octets later) ≤ 65532
    later_few from later e = omega (arith, ap (λ x. length (shown_octets x)) e, shown_fewer from shown, shown_few)

    pub later_there : (from count : ℕ) (later : List (Codec × List ℕ)) → later ≡ drop from shown → HasRecords m body (from + count) → count ≤ length later
    later_there from count later e h = omega (arith, ap length e, length-drop from shown, there_in (from + count) h)

    pub later_records : (from : ℕ) (later : List (Codec × List ℕ)) → later ≡ drop from shown → AreRecordsOf m later
    later_records from later e = record {
      records = drop from all.0;
      each = subst (AllZip (IsRecordOf m.codec.now (old_tree m)) (drop from all.0)) (sym e) (zip_drop (IsRecordOf m.codec.now (old_tree m)) from all.0 shown (zip all.0 all.1));
      few = later_few from later e;
    }

    pub fits_from : (from : ℕ) (later : List (Codec × List ℕ)) (fit : Fit) → later ≡ drop from shown → FitsShown m later fit → FitsFrom m body from fit
    fits_from from later fit e h = record {
      counted = λ records s. h.counted (drop from records) (there records s) ∙ ap (fit_count (new_tree m)) (sym (drop-map (moved_record (old_tree m) (new_tree m)) from records));
      measured = λ records s. h.measured (drop from records) (there records s) ∙ ap (λ x. records_length (new_tree m) (take (max 1 fit.count) x)) (sym (drop-map (moved_record (old_tree m) (new_tree m)) from records));
    } where
      there : (records : List EntriesTree) → SpellsBody (old_tree m) records (bits body) → AllZip (IsRecordOf m.codec.now (old_tree m)) (drop from records) later
      there records s = subst (AllZip (IsRecordOf m.codec.now (old_tree m)) (drop from records)) (sym e) (zip_drop (IsRecordOf m.codec.now (old_tree m)) from records shown (zip records s))

    module _ (from count start size : ℕ) (later : List (Codec × List ℕ)) (left : later ≡ drop from shown) (before : start ≡ length (shown_octets (take from shown))) (here : size ≡ length (shown_octets (take count later))) where
      here_is : size ≡ length (shown_octets (take count (drop from shown)))
      here_is = here ∙ ap (λ x. length (shown_octets (take count x))) left

      pub range_within : start + size ≤ length body
      range_within = omega (arith, before, here_is, shown_fewer from shown, shown_fewer count (drop from shown), ap length each.joined)

      pub range_spelled : (octets : List ℕ) → octets ≡ body → SpellsRange m body from count (take (start + size - start) (drop start octets))
      range_spelled octets e = record {
        spelled = λ records s. subst (λ x. RecordsSpell (old_tree m) (take count (drop from records)) (bits x)) (sym is)
            (shown_spelled m.codec.now (old_tree m) (take count (drop from records)) (take count (drop from shown))
            (zip_take (IsRecordOf m.codec.now (old_tree m)) count (drop from records) (drop from shown) (zip_drop (IsRecordOf m.codec.now (old_tree m)) from records shown (zip records s))));
        few = omega (arith, ap length is, here_is, range_within, few);
      } where
        width : start + size - start ≡ length (shown_octets (take count (drop from shown)))
        width = omega (arith, here_is)

        is : take (start + size - start) (drop start octets) ≡ shown_octets (take count (drop from shown))
        is = ap (λ x. take (start + size - start) (drop start x)) (e ∙ sym each.joined) ∙ (λ i. take (width i) (drop (before i) (shown_octets shown))) ∙ range_is from count shown

  -- ---- their migrated block

  module _ (from count : ℕ) (octets : List ℕ) (h : SpellsRange m body from count octets) (one : 1 ≤ count) (there : HasRecords m body (from + count)) where
    range_body : (records : List EntriesTree) → SpellsBody (old_tree m) records (bits body) → SpellsBody (old_tree m) (take count (drop from records)) (bits octets)
    range_body records s = record {
      some = omega (arith, one, there.there records s, length-take count (drop from records), length-drop from records);
      spelled = h.spelled records s;
    }

    pub range_old : SpellsOld m octets
    range_old = record { records = take count (drop from all.0); spelled = range_body all.0 all.1 }

    pub range_size : (1 ≤ length octets) × (length octets ≤ 65532)
    range_size = (omega (arith, some_bits (old_tree m) octets range_old.records range_old.spelled, length-bits octets), h.few)

    pub range_laid : (k : ℕ) (output : List ℕ) → LaysMigrated m octets k output → LaysRange m body from count k output
    range_laid k output l = record {
      measured = λ records s. (l.block (take count (drop from records)) (range_body records s)).counted
          ∙ (λ i. canon_length (new_tree m) (read_block (of.related.category i) (range_made m from count records i)));
      laid = λ records s short. (l.block (take count (drop from records)) (range_body records s)).laid short
          ∙ (λ i. canon_block (new_tree m) (read_block (of.related.category i) (range_made m from count records i)));
    }

  -- ---- the call

  module _ (from count k : ℕ) (output : List ℕ) (laid : LaysRange m body from count k output) where
    pub range_few : (free : ℕ) → HasRange m body from count free → k ≤ 65535
    range_few free h = subst (λ x. x ≤ 65535) (sym (laid.measured all.0 all.1)) (h.block all.0 all.1)

    pub range_fits : (free : ℕ) → HasRange m body from count free → 8 * k ≤ free
    range_fits free h = subst (λ x. 8 * x ≤ free) (sym (laid.measured all.0 all.1)) (h.room all.0 all.1)

    pub range_appended : (old new : Out) → k ≤ 65535 → Appends old new (bits (take k output)) → AppendsRange m body from count old new
    range_appended old new short put = record { appended = λ records s. subst (λ xs. Appends old new (bits xs)) (laid.laid records s short) put }
