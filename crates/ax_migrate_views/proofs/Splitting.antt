-- The records of a view, block by block: which is too long, and what is written.
use Rattle.std.proofs.Common.{◌≡◌, ℕ, zero, suc, ◌+◌, ◌<◌, ◌≤◌, max, Bool, true, false, cond, List, [], ◌∷◌, ◌++◌, Option, Some, None, length, take, drop, flat_map, refl, sym, ◌∙◌, ap, arith, subst, append_assoc, append-nil, length-drop, take-append-drop, Result, Ok, Err, IsErr}
use Rattle.std.proofs.lemmas.List.{drop-drop, drop_all}
use Rattle.ax_bits.specs.Bits.{bits}
use Rattle.ax_migrate_views.specs.Pieces.{FindsTooLong, IsRange, WritesBlocks, WritesRange}
use Rattle.ax_migrate_views.proofs.MigratedBlocks.{length-moved}
use Rattle.ax_migrate_views.specs.Blocks.{old_tree, new_tree}
use Rattle.ax_migrate_views.specs.Ranges.{made_of, made_from, made_range, FitsFrom, HasRecords, LaysRange}
use Rattle.ax_migrate_views.specs.declared.migrator.Migrator.{Migrator}
use Rattle.ax_migrate_views.specs.declared.ranges.Fit.{Fit}
use Rattle.ax_migration.proofs.LongRecords.{too_long_later}
use Rattle.ax_format.proofs.SplitFronts.{empty_length, fit_few, fit_fits}
use Rattle.ax_format.proofs.SplitLists.{by_fit}
use Rattle.ax_format.specs.Blocks.{read_block}
use Rattle.ax_format.specs.Bodies.{SpellsBody}
use Rattle.ax_format.specs.CanonicalOctets.{canon_block}
use Rattle.ax_format.specs.Specification.{SpecTree}
use Rattle.ax_format.specs.Split.{first_too_long, fit_after, fit_count, fits_within, records_length, split_octets, too_long_within}
use Rattle.ax_format.specs.Tree.{EntriesTree}
use Rattle.ax_endpoints.proofs.Pieces.{change, failed_before, nothing_written, same_text, written_then}
use Rattle.ax_endpoints.specs.Changes.{SinkChange, Wrote}
use Rattle.ax_endpoints.specs.declared.sinks.SinkFailed.{SinkFailed}

-- ---- as many as fit

fit_short : (spec : SpecTree) (rs : List EntriesTree) → records_length spec (take (fit_count spec rs) rs) ≤ 65535
fit_short spec rs = fit_fits 65535 spec [] rs (let e : records_length spec [] ≡ 3 = empty_length spec in omega arith)

-- the first alone is too long where none fits
by_first : (spec : SpecTree) (r : EntriesTree) (rs : List EntriesTree) (b : Bool) → fits_within 65535 spec (r ∷ []) ≡ b → (cond b (suc (fit_after 65535 spec (r ∷ []) rs)) 0 ≡ 0 → fits_within 65535 spec (r ∷ []) ≡ false) × (0 < cond b (suc (fit_after 65535 spec (r ∷ []) rs)) 0 → fits_within 65535 spec (r ∷ []) ≡ true)
by_first spec r rs true e = ((λ z. absurd (omega (arith, z))), λ z. e)
by_first spec r rs false e = ((λ z. e), λ z. absurd (omega (arith, z)))

none_fits : (spec : SpecTree) (r : EntriesTree) (rs : List EntriesTree) → fit_count spec (r ∷ rs) ≡ 0 → too_long_within 65535 spec (r ∷ rs) ≡ Some (records_length spec (r ∷ []))
none_fits spec r rs e = ap (λ b. cond b (too_long_within 65535 spec rs) (Some (records_length spec (r ∷ [])))) ((by_first spec r rs (fits_within 65535 spec (r ∷ [])) refl).0 e)

some_fit : (spec : SpecTree) (rs : List EntriesTree) → 0 < length rs → too_long_within 65535 spec rs ≡ None → 0 < fit_count spec rs
some_fit spec [] some none = absurd (omega (arith, some))
some_fit spec (r ∷ rs) some none = by (fit_count spec (r ∷ rs)) refl
  where
    by : (n : ℕ) → fit_count spec (r ∷ rs) ≡ n → 0 < n
    by zero e = absurd (let s = sym (none_fits spec r rs e) ∙ none in cc)
    by (suc n) e = omega arith

later_long : (spec : SpecTree) (rs : List EntriesTree) → too_long_within 65535 spec rs ≡ too_long_within 65535 spec (drop (fit_count spec rs) rs)
later_long spec rs =
    let n = fit_count spec rs in
    ap (too_long_within 65535 spec) (sym (take-append-drop n rs)) ∙ too_long_later 65535 spec (take n rs) (drop n rs) (fit_short spec rs)

-- ---- records that are left

module _ (m : Migrator) (body : List ℕ) where
  -- the first records come into blocks of their own
  pub record Judged (from : ℕ) : Type 0 where
    pub there : HasRecords m body from
    pub later : (records : List EntriesTree) → SpellsBody (old_tree m) records (bits body) → first_too_long (new_tree m) (made_of m records) ≡ too_long_within 65535 (new_tree m) (made_from m from records)

  pub judged_first : Judged 0
  judged_first = record { there = record { there = λ records s. omega arith }; later = λ records s. refl }

  pub more_there : (from count : ℕ) → ((records : List EntriesTree) → SpellsBody (old_tree m) records (bits body) → count ≡ length records) → from < count → HasRecords m body (from + 1)
  more_there from count counted less = record { there = λ records s. omega (arith, counted records s, less) }

  left_some : (from : ℕ) (records : List EntriesTree) → from < length records → 0 < length (made_from m from records)
  left_some from records less = omega (arith, length-drop from (made_of m records), length-moved (old_tree m) (new_tree m) records, less)

  within_left : (from : ℕ) (records : List EntriesTree) → from < length records → from + fit_count (new_tree m) (made_from m from records) ≤ length records
  within_left from records less = omega (arith, fit_few 65535 (new_tree m) [] (made_from m from records), length-drop from (made_of m records), length-moved (old_tree m) (new_tree m) records, less)

  drop_on : (from n : ℕ) (records : List EntriesTree) → drop n (made_from m from records) ≡ made_from m (from + n) records
  drop_on from n records = drop-drop n from (made_of m records)

  module _ (from count : ℕ) (counted : (records : List EntriesTree) → SpellsBody (old_tree m) records (bits body) → count ≡ length records) (less : from < count) (fit : Fit) (f : FitsFrom m body from fit) where
    pub next_there : HasRecords m body (from + 1)
    next_there = more_there from count counted less

    pub fit_within_left : (records : List EntriesTree) → SpellsBody (old_tree m) records (bits body) → from + fit.count ≤ count
    fit_within_left records s = omega (arith, f.counted records s, counted records s, within_left from records (omega (arith, counted records s, less)))

    pub judged_more : Judged from → Judged (from + fit.count)
    judged_more j = record {
      there = record { there = λ records s. omega (arith, fit_within_left records s, counted records s) };
      later = λ records s. j.later records s ∙ later_long (new_tree m) (made_from m from records)
          ∙ ap (too_long_within 65535 (new_tree m)) (ap (λ n. drop n (made_from m from records)) (sym (f.counted records s)) ∙ drop_on from fit.count records);
    }

    -- the first of them is too long
    pub judged_long : Judged from → fit.count ≡ 0 → FindsTooLong m body (Some fit.octets)
    judged_long j none = record {
      found_is = λ records s. j.later records s ∙ first (made_from m from records) (left_some from records (omega (arith, counted records s, less))) (sym (f.counted records s) ∙ none)
          (f.measured records s ∙ ap (λ n. records_length (new_tree m) (take (max 1 n) (made_from m from records))) none);
    } where
      first : (rs : List EntriesTree) → 0 < length rs → fit_count (new_tree m) rs ≡ 0 → fit.octets ≡ records_length (new_tree m) (take 1 rs) → too_long_within 65535 (new_tree m) rs ≡ Some fit.octets
      first [] some e o = absurd (omega (arith, some))
      first (r ∷ rs) some e o = none_fits (new_tree m) r rs e ∙ ap Some (sym o)

  -- all are judged
  pub judged_none : (from count : ℕ) → ((records : List EntriesTree) → SpellsBody (old_tree m) records (bits body) → count ≡ length records) → count ≤ from → Judged from → FindsTooLong m body None
  judged_none from count counted past j = record {
    found_is = λ records s. j.later records s ∙ ap (too_long_within 65535 (new_tree m)) (drop_all from (made_of m records) (omega (arith, counted records s, past, length-moved (old_tree m) (new_tree m) records)));
  }

-- ---- blocks that are written

-- of the records that are left none is too long, and the blocks before are written
pub record BlocksSplit (m : Migrator) (o : SinkChange) (from : ℕ) (records : List EntriesTree) : Type 0 where
  pub octets : List ℕ
  pub wrote : Wrote o (Ok tt) octets
  pub later : split_octets (new_tree m) (made_of m records) ≡ octets ++ split_octets (new_tree m) (made_from m from records)

pub record BlocksSoFar (m : Migrator) (body : List ℕ) (o : SinkChange) (from : ℕ) : Type 0 where
  pub judged : Judged m body from
  pub split : (records : List EntriesTree) → SpellsBody (old_tree m) records (bits body) → BlocksSplit m o from records

pub blocks_begin : (m : Migrator) (body : List ℕ) (held : Option (List ℕ)) (faults : ℕ) → BlocksSoFar m body (change held held faults faults) 0
blocks_begin m body held faults = record { judged = judged_first m body; split = λ records s. record { octets = []; wrote = nothing_written held faults tt; later = refl } }

module _ (m : Migrator) (body : List ℕ) (none : FindsTooLong m body None) (from count : ℕ) (counted : (records : List EntriesTree) → SpellsBody (old_tree m) records (bits body) → count ≡ length records) (less : from < count) (fit : Fit) (f : FitsFrom m body from fit) where
  none_left : Judged m body from → (records : List EntriesTree) → SpellsBody (old_tree m) records (bits body) → too_long_within 65535 (new_tree m) (made_from m from records) ≡ None
  none_left j records s = sym (j.later records s) ∙ none.found_is records s

  pub fit_some : Judged m body from → (records : List EntriesTree) → SpellsBody (old_tree m) records (bits body) → 1 ≤ fit.count
  fit_some j records s = omega (arith, f.counted records s, some_fit (new_tree m) (made_from m from records) (left_some m body from records (omega (arith, counted records s, less))) (none_left j records s))

  pub fit_range : (records : List EntriesTree) → SpellsBody (old_tree m) records (bits body) → Judged m body from → IsRange m body from fit.count
  fit_range records s j = record {
    some = fit_some j records s;
    there = (judged_more m body from count counted less fit f j).there;
    short = λ rs t. subst (λ n. records_length (new_tree m) (take n (made_from m from rs)) ≤ 65535) (sym (f.counted rs t)) (fit_short (new_tree m) (made_from m from rs));
  }

  next_block : Judged m body from → (records : List EntriesTree) → SpellsBody (old_tree m) records (bits body)
      → split_octets (new_tree m) (made_from m from records) ≡ canon_block (new_tree m) (read_block (new_tree m).category (made_range m from fit.count records)) ++ split_octets (new_tree m) (made_from m (from + fit.count) records)
  next_block j records s =
      ap (flat_map (λ rs. canon_block (new_tree m) (read_block (new_tree m).category rs))) (by_fit 65535 (new_tree m) (made_from m from records) fit.count (sym (f.counted records s)) (fit_some j records s))
      ∙ ap (λ x. canon_block (new_tree m) (read_block (new_tree m).category (made_range m from fit.count records)) ++ split_octets (new_tree m) x) (drop_on m body from fit.count records)

  module _ (h h' h'' : Option (List ℕ)) (a a' a'' : ℕ) (t : BlocksSoFar m body (change h h' a a') from) where
    pub blocks_more : (u : Unit) → WritesRange m body from fit.count (change h' h'' a' a'') (Ok u) → BlocksSoFar m body (change h h'' a a'') (from + fit.count)
    blocks_more u w = record {
      judged = judged_more m body from count counted less fit f t.judged;
      split = λ records s. (
          let p = t.split records s in
          let piece = canon_block (new_tree m) (read_block (new_tree m).category (made_range m from fit.count records)) in
          record {
            octets = p.octets ++ piece;
            wrote = written_then h h' h'' a a' a'' tt (Ok u) p.octets piece p.wrote (w.wrote records s);
            later = p.later ∙ ap (λ x. p.octets ++ x) (next_block t.judged records s) ∙ sym (append_assoc p.octets piece (split_octets (new_tree m) (made_from m (from + fit.count) records)));
          });
    }

    pub blocks_cut : (e : SinkFailed) (r : Result Unit SinkFailed) → IsErr r → WritesRange m body from fit.count (change h' h'' a' a'') (Err e) → WritesBlocks m body (change h h'' a a'') r
    blocks_cut e r is w = record {
      wrote = λ records s. (
          let p = t.split records s in
          let piece = canon_block (new_tree m) (read_block (new_tree m).category (made_range m from fit.count records)) in
          let rest = split_octets (new_tree m) (made_from m (from + fit.count) records) in
          let cut : Wrote (change h' h'' a' a'') (Err e) (piece ++ rest) = failed_before h' h'' a' a'' e (Err e) piece rest refl (w.wrote records s) in
          same_text h h'' a a'' r (p.octets ++ (piece ++ rest)) (split_octets (new_tree m) (made_of m records)) (sym (p.later ∙ ap (λ x. p.octets ++ x) (next_block t.judged records s)))
          (any_failure r is (written_then h h' h'' a a' a'' tt (Err e) p.octets (piece ++ rest) p.wrote cut)));
    } where
      any_failure : {text : List ℕ} (r : Result Unit SinkFailed) → IsErr r → Wrote (change h h'' a a'') (Err e) text → Wrote (change h h'' a a'') r text
      any_failure (Ok u) is w = absurd (cc)
      any_failure (Err d) is w = record { whole = tt; part = w.part; later = w.later; once = w.once; quiet = tt }

pub blocks_end : (m : Migrator) (body : List ℕ) (h h' : Option (List ℕ)) (a a' : ℕ) (from count : ℕ) (u : Unit) → ((records : List EntriesTree) → SpellsBody (old_tree m) records (bits body) → count ≡ length records) → count ≤ from → BlocksSoFar m body (change h h' a a') from
    → WritesBlocks m body (change h h' a a') (Ok u)
blocks_end m body h h' a a' from count u counted past t = record {
  wrote = λ records s. (
      let p = t.split records s in
      let none : made_from m from records ≡ [] = drop_all from (made_of m records) (omega (arith, counted records s, past, length-moved (old_tree m) (new_tree m) records)) in
      let whole : split_octets (new_tree m) (made_of m records) ≡ p.octets = p.later ∙ ap (λ x. p.octets ++ split_octets (new_tree m) x) none ∙ append-nil p.octets in
      same_text h h' a a' (Ok u) p.octets (split_octets (new_tree m) (made_of m records)) (sym whole) (any p.wrote));
} where
  any : {text : List ℕ} → Wrote (change h h' a a') (Ok tt) text → Wrote (change h h' a a') (Ok u) text
  any w = record { whole = w.whole; part = tt; later = w.later; once = w.once; quiet = w.quiet }

-- a block that was laid and written
pub range_written : (m : Migrator) (body : List ℕ) (from count n : ℕ) (output : List ℕ) (h h' : Option (List ℕ)) (a a' : ℕ) (r : Result Unit SinkFailed) → n ≤ 65535 → LaysRange m body from count n output → Wrote (change h h' a a') r (take n output)
    → WritesRange m body from count (change h h' a a') r
range_written m body from count n output h h' a a' r short l w = record {
  wrote = λ records s. same_text h h' a a' r (take n output) (canon_block (new_tree m) (read_block (new_tree m).category (made_range m from count records))) (l.laid records s short) w;
}
