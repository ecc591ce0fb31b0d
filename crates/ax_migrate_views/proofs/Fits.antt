-- As many records as come into one block, one record after another.
use Rattle.std.proofs.Common.{◌≡◌, ℕ, zero, suc, ◌+◌, ◌-◌, ◌*◌, ◌<◌, ◌≤◌, ◌==◌, nat_le, min, max, Bool, true, false, cond, if◌then◌else◌, List, [], ◌∷◌, ◌++◌, length, map, take, drop, refl, sym, ◌∙◌, ap, arith, subst, append_assoc, append-nil, length-append}
use Rattle.std.proofs.Math.Seq.{take-append_seam}
use Rattle.std.proofs.lemmas.Bool.{le-leb, lt-leb}
use Rattle.std.proofs.lemmas.List.{map-append, take_all}
use Rattle.std.specs.List.{AllByRecursion, AllZip}
use Rattle.ax_bits.proofs.Words.{length-bits}
use Rattle.ax_bits.specs.Bits.{bits}
use Rattle.ax_canon.proofs.BodyWriting.{some_bits}
use Rattle.ax_canon.proofs.Patching.{body_shape}
use Rattle.ax_relation.specs.Moved.{moved_record}
use Rattle.ax_migrate_views.proofs.MigratedBlocks.{length-moved, moved_shapes}
use Rattle.ax_migrate_views.proofs.RangeLengths.{lengths_add, three_first}
use Rattle.ax_migrate_views.proofs.RangeRecords.{shown_spelled, zip_length}
use Rattle.ax_migrate_views.specs.Blocks.{old_tree, new_tree, IsOfEditions, LaysMigrated}
use Rattle.ax_migrate_views.specs.Ranges.{made_of, shown_octets, AreRecordsOf, FitsShown, SpellsOld}
use Rattle.ax_migrate_views.specs.declared.migrator.Migrator.{Migrator}
use Rattle.ax_migrate_views.specs.declared.ranges.Fit.{Fit}
use Rattle.ax_format.proofs.Bounds.{record_bounds}
use Rattle.ax_format.proofs.SplitFronts.{empty_length}
use Rattle.ax_format.specs.Blocks.{read_block}
use Rattle.ax_format.specs.Bodies.{RecordShape, SpellsBody}
use Rattle.ax_format.specs.CanonicalOctets.{canon_length}
use Rattle.ax_format.specs.Specification.{SpecTree}
use Rattle.ax_format.specs.Split.{fit_after, fit_count, fits_within, records_length}
use Rattle.ax_format.specs.Tree.{EntriesTree}
use Rattle.ax_codec.specs.declared.codec.Codec.{Codec}
use Rattle.ax_walk.specs.Views.{IsRecordOf}

-- ---- each of some records

all_front : {A : Type 0} (P : A → Type 0) (xs ys : List A) → AllByRecursion P (xs ++ ys) → AllByRecursion P xs
all_front P [] ys h = tt
all_front P (x ∷ xs) ys h = (h.0, all_front P xs ys h.1)

all_back : {A : Type 0} (P : A → Type 0) (xs ys : List A) → AllByRecursion P (xs ++ ys) → AllByRecursion P ys
all_back P [] ys h = h
all_back P (x ∷ xs) ys h = all_back P xs ys h.1

-- ---- the invariant

-- of the records so many are taken, which fit, and what is told of the others stands after them
pub record FitSplit (m : Migrator) (now : List (Codec × List ℕ)) (count octets : ℕ) (rs : List EntriesTree) : Type 0 where
  pub taken : List EntriesTree
  pub rest : List EntriesTree
  pub is : rs ≡ taken ++ rest
  pub later : AllZip (IsRecordOf m.codec.now (old_tree m)) rest now
  pub counted : count ≡ length taken
  pub measured : octets ≡ records_length (new_tree m) (made_of m taken)
  pub fit : fit_count (new_tree m) (made_of m rs) ≡ count + fit_after 65535 (new_tree m) (made_of m taken) (made_of m rest)

pub record FitSoFar (m : Migrator) (start now : List (Codec × List ℕ)) (count octets : ℕ) : Type 0 where
  pub records : AreRecordsOf m now
  pub few : octets ≤ 65535
  pub counts : count + length now ≡ length start
  pub split : (rs : List EntriesTree) → AllZip (IsRecordOf m.codec.now (old_tree m)) rs start → FitSplit m now count octets rs

none_before : (n : ℕ) → n ≡ 0 + n
none_before n = omega arith

pub fit_begins : (m : Migrator) (start : List (Codec × List ℕ)) → AreRecordsOf m start → FitSoFar m start start 0 3
fit_begins m start h = record {
  records = h;
  few = omega arith;
  counts = (let e : 0 + length start ≡ length start = omega arith in e);
  split = λ rs z. record { taken = []; rest = rs; is = refl; later = z; counted = refl; measured = sym (empty_length (new_tree m)); fit = none_before (fit_count (new_tree m) (made_of m rs)) };
}

-- the next record is spelled by its octets
module _ (m : Migrator) (of : IsOfEditions m) (s : Codec × List ℕ) (now : List (Codec × List ℕ)) (h : AreRecordsOf m (s ∷ now)) where
  pub next_spelled : SpellsOld m s.1
  next_spelled = by h.records h.each
    where
      by : (rs : List EntriesTree) → AllZip (IsRecordOf m.codec.now (old_tree m)) rs (s ∷ now) → SpellsOld m s.1
      by [] z = absurd z
      by (r ∷ rs) z = record { records = r ∷ []; spelled = record { some = omega arith; spelled = (bits s.1, [], sym (append-nil (bits s.1)), z.0.1, refl) } }

  pub next_size : (1 ≤ length s.1) × (length s.1 ≤ 65532)
  next_size = (
    omega (arith, some_bits (old_tree m) s.1 next_spelled.records next_spelled.spelled, length-bits s.1),
    (let f : length (shown_octets (s ∷ now)) ≤ 65532 = h.few in omega (arith, f, length-append s.1 (shown_octets now))),
  )

pub at_next : (m : Migrator) (start before now : List (Codec × List ℕ)) (s : Codec × List ℕ) (count octets : ℕ) → FitSoFar m start before count octets → before ≡ s ∷ now → FitSoFar m start (s ∷ now) count octets
at_next m start before now s count octets t e = subst (λ l. FitSoFar m start l count octets) e t

-- ---- one record more

made_more : (m : Migrator) (taken : List EntriesTree) (r : EntriesTree) → made_of m (taken ++ r ∷ []) ≡ made_of m taken ++ made_of m (r ∷ [])
made_more m taken r = map-append (moved_record (old_tree m) (new_tree m)) taken (r ∷ [])

module _ (m : Migrator) (of : IsOfEditions m) (s : Codec × List ℕ) (now : List (Codec × List ℕ)) (own : ℕ) (output : List ℕ) (l : LaysMigrated m s.1 own output) where
  own_is : (r : EntriesTree) → IsRecordOf m.codec.now (old_tree m) r s → own ≡ records_length (new_tree m) (made_of m (r ∷ []))
  own_is r h =
      let one : SpellsBody (old_tree m) (r ∷ []) (bits s.1) = record { some = omega arith; spelled = (bits s.1, [], sym (append-nil (bits s.1)), h.1, refl) } in
      (l.block (r ∷ []) one).counted ∙ ap (λ c. canon_length (new_tree m) (read_block c (made_of m (r ∷ [])))) of.related.category

  sum : (taken rest : List EntriesTree) (r : EntriesTree) → AllByRecursion (RecordShape (old_tree m)) (taken ++ r ∷ rest) → IsRecordOf m.codec.now (old_tree m) r s
      → records_length (new_tree m) (made_of m taken ++ made_of m (r ∷ [])) + 3 ≡ records_length (new_tree m) (made_of m taken) + own
  sum taken rest r shapes h =
      let P = RecordShape (old_tree m) in
      let whole : AllByRecursion P ((taken ++ r ∷ []) ++ rest) = subst (AllByRecursion P) (sym (append_assoc taken (r ∷ []) rest)) shapes in
      let both = subst (AllByRecursion (RecordShape (new_tree m))) (made_more m taken r) (moved_shapes (old_tree m) (new_tree m) (taken ++ r ∷ []) (all_front P (taken ++ r ∷ []) rest whole)) in
      let one = moved_shapes (old_tree m) (new_tree m) (r ∷ []) (all_front P (r ∷ []) rest (all_back P taken (r ∷ rest) shapes)) in
      lengths_add (new_tree m) (made_of m taken) (made_of m (r ∷ [])) (record_bounds (new_tree m) of.related.new_no_flaw) (moved_shapes (old_tree m) (new_tree m) taken (all_front P taken (r ∷ rest) shapes)) one both
      ∙ ap (λ n. records_length (new_tree m) (made_of m taken) + n) (sym (own_is r h))

  pub own_some : (start : List (Codec × List ℕ)) (count octets : ℕ) → FitSoFar m start (s ∷ now) count octets → 3 ≤ own
  own_some start count octets t = by t.records.records t.records.each
    where
      by : (rs : List EntriesTree) → AllZip (IsRecordOf m.codec.now (old_tree m)) rs (s ∷ now) → 3 ≤ own
      by [] z = absurd z
      by (r ∷ rs) z = subst (λ n. 3 ≤ n) (sym (own_is r z.0)) (three_first (new_tree m) (made_of m (r ∷ [])))

  shapes_of : (start : List (Codec × List ℕ)) (rs : List EntriesTree) → AllZip (IsRecordOf m.codec.now (old_tree m)) rs start → AllByRecursion (RecordShape (old_tree m)) rs
  shapes_of start rs z = body_shape (old_tree m) rs (bits (shown_octets start)) (shown_spelled m.codec.now (old_tree m) rs start z)

  module _ (count octets more : ℕ) (some : 3 ≤ own) (fits : own < 4294967296) (few : octets ≤ 65535) (is : more ≡ min (octets + (own - 3)) 4294967295) where
    -- it fits
    split_more : (rs taken rest : List EntriesTree) (r : EntriesTree) → rs ≡ taken ++ r ∷ rest → AllByRecursion (RecordShape (old_tree m)) rs → IsRecordOf m.codec.now (old_tree m) r s → AllZip (IsRecordOf m.codec.now (old_tree m)) rest now → count ≡ length taken
        → octets ≡ records_length (new_tree m) (made_of m taken) → fit_count (new_tree m) (made_of m rs) ≡ count + fit_after 65535 (new_tree m) (made_of m taken) (made_of m (r ∷ rest)) → more ≤ 65535 → FitSplit m now (count + 1) more rs
    split_more rs taken rest r e shapes h z counted measured fit short =
        let total = sum taken rest r (subst (AllByRecursion (RecordShape (old_tree m))) e shapes) h in
        let size : records_length (new_tree m) (made_of m taken ++ made_of m (r ∷ [])) ≡ more = omega (arith, total, is, short, measured, some) in
        let yes : fits_within 65535 (new_tree m) (made_of m taken ++ made_of m (r ∷ [])) ≡ true = ap (λ n. nat_le n 65535) size ∙ le-leb more 65535 short in
        let next = fit_after 65535 (new_tree m) (made_of m taken ++ made_of m (r ∷ [])) (made_of m rest) in
        record {
          taken = taken ++ r ∷ [];
          rest = rest;
          is = e ∙ sym (append_assoc taken (r ∷ []) rest);
          later = z;
          counted = omega (arith, counted, length-append taken (r ∷ []));
          measured = sym size ∙ ap (records_length (new_tree m)) (sym (made_more m taken r));
          fit = fit ∙ ap (λ b. count + cond b (suc next) 0) yes ∙ (let o : count + suc next ≡ count + 1 + next = omega arith in o)
              ∙ ap (λ x. count + 1 + fit_after 65535 (new_tree m) x (made_of m rest)) (sym (made_more m taken r));
        }

    -- it doesn't
    split_stops : (rs taken rest : List EntriesTree) (r : EntriesTree) → rs ≡ taken ++ r ∷ rest → AllByRecursion (RecordShape (old_tree m)) rs → IsRecordOf m.codec.now (old_tree m) r s
        → octets ≡ records_length (new_tree m) (made_of m taken) → fit_count (new_tree m) (made_of m rs) ≡ count + fit_after 65535 (new_tree m) (made_of m taken) (made_of m (r ∷ rest)) → 65535 < more → count ≡ fit_count (new_tree m) (made_of m rs)
    split_stops rs taken rest r e shapes h measured fit long =
        let total = sum taken rest r (subst (AllByRecursion (RecordShape (old_tree m))) e shapes) h in
        let size : 65535 < records_length (new_tree m) (made_of m taken ++ made_of m (r ∷ [])) = omega (arith, total, is, long, measured, some) in
        let no : fits_within 65535 (new_tree m) (made_of m taken ++ made_of m (r ∷ [])) ≡ false = lt-leb (records_length (new_tree m) (made_of m taken ++ made_of m (r ∷ []))) 65535 size in
        let next = fit_after 65535 (new_tree m) (made_of m taken ++ made_of m (r ∷ [])) (made_of m rest) in
        sym (fit ∙ ap (λ b. count + cond b (suc next) 0) no ∙ (let o : count + 0 ≡ count = omega arith in o))

    pub fit_more : (start : List (Codec × List ℕ)) → FitSoFar m start (s ∷ now) count octets → more ≤ 65535 → FitSoFar m start now (count + 1) more
    fit_more start t short = record {
      records = by_records t.records.records t.records.each;
      few = short;
      counts = (let c : count + length (s ∷ now) ≡ length start = t.counts in omega arith);
      split = λ rs z. by rs (t.split rs z).taken (t.split rs z).rest (t.split rs z).is (shapes_of start rs z) (t.split rs z).later (t.split rs z).counted (t.split rs z).measured (t.split rs z).fit;
    } where
      by_records : (rs : List EntriesTree) → AllZip (IsRecordOf m.codec.now (old_tree m)) rs (s ∷ now) → AreRecordsOf m now
      by_records [] z = absurd z
      by_records (r ∷ rs) z = record { records = rs; each = z.1; few = (let f : length (shown_octets (s ∷ now)) ≤ 65532 = t.records.few in omega (arith, f, length-append s.1 (shown_octets now))) }

      by : (rs taken rest : List EntriesTree) → rs ≡ taken ++ rest → AllByRecursion (RecordShape (old_tree m)) rs → AllZip (IsRecordOf m.codec.now (old_tree m)) rest (s ∷ now) → count ≡ length taken → octets ≡ records_length (new_tree m) (made_of m taken)
          → fit_count (new_tree m) (made_of m rs) ≡ count + fit_after 65535 (new_tree m) (made_of m taken) (made_of m rest) → FitSplit m now (count + 1) more rs
      by rs taken [] e shapes z counted measured fit = absurd z
      by rs taken (r ∷ rest) e shapes z counted measured fit = split_more rs taken rest r e shapes z.0 z.1 counted measured fit short

    -- what is answered there
    front_taken : (rs taken rest : List EntriesTree) (n : ℕ) → rs ≡ taken ++ rest → n ≡ length taken → take n (made_of m rs) ≡ made_of m taken
    front_taken rs taken rest n e counted =
        ap (λ x. take n (made_of m x)) e ∙ ap (take n) (map-append (moved_record (old_tree m) (new_tree m)) taken rest)
        ∙ ap (λ k. take k (made_of m taken ++ made_of m rest)) (counted ∙ sym (length-moved (old_tree m) (new_tree m) taken)) ∙ take-append_seam (made_of m taken) (made_of m rest)

    stop_measured : (rs taken rest : List EntriesTree) (r : EntriesTree) (answer : ℕ) → rs ≡ taken ++ r ∷ rest → IsRecordOf m.codec.now (old_tree m) r s → count ≡ length taken → octets ≡ records_length (new_tree m) (made_of m taken)
        → (count ≡ 0 → answer ≡ more) → (0 < count → answer ≡ octets) → answer ≡ records_length (new_tree m) (take (max 1 count) (made_of m rs))
    stop_measured rs [] rest r answer e h counted measured none some_taken =
        let zero_is : max 1 count ≡ 1 = omega (arith, counted) in
        let three : octets ≡ 3 = measured ∙ empty_length (new_tree m) in
        let whole : more ≡ own = omega (arith, is, three, fits, some) in
        none (counted) ∙ whole ∙ own_is r h ∙ ap (records_length (new_tree m)) (sym (ap (λ n. take n (made_of m rs)) zero_is ∙ ap (λ x. take 1 (made_of m x)) e))
    stop_measured rs (x ∷ taken) rest r answer e h counted measured none some_taken =
        let count_is : max 1 count ≡ count = omega (arith, counted) in
        some_taken (omega (arith, counted)) ∙ measured ∙ ap (records_length (new_tree m)) (sym (ap (λ n. take n (made_of m rs)) count_is ∙ front_taken rs (x ∷ taken) (r ∷ rest) count e counted))

    pub fit_stops : (start : List (Codec × List ℕ)) (answer : ℕ) → FitSoFar m start (s ∷ now) count octets → 65535 < more → (count ≡ 0 → answer ≡ more) → (0 < count → answer ≡ octets) → FitsShown m start (record { count = count; octets = answer })
    fit_stops start answer t long none some_taken = record {
      counted = λ rs z. by_count rs (t.split rs z).taken (t.split rs z).rest (t.split rs z).is (shapes_of start rs z) (t.split rs z).later (t.split rs z).measured (t.split rs z).fit;
      measured = λ rs z. by_octets rs (t.split rs z).taken (t.split rs z).rest (t.split rs z).is (t.split rs z).later (t.split rs z).counted (t.split rs z).measured;
    } where
      by_count : (rs taken rest : List EntriesTree) → rs ≡ taken ++ rest → AllByRecursion (RecordShape (old_tree m)) rs → AllZip (IsRecordOf m.codec.now (old_tree m)) rest (s ∷ now) → octets ≡ records_length (new_tree m) (made_of m taken)
          → fit_count (new_tree m) (made_of m rs) ≡ count + fit_after 65535 (new_tree m) (made_of m taken) (made_of m rest) → count ≡ fit_count (new_tree m) (made_of m rs)
      by_count rs taken [] e shapes z measured fit = absurd z
      by_count rs taken (r ∷ rest) e shapes z measured fit = split_stops rs taken rest r e shapes z.0 measured fit long

      by_octets : (rs taken rest : List EntriesTree) → rs ≡ taken ++ rest → AllZip (IsRecordOf m.codec.now (old_tree m)) rest (s ∷ now) → count ≡ length taken → octets ≡ records_length (new_tree m) (made_of m taken)
          → answer ≡ records_length (new_tree m) (take (max 1 count) (made_of m rs))
      by_octets rs taken [] e z counted measured = absurd z
      by_octets rs taken (r ∷ rest) e z counted measured = stop_measured rs taken rest r answer e z.0 counted measured none some_taken

-- ---- no record more

pub fit_ends : (m : Migrator) (start now : List (Codec × List ℕ)) (count octets : ℕ) → FitSoFar m start now count octets → now ≡ [] → 0 < length start → FitsShown m start (record { count = count; octets = octets })
fit_ends m start now count octets t none some = record {
  counted = λ rs z. by_count rs (t.split rs z).taken (t.split rs z).rest (later_none rs z) (t.split rs z).fit;
  measured = λ rs z. (
      let q = t.split rs z in
      let n : count ≡ length start = omega (arith, t.counts, ap length none) in
      let whole : rs ≡ q.taken = q.is ∙ ap (λ x. q.taken ++ x) (later_none rs z) ∙ append-nil q.taken in
      let one : max 1 count ≡ count = omega (arith, n, some) in
      let long : length (made_of m rs) ≤ count = omega (arith, length-moved (old_tree m) (new_tree m) rs, zip_length (IsRecordOf m.codec.now (old_tree m)) rs start z, n) in
      q.measured ∙ ap (λ x. records_length (new_tree m) (made_of m x)) (sym whole) ∙ ap (records_length (new_tree m)) (sym (ap (λ k. take k (made_of m rs)) one ∙ take_all count (made_of m rs) long)));
} where
  nothing : (rest : List EntriesTree) (now : List (Codec × List ℕ)) → AllZip (IsRecordOf m.codec.now (old_tree m)) rest now → now ≡ [] → rest ≡ []
  nothing [] now z e = refl
  nothing (r ∷ rest) [] z e = absurd z
  nothing (r ∷ rest) (s ∷ now) z e = absurd (cc)

  later_none : (rs : List EntriesTree) (z : AllZip (IsRecordOf m.codec.now (old_tree m)) rs start) → (t.split rs z).rest ≡ []
  later_none rs z = nothing (t.split rs z).rest now (t.split rs z).later none

  by_count : (rs taken rest : List EntriesTree) → rest ≡ [] → fit_count (new_tree m) (made_of m rs) ≡ count + fit_after 65535 (new_tree m) (made_of m taken) (made_of m rest) → count ≡ fit_count (new_tree m) (made_of m rs)
  by_count rs taken rest e fit = sym (fit ∙ ap (λ x. count + fit_after 65535 (new_tree m) (made_of m taken) (made_of m x)) e ∙ (let o : count + 0 ≡ count = omega arith in o))
