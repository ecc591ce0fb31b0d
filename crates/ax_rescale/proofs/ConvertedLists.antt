-- Records converted one after another.
use Rattle.std.proofs.Common.{◌≡◌, ℕ, ◌+◌, ◌<◌, ◌≤◌, List, [], ◌∷◌, ◌++◌, length, map, take, drop, get_or, refl, sym, ◌∙◌, ap, arith, subst, append_assoc, append-nil}
use Rattle.std.proofs.lemmas.List.{drop_all, take_all, take_more, map-append, length-append}
use Rattle.std.specs.List.{AllByRecursion}
use Rattle.ax_format.proofs.Namings.{from_place}
use Rattle.ax_format.specs.Bodies.{RecordShape}
use Rattle.ax_format.specs.Plain.{spec_tree, record_tree, records_tree}
use Rattle.ax_format.specs.declared.record.Record.{Record}
use Rattle.ax_format.specs.declared.spec.Spec.{Spec}
use Rattle.ax_relation.specs.declared.relation.RelationPath.{RelationPath}
use Rattle.ax_rescale.specs.ConvertedRecord.{converted_record}
use Rattle.ax_rescale.specs.Converting.{converted_records}
use Rattle.ax_rescale.specs.Watching.{record_misses, found_misses}
use Rattle.ax_rescale.specs.declared.miss.Miss.{Miss}

-- after so many records, with these misses
pub record Going (old new : Spec) (paths : List RelationPath) (records : List Record) (start misses : List Miss) (made : List Record) (n i : ℕ) : Type 0 where
  pub counted : length made ≡ i
  pub numbered : n ≡ i
  pub made_is : records_tree made ≡ converted_records old new (records_tree (take i records))
  pub misses_are : misses ++ found_misses (spec_tree old) (spec_tree new) paths n (records_tree (drop i records)) ≡ start ++ found_misses (spec_tree old) (spec_tree new) paths 0 (records_tree records)
  pub shapes : AllByRecursion (RecordShape (spec_tree old)) (records_tree (drop i records))

module _ (old new : Spec) (paths : List RelationPath) (records : List Record) (start : List Miss) where
  pub going_start : (made : List Record) → made ≡ [] → AllByRecursion (RecordShape (spec_tree old)) (records_tree records) → Going old new paths records start start made 0 0
  going_start made e shapes = record {
    counted = ap (λ (l : List Record). length l) e;
    numbered = refl;
    made_is = ap records_tree e;
    misses_are = refl;
    shapes = shapes;
  }

  module _ (misses : List Miss) (made : List Record) (n i : ℕ) (items : List Record) (same : items ≡ records) (one : Record) (within : i < length items) (is : one ≡ get_or items i one) (g : Going old new paths records start misses made n i) where
    in_records : i < length records
    in_records = omega (arith, within, ap (λ (l : List Record). length l) same)

    is_there : one ≡ get_or records i one
    is_there = is ∙ ap (λ (l : List Record). get_or l i one) same

    pub going_shape : RecordShape (spec_tree old) (record_tree one)
    going_shape = (subst (λ (l : List Record). AllByRecursion (RecordShape (spec_tree old)) (records_tree l)) (from_place records i one in_records is_there) g.shapes).0

    pub going_next : (made' : List Record) (m : Record) (misses' : List Miss) → made' ≡ made ++ m ∷ [] → record_tree m ≡ converted_record (spec_tree old) (spec_tree new) (record_tree one)
        → misses' ≡ misses ++ record_misses (spec_tree old) (spec_tree new) n (record_tree one) (converted_record (spec_tree old) (spec_tree new) (record_tree one)) paths
        → Going old new paths records start misses' made' (n + 1) (i + 1)
    going_next made' m misses' pushed c e = record {
      counted = ap (λ (l : List Record). length l) pushed ∙ length-append made (m ∷ []) ∙ ap (λ k. k + 1) g.counted;
      numbered = ap (λ k. k + 1) g.numbered;
      made_is =
          ap records_tree pushed ∙ map-append record_tree made (m ∷ []) ∙ (λ j. g.made_is j ++ c j ∷ [])
          ∙ sym (ap (λ (l : List Record). converted_records old new (records_tree l)) (take_more records i one in_records ∙ ap (λ x. take i records ++ x ∷ []) (sym is_there))
          ∙ ap (map (converted_record (spec_tree old) (spec_tree new))) (map-append record_tree (take i records) (one ∷ []))
          ∙ map-append (converted_record (spec_tree old) (spec_tree new)) (records_tree (take i records)) (record_tree one ∷ []));
      misses_are =
          (λ j. e j ++ found_misses (spec_tree old) (spec_tree new) paths (n + 1) (records_tree (drop (i + 1) records)))
          ∙ append_assoc misses (record_misses (spec_tree old) (spec_tree new) n (record_tree one) (converted_record (spec_tree old) (spec_tree new) (record_tree one)) paths) (found_misses (spec_tree old) (spec_tree new) paths (n + 1) (records_tree (drop (i + 1) records)))
          ∙ ap (λ l. misses ++ l) (sym (ap (λ (l : List Record). found_misses (spec_tree old) (spec_tree new) paths n (records_tree l)) (from_place records i one in_records is_there)))
          ∙ g.misses_are;
      shapes = (subst (λ (l : List Record). AllByRecursion (RecordShape (spec_tree old)) (records_tree l)) (from_place records i one in_records is_there) g.shapes).1;
    }

  module _ (misses : List Miss) (made : List Record) (n i : ℕ) (past : length records ≤ i) (g : Going old new paths records start misses made n i) where
    pub going_made : records_tree made ≡ converted_records old new (records_tree records)
    going_made = g.made_is ∙ ap (λ (l : List Record). converted_records old new (records_tree l)) (take_all i records past)

    pub going_misses : misses ≡ start ++ found_misses (spec_tree old) (spec_tree new) paths 0 (records_tree records)
    going_misses = sym (append-nil misses) ∙ ap (λ l. misses ++ l) (sym (ap (λ (l : List Record). found_misses (spec_tree old) (spec_tree new) paths n (records_tree l)) (drop_all i records past))) ∙ g.misses_are
