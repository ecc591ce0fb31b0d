-- The records of a body, by their octets.
use Rattle.std.proofs.Common.{◌≡◌, ℕ, zero, suc, ◌-◌, ◌<◌, ◌≤◌, false, List, [], ◌∷◌, ◌++◌, length, take, drop, map, flat_map, refl, sym, ◌∙◌, ap, arith, subst, take-append-drop}
use Rattle.std.specs.List.{AllZip}
use Rattle.ax_bits.proofs.Words.{bits-append, length-bits}
use Rattle.ax_bits.specs.Bits.{bits}
use Rattle.ax_format.proofs.Once.{body_once}
use Rattle.ax_format.specs.Bodies.{RecordsSpell, SpellsBody}
use Rattle.ax_format.specs.Flaws.{NoFlaw}
use Rattle.ax_format.specs.Specification.{SpecTree}
use Rattle.ax_format.specs.Tree.{EntriesTree}
use Rattle.ax_codec.specs.Standing.{StandsFor}
use Rattle.ax_codec.specs.Table.{record_kind_at}
use Rattle.ax_codec.specs.declared.codec.Codec.{Codec}
use Rattle.ax_walk.proofs.BodySteps.{some_records}
use Rattle.ax_walk.proofs.PieceSteps.{joined, never_fails, size_is, opened, listed}
use Rattle.ax_walk.proofs.Spelled.{record_spelled}
use Rattle.ax_walk.specs.Pieces.{first_size, pieces, ArePieces}
use Rattle.ax_walk.specs.RecordsAt.{IsRecordAt, IsNoRecord}
use Rattle.ax_walk.specs.Values.{entries_in, value_in}
use Rattle.ax_walk.specs.Views.{IsRecordOf, SpellEach, CountsRecords}

abbrev pub shown : Codec → List (List ℕ) → List (Codec × List ℕ)
shown codec octets = map (λ xs. (codec, xs)) octets

-- some records are spelled, one by each piece
record RecordsOf (codec : Codec) (spec : SpecTree) (n : ℕ) (xs : List ℕ) (octets : List (List ℕ)) : Type 0 where
  records : List EntriesTree
  spelled : RecordsSpell spec records (bits xs)
  each : AllZip (IsRecordOf codec spec) records (map (λ xs. (codec, xs)) octets)
  count : n ≡ length records

module _ (codec : Codec) (spec : SpecTree) (clean : NoFlaw spec) (stands : StandsFor codec spec) where
  records_of : (n : ℕ) (xs : List ℕ) → ArePieces false (record_kind_at codec.nodes codec.slots) n xs → RecordsOf codec spec n xs (pieces false (record_kind_at codec.nodes codec.slots) n xs)
  records_of zero xs h = record { records = []; spelled = ap bits h; each = tt; count = refl }
  records_of (suc n) xs h =
      let k = record_kind_at codec.nodes codec.slots in
      let m = first_size false k xs in
      let rest = records_of n (drop m xs) h.2 in
      let s = (record_spelled codec (take m xs) h.1).spells spec clean stands in
      record {
        records = entries_in (value_in k (take m xs)) ∷ rest.records;
        spelled = (bits (take m xs), bits (drop m xs), ap bits (sym (take-append-drop m xs)) ∙ bits-append (take m xs) (drop m xs), s, rest.spelled);
        each = ((refl, s), rest.each);
        count = ap suc rest.count;
      }

module _ (codec : Codec) (body : List ℕ) (n : ℕ) (some : 1 ≤ length body) (h : ArePieces false (record_kind_at codec.nodes codec.slots) n body) where
  same : (spec : SpecTree) (clean : NoFlaw spec) (stands : StandsFor codec spec) (records : List EntriesTree) → SpellsBody spec records (bits body) → (records_of codec spec clean stands n body h).records ≡ records
  same spec clean stands records s =
      let r = records_of codec spec clean stands n body h in
      body_once spec (bits body) r.records records (record { some = some_records spec r.records (bits body) r.spelled (omega (arith, length-bits body)); spelled = r.spelled }) s

  pub records_counted : CountsRecords codec body n
  records_counted = record { counts = λ spec records clean stands s. (records_of codec spec clean stands n body h).count ∙ ap length (same spec clean stands records s) }

  flat_shown : (octets : List (List ℕ)) → flat_map (λ (s : Codec × List ℕ). s.1) (map (λ xs. (codec, xs)) octets) ≡ flat_map (λ x. x) octets
  flat_shown [] = refl
  flat_shown (xs ∷ octets) = ap (λ y. xs ++ y) (flat_shown octets)

  pub records_shown : SpellEach codec body (map (λ xs. (codec, xs)) (pieces false (record_kind_at codec.nodes codec.slots) n body))
  records_shown = record {
    spells = λ spec records clean stands s. subst (λ rs. AllZip (IsRecordOf codec spec) rs (map (λ xs. (codec, xs)) (pieces false (record_kind_at codec.nodes codec.slots) n body))) (same spec clean stands records s) (records_of codec spec clean stands n body h).each;
    joined = flat_shown (pieces false (record_kind_at codec.nodes codec.slots) n body) ∙ joined false (record_kind_at codec.nodes codec.slots) n body h;
  }

-- ---- the next record

module _ (codec : Codec) (n : ℕ) (left : List ℕ) (some : n ≡ 0 → ⊥) (h : ArePieces false (record_kind_at codec.nodes codec.slots) n left) where
  pub record_there : IsNoRecord codec left 0 → ⊥
  record_there none = never_fails (record_kind_at codec.nodes codec.slots) n left none.fault codec.records.bounds some h none.failed

  module _ (end : ℕ) (octets : List ℕ) (r : IsRecordAt codec left 0 end octets) where
    end_is : first_size false (record_kind_at codec.nodes codec.slots) left ≡ end
    end_is = size_is (record_kind_at codec.nodes codec.slots) left 0 end (value_in (record_kind_at codec.nodes codec.slots) octets) r.read ∙ (let e : end - 0 ≡ end = omega arith in e)

    pub later_pieces : (later : List ℕ) → later ≡ drop end left → ArePieces false (record_kind_at codec.nodes codec.slots) (n - 1) later
    later_pieces later e = subst (ArePieces false (record_kind_at codec.nodes codec.slots) (n - 1)) (ap (λ m. drop m left) end_is ∙ sym e) (opened false (record_kind_at codec.nodes codec.slots) n left some h).2

    pub later_shown : (later : List ℕ) → later ≡ drop end left → shown codec (pieces false (record_kind_at codec.nodes codec.slots) n left) ≡ shown codec (octets ∷ pieces false (record_kind_at codec.nodes codec.slots) (n - 1) later)
    later_shown later e =
        let k = record_kind_at codec.nodes codec.slots in
        let first : take (first_size false k left) left ≡ octets = ap (λ m. take m left) (end_is ∙ (let z : end ≡ end - 0 = omega arith in z)) ∙ sym r.window in
        ap (shown codec) (listed false k n left some) ∙ (λ i. shown codec (first i ∷ pieces false k (n - 1) ((ap (λ m. drop m left) end_is ∙ sym e) i)))

pub shown_by : (codec other : Codec) (octets : List ℕ) (more : List (Codec × List ℕ)) → other ≡ codec → ◌≡◌ {A = List (Codec × List ℕ)} ((codec, octets) ∷ more) ((other, octets) ∷ more)
shown_by codec other octets more e = ap (λ (c : Codec). (let s : Codec × List ℕ = (c, octets) in s ∷ more)) (sym e)

pub fewer : {A : Type 0} (xs ys : List A) (x : A) → xs ≡ x ∷ ys → length ys < length xs
fewer xs ys x e = let n : length xs ≡ suc (length ys) = ap length e in omega arith
