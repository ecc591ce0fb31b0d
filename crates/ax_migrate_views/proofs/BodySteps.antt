-- Records laid one after the other.
use Rattle.std.proofs.Common.{◌≡◌, ℕ, ◌+◌, ◌-◌, ◌<◌, ◌≤◌, false, List, [], ◌∷◌, ◌++◌, length, take, drop, refl, sym, ◌∙◌, ap, arith, subst, append_assoc, append-nil, take-append-drop, take-add, length-append, length-drop}
use Rattle.std.proofs.lemmas.List.{length-take-le, take_all}
use Rattle.std.proofs.lemmas.List.Concat.{flat_map-append}
use Rattle.ax_bits.proofs.Words.{bits-append, length-bits}
use Rattle.ax_bits.specs.Bits.{bits}
use Rattle.ax_canon.proofs.BodyWriting.{gets_of, some_bits}
use Rattle.ax_relation.specs.Moves.{MovesTree}
use Rattle.ax_relation.specs.PlainMoves.{moves_tree}
use Rattle.ax_relation.specs.declared.moves.Move.{Move}
use Rattle.ax_relation.specs.declared.relation.RelationPath.{RelationPath}
use Rattle.ax_migration.specs.Finding.{record_losses, found_losses}
use Rattle.ax_migration.specs.Losing.{lost_line, lost_lines}
use Rattle.ax_migration.specs.declared.losses.LossEntry.{LossEntry}
use Rattle.ax_migrate_views.proofs.GonePaths.{found_more}
use Rattle.ax_moves.proofs.LaidRuns.{LaidRun, run_first, run_last}
use Rattle.ax_moves.proofs.ToldLines.{gathers_none, gathers_then, told_same}
use Rattle.ax_moves.specs.BySlot.{run_octets}
use Rattle.ax_migrate_views.specs.Bodies.{body_by, LaysBody, TellsBody}
use Rattle.ax_moves.specs.Laying.{Gathers, Lays}
use Rattle.ax_moves.specs.Octets.{canon_by}
use Rattle.ax_format.proofs.Bounds.{record_bounds}
use Rattle.ax_format.proofs.Once.{body_once}
use Rattle.ax_format.specs.Bodies.{RecordsSpell, SpellsBody, FailsBody}
use Rattle.ax_format.specs.Flaws.{NoFlaw}
use Rattle.ax_format.specs.Specification.{SpecTree, record_kind, record_slots}
use Rattle.ax_format.specs.Tree.{EntriesTree, marked}
use Rattle.ax_format.specs.declared.fault.BodyFault.{BodyFault}
use Rattle.ax_fspec.proofs.Exact.{spelled_at, fault_at}
use Rattle.ax_fspec.specs.Reading.{FailsAt, Gets, kind_read}
use Rattle.ax_codec.proofs.BareKinds.{stands_record}
use Rattle.ax_codec.specs.Bare.{bare_kind}
use Rattle.ax_codec.specs.Standing.{StandsFor}
use Rattle.ax_codec.specs.Table.{record_kind_at}
use Rattle.ax_codec.specs.declared.codec.Codec.{Codec}
use Rattle.ax_walk.proofs.BodySteps.{fails_of, one_more, record_value, some_records, record_forwards}
use Rattle.ax_walk.specs.Placing.{entries_there}
use Rattle.ax_walk.specs.Values.{value_read, entries_in}
use Rattle.ax_walk.specs.Views.{FailsThere, SpellsSome}

-- the records in front are laid, but for the octets from `from` on, which are those of records that stay as they are
pub record RecordsMoved (spec : SpecTree) (moves : List Move) (lost : List RelationPath) (block : ℕ) (body : List ℕ) (from here end number told : ℕ) (old now before lines : List ℕ) : Type 0 where
  pub records : List EntriesTree
  pub spelled : RecordsSpell spec records (bits (take here body))
  pub count : number ≡ length records
  pub laid : LaidRun (body_by (moves_tree moves) spec records) [] body from here 3 end old now
  pub lost_of : Gathers (lost_lines block (found_losses lost 0 records)) 0 told before lines

pub record BodyMoves (codec : Codec) (moves : List Move) (lost : List RelationPath) (block : ℕ) (body : List ℕ) (from here end number told : ℕ) (old now before lines : List ℕ) : Type 0 where
  pub forwards : from ≤ here
  pub within : here ≤ length body
  pub few : number ≤ here
  pub counted : told ≤ 4294967295
  pub records : (spec : SpecTree) → NoFlaw spec → StandsFor codec spec → RecordsMoved spec moves lost block body from here end number told old now before lines

pub body_first : (codec : Codec) (moves : List Move) (lost : List RelationPath) (block : ℕ) (body output lines : List ℕ) → BodyMoves codec moves lost block body 0 0 3 0 0 output output lines lines
body_first codec moves lost block body output lines = record {
  forwards = omega arith;
  within = omega arith;
  few = omega arith;
  counted = omega arith;
  records = λ spec clean stands. record { records = []; spelled = refl; count = refl; laid = run_first [] body 3 output (omega arith); lost_of = gathers_none 0 lines (omega arith) };
}

by_more : (ms : MovesTree) (spec : SpecTree) (rs : List EntriesTree) (r : EntriesTree) → body_by ms spec (rs ++ r ∷ []) ≡ body_by ms spec rs ++ canon_by ms (bare_kind (record_kind spec)) (marked r)
by_more ms spec [] r = append-nil (canon_by ms (bare_kind (record_kind spec)) (marked r))
by_more ms spec (x ∷ rs) r =
    ap (λ y. canon_by ms (bare_kind (record_kind spec)) (marked x) ++ y) (by_more ms spec rs r)
    ∙ sym (append_assoc (canon_by ms (bare_kind (record_kind spec)) (marked x)) (body_by ms spec rs) (canon_by ms (bare_kind (record_kind spec)) (marked r)))

-- each record has some octets
pub body_goes_on : (codec : Codec) (body : List ℕ) (here next : ℕ) (es : EntriesTree) → Gets (kind_read (record_kind_at codec.nodes codec.slots) body here) body here next (marked es) → here < next
body_goes_on codec body here next es read =
    record_forwards codec.nodes codec.slots body here next false codec.records.bounds (record { value = marked es; read = read; canonical = λ no_flag. cc })

module _ (codec : Codec) (moves : List Move) (lost : List RelationPath) (block : ℕ) (body : List ℕ) (from here end number told : ℕ) (old now before lines : List ℕ) (h : BodyMoves codec moves lost block body from here end number told old now before lines) (lt : here < length body) where
  -- the bits of the next record as it moves
  abbrev moved_bits : List ℕ
  moved_bits = canon_by (moves_tree moves) (record_kind_at codec.nodes codec.slots) (marked (entries_there codec.nodes codec.slots body here))

  -- what is laid goes on with them
  abbrev GoesOn : ℕ → ℕ → ℕ → List ℕ → Type 0
  GoesOn start next n new = (all : List ℕ) → LaidRun all [] body from here 3 end old now → LaidRun (all ++ moved_bits) [] body start next 3 n old new

  module _ (start next n : ℕ) (new : List ℕ) (entries : EntriesTree) (read : Gets (kind_read (record_kind_at codec.nodes codec.slots) body here) body here next (marked entries)) (on : start ≤ next) (l : GoesOn start next n new)
      (tells : ℕ) (after : List ℕ) (g : Gathers (lost_lines block (record_losses number (entries_there codec.nodes codec.slots body here) lost)) told tells lines after) where
    more : (spec : SpecTree) → NoFlaw spec → StandsFor codec spec → RecordsMoved spec moves lost block body from here end number told old now before lines → RecordsMoved spec moves lost block body start next n (number + 1) tells old new before after
    more spec clean stands t =
        let v = marked entries in
        let own = gets_of codec spec body here next v stands read in
        let x = bits (take (next - here) (drop here body)) in
        let s = spelled_at (record_kind spec) body here next v (record_bounds spec clean) own in
        let q = record_value (record_slots spec) v x s.spelling.spells in
        let joined : bits (take next body) ≡ bits (take here body) ++ x =
        ap (λ n. bits (take n body)) (let e : next ≡ here + (next - here) = omega (arith, s.forwards) in e) ∙ ap bits (take-add here (next - here) body) ∙ bits-append (take here body) (take (next - here) (drop here body)) in
        let there : marked (entries_there codec.nodes codec.slots body here) ≡ marked q.entries = ap (λ r. marked (entries_in (value_read r))) read.got ∙ q.is in
        let of_number : 0 + length t.records ≡ number = omega (arith, t.count) in
        let same : canon_by (moves_tree moves) (record_kind_at codec.nodes codec.slots) (marked (entries_there codec.nodes codec.slots body here)) ≡ canon_by (moves_tree moves) (bare_kind (record_kind spec)) (marked q.entries) =
        λ i. canon_by (moves_tree moves) (stands_record codec spec stands i) (there i) in
        record {
          records = t.records ++ q.entries ∷ [];
          spelled = subst (RecordsSpell spec (t.records ++ q.entries ∷ [])) (sym joined) (one_more spec t.records q.entries (bits (take here body)) x t.spelled (record { spells = q.spells }));
          count = omega (arith, t.count, length-append t.records (q.entries ∷ []));
          laid = subst (λ all. LaidRun all [] body start next 3 n old new) (ap (λ b. body_by (moves_tree moves) spec t.records ++ b) same ∙ sym (by_more (moves_tree moves) spec t.records q.entries)) (l (body_by (moves_tree moves) spec t.records) t.laid);
          lost_of = told_same (lost_lines block (found_losses lost 0 t.records) ++ lost_lines block (record_losses number (entries_there codec.nodes codec.slots body here) lost)) (lost_lines block (found_losses lost 0 (t.records ++ q.entries ∷ []))) 0 tells before after
              (ap (lost_lines block) (found_more lost 0 t.records q.entries) ∙ flat_map-append (λ (l : LossEntry). lost_line block l.record_at l.path) (found_losses lost 0 t.records) (record_losses (0 + length t.records) q.entries lost)
              ∙ (λ i. lost_lines block (found_losses lost 0 t.records) ++ lost_lines block (record_losses (of_number i) (entries_in (sym there i)) lost)))
              (gathers_then (lost_lines block (found_losses lost 0 t.records)) (lost_lines block (record_losses number (entries_there codec.nodes codec.slots body here) lost)) 0 told tells before lines after t.lost_of g);
        }

    pub body_next : BodyMoves codec moves lost block body start next n (number + 1) tells old new before after
    body_next = record { forwards = on; within = read.within; few = (let on = body_goes_on codec body here next entries read in let count = h.few in omega arith); counted = omega (arith, g.counted); records = λ spec clean stands. more spec clean stands (h.records spec clean stands) }

  failed : (spec : SpecTree) → NoFlaw spec → StandsFor codec spec → RecordsMoved spec moves lost block body from here end number told old now before lines → (fault : BodyFault) → FailsAt (kind_read (record_kind_at codec.nodes codec.slots) body here) here fault → FailsBody spec (bits body) fault.bit fault.cause
  failed spec clean stands t fault l =
      let f = fault_at (record_kind spec) body here fault (record_bounds spec clean) (fails_of codec spec body here fault stands l) in
      record {
        records = t.records;
        before = bits (take here body);
        left = bits (drop here body);
        split = ap bits (sym (take-append-drop here body)) ∙ bits-append (take here body) (drop here body);
        spelled = t.spelled;
        some = omega (arith, length-bits (drop here body), length-drop here body);
        place = f.place;
        counted = omega (arith, f.bit, length-bits (take here body), length-take-le here body h.within);
        fails = record { fails = f.fails.fails };
      }

  pub body_fails : (fault : BodyFault) → FailsAt (kind_read (record_kind_at codec.nodes codec.slots) body here) here fault → FailsThere codec body fault
  body_fails fault f = record { fails = λ spec clean stands. failed spec clean stands (h.records spec clean stands) fault f }

module _ (codec : Codec) (moves : List Move) (lost : List RelationPath) (block : ℕ) (body : List ℕ) (from here end number told : ℕ) (old now before lines : List ℕ) (h : BodyMoves codec moves lost block body from here end number told old now before lines) (past : length body ≤ here) where
  all_spelled : (spec : SpecTree) (t : RecordsMoved spec moves lost block body from here end number told old now before lines) → 0 < length (bits body) → SpellsBody spec t.records (bits body)
  all_spelled spec t some =
      let s : RecordsSpell spec t.records (bits body) = subst (RecordsSpell spec t.records) (ap bits (take_all here body past)) t.spelled in
      record { some = some_records spec t.records (bits body) s some; spelled = s }

  -- with the last run
  pub body_laid : (n : ℕ) (new : List ℕ) → Lays (bits (run_octets from here body)) end n now new → LaysBody codec moves body 3 n old new
  body_laid n new l = record {
    laid = λ spec records clean stands spells. (
        let t = h.records spec clean stands in
        subst (λ rs. Lays (body_by (moves_tree moves) spec rs) 3 n old new) (body_once spec (bits body) t.records records (all_spelled spec t (some_bits spec body records spells)) spells)
        (run_last (body_by (moves_tree moves) spec t.records) [] body from here 3 end old now t.laid n new refl l));
  }

  pub body_told : TellsBody codec lost block body told before lines
  body_told = record {
    told = λ spec records clean stands spells. (
        let t = h.records spec clean stands in
        subst (λ rs. Gathers (lost_lines block (found_losses lost 0 rs)) 0 told before lines) (body_once spec (bits body) t.records records (all_spelled spec t (some_bits spec body records spells)) spells) t.lost_of);
  }

  pub body_spelled : 1 ≤ length body → SpellsSome codec body
  body_spelled some = record {
    spells = λ spec clean stands. (
        let t = h.records spec clean stands in (t.records, all_spelled spec t (omega (arith, length-bits body))));
  }
