-- Items and records that are printed, one after the other.
use Rattle.std.proofs.Common.{◌≡◌, ℕ, ◌+◌, ◌-◌, ◌<◌, ◌≤◌, List, [], ◌∷◌, ◌++◌, length, take, drop, refl, sym, ◌∙◌, ap, arith, subst, take-append-drop, take-add, length-drop}
use Rattle.std.proofs.lemmas.List.{length-take-le, take_all}
use Rattle.std.specs.Prelude.{codes}
use Rattle.ax_bits.proofs.Words.{bits-append, length-bits}
use Rattle.ax_bits.specs.Bits.{bits}
use Rattle.ax_fspec.specs.Fields.{MarksSlots}
use Rattle.ax_fspec.specs.declared.mask.SlotMask.{SlotMask}
use Rattle.ax_format.proofs.Bounds.{record_bounds}
use Rattle.ax_format.specs.Bodies.{RecordsSpell}
use Rattle.ax_format.specs.Flaws.{NoFlaw}
use Rattle.ax_format.specs.Specification.{SpecTree, record_slots, record_kind}
use Rattle.ax_format.specs.Tree.{EntriesTree, marked}
use Rattle.ax_fspec.proofs.Exact.{spelled_at, fault_at}
use Rattle.ax_fspec.specs.Reading.{IsMaskOf, record_slot_list, kind_read, entries_at}
use Rattle.ax_text_form.proofs.Printed.{none_put, both_put, braces_put}
use Rattle.ax_text_form.specs.BlockText.{record_onto, records_onto}
use Rattle.ax_text_form.specs.Printing.{after_spaces, Puts}
use Rattle.ax_text_form.specs.ValueText.{Texts, opening, closing, one_onto, in_braces, entries_onto}
use Rattle.ax_text_lines.proofs.Marked.{entries_onto_are}
use Rattle.ax_text_lines.specs.Prints.{slots_onto, Prints, IsRecordPrinted, PrintsBody}
use Rattle.ax_values.proofs.Marking.{compound_gets}
use Rattle.ax_values.proofs.RecordSlots.{record_at, record_fault, forwards_record, one_more}
use Rattle.ax_values.specs.Decoding.{IsRecordAt, IsBodyFault, IsFaultOf}
use Rattle.ax_values.specs.SlotReading.{HasFailed}
use Rattle.ax_values.specs.declared.error.DecodeError.{DecodeError}
use Rattle.ax_values.specs.declared.error.DecodeError.TheVariants as Decoding

-- ---- a record

pub record_printed : (spec : SpecTree) (mask : SlotMask) (body marks : List ℕ) (at here end : ℕ) (old a c d new : List ℕ) → NoFlaw spec → IsMaskOf (record_slot_list spec) mask → MarksSlots mask body at here marks → Puts after_spaces (one_onto (codes "record")) old a
    → Puts after_spaces (one_onto opening) a c → Prints (slots_onto (record_slots spec)) (entries_at (record_slots spec) marks body here) body here end c d → Puts after_spaces (one_onto closing) d new → IsRecordPrinted spec body at end old new
record_printed spec mask body marks at here end old a c d new clean m h w o p l =
    let read = compound_gets (record_slot_list spec) mask body marks at here end p.value m h p.read in
    let put : Puts after_spaces (entries_onto 1 (record_slots spec) p.value) c d = record { put = λ rest. p.put.put rest ∙ ap (λ t. c ++ after_spaces t) (sym (entries_onto_are (record_slot_list spec) body at end p.value rest (record_bounds spec clean) read)) } in record {
      entries = p.value;
      read = read;
      put = both_put (one_onto (codes "record")) (in_braces (entries_onto 1 (record_slots spec) p.value)) old a new w (braces_put (entries_onto 1 (record_slots spec) p.value) a c d new o put l);
    }

-- ---- a body

-- the first octets spell the records, and their texts are printed
pub record RecordsPrinted (spec : SpecTree) (body : List ℕ) (at : ℕ) (old now : List ℕ) : Type 0 where
  pub within : at ≤ length body
  pub records : List EntriesTree
  pub spelled : RecordsSpell spec records (bits (take at body))
  pub put : Puts after_spaces (records_onto spec records) old now

pub records_none : (spec : SpecTree) (body out : List ℕ) → RecordsPrinted spec body 0 out out
records_none spec body out = record { within = omega arith; records = []; spelled = refl; put = none_put out }

onto_more : (spec : SpecTree) (rs : List EntriesTree) (r : EntriesTree) (rest : Texts) → records_onto spec (rs ++ r ∷ []) rest ≡ records_onto spec rs (record_onto spec r rest)
onto_more spec [] r rest = refl
onto_more spec (s ∷ rs) r rest = ap (record_onto spec s) (onto_more spec rs r rest)

is_record : (spec : SpecTree) (body : List ℕ) (at end : ℕ) (old new : List ℕ) → NoFlaw spec → (p : IsRecordPrinted spec body at end old new) → IsRecordAt spec body at end p.entries
is_record spec body at end old new clean p = record_at spec body at end p.entries (spelled_at (record_kind spec) body at end (marked p.entries) (record_bounds spec clean) p.read)

pub record_forwards : (spec : SpecTree) (body : List ℕ) (at end : ℕ) (old new : List ℕ) → NoFlaw spec → IsRecordPrinted spec body at end old new → at < end
record_forwards spec body at end old new clean p = forwards_record spec body at end p.entries (is_record spec body at end old new clean p)

pub records_more : (spec : SpecTree) (body : List ℕ) (at end : ℕ) (old now new : List ℕ) → NoFlaw spec → RecordsPrinted spec body at old now → IsRecordPrinted spec body at end now new → RecordsPrinted spec body end old new
records_more spec body at end old now new clean h p =
    let g = is_record spec body at end now new clean p in
    let joined : bits (take end body) ≡ bits (take at body) ++ bits (take (end - at) (drop at body)) =
    ap (λ n. bits (take n body)) (let e : end ≡ at + (end - at) = omega (arith, g.forwards) in e) ∙ ap bits (take-add at (end - at) body) ∙ bits-append (take at body) (take (end - at) (drop at body)) in
    let both = both_put (records_onto spec h.records) (record_onto spec p.entries) old now new h.put p.put in record {
      within = g.within;
      records = h.records ++ p.entries ∷ [];
      spelled = subst (λ b. RecordsSpell spec (h.records ++ p.entries ∷ []) b) (sym joined) (one_more spec h.records p.entries (bits (take at body)) (bits (take (end - at) (drop at body))) h.spelled g.spelling);
      put = record { put = λ rest. both.put rest ∙ ap (λ t. old ++ after_spaces t) (sym (onto_more spec h.records p.entries rest)) };
    }

some_records : (records : List EntriesTree) (spec : SpecTree) (b : List ℕ) → RecordsSpell spec records b → 0 < length b → 0 < length records
some_records [] spec b h some = absurd (omega (arith, ap length h))
some_records (r ∷ records) spec b h some = omega arith

pub records_all : (spec : SpecTree) (body : List ℕ) (at : ℕ) (old now : List ℕ) → RecordsPrinted spec body at old now → length body ≤ at → 1 ≤ length body → PrintsBody spec body old now
records_all spec body at old now h past some =
    let s : RecordsSpell spec h.records (bits body) = subst (RecordsSpell spec h.records) (ap bits (take_all at body past)) h.spelled in
    record { records = h.records; spelled = record { some = some_records h.records spec (bits body) s (omega (arith, length-bits body)); spelled = s }; put = h.put }

-- the fault of a record is the body's
pub records_fault : (spec : SpecTree) (body : List ℕ) (at : ℕ) (old now : List ℕ) (e : DecodeError) → NoFlaw spec → RecordsPrinted spec body at old now → at < length body → HasFailed (kind_read (record_kind spec) body at) at e → IsFaultOf (IsBodyFault spec body) e
records_fault spec body at old now Decoding.OutOfMemory clean h lt t = tt
records_fault spec body at old now (Decoding.Fault fault) clean h lt t =
    let g = record_fault spec body at fault (fault_at (record_kind spec) body at fault (record_bounds spec clean) (t.met fault refl)) in record {
      fails = record {
        records = h.records;
        before = bits (take at body);
        left = bits (drop at body);
        split = ap bits (sym (take-append-drop at body)) ∙ bits-append (take at body) (drop at body);
        spelled = h.spelled;
        some = omega (arith, length-bits (drop at body), length-drop at body);
        place = g.place;
        counted = omega (arith, g.bit, length-bits (take at body), length-take-le at body h.within);
        fails = g.fails;
      };
    }
