-- Records, and bodies of them.
use Rattle.std.proofs.Common.{◌≡◌, ℕ, suc, ◌+◌, ◌-◌, ◌<◌, ◌≤◌, List, [], ◌∷◌, ◌++◌, length, take, drop, codes, decimal, refl, sym, ◌∙◌, ap, arith, subst, length-append, take-append-drop, length-drop, take-add}
use Rattle.std.proofs.lemmas.List.{length-take-le, take_all}
use Rattle.ax_bits.proofs.Words.{bits-append, length-bits}
use Rattle.ax_bits.specs.Bits.{bits}
use Rattle.ax_fspec.specs.Fields.{MarksSlots}
use Rattle.ax_fspec.specs.declared.mask.SlotMask.{SlotMask}
use Rattle.ax_format.proofs.Bounds.{record_bounds}
use Rattle.ax_format.specs.Bodies.{RecordsSpell}
use Rattle.ax_format.specs.Flaws.{NoFlaw}
use Rattle.ax_format.specs.InBounds.{InBounds}
use Rattle.ax_format.specs.Paths.{three_digits, at}
use Rattle.ax_format.specs.Specification.{SpecTree, record_kind, record_slots}
use Rattle.ax_format.specs.Tree.{EntriesTree, marked}
use Rattle.ax_fspec.proofs.Continuing.{gets_after, fails_after}
use Rattle.ax_fspec.proofs.Exact.{spelled_at, fault_at}
use Rattle.ax_fspec.proofs.Marking.{field_read, marks_bits}
use Rattle.ax_fspec.specs.Reading.{FailsAt, IsMaskOf, record_slot_list, kind_read, entries_at}
use Rattle.ax_text_form.specs.Printing.{as_lines, Puts}
use Rattle.ax_text_form.specs.ShowText.{entries_lines, record_lines, records_lines}
use Rattle.ax_text_form.specs.ValueText.{Texts, one_onto}
use Rattle.ax_values.proofs.RecordSlots.{record_at, record_fault, one_more, forwards_record}
use Rattle.ax_values.specs.Decoding.{IsRecordAt, IsBodyFault, IsFaultOf}
use Rattle.ax_values.specs.SlotReading.{HasFailed}
use Rattle.ax_values.specs.declared.error.DecodeError.{DecodeError}
use Rattle.ax_values.specs.declared.error.DecodeError.TheVariants as Decoding
use Rattle.ax_listing.specs.Shown.{ShowsEntries, ShowsRecords}
use Rattle.ax_listing.proofs.Leading.{Ending}
use Rattle.ax_held_kinds.proofs.MarkedSlots.{marks_clear}
use Rattle.ax_listing.proofs.MarkedLines.{MarksShown, entries_lines_are, few_at_first}

-- ---- the items of a record

abbrev pub items_done : SpecTree → List ℕ → List ℕ → ℕ → List ℕ → Ending
items_done spec path body at old end new n = ShowsEntries spec (entries_lines path 1 (record_slots spec)) body at end old new

pub items_first : (spec : SpecTree) (mask : SlotMask) (path body marks : List ℕ) (at here : ℕ) (out : List ℕ) → InBounds (record_kind spec) → IsMaskOf (record_slot_list spec) mask → MarksSlots mask body at here marks
    → MarksShown (items_done spec path body at out) (FailsAt (kind_read (record_kind spec) body at) at) (record_slot_list spec) path marks body here out 0
items_first spec mask path body marks at here out bounds m h = record {
  within = h.within;
  few = few_at_first marks;
  clear = marks_clear (record_slot_list spec) mask body marks at here m h;
  are_bits = marks_bits mask body marks at here h;
  leads = record {
    within = h.within;
    ends = λ end es new n g p e.
        let ss = record_slots spec in
        let read = gets_after (kind_read (record_kind spec) body at) (entries_at ss marks body here) body at here end (λ es. marked es) es (field_read (record_slot_list spec) mask body marks at here m h) g in record {
          entries = es;
          read = read;
          put = record { put = λ t. p.put t ∙ ap (λ u. out ++ as_lines u) (sym (entries_lines_are ss path body at end es t bounds read)) };
        };
    fails = λ fault f. fails_after (kind_read (record_kind spec) body at) (entries_at (record_slots spec) marks body here) at here (λ es. marked es) fault (field_read (record_slot_list spec) mask body marks at here m h) f;
  };
}

-- ---- a record

pub record_shown : (spec : SpecTree) (number : ℕ) (path body : List ℕ) (here end : ℕ) (old mid new : List ℕ) → path ≡ three_digits spec.category → Puts as_lines (one_onto (codes "record " ++ decimal number)) old mid
    → ShowsEntries spec (entries_lines path 1 (record_slots spec)) body here end mid new → ShowsEntries spec (record_lines spec number) body here end old new
record_shown spec number path body here end old mid new e p h = record {
  entries = h.entries;
  read = h.read;
  put = record { put = λ t. h.put.put t ∙ ap (λ path. mid ++ as_lines (entries_lines path 1 (record_slots spec) h.entries t)) e ∙ p.put (entries_lines (three_digits spec.category) 1 (record_slots spec) h.entries t) };
}

pub ruleset record_ways = record_shown

-- ---- a body

-- these records are spelled by the first octets, and shown
pub record BodyShown (spec : SpecTree) (body : List ℕ) (at number : ℕ) (old now : List ℕ) : Type 0 where
  pub records : List EntriesTree
  pub counted : length records ≡ number
  pub within : at ≤ length body
  pub few : number ≤ at
  pub spelled : RecordsSpell spec records (bits (take at body))
  pub put : Puts as_lines (records_lines spec 0 records) old now

pub body_first : (spec : SpecTree) (body out : List ℕ) → BodyShown spec body 0 0 out out
body_first spec body out = record { records = []; counted = refl; within = omega arith; few = omega arith; spelled = refl; put = record { put = λ t. refl } }

lines_more : (spec : SpecTree) (i : ℕ) (rs : List EntriesTree) (r : EntriesTree) (t : Texts) → records_lines spec i (rs ++ r ∷ []) t ≡ records_lines spec i rs (record_lines spec (i + length rs) r t)
lines_more spec i [] r t = ap (λ n. record_lines spec n r t) (let e : i ≡ i + 0 = omega arith in e)
lines_more spec i (s ∷ rs) r t = ap (λ u. record_lines spec i s u) (lines_more spec (i + 1) rs r t ∙ ap (λ n. records_lines spec (i + 1) rs (record_lines spec n r t)) (let e : i + 1 + length rs ≡ i + suc (length rs) = omega arith in e))

module _ (spec : SpecTree) (clean : NoFlaw spec) (body : List ℕ) (at number : ℕ) (old now : List ℕ) (h : BodyShown spec body at number old now) where
  is_record : (end : ℕ) (new : List ℕ) (w : ShowsEntries spec (record_lines spec number) body at end now new) → IsRecordAt spec body at end w.entries
  is_record end new w = record_at spec body at end w.entries (spelled_at (record_kind spec) body at end (marked w.entries) (record_bounds spec clean) w.read)

  pub record_on : (end : ℕ) (new : List ℕ) → ShowsEntries spec (record_lines spec number) body at end now new → at < end
  record_on end new w = forwards_record spec body at end w.entries (is_record end new w)

  pub body_next : (end : ℕ) (new : List ℕ) → ShowsEntries spec (record_lines spec number) body at end now new → BodyShown spec body end (number + 1) old new
  body_next end new w =
      let r = is_record end new w in
      let joined : bits (take end body) ≡ bits (take at body) ++ bits (take (end - at) (drop at body)) =
      ap (λ n. bits (take n body)) (let e : end ≡ at + (end - at) = omega (arith, r.forwards) in e) ∙ ap bits (take-add at (end - at) body) ∙ bits-append (take at body) (take (end - at) (drop at body)) in record {
        records = h.records ++ w.entries ∷ [];
        counted = omega (arith, length-append h.records (w.entries ∷ []), h.counted);
        within = r.within;
        few = omega (arith, h.few, record_on end new w);
        spelled = subst (RecordsSpell spec (h.records ++ w.entries ∷ [])) (sym joined) (one_more spec h.records w.entries (bits (take at body)) (bits (take (end - at) (drop at body))) h.spelled r.spelling);
        put = record {
          put = λ t. w.put.put t ∙ h.put.put (record_lines spec number w.entries t)
              ∙ ap (λ n. old ++ as_lines (records_lines spec 0 h.records (record_lines spec n w.entries t))) (let e : number ≡ 0 + length h.records = omega (arith, h.counted) in e) ∙ ap (λ u. old ++ as_lines u) (sym (lines_more spec 0 h.records w.entries t));
        };
      }

  pub body_failed : (e : DecodeError) → at < length body → HasFailed (kind_read (record_kind spec) body at) at e → IsFaultOf (IsBodyFault spec body) e
  body_failed Decoding.OutOfMemory lt f = tt
  body_failed (Decoding.Fault fault) lt f =
      let g = record_fault spec body at fault (fault_at (record_kind spec) body at fault (record_bounds spec clean) (f.met fault refl)) in record {
        fails = record {
          records = h.records;
          before = bits (take at body);
          left = bits (drop at body);
          split = ap bits (sym (take-append-drop at body)) ∙ bits-append (take at body) (drop at body);
          spelled = h.spelled;
          some = omega (arith, length-bits (drop at body), length-drop at body);
          place = g.place;
          counted = omega (arith, g.bit, length-bits (take at body), length-take-le at body h.within);
          fails = g.fails;
        };
      }

  pub body_last : length body ≤ at → 1 ≤ length body → ShowsRecords spec body old now
  body_last past some =
      let s : RecordsSpell spec h.records (bits body) = subst (RecordsSpell spec h.records) (ap bits (take_all at body past)) h.spelled in
      record { records = h.records; spelled = record { some = some_records h.records (bits body) s (omega (arith, length-bits body)); spelled = s }; put = h.put }
    where
      some_records : (rs : List EntriesTree) (b : List ℕ) → RecordsSpell spec rs b → 0 < length b → 0 < length rs
      some_records [] b s some = absurd (omega (arith, ap length s))
      some_records (r ∷ rs) b s some = omega arith
