-- Whether a value stands in one of some slots, slot by slot and record by record.
use Rattle.std.proofs.Common.{◌≡◌, ℕ, ◌+◌, ◌<◌, ◌≤◌, Bool, true, false, ◌||◌, is_some, List, [], ◌∷◌, length, drop, get_or, Option, Some, None, option_map, refl, sym, ◌∙◌, ap, subst, append-nil}
use Rattle.std.proofs.lemmas.List.{drop_all}
use Rattle.std.specs.List.{AllZip}
use Rattle.ax_bits.specs.Bits.{bits}
use Rattle.ax_convert_work.specs.Standing.{SomeStands}
use Rattle.ax_format.proofs.Namings.{from_place}
use Rattle.ax_format.proofs.Spelled.{read_spelled}
use Rattle.ax_format.specs.At.{slot_value}
use Rattle.ax_format.specs.Bodies.{SpellsBody}
use Rattle.ax_format.specs.Flaws.{NoFlaw}
use Rattle.ax_format.specs.Reader.{read, got}
use Rattle.ax_format.specs.Specification.{SpecTree, record_kind}
use Rattle.ax_format.specs.Tree.{EntriesTree, ValueTree, marked}
use Rattle.ax_rescale.specs.Converts.{some_stands, stands_in}
use Rattle.ax_codec.proofs.BareKinds.{bare_read, stands_record}
use Rattle.ax_codec.specs.Standing.{StandsFor}
use Rattle.ax_codec.specs.Table.{record_kind_at}
use Rattle.ax_codec.specs.declared.codec.Codec.{Codec}
use Rattle.ax_walk.specs.Shown.{item_value}
use Rattle.ax_walk.specs.Values.{value_in, value_read, entries_in}
use Rattle.ax_walk.specs.Views.{IsRecordOf, SpellEach}
use Rattle.ax_walk.specs.declared.item.ItemView.{ItemView}

-- ---- slots

some_item : (o : Option ItemView) (p : Option ValueTree) → option_map item_value o ≡ p → is_some o ≡ is_some p
some_item None p e = ap is_some e
some_item (Some item) p e = ap is_some e

module _ (i : ℕ) (slots : List ℕ) (es : EntriesTree) where
  module _ (s : ℕ) (within : i < length slots) (is : s ≡ get_or slots i s) (item : Option ItemView) (found : option_map item_value item ≡ slot_value s es) (b : Bool) (e : is_some item ≡ b) where
    opened : stands_in (drop i slots) es ≡ (b || stands_in (drop (i + 1) slots) es)
    opened = ap (λ ss. stands_in ss es) (from_place slots i s within is) ∙ ap (λ c. c || stands_in (drop (i + 1) slots) es) (sym (some_item item (slot_value s es) found) ∙ e)

  pub slot_here : (s : ℕ) (item : Option ItemView) → i < length slots → s ≡ get_or slots i s → option_map item_value item ≡ slot_value s es → is_some item ≡ true → stands_in (drop i slots) es ≡ stands_in slots es → true ≡ stands_in slots es
  slot_here s item within is found e h = sym (opened s within is item found true e) ∙ h

  pub slot_later : (s : ℕ) (item : Option ItemView) → i < length slots → s ≡ get_or slots i s → option_map item_value item ≡ slot_value s es → is_some item ≡ false → stands_in (drop i slots) es ≡ stands_in slots es
      → stands_in (drop (i + 1) slots) es ≡ stands_in slots es
  slot_later s item within is found e h = sym (opened s within is item found false e) ∙ h

  pub slot_none : length slots ≤ i → stands_in (drop i slots) es ≡ stands_in slots es → false ≡ stands_in slots es
  slot_none past h = sym (ap (λ ss. stands_in ss es) (drop_all i slots past)) ∙ h

pub ruleset in_slots = (slot_here, slot_later, slot_none)

-- ---- the records of a view

-- the octets that are left spell the last of the records, and it is as with all of them
pub record GoesOn (slots : List ℕ) (codec : Codec) (spec : SpecTree) (records : List EntriesTree) (left : List (Codec × List ℕ)) : Type 0 where
  pub rest : List EntriesTree
  pub zips : AllZip (IsRecordOf codec spec) rest left
  pub same : some_stands slots rest ≡ some_stands slots records

pub record StandsLater (slots : List ℕ) (codec : Codec) (body : List ℕ) (left : List (Codec × List ℕ)) : Type 0 where
  pub goes : (spec : SpecTree) (records : List EntriesTree) → NoFlaw spec → StandsFor codec spec → SpellsBody spec records (bits body) → GoesOn slots codec spec records left

-- what octets that spell a record show is that record
shown_is : (codec : Codec) (spec : SpecTree) (entries : EntriesTree) (s : Codec × List ℕ) → StandsFor codec spec → IsRecordOf codec spec entries s → entries_in (value_in (record_kind_at s.0.nodes s.0.slots) s.1) ≡ entries
unfolding value_in
shown_is codec spec entries s stands h =
    let own : StandsFor s.0 spec = subst (λ c. StandsFor c spec) (sym h.0) stands in
    let same : read (record_kind_at s.0.nodes s.0.slots) (bits s.1) ≡ read (record_kind spec) (bits s.1) = ap (λ k. read k (bits s.1)) (stands_record s.0 spec own) ∙ bare_read (record_kind spec) (bits s.1) in
    let whole : read (record_kind spec) (bits s.1) ≡ got (marked entries) (length (bits s.1)) [] = ap (read (record_kind spec)) (sym (append-nil (bits s.1))) ∙ read_spelled (record_kind spec) (marked entries) (bits s.1) [] h.1.spells in
    ap (λ r. entries_in (value_read r)) (same ∙ whole)

module _ (slots : List ℕ) (codec : Codec) (body : List ℕ) where
  pub records_begin : (left : List (Codec × List ℕ)) → SpellEach codec body left → StandsLater slots codec body left
  records_begin left each = record { goes = λ spec records clean stands spells. record { rest = records; zips = each.spells spec records clean stands spells; same = refl } }

  abbrev shown : Codec × List ℕ → EntriesTree
  shown s = entries_in (value_in (record_kind_at s.0.nodes s.0.slots) s.1)

  module _ (s : Codec × List ℕ) (all left : List (Codec × List ℕ)) (split : all ≡ s ∷ left) (h : StandsLater slots codec body all) where
    next : (spec : SpecTree) (records rest : List EntriesTree) → StandsFor codec spec → AllZip (IsRecordOf codec spec) rest (s ∷ left) → some_stands slots rest ≡ some_stands slots records → (b : Bool) → stands_in slots (shown s) ≡ b
        → (later : List EntriesTree) × AllZip (IsRecordOf codec spec) later left × ((b || some_stands slots later) ≡ some_stands slots records)
    next spec records [] stands zips same b e = absurd zips
    next spec records (r ∷ rest) stands zips same b e =
        (rest, zips.1, ap (λ c. c || some_stands slots rest) (sym e ∙ ap (stands_in slots) (shown_is codec spec r s stands zips.0)) ∙ same)

    pub record_here : stands_in slots (shown s) ≡ true → SomeStands slots codec body true
    record_here e = record {
      told = λ spec records clean stands spells. (let g = h.goes spec records clean stands spells in (next spec records g.rest stands (subst (AllZip (IsRecordOf codec spec) g.rest) split g.zips) g.same true e).2);
    }

    pub record_later : stands_in slots (shown s) ≡ false → StandsLater slots codec body left
    record_later e = record {
      goes = λ spec records clean stands spells. (
          let g = h.goes spec records clean stands spells in
          let n = next spec records g.rest stands (subst (AllZip (IsRecordOf codec spec) g.rest) split g.zips) g.same false e in record { rest = n.0; zips = n.1; same = n.2 });
    }

  none_left : (spec : SpecTree) (rest : List EntriesTree) → AllZip (IsRecordOf codec spec) rest [] → false ≡ some_stands slots rest
  none_left spec [] h = refl
  none_left spec (r ∷ rest) h = absurd h

  pub records_end : (left : List (Codec × List ℕ)) → left ≡ [] → StandsLater slots codec body left → SomeStands slots codec body false
  records_end left e h = record {
    told = λ spec records clean stands spells. (let g = h.goes spec records clean stands spells in none_left spec g.rest (subst (AllZip (IsRecordOf codec spec) g.rest) e g.zips) ∙ g.same);
  }
