-- Records that are written one after the other, and the octets of a block.
use Rattle.std.proofs.Common.{◌≡◌, ℕ, zero, suc, ◌+◌, ◌*◌, ◌/◌, ◌%◌, ◌<◌, ◌≤◌, List, [], ◌∷◌, ◌++◌, length, drop, get_or, Option, Some, None, refl, sym, ◌∙◌, ap, arith, subst, append_assoc}
use Rattle.std.specs.List.{AllByRecursion}
use Rattle.std.specs.Option.{option_map}
use Rattle.std.proofs.lemmas.List.{drop_all}
use Rattle.ax_bits.proofs.Outputs.{appends_more}
use Rattle.ax_bits.proofs.Words.{bits-append, length-word, word-AreBits, number_below}
use Rattle.ax_bits.specs.Bits.{bits, word, AreBits, AreOctets}
use Rattle.ax_bits.specs.Out.{Appends, room}
use Rattle.ax_bits.specs.declared.output.Out.{Out}
use Rattle.ax_format.proofs.Bounds.{record_bounds, bounds_whole}
use Rattle.ax_format.proofs.CanonFramed.{bits-octets_of, length-framed}
use Rattle.ax_format.proofs.RecordLaws.{flawless_body_canon_spells}
use Rattle.ax_format.proofs.SpelledBits.{records_bits}
use Rattle.ax_format.proofs.WholeOctets.{two_whole, spells_whole}
use Rattle.ax_format.specs.Bodies.{RecordShape, RecordsSpell, CanonRecord, CanonBody}
use Rattle.ax_format.specs.Canonical.{canon}
use Rattle.ax_format.specs.CanonicalOctets.{octets_of, framed}
use Rattle.ax_format.specs.Flaws.{NoFlaw}
use Rattle.ax_format.specs.InBounds.{InBounds}
use Rattle.ax_format.specs.Lengths.{kind_of_slot, slot_kind}
use Rattle.ax_format.specs.Lookup.{item_of_frn}
use Rattle.ax_format.specs.Plain.{kind_tree, item_tree, spec_tree, record_tree, records_tree}
use Rattle.ax_format.specs.Shape.{Shape}
use Rattle.ax_format.specs.Specification.{SpecTree, record_kind, record_slots, slot_of_item}
use Rattle.ax_format.specs.Tree.{ValueTree, EntriesTree, marked}
use Rattle.ax_format.specs.Whole.{Whole}
use Rattle.ax_format.specs.declared.record.Record.{Record}
use Rattle.ax_format.specs.declared.spec.Item.{Item}
use Rattle.ax_format.specs.declared.spec.Spec.{Spec}
use Rattle.ax_values.proofs.Written.{written_none, written_more, written_all, written_room, first_room}
use Rattle.ax_values.proofs.WrittenKinds.{from_place}
use Rattle.ax_values.specs.Writing.{IsWrittenTo, EntryShape, entry_canon, AreEntriesOf}
use Rattle.ax_format.proofs.ItemKinds.{kind_in_slot, kind_of_item, kind_of_frn}

-- ---- items by field reference number

found : (spec : Spec) (t : ℕ) (o : Option Item) → o ≡ item_of_frn t spec.uap spec.items → slot_kind (record_slots (spec_tree spec)) t ≡ kind_of_slot (slot_of_item (option_map item_tree o))
found spec t o e = kind_of_frn spec t ∙ ap kind_of_item (sym e) ∙ sym (kind_in_slot o)

pub item_bounds : (spec : Spec) (t : ℕ) (item : Item) (v : ValueTree) → Some item ≡ item_of_frn t spec.uap spec.items → EntryShape (slot_kind (record_slots (spec_tree spec)) t) v → InBounds (kind_tree item.kind)
item_bounds spec t item v e h = (subst (λ o. EntryShape o v) (found spec t (Some item) e) h).0

pub item_shape : (spec : Spec) (t : ℕ) (item : Item) (v : ValueTree) → Some item ≡ item_of_frn t spec.uap spec.items → EntryShape (slot_kind (record_slots (spec_tree spec)) t) v → Shape (kind_tree item.kind) v
item_shape spec t item v e h = (subst (λ o. EntryShape o v) (found spec t (Some item) e) h).1

pub item_canon : (spec : Spec) (t : ℕ) (item : Item) (v : ValueTree) → Some item ≡ item_of_frn t spec.uap spec.items → entry_canon (slot_kind (record_slots (spec_tree spec)) t) v ≡ canon (kind_tree item.kind) v
item_canon spec t item v e = ap (λ o. entry_canon o v) (found spec t (Some item) e)

pub no_item : (spec : Spec) (t : ℕ) (v : ValueTree) → None ≡ item_of_frn t spec.uap spec.items → EntryShape (slot_kind (record_slots (spec_tree spec)) t) v → ⊥
no_item spec t v e h = subst (λ o. EntryShape o v) (found spec t None e) h

-- ---- records

pub record_entries : (spec : SpecTree) (es : EntriesTree) → NoFlaw spec → RecordShape spec es → AreEntriesOf (record_slots spec) es
record_entries spec es none h = let b = record_bounds spec none in record { shape = h.shape; some = b.0; few = b.1; bounds = b.2 }

pub record RecordsLeft (spec : SpecTree) (old now : Out) (whole : List ℕ) (rs : List Record) : Type 0 where
  pub shape : AllByRecursion (RecordShape spec) (records_tree rs)
  pub written : IsWrittenTo old now whole (CanonBody spec (records_tree rs))

pub records_first : (spec : SpecTree) (out : Out) (rs : List Record) → AllByRecursion (RecordShape spec) (records_tree rs) → RecordsLeft spec out out (CanonBody spec (records_tree rs)) rs
records_first spec out rs h = record { shape = h; written = written_none out (CanonBody spec (records_tree rs)) }

records_here : (spec : SpecTree) (old now : Out) (whole : List ℕ) (all : List Record) (i : ℕ) (r : Record) → RecordsLeft spec old now whole (drop i all) → i < length all → r ≡ get_or all i r → RecordsLeft spec old now whole (r ∷ drop (i + 1) all)
records_here spec old now whole all i r h lt e = subst (λ rs. RecordsLeft spec old now whole rs) (from_place all i r lt e) h

pub record_shape : (spec : SpecTree) (old now : Out) (whole : List ℕ) (all : List Record) (i : ℕ) (r : Record) → RecordsLeft spec old now whole (drop i all) → i < length all → r ≡ get_or all i r → RecordShape spec (record_tree r)
record_shape spec old now whole all i r h lt e = (records_here spec old now whole all i r h lt e).shape.0

pub record_room : (spec : SpecTree) (old now : Out) (whole : List ℕ) (all : List Record) (i : ℕ) (r : Record) → RecordsLeft spec old now whole (drop i all) → i < length all → r ≡ get_or all i r → length whole ≤ room old → length (CanonRecord spec (record_tree r)) ≤ room now
record_room spec old now whole all i r h lt e le =
    let one = CanonRecord spec (record_tree r) in
    let rest = CanonBody spec (records_tree (drop (i + 1) all)) in
    first_room one rest (one ++ rest) (room now) refl (written_room old now whole (one ++ rest) (records_here spec old now whole all i r h lt e).written le)

pub records_next : (spec : SpecTree) (old now new : Out) (whole : List ℕ) (all : List Record) (i : ℕ) (r : Record) → RecordsLeft spec old now whole (drop i all) → i < length all → r ≡ get_or all i r → Appends now new (CanonRecord spec (record_tree r))
    → RecordsLeft spec old new whole (drop (i + 1) all)
records_next spec old now new whole all i r h lt e a =
    let t = records_here spec old now whole all i r h lt e in
    let one = CanonRecord spec (record_tree r) in
    let rest = CanonBody spec (records_tree (drop (i + 1) all)) in
    record { shape = t.shape.1; written = written_more old now new whole (one ++ rest) one rest t.written refl a }

pub records_ended : (spec : SpecTree) (old now : Out) (whole : List ℕ) (all : List Record) (i : ℕ) → RecordsLeft spec old now whole (drop i all) → length all ≤ i → Appends old now whole
records_ended spec old now whole all i h past = written_all old now whole (CanonBody spec (records_tree (drop i all))) h.written (ap (λ rs. CanonBody spec (records_tree rs)) (drop_all i all past))

-- ---- the bits of a block

records_whole : (spec : SpecTree) (rs : List EntriesTree) (b : List ℕ) → Whole (record_kind spec) → RecordsSpell spec rs b → length b % 8 ≡ 0
records_whole spec [] b w h = omega (arith, ap length h)
records_whole spec (r ∷ rs) b w (x, y, e, h, t) = two_whole b x y e (spells_whole (record_kind spec) (marked r) x w h.spells) (records_whole spec rs y w t)

-- the bits of a body's octets are its canonical spelling
pub body_bits : (spec : SpecTree) (rs : List EntriesTree) → NoFlaw spec → 0 < length rs → AllByRecursion (RecordShape spec) rs → bits (octets_of (CanonBody spec rs)) ≡ CanonBody spec rs
body_bits spec rs none some h =
    let b = CanonBody spec rs in
    let s = flawless_body_canon_spells spec rs none some h in
    let whole : length b % 8 ≡ 0 = records_whole spec rs b (bounds_whole (record_kind spec) (record_bounds spec none)) s.spelled in
    bits-octets_of (length b / 8) b (omega arith) (records_bits spec rs b s.spelled)

pub framed_bits : (category : ℕ) (body : List ℕ) (n : ℕ) → n ≡ length (framed category body) → bits (framed category body) ≡ word 8 category ++ (word 16 n ++ bits body)
framed_bits category body n e =
    let count : 3 + length body ≡ n = sym (length-framed category body) ∙ sym e in
    let two : bits (octets_of (word 16 (3 + length body))) ≡ word 16 n = bits-octets_of 2 (word 16 (3 + length body)) (length-word 16 (3 + length body)) (word-AreBits 16 (3 + length body)) ∙ ap (word 16) count in
    ap (λ t. word 8 category ++ t) (bits-append (octets_of (word 16 (3 + length body))) body ∙ ap (λ t. t ++ bits body) two)

pub front_written : (old two new : Out) (category n : ℕ) (rest all : List ℕ) → all ≡ word 8 category ++ (word 16 n ++ rest) → Appends old two (word 8 category ++ word 16 n) → Appends two new rest → Appends old new all
front_written old two new category n rest all e a b = appends_more old two new (word 8 category ++ word 16 n) rest all (e ∙ sym (append_assoc (word 8 category) (word 16 n) rest)) a b

-- ---- octets of bits

octets-octets_of : (n : ℕ) (b : List ℕ) → length b ≡ 8 * n → AreBits b → AreOctets (octets_of b)
octets-octets_of zero [] l h = tt
octets-octets_of zero (x ∷ b) l h = absurd (omega arith)
octets-octets_of (suc n) (a ∷ b ∷ c ∷ d ∷ e ∷ f ∷ g ∷ k ∷ more) l h =
    (number_below (a ∷ b ∷ c ∷ d ∷ e ∷ f ∷ g ∷ k ∷ []) (h.0, (h.1.0, (h.1.1.0, (h.1.1.1.0, (h.1.1.1.1.0, (h.1.1.1.1.1.0, (h.1.1.1.1.1.1.0, (h.1.1.1.1.1.1.1.0, tt)))))))), octets-octets_of n more (omega arith) h.1.1.1.1.1.1.1.1)
octets-octets_of (suc n) [] l h = absurd (omega arith)
octets-octets_of (suc n) (a ∷ []) l h = absurd (omega arith)
octets-octets_of (suc n) (a ∷ b ∷ []) l h = absurd (omega arith)
octets-octets_of (suc n) (a ∷ b ∷ c ∷ []) l h = absurd (omega arith)
octets-octets_of (suc n) (a ∷ b ∷ c ∷ d ∷ []) l h = absurd (omega arith)
octets-octets_of (suc n) (a ∷ b ∷ c ∷ d ∷ e ∷ []) l h = absurd (omega arith)
octets-octets_of (suc n) (a ∷ b ∷ c ∷ d ∷ e ∷ f ∷ []) l h = absurd (omega arith)
octets-octets_of (suc n) (a ∷ b ∷ c ∷ d ∷ e ∷ f ∷ g ∷ []) l h = absurd (omega arith)

octets-append : (xs ys : List ℕ) → AreOctets xs → AreOctets ys → AreOctets (xs ++ ys)
octets-append [] ys h t = t
octets-append (x ∷ xs) ys h t = (h.0, octets-append xs ys h.1 t)

pub framed_octets : (category : ℕ) (body : List ℕ) → category < 256 → AreOctets body → AreOctets (framed category body)
framed_octets category body lt h = (lt, octets-append (octets_of (word 16 (3 + length body))) body (octets-octets_of 2 (word 16 (3 + length body)) (length-word 16 (3 + length body)) (word-AreBits 16 (3 + length body))) h)

pub body_octets : (spec : SpecTree) (rs : List EntriesTree) → NoFlaw spec → 0 < length rs → AllByRecursion (RecordShape spec) rs → AreOctets (octets_of (CanonBody spec rs))
body_octets spec rs none some h =
    let b = CanonBody spec rs in
    let s = flawless_body_canon_spells spec rs none some h in
    let whole : length b % 8 ≡ 0 = records_whole spec rs b (bounds_whole (record_kind spec) (record_bounds spec none)) s.spelled in
    octets-octets_of (length b / 8) b (omega arith) (records_bits spec rs b s.spelled)
