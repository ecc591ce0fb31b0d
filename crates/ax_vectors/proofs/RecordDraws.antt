-- Records and blocks that are drawn.
use Rattle.std.proofs.Common.{zero, suc, inl, append-nil, IsTrue, lit<, ◌≡◌, ℕ, ◌+◌, ◌/◌, ◌%◌, ◌<◌, ◌≤◌, ◌==◌, nat_lt, cond, Bool, true, false, List, [], ◌∷◌, length, map, Option, Some, None, is_some, refl, sym, ◌∙◌, ap, subst, arith}
use Rattle.std.specs.Option.{option_map}
use Rattle.std.proofs.lemmas.Bool.{ltb-false}
use Rattle.std.proofs.lemmas.Bool.Decides.{nat_tests}
use Rattle.ax_bits.proofs.Pieces.{number-word}
use Rattle.ax_bits.specs.Bits.{word, bits, AreOctets}
use Rattle.ax_format.proofs.Bounds.{record_bounds, record_slot_count, bounds_whole}
use Rattle.ax_format.proofs.CanonFramed.{bits-octets_of, framed_is, length-framed}
use Rattle.ax_format.proofs.Lookups.{uap_slot_tree}
use Rattle.ax_format.proofs.SpelledBits.{records_bits}
use Rattle.ax_format.proofs.WholeOctets.{two_whole, spells_whole}
use Rattle.ax_format.specs.Blocks.{SpellsBlock, read_block}
use Rattle.ax_format.specs.Bodies.{SpellsRecord, RecordsSpell, SpellsBody}
use Rattle.ax_format.specs.CanonicalOctets.{octets_of, framed}
use Rattle.ax_format.specs.Flaws.{NoFlaw}
use Rattle.ax_format.specs.InBounds.{InBounds, SlotsInBounds}
use Rattle.ax_format.specs.Lengths.{kind_of_slot}
use Rattle.ax_format.specs.Lookup.{item_of_slot}
use Rattle.ax_format.specs.Plain.{item_tree, kind_tree, spec_tree}
use Rattle.ax_format.specs.Presence.{Presence, octets_needed, none_marked, later_marks}
use Rattle.ax_format.specs.Specification.{SpecTree, slot_of_item, uap_slot, record_slots, record_kind}
use Rattle.ax_format.specs.Spelling.{Spells, EntriesSpell}
use Rattle.ax_format.specs.Tree.{KindTree, SlotTree, spare_slot, subitem, SlotsTree, slot_and, no_slots, defined_slots, slot_count, ValueTree, marked, EntriesTree, no_entries}
use Rattle.ax_format.specs.declared.spec.Item.{Item}
use Rattle.ax_format.specs.declared.spec.Spec.{Spec}
use Rattle.ax_format.specs.declared.spec.UapSlot.{UapSlot}
use Rattle.ax_vectors.proofs.FieldOctets.{is_below, is_not_below}
use Rattle.ax_vectors.proofs.Left.{adds_just}
use Rattle.ax_vectors.proofs.Spelled.{kind_spelled}
use Rattle.ax_vectors.proofs.SlotDraws.{slots_adds}
use Rattle.ax_vectors.specs.Draws.{drawn, next_state}
use Rattle.ax_vectors.specs.Made.{marks_made, field_made, values_made, value_where, kind_made, makers, record_made, records_made, block_of, block_made, IsSpelledBlock}
use Rattle.ax_vectors.specs.Making.{Maker, times, Adds}
use Rattle.ax_format.proofs.Unmarked.{none_first, none_later}

at_most : (m n : ℕ) → nat_lt m n ≡ false → n ≤ m
at_most m n e = ltb-false m n e

eqb_same : (n : ℕ) → (n == n) ≡ true
eqb_same n = grind (arith, nat_tests)

-- ---- the kinds of items

kind_at : (o : Option Item) → kind_of_slot (slot_of_item (option_map item_tree o)) ≡ option_map (λ item. kind_tree item.kind) o
kind_at None = refl
kind_at (Some item) = refl

kind_there : (items : List Item) (slot : UapSlot) → kind_of_slot (uap_slot (map item_tree items) slot) ≡ option_map (λ item. kind_tree item.kind) (item_of_slot (Some slot) items)
kind_there items slot = ap kind_of_slot (uap_slot_tree items slot) ∙ kind_at (item_of_slot (Some slot) items)

pub kind_found : (items : List Item) (slot : UapSlot) (item : Item) → Some item ≡ item_of_slot (Some slot) items → Some (kind_tree item.kind) ≡ kind_of_slot (uap_slot (map item_tree items) slot)
kind_found items slot item e = ap (option_map (λ item. kind_tree item.kind)) e ∙ sym (kind_there items slot)

pub kind_absent : (items : List Item) (slot : UapSlot) → None ≡ item_of_slot (Some slot) items → None ≡ kind_of_slot (uap_slot (map item_tree items) slot)
kind_absent items slot e = ap (option_map (λ item. kind_tree item.kind)) e ∙ sym (kind_there items slot)

pub ruleset kinds_found = (kind_found, kind_absent)

defined_at : (slot : SlotTree) → is_some (kind_of_slot slot) ∷ [] ≡ defined_slots (slot_and slot no_slots)
defined_at spare_slot = refl
defined_at (subitem name k) = refl

some_mapped : {A B : Type 0} (f : A → B) (o : Option A) → is_some (option_map f o) ≡ is_some o
some_mapped f None = refl
some_mapped f (Some a) = refl

pub kind_defines : {A : Type 0} (f : A → KindTree) (o : Option A) (slot : SlotTree) (d : Bool) → option_map f o ≡ kind_of_slot slot → d ≡ is_some o → d ∷ [] ≡ defined_slots (slot_and slot no_slots)
kind_defines f o slot d e is = ap (λ b. b ∷ []) (is ∙ sym (some_mapped f o) ∙ ap is_some e) ∙ defined_at slot

-- ---- items

pub item_unmarked : (o : Option Maker) (is : Bool) (old : List ℕ) (state : ℕ) → is ≡ false → Adds (value_where is o) old old state state
item_unmarked o is old state e = subst (λ b. Adds (value_where b o) old old state state) (sym e) (adds_just [] old old state (sym (append-nil old)))

pub item_absent : (o : Option KindTree) (is : Bool) (old : List ℕ) (state : ℕ) → None ≡ o → Adds (value_where is (option_map (kind_made 0) o)) old old state state
item_absent o is old state e = subst (λ o. Adds (value_where is (option_map (kind_made 0) o)) old old state state) e (none is) where
  none : (is : Bool) → Adds (value_where is None) old old state state
  none true = adds_just [] old old state (sym (append-nil old))
  none false = adds_just [] old old state (sym (append-nil old))

pub item_there : (o : Option KindTree) (k : KindTree) (is : Bool) (old new : List ℕ) (state after : ℕ) → Some k ≡ o → is ≡ true → Adds (kind_made 0 k) old new state after → Adds (value_where is (option_map (kind_made 0) o)) old new state after
item_there o k is old new state after e t a =
    subst (λ o. Adds (value_where is (option_map (kind_made 0) o)) old new state after) e (subst (λ b. Adds (value_where b (Some (kind_made 0 k))) old new state after) (sym t) a)

pub item_bounds : (slot : SlotTree) (k : KindTree) → Some k ≡ kind_of_slot slot → SlotsInBounds (slot_and slot no_slots) → InBounds k
item_bounds spare_slot k e h = absurd (cc)
item_bounds (subitem name j) k e h = subst InBounds (let f : j ≡ k = cc in f) h.0

pub ruleset items = (item_unmarked, item_absent, item_there, item_bounds)

-- ---- records

pub record_adds : (spec : Spec) (marks old mid new : List ℕ) (first drawn state after : ℕ) → Adds (marks_made (defined_slots (record_slots (spec_tree spec)))) [] marks first drawn → Adds (field_made marks) old mid drawn state
    → Adds (values_made (makers 0 (record_slots (spec_tree spec))) marks) mid new state after → Adds (record_made (spec_tree spec)) old new first after
record_adds spec marks old mid new first drawn state after m f v = slots_adds (defined_slots (record_slots (spec_tree spec))) (makers 0 (record_slots (spec_tree spec))) marks old mid new first drawn state after m f v

pub record_few : (spec : Spec) (n : ℕ) → NoFlaw (spec_tree spec) → n ≡ length spec.uap → (1 ≤ n) × (n ≤ 126)
record_few spec n none e =
    let b = record_bounds (spec_tree spec) none in
    let count : slot_count (record_slots (spec_tree spec)) ≡ length spec.uap = record_slot_count (spec_tree spec) in
    (omega (arith, b.0, count), omega (arith, b.1, count))

pub record_slots_bounds : (spec : Spec) → NoFlaw (spec_tree spec) → SlotsInBounds (record_slots (spec_tree spec))
record_slots_bounds spec none = (record_bounds (spec_tree spec) none).2

pub ruleset whole_records = (record_adds, record_few)

-- ---- bodies

-- a record's value is its entries
record_entries : (spec : SpecTree) (v : ValueTree) (b : List ℕ) → Spells (record_kind spec) v b → (es : EntriesTree) × SpellsRecord spec es b
record_entries spec (marked es) b h = (es, record { spells = h })
record_entries spec _ b h = absurd h

record_spelled : (spec : SpecTree) → NoFlaw spec → (state : ℕ) → (es : EntriesTree) × SpellsRecord spec es (record_made spec state).0
record_spelled spec none state =
    let r = kind_spelled 0 (record_kind spec) (record_bounds spec none) state in
    record_entries spec r.0 (record_made spec state).0 r.1

each_record : (spec : SpecTree) (n : ℕ) → NoFlaw spec → (state : ℕ) → (rs : List EntriesTree) × (length rs ≡ n) × RecordsSpell spec rs (times n (record_made spec) state).0
each_record spec zero none state = ([], refl, refl)
each_record spec (suc n) none state =
    let first = record_spelled spec none state in
    let rest = each_record spec n none (record_made spec state).1 in
    (first.0 ∷ rest.0, ap suc rest.1, ((record_made spec state).0, (times n (record_made spec) (record_made spec state).1).0, refl, first.1, rest.2))

body_spelled : (spec : SpecTree) → NoFlaw spec → (state : ℕ) → (rs : List EntriesTree) × SpellsBody spec rs (records_made spec state).0
body_spelled spec none state =
    let r = each_record spec (1 + drawn state % 4) none (next_state state) in
    (r.0, record { some = omega (arith, r.1); spelled = r.2 })

records_whole : (spec : SpecTree) (rs : List EntriesTree) (b : List ℕ) → NoFlaw spec → RecordsSpell spec rs b → length b % 8 ≡ 0
records_whole spec [] b none h = omega (arith, ap length h)
records_whole spec (r ∷ rs) b none (x, y, e, h, t) =
    two_whole b x y e (spells_whole (record_kind spec) (marked r) x (bounds_whole (record_kind spec) (record_bounds spec none)) h.spells) (records_whole spec rs y none t)

pub body_whole : (spec : Spec) (state : ℕ) → NoFlaw (spec_tree spec) → length (records_made (spec_tree spec) state).0 % 8 ≡ 0
body_whole spec state none = let r = body_spelled (spec_tree spec) none state in records_whole (spec_tree spec) r.0 (records_made (spec_tree spec) state).0 none r.1.spelled

body_bits : (spec : SpecTree) (state : ℕ) → NoFlaw spec → bits (octets_of (records_made spec state).0) ≡ (records_made spec state).0
body_bits spec state none =
    let b = (records_made spec state).0 in
    let r = body_spelled spec none state in
    let whole : length b % 8 ≡ 0 = records_whole spec r.0 b none r.1.spelled in
    bits-octets_of (length b / 8) b (omega arith) (records_bits spec r.0 b r.1.spelled)

-- the octets of the bits of octets
octets_back : (xs : List ℕ) → AreOctets xs → octets_of (bits xs) ≡ xs
octets_back [] h = refl
octets_back (x ∷ xs) h = (λ k. number-word 8 x h.0 k ∷ octets_back xs h.1 k)

pub octets_are : (xs b : List ℕ) → AreOctets xs → bits xs ≡ b → xs ≡ octets_of b
octets_are xs b low e = sym (octets_back xs low) ∙ ap octets_of e

pub body_drawn : (spec : SpecTree) (d : ℕ) (new : List ℕ) (first mid after : ℕ) → d ≡ drawn first → mid ≡ next_state first → Adds (times (1 + d % 4) (record_made spec)) [] new mid after
    → (new ≡ (records_made spec first).0) × (after ≡ (records_made spec first).1)
body_drawn spec d new first mid after is left a =
    (a.list ∙ (λ k. (times (1 + is k % 4) (record_made spec) (left k)).0), a.left ∙ (λ k. (times (1 + is k % 4) (record_made spec) (left k)).1))

-- ---- blocks

pub block_long : (category : ℕ) (body block : List ℕ) → 65532 < length body → block ≡ framed category (0 ∷ []) → block ≡ block_of category body
block_long category body block long e = e ∙ ap (λ b. cond b (framed category (0 ∷ [])) (framed category body)) (sym (is_below 65535 (3 + length body) (omega arith)))

pub block_short : (category : ℕ) (body block : List ℕ) → length body ≤ 65532 → block ≡ framed category body → block ≡ block_of category body
block_short category body block short e = e ∙ ap (λ b. cond b (framed category (0 ∷ [])) (framed category body)) (sym (is_not_below 65535 (3 + length body) (omega arith)))

pub ruleset lengths = (block_long, block_short)

pub block_adds : (spec : SpecTree) (body block : List ℕ) (first after : ℕ) → body ≡ octets_of (records_made spec first).0 → after ≡ (records_made spec first).1 → block ≡ block_of spec.category body → Adds (block_made spec) [] block first after
block_adds spec body block first after is left e = record { list = e ∙ ap (block_of spec.category) is; left = left }

-- a record without items is one octet of zeros
no_entries_spelled : (s : ℕ) (ss : SlotsTree) (ms : List ℕ) → IsTrue (none_marked ms) → EntriesSpell s ss ms no_entries []
no_entries_spelled s no_slots ms h = (h, refl)
no_entries_spelled s (slot_and spare_slot ss) ms h = (none_first ms h, no_entries_spelled (s + 1) ss (later_marks ms) (none_later ms h))
no_entries_spelled s (slot_and (subitem name k) ss) ms h = (none_first ms h, no_entries_spelled (s + 1) ss (later_marks ms) (none_later ms h))

zeros_mark : (k : ℕ) → 0 < k → Presence k (0 ∷ 0 ∷ 0 ∷ 0 ∷ 0 ∷ 0 ∷ 0 ∷ []) (word 8 0)
zeros_mark zero some = absurd (omega arith)
zeros_mark (suc k) some = (0 ∷ 0 ∷ 0 ∷ 0 ∷ 0 ∷ 0 ∷ 0 ∷ [], refl, (lit< tt, (lit< tt, (lit< tt, (lit< tt, (lit< tt, (lit< tt, (lit< tt, tt))))))), inl (refl, refl))

empty_record : (spec : SpecTree) → NoFlaw spec → SpellsRecord spec no_entries (word 8 0)
empty_record spec none =
    let b = record_bounds spec none in
    let ss = record_slots spec in
    record { spells = (word 8 0, [], 0 ∷ 0 ∷ 0 ∷ 0 ∷ 0 ∷ 0 ∷ 0 ∷ [], refl, zeros_mark (octets_needed (slot_count ss)) (omega (arith, b.0)), no_entries_spelled 1 ss (0 ∷ 0 ∷ 0 ∷ 0 ∷ 0 ∷ 0 ∷ 0 ∷ []) refl) }

read_of : (spec : SpecTree) (records : List EntriesTree) (body : List ℕ) → 3 + length body ≤ 65535 → SpellsBody spec records (bits body) → SpellsBlock (spec ∷ []) (read_block spec.category records) (framed spec.category body)
read_of spec records body short h = record {
  spec = spec;
  known = ap (λ b. cond b (Some spec) None) (eqb_same spec.category);
  body = body;
  framed = framed_is spec.category body (omega (arith, length-framed spec.category body));
  spelled = h;
}

spelled_at : (spec : SpecTree) (state : ℕ) (b : Bool) → NoFlaw spec → nat_lt 65535 (3 + length (octets_of (records_made spec state).0)) ≡ b
    → IsSpelledBlock spec (cond b (framed spec.category (0 ∷ [])) (framed spec.category (octets_of (records_made spec state).0)))
spelled_at spec state true none e = record {
  records = no_entries ∷ [];
  spelled = read_of spec (no_entries ∷ []) (0 ∷ []) (omega arith) (record { some = omega arith; spelled = (word 8 0, [], refl, empty_record spec none, refl) });
}
spelled_at spec state false none e =
    let r = body_spelled spec none state in
    record {
      records = r.0;
      spelled = read_of spec r.0 (octets_of (records_made spec state).0) (at_most 65535 (3 + length (octets_of (records_made spec state).0)) e) (subst (SpellsBody spec r.0) (sym (body_bits spec state none)) r.1);
    }

pub made_spelled : (spec : SpecTree) (state : ℕ) → NoFlaw spec → IsSpelledBlock spec (block_made spec state).0
made_spelled spec state none = spelled_at spec state (nat_lt 65535 (3 + length (octets_of (records_made spec state).0))) none refl

pub spelled_made : (spec : SpecTree) (block : List ℕ) (first after : ℕ) → NoFlaw spec → Adds (block_made spec) [] block first after → IsSpelledBlock spec block
spelled_made spec block first after none a = subst (IsSpelledBlock spec) (sym a.list) (made_spelled spec first none)

pub ruleset blocks = (block_adds, spelled_made)
