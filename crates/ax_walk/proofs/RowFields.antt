-- The rows of a presence field, one octet after the other.
use Rattle.std.proofs.Common.{◌≡◌, ℕ, inl, inr, ◌+◌, ◌-◌, ◌*◌, ◌/◌, ◌%◌, ◌<◌, ◌≤◌, ◌⊎◌, Bool, IsTrue, Option, Some, None, IfSome, List, ◌++◌, length, take, drop, replicate, get_or, sym, ◌∙◌, ap, arith, subst}
use Rattle.std.proofs.lemmas.List.{drop-drop}
use Rattle.ax_bits.specs.Bits.{bits, AreOctets}
use Rattle.ax_fspec.proofs.FieldLaws.{one_set, prefix_free}
use Rattle.ax_fspec.specs.Fields.{IsFieldOf, MarksSlots, mask_slots}
use Rattle.ax_fspec.specs.Marks.{seven}
use Rattle.ax_fspec.specs.declared.mask.SlotMask.{SlotMask}
use Rattle.ax_format.specs.Canonical.{canon}
use Rattle.ax_format.specs.InBounds.{InBounds}
use Rattle.ax_format.specs.Presence.{octets_needed, none_marked}
use Rattle.ax_format.specs.Reader.{got}
use Rattle.ax_format.specs.Tree.{no_entries}
use Rattle.ax_fspec.proofs.AtOctets.{length-octets, octets_parts}
use Rattle.ax_fspec.specs.Reading.{IsMaskOf, kind_read, entries_at}
use Rattle.ax_rows.specs.Rows.{no_row, HaveRow, IsRow, AreRows}
use Rattle.ax_rows.specs.declared.step.Step.{Step}
use Rattle.ax_codec.specs.Meaning.{meanings, linked_slots}
use Rattle.ax_codec.specs.Table.{record_kind_at}
use Rattle.ax_codec.specs.declared.codec.Codec.{Codec}
use Rattle.ax_codec.specs.declared.node.Node.{Node}
use Rattle.ax_walk.proofs.Compounds.{compound_leads}
use Rattle.ax_walk.proofs.FieldRows.{field_marks, field_marks_slots, none_after, marks_next}
use Rattle.ax_walk.proofs.Leading.{leads_on, leads_none}
use Rattle.ax_walk.proofs.MarkedSteps.{no_entries_left, along_none}
use Rattle.ax_walk.specs.Rows.{slots_read, tree_of, SlotsLead, IsField, HaveRows, WalksItems, marks_of, slots_at}
use Rattle.ax_walk.specs.Walking.{Walks, along, NeedsLast}

lead_join : (nodes : List Node) (body : List ℕ) (s : ℕ) (links marks : List ℕ) (at t : ℕ) (mid mid_marks : List ℕ) (here : ℕ) (before : Bool) (u : ℕ) (later later_marks : List ℕ) (end : ℕ) (least : Bool) → (IsTrue least → IsTrue before)
    → SlotsLead nodes body s links marks at t mid mid_marks here before → SlotsLead nodes body t mid mid_marks here u later later_marks end least → SlotsLead nodes body s links marks at u later later_marks end least
lead_join nodes body s links marks at t mid mid_marks here before u later later_marks end least falls h g = record {
  leads = leads_on (along (tree_of nodes later) later_marks) (slots_read u (tree_of nodes later) later_marks body end) (along (tree_of nodes mid) mid_marks) (slots_read t (tree_of nodes mid) mid_marks body here) (along (tree_of nodes links) marks) (slots_read s (tree_of nodes links) marks body at) body at here end before least falls h.leads g.leads;
}

drop_seven : (i : ℕ) (xs : List ℕ) → drop 7 (drop (7 * i) xs) ≡ drop (7 * (i + 1)) xs
drop_seven i xs = drop-drop 7 (7 * i) xs ∙ ap (λ n. drop n xs) (let e : 7 * i + 7 ≡ 7 * (i + 1) = omega arith in e)

-- ---- the row at a place of the table

pub row_there : (octets links start : List ℕ) (steps : List Step) (i v first place : ℕ) → AreRows octets links start steps → v < 128 → place ≡ 128 * i + v → place < length start → first ≡ get_or start place 0 → (first ≡ no_row → ⊥)
    → IsRow octets (slots_at i links) (seven v) steps first
row_there octets links start steps i v first place h few p lt is some =
    let q : place / 128 ≡ i = omega arith in
    let r : place % 128 ≡ v = omega arith in
    subst (IsRow octets (slots_at i links) (seven v) steps) (sym is)
    (subst (λ k. IsRow octets (slots_at k links) (seven v) steps (get_or start place 0)) q
    (subst (λ w. IsRow octets (drop (7 * (place / 128)) links) (seven w) steps (get_or start place 0)) r ((h.each.rows place lt).some (λ e. some (is ∙ e)))))

-- ---- octet after octet

-- the slots of the first i presence octets lead on, whatever marks are after them
abbrev pub FieldLeads : List Node → List ℕ → List ℕ → ℕ → ℕ → ℕ → ℕ → Bool → Type 0
FieldLeads nodes body links field items i here least =
    (more : List ℕ) → SlotsLead nodes body 1 links (marks_of (take i (drop field body)) ++ more) items (7 * i + 1) (slots_at i links) more here least

pub field_begins : (nodes : List Node) (body links : List ℕ) (field items : ℕ) (least : Bool) → items ≤ length body → FieldLeads nodes body links field items 0 items least
field_begins nodes body links field items least le more = record { leads = leads_none (along (tree_of nodes links) more) (slots_read 1 (tree_of nodes links) more body items) body items least le }

pub field_next : (nodes : List Node) (body links : List ℕ) (field items i here end : ℕ) (before least : Bool) → field + i < length body → (IsTrue least → IsTrue before) → FieldLeads nodes body links field items i here before
    → ((s : ℕ) (more : List ℕ) → SlotsLead nodes body s (slots_at i links) (seven (get_or body (field + i) 0 / 2) ++ more) here (s + 7) (drop 7 (slots_at i links)) more end least)
    → FieldLeads nodes body links field items (i + 1) end least
field_next nodes body links field items i here end before least lt falls h g more =
    let v = seven (get_or body (field + i) 0 / 2) in
    let j = lead_join nodes body 1 links (marks_of (take i (drop field body)) ++ (v ++ more)) items (7 * i + 1) (slots_at i links) (v ++ more) here before (7 * i + 1 + 7) (drop 7 (slots_at i links)) more end least falls (h (v ++ more)) (g (7 * i + 1) more) in
    let number : 7 * i + 1 + 7 ≡ 7 * (i + 1) + 1 = omega arith in
    subst (λ ms. SlotsLead nodes body 1 links ms items (7 * (i + 1) + 1) (slots_at (i + 1) links) more end least) (marks_next body field i more lt)
    (subst (λ ls. SlotsLead nodes body 1 links (marks_of (take i (drop field body)) ++ (v ++ more)) items (7 * (i + 1) + 1) ls more end least) (drop_seven i links)
    (subst (λ t. SlotsLead nodes body 1 links (marks_of (take i (drop field body)) ++ (v ++ more)) items t (drop 7 (slots_at i links)) more end least) number j))

pub have_none : (octets links body : List ℕ) (field : ℕ) → HaveRows octets links body field 0
have_none octets links body field = record { each = λ j lt. absurd (omega arith) }

pub have_next : (octets links body : List ℕ) (field i : ℕ) → HaveRows octets links body field i → HaveRow octets (slots_at i links) (seven (get_or body (field + i) 0 / 2)) → HaveRows octets links body field (i + 1)
have_next octets links body field i h g = record { each = each }
  where
    each : (j : ℕ) → j < i + 1 → HaveRow octets (slots_at j links) (seven (get_or body (field + j) 0 / 2))
    each j lt = by_case (let c : (j < i) ⊎ (j ≡ i) = grind arith in c)
      where
        by_case : (j < i) ⊎ (j ≡ i) → HaveRow octets (slots_at j links) (seven (get_or body (field + j) 0 / 2))
        by_case (inl l) = h.each j l
        by_case (inr e) = subst (λ j. HaveRow octets (slots_at j links) (seven (get_or body (field + j) 0 / 2))) (sym e) g

-- ---- after the last octet

lead_last : (nodes : List Node) (body links marks : List ℕ) (at t : ℕ) (later later_marks : List ℕ) (here : ℕ) (least : Bool) → IsTrue (none_marked later_marks) → SlotsLead nodes body 1 links marks at t later later_marks here least
    → Walks (along (tree_of nodes links) marks) (entries_at (tree_of nodes links) marks body at) body at here least
unfolding slots_read entries_at
lead_last nodes body links marks at t later later_marks here least none h =
    h.leads.gets here least (λ t. t) (record {
      value = no_entries;
      read = record { forwards = omega arith; within = h.leads.within; got = no_entries_left t (tree_of nodes later) later_marks (bits (drop here body)) none ∙ ap (λ m. got no_entries m (bits (drop here body))) (let e : 0 ≡ 8 * (here - here) = omega arith in e) };
      canonical = λ f. ap (λ x. x ++ bits (drop here body)) (along_none (tree_of nodes later) later_marks none);
    })

pub rows_walked : (nodes : List Node) (octets links : List ℕ) (mask : SlotMask) (body : List ℕ) (at count : ℕ) → AreOctets body → InBounds (record_kind_at nodes links) → IsMaskOf (linked_slots (meanings nodes) links) mask → mask.count ≤ 126
    → IsField body at count → count ≤ octets_needed mask.count → (before least : Bool) (r : Option ℕ) → (IsTrue before → NeedsLast body at (at + count)) → (IsTrue least → IsTrue before)
    → IfSome r (λ end. HaveRows octets links body at count) → IfSome r (λ end. FieldLeads nodes body links at (at + count) count end least)
    → IfSome r (λ end. Walks (canon (record_kind_at nodes links)) (kind_read (record_kind_at nodes links) body at) body at end least)
rows_walked nodes octets links mask body at count are bounds m most f few before least None need falls rows h = tt
rows_walked nodes octets links mask body at count are bounds m most f few before least (Some end) need falls rows h =
    let marks = field_marks body at count in
    let marked = field_marks_slots (meanings nodes) octets links mask body at count m f few most rows in
    (compound_leads nodes links mask body marks at (at + count) are bounds m marked before need).gets end least falls
    (lead_last nodes body links marks (at + count) (7 * count + 1) (slots_at count links) (replicate (126 - 7 * count) 0) end least (none_after count) (h (replicate (126 - 7 * count) 0)))

-- ---- the items behind a field

-- a presence field ends in one place, and marks one set
set_once : (mask : SlotMask) (body : List ℕ) (at here there : ℕ) (marks others : List ℕ) → MarksSlots mask body at here marks → MarksSlots mask body at there others → (here ≡ there) × (marks ≡ others)
set_once mask body at here there marks others h g =
    let front = bits (take (here - at) (drop at body)) in
    let other = bits (take (there - at) (drop at body)) in
    let split : front ++ bits (drop here body) ≡ other ++ bits (drop there body) = sym (octets_parts body at here (omega (arith, h.begins))) ∙ octets_parts body at there (omega (arith, g.begins)) in
    let same = prefix_free (octets_needed mask.count) (mask_slots mask) (take (7 * h.field.octets) marks) (take (7 * g.field.octets) others) front other (bits (drop here body)) (bits (drop there body)) h.field.field g.field.field split in
    let ends : here ≡ there = omega (arith, ap length same.0, length-octets body at here (omega (arith, h.begins)) h.within, length-octets body at there (omega (arith, g.begins)) g.within, h.begins, g.begins) in
    (ends, one_set mask.count (mask_slots mask) marks others front (h.size ∙ sym g.size) h.field (subst (IsFieldOf mask.count (mask_slots mask) others) (sym same.0) g.field))

rows_items : (codec : Codec) (octets body : List ℕ) (at count end : ℕ) (least : Bool) → IsField body at count → count ≤ octets_needed codec.mask.count → HaveRows octets codec.slots body at count
    → FieldLeads codec.nodes body codec.slots at (at + count) count end least → WalksItems codec body at end least
rows_items codec octets body at count end least f few rows h =
    let tree = tree_of codec.nodes codec.slots in
    let marks = field_marks body at count in
    let marked = field_marks_slots (meanings codec.nodes) octets codec.slots codec.mask body at count codec.records.mask f few codec.mask.few rows in
    let own = lead_last codec.nodes body codec.slots marks (at + count) (7 * count + 1) (slots_at count codec.slots) (replicate (126 - 7 * count) 0) end least (none_after count) (h (replicate (126 - 7 * count) 0)) in record {
      walks = λ here others g. (
          let one = set_once codec.mask body at (at + count) here marks others marked g in
          subst (λ ms. Walks (along tree ms) (entries_at tree ms body here) body here end least) one.1 (subst (λ n. Walks (along tree marks) (entries_at tree marks body n) body n end least) one.0 own));
    }

pub rows_items_if : (codec : Codec) (nodes : List Node) (links octets body : List ℕ) (at count : ℕ) (least : Bool) (r : Option ℕ) → nodes ≡ codec.nodes → links ≡ codec.slots → IsField body at count → count ≤ octets_needed codec.mask.count → IfSome r (λ end. HaveRows octets links body at count)
    → IfSome r (λ end. FieldLeads nodes body links at (at + count) count end least) → IfSome r (λ end. WalksItems codec body at end least)
rows_items_if codec nodes links octets body at count least None same_nodes same_links f few rows h = tt
rows_items_if codec nodes links octets body at count least (Some end) same_nodes same_links f few rows h =
    rows_items codec octets body at count end least f few (subst (λ links. HaveRows octets links body at count) same_links rows)
    (subst (λ links. FieldLeads codec.nodes body links at (at + count) count end least) same_links (subst (λ nodes. FieldLeads nodes body links at (at + count) count end least) same_nodes h))
