-- The rows of a presence field of which each is one step.
use Rattle.std.proofs.Common.{◌≡◌, ℕ, ◌+◌, ◌-◌, ◌*◌, ◌/◌, ◌%◌, ◌<◌, ◌≤◌, ◌⊎◌, inl, inr, zero, suc, Bool, List, [], ◌∷◌, ◌++◌, length, drop, get_or, map, refl, sym, arith, subst}
use Rattle.std.proofs.lemmas.List.{length-map}
use Rattle.ax_format.specs.Presence.{octets_needed}
use Rattle.ax_fspec.proofs.Sets.{length-seven}
use Rattle.ax_fspec.specs.Marks.{seven}
use Rattle.ax_fspec.specs.Reading.{IsMaskOf}
use Rattle.ax_fspec.specs.declared.mask.SlotMask.{SlotMask}
use Rattle.ax_rows.specs.Rows.{slot_steps, row_of, no_step, HaveRow, IsRow, AreRows}
use Rattle.ax_rows.specs.declared.step.Step.{Step}
use Rattle.ax_codec.specs.Meaning.{meanings, linked_slot, linked_slots}
use Rattle.ax_codec.specs.Octets.{octets_of}
use Rattle.ax_codec.specs.Table.{IsTable}
use Rattle.ax_codec.specs.declared.node.Node.{Node}
use Rattle.ax_walk.proofs.RowFields.{FieldLeads, field_begins, field_next}
use Rattle.ax_walk.proofs.RowSteps.{head_skip, step_at, row_begins, row_ended, slots_drop}
use Rattle.ax_walk.specs.Rows.{AreSlots, slots_at}

-- the slots of the first i presence octets lead over so many octets, wherever these begin
abbrev pub FieldSkips : List Node → List ℕ → List ℕ → ℕ → ℕ → ℕ → Type 0
FieldSkips nodes body links field i skip = (items : ℕ) (least : Bool) → items + skip ≤ length body → FieldLeads nodes body links field items i (items + skip) least

pub skips_none : (nodes : List Node) (body links : List ℕ) (field : ℕ) → FieldSkips nodes body links field 0 0
skips_none nodes body links field items least le =
    subst (λ n. FieldLeads nodes body links field items 0 n least) (let e : items ≡ items + 0 = omega arith in e) (field_begins nodes body links field items least (omega (arith, le)))

pub skips_next : (nodes : List Node) (octets body links : List ℕ) (field i skip : ℕ) (steps : List Step) (first n op : ℕ) → IsTable nodes → octets ≡ map octets_of nodes → AreSlots nodes links
    → IsRow octets (slots_at i links) (seven (get_or body (field + i) 0 / 2)) steps first → n ≡ (get_or steps first no_step).skip → op ≡ (get_or steps first no_step).link → op ≡ 0 → field + i < length body
    → FieldSkips nodes body links field i skip → FieldSkips nodes body links field (i + 1) (skip + n)
skips_next nodes octets body links field i skip steps first n op table same are row skip_is op_is ends lt h items least le =
    let v = get_or body (field + i) 0 / 2 in
    let slots = slots_at i links in
    let here = items + skip in
    let there : here ≤ length body = omega (arith, le) in
    subst (λ m. FieldLeads nodes body links field items (i + 1) m least) (let e : here + n ≡ items + (skip + n) = omega arith in e)
    (field_next nodes body links field items i here (here + n) least least lt (λ t. t) (h items least there)
    (λ s more.
    row_ended nodes octets body s slots (seven v ++ more) here (s + 7) (drop 7 slots) more steps first here least table same
    (row_begins nodes octets body s slots v more here steps first least (slots_drop nodes (7 * i) links are) row there) n op skip_is op_is (omega (arith, le)) ends))

-- ---- no sum is great

slot_small : (n link skip most : ℕ) (go : ℕ → List Step) → n ≤ 65535 → ((k : ℕ) → head_skip (go k) ≤ k + most) → head_skip (slot_steps n link skip go) ≤ skip + (65535 + most)
slot_small zero link skip most go le h = omega arith
slot_small (suc n) link skip most go le h = omega (arith, le, h (skip + suc n))

row_small : (octets links ms : List ℕ) (skip : ℕ) → HaveRow octets links ms → head_skip (row_of octets links ms skip) ≤ skip + 65535 * length ms
row_small octets [] ms skip h = omega arith
row_small octets (link ∷ links) [] skip h = omega arith
row_small octets (link ∷ links) (zero ∷ ms) skip h = omega (arith, row_small octets links ms skip h)
row_small octets (link ∷ links) (suc m ∷ ms) skip h =
    omega (arith, slot_small (get_or octets (link - 1) 0) link skip (65535 * length ms) (row_of octets links ms) h.0.1 (λ k. row_small octets links ms k h.1))

-- the first step of a row
pub step_there : (octets links : List ℕ) (v : ℕ) (steps : List Step) (first : ℕ) → IsRow octets links (seven v) steps first → first < length steps
step_there octets links v steps first row = (step_at octets links (seven v) 0 steps first (row_of octets links (seven v) 0) refl row.stands).within

pub step_small : (octets links : List ℕ) (v : ℕ) (steps : List Step) (first : ℕ) → IsRow octets links (seven v) steps first → (get_or steps first no_step).skip ≤ 458745
step_small octets links v steps first row =
    omega (arith, (step_at octets links (seven v) 0 steps first (row_of octets links (seven v) 0) refl row.stands).skip, row_small octets links (seven v) 0 row.has, length-seven v)

-- ---- the octets of a field

pub goes_further : (body : List ℕ) (at i : ℕ) → ((j : ℕ) → j < i → get_or body (at + j) 0 % 2 ≡ 1) → get_or body (at + i) 0 % 2 ≡ 1 → (j : ℕ) → j < i + 1 → get_or body (at + j) 0 % 2 ≡ 1
goes_further body at i h one j lt = by_case (let c : (j < i) ⊎ (j ≡ i) = grind arith in c)
  where
    by_case : (j < i) ⊎ (j ≡ i) → get_or body (at + j) 0 % 2 ≡ 1
    by_case (inl l) = h j l
    by_case (inr e) = subst (λ k. get_or body (at + k) 0 % 2 ≡ 1) (sym e) one

-- a presence octet that has rows is one of those that the slots need
pub octet_needed : (nodes : List Node) (octets links : List ℕ) (mask : SlotMask) (start : List ℕ) (steps : List Step) (i : ℕ) → IsMaskOf (linked_slots (meanings nodes) links) mask → AreRows octets links start steps → 128 * i < length start → i + 1 ≤ octets_needed mask.count
octet_needed nodes octets links mask start steps i m rows lt = omega (arith, m.count, length-map links (linked_slot (meanings nodes)), rows.size, lt)
