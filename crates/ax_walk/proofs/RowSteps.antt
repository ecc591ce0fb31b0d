-- The lemma of a row.
use Rattle.std.proofs.Common.{◌≡◌, ℕ, zero, suc, ◌+◌, ◌-◌, ◌<◌, ◌≤◌, Bool, IsTrue, List, [], ◌∷◌, ◌++◌, length, drop, get_or, map, refl, sym, ◌∙◌, ap, arith, subst, append_assoc}
use Rattle.ax_bits.specs.Bits.{bits}
use Rattle.ax_format.specs.Canonical.{canon}
use Rattle.ax_format.specs.InBounds.{InBounds}
use Rattle.ax_fspec.proofs.Sets.{length-seven}
use Rattle.ax_fspec.specs.Marks.{seven}
use Rattle.ax_format.specs.Reader.{both, entries_read}
use Rattle.ax_format.specs.Tree.{KindTree, entry_and, SlotsTree, slot_and, subitem}
use Rattle.ax_fspec.specs.Reading.{kind_read}
use Rattle.ax_codec.specs.Meaning.{meanings, linked_slot}
use Rattle.ax_codec.specs.Octets.{octets_of}
use Rattle.ax_codec.specs.Table.{IsTable, kind_at}
use Rattle.ax_codec.specs.declared.node.Node.{Node}
use Rattle.ax_walk.proofs.Leading.{leads_none, leads_on, leads_by}
use Rattle.ax_walk.proofs.NodeKinds.{octets_walk}
use Rattle.ax_walk.specs.Walking.{Walks, Leads, along}
use Rattle.ax_rows.specs.declared.step.Step.{Step}
use Rattle.ax_rows.specs.Rows.{ending, slot_steps, row_of, no_step, HaveRow, Stands, IsRow}
use Rattle.ax_walk.specs.Rows.{slots_read, tree_of, AreSlots, SlotsLead}

-- ---- the first step

abbrev pub head_skip : List Step → ℕ
head_skip [] = 0
head_skip (one ∷ row) = one.skip

abbrev pub head_link : List Step → ℕ
head_link [] = 0
head_link (one ∷ row) = one.link

abbrev pub after_head : List Step → List Step
after_head [] = []
after_head (one ∷ row) = row

slot_grows : (n link skip : ℕ) (go : ℕ → List Step) → ((k : ℕ) → k ≤ head_skip (go k)) → skip ≤ head_skip (slot_steps n link skip go)
slot_grows zero link skip go h = omega arith
slot_grows (suc n) link skip go h = omega (arith, h (skip + suc n))

-- what is still to be passed over is passed over first
pub row_grows : (octets links ms : List ℕ) (skip : ℕ) → skip ≤ head_skip (row_of octets links ms skip)
row_grows octets [] ms skip = omega arith
row_grows octets (link ∷ links) [] skip = omega arith
row_grows octets (link ∷ links) (zero ∷ ms) skip = row_grows octets links ms skip
row_grows octets (link ∷ links) (suc m ∷ ms) skip = slot_grows (get_or octets (link - 1) 0) link skip (row_of octets links ms) (row_grows octets links ms)

-- ---- one slot

pub sub_leads : (ss : SlotsTree) (name : List ℕ) (k : KindTree) (s m : ℕ) (ms body : List ℕ) (here end : ℕ) (least : Bool) → Walks (canon k) (kind_read k body here) body here end least
    → Leads (along ss ms) (slots_read (s + 1) ss ms body end) (along (slot_and (subitem name k) ss) (suc m ∷ ms)) (slots_read s (slot_and (subitem name k) ss) (suc m ∷ ms) body here) body here end least
unfolding kind_read slots_read
sub_leads ss name k s m ms body here end least w =
    leads_by (along ss ms) (slots_read (s + 1) ss ms body end) (along (slot_and (subitem name k) ss) (suc m ∷ ms)) (slots_read s (slot_and (subitem name k) ss) (suc m ∷ ms) body here) body here end (λ es. entry_and s w.value es) least w.read.within
    (record { forwards = w.read.forwards; same = ap (λ r. both (λ v es. entry_and s v es) r (entries_read (s + 1) ss ms)) w.read.got })
    (λ es last f g c. append_assoc (canon k w.value) (along ss ms es) (bits (drop last body)) ∙ ap (λ z. canon k w.value ++ z) c ∙ w.canonical f)

pub slot_is : (nodes : List Node) (link : ℕ) → 0 < link → linked_slot (meanings nodes) link ≡ subitem [] (kind_at nodes link)
unfolding kind_at
slot_is nodes zero some = absurd (omega arith)
slot_is nodes (suc i) some = refl

-- slots that have a row with these marks
pub record HaveSlots (nodes : List Node) (octets links ms : List ℕ) : Type 0 where
  pub slots : AreSlots nodes links
  pub has : HaveRow octets links ms

link_bounds : (nodes : List Node) (link : ℕ) (links : List ℕ) → AreSlots nodes (link ∷ links) → 0 < link → InBounds (kind_at nodes link)
unfolding kind_at
link_bounds nodes zero links h some = absurd (omega arith)
link_bounds nodes (suc i) links h some = h.bounds.0

later_slots : (nodes : List Node) (link : ℕ) (links : List ℕ) → AreSlots nodes (link ∷ links) → AreSlots nodes links
later_slots nodes zero links h = record { within = h.within.1; bounds = h.bounds }
later_slots nodes (suc i) links h = record { within = h.within.1; bounds = h.bounds.1 }

pub slots_drop : (nodes : List Node) (n : ℕ) (links : List ℕ) → AreSlots nodes links → AreSlots nodes (drop n links)
slots_drop nodes zero links h = h
slots_drop nodes (suc n) [] h = h
slots_drop nodes (suc n) (link ∷ links) h = slots_drop nodes n links (later_slots nodes link links h)

-- ---- slots one after the other

module _ (nodes : List Node) (body : List ℕ) (s : ℕ) (links marks : List ℕ) (at : ℕ) where
  abbrev Lead : ℕ → List ℕ → List ℕ → ℕ → Bool → Type 0
  Lead t later ms here least = SlotsLead nodes body s links marks at t later ms here least

  pub lead_none : (least : Bool) → at ≤ length body → SlotsLead nodes body s links marks at s links marks at least
  lead_none least le = record { leads = leads_none (along (tree_of nodes links) marks) (slots_read s (tree_of nodes links) marks body at) body at least le }

  pub lead_past : (t link : ℕ) (later ms : List ℕ) (here : ℕ) (least : Bool) → SlotsLead nodes body s links marks at t (link ∷ later) (0 ∷ ms) here least → SlotsLead nodes body s links marks at (t + 1) later ms here least
  unfolding slots_read
  lead_past t zero later ms here least h = record { leads = h.leads }
  lead_past t (suc i) later ms here least h = record { leads = h.leads }

  pub lead_over : (t link m : ℕ) (later ms : List ℕ) (here end : ℕ) (before least : Bool) → 0 < link → (IsTrue least → IsTrue before) → SlotsLead nodes body s links marks at t (link ∷ later) (suc m ∷ ms) here before
      → Walks (canon (kind_at nodes link)) (kind_read (kind_at nodes link) body here) body here end least → SlotsLead nodes body s links marks at (t + 1) later ms end least
  lead_over t link m later ms here end before least some falls h w =
      let ss = tree_of nodes later in
      let one : Leads (along ss ms) (slots_read (t + 1) ss ms body end) (along (slot_and (linked_slot (meanings nodes) link) ss) (suc m ∷ ms)) (slots_read t (slot_and (linked_slot (meanings nodes) link) ss) (suc m ∷ ms) body here) body here end least
      = subst (λ slot. Leads (along ss ms) (slots_read (t + 1) ss ms body end) (along (slot_and slot ss) (suc m ∷ ms)) (slots_read t (slot_and slot ss) (suc m ∷ ms) body here) body here end least) (sym (slot_is nodes link some)) (sub_leads ss [] (kind_at nodes link) t m ms body here end least w) in
      record { leads = leads_on (along ss ms) (slots_read (t + 1) ss ms body end) (along (tree_of nodes (link ∷ later)) (suc m ∷ ms)) (slots_read t (tree_of nodes (link ∷ later)) (suc m ∷ ms) body here) (along (tree_of nodes links) marks) (slots_read s (tree_of nodes links) marks body at) body at here end before least falls h.leads one }

  pub lead_empty : (t u : ℕ) (ms more : List ℕ) (here : ℕ) (least : Bool) → SlotsLead nodes body s links marks at t [] ms here least → SlotsLead nodes body s links marks at u [] more here least
  unfolding slots_read
  lead_empty t u ms more here least h = record { leads = h.leads }

-- ---- a row

-- where the walk of a row stands: `row` is what is left of it, and at its end the slots `later`, from number t on, and the marks `more` are left
pub record RowStands (nodes : List Node) (octets body : List ℕ) (s : ℕ) (links marks : List ℕ) (at t : ℕ) (later more : List ℕ) (row : List Step) (here : ℕ) (least : Bool) : Type 0 where
  pub slot : ℕ
  pub left : List ℕ
  pub ms : List ℕ
  pub skip : ℕ
  pub row_is : row ≡ row_of octets left ms skip
  pub slots : HaveSlots nodes octets left ms
  pub number : slot + length ms ≡ t
  pub after : drop (length ms) left ≡ later
  pub leads : SlotsLead nodes body s links marks at slot left (ms ++ more) (here + skip) least

-- the first step of a row was met, and the octets that it passes over are there
pub record FirstMet (nodes : List Node) (octets body : List ℕ) (s : ℕ) (links marks : List ℕ) (at t : ℕ) (later more : List ℕ) (row : List Step) (here : ℕ) (least : Bool) : Type 0 where
  pub ends : head_link row ≡ 0 → SlotsLead nodes body s links marks at t later more (here + head_skip row) least
  pub within : 0 < head_link row → head_link row ≤ length nodes
  pub bounds : 0 < head_link row → InBounds (kind_at nodes (head_link row))
  pub goes : 0 < head_link row → (end : ℕ) (now : Bool) → (IsTrue now → IsTrue least) → Walks (canon (kind_at nodes (head_link row))) (kind_read (kind_at nodes (head_link row)) body (here + head_skip row)) body (here + head_skip row) end now
      → RowStands nodes octets body s links marks at t later more (after_head row) end now

module _ (nodes : List Node) (octets body : List ℕ) (s : ℕ) (links marks : List ℕ) (at t : ℕ) (later more : List ℕ) (here : ℕ) (least : Bool) (table : IsTable nodes) (same : octets ≡ map octets_of nodes) where
  Met : List Step → Type 0
  Met row = FirstMet nodes octets body s links marks at t later more row here least

  met_end : (slot : ℕ) (left : List ℕ) (skip : ℕ) → slot ≡ t → left ≡ later → SlotsLead nodes body s links marks at slot left more (here + skip) least → FirstMet nodes octets body s links marks at t later more (ending skip) here least
  met_end slot left skip e f h = record {
    ends = λ z. subst (λ n. SlotsLead nodes body s links marks at n later more (here + skip) least) e (subst (λ xs. SlotsLead nodes body s links marks at slot xs more (here + skip) least) f h);
    within = λ some. absurd (omega arith);
    bounds = λ some. absurd (omega arith);
    goes = λ some. absurd (omega arith);
  }

  met_op : (slot link m : ℕ) (left ms : List ℕ) (skip : ℕ) → HaveSlots nodes octets (link ∷ left) (suc m ∷ ms) → suc slot + length ms ≡ t → drop (length ms) left ≡ later
      → SlotsLead nodes body s links marks at slot (link ∷ left) (suc m ∷ (ms ++ more)) (here + skip) least → FirstMet nodes octets body s links marks at t later more (record { skip = skip; link = link } ∷ row_of octets left ms 0) here least
  met_op slot link m left ms skip h number after l =
      let some : 0 < link = h.has.0.0 in record {
        ends = λ z. absurd (omega arith);
        within = λ _. h.slots.within.0;
        bounds = λ _. link_bounds nodes link left h.slots some;
        goes = λ _ end now falls w. record {
          slot = slot + 1;
          left = left;
          ms = ms;
          skip = 0;
          row_is = refl;
          slots = record { slots = later_slots nodes link left h.slots; has = h.has.1 };
          number = omega arith;
          after = after;
          leads = subst (λ n. SlotsLead nodes body s links marks at (slot + 1) left (ms ++ more) n now) (let e : end ≡ end + 0 = omega arith in e)
              (lead_over nodes body s links marks at slot link m left (ms ++ more) (here + skip) end least now some falls l w);
        };
      }

  -- `go` is the lemma for the slots after it
  marked_met : (slot link m : ℕ) (left ms : List ℕ) (skip n : ℕ) → get_or octets (link - 1) 0 ≡ n → HaveSlots nodes octets (link ∷ left) (suc m ∷ ms) → suc slot + length ms ≡ t → drop (length ms) left ≡ later
      → SlotsLead nodes body s links marks at slot (link ∷ left) (suc m ∷ (ms ++ more)) (here + skip) least → here + head_skip (slot_steps n link skip (row_of octets left ms)) ≤ length body
      → ((k : ℕ) → SlotsLead nodes body s links marks at (slot + 1) left (ms ++ more) (here + k) least → here + head_skip (row_of octets left ms k) ≤ length body → FirstMet nodes octets body s links marks at t later more (row_of octets left ms k) here least)
      → FirstMet nodes octets body s links marks at t later more (slot_steps n link skip (row_of octets left ms)) here least
  marked_met slot link m left ms skip zero e h number after l le go = met_op slot link m left ms skip h number after l
  marked_met slot link m left ms skip (suc n) e h number after l le go =
      let some : 0 < link = h.has.0.0 in
      let fits : here + skip + suc n ≤ length body = omega (arith, row_grows octets left ms (skip + suc n)) in
      let w = octets_walk nodes link body (here + skip) (suc n) least table some h.slots.within.0 (link_bounds nodes link left h.slots some) (omega arith) fits octets same e in
      go (skip + suc n)
      (subst (λ n. SlotsLead nodes body s links marks at (slot + 1) left (ms ++ more) n least) (let e : here + skip + suc n ≡ here + (skip + suc n) = omega arith in e)
      (lead_over nodes body s links marks at slot link m left (ms ++ more) (here + skip) (here + skip + suc n) least least some (λ t. t) l w)) le

  pub first_met : (slot : ℕ) (left ms : List ℕ) (skip : ℕ) → HaveSlots nodes octets left ms → slot + length ms ≡ t → drop (length ms) left ≡ later
      → SlotsLead nodes body s links marks at slot left (ms ++ more) (here + skip) least → here + head_skip (row_of octets left ms skip) ≤ length body → FirstMet nodes octets body s links marks at t later more (row_of octets left ms skip) here least
  first_met slot [] [] skip h number after l le = met_end slot [] skip (omega arith) after l
  first_met slot [] (m ∷ ms) skip h number after l le = met_end t [] skip refl after (lead_empty nodes body s links marks at slot t ((m ∷ ms) ++ more) more (here + skip) least l)
  first_met slot (link ∷ left) [] skip h number after l le = met_end slot (link ∷ left) skip (omega arith) after l
  first_met slot (link ∷ left) (zero ∷ ms) skip h number after l le =
      first_met (slot + 1) left ms skip (record { slots = later_slots nodes link left h.slots; has = h.has }) (omega arith) after (lead_past nodes body s links marks at slot link left (ms ++ more) (here + skip) least l) le
  first_met slot (link ∷ left) (suc m ∷ ms) skip h number after l le =
      let next : slot + 1 + length ms ≡ t = omega arith in
      marked_met slot link m left ms skip (get_or octets (link - 1) 0) refl h (omega arith) after l le
      (λ k l2 le2. first_met (slot + 1) left ms k (record { slots = later_slots nodes link left h.slots; has = h.has.1 }) next after l2 le2)

  pub stands_met : (row : List Step) → RowStands nodes octets body s links marks at t later more row here least → here + head_skip row ≤ length body → FirstMet nodes octets body s links marks at t later more row here least
  stands_met row h le =
      subst (λ r. FirstMet nodes octets body s links marks at t later more r here least) (sym h.row_is)
      (first_met h.slot h.left h.ms h.skip h.slots h.number h.after h.leads (subst (λ r. here + head_skip r ≤ length body) h.row_is le))

-- ---- the row of one presence octet

pub stands_first : (nodes : List Node) (octets body : List ℕ) (s : ℕ) (links ms more : List ℕ) (at : ℕ) (least : Bool) → HaveSlots nodes octets links ms → at ≤ length body
    → RowStands nodes octets body s links (ms ++ more) at (s + length ms) (drop (length ms) links) more (row_of octets links ms 0) at least
stands_first nodes octets body s links ms more at least h le = record {
  slot = s;
  left = links;
  ms = ms;
  skip = 0;
  row_is = refl;
  slots = h;
  number = refl;
  after = refl;
  leads = subst (λ n. SlotsLead nodes body s links (ms ++ more) at s links (ms ++ more) n least) (let e : at ≡ at + 0 = omega arith in e) (lead_none nodes body s links (ms ++ more) at least le);
}

-- ---- in the code

one_of : List Step → Step
one_of row = record { skip = head_skip row; link = head_link row }

slot_shape : (n link skip : ℕ) (go : ℕ → List Step) → ((k : ℕ) → go k ≡ record { skip = head_skip (go k); link = head_link (go k) } ∷ after_head (go k))
    → slot_steps n link skip go ≡ record { skip = head_skip (slot_steps n link skip go); link = head_link (slot_steps n link skip go) } ∷ after_head (slot_steps n link skip go)
slot_shape zero link skip go h = refl
slot_shape (suc n) link skip go h = h (skip + suc n)

-- a row has a first step
pub row_shape : (octets links ms : List ℕ) (skip : ℕ) → row_of octets links ms skip ≡ record { skip = head_skip (row_of octets links ms skip); link = head_link (row_of octets links ms skip) } ∷ after_head (row_of octets links ms skip)
row_shape octets [] ms skip = refl
row_shape octets (link ∷ links) [] skip = refl
row_shape octets (link ∷ links) (zero ∷ ms) skip = row_shape octets links ms skip
row_shape octets (link ∷ links) (suc m ∷ ms) skip = slot_shape (get_or octets (link - 1) 0) link skip (row_of octets links ms) (row_shape octets links ms)

-- the walk stands at a place among the steps
pub record RowAt (nodes : List Node) (octets body : List ℕ) (s : ℕ) (links marks : List ℕ) (at t : ℕ) (later more : List ℕ) (steps : List Step) (place here : ℕ) (least : Bool) : Type 0 where
  pub row : List Step
  pub there : Stands steps place row
  pub stands : RowStands nodes octets body s links marks at t later more row here least

-- the first step is the one at the place
pub record StepAt (steps : List Step) (place : ℕ) (row : List Step) : Type 0 where
  pub within : place < length steps
  pub skip : (get_or steps place no_step).skip ≡ head_skip row
  pub link : (get_or steps place no_step).link ≡ head_link row
  pub rest : Stands steps (suc place) (after_head row)

pub step_at : (octets links ms : List ℕ) (skip : ℕ) (steps : List Step) (place : ℕ) (row : List Step) → row ≡ row_of octets links ms skip → Stands steps place row → StepAt steps place row
step_at octets links ms skip steps place row e h =
    let shape : row ≡ record { skip = head_skip row; link = head_link row } ∷ after_head row = subst (λ r. r ≡ record { skip = head_skip r; link = head_link r } ∷ after_head r) (sym e) (row_shape octets links ms skip) in
    let there : Stands steps place (record { skip = head_skip row; link = head_link row } ∷ after_head row) = subst (Stands steps place) shape h in record {
      within = there.0;
      skip = ap (λ s. s.skip) there.1;
      link = ap (λ s. s.link) there.1;
      rest = there.2;
    }

-- ---- the turn of the loop

module _ (nodes : List Node) (octets body : List ℕ) (s : ℕ) (links marks : List ℕ) (at t : ℕ) (later more : List ℕ) (steps : List Step) (place here : ℕ) (least : Bool) (table : IsTable nodes) (same : octets ≡ map octets_of nodes) (h : RowAt nodes octets body s links marks at t later more steps place here least) where
  at_place : StepAt steps place h.row
  at_place = step_at octets h.stands.left h.stands.ms h.stands.skip steps place h.row h.stands.row_is h.there

  pub place_within : place < length steps
  place_within = at_place.within

  module _ (skip op : ℕ) (skip_is : skip ≡ (get_or steps place no_step).skip) (op_is : op ≡ (get_or steps place no_step).link) (fits : here + skip ≤ length body) where
    skip_same : here + skip ≡ here + head_skip h.row
    skip_same = ap (λ n. here + n) (skip_is ∙ at_place.skip)

    op_same : op ≡ head_link h.row
    op_same = op_is ∙ at_place.link

    met : FirstMet nodes octets body s links marks at t later more h.row here least
    met = stands_met nodes octets body s links marks at t later more here least table same h.row h.stands (subst (λ n. n ≤ length body) skip_same fits)

    pub row_ended : op ≡ 0 → SlotsLead nodes body s links marks at t later more (here + skip) least
    row_ended z = subst (λ n. SlotsLead nodes body s links marks at t later more n least) (sym skip_same) (met.ends (sym op_same ∙ z))

    pub op_link : 0 < op → (0 < op) × (op ≤ length nodes)
    op_link some = (some, (let le = met.within (omega (arith, op_same)) in omega (arith, op_same, le)))

    pub op_bounds : 0 < op → InBounds (kind_at nodes op)
    op_bounds some = subst (λ n. InBounds (kind_at nodes n)) (sym op_same) (met.bounds (omega (arith, op_same)))

    pub row_next : (end : ℕ) (now : Bool) → 0 < op → (IsTrue now → IsTrue least) → Walks (canon (kind_at nodes op)) (kind_read (kind_at nodes op) body (here + skip)) body (here + skip) end now
        → RowAt nodes octets body s links marks at t later more steps (suc place) end now
    row_next end now some falls w = record {
      row = after_head h.row;
      there = at_place.rest;
      stands = met.goes (omega (arith, op_same)) end now falls
          (subst (λ n. Walks (canon (kind_at nodes n)) (kind_read (kind_at nodes n) body (here + head_skip h.row)) body (here + head_skip h.row) end now) op_same
          (subst (λ n. Walks (canon (kind_at nodes op)) (kind_read (kind_at nodes op) body n) body n end now) skip_same w));
    }

-- the walk of a row begins
pub row_begins : (nodes : List Node) (octets body : List ℕ) (s : ℕ) (links : List ℕ) (v : ℕ) (more : List ℕ) (at : ℕ) (steps : List Step) (first : ℕ) (least : Bool) → AreSlots nodes links → IsRow octets links (seven v) steps first → at ≤ length body
    → RowAt nodes octets body s links (seven v ++ more) at (s + 7) (drop 7 links) more steps first at least
row_begins nodes octets body s links v more at steps first least slots row le =
    let stands = stands_first nodes octets body s links (seven v) more at least (record { slots = slots; has = row.has }) le in
    record {
      row = row_of octets links (seven v) 0;
      there = row.stands;
      stands = subst (λ n. RowStands nodes octets body s links (seven v ++ more) at (s + n) (drop n links) more (row_of octets links (seven v) 0) at least) (length-seven v) stands;
    }
