-- Units that begin at an octet: their FX bits, parts, occurrences by FX.
use Rattle.std.proofs.Common.{◌≡◌, ℕ, zero, suc, ◌+◌, ◌-◌, ◌*◌, ◌/◌, ◌%◌, ◌^◌, ◌<◌, ◌≤◌, ◌==◌, ◌⊎◌, inl, inr, ◌↔◌, IsTrue, Bool, true, false, List, [], ◌∷◌, length, take, drop, get_or, refl, sym, ◌∙◌, ap, arith, subst, drop-cons}
use Rattle.std.proofs.lemmas.List.{drop-drop, length-map}
use Rattle.std.proofs.lemmas.Bool.{eqb-true}
use Rattle.ax_bits.proofs.Pieces.{drop-bits}
use Rattle.ax_bits.specs.Bits.{bits, AreOctets}
use Rattle.ax_format.specs.Reader.{fixed_value, members_value, after}
use Rattle.ax_format.specs.Canonical.{canon, parts_canon, run_canon}
use Rattle.ax_format.specs.InBounds.{InBounds, PartInBounds, PartsInBounds}
use Rattle.ax_format.specs.Tree.{FixedTree, MembersTree, extended, by_fx, part_values, occurrences, ValuesTree, value_and, no_values, list_and, no_lists}
use Rattle.ax_format.specs.Widths.{width, members_width, fx_width}
use Rattle.ax_format.specs.declared.fault.BodyCause.TheVariants.{RunsOut, ExtensionPastEnd}
use Rattle.ax_format.specs.declared.fault.BodyFault.{BodyFault}
use Rattle.ax_format.specs.declared.kind.LastPart.{LastPart}
use Rattle.ax_codec.specs.Meaning.{Meaning, linked_part, linked_parts}
use Rattle.ax_fspec.proofs.AtOctets.{IsUnit, run_at, parts_at, run_ends, run_goes_on, run_fails, fx_or_none, parts_fail, parts_end, parts_end_bare, parts_go_on, parts_past_end}
use Rattle.ax_fspec.specs.Reading.{Gets, FailsAt, Continues, kind_read}
use Rattle.ax_walk.proofs.Leading.{leads_on, leads_blind, walks_blind}
use Rattle.ax_walk.proofs.Plain.{plain_again}
use Rattle.ax_walk.specs.Walking.{Walks, Leads}

-- ---- the last bit of an octet

one_bit : (x : ℕ) → (x / 2 ^ 0) % 2 ≡ x % 2
one_bit x = omega arith

last_bit : (x : ℕ) (xs : List ℕ) → take 1 (drop 7 (bits (x ∷ xs))) ≡ (x % 2) ∷ []
last_bit x xs = ap (λ b. b ∷ []) (one_bit x)

fx_at : (body : List ℕ) (end : ℕ) → 0 < end → end ≤ length body → take 1 (drop (8 * (end - 1) + 7) (bits body)) ≡ (get_or body (end - 1) 0 % 2) ∷ []
fx_at body end some within =
    let lt : end - 1 < length body = omega arith in
    let shape : drop (end - 1) body ≡ get_or body (end - 1) 0 ∷ drop (suc (end - 1)) body = drop-cons body (end - 1) 0 lt in
    ap (take 1) (sym (drop-drop 7 (8 * (end - 1)) (bits body)) ∙ ap (drop 7) (drop-bits (end - 1) body ∙ ap bits shape)) ∙ last_bit (get_or body (end - 1) 0) (drop (suc (end - 1)) body)

pub unit_at : (body : List ℕ) (here end w fx : ℕ) → here ≤ end → end ≤ length body → w + 1 ≡ 8 * (end - here) → get_or body (end - 1) 0 % 2 ≡ fx → IsUnit body here end w fx
unit_at body here end w fx le within l e = record {
  forwards = omega arith;
  within = within;
  width = l;
  last = ap (λ n. take 1 (drop n (bits body))) (let z : 8 * here + w ≡ 8 * (end - 1) + 7 = omega arith in z) ∙ fx_at body end (omega arith) within ∙ ap (λ b. b ∷ []) e;
}

-- ---- both kinds, from their first unit on

by_fx_same : (f : FixedTree) (body : List ℕ) (at : ℕ) → Continues (kind_read (by_fx f) body at) at at (λ vs. occurrences vs) (run_at f body at)
unfolding kind_read run_at
by_fx_same f body at = record { forwards = omega arith; same = ap (λ n. after n (λ vs. occurrences vs) (run_at f body at)) (let e : 0 ≡ 8 * (at - at) = omega arith in e) }

extended_same : (last : LastPart) (ps : List MembersTree) (body : List ℕ) (at : ℕ) → Continues (kind_read (extended last ps) body at) at at (λ ls. part_values ls) (parts_at last ps body at)
unfolding kind_read parts_at
extended_same last ps body at = record { forwards = omega arith; same = ap (λ n. after n (λ ls. part_values ls) (parts_at last ps body at)) (let e : 0 ≡ 8 * (at - at) = omega arith in e) }

-- ---- occurrences by FX

pub record RunLeads (f : FixedTree) (body : List ℕ) (at here : ℕ) : Type 0 where
  pub within : here ≤ length body
  pub leads : Leads (run_canon f) (run_at f body here) (canon (by_fx f)) (kind_read (by_fx f) body at) body at here false

pub run_first : (f : FixedTree) (body : List ℕ) (at : ℕ) → at ≤ length body → RunLeads f body at at
unfolding kind_read run_at
run_first f body at le = record {
  within = le;
  leads = leads_blind (run_canon f) (run_at f body at) (canon (by_fx f)) (kind_read (by_fx f) body at) body at at (λ vs. occurrences vs) le (by_fx_same f body at);
}

pub run_next : (f : FixedTree) (body : List ℕ) (at here end w : ℕ) → RunLeads f body at here → here ≤ end → end ≤ length body → w ≡ width f → w + 1 ≡ 8 * (end - here) → get_or body (end - 1) 0 % 2 ≡ 1 → RunLeads f body at end
run_next f body at here end w h le within e l fx =
    let u : IsUnit body here end w 1 = unit_at body here end w 1 le within l fx in
    let v = fixed_value f (drop (8 * here) (bits body)) in record {
      within = within;
      leads = leads_on (run_canon f) (run_at f body end) (run_canon f) (run_at f body here) (canon (by_fx f)) (kind_read (by_fx f) body at) body at here end false false (λ t. t) h.leads
          (leads_blind (run_canon f) (run_at f body end) (run_canon f) (run_at f body here) body here end (λ vs. value_and v vs) within (run_goes_on f body here end w 1 v u (sym e) refl refl));
    }

pub run_last : (f : FixedTree) (body : List ℕ) (at here end w : ℕ) (least : Bool) → RunLeads f body at here → InBounds (by_fx f) → here ≤ end → end ≤ length body → w ≡ width f → w + 1 ≡ 8 * (end - here) → get_or body (end - 1) 0 % 2 ≡ 0
    → Walks (canon (by_fx f)) (kind_read (by_fx f) body at) body at end least
run_last f body at here end w least h bounds le within e l fx =
    let u : IsUnit body here end w 0 = unit_at body here end w 0 le within l fx in
    let v = fixed_value f (drop (8 * here) (bits body)) in
    plain_again (by_fx f) body at end false least tt bounds (h.leads.gets end false (λ t. t) (walks_blind (run_canon f) (run_at f body here) body here end (value_and v no_values) (run_ends f body here end w 0 v u (sym e) refl refl)))

pub run_failed : (f : FixedTree) (body : List ℕ) (at here w : ℕ) (fault : BodyFault) → RunLeads f body at here → w ≡ width f → 8 * (length body - here) < w + 1 → fault.cause ≡ RunsOut → fault.bit ≡ 8 * here → FailsAt (kind_read (by_fx f) body at) at fault
run_failed f body at here w fault h e short c b = h.leads.fails fault (run_fails f body here fault (omega arith) c b)

-- ---- parts

-- no other part follows: there is no FX bit, or a clear one
abbrev pub EndsParts : List ℕ → ℕ → ℕ → Type 0
EndsParts body end fx = (fx ≡ 0) ⊎ (get_or body (end - 1) 0 % 2 ≡ 0)

-- another part follows, or should
abbrev pub GoesOn : List ℕ → ℕ → ℕ → Type 0
GoesOn body end fx = (fx ≡ 1) × (get_or body (end - 1) 0 % 2 ≡ 1)

pub last_read_at : (last : LastPart) (p : MembersTree) (left : List MembersTree) (body : List ℕ) (here end w fx : ℕ) → here ≤ end → end ≤ length body → w ≡ members_width p → fx ≡ fx_width last (length left) → w + fx ≡ 8 * (end - here)
    → EndsParts body end fx → Gets (parts_at last (p ∷ left) body here) body here end (list_and (members_value p (drop (8 * here) (bits body))) no_lists)
last_read_at last p left body here end w fx le within e s l ends = by (fx_or_none last (length left)) ends
  where
    vs : ValuesTree
    vs = members_value p (drop (8 * here) (bits body))

    by : (fx_width last (length left) ≡ 1) ⊎ (fx_width last (length left) ≡ 0) → EndsParts body end fx → Gets (parts_at last (p ∷ left) body here) body here end (list_and vs no_lists)
    by (inr none) h = parts_end_bare last p left body here end vs none le within (omega (arith, s, none, e, l)) refl
    by (inl one) (inl z) = absurd (omega (arith, s, one, z))
    by (inl one) (inr clear) = parts_end last p left body here end w 0 one (unit_at body here end w 0 le within (omega (arith, s, one, l)) clear) (sym e) vs refl refl

pub record PartsLead (last : LastPart) (all left : List MembersTree) (body : List ℕ) (at here : ℕ) : Type 0 where
  pub within : here ≤ length body
  pub bounds : PartsInBounds last left
  pub leads : Leads (parts_canon last left) (parts_at last left body here) (canon (extended last all)) (kind_read (extended last all) body at) body at here false

pub parts_first : (last : LastPart) (all : List MembersTree) (body : List ℕ) (at : ℕ) → InBounds (extended last all) → at ≤ length body → PartsLead last all all body at at
parts_first last all body at bounds le = record {
  within = le;
  bounds = bounds.1;
  leads = leads_blind (parts_canon last all) (parts_at last all body at) (canon (extended last all)) (kind_read (extended last all) body at) body at at (λ ls. part_values ls) le (extended_same last all body at);
}

pub parts_next : (last : LastPart) (all : List MembersTree) (p q : MembersTree) (left : List MembersTree) (body : List ℕ) (at here end w : ℕ) → PartsLead last all (p ∷ q ∷ left) body at here → here ≤ end → end ≤ length body → w ≡ members_width p → w + 1 ≡ 8 * (end - here)
    → get_or body (end - 1) 0 % 2 ≡ 1 → PartsLead last all (q ∷ left) body at end
parts_next last all p q left body at here end w h le within e l fx =
    let u : IsUnit body here end w 1 = unit_at body here end w 1 le within l fx in
    let vs = members_value p (drop (8 * here) (bits body)) in record {
      within = within;
      bounds = h.bounds.1;
      leads = leads_on (parts_canon last (q ∷ left)) (parts_at last (q ∷ left) body end) (parts_canon last (p ∷ q ∷ left)) (parts_at last (p ∷ q ∷ left) body here) (canon (extended last all)) (kind_read (extended last all) body at) body at here end false false (λ t. t) h.leads
          (leads_blind (parts_canon last (q ∷ left)) (parts_at last (q ∷ left) body end) (parts_canon last (p ∷ q ∷ left)) (parts_at last (p ∷ q ∷ left) body here) body here end (λ ls. list_and vs ls) within (parts_go_on last p q left body here end w 1 vs u (sym e) refl refl));
    }

pub parts_last : (last : LastPart) (all : List MembersTree) (p : MembersTree) (left : List MembersTree) (body : List ℕ) (at here end w fx : ℕ) (least : Bool) → PartsLead last all (p ∷ left) body at here → InBounds (extended last all) → here ≤ end → end ≤ length body → w ≡ members_width p
    → fx ≡ fx_width last (length left) → w + fx ≡ 8 * (end - here) → EndsParts body end fx → Walks (canon (extended last all)) (kind_read (extended last all) body at) body at end least
parts_last last all p left body at here end w fx least h bounds le within e s l ends =
    plain_again (extended last all) body at end false least tt bounds
    (h.leads.gets end false (λ t. t) (walks_blind (parts_canon last (p ∷ left)) (parts_at last (p ∷ left) body here) body here end (list_and (members_value p (drop (8 * here) (bits body))) no_lists) (last_read_at last p left body here end w fx le within e s l ends)))

pub parts_past : (last : LastPart) (all : List MembersTree) (p : MembersTree) (body : List ℕ) (at here end w : ℕ) (fault : BodyFault) → PartsLead last all (p ∷ []) body at here → fx_width last 0 ≡ 1 → here ≤ end → end ≤ length body → w ≡ members_width p → w + 1 ≡ 8 * (end - here)
    → get_or body (end - 1) 0 % 2 ≡ 1 → fault.cause ≡ ExtensionPastEnd → fault.bit + 1 ≡ 8 * end → FailsAt (kind_read (extended last all) body at) at fault
parts_past last all p body at here end w fault h has le within e l fx c b =
    h.leads.fails fault (parts_past_end last p body here end w 1 fault has (unit_at body here end w 1 le within l fx) (sym e) refl c b)

pub parts_failed : (last : LastPart) (all : List MembersTree) (p : MembersTree) (left : List MembersTree) (body : List ℕ) (at here w fx : ℕ) (fault : BodyFault) → PartsLead last all (p ∷ left) body at here → w ≡ members_width p → fx ≡ fx_width last (length left)
    → 8 * (length body - here) < w + fx → fault.cause ≡ RunsOut → fault.bit ≡ 8 * here → FailsAt (kind_read (extended last all) body at) at fault
parts_failed last all p left body at here w fx fault h e s short c b = h.leads.fails fault (parts_fail last p left body here fault (omega (arith, short, e, s)) c b)

-- ---- explicit

pub octet_items : (xs : List ℕ) → AreOctets xs → (i : ℕ) → get_or xs i 0 < 256
octet_items [] h i = omega arith
octet_items (x ∷ xs) h zero = h.0
octet_items (x ∷ xs) h (suc i) = octet_items xs h.1 i

pub small : (xs : List ℕ) (i n : ℕ) → AreOctets xs → n ≡ get_or xs i 0 → n < 256
small xs i n h e = omega (arith, octet_items xs h i)

-- ---- what the code finds

pub fx_set : (r : Bool) (x : ℕ) → IsTrue r ↔ (x % 2 ≡ 1) → r ≡ true → x % 2 ≡ 1
fx_set r x h e = h.0 e

pub fx_clear : (r : Bool) (x : ℕ) → IsTrue r ↔ (x % 2 ≡ 1) → r ≡ false → x % 2 ≡ 0
fx_clear r x h e = even (x % 2) (omega arith) (λ one. (let t : r ≡ true = h.1 one in let no : true ≡ false = sym t ∙ e in cc))
  where
    even : (m : ℕ) → m < 2 → (m ≡ 1 → ⊥) → m ≡ 0
    even zero lt h = refl
    even (suc zero) lt h = absurd (h refl)
    even (suc (suc m)) lt h = absurd (omega arith)

-- one of two bits
fx_one : (n : ℕ) → n < 2 → (n ≡ 0 → ⊥) → n ≡ 1
fx_one zero lt some = absurd (some refl)
fx_one (suc zero) lt some = refl
fx_one (suc (suc n)) lt some = absurd (omega arith)

pub fx_few : (last : LastPart) (n : ℕ) → fx_width last n < 2
fx_few last n = by (fx_or_none last n)
  where
    by : (fx_width last n ≡ 1) ⊎ (fx_width last n ≡ 0) → fx_width last n < 2
    by (inl e) = omega (arith, e)
    by (inr e) = omega (arith, e)

pub goes_on : (last : LastPart) (n : ℕ) (body : List ℕ) (end fx : ℕ) (r : Bool) → IsTrue r ↔ EndsParts body end fx → r ≡ false → fx ≡ fx_width last n → GoesOn body end fx
goes_on last n body end fx r h off s =
    (fx_one fx (omega (arith, s, fx_few last n)) (λ z. ends (inl z)), fx_one (get_or body (end - 1) 0 % 2) (omega arith) (λ z. ends (inr z)))
  where
    ends : EndsParts body end fx → ⊥
    ends e = let yes : r ≡ true = h.1 e in let no : true ≡ false = sym yes ∙ off in cc

-- as many FX bits as the code counts, by the links that are left
pub fx_is : (last : LastPart) (ms : List Meaning) (later : List ℕ) (fx : ℕ) → fx ≡ fx_width last (length later) → fx ≡ fx_width last (length (linked_parts ms later))
fx_is last ms later fx s = s ∙ ap (fx_width last) (sym (length-map later (linked_part ms)))

-- the parts that are left, as the code splits their links
pub parts_at_first : (last : LastPart) (ms : List Meaning) (all left later : List ℕ) (part : ℕ) (body : List ℕ) (at here : ℕ) → PartsLead last (linked_parts ms all) (linked_parts ms left) body at here → left ≡ part ∷ later
    → PartsLead last (linked_parts ms all) (linked_part ms part ∷ linked_parts ms later) body at here
parts_at_first last ms all left later part body at here h e = subst (λ left. PartsLead last (linked_parts ms all) (linked_parts ms left) body at here) e h

module _ (last : LastPart) (p : MembersTree) (left : List MembersTree) (w fx : ℕ) (bounds : PartInBounds (fx_width last (length left)) p) (e : w ≡ members_width p) (s : fx ≡ fx_width last (length left)) where
  pub part_wide : ((w + fx) % 8 ≡ 0) × (w + fx ≤ 524264)
  part_wide = (ap (λ n. n % 8) (λ i. e i + s i) ∙ bounds.0, (let le = bounds.1 in omega (arith, e, s, le, fx_few last (length left))))

  pub part_some : (here end : ℕ) → w + fx ≡ 8 * (end - here) → 0 < end
  part_some here end l = let bit = bounds.3 in omega (arith, bit, e, s, l)

module _ (last : LastPart) (ms : List Meaning) (all later : List ℕ) (part : ℕ) (body : List ℕ) (at here end w fx : ℕ) (h : PartsLead last (linked_parts ms all) (linked_part ms part ∷ linked_parts ms later) body at here)
    (le : here ≤ end) (within : end ≤ length body) (e : w ≡ members_width (linked_part ms part)) (s : fx ≡ fx_width last (length (linked_parts ms later))) (l : w + fx ≡ 8 * (end - here)) (on : GoesOn body end fx) where
  with_one : w + 1 ≡ 8 * (end - here)
  with_one = omega (arith, l, on.0)

  pub parts_on : (length later == 0) ≡ false → PartsLead last (linked_parts ms all) (linked_parts ms later) body at end
  parts_on some = by later h some
    where
      by : (later : List ℕ) → PartsLead last (linked_parts ms all) (linked_part ms part ∷ linked_parts ms later) body at here → (length later == 0) ≡ false → PartsLead last (linked_parts ms all) (linked_parts ms later) body at end
      by [] h some = absurd (let no : true ≡ false = some in cc)
      by (q ∷ later) h some = parts_next last (linked_parts ms all) (linked_part ms part) (linked_part ms q) (linked_parts ms later) body at here end w h le within e with_one on.1

  pub parts_end_here : (fault : BodyFault) → (length later == 0) ≡ true → fault.cause ≡ ExtensionPastEnd → fault.bit + 1 ≡ 8 * end → FailsAt (kind_read (extended last (linked_parts ms all)) body at) at fault
  parts_end_here fault none c b = by later h s none
    where
      by : (later : List ℕ) → PartsLead last (linked_parts ms all) (linked_part ms part ∷ linked_parts ms later) body at here → fx ≡ fx_width last (length (linked_parts ms later)) → (length later == 0) ≡ true → FailsAt (kind_read (extended last (linked_parts ms all)) body at) at fault
      by [] h s none = parts_past last (linked_parts ms all) (linked_part ms part) body at here end w fault h (sym s ∙ on.0) le within e with_one on.1 c b
      by (q ∷ later) h s none = absurd (let no : length (q ∷ later) ≡ 0 = eqb-true (length (q ∷ later)) 0 none in omega arith)
