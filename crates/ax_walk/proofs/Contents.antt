-- The content of an explicit item.
use Rattle.std.proofs.Common.{◌≡◌, ℕ, suc, ◌-◌, ◌<◌, ◌≤◌, ◌⊎◌, inl, inr, Bool, true, false, Some, None, List, length, take, drop, get_or, refl, sym, ◌∙◌, ap, arith, subst}
use Rattle.ax_bits.specs.Bits.{bits, number_of, AreOctets}
use Rattle.ax_format.specs.Presence.{octets_needed}
use Rattle.ax_format.specs.Reader.{Read, got, failed, after, read, entries_read, marked_read, presence_read, Split, short, cut, split, fixed_value, fixed_read, parts_read, each_read, count_read, run_read}
use Rattle.ax_format.specs.Tree.{FixedTree, element, group, KindTree, fixed, extended, counted, by_fx, explicit, compound, ValueTree, part_values, occurrences, content_octets, marked, EntriesTree, slots_of, slot_count, defined_slots}
use Rattle.ax_format.specs.Widths.{width, counter_width}
use Rattle.ax_format.specs.declared.content.Content.TheVariants.{Raw}
use Rattle.ax_format.specs.declared.fault.BodyCause.TheVariants.{RunsOut, BadExplicitLength}
use Rattle.ax_format.specs.declared.fault.BodyFault.{BodyFault}
use Rattle.ax_fspec.proofs.Counting.{explicit_none, explicit_bad, explicit_short, explicit_gets, octets_part}
use Rattle.ax_fspec.specs.Reading.{Gets, kind_read}
use Rattle.ax_codec.specs.Meaning.{meanings, linked, fixed_of, linked_members, linked_parts, linked_slots}
use Rattle.ax_codec.specs.Table.{kind_at, record_kind_at}
use Rattle.ax_codec.specs.declared.codec.Codec.{Codec}
use Rattle.ax_codec.specs.declared.node.Node.{Node}
use Rattle.ax_codec.specs.declared.node.Node.TheVariants as Of
use Rattle.ax_walk.proofs.Found.{read_all}
use Rattle.ax_walk.proofs.ItemSteps.{le_or_less}
use Rattle.ax_walk.proofs.NodeKinds.{is_element, is_group, no_part, is_extended, is_counted, is_by_fx, is_explicit, is_compound}
use Rattle.ax_walk.proofs.UnitSteps.{small, octet_items}
use Rattle.ax_walk.specs.Shown.{content_in}
use Rattle.ax_walk.specs.Values.{IsAll, IsOne, IsItem, IsItemOf, value_read, value_in}

-- ---- by the octet with the length

module _ (body : List ℕ) (octets : AreOctets body) (one : IsOne explicit body) where
  all : IsAll (kind_read explicit body 0)
  unfolding kind_read
  all = one.all

  n : ℕ
  n = get_or body 0 0

  pub some_octet : 0 < length body
  some_octet = by (le_or_less (length body) 0)
    where
      by : (length body ≤ 0) ⊎ (0 < length body) → 0 < length body
      by (inl le) = let fault : BodyFault = record { cause = RunsOut; bit = 0 } in absurd (read_all explicit body 0 fault (explicit_none body 0 fault le refl refl) all)
      by (inr lt) = lt

  pub length_some : 0 < get_or body 0 0
  length_some = by (le_or_less (get_or body 0 0) 0)
    where
      zero_is : (m : ℕ) → m ≤ 0 → m ≡ 0
      zero_is m le = omega arith

      by : (get_or body 0 0 ≤ 0) ⊎ (0 < get_or body 0 0) → 0 < get_or body 0 0
      by (inl le) = let fault : BodyFault = record { cause = BadExplicitLength; bit = 0 } in absurd (read_all explicit body 0 fault (explicit_bad body 0 (get_or body 0 0) fault some_octet refl (zero_is (get_or body 0 0) le) refl refl) all)
      by (inr lt) = lt

  pub length_within : get_or body 0 0 ≤ length body
  length_within = by (le_or_less (get_or body 0 0) (length body))
    where
      by : (get_or body 0 0 ≤ length body) ⊎ (length body < get_or body 0 0) → get_or body 0 0 ≤ length body
      by (inl le) = le
      by (inr lt) =
          let fault : BodyFault = record { cause = RunsOut; bit = 8 } in
          absurd (read_all explicit body 0 fault (explicit_short body 0 (get_or body 0 0) fault some_octet refl (small body 0 (get_or body 0 0) octets refl) length_some (omega arith) refl refl) all)

  pub content_is : Some (take (get_or body 0 0 - 1) (drop 1 body)) ≡ content_in (value_in explicit body)
  unfolding kind_read value_in
  content_is =
      let xs = take (get_or body 0 0 - 1) (drop 1 body) in
      let g : Gets (kind_read explicit body 0) body 0 (get_or body 0 0) (content_octets xs) =
      explicit_gets body xs 0 (get_or body 0 0) (get_or body 0 0) some_octet refl (small body 0 (get_or body 0 0) octets refl) length_some (omega arith) length_within refl (octets_part (get_or body 0 0 - 1) 1 body (octet_items body octets)) in
      sym (ap (λ r. content_in (value_read r)) g.got)

-- ---- other kinds have none

content_after : {A : Type 0} (m : ℕ) (f : A → ValueTree) (r : Read A) → ((a : A) → content_in (f a) ≡ None) → content_in (value_read (after m f r)) ≡ None
content_after m f (got a k y) h = h a
content_after m f (failed p c) h = refl

fixed_content : (f : FixedTree) (x : List ℕ) → content_in (fixed_value f x) ≡ None
fixed_content (element w c) x = refl
fixed_content (group ms) x = refl

fixed_read_content : (f : FixedTree) (s : Split) → content_in (value_read (fixed_read f s)) ≡ None
fixed_read_content f short = refl
fixed_read_content f (cut x y) = fixed_content f x

count_content : (w : ℕ) (rule : List ℕ → Read ValueTree) (s : Split) → content_in (value_read (count_read w rule s)) ≡ None
count_content w rule short = refl
count_content w rule (cut x y) = content_after w (λ vs. occurrences vs) (each_read rule (number_of x) y) (λ vs. refl)

marked_content : (r : Read (List ℕ)) (go : List ℕ → List ℕ → Read EntriesTree) → content_in (value_read (marked_read r go)) ≡ None
marked_content (got ms m y) go = content_after m (λ es. marked es) (go ms y) (λ es. refl)
marked_content (failed p c) go = refl

module _ (codec : Codec) (link : ℕ) (fx : Bool) (body : List ℕ) (one : Node) (item : IsItem codec link fx body) (at : one ≡ get_or codec.nodes (link - 1) one) where
  is_one : (fx : Bool) → IsItemOf fx explicit body → IsOne explicit body
  is_one false h = h
  is_one true h = absurd h.fits

  pub explicit_one : one ≡ Of.Explicit → IsOne explicit body
  explicit_one e = is_one fx (subst (λ k. IsItemOf fx k body) (is_explicit codec.nodes link one codec.table item.some item.within at e) item.one)

  pub explicit_value : one ≡ Of.Explicit → content_in (value_in explicit body) ≡ content_in (value_in (kind_at codec.nodes link) body)
  explicit_value e = ap (λ k. content_in (value_in k body)) (sym (is_explicit codec.nodes link one codec.table item.some item.within at e))

  of_kind : (k : KindTree) → kind_at codec.nodes link ≡ k → content_in (value_in k body) ≡ None → None ≡ content_in (value_in (kind_at codec.nodes link) body)
  of_kind k e h = sym (ap (λ k. content_in (value_in k body)) e ∙ h)

  pub no_content : (is : Node) → one ≡ is → (one ≡ Of.Explicit → ⊥) → None ≡ content_in (value_in (kind_at codec.nodes link) body)
  unfolding value_in record_kind_at
  no_content (Of.Element w) e h = of_kind (fixed (element w Raw)) (is_element codec.nodes link one codec.table item.some item.within at w e) (fixed_read_content (element w Raw) (split w (bits body)))
  no_content (Of.Group w links) e h = let f = group (linked_members (meanings codec.nodes) links) in of_kind (fixed f) (is_group codec.nodes link one codec.table item.some item.within at w links e) (fixed_read_content f (split (width f) (bits body)))
  no_content (Of.Part w links) e h = absurd (no_part fx codec.nodes link one codec.table item.some item.within at w links e item.bounds)
  no_content (Of.Extended last links) e h = let ps = linked_parts (meanings codec.nodes) links in of_kind (extended last ps) (is_extended codec.nodes link one codec.table item.some item.within at last links links e refl) (content_after 0 (λ ls. part_values ls) (parts_read last ps (bits body)) (λ ls. refl))
  no_content (Of.Counted size inner) e h = of_kind (counted size (kind_at codec.nodes inner)) (is_counted codec.nodes link one codec.table item.some item.within at size inner e) (count_content (counter_width size) (read (kind_at codec.nodes inner)) (split (counter_width size) (bits body)))
  no_content (Of.ByFx inner) e h = let f = fixed_of (linked (meanings codec.nodes) inner) in of_kind (by_fx f) (is_by_fx codec.nodes link one codec.table item.some item.within at inner e) (content_after 0 (λ vs. occurrences vs) (run_read (suc (length (bits body))) f (bits body)) (λ vs. refl))
  no_content Of.Explicit e h = absurd (h e)
  no_content (Of.Compound mask links) e h =
      let ss = slots_of (linked_slots (meanings codec.nodes) links) in
      of_kind (compound ss) (is_compound codec.nodes link one codec.table item.some item.within at mask links links e refl) (marked_content (presence_read (octets_needed (slot_count ss)) (defined_slots ss) (bits body)) (entries_read 1 ss))
