-- The count of a canonical content's octets.
use Rattle.std.proofs.Common.{◌≡◌, ℕ, ◌+◌, ◌*◌, ◌≤◌, List, length, drop, Option, sym, ◌∙◌, ap, arith, length-append}
use Rattle.std.proofs.lemmas.List.{drop_all}
use Rattle.ax_format.proofs.Lengths.{kind_length, own_kinds, entries_length}
use Rattle.ax_format.specs.Canonical.{marks_of, entries_canon}
use Rattle.ax_format.specs.Lengths.{capped, entries_octets, slot_kind, last_slot}
use Rattle.ax_format.specs.Plain.{entries_tree}
use Rattle.ax_format.specs.Presence.{marks_upto}
use Rattle.ax_format.specs.Tree.{KindTree, SlotsTree, EntriesTree, compound, marked}
use Rattle.ax_format.specs.declared.value.Entry.{Entry}
use Rattle.ax_values.specs.Writing.{AreEntriesOf}
use Rattle.ax_expand.proofs.Canonical.{length_upto}
use Rattle.ax_expand.specs.Content.{CanonContent}
use Rattle.ax_expand.specs.Fields.{HasFewOctets}
use Rattle.ax_expand.specs.Lengths.{field_octets, content_octets, content_length}
use Rattle.ax_expand.specs.declared.form.Form.{Form}
use Rattle.ax_expand.specs.declared.form.Form.TheVariants.{Fx, Fixed}

-- a canonical content is whole octets
content_whole : (form : Form) (ss : SlotsTree) (es : EntriesTree) → AreEntriesOf ss es → length (CanonContent form ss (marked es)) ≡ 8 * content_octets form ss es
content_whole Fx ss es h = kind_length (compound ss) (marked es) (h.some, h.few, h.bounds) h.shape
content_whole (Fixed n) ss es h =
    omega (arith, length-append (marks_upto (8 * n) (marks_of 1 ss es)) (entries_canon 1 ss es), length_upto (8 * n) (marks_of 1 ss es), entries_length 1 ss es (slot_kind ss) (own_kinds ss) h.bounds h.shape)

pub length_counted : (form : Form) (ss : SlotsTree) (es : EntriesTree) → AreEntriesOf ss es → content_octets form ss es ≡ content_length form ss (marked es)
length_counted form ss es h = omega (arith, content_whole form ss es h)

pub field_few : (form : Form) (ss : SlotsTree) (es : EntriesTree) → content_octets form ss es ≤ 254 → HasFewOctets form
field_few Fx ss es le = tt
field_few (Fixed n) ss es le = omega (arith, le)

pub buffer_length : (form : Form) (ss : SlotsTree) (es : EntriesTree) (octets n : ℕ) → AreEntriesOf ss es → octets ≡ capped (content_octets form ss es) → octets ≤ 254 → n ≡ octets → 8 * n ≡ length (CanonContent form ss (marked es))
buffer_length form ss es octets n h count le same = omega (arith, content_whole form ss es h, count, le, same)

pub form_few : (form : Form) (ss : SlotsTree) (es : EntriesTree) (octets : ℕ) → octets ≡ capped (content_octets form ss es) → octets ≤ 254 → HasFewOctets form
form_few form ss es octets count le = field_few form ss es (omega (arith, count, le))

pub length_capped : (form : Form) (ss : SlotsTree) (es : EntriesTree) (octets : ℕ) → AreEntriesOf ss es → octets ≡ capped (content_octets form ss es) → octets ≡ capped (content_length form ss (marked es))
length_capped form ss es octets h count = count ∙ ap capped (length_counted form ss es h)

pub ruleset lengths = (buffer_length, form_few, length_capped)

-- ---- a loop over entries

pub octets_done : (form : Form) (es : List Entry) (ks : ℕ → Option KindTree) (i total t sum last result : ℕ) → length es ≤ i → capped (total + entries_octets (entries_tree (drop i es)) ks) ≡ capped sum
    → last_slot t (entries_tree (drop i es)) ≡ last → result ≡ capped (total + field_octets form t) → result ≡ capped (sum + field_octets form last)
octets_done form es ks i total t sum last result past h l r =
    let none : entries_octets (entries_tree (drop i es)) ks ≡ 0 = ap (λ x. entries_octets (entries_tree x) ks) (drop_all i es past) in
    let same : t ≡ last = sym (ap (λ x. last_slot t (entries_tree x)) (drop_all i es past)) ∙ l in
    r ∙ ap (λ u. capped (total + field_octets form u)) same ∙ add_same (field_octets form last) none
  where
    add_same : (p : ℕ) → entries_octets (entries_tree (drop i es)) ks ≡ 0 → capped (total + p) ≡ capped (sum + p)
    add_same p none = omega (arith, h, none)
