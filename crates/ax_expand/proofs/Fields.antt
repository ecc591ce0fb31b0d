-- Presence fields are read as they are spelled, and as they fail.
use Rattle.std.proofs.Common.{◌≡◌, ℕ, ◌*◌, ◌<◌, inl, inr, List, ◌++◌, length, take, Option, Some, None, Bool, refl, sym, ◌∙◌, ap, arith, subst}
use Rattle.std.proofs.lemmas.List.{take_at, take_all}
use Rattle.ax_bits.specs.Bits.{AreBits}
use Rattle.ax_format.specs.Presence.{octets_needed, NoneUndefined}
use Rattle.ax_format.specs.Reader.{got, failed, Split, short, cut, split, undefined}
use Rattle.ax_format.specs.Tree.{SlotsTree, slot_count, defined_slots}
use Rattle.ax_format.specs.declared.fault.BodyCause.{BodyCause}
use Rattle.ax_format.proofs.Failed.{failed_is, presence_failed, undefined_first}
use Rattle.ax_format.proofs.FixedKinds.{split_at, split_short, SplitIs, split_is}
use Rattle.ax_format.proofs.Meets.{Meets, presence_meets, presence_bits, bits_of, UndefinedIs, undefined_is}
use Rattle.ax_format.proofs.Spelled.{got_is, presence_spelled, undefined_none}
use Rattle.ax_expand.specs.Fields.{FieldSpells, FieldFails, OctetsFail}
use Rattle.ax_expand.specs.Reading.{whole_read, octets_read, field_read}
use Rattle.ax_expand.specs.declared.form.Form.{Form}
use Rattle.ax_expand.specs.declared.form.Form.TheVariants.{Fx, Fixed}

-- ---- octets

octets_spelled : (n : ℕ) (ds : List Bool) (f r : List ℕ) → length f ≡ 8 * n → NoneUndefined ds f → octets_read n (f ++ r) (undefined ds (take (8 * n) (f ++ r))) ≡ got f (length f) r
octets_spelled n ds f r l clear =
    ap (octets_read n (f ++ r)) (ap (undefined ds) (take_at f r (8 * n) l) ∙ undefined_none ds f clear)
    ∙ ap (whole_read (8 * n) (length (f ++ r))) (split_at f r (8 * n) l) ∙ got_is r refl (sym l)

octets_failed : (n : ℕ) (ds : List Bool) (b : List ℕ) (p : ℕ) (c : BodyCause) → OctetsFail n ds b p c → octets_read n b (undefined ds (take (8 * n) b)) ≡ failed p c
octets_failed n ds b p c (inl (h, e)) = ap (octets_read n b) (undefined_first ds (take (8 * n) b) p h) ∙ failed_is refl (sym e)
octets_failed n ds b p c (inr (lt, clear, e, f)) =
    ap (octets_read n b) (ap (undefined ds) (take_all (8 * n) b (omega (arith, lt))) ∙ undefined_none ds b clear)
    ∙ ap (whole_read (8 * n) (length b)) (split_short b (8 * n) lt) ∙ failed_is (sym e) (sym f)

abbrev AreMarks : ℕ → List Bool → List ℕ → List ℕ → Type 0
AreMarks n ds ms x = ((length x ≡ 8 * n) × AreBits x × (ms ≡ x)) × NoneUndefined ds ms

whole_meets : (n : ℕ) (ds : List Bool) (b : List ℕ) → AreBits b → NoneUndefined ds (take (8 * n) b) → (s : Split) → SplitIs (8 * n) b s → Meets (AreMarks n ds) (OctetsFail n ds b) b (whole_read (8 * n) (length b) s)
whole_meets n ds b bit clear short h = inr (h, subst (NoneUndefined ds) (take_all (8 * n) b (omega (arith, h))) clear, refl, refl)
whole_meets n ds b bit clear (cut x y) (e, l) =
    (x, e, l, ((l, (bits_of b x y e bit).0, refl), subst (NoneUndefined ds) (ap (take (8 * n)) e ∙ take_at x y (8 * n) l) clear))

octets_meets : (n : ℕ) (ds : List Bool) (b : List ℕ) → AreBits b → (o : Option ℕ) → UndefinedIs ds (take (8 * n) b) o → Meets (AreMarks n ds) (OctetsFail n ds b) b (octets_read n b o)
octets_meets n ds b bit (Some j) h = inl (h, refl)
octets_meets n ds b bit None h = whole_meets n ds b bit h (split (8 * n) b) (split_is b (8 * n))

-- ---- fields of either form

pub field_spelled : (form : Form) (ss : SlotsTree) (ms f r : List ℕ) → FieldSpells form ss ms f → NoneUndefined (defined_slots ss) ms → field_read form ss (f ++ r) ≡ got ms (length f) r
field_spelled Fx ss ms f r h clear = presence_spelled (octets_needed (slot_count ss)) (defined_slots ss) ms f r h clear
field_spelled (Fixed n) ss ms f r (l, bit, e) clear = octets_spelled n (defined_slots ss) f r l (subst (NoneUndefined (defined_slots ss)) e clear) ∙ got_is r (sym e) refl

pub field_failed : (form : Form) (ss : SlotsTree) (b : List ℕ) (p : ℕ) (c : BodyCause) → FieldFails form ss b p c → field_read form ss b ≡ failed p c
field_failed Fx ss b p c h = presence_failed (octets_needed (slot_count ss)) (defined_slots ss) b p c h
field_failed (Fixed n) ss b p c h = octets_failed n (defined_slots ss) b p c h

-- a field with these marks, none of them undefined
abbrev pub FieldIs : Form → SlotsTree → List ℕ → List ℕ → Type 0
FieldIs form ss ms x = FieldSpells form ss ms x × NoneUndefined (defined_slots ss) ms

pub field_meets : (form : Form) (ss : SlotsTree) (b : List ℕ) → AreBits b → 0 < slot_count ss → Meets (FieldIs form ss) (FieldFails form ss b) b (field_read form ss b)
field_meets Fx ss b bit some = presence_meets (octets_needed (slot_count ss)) (defined_slots ss) b bit (omega arith)
field_meets (Fixed n) ss b bit some = octets_meets n (defined_slots ss) b bit (undefined (defined_slots ss) (take (8 * n) b)) (undefined_is (defined_slots ss) (take (8 * n) b))

pub field_bits : (form : Form) (ss : SlotsTree) (ms x : List ℕ) → FieldSpells form ss ms x → AreBits ms
field_bits Fx ss ms x h = presence_bits (octets_needed (slot_count ss)) ms x h
field_bits (Fixed n) ss ms x (l, bit, e) = subst AreBits (sym e) bit
