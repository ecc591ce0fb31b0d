-- The canonical content is a spelling, the shortest, and tells values apart.
use Rattle.std.proofs.Common.{◌≡◌, ◌↔◌, ℕ, zero, suc, ◌*◌, ◌≤◌, List, [], ◌∷◌, ◌++◌, length, refl, ap, arith}
use Rattle.ax_bits.specs.Bits.{AreBits}
use Rattle.ax_format.specs.Canonical.{marks_of, entries_canon}
use Rattle.ax_format.specs.Presence.{marks_upto, later_marks}
use Rattle.ax_format.specs.Shape.{Shape}
use Rattle.ax_format.specs.Sound.{Sound}
use Rattle.ax_format.specs.Spelling.{Spells}
use Rattle.ax_format.specs.Tree.{SlotsTree, ValueTree, marked, compound}
use Rattle.ax_format.proofs.CanonSpells.{canon_spells, canon_shortest}
use Rattle.ax_format.proofs.Least.{Alike, entries_alike, marks_bits, marks_length}
use Rattle.ax_expand.specs.Content.{SpellsContent, CanonContent}
use Rattle.ax_expand.specs.Fields.{HasMarks}
use Rattle.ax_expand.specs.declared.form.Form.{Form}
use Rattle.ax_expand.specs.declared.form.Form.TheVariants.{Fx, Fixed}
use Rattle.ax_expand.proofs.Contents.{prefix_free}
use Rattle.ax_expand.proofs.Entries.{entries_spell, entries_shortest, entries_shape, two_shortest}

-- ---- marks up to a number

pub length_upto : (n : ℕ) (ms : List ℕ) → length (marks_upto n ms) ≡ n
length_upto zero ms = refl
length_upto (suc n) ms = ap suc (length_upto n (later_marks ms))

pub upto_bits : (n : ℕ) (ms : List ℕ) → AreBits ms → AreBits (marks_upto n ms)
upto_bits zero ms h = tt
upto_bits (suc n) [] h = (omega arith, upto_bits n [] tt)
upto_bits (suc n) (m ∷ ms) h = (h.0, upto_bits n ms h.1)

pub upto_alike : (n : ℕ) (ms : List ℕ) → length ms ≤ n → Alike (marks_upto n ms) ms
upto_alike zero [] le = refl
upto_alike zero (m ∷ ms) le = absurd (omega arith)
upto_alike (suc n) [] le = (refl, upto_alike n [] (omega arith))
upto_alike (suc n) (m ∷ ms) le = (refl, upto_alike n ms (omega arith))

-- ---- the laws

pub content_spells : (form : Form) (ss : SlotsTree) (v : ValueTree) → Sound (compound ss) → HasMarks form ss → Shape (compound ss) v → SpellsContent form ss v (CanonContent form ss v)
content_spells Fx ss (marked es) sound has h = canon_spells (compound ss) (marked es) sound h
content_spells (Fixed n) ss (marked es) sound has h =
    let ms = marks_of 1 ss es in
    let le : length ms ≤ 8 * n = omega (arith, marks_length 1 ss es, has) in (
      marks_upto (8 * n) ms,
      entries_canon 1 ss es,
      marks_upto (8 * n) ms,
      refl,
      (length_upto (8 * n) ms, upto_bits (8 * n) ms (marks_bits 1 ss es), refl),
      entries_alike 1 ss (marks_upto (8 * n) ms) ms es (entries_canon 1 ss es) (upto_alike (8 * n) ms le) (entries_spell 1 ss es sound.1 h),
    )
content_spells Fx ss _ sound has h = absurd h
content_spells (Fixed n) ss _ sound has h = absurd h

pub content_shortest : (form : Form) (ss : SlotsTree) (v : ValueTree) (b : List ℕ) → SpellsContent form ss v b → length (CanonContent form ss v) ≤ length b
content_shortest Fx ss (marked es) b h = canon_shortest (compound ss) (marked es) b h
content_shortest (Fixed n) ss (marked es) b (f, y, ms, e, (l, bit, m), h) =
    two_shortest (marks_upto (8 * n) (marks_of 1 ss es)) (entries_canon 1 ss es) b f y e (omega (arith, l, length_upto (8 * n) (marks_of 1 ss es))) (entries_shortest 1 ss ms es y h)
content_shortest Fx ss _ b h = absurd h
content_shortest (Fixed n) ss _ b h = absurd h

pub content_apart : (form : Form) (ss : SlotsTree) (v w : ValueTree) → Sound (compound ss) → HasMarks form ss → Shape (compound ss) v → Shape (compound ss) w → CanonContent form ss v ≡ CanonContent form ss w ↔ v ≡ w
content_apart form ss v w sound has p q = (
  (λ e. (prefix_free form ss v w (CanonContent form ss v) (CanonContent form ss w) [] [] (content_spells form ss v sound has p) (content_spells form ss w sound has q) (ap (λ b. b ++ []) e)).1),
  (λ e. ap (CanonContent form ss) e),
)

pub content_shape : (form : Form) (ss : SlotsTree) (v : ValueTree) (b : List ℕ) → SpellsContent form ss v b → Shape (compound ss) v
content_shape form ss (marked es) b (f, y, ms, e, p, h) = entries_shape 1 ss ms es y h
content_shape form ss _ b h = absurd h

pub by_fx : (ss : SlotsTree) (v : ValueTree) (b : List ℕ) → SpellsContent Fx ss v b ↔ Spells (compound ss) v b
by_fx ss (marked es) b = ((λ h. h), (λ h. h))
by_fx ss _ b = ((λ h. absurd h), (λ h. absurd h))
