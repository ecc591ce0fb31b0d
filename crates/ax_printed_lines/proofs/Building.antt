-- What was built so far, of a whole.
use Rattle.std.proofs.Common.{◌≡◌, ℕ, List, [], ◌++◌, refl, sym, ◌∙◌, ap, subst, append_assoc}
use Rattle.ax_printed_lines.proofs.Laying.{lays_none, lays_more}
use Rattle.ax_printed_lines.specs.Laid.{Lays}
use Rattle.ax_printed_lines.specs.declared.laid.LaidBits.{LaidBits}
use Rattle.ax_text_form.specs.ValueText.{Texts}
use Rattle.ax_printed_lines.specs.Printed.{Place, Goes, IsBuilt}
use Rattle.ax_printed_lines.proofs.Going.{goes_none, goes_both, goes_same}

-- ---- the same under another name

-- texts in front of something that was built, which is all that is built of another thing
pub built_after : {X Y : Type 0} (Q : X → Type 0) (inner : X → Texts) (bits : X → List ℕ) (R : Y → Type 0) (onto : Y → Texts) (spell : Y → List ℕ) (front : Texts) (old mid new : Place) (before after : LaidBits) → Goes old mid front → IsBuilt Q inner bits mid new before after
    → ((x : X) → Q x → (y : Y) × R y × (onto y ≡ front ++ inner x) × (spell y ≡ bits x)) → IsBuilt R onto spell old new before after
built_after Q inner bits R onto spell front old mid new before after g b f =
    let y = f b.value b.shape in record {
      value = y.0;
      shape = y.1;
      goes = goes_same old new (front ++ inner b.value) (onto y.0) (sym y.2) (goes_both old mid new front (inner b.value) g b.goes);
      lays = subst (λ w. Lays before after w) (sym y.3) b.lays;
    }

pub built_as : {X Y : Type 0} (Q : X → Type 0) (inner : X → Texts) (bits : X → List ℕ) (R : Y → Type 0) (onto : Y → Texts) (spell : Y → List ℕ) (old new : Place) (before after : LaidBits) → IsBuilt Q inner bits old new before after
    → ((x : X) → Q x → (y : Y) × R y × (onto y ≡ inner x) × (spell y ≡ bits x)) → IsBuilt R onto spell old new before after
built_as Q inner bits R onto spell old new before after b f = built_after Q inner bits R onto spell [] old old new before after (goes_none old) b f

-- ---- a part of the whole

-- of the whole a front was built, and what has the shape S, with these texts and bits, is left
pub record Partly {X Y : Type 0} (R : X → Type 0) (onto : X → Texts) (spell : X → List ℕ) (S : Y → Type 0) (left : Y → Texts) (bits : Y → List ℕ) (old now : Place) (before after : LaidBits) : Type 0 where
  pub front : Texts
  pub goes : Goes old now front
  pub word : List ℕ
  pub lays : Lays before after word
  pub whole : (y : Y) → S y → (x : X) × R x × (onto x ≡ front ++ left y) × (spell x ≡ word ++ bits y)

pub partly_first : {X : Type 0} (R : X → Type 0) (onto : X → Texts) (spell : X → List ℕ) (old : Place) (before : LaidBits) → Partly R onto spell R onto spell old old before before
partly_first R onto spell old before = record { front = []; goes = goes_none old; word = []; lays = lays_none before; whole = λ x h. (x, h, refl, refl) }

pub partly_more : {X Y Z T : Type 0} (R : X → Type 0) (onto : X → Texts) (spell : X → List ℕ) (S : Y → Type 0) (left : Y → Texts) (bits : Y → List ℕ) (Q : T → Type 0) (one : T → Texts) (one_bits : T → List ℕ) (N : Z → Type 0) (later : Z → Texts) (later_bits : Z → List ℕ)
    (old now new : Place) (before mid after : LaidBits) → Partly R onto spell S left bits old now before mid → IsBuilt Q one one_bits now new mid after
    → ((t : T) (z : Z) → Q t → N z → (y : Y) × S y × (left y ≡ one t ++ later z) × (bits y ≡ one_bits t ++ later_bits z)) → Partly R onto spell N later later_bits old new before after
partly_more R onto spell S left bits Q one one_bits N later later_bits old now new before mid after p b f = record {
  front = p.front ++ one b.value;
  goes = goes_both old now new p.front (one b.value) p.goes b.goes;
  word = p.word ++ one_bits b.value;
  lays = lays_more before mid after p.word (one_bits b.value) (p.word ++ one_bits b.value) refl p.lays b.lays;
  whole = λ z h. (
      let y = f b.value z b.shape h in
      let x = p.whole y.0 y.1 in
      (x.0, x.1, x.2 ∙ ap (λ t. p.front ++ t) y.2 ∙ sym (append_assoc p.front (one b.value) (later z)), x.3 ∙ ap (λ t. p.word ++ t) y.3 ∙ sym (append_assoc p.word (one_bits b.value) (later_bits z)))
      );
}

-- what is left is seen otherwise
pub partly_as : {X Y Z : Type 0} (R : X → Type 0) (onto : X → Texts) (spell : X → List ℕ) (S : Y → Type 0) (left : Y → Texts) (bits : Y → List ℕ) (N : Z → Type 0) (later : Z → Texts) (later_bits : Z → List ℕ) (old now : Place) (before after : LaidBits)
    → Partly R onto spell S left bits old now before after → ((z : Z) → N z → (y : Y) × S y × (left y ≡ later z) × (bits y ≡ later_bits z)) → Partly R onto spell N later later_bits old now before after
partly_as R onto spell S left bits N later later_bits old now before after p f = record {
  front = p.front;
  goes = p.goes;
  word = p.word;
  lays = p.lays;
  whole = λ z h. (
      let y = f z h in
      let x = p.whole y.0 y.1 in
      (x.0, x.1, x.2 ∙ ap (λ t. p.front ++ t) y.2, x.3 ∙ ap (λ t. p.word ++ t) y.3)
      );
}

pub partly_done : {X Y : Type 0} (R : X → Type 0) (onto : X → Texts) (spell : X → List ℕ) (S : Y → Type 0) (left : Y → Texts) (bits : Y → List ℕ) (old now new : Place) (before mid after : LaidBits) → Partly R onto spell S left bits old now before mid → IsBuilt S left bits now new mid after
    → IsBuilt R onto spell old new before after
partly_done R onto spell S left bits old now new before mid after p b =
    let x = p.whole b.value b.shape in record {
      value = x.0;
      shape = x.1;
      goes = goes_same old new (p.front ++ left b.value) (onto x.0) (sym x.2) (goes_both old now new p.front (left b.value) p.goes b.goes);
      lays = lays_more before mid after p.word (bits b.value) (spell x.0) x.3 p.lays b.lays;
    }

-- something without bits
pub built_bare : {X : Type 0} (R : X → Type 0) (onto : X → Texts) (spell : X → List ℕ) (x : X) (old new : Place) (out : LaidBits) → R x → Goes old new (onto x) → spell x ≡ [] → IsBuilt R onto spell old new out out
built_bare R onto spell x old new out h g e = record { value = x; shape = h; goes = g; lays = subst (λ w. Lays out out w) (sym e) (lays_none out) }

-- bits after what was built
pub built_and : {X Y : Type 0} (Q : X → Type 0) (inner : X → Texts) (bits : X → List ℕ) (R : Y → Type 0) (onto : Y → Texts) (spell : Y → List ℕ) (following : Texts) (more : List ℕ) (old mid new : Place) (before middle after : LaidBits) → IsBuilt Q inner bits old mid before middle → Goes mid new following → Lays middle after more
    → ((x : X) → Q x → (y : Y) × R y × (onto y ≡ inner x ++ following) × (spell y ≡ bits x ++ more)) → IsBuilt R onto spell old new before after
built_and Q inner bits R onto spell following more old mid new before middle after b g a f =
    let y = f b.value b.shape in record {
      value = y.0;
      shape = y.1;
      goes = goes_same old new (inner b.value ++ following) (onto y.0) (sym y.2) (goes_both old mid new (inner b.value) following b.goes g);
      lays = lays_more before middle after (bits b.value) more (spell y.0) y.3 b.lays a;
    }
