-- The content of the reserved expansion field (RE): a presence field, an entry for each marked slot, and nothing after them
-- (this project's own rule). It is a compound, but for the presence field of a fixed form.
use Rattle.std.specs.Prelude.{◌≡◌, ℕ, ◌+◌, ◌<◌, ◌⊎◌, List, [], ◌++◌, length}
use Rattle.ax_format.specs.Canonical.{marks_of, entries_canon}
use Rattle.ax_format.specs.Failing.{EntriesFail}
use Rattle.ax_format.specs.Presence.{NoneUndefined}
use Rattle.ax_format.specs.Spelling.{EntriesSpell}
use Rattle.ax_format.specs.Tree.{SlotsTree, defined_slots, ValueTree, marked}
use Rattle.ax_format.specs.declared.fault.BodyCause.{BodyCause}
use Rattle.ax_format.specs.declared.fault.BodyCause.TheVariants as Body
use Rattle.ax_expand.specs.declared.form.Form.{Form}
use Rattle.ax_expand.specs.declared.fault.ContentCause.{ContentCause}
use Rattle.ax_expand.specs.declared.fault.ContentCause.TheVariants as Content
use Rattle.ax_expand.specs.Fields.{FieldSpells, FieldFails, least_field}

-- all bits of b spell the value
abbrev pub SpellsContent : Form → SlotsTree → ValueTree → List ℕ → Type 0
SpellsContent form ss (marked es) b = (f : List ℕ) × (y : List ℕ) × (marks : List ℕ) × (b ≡ f ++ y) × FieldSpells form ss marks f × EntriesSpell 1 ss marks es y
SpellsContent form ss _ b = ⊥

-- the least presence field, here and at every depth
abbrev pub CanonContent : Form → SlotsTree → ValueTree → List ℕ
CanonContent form ss (marked es) = least_field form ss (marks_of 1 ss es) ++ entries_canon 1 ss es
CanonContent form ss _ = []

abbrev pub content_cause : BodyCause → ContentCause
content_cause Body.RunsOut = Content.RunsOut
content_cause Body.UndefinedSlot = Content.UndefinedSlot
content_cause Body.PresenceTooLong = Content.PresenceTooLong
content_cause Body.ExtensionPastEnd = Content.ExtensionPastEnd
content_cause Body.BadExplicitLength = Content.BadExplicitLength

-- the field fails; or it is there with no undefined mark, some first entries are spelled, and the next marked slot fails
abbrev pub StopsIn : Form → SlotsTree → List ℕ → ℕ → BodyCause → Type 0
StopsIn form ss b p c =
    FieldFails form ss b p c
    ⊎ ((marks : List ℕ) × (x : List ℕ) × (y : List ℕ) × (b ≡ x ++ y) × FieldSpells form ss marks x × NoneUndefined (defined_slots ss) marks
    × (q : ℕ) × (p ≡ length x + q) × EntriesFail ss marks y q c)

-- a fault in the field or in an entry; or a front of b spells a value, and more is left
pub data FailsContent (form : Form) (ss : SlotsTree) (b : List ℕ) (p : ℕ) (c : ContentCause) : Type 0 where
  inside : (cause : BodyCause) → c ≡ content_cause cause → StopsIn form ss b p cause → FailsContent form ss b p c
  trailing : (v : ValueTree) (x y : List ℕ) → b ≡ x ++ y → SpellsContent form ss v x → 0 < length y → p ≡ length x → c ≡ Content.TrailingOctets → FailsContent form ss b p c
