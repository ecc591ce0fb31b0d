-- What a front of some bits spells as a content, as a function: what a command over contents answers is said of it, and a law says
-- that it decides what a content is.
use Rattle.std.specs.Prelude.{◌≡◌, ℕ, ◌*◌, ◌<◌, ◌≤◌, List, [], ◌∷◌, length, take, Option, Some, None, IsTrue}
use Rattle.ax_bits.specs.Bits.{bits, AreBits}
use Rattle.ax_format.specs.Presence.{octets_needed, none_marked, first_mark, later_marks, NoneUndefined}
use Rattle.ax_format.specs.Reader.{Read, got, failed, Split, short, cut, split, undefined, presence_read, marked_read, entries_read}
use Rattle.ax_format.specs.Tree.{SlotsTree, slot_count, defined_slots, ValueTree, marked}
use Rattle.ax_format.specs.declared.fault.BodyCause.TheVariants.{RunsOut, UndefinedSlot}
use Rattle.ax_format.specs.declared.fault.BodyFault.{BodyFault}
use Rattle.ax_fspec.specs.Reading.{Continues, FailsAt, entries_at}
use Rattle.ax_expand.specs.declared.form.Form.{Form}
use Rattle.ax_expand.specs.declared.form.Form.TheVariants.{Fx, Fixed}

-- w marks, where there are so many
abbrev pub whole_read : ℕ → ℕ → Split → Read (List ℕ)
whole_read w n short = failed n RunsOut
whole_read w n (cut x y) = got x w y

-- n octets whose first undefined mark is told
abbrev pub octets_read : ℕ → List ℕ → Option ℕ → Read (List ℕ)
octets_read n b (Some j) = failed j UndefinedSlot
octets_read n b None = whole_read (8 * n) (length b) (split (8 * n) b)

abbrev pub field_read : Form → SlotsTree → List ℕ → Read (List ℕ)
field_read Fx ss b = presence_read (octets_needed (slot_count ss)) (defined_slots ss) b
field_read (Fixed n) ss b = octets_read n b (undefined (defined_slots ss) (take (8 * n) b))

unfoldable pub content_read : Form → SlotsTree → List ℕ → Read ValueTree
content_read form ss b = marked_read (field_read form ss b) (entries_read 1 ss)

-- the same marks, if a list goes on with zeros
abbrev pub AreSame : List ℕ → List ℕ → Type 0
AreSame [] b = IsTrue (none_marked b)
AreSame (x ∷ a) b = (x ≡ first_mark b) × AreSame a (later_marks b)

-- the octets of the content up to `end` are a presence field that marks this set; what is read then follows it
pub record MarksContent (form : Form) (ss : SlotsTree) (content : List ℕ) (end : ℕ) (marks : List ℕ) : Type 0 where
  pub within : end ≤ length content
  pub are_bits : AreBits marks
  pub follows : Continues (content_read form ss (bits content)) 0 end (λ es. marked es) (entries_at ss marks content end)

-- the content has no presence field, by this fault
pub record FailsToMark (form : Form) (ss : SlotsTree) (content : List ℕ) (fault : BodyFault) : Type 0 where
  pub fails : FailsAt (content_read form ss (bits content)) 0 fault

-- a field of more octets than this bit stands in fails so
pub record FailsFrom (ss : SlotsTree) (content : List ℕ) (place : ℕ) (fault : BodyFault) : Type 0 where
  pub from : (n : ℕ) → place < 8 * n → FailsToMark (Fixed n) ss content fault

-- the first i bits mark no undefined slot, and this set
pub record MarkedSoFar (ss : SlotsTree) (b : List ℕ) (i : ℕ) (marks : List ℕ) : Type 0 where
  pub within : i ≤ length b
  pub clear : NoneUndefined (defined_slots ss) (take i b)
  pub size : length marks ≡ 126
  pub same : AreSame (take i b) marks
