-- How many octets a canonical content has.
use Rattle.std.specs.Prelude.{ℕ, ◌+◌, ◌/◌, length}
use Rattle.ax_format.specs.Lengths.{entries_octets, slot_kind, presence_octets, last_slot}
use Rattle.ax_format.specs.Tree.{SlotsTree, ValueTree, EntriesTree}
use Rattle.ax_expand.specs.Content.{CanonContent}
use Rattle.ax_expand.specs.declared.form.Form.{Form}
use Rattle.ax_expand.specs.declared.form.Form.TheVariants.{Fx, Fixed}

abbrev pub content_length : Form → SlotsTree → ValueTree → ℕ
content_length form ss v = length (CanonContent form ss v) / 8

-- ---- as a count along the value

-- of the presence field, where the last entry's slot has that number
abbrev pub field_octets : Form → ℕ → ℕ
field_octets Fx last = presence_octets last
field_octets (Fixed n) last = n

abbrev pub content_octets : Form → SlotsTree → EntriesTree → ℕ
content_octets form ss es = entries_octets es (slot_kind ss) + field_octets form (last_slot 1 es)
