-- The lines of contents of RE (this project's own rules).
use Rattle.std.specs.Prelude.{ℕ, List, ◌++◌, codes}
use Rattle.ax_expand.specs.Content.{CanonContent}
use Rattle.ax_expand.specs.Expansion.{ExpansionTree, wrapped}
use Rattle.ax_expand.specs.declared.fault.ContentCause.{ContentCause}
use Rattle.ax_expand.specs.declared.fault.ContentCause.TheVariants.{RunsOut, UndefinedSlot, PresenceTooLong, ExtensionPastEnd, BadExplicitLength, TrailingOctets}
use Rattle.ax_format.specs.CanonicalOctets.{octets_of}
use Rattle.ax_format.specs.Tree.{ValueTree, EntriesTree, no_entries, entry_and}
use Rattle.ax_report.specs.Lines.{numbered}
use Rattle.ax_text_form.specs.BlockText.{RecordLine}
use Rattle.ax_text_form.specs.ValueText.{hex_text}

-- a record that has one item, RE, of that value
abbrev pub re_record : ValueTree → EntriesTree
re_record v = entry_and 1 v no_entries

abbrev pub canon_octets : ExpansionTree → ValueTree → List ℕ
canon_octets x v = octets_of (CanonContent x.form x.slots v)

-- `re block N record M "HEX" TEXT`: the canonical content in lower-case hexadecimal, and the text of its record
abbrev pub re_line : ExpansionTree → ℕ → ℕ → ValueTree → List ℕ
re_line x block n v =
    numbered (codes "re block ") block ++ (numbered (codes " record ") n ++ (codes " " ++ (hex_text (canon_octets x v) ++ (codes " " ++ (RecordLine (wrapped x) (re_record v) ++ codes "\n")))))

abbrev pub cause_name : ContentCause → List ℕ
cause_name RunsOut = codes "RunsOut"
cause_name UndefinedSlot = codes "UndefinedSlot"
cause_name PresenceTooLong = codes "PresenceTooLong"
cause_name ExtensionPastEnd = codes "ExtensionPastEnd"
cause_name BadExplicitLength = codes "BadExplicitLength"
cause_name TrailingOctets = codes "TrailingOctets"

-- `unread block N record M bit K CAUSE`, the bit counted in the content
abbrev pub unread_line : ℕ → ℕ → ℕ → ContentCause → List ℕ
unread_line block n bit cause = numbered (codes "unread block ") block ++ (numbered (codes " record ") n ++ (numbered (codes " bit ") bit ++ (codes " " ++ (cause_name cause ++ codes "\n"))))
