-- The worked examples, computed.
use Rattle.std.specs.Fmt.{digits}
use Rattle.std.proofs.Common.{[], lit<, refl, ◌∷◌, ◌≡◌}
use Rattle.std.specs.Prelude.{codes}
use Rattle.ax_bits.proofs.Words.{bits-AreBits}
use Rattle.ax_bits.specs.Bits.{bits}
use Rattle.ax_format.specs.Tree.{compound, entry_and, marked, no_entries, number}
use Rattle.ax_format.specs.Sound.{Sound}
use Rattle.ax_format.specs.declared.fault.BodyCause.TheVariants as Body
use Rattle.ax_expand.proofs.Contents.{inside_of, spelled_of, trailing_of}
use Rattle.ax_expand.proofs.ExpansionBounds.{tree_sound}
use Rattle.ax_expand.specs.Content.{FailsContent, SpellsContent}
use Rattle.ax_expand.specs.Examples.{by_fx, one_octet, two_octets}
use Rattle.ax_expand.specs.Files.{form_texts}
use Rattle.ax_expand.specs.Reading.{content_read}
use Rattle.ax_expand.specs.declared.fault.ContentCause.TheVariants.{PresenceTooLong, RunsOut, TrailingOctets, UndefinedSlot}
use Rattle.ax_expand.specs.declared.form.Form.TheVariants.{Fixed, Fx}

one_sound : Sound (compound one_octet.slots)
one_sound = tree_sound one_octet (record { none = refl })

two_sound : Sound (compound two_octets.slots)
two_sound = tree_sound two_octets (record { none = refl })

fx_sound : Sound (compound by_fx.slots)
fx_sound = tree_sound by_fx (record { none = refl })

pub first_spelled : SpellsContent (Fixed 1) one_octet.slots (marked (entry_and 1 (number 5) no_entries)) (bits (0x80 ∷ 0x05 ∷ []))
unfolding content_read
first_spelled = spelled_of (Fixed 1) one_octet.slots (bits (0x80 ∷ 0x05 ∷ [])) (marked (entry_and 1 (number 5) no_entries)) 16 one_sound (bits-AreBits (0x80 ∷ 0x05 ∷ [])) refl

pub nothing_there : FailsContent (Fixed 1) one_octet.slots (bits []) 0 RunsOut
unfolding content_read
nothing_there = inside_of (Fixed 1) one_octet.slots (bits []) 0 Body.RunsOut one_sound (bits-AreBits []) refl

pub spare_marked : FailsContent (Fixed 1) one_octet.slots (bits (0xc0 ∷ 0x05 ∷ [])) 1 UndefinedSlot
unfolding content_read
spare_marked = inside_of (Fixed 1) one_octet.slots (bits (0xc0 ∷ 0x05 ∷ [])) 1 Body.UndefinedSlot one_sound (bits-AreBits (0xc0 ∷ 0x05 ∷ [])) refl

pub mark_past_the_last : FailsContent (Fixed 1) one_octet.slots (bits (0x10 ∷ 0x05 ∷ [])) 3 UndefinedSlot
unfolding content_read
mark_past_the_last = inside_of (Fixed 1) one_octet.slots (bits (0x10 ∷ 0x05 ∷ [])) 3 Body.UndefinedSlot one_sound (bits-AreBits (0x10 ∷ 0x05 ∷ [])) refl

pub entry_cut_off : FailsContent (Fixed 1) one_octet.slots (bits (0x20 ∷ 0x02 ∷ 0xaa ∷ [])) 24 RunsOut
unfolding content_read
entry_cut_off = inside_of (Fixed 1) one_octet.slots (bits (0x20 ∷ 0x02 ∷ 0xaa ∷ [])) 24 Body.RunsOut one_sound (bits-AreBits (0x20 ∷ 0x02 ∷ 0xaa ∷ [])) refl

pub octet_behind : FailsContent (Fixed 1) one_octet.slots (bits (0x80 ∷ 0x05 ∷ 0x07 ∷ [])) 16 TrailingOctets
unfolding content_read
octet_behind = trailing_of (Fixed 1) one_octet.slots (bits (0x80 ∷ 0x05 ∷ 0x07 ∷ [])) (marked (entry_and 1 (number 5) no_entries)) 16 (bits (0x07 ∷ [])) one_sound (bits-AreBits (0x80 ∷ 0x05 ∷ 0x07 ∷ [])) (lit< tt) refl

pub second_missing : FailsContent (Fixed 2) two_octets.slots (bits (0x80 ∷ [])) 8 RunsOut
unfolding content_read
second_missing = inside_of (Fixed 2) two_octets.slots (bits (0x80 ∷ [])) 8 Body.RunsOut two_sound (bits-AreBits (0x80 ∷ [])) refl

pub second_undefined : FailsContent (Fixed 2) two_octets.slots (bits (0x80 ∷ 0x05 ∷ [])) 13 UndefinedSlot
unfolding content_read
second_undefined = inside_of (Fixed 2) two_octets.slots (bits (0x80 ∷ 0x05 ∷ [])) 13 Body.UndefinedSlot two_sound (bits-AreBits (0x80 ∷ 0x05 ∷ [])) refl

pub longer_spelled : SpellsContent Fx by_fx.slots (marked (entry_and 1 (number 5) no_entries)) (bits (0x81 ∷ 0x00 ∷ 0x05 ∷ []))
unfolding content_read
longer_spelled = spelled_of Fx by_fx.slots (bits (0x81 ∷ 0x00 ∷ 0x05 ∷ [])) (marked (entry_and 1 (number 5) no_entries)) 24 fx_sound (bits-AreBits (0x81 ∷ 0x00 ∷ 0x05 ∷ [])) refl

pub third_announced : FailsContent Fx by_fx.slots (bits (0x81 ∷ 0x01 ∷ 0x00 ∷ 0x05 ∷ [])) 15 PresenceTooLong
unfolding content_read
third_announced = inside_of Fx by_fx.slots (bits (0x81 ∷ 0x01 ∷ 0x00 ∷ 0x05 ∷ [])) 15 Body.PresenceTooLong fx_sound (bits-AreBits (0x81 ∷ 0x01 ∷ 0x00 ∷ 0x05 ∷ [])) refl

pub octet_behind_none : FailsContent Fx by_fx.slots (bits (0x00 ∷ 0x07 ∷ [])) 8 TrailingOctets
unfolding content_read
octet_behind_none = trailing_of Fx by_fx.slots (bits (0x00 ∷ 0x07 ∷ [])) (marked no_entries) 8 (bits (0x07 ∷ [])) fx_sound (bits-AreBits (0x00 ∷ 0x07 ∷ [])) (lit< tt) refl

pub fixed_spelled : form_texts (Fixed 15) ≡ codes "fixed" ∷ codes "15" ∷ []
unfolding digits
fixed_spelled = refl
