-- The worked lines, computed.
use Rattle.std.specs.Fmt.{digits}
use Rattle.hex.specs.Hex.{encode_with}
use Rattle.std.proofs.Common.{◌≡◌, refl}
use Rattle.std.specs.Prelude.{codes}
use Rattle.ax_expand.specs.Examples.{one_octet, by_fx}
use Rattle.ax_expand.specs.declared.fault.ContentCause.TheVariants.{TrailingOctets}
use Rattle.ax_expand_work.specs.Lines.{re_line, unread_line}
use Rattle.ax_format.specs.Tree.{number, marked, no_entries, entry_and}

pub first_read : re_line one_octet 3 1 (marked (entry_and 1 (number 5) no_entries)) ≡ codes "re block 3 record 1 \"8005\" record { RE { A 5 } }\n"
unfolding digits encode_with
first_read = refl

pub eighth_read : re_line by_fx 0 2 (marked (entry_and 8 (number 5) no_entries)) ≡ codes "re block 0 record 2 \"018005\" record { RE { B 5 } }\n"
unfolding digits encode_with
eighth_read = refl

pub unread : unread_line 3 1 16 TrailingOctets ≡ codes "unread block 3 record 1 bit 16 TrailingOctets\n"
unfolding digits
unread = refl

pub ruleset worked = (first_read, eighth_read, unread)
