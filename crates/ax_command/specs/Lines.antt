-- The lines of the report for each outcome (this project's own rules).
use Rattle.std.specs.Prelude.{ℕ, List, [], ◌++◌, length, flat_map, codes}
use Rattle.ax_format.specs.Paths.{three_digits}
use Rattle.ax_format.specs.declared.flaw.Flaw.{Flaw}
use Rattle.ax_format.specs.declared.flaw.FlawKind.{FlawKind}
use Rattle.ax_format.specs.declared.flaw.FlawKind.TheVariants.{DuplicateItem, DuplicateName, UnknownInUap, RepeatedInUap, Empty, TooManySlots, BadWidth, NotOctets, PartNotOctets, BodyNotOctets, BadScale, BadStringWidth, TooWide}
use Rattle.ax_report.specs.Lines.{numbered}
use Rattle.ax_blocks.specs.Lines.{fault_line}
use Rattle.ax_command.specs.declared.outcome.Outcome.{Outcome}
use Rattle.ax_command.specs.declared.outcome.Outcome.TheVariants.{Done, Usage, SpecRefused, CategoryTwice, InputRefused, TextRefused, MigratedTooLong, InputTooLong, LoadFault, ReadFault, WriteFault, ReportFault, OutOfMemory, OtherCategory, ExpansionUnused, FilterRefused}
use Rattle.ax_lines.specs.declared.text_fault.TextFault.{TextFault}
use Rattle.ax_lines.specs.declared.text_fault.TextFault.TheVariants as TextFaultOf
use Rattle.ax_expressions.specs.declared.stop.FilterFault.{FilterFault}
use Rattle.ax_expressions.specs.declared.stop.FilterFault.TheVariants as FilterFaultOf
use Rattle.ax_load.specs.declared.fault.SpecFault.{SpecFault}
use Rattle.ax_load.specs.declared.fault.SpecFault.TheVariants.{TooLarge, BadByte, TooDeep, BadToken, Flawed}

abbrev pub kind_name : FlawKind → List ℕ
kind_name DuplicateItem = codes "DuplicateItem"
kind_name DuplicateName = codes "DuplicateName"
kind_name UnknownInUap = codes "UnknownInUap"
kind_name RepeatedInUap = codes "RepeatedInUap"
kind_name Empty = codes "Empty"
kind_name TooManySlots = codes "TooManySlots"
kind_name BadWidth = codes "BadWidth"
kind_name NotOctets = codes "NotOctets"
kind_name PartNotOctets = codes "PartNotOctets"
kind_name BodyNotOctets = codes "BodyNotOctets"
kind_name BadScale = codes "BadScale"
kind_name BadStringWidth = codes "BadStringWidth"
kind_name TooWide = codes "TooWide"

-- the kind and the path of a flaw, up to the end of its line
abbrev pub flaw_end : Flaw → List ℕ
flaw_end flaw = (codes " " ++ kind_name flaw.kind) ++ (codes " " ++ (flaw.path ++ codes "\n"))

abbrev pub flaw_line : ℕ → Flaw → List ℕ
flaw_line file flaw = numbered (codes "flaw file ") file ++ ((codes " " ++ kind_name flaw.kind) ++ (codes " " ++ (flaw.path ++ codes "\n")))

abbrev pub flaw_lines : ℕ → List Flaw → List ℕ
flaw_lines file flaws = flat_map (λ flaw. flaw_line file flaw) flaws

-- of a refused file
abbrev pub fault_lines : ℕ → SpecFault → List ℕ
fault_lines file TooLarge = numbered (codes "refused file ") file ++ codes " TooLarge\n"
fault_lines file (BadByte at) = numbered (codes "refused file ") file ++ (numbered (codes " BadByte at ") at ++ codes "\n")
fault_lines file (TooDeep token) = numbered (codes "refused file ") file ++ (numbered (codes " TooDeep token ") token ++ codes "\n")
fault_lines file (BadToken token) = numbered (codes "refused file ") file ++ (numbered (codes " BadToken token ") token ++ codes "\n")
fault_lines file (Flawed flaws) = flaw_lines file flaws ++ (numbered (codes "refused file ") file ++ (numbered (codes " Flawed ") (length flaws) ++ codes "\n"))

-- of a refused expression
abbrev pub filter_line : FilterFault → List ℕ
filter_line (FilterFaultOf.BadByte at) = numbered (codes "refused filter BadByte at ") at ++ codes "\n"
filter_line (FilterFaultOf.TooDeep token) = numbered (codes "refused filter TooDeep token ") token ++ codes "\n"
filter_line (FilterFaultOf.BadToken token) = numbered (codes "refused filter BadToken token ") token ++ codes "\n"
filter_line (FilterFaultOf.UnknownPath token) = numbered (codes "refused filter UnknownPath token ") token ++ codes "\n"
filter_line (FilterFaultOf.NotAnElement token) = numbered (codes "refused filter NotAnElement token ") token ++ codes "\n"

-- of a refused line
abbrev pub text_line : ℕ → TextFault → List ℕ
text_line line TextFaultOf.LineTooLong = numbered (codes "refused line ") line ++ codes " LineTooLong\n"
text_line line (TextFaultOf.BadByte at) = numbered (codes "refused line ") line ++ (numbered (codes " BadByte at ") at ++ codes "\n")
text_line line (TextFaultOf.TooDeep token) = numbered (codes "refused line ") line ++ (numbered (codes " TooDeep token ") token ++ codes "\n")
text_line line (TextFaultOf.BadToken token) = numbered (codes "refused line ") line ++ (numbered (codes " BadToken token ") token ++ codes "\n")
text_line line (TextFaultOf.TooLong octets) = numbered (codes "refused line ") line ++ (numbered (codes " TooLong ") octets ++ codes "\n")

abbrev pub lines_of : Outcome → List ℕ
lines_of (Done blocks) = []
lines_of Usage = codes "refused usage\n"
lines_of (SpecRefused file fault) = fault_lines file fault
lines_of (CategoryTwice file category) = numbered (codes "refused file ") file ++ (codes " CategoryTwice " ++ (three_digits category ++ codes "\n"))
lines_of (InputRefused fault) = fault_line fault
lines_of (TextRefused line fault) = text_line line fault
lines_of (MigratedTooLong block octets) = numbered (codes "refused block ") block ++ (numbered (codes " MigratedTooLong ") octets ++ codes "\n")
lines_of InputTooLong = codes "refused input InputTooLong\n"
lines_of (LoadFault file) = numbered (codes "fault file ") file ++ codes "\n"
lines_of ReadFault = codes "fault read\n"
lines_of WriteFault = codes "fault write\n"
lines_of ReportFault = []
lines_of OutOfMemory = codes "refused memory\n"
lines_of (OtherCategory old new) = codes "refused editions" ++ (codes " " ++ (three_digits old ++ (codes " " ++ (three_digits new ++ codes "\n"))))
lines_of (ExpansionUnused category) = codes "refused expansion " ++ (three_digits category ++ codes "\n")
lines_of (FilterRefused fault) = filter_line fault
