-- The line of the report for a fault of the input (this project's own rule).
use Rattle.std.specs.Prelude.{List, ℕ, ◌++◌, codes}
use Rattle.ax_report.specs.Lines.{numbered}
use Rattle.ax_blocks.specs.declared.end.Cause.{Cause}
use Rattle.ax_blocks.specs.declared.end.Cause.TheVariants.{EndsInHeader, BadLen, EndsInBlock, RunsOut, UndefinedSlot, PresenceTooLong, ExtensionPastEnd, BadExplicitLength}
use Rattle.ax_blocks.specs.declared.end.InputFault.{InputFault}

abbrev pub cause_name : Cause → List ℕ
cause_name EndsInHeader = codes "EndsInHeader"
cause_name BadLen = codes "BadLen"
cause_name EndsInBlock = codes "EndsInBlock"
cause_name RunsOut = codes "RunsOut"
cause_name UndefinedSlot = codes "UndefinedSlot"
cause_name PresenceTooLong = codes "PresenceTooLong"
cause_name ExtensionPastEnd = codes "ExtensionPastEnd"
cause_name BadExplicitLength = codes "BadExplicitLength"

abbrev pub fault_line : InputFault → List ℕ
fault_line fault = numbered (codes "refused block ") fault.block ++ (numbered (codes " bit ") fault.bit ++ (codes " " ++ (cause_name fault.cause ++ codes "\n")))

-- its bit and its cause, up to the end of its line
abbrev pub fault_end : InputFault → List ℕ
fault_end fault = numbered (codes " bit ") fault.bit ++ (codes " " ++ (cause_name fault.cause ++ codes "\n"))
