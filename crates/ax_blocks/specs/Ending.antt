-- The end of a run over a stream, for the end of its input.
use Rattle.std.specs.Prelude.{ℕ, ◌+◌, ◌≤◌}
use Rattle.ax_format.specs.Ends.{InputEnd, by_framing, by_body}
use Rattle.ax_format.specs.Framing.{FramingEnd, whole, input_too_long, ends_in_header, bad_len, ends_in_block}
use Rattle.ax_format.specs.declared.fault.BodyCause.{BodyCause}
use Rattle.ax_format.specs.declared.fault.BodyCause.TheVariants as Body
use Rattle.ax_endpoints.specs.Limits as Limits
use Rattle.ax_blocks.specs.declared.end.Cause.{Cause}
use Rattle.ax_blocks.specs.declared.end.Cause.TheVariants.{EndsInHeader, BadLen, EndsInBlock, RunsOut, UndefinedSlot, PresenceTooLong, ExtensionPastEnd, BadExplicitLength}
use Rattle.ax_blocks.specs.declared.next_error.NextError.{NextError}
use Rattle.ax_blocks.specs.declared.next_error.NextError.TheVariants as NextErrorOf
use Rattle.ax_blocks.specs.declared.end.InputFault.{InputFault}
use Rattle.ax_blocks.specs.declared.end.StreamEnd.{StreamEnd}
use Rattle.ax_blocks.specs.declared.end.StreamEnd.TheVariants.{Done, Refused, InputTooLong, TooLong, ReadFault, WriteFault, ReportFault, OutOfMemory}
use Rattle.ax_blocks.specs.declared.work.WorkStop.{WorkStop}
use Rattle.ax_blocks.specs.declared.work.WorkStop.TheVariants as WorkStopOf

-- the most octets of an input
abbrev pub longest_input : ℕ
longest_input = Limits.longest_input

abbrev pub cause_of : BodyCause → Cause
cause_of Body.RunsOut = RunsOut
cause_of Body.UndefinedSlot = UndefinedSlot
cause_of Body.PresenceTooLong = PresenceTooLong
cause_of Body.ExtensionPastEnd = ExtensionPastEnd
cause_of Body.BadExplicitLength = BadExplicitLength

-- of the body of the block of that number, whose bits follow those of CAT and LEN
abbrev pub body_fault : ℕ → ℕ → BodyCause → InputFault
body_fault block bit cause = record { cause = cause_of cause; block = block; bit = 24 + bit }

abbrev pub refused_at : Cause → ℕ → ℕ → StreamEnd
refused_at cause block bit = Refused (record { cause = cause; block = block; bit = bit })

-- after this many blocks: a fault of framing stands in the block after them, a LEN below 4 at that block's bit 8
abbrev pub framing_end : ℕ → FramingEnd → StreamEnd
framing_end blocks whole = Done blocks
framing_end blocks input_too_long = InputTooLong
framing_end blocks (ends_in_header bit) = refused_at EndsInHeader blocks bit
framing_end blocks bad_len = refused_at BadLen blocks 8
framing_end blocks (ends_in_block bit) = refused_at EndsInBlock blocks bit

abbrev pub stream_end : ℕ → InputEnd → StreamEnd
stream_end blocks (by_framing end) = framing_end blocks end
stream_end blocks (by_body number bit cause) = refused_at (cause_of cause) number bit

-- for a refusal of the block reader
abbrev pub error_end : ℕ → NextError → StreamEnd
error_end blocks NextErrorOf.BadLen = framing_end blocks bad_len
error_end blocks (NextErrorOf.EndsInHeader bit) = framing_end blocks (ends_in_header bit)
error_end blocks (NextErrorOf.EndsInBlock bit) = framing_end blocks (ends_in_block bit)
error_end blocks NextErrorOf.InputTooLong = framing_end blocks input_too_long
error_end blocks NextErrorOf.ReadFault = ReadFault

-- for a block that isn't written
abbrev pub stop_end : ℕ → WorkStop → StreamEnd
stop_end blocks (WorkStopOf.Fault f) = Refused (body_fault blocks f.bit f.cause)
stop_end blocks (WorkStopOf.TooLong octets) = TooLong blocks octets
stop_end blocks WorkStopOf.WriteFault = WriteFault
stop_end blocks WorkStopOf.ReportFault = ReportFault
stop_end blocks WorkStopOf.OutOfMemory = OutOfMemory

-- a fault stands within the longest body
abbrev pub IsShort : WorkStop → Type 0
IsShort (WorkStopOf.Fault f) = f.bit ≤ 524256
IsShort (WorkStopOf.TooLong octets) = Unit {0}
IsShort WorkStopOf.WriteFault = Unit {0}
IsShort WorkStopOf.ReportFault = Unit {0}
IsShort WorkStopOf.OutOfMemory = Unit {0}
