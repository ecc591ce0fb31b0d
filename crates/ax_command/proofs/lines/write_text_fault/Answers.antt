use Rattle.std.proofs.Common.{ap, sym}
use Rattle.ax_command.specs.Lines.{text_line}
use Rattle.ax_endpoints.proofs.Pieces.{same_text}
use Rattle.ax_command.proofs.lines.write_text_fault.Goals as goal

pub returns-in-BadByte : goal.returns-in-BadByte
returns-in-BadByte g c = same_text _ _ _ _ _ _ _ (ap (text_line c.args.line) (sym c.in-BadByte.is)) c.write_two_numbers.ensures

pub returns-in-TooDeep : goal.returns-in-TooDeep
returns-in-TooDeep g c = same_text _ _ _ _ _ _ _ (ap (text_line c.args.line) (sym c.in-TooDeep.is)) c.write_two_numbers-in-TooDeep.ensures

pub returns-in-BadToken : goal.returns-in-BadToken
returns-in-BadToken g c = same_text _ _ _ _ _ _ _ (ap (text_line c.args.line) (sym c.in-BadToken.is)) c.write_two_numbers-in-BadToken.ensures

pub returns-in-TooLong : goal.returns-in-TooLong
returns-in-TooLong g c = same_text _ _ _ _ _ _ _ (ap (text_line c.args.line) (sym c.in-TooLong.is)) c.write_two_numbers-in-TooLong.ensures
