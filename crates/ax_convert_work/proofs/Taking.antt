-- What `convert` does with one block.
use Rattle.std.proofs.Common.{ℕ, List, Option, Result, Ok, Err}
use Rattle.ax_convert_work.specs.ConvertCommand.{convert_command}
use Rattle.ax_convert_work.specs.Making.{IsMade, NotMade, all_octets}
use Rattle.ax_convert_work.specs.declared.blocks.DataBlock.{DataBlock}
use Rattle.ax_format.specs.Framing.{RawTree}
use Rattle.ax_format.specs.Specification.{SpecTree}
use Rattle.ax_endpoints.proofs.Pieces.{change}
use Rattle.ax_endpoints.specs.Changes.{SinkChange, Wrote}
use Rattle.ax_endpoints.specs.declared.sinks.SinkFailed.{SinkFailed}
use Rattle.ax_rescale.specs.Misses.{missed_lines}
use Rattle.ax_rescale.specs.declared.miss.Miss.{Miss}
use Rattle.ax_blocks.proofs.Taken.{Answers, octets_written, takes_after_lines, takes_cut_line, takes_fault, takes_too_long, takes_nothing}
use Rattle.ax_blocks.specs.BlockTaking.{GivesFor, Takes}
use Rattle.ax_blocks.specs.declared.work.WorkStop.{WorkStop}
use Rattle.ax_blocks.specs.declared.work.WorkStop.TheVariants.{Fault, TooLong, WriteFault, ReportFault, OutOfMemory}

module _ (old new : SpecTree) (number : ℕ) (raw : RawTree) where
  module _ (misses : List Miss) (blocks : List DataBlock) (m : IsMade old new raw misses blocks) where
    given : GivesFor (convert_command old new) number raw (missed_lines number misses) (all_octets blocks)
    given = record { block = m.block; spells = m.spells; answer = m.answer number }

    pub made_taken : (o r : SinkChange) (u : Unit) (w : Result Unit SinkFailed) (result : Result Unit WorkStop) → Wrote r (Ok u) (missed_lines number misses) → Answers w result → Wrote o w (all_octets blocks) → Takes (convert_command old new) number raw o r result
    made_taken o r u w result said is wrote =
        takes_after_lines (convert_command old new) number raw o r (missed_lines number misses) (all_octets blocks) u result given said (octets_written o (all_octets blocks) w result is wrote)

    pub made_cut : (held : Option (List ℕ)) (fails : ℕ) (r : SinkChange) (e : SinkFailed) → Wrote r (Err e) (missed_lines number misses) → Takes (convert_command old new) number raw (change held held fails fails) r (Err ReportFault)
    made_cut held fails r e said = takes_cut_line (convert_command old new) number raw r held fails (missed_lines number misses) (all_octets blocks) e given said

  pub not_made : (held shown : Option (List ℕ)) (fails flaws : ℕ) (stop : WorkStop) → NotMade old new raw stop → Takes (convert_command old new) number raw (change held held fails fails) (change shown shown flaws flaws) (Err stop)
  not_made held shown fails flaws (Fault f) h = takes_fault (convert_command old new) number raw held shown fails flaws f h.0 h.1
  not_made held shown fails flaws (TooLong count) h = takes_too_long (convert_command old new) number raw held shown fails flaws h.block count h.spells (h.answer number)
  not_made held shown fails flaws OutOfMemory h = takes_nothing (convert_command old new) number raw held shown fails flaws
  not_made held shown fails flaws WriteFault h = absurd h
  not_made held shown fails flaws ReportFault h = absurd h

pub ruleset takes = (made_taken, made_cut, not_made)
