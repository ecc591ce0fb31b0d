-- What a work does with a block whose lines it writes, and then its octets.
use Rattle.std.proofs.Common.{◌≡◌, ℕ, ◌≤◌, List, [], Option, Result, Ok, Err, refl, arith}
use Rattle.ax_format.specs.Blocks.{BlockTree}
use Rattle.ax_format.specs.Ends.{RawSpells, RawFails}
use Rattle.ax_format.specs.Framing.{RawTree}
use Rattle.ax_format.specs.declared.fault.BodyFault.{BodyFault}
use Rattle.ax_endpoints.proofs.Pieces.{change, nothing_written as unwritten}
use Rattle.ax_endpoints.specs.Changes.{SinkChange, Wrote}
use Rattle.ax_endpoints.specs.declared.sinks.SinkFailed.{SinkFailed}
use Rattle.ax_blocks.specs.Commands.{BlockCommand, too_long}
use Rattle.ax_blocks.specs.BlockTaking.{GivesFor, Takes, WritesOctets}
use Rattle.ax_blocks.specs.declared.work.WorkStop.{WorkStop}
use Rattle.ax_blocks.specs.declared.work.WorkStop.TheVariants.{Fault, TooLong, WriteFault, ReportFault, OutOfMemory}

-- ---- what was written of the octets, and what the work answers

-- the answer of a work to a write of the output
pub data Answers : Result Unit SinkFailed → Result Unit WorkStop → Type 0 where
  all : (u v : Unit) → Answers (Ok u) (Ok v)
  failed : (e : SinkFailed) → Answers (Err e) (Err WriteFault)

pub octets_written : (o : SinkChange) (octets : List ℕ) (w : Result Unit SinkFailed) (result : Result Unit WorkStop) → Answers w result → Wrote o w octets → WritesOctets o octets result
octets_written o octets _ _ (all u v) w = record { means = w.whole; later = w.later; once = w.once; quiet = w.quiet }
octets_written o octets _ _ (failed e) w = record { means = w.part; later = w.later; once = w.once; quiet = tt }

pub nothing_written : (held : Option (List ℕ)) (faults : ℕ) (u : Unit) → WritesOctets (change held held faults faults) [] (Ok u)
nothing_written held faults u = octets_written (change held held faults faults) [] (Ok u) (Ok u) (all u u) (unwritten held faults u)

-- ---- blocks

-- its lines were written, and then its octets or a part of them
pub takes_after_lines : (c : BlockCommand) (number : ℕ) (raw : RawTree) (o r : SinkChange) (lines octets : List ℕ) (u : Unit) (result : Result Unit WorkStop) → GivesFor c number raw lines octets → Wrote r (Ok u) lines → WritesOctets o octets result
    → Takes c number raw o r result
takes_after_lines c number raw o r lines octets u (Ok v) g s w = record {
  means = record { lines = lines; octets = octets; is = g; said = s.whole; wrote = w.means };
  out_later = w.later;
  out_once = w.once;
  out_quiet = w.quiet;
  report_later = s.later;
  report_once = s.once;
  report_quiet = s.quiet;
}
takes_after_lines c number raw o r lines octets u (Err WriteFault) g s w = record {
  means = record { lines = lines; octets = octets; is = g; said = s.whole; part = w.means };
  out_later = w.later;
  out_once = w.once;
  out_quiet = tt;
  report_later = s.later;
  report_once = s.once;
  report_quiet = s.quiet;
}
takes_after_lines c number raw o r lines octets u (Err (Fault f)) g s w = absurd w.means
takes_after_lines c number raw o r lines octets u (Err (TooLong n)) g s w = absurd w.means
takes_after_lines c number raw o r lines octets u (Err ReportFault) g s w = absurd w.means
takes_after_lines c number raw o r lines octets u (Err OutOfMemory) g s w = absurd w.means

-- a line of it failed
pub takes_cut_line : (c : BlockCommand) (number : ℕ) (raw : RawTree) (r : SinkChange) (held : Option (List ℕ)) (faults : ℕ) (lines octets : List ℕ) (e : SinkFailed) → GivesFor c number raw lines octets → Wrote r (Err e) lines
    → Takes c number raw (change held held faults faults) r (Err ReportFault)
takes_cut_line c number raw r held faults lines octets e g s = record {
  means = record { lines = lines; octets = octets; is = g; part = s.part; nothing = refl };
  out_later = omega arith;
  out_once = omega arith;
  out_quiet = refl;
  report_later = s.later;
  report_once = s.once;
  report_quiet = tt;
}

-- it has no line
pub takes_silently : (c : BlockCommand) (number : ℕ) (raw : RawTree) (o : SinkChange) (held : Option (List ℕ)) (faults : ℕ) (octets : List ℕ) (result : Result Unit WorkStop) → GivesFor c number raw [] octets → WritesOctets o octets result
    → Takes c number raw o (change held held faults faults) result
takes_silently c number raw o held faults octets result g w = takes_after_lines c number raw o (change held held faults faults) [] octets tt result g (unwritten held faults tt) w

-- ---- nothing is written

module _ (c : BlockCommand) (number : ℕ) (raw : RawTree) (held shown : Option (List ℕ)) (fails flaws : ℕ) where
  pub takes_fault : (f : BodyFault) → RawFails c.catalogue raw f.bit f.cause → f.bit ≤ 524256 → Takes c number raw (change held held fails fails) (change shown shown flaws flaws) (Err (Fault f))
  takes_fault f h short = record {
    means = record { fails = h; short = short; nothing = record { out = refl; report = refl } };
    out_later = omega arith;
    out_once = omega arith;
    out_quiet = refl;
    report_later = omega arith;
    report_once = omega arith;
    report_quiet = refl;
  }

  pub takes_too_long : (block : BlockTree) (count : ℕ) → RawSpells c.catalogue raw block → c.answer number block ≡ too_long count → Takes c number raw (change held held fails fails) (change shown shown flaws flaws) (Err (TooLong count))
  takes_too_long block count spells answer = record {
    means = record { block = block; spells = spells; answer = answer; nothing = record { out = refl; report = refl } };
    out_later = omega arith;
    out_once = omega arith;
    out_quiet = refl;
    report_later = omega arith;
    report_once = omega arith;
    report_quiet = refl;
  }

  pub takes_nothing : Takes c number raw (change held held fails fails) (change shown shown flaws flaws) (Err OutOfMemory)
  takes_nothing = record {
    means = record { out = refl; report = refl };
    out_later = omega arith;
    out_once = omega arith;
    out_quiet = refl;
    report_later = omega arith;
    report_once = omega arith;
    report_quiet = refl;
  }
