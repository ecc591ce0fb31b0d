-- Ends of the block loop whose work takes no memory.
use Rattle.std.proofs.Common.{◌≡◌, ℕ, ◌≤◌, ◌⊎◌, inl, inr, List, Some, length, ap}
use Rattle.ax_bits.specs.Bits.{AreOctets}
use Rattle.ax_app.specs.Ends.{as_stream}
use Rattle.ax_app.specs.Working.{IsDoneWithAll, NoneRose}
use Rattle.ax_app.specs.declared.end.DriveEnd.{DriveEnd}
use Rattle.ax_app.specs.declared.end.DriveEnd.TheVariants.{Done, InputRefused, MigratedTooLong, InputTooLong, ReadFault, WriteFault, ReportFault}
use Rattle.ax_format.specs.Blocks.{BlockTree, SpellsStream}
use Rattle.ax_endpoints.specs.Changes.{SourceChange, SinkChange}
use Rattle.ax_blocks.proofs.Completes.{IsDoneWithBlocks, stream_completes}
use Rattle.ax_blocks.specs.Commands.{BlockCommand, AreGiven}
use Rattle.ax_blocks.specs.Streams.{StreamRuns}
use Rattle.ax_blocks.specs.declared.end.StreamEnd.TheVariants as Stream

done_is : (end : DriveEnd) (count : ℕ) → as_stream end ≡ Stream.Done count → end ≡ Done count
done_is (Done blocks) count e = ap Done (let h : Stream.Done blocks ≡ Stream.Done count = e in let same : blocks ≡ count = cc in same)
done_is (InputRefused fault) count e = absurd (cc)
done_is (MigratedTooLong block octets) count e = absurd (cc)
done_is InputTooLong count e = absurd (cc)
done_is ReadFault count e = absurd (cc)
done_is WriteFault count e = absurd (cc)
done_is ReportFault count e = absurd (cc)

never_wants : (end : DriveEnd) → as_stream end ≡ Stream.OutOfMemory → ⊥
never_wants (Done blocks) e = absurd (cc)
never_wants (InputRefused fault) e = absurd (cc)
never_wants (MigratedTooLong block octets) e = absurd (cc)
never_wants InputTooLong e = absurd (cc)
never_wants ReadFault e = absurd (cc)
never_wants WriteFault e = absurd (cc)
never_wants ReportFault e = absurd (cc)

pub drive_completes : (c : BlockCommand) (limit : ℕ) (i : SourceChange) (o r : SinkChange) (end : DriveEnd) → StreamRuns c limit i o r (as_stream end) → (input : List ℕ) (blocks : List BlockTree) → AreOctets input → i.left ≡ Some input
    → SpellsStream c.catalogue blocks input → length input ≤ limit → AreGiven c 0 blocks → NoneRose i o r → IsDoneWithAll c blocks o r end
drive_completes c limit i o r end runs input blocks octets left spelled within given none =
    by (stream_completes c limit input blocks i o r (as_stream end) spelled within given octets left none.source none.out none.report runs)
  where
    by : (as_stream end ≡ Stream.OutOfMemory) ⊎ IsDoneWithBlocks c blocks o r (as_stream end) → IsDoneWithAll c blocks o r end
    by (inl e) = absurd (never_wants end e)
    by (inr d) = record { done = done_is end (length blocks) d.done; out = d.out; report = d.report }
