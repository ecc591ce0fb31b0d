-- What a work keeps of the blocks of an input, at each end of a run.
use Rattle.std.specs.Prelude.{◌≡◌, ℕ, List, [], Option, Some}
use Rattle.ax_bits.specs.Bits.{AreOctets}
use Rattle.ax_blocks.specs.Reader.{ReaderState}
use Rattle.ax_blocks.specs.Streams.{RunsOver}
use Rattle.ax_blocks.specs.declared.end.StreamEnd.{StreamEnd}
use Rattle.ax_blocks.specs.declared.end.StreamEnd.TheVariants.{Done}
use Rattle.ax_blocks.specs.declared.work.BlockWork as WorkOf
use Rattle.ax_endpoints.specs.Changes.{Changes}
use Rattle.ax_format.specs.Framing.{RawTree, Framed, FramingEnd, whole}

-- the octets are whole blocks up to this end of framing, and all of these blocks are remembered
pub record RemembersUpTo (Remembered : List RawTree → Type 0) (limit : ℕ) (octets : List ℕ) (end : FramingEnd) : Type 0 where
  pub raws : List RawTree
  pub framed : Framed octets limit raws end
  pub remembered : Remembered raws

-- the input is whole blocks, and all of them are remembered
abbrev pub RemembersAll : (List RawTree → Type 0) → ℕ → List ℕ → Type 0
RemembersAll Remembered limit input = RemembersUpTo Remembered limit input whole

-- of the octets that a run took, each block that is there whole is remembered; at Done nothing is left behind them
pub record RemembersTaken (Remembered : List RawTree → Type 0) (limit : ℕ) (octets : List ℕ) (e : StreamEnd) : Type 0 where
  pub end : FramingEnd
  pub blocks : RemembersUpTo Remembered limit octets end
  pub read : (count : ℕ) → e ≡ Done count → end ≡ whole

-- a work that remembered none before: at Done it remembers all blocks of an input that is told
abbrev pub KeepsTold : {W : Type 0} → WorkOf.Ghosts W → W → W → ReaderState → Option (List ℕ) → StreamEnd → Type 0
KeepsTold ghosts before after reader left e =
    (input : List ℕ) (blocks : ℕ) → AreOctets input → left ≡ Some input → ghosts.remembers before before [] → e ≡ Done blocks → RemembersAll (ghosts.remembers before after) reader.limit input

-- a work that remembered none before: whatever the end, it remembers the blocks among the octets that were taken, of which as an
-- input this is the run. So after a failed write or line, that block too, which was taken; after a failed read those before it
abbrev pub Keeps : {W : Type 0} → WorkOf.Ghosts W → W → W → ReaderState → Changes → StreamEnd → Type 0
Keeps ghosts before after reader x e =
    ghosts.remembers before before []
    → RunsOver (ghosts.command before) reader.limit x.source x.out x.report e (λ octets. RemembersTaken (ghosts.remembers before after) reader.limit octets e)
