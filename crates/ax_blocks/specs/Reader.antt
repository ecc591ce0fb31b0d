-- What contracts see of a block reader and of its answers.
use Rattle.std.specs.Prelude.{◌≡◌, ℕ, ◌+◌, ◌-◌, ◌/◌, ◌≤◌, List, ◌++◌, length, take, Option, Some, None, Result, Ok, Err}
use Rattle.ax_blocks.specs.Taking.{Took, IsUnfinished}
use Rattle.ax_blocks.specs.declared.next_error.NextError.{NextError}
use Rattle.ax_blocks.specs.declared.next_error.NextError.TheVariants.{BadLen, EndsInHeader, EndsInBlock, InputTooLong, ReadFault}
use Rattle.ax_blocks.specs.declared.reader.EndedBlocks.{EndedBlocks}
use Rattle.ax_blocks.specs.declared.reader.EndedBlocks.TheVariants.{EndOfInput, Refused}
use Rattle.ax_format.specs.Blocks.{IsFramed}
use Rattle.ax_format.specs.Framing.{RawTree, FramingEnd, whole, input_too_long, ends_in_header, bad_len, ends_in_block, len_of, block, end, IsJustNext}
use Rattle.ax_format.specs.declared.record.RawBlock.{RawBlock}
use Rattle.ax_endpoints.specs.Changes.{SourceChange}
use Rattle.ax_endpoints.specs.Told.{IsAtEnd}

-- a reader: the limit on its input, the count of octets of the blocks that it gave, and what it answers from now on, once
-- it has ended or refused
pub record ReaderState : Type 0 where
  pub limit : ℕ
  pub given : ℕ
  pub ended : Option EndedBlocks

abbrev pub IsOpen : ReaderState → Type 0
IsOpen reader = reader.ended ≡ None

abbrev pub raw_tree : RawBlock → RawTree
raw_tree raw = record { category = raw.category; body = raw.body.now }

-- ---- answers

abbrev pub OnBlock : {A : Type 0} → Result (Option A) NextError → (A → Type 0) → Type 0
OnBlock (Ok (Some raw)) P = P raw
OnBlock (Ok None) P = Unit {0}
OnBlock (Err e) P = Unit {0}

-- the end of framing that the answer names
abbrev pub OnEnd : {A : Type 0} → Result (Option A) NextError → (FramingEnd → Type 0) → Type 0
OnEnd (Ok (Some raw)) P = Unit {0}
OnEnd (Ok None) P = P whole
OnEnd (Err BadLen) P = P bad_len
OnEnd (Err (EndsInHeader bit)) P = P (ends_in_header bit)
OnEnd (Err (EndsInBlock bit)) P = P (ends_in_block bit)
OnEnd (Err InputTooLong) P = P input_too_long
OnEnd (Err ReadFault) P = Unit {0}

abbrev pub OnReadFault : {A : Type 0} → Result (Option A) NextError → Type 0 → Type 0
OnReadFault (Err ReadFault) P = P
OnReadFault _ P = Unit {0}

abbrev pub OnTooLong : {A : Type 0} → Result (Option A) NextError → Type 0 → Type 0
OnTooLong (Err InputTooLong) P = P
OnTooLong _ P = Unit {0}

-- the octets of the block given
abbrev pub block_octets : Result (Option RawBlock) NextError → ℕ
block_octets (Ok (Some raw)) = 3 + length raw.body.now
block_octets (Ok None) = 0
block_octets (Err e) = 0

-- what the reader answers from now on
abbrev pub ended_by : {A : Type 0} → Result (Option A) NextError → Option EndedBlocks
ended_by (Ok (Some raw)) = None
ended_by (Ok None) = Some EndOfInput
ended_by (Err e) = Some (Refused e)

-- the reader after an answer
pub record IsAfter (old : ReaderState) (result : Result (Option RawBlock) NextError) (new : ReaderState) : Type 0 where
  pub same_limit : new.limit ≡ old.limit
  pub counts : new.given ≡ old.given + block_octets result
  pub within : new.given ≤ new.limit
  pub keeps : new.ended ≡ ended_by result

-- ---- what was taken

-- the octets of this block and no others, within the limit; whatever stands after them, it is what comes next, and nothing
-- else is
pub record GivesBlock (limit given : ℕ) (left left' : Option (List ℕ)) (taken taken' : ℕ) (raw : RawTree) : Type 0 where
  pub octets : List ℕ
  pub framed : IsFramed raw.category raw.body octets
  pub took : Took left left' taken taken' octets
  pub within : given + length octets ≤ limit
  pub just : (after : List ℕ) → IsJustNext limit given (octets ++ after) (block raw)

-- how many octets show an end, after `given` octets of whole blocks
abbrev pub octets_to_end : ℕ → ℕ → FramingEnd → ℕ
octets_to_end limit given whole = 0
octets_to_end limit given input_too_long = limit + 1 - given
octets_to_end limit given (ends_in_header bit) = bit / 8
octets_to_end limit given bad_len = 3
octets_to_end limit given (ends_in_block bit) = bit / 8

-- where the octets ran out, none is left
abbrev pub RanOut : FramingEnd → Option (List ℕ) → Type 0
RanOut whole left = IsAtEnd left
RanOut input_too_long left = Unit {0}
RanOut (ends_in_header bit) left = IsAtEnd left
RanOut bad_len left = Unit {0}
RanOut (ends_in_block bit) left = IsAtEnd left

-- the octets that show this end; whatever stands after them, or where they ran out nothing, it is what comes next, and
-- nothing else is
pub record FindsEnd (limit given : ℕ) (left left' : Option (List ℕ)) (taken taken' : ℕ) (e : FramingEnd) : Type 0 where
  pub octets : List ℕ
  pub took : Took left left' taken taken' octets
  pub count : length octets ≡ octets_to_end limit given e
  pub ran_out : RanOut e left'
  pub just : (after : List ℕ) → RanOut e (Some after) → IsJustNext limit given (octets ++ after) (end e)

-- some octets of a block that isn't there whole yet
pub record StopsUnfinished (limit given : ℕ) (left left' : Option (List ℕ)) (taken taken' : ℕ) : Type 0 where
  pub octets : List ℕ
  pub took : Took left left' taken taken' octets
  pub unfinished : IsUnfinished limit given octets

-- ---- the next block in a buffer

-- the first n octets of the buffer are the block, with a LEN of n
pub record HoldsBlock (limit given : ℕ) (left left' : Option (List ℕ)) (taken taken' : ℕ) (buffer : List ℕ) (n : ℕ) : Type 0 where
  pub took : Took left left' taken taken' (take n buffer)
  pub least : 4 ≤ n
  pub most : n ≤ length buffer
  pub within : given + n ≤ limit
  pub len : len_of (take n buffer) ≡ n

-- ---- of a source that is told before and after

-- the reader's next block was taken from it, and no other octets
abbrev pub GivesNext : ReaderState → SourceChange → RawBlock → Type 0
GivesNext reader i raw = GivesBlock reader.limit reader.given i.left i.left' i.taken i.taken' (raw_tree raw)

-- the octets that show an end were taken from it
abbrev pub ShowsEnd : ReaderState → SourceChange → FramingEnd → Type 0
ShowsEnd reader i e = FindsEnd reader.limit reader.given i.left i.left' i.taken i.taken' e

-- some octets of a block were taken from it
abbrev pub StopsInBlock : ReaderState → SourceChange → Type 0
StopsInBlock reader i = StopsUnfinished reader.limit reader.given i.left i.left' i.taken i.taken'
