-- Octets taken from a source, and how far they go.
use Rattle.std.specs.Prelude.{◌≡◌, ℕ, ◌+◌, ◌<◌, ◌≤◌, List, ◌++◌, length, take, Option, Result, Ok, Err}
use Rattle.ax_bits.specs.Bits.{AreOctets}
use Rattle.ax_blocks.specs.declared.next_error.NextError.{NextError}
use Rattle.ax_blocks.specs.declared.next_error.NextError.TheVariants.{InputTooLong, ReadFault}
use Rattle.ax_format.specs.Framing.{len_of}
use Rattle.ax_endpoints.specs.Changes.{SourceChange}
use Rattle.ax_endpoints.specs.Told.{with_front, IsAtEnd}

-- these octets were taken: they stood in front of what is left now, where that is told, and the number of octets taken rose
-- by their count
pub record Took (left left' : Option (List ℕ)) (taken taken' : ℕ) (octets : List ℕ) : Type 0 where
  pub octets_are : AreOctets octets
  pub gives : left ≡ with_front octets left'
  pub counted : taken' ≡ taken + length octets

-- the octets begin a block of an input with `before` octets of whole blocks in front, and the limit allows them; the block
-- isn't there whole, and its header, as far as it goes, is no fault
pub record IsUnfinished (limit before : ℕ) (octets : List ℕ) : Type 0 where
  pub within : before + length octets ≤ limit
  pub len : 3 ≤ length octets → 4 ≤ len_of octets
  pub more : 3 ≤ length octets → length octets < len_of octets

-- ---- taking a part of a block into a buffer, after the octets buffered, up to those needed

-- the buffer holds n octets of the block now; fewer than are needed where the input has ended
pub record PartTaken (left left' : Option (List ℕ)) (taken taken' : ℕ) (buffer buffer' : List ℕ) (buffered needed room n : ℕ) : Type 0 where
  pub octets : List ℕ
  pub took : Took left left' taken taken' octets
  pub stands : take n buffer' ≡ take buffered buffer ++ octets
  pub count : n ≡ buffered + length octets
  pub most : n ≤ needed
  pub within : n ≤ room
  pub ended : n < needed → IsAtEnd left'

-- one octet past the room was taken, which the part needs
pub record PartPastRoom (left left' : Option (List ℕ)) (taken taken' buffered needed room : ℕ) : Type 0 where
  pub octets : List ℕ
  pub took : Took left left' taken taken' octets
  pub count : buffered + length octets ≡ room + 1
  pub needs : room < needed

-- fewer octets than are needed, within the room
pub record PartCut (left left' : Option (List ℕ)) (taken taken' buffered needed room : ℕ) : Type 0 where
  pub octets : List ℕ
  pub took : Took left left' taken taken' octets
  pub fewer : buffered + length octets < needed
  pub within : buffered + length octets ≤ room

abbrev pub PartMeans : Option (List ℕ) → Option (List ℕ) → ℕ → ℕ → List ℕ → List ℕ → ℕ → ℕ → ℕ → Result ℕ NextError → Type 0
PartMeans left left' taken taken' buffer buffer' buffered needed room (Ok n) = PartTaken left left' taken taken' buffer buffer' buffered needed room n
PartMeans left left' taken taken' buffer buffer' buffered needed room (Err InputTooLong) = PartPastRoom left left' taken taken' buffered needed room
PartMeans left left' taken taken' buffer buffer' buffered needed room (Err ReadFault) = PartCut left left' taken taken' buffered needed room
PartMeans left left' taken taken' buffer buffer' buffered needed room (Err _) = ⊥

-- the same, of a source that is told before and after
abbrev pub PartTells : SourceChange → List ℕ → List ℕ → ℕ → ℕ → ℕ → Result ℕ NextError → Type 0
PartTells i buffer buffer' buffered needed room result = PartMeans i.left i.left' i.taken i.taken' buffer buffer' buffered needed room result

abbrev pub OnPartFault : Result ℕ NextError → Type 0 → Type 0
OnPartFault (Err ReadFault) P = P
OnPartFault _ P = Unit {0}

abbrev pub UnlessReadFault : {A : Type 0} → Result A NextError → Type 0 → Type 0
UnlessReadFault (Err ReadFault) P = Unit {0}
UnlessReadFault _ P = P
