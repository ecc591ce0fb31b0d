-- Octets that others are appended to, and the room that is kept for them.
use Rattle.std.specs.Prelude.{◌≡◌, ℕ, ◌+◌, ◌*◌, ◌≤◌, ◌⊎◌, List, length}

-- the octets so far, and how many there is room for, those among them
pub record Buffered : Type 0 where
  pub octets : List ℕ
  pub room : ℕ

-- there is as much room as before, or at most twice what the octets need and 512 more
abbrev pub RoomIsFor : Buffered → Buffered → Type 0
RoomIsFor old new = (new.room ≡ old.room) ⊎ (new.room ≤ 2 * length new.octets + 512)
