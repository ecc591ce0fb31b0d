-- What is left to be read of the parts of an extended or closed item, and how reading goes on at one of them.
use Rattle.std.specs.Prelude.{◌≡◌, ℕ, ◌+◌, ◌-◌, ◌*◌, ◌<◌, ◌≤◌, Bool, true, false, List, ◌∷◌, length, drop}
use Rattle.ax_bits.specs.Bits.{bits}
use Rattle.ax_format.specs.InBounds.{PartInBounds, PartsInBounds}
use Rattle.ax_format.specs.Reader.{Read, got, parts_read, members_value}
use Rattle.ax_format.specs.Sizes.{longest_body}
use Rattle.ax_format.specs.Tree.{MembersTree, ListsTree, list_and, no_lists}
use Rattle.ax_format.specs.Widths.{members_width, fx_width}
use Rattle.ax_format.specs.declared.kind.LastPart.{LastPart}
use Rattle.ax_fspec.specs.Reading.{Continues}

-- what is left to be read from octet `at` on, of these parts; nothing where the part before had no FX bit, or one that was 0
unfoldable pub parts_left : LastPart → Bool → List MembersTree → List ℕ → ℕ → Read ListsTree
parts_left last true ps body at = parts_read last ps (bits (drop at body))
parts_left last false ps body at = got no_lists 0 (bits (drop at body))

-- the parts that may come from octet `at` on; where FX of the part before was 1 there is one at least
pub record PartsReady (last : LastPart) (more : Bool) (ps : List MembersTree) (body : List ℕ) (at : ℕ) : Type 0 where
  pub small : length body ≤ longest_body
  pub within : at ≤ length body
  pub bounds : PartsInBounds last ps
  pub some : more ≡ true → 0 < length ps

-- the first of the parts is there at octet `at`, with its FX bit where it has one, and what is left after it begins at octet `end`;
-- its FX says whether another follows, and none does where it has no FX bit
pub record IsPartMet (last : LastPart) (more : Bool) (ps : List MembersTree) (body : List ℕ) (at : ℕ) (p : MembersTree) (again : Bool) (qs : List MembersTree) (end : ℕ) : Type 0 where
  pub first : ps ≡ p ∷ qs
  pub bounds : PartInBounds (fx_width last (length qs)) p
  pub forwards : at < end
  pub width : members_width p + fx_width last (length qs) ≡ 8 * (end - at)
  pub within : end ≤ length body
  pub read : Continues (parts_left last more ps body at) at end (λ ls. list_and (members_value p (drop (8 * at) (bits body))) ls) (parts_left last again qs body end)
