-- What steps down the nodes of a table find in a value.
use Rattle.std.specs.Prelude.{◌≡◌, ℕ, ◌+◌, ◌*◌, ◌<◌, ◌≤◌, List, length, drop, Option, Some, None}
use Rattle.ax_bits.specs.Bits.{bits}
use Rattle.ax_format.specs.At.{nth_value, nth_list, value_at, number_of_value}
use Rattle.ax_format.specs.InBounds.{FixedInBounds, MembersInBounds}
use Rattle.ax_format.specs.Reader.{fixed_value, members_value}
use Rattle.ax_format.specs.Sizes.{longest_body}
use Rattle.ax_format.specs.Tree.{FixedTree, MembersTree, extended, ValueTree, no_values, part_values, ListsTree, no_lists}
use Rattle.ax_format.specs.Widths.{width, members_width}
use Rattle.ax_format.specs.declared.kind.LastPart.{LastPart}
use Rattle.ax_codec.specs.Meaning.{meanings, linked, fixed_of, part_of}
use Rattle.ax_codec.specs.declared.node.Node.{Node}
use Rattle.ax_walk.specs.Values.{value_in}
use Rattle.ax_walk.specs.declared.spot.Spot.{Spot}
use Rattle.ax_walk.specs.declared.spot.Spot.TheVariants as Of

-- ---- members

-- the member was found: the link of its fixed kind, and the bit at which its value begins
pub record FindsMember (nodes : List Node) (members : MembersTree) (at i link bit : ℕ) : Type 0 where
  pub some : 0 < link
  pub within : link ≤ length nodes
  pub bounds : FixedInBounds (fixed_of (linked (meanings nodes) link))
  pub room : bit + width (fixed_of (linked (meanings nodes) link)) ≤ at + members_width members
  pub value : (b : List ℕ) → nth_value i (members_value members (drop at b)) ≡ Some (fixed_value (fixed_of (linked (meanings nodes) link)) (drop bit b))

-- there is no such member
pub record FindsNone (members : MembersTree) (at i : ℕ) : Type 0 where
  pub none : (b : List ℕ) → nth_value i (members_value members (drop at b)) ≡ None

-- ---- parts

abbrev pub lists_in : ValueTree → ListsTree
lists_in (part_values ls) = ls
lists_in _ = no_lists

-- the part was found: the link of its node, and the bit at which its members begin
pub record FindsPart (nodes : List Node) (last : LastPart) (parts : List MembersTree) (body : List ℕ) (i link bit : ℕ) : Type 0 where
  pub some : 0 < link
  pub within : link ≤ length nodes
  pub bounds : MembersInBounds (part_of (linked (meanings nodes) link))
  pub room : bit + members_width (part_of (linked (meanings nodes) link)) ≤ 8 * length body
  pub value : nth_list i (lists_in (value_in (extended last parts) body)) ≡ members_value (part_of (linked (meanings nodes) link)) (drop bit (bits body))

-- the part isn't present
pub record FindsNoPart (last : LastPart) (parts : List MembersTree) (body : List ℕ) (i : ℕ) : Type 0 where
  pub none : nth_list i (lists_in (value_in (extended last parts) body)) ≡ no_values

-- ---- fixed kinds, by steps

-- the fixed kind that the steps lead to, and the bit at which its value begins
pub record FindsFixed (nodes : List Node) (f : FixedTree) (at : ℕ) (steps : List ℕ) (link bit : ℕ) : Type 0 where
  pub some : 0 < link
  pub within : link ≤ length nodes
  pub bounds : FixedInBounds (fixed_of (linked (meanings nodes) link))
  pub room : bit + width (fixed_of (linked (meanings nodes) link)) ≤ at + width f
  pub value : (b : List ℕ) → value_at steps (fixed_value f (drop at b)) ≡ Some (fixed_value (fixed_of (linked (meanings nodes) link)) (drop bit b))

-- the steps lead nowhere
pub record FindsNothing (f : FixedTree) (at : ℕ) (steps : List ℕ) : Type 0 where
  pub none : (b : List ℕ) → value_at steps (fixed_value f (drop at b)) ≡ None

-- what was looked for is a value of the fixed kind that the link leads to, from this bit of the octets on
pub record IsFixedAt (nodes : List Node) (body : List ℕ) (found : Option ValueTree) (link bit : ℕ) : Type 0 where
  pub some : 0 < link
  pub within : link ≤ length nodes
  pub bounds : FixedInBounds (fixed_of (linked (meanings nodes) link))
  pub few : length body ≤ longest_body
  pub room : bit + width (fixed_of (linked (meanings nodes) link)) ≤ 8 * length body
  pub value : found ≡ Some (fixed_value (fixed_of (linked (meanings nodes) link)) (drop bit (bits body)))

-- what was looked for is a value, and no number
pub record IsNoNumber (found : Option ValueTree) : Type 0 where
  pub value : ValueTree
  pub is : found ≡ Some value
  pub none : number_of_value value ≡ None

abbrev pub IsSpot : List Node → Spot → Option ValueTree → Type 0
IsSpot nodes Of.Missing found = found ≡ None
IsSpot nodes Of.Whole found = IsNoNumber found
IsSpot nodes (Of.Fixed link bit octets) found = IsFixedAt nodes octets.now found link bit
