-- The keys that records can lose, in order, and what is known of those behind each.
use Rattle.std.specs.Prelude.{◌≡◌, ℕ, zero, suc, ◌+◌, ◌≤◌, ◌⊎◌, nat_lt, Bool, true, false, if◌then◌else◌, is_none, List, [], ◌∷◌, ◌++◌, length, map, drop, Option, Some}
use Rattle.ax_fspec.specs.Marks.{IsMarked, no_marks}
use Rattle.ax_relation.specs.declared.relation.RelationPath.{RelationPath}
use Rattle.ax_relation.specs.Standing.{value_below}
use Rattle.ax_migration.specs.Finding.{record_losses}
use Rattle.ax_migration.specs.Losing.{lost_lines}
use Rattle.ax_migration.specs.declared.losses.LossEntry.{LossEntry}
use Rattle.ax_moves.specs.Gone.{gone}
use Rattle.ax_moves.specs.Octets.{with_slot}
use Rattle.ax_moves.specs.declared.lost.LostKey.{LostKey}
use Rattle.ax_moves.specs.declared.lost.Run.{Run}
use Rattle.ax_moves.specs.declared.telling.LostBelow.{LostBelow}
use Rattle.ax_moves.specs.declared.telling.RecordName.{RecordName}
use Rattle.ax_format.specs.Placed.{has_part, has_part_where}
use Rattle.ax_format.specs.Tree.{EntriesTree, ValueTree}
use Rattle.ax_walk.specs.Shown.{item_value}
use Rattle.ax_walk.specs.declared.item.ItemView.{ItemView}

abbrev pub key_path : LostKey → RelationPath
key_path k = k.path.now

abbrev pub key_paths : List LostKey → List RelationPath
key_paths ks = map key_path ks

-- ---- what is lost below a value

-- the FRN of a key's place, and the slot numbers below
abbrev pub place_numbers : RelationPath → List ℕ
place_numbers p = p.old.frn ∷ p.old.steps

-- where the numbers after the first d lead from the value, something is there and has the part
abbrev pub is_below : ℕ → ValueTree → RelationPath → Bool
is_below d v p = has_part_where p.part (value_below (drop d (place_numbers p)) v)

abbrev pub key_loss : ℕ → ℕ → ValueTree → LostKey → List LossEntry
key_loss n d v k = if is_below d v (key_path k) then record { record_at = n; path = (key_path k).text } ∷ [] else []

-- that of the key of a compound itself
abbrev pub own_loss : ℕ → LostKey → List LossEntry
own_loss n k = if is_none (key_path k).part then record { record_at = n; path = (key_path k).text } ∷ [] else []

-- what the record of the number n loses of these keys, of which the first d numbers lead to the value
abbrev pub losses_below : ℕ → ℕ → ValueTree → List LostKey → List LossEntry
losses_below n d v [] = []
losses_below n d v (k ∷ ks) = key_loss n d v k ++ losses_below n d v ks

-- ---- what is known of the keys behind one

-- it holds of the first c of these, as far as there are so many
abbrev pub OfFirst : (LostKey → Type 0) → ℕ → List LostKey → Type 0
OfFirst P zero ks = Unit {0}
OfFirst P (suc c) [] = Unit {0}
OfFirst P (suc c) (k ∷ ks) = P k × OfFirst P c ks

-- after the first d numbers comes s
pub record LeadsBy (d s : ℕ) (p : RelationPath) : Type 0 where
  pub rest : drop d (place_numbers p) ≡ s ∷ drop (d + 1) (place_numbers p)

-- if it is the number of a slot, it is in the set
abbrev pub IsAmong : List ℕ → ℕ → Type 0
IsAmong marks s = 1 ≤ s → s ≤ 126 → IsMarked marks s

-- after the first d numbers comes one of the set
pub record LeadsInto (d : ℕ) (marks : List ℕ) (p : RelationPath) : Type 0 where
  pub slot : ℕ
  pub leads : LeadsBy d slot p
  pub among : IsAmong marks slot

-- what a run says at depth d of a key and of the keys behind it
pub record RunFits (d : ℕ) (r : Run) (p : RelationPath) (ks : List LostKey) : Type 0 where
  pub size : length r.later ≡ 126
  pub leads : LeadsBy d r.slot p
  pub among : IsAmong r.later r.slot
  pub same : OfFirst (λ k. LeadsBy d r.slot (key_path k)) r.more ks
  pub into : OfFirst (λ k. LeadsInto d r.later (key_path k)) r.reach ks

-- the first of these runs is that at depth d
abbrev pub RunsFit : ℕ → List Run → RelationPath → List LostKey → Type 0
RunsFit d [] p ks = Unit {0}
RunsFit d (r ∷ rs) p ks = RunFits d r p ks × RunsFit (d + 1) rs p ks

-- where the one isn't there, the other isn't
abbrev pub FallsWith : RelationPath → RelationPath → Type 0
FallsWith p q = (d : ℕ) (v : ValueTree) → is_below d v p ≡ false → is_below d v q ≡ false

pub record KeyRuns (k : LostKey) (ks : List LostKey) : Type 0 where
  pub gone : is_none (key_path k).new ≡ true
  pub size : length k.runs.items ≡ length (place_numbers (key_path k))
  pub runs : RunsFit 0 k.runs.items (key_path k) ks
  pub falls : OfFirst (λ q. FallsWith (key_path k) (key_path q)) k.absent ks

abbrev pub AreRuns : List LostKey → Type 0
AreRuns [] = Unit {0}
AreRuns (k ∷ ks) = KeyRuns k ks × AreRuns ks

-- they are the keys that have no new place
pub record AreLost (paths : List RelationPath) (ks : List LostKey) : Type 0 where
  pub gone : key_paths ks ≡ gone paths
  pub runs : AreRuns ks

-- ---- how runs are made

pub record IsFirst (s : ℕ) (r : Run) : Type 0 where
  pub slot : r.slot ≡ s
  pub more : r.more ≡ 0
  pub reach : r.reach ≡ 0
  pub later : r.later ≡ with_slot s no_marks

pub record IsJoined (s : ℕ) (behind r : Run) : Type 0 where
  pub slot : r.slot ≡ s
  pub more : (r.more ≡ 0) ⊎ ((behind.slot ≡ s) × (r.more ≤ suc behind.more))
  pub reach : r.reach ≤ suc behind.reach
  pub later : r.later ≡ with_slot s behind.later

-- the runs are those from depth d on of the key behind, if there is one
abbrev pub FitBehind : ℕ → List Run → List LostKey → Type 0
FitBehind d rs [] = rs ≡ []
FitBehind d rs (q ∷ ks) = RunsFit d rs (key_path q) ks

-- of each key that a slot leads to at a depth, behind which these runs are, the run is its own there, and the others are behind it
-- one step deeper
abbrev pub GoesOnBehind : ℕ → List Run → Run → List Run → Type 0
GoesOnBehind slot behind run later = (d : ℕ) (p : RelationPath) (ks : List LostKey) → LeadsBy d slot p → FitBehind d behind ks → RunFits d run p ks × FitBehind (d + 1) later ks

abbrev pub IsLaterPart : Option ℕ → Option ℕ → Type 0
IsLaterPart (Some a) (Some b) = a ≤ b
IsLaterPart _ _ = ⊥

-- ---- marked slots

-- no slot is in both sets
abbrev pub NoneShared : List ℕ → List ℕ → Type 0
NoneShared marks others = (s : ℕ) → IsMarked marks s → IsMarked others s → ⊥

-- the run speaks of all keys behind, so many, and none of the slots is marked
pub record IsPassed (r : Run) (behind : ℕ) (marks : List ℕ) : Type 0 where
  pub few : behind ≤ r.reach
  pub apart : NoneShared marks r.later
  pub size : length marks ≡ 126

-- ---- parts

-- so many parts of the item are present
pub record HasParts (item : ItemView) (n : ℕ) : Type 0 where
  pub each : (i : ℕ) → has_part (Some i) (item_value item) ≡ nat_lt i n

-- ---- lines

-- the lines of what a record loses of these keys below the value that they lead to
abbrev pub lines_below : LostBelow → ValueTree → List ℕ
lines_below lost v = lost_lines lost.name.block (losses_below lost.name.number lost.depth v lost.keys.now)

-- the lines of what a record with these entries loses of these keys
abbrev pub record_lines : RecordName → EntriesTree → List LostKey → List ℕ
record_lines name es keys = lost_lines name.block (record_losses name.number es (key_paths keys))
