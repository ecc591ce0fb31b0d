-- What becomes of a key that is present in a record, and where a record's misses stand among those of its block.
use Rattle.std.specs.Prelude.{◌≡◌, ℕ, ◌<◌, true, false, List, ◌++◌, Some, None}
use Rattle.std.specs.List.{AllByRecursion}
use Rattle.ax_format.specs.Named.{Key, NamedEntry, own_entry, kind_at, Named}
use Rattle.ax_format.specs.Shared.{is_shared_at}
use Rattle.ax_format.specs.Specification.{SpecTree, record_kind}
use Rattle.ax_format.specs.Tree.{EntriesTree, KindTree, ValueTree}
use Rattle.ax_relation.specs.Fates.{times}
use Rattle.ax_rescale.specs.Alike.{Alike}
use Rattle.ax_rescale.specs.Conversion.{Missed}
use Rattle.ax_rescale.specs.Converted.{Converted}
use Rattle.ax_rescale.specs.declared.miss.Miss.{Miss}

-- ---- keys

-- the kinds that stand at the key's path in the two editions
pub record StandAt (old new : SpecTree) (key : Key) (k l : KindTree) : Type 0 where
  pub in_old : kind_at key.names (record_kind old) ≡ Some k
  pub in_new : kind_at key.names (record_kind new) ≡ Some l

-- they are alike, and the key is of the path itself; but they aren't shared
pub record CanConvert (old new : SpecTree) (key : Key) (k l : KindTree) : Type 0 where
  pub stand : StandAt old new key k l
  pub unshared : is_shared_at key.part k l ≡ false
  pub whole : key.part ≡ None
  pub alike : Alike k l

-- the kinds at its path are shared, and its entry is the same in the converted record
pub record IsKept (old new : SpecTree) (entries made : EntriesTree) (key : Key) (entry : NamedEntry) : Type 0 where
  pub from : KindTree
  pub to : KindTree
  pub stand : StandAt old new key from to
  pub shared : is_shared_at key.part from to ≡ true
  pub same : Named new made key ≡ Some entry
  pub not_missed : times key (Missed old new entries) ≡ 0

-- its entry is of the old kind, and the one in the converted record of the new kind, with the converted value
pub record IsConverted (old new : SpecTree) (entries made : EntriesTree) (key : Key) (entry : NamedEntry) : Type 0 where
  pub from : KindTree
  pub to : KindTree
  pub can : CanConvert old new key from to
  pub value : ValueTree
  pub was : entry ≡ own_entry from value
  pub converted : ValueTree
  pub by : Converted from to value converted
  pub is : Named new made key ≡ Some (own_entry to converted)
  pub not_missed : times key (Missed old new entries) ≡ 0

-- it could be converted, but its value has no converted one: it is missed once
pub record IsUnconverted (old new : SpecTree) (entries made : EntriesTree) (key : Key) (entry : NamedEntry) : Type 0 where
  pub from : KindTree
  pub to : KindTree
  pub can : CanConvert old new key from to
  pub value : ValueTree
  pub was : entry ≡ own_entry from value
  pub none : (converted : ValueTree) → Converted from to value converted → ⊥
  pub gone : Named new made key ≡ None
  pub missed : times key (Missed old new entries) ≡ 1

-- the kinds at its path, if there are two, aren't shared, and it couldn't be converted: it is missed once
pub record IsLost (old new : SpecTree) (entries made : EntriesTree) (key : Key) : Type 0 where
  pub unshared : (from to : KindTree) → StandAt old new key from to → is_shared_at key.part from to ≡ false
  pub never : (from to : KindTree) → CanConvert old new key from to → ⊥
  pub gone : Named new made key ≡ None
  pub missed : times key (Missed old new entries) ≡ 1

pub data Fate : Type 0 where
  kept : Fate
  converted : Fate
  unconverted : Fate
  lost : Fate

abbrev pub HasFate : SpecTree → SpecTree → EntriesTree → EntriesTree → Key → NamedEntry → Fate → Type 0
HasFate old new entries made key entry kept = IsKept old new entries made key entry
HasFate old new entries made key entry converted = IsConverted old new entries made key entry
HasFate old new entries made key entry unconverted = IsUnconverted old new entries made key entry
HasFate old new entries made key entry lost = IsLost old new entries made key

-- ---- blocks

-- among all misses these stand together, after those of records before this number and before those of records after it
pub record StandTogether (number : ℕ) (misses all : List Miss) : Type 0 where
  pub earlier : List Miss
  pub later : List Miss
  pub split : all ≡ earlier ++ (misses ++ later)
  pub before : AllByRecursion (λ (m : Miss). m.record_at < number) earlier
  pub after : AllByRecursion (λ (m : Miss). number < m.record_at) later
