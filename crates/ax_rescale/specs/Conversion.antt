-- The conversion of a record to another edition, and what it misses (this project's own rule). A key that both editions share is
-- kept with its entry. A named path that isn't shared, whose two kinds are alike, is converted where its value has a converted
-- one. Every other key is missed: such a path as unconverted, any other as lost.
use Rattle.std.specs.Prelude.{◌≡◌, ℕ, Bool, ◌&&◌, not, is_some, if◌then◌else◌, List, [], ◌∷◌, filter, Option, Some, None, option_map, option_and_then}
use Rattle.ax_format.specs.Blocks.{BlockTree, read_block, opaque_block}
use Rattle.ax_format.specs.Bodies.{RecordShape}
use Rattle.ax_format.specs.Named.{Key, NamedEntry, leaf, own_entry, kind_at, Named, named_keys}
use Rattle.ax_format.specs.Shared.{Shared}
use Rattle.ax_format.specs.Specification.{SpecTree, record_kind}
use Rattle.ax_format.specs.Tree.{KindTree, EntriesTree}
use Rattle.ax_rescale.specs.Alike.{is_alike}
use Rattle.ax_rescale.specs.ConvertedValue.{converted_value}

-- ---- the kinds of a path that can be converted

pub record KindPair : Type 0 where
  pub old : KindTree
  pub new : KindTree

-- of a path itself, none of a part
abbrev pub alike_pair : Option ℕ → Option KindTree → Option KindTree → Option KindPair
alike_pair None (Some k) (Some l) = if is_alike k l then Some (record { old = k; new = l }) else None
alike_pair _ _ _ = None

-- the old edition's kind and the new one's, where the path isn't shared and they are alike
abbrev pub convertible : SpecTree → SpecTree → Key → Option KindPair
convertible old new key = if Shared old new key then None else alike_pair key.part (kind_at key.names (record_kind old)) (kind_at key.names (record_kind new))

-- ---- the converted record

-- the entry of the new kind with the converted value, if there is one
abbrev pub converted_entry : KindPair → NamedEntry → Option NamedEntry
converted_entry pair (leaf k v) = option_map (own_entry pair.new) (converted_value pair.old pair.new v)
converted_entry pair _ = None

-- what the converted record has at a key at which the old one has this
abbrev pub passed : SpecTree → SpecTree → Key → Option NamedEntry → Option NamedEntry
passed old new key entry = if Shared old new key then entry else option_and_then (λ pair. option_and_then (converted_entry pair) entry) (convertible old new key)

pub record Conversion (old new : SpecTree) (entries made : EntriesTree) : Type 0 where
  pub shape : RecordShape new made
  pub named : (key : Key) → Named new made key ≡ passed old new key (Named old entries key)

-- ---- what it misses

abbrev pub is_missed : SpecTree → SpecTree → EntriesTree → Key → Bool
is_missed old new entries key = is_some (Named old entries key) && not (is_some (passed old new key (Named old entries key)))

-- the keys that are present and don't pass, by ascending field reference number (FRN), a compound before its subitems, an
-- extended item before its parts
abbrev pub Missed : SpecTree → SpecTree → EntriesTree → List Key
Missed old new entries = filter (is_missed old new entries) (named_keys old)

-- ---- blocks

-- one converted record for each record, in order
abbrev pub EachConversion : SpecTree → SpecTree → List EntriesTree → List EntriesTree → Type 0
EachConversion old new [] [] = Unit {0}
EachConversion old new (r ∷ rs) (s ∷ ss) = Conversion old new r s × EachConversion old new rs ss
EachConversion old new _ _ = ⊥

-- of one category, record by record; an opaque block is unchanged
abbrev pub BlockConversion : SpecTree → SpecTree → BlockTree → BlockTree → Type 0
BlockConversion old new (read_block category records) (read_block other made) = (other ≡ category) × EachConversion old new records made
BlockConversion old new (opaque_block category content) made = made ≡ opaque_block category content
BlockConversion old new _ _ = ⊥
