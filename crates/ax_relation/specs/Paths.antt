-- The relation of two editions.
use Rattle.std.specs.Prelude.{if◌then◌else◌, List, map, flat_map, Some, None}
use Rattle.ax_format.specs.Named.{Key, keys_at, key_text}
use Rattle.ax_format.specs.Placed.{Placed, place_from, named_place, placed_paths}
use Rattle.ax_format.specs.Shared.{Shared}
use Rattle.ax_format.specs.Specification.{SpecTree}
use Rattle.ax_relation.specs.declared.relation.RelationPath.{RelationPath}

-- a key of the named path p
abbrev pub related_key : SpecTree → SpecTree → Placed → Key → RelationPath
related_key old new p key = record {
  text = key_text old.category key;
  part = key.part;
  old = place_from p.numbers;
  new = if Shared old new key then named_place new key.names else None;
}

abbrev pub related_keys : SpecTree → SpecTree → Placed → List RelationPath
related_keys old new p = map (related_key old new p) (keys_at p.names (Some p.kind))

-- the old edition's keys in order, each with its text, its old place, and its new one where it is shared
abbrev pub relation_paths : SpecTree → SpecTree → List RelationPath
relation_paths old new = flat_map (related_keys old new) (placed_paths old)
