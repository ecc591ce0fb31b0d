-- What a conversion misses, key by key of the relation.
use Rattle.std.specs.Prelude.{◌≡◌, ℕ, ◌+◌, ◌≤◌, ◌==◌, nat_eq, Bool, true, false, ◌&&◌, not, is_none, is_some, if◌then◌else◌, List, [], ◌∷◌, ◌++◌, length, take, Option, Some, None}
use Rattle.std.specs.List.{AllByRecursion, starts_with}
use Rattle.ax_format.specs.Placed.{has_part}
use Rattle.ax_format.specs.Specification.{SpecTree}
use Rattle.ax_format.specs.Tree.{ValueTree, EntriesTree}
use Rattle.ax_format.specs.declared.place.Place.{Place}
use Rattle.ax_relation.specs.Standing.{is_there}
use Rattle.ax_relation.specs.declared.relation.RelationPath.{RelationPath}
use Rattle.ax_rescale.specs.Beside.{alike_place}
use Rattle.ax_rescale.specs.ConvertedRecord.{converted_record}
use Rattle.ax_rescale.specs.declared.miss.Miss.{Miss}
use Rattle.ax_rescale.specs.declared.watches.Watch.{Watch}

-- ---- of a key

abbrev pub target_where : Option Place → Option ℕ → Option Place → Option Place
target_where None None place = place
target_where _ _ _ = None

-- where the converted value of a path that can be converted stands
abbrev pub target_of : SpecTree → SpecTree → RelationPath → Option Place
target_of old new p = target_where p.new p.part (alike_place old new p.old)

abbrev pub stands : Option Place → EntriesTree → Bool
stands None made = false
stands (Some place) made = is_there place None made

-- it is present, isn't shared, and has no converted value
abbrev pub path_missed : RelationPath → Option Place → EntriesTree → EntriesTree → Bool
path_missed p target es made = (is_none p.new && is_there p.old p.part es) && not (stands target made)

abbrev pub path_misses : ℕ → EntriesTree → EntriesTree → RelationPath → Option Place → List Miss
path_misses n es made p target = if path_missed p target es made then record { record_at = n; path = p.text; unconverted = is_some target } ∷ [] else []

-- ---- of keys in order

abbrev pub record_misses : SpecTree → SpecTree → ℕ → EntriesTree → EntriesTree → List RelationPath → List Miss
record_misses old new n es made [] = []
record_misses old new n es made (p ∷ ps) = path_misses n es made p (target_of old new p) ++ record_misses old new n es made ps

-- the first of these records has the number n
abbrev pub found_misses : SpecTree → SpecTree → List RelationPath → ℕ → List EntriesTree → List Miss
found_misses old new paths n [] = []
found_misses old new paths n (r ∷ rs) = record_misses old new n r (converted_record old new r) paths ++ found_misses old new paths (n + 1) rs

-- ---- as they are watched

-- the first place's numbers begin those of the second
abbrev pub begins : Place → Place → Bool
begins front place = front.frn == place.frn && starts_with nat_eq place.steps front.steps

-- each of the next keys, which are skipped where nothing stands at this one's place, has a place that begins with it
pub record IsWatched (old new : SpecTree) (w : Watch) (p : RelationPath) (later : List RelationPath) : Type 0 where
  pub path : w.path.now ≡ p
  pub target : w.target ≡ target_of old new p
  pub few : w.skip ≤ length later
  pub below : AllByRecursion (λ (q : RelationPath). begins p.old q.old ≡ true) (take w.skip later)

-- of the first ones of these keys
abbrev pub AreWatched : SpecTree → SpecTree → List Watch → List RelationPath → Type 0
AreWatched old new [] ps = Unit {0}
AreWatched old new (w ∷ ws) [] = ⊥
AreWatched old new (w ∷ ws) (p ∷ ps) = IsWatched old new w p ps × AreWatched old new ws ps

-- its key, at whose place this value stands, is present and missed
abbrev pub watch_missed : Watch → ValueTree → EntriesTree → Bool
watch_missed w v made = (is_none w.path.now.new && has_part w.path.now.part v) && not (stands w.target made)

-- the miss of its key in the record of that number
abbrev pub watch_miss : ℕ → Watch → Miss
watch_miss n w = record { record_at = n; path = w.path.now.text; unconverted = is_some w.target }
