-- The losses that are found are the lost keys.
use Rattle.std.proofs.Common.{◌≡◌, ℕ, ◌+◌, Bool, option_and_then, true, false, cond, ◌&&◌, not, is_some, is_none, List, [], ◌∷◌, ◌++◌, map, filter, flat_map, Option, Some, None, option_map, refl, sym, ◌∙◌, ap, append_assoc}
use Rattle.std.specs.List.{AllByRecursion}
use Rattle.ax_relation.specs.Paths.{related_key, related_keys, relation_paths}
use Rattle.ax_relation.specs.declared.relation.RelationPath.{RelationPath}
use Rattle.ax_relation.proofs.Distinct.{Distinct}
use Rattle.ax_relation.proofs.MovedShape.{slot_shape}
use Rattle.ax_relation.proofs.PresentPaths.{own_there}
use Rattle.ax_relation.proofs.PlacedPaths.{StandsNamed, all_named, placed_slot_names}
use Rattle.ax_migration.specs.Finding.{path_loss, record_losses, found_losses}
use Rattle.ax_relation.proofs.PresentAt.{present_named, no_new_place}
use Rattle.ax_relation.specs.Standing.{is_there}
use Rattle.ax_migration.specs.Losing.{loss, losses_from}
use Rattle.ax_migration.specs.declared.losses.LossEntry.{LossEntry}
use Rattle.ax_format.specs.At.{slot_value}
use Rattle.ax_format.specs.Migrated.{is_lost, Lost}
use Rattle.ax_format.specs.Named.{Key, part_keys, keys_at, kind_at, entry_at, Named}
use Rattle.ax_format.specs.Bodies.{RecordShape}
use Rattle.ax_format.specs.Naming.{slot_named}
use Rattle.ax_format.specs.Shape.{Shape, EntriesShape}
use Rattle.ax_format.specs.Placed.{Placed, steps_at, place_from, named_place, placed_paths, has_part_where}
use Rattle.ax_format.specs.Shared.{are_shared, shared_names, Shared}
use Rattle.ax_format.specs.Specification.{SpecTree, record_kind, record_slots}
use Rattle.ax_format.specs.Tree.{MembersTree, KindTree, fixed, extended, counted, by_fx, explicit, compound, SlotsTree, ValueTree, marked, EntriesTree}

swapped : (a b : Bool) → (a && b) ≡ (b && a)
swapped true true = refl
swapped true false = refl
swapped false true = refl
swapped false false = refl

-- ---- the keys of a path

module _ (old new : SpecTree) (n : ℕ) (es : EntriesTree) (shape : RecordShape old es) (p : Placed) (h : StandsNamed (record_kind old) p) where
  key_loss : (part : Option ℕ) → path_loss n es (related_key old new p (record { names = p.names; part = part })) ≡ cond (is_lost old new es (record { names = p.names; part = part })) (loss old.category n (record { names = p.names; part = part }) ∷ []) []
  key_loss part =
      ap (λ b. cond b (loss old.category n (record { names = p.names; part = part }) ∷ []) [])
      ((λ i. no_new_place old new (record { names = p.names; part = part }) i && present_named old p part es shape h i)
      ∙ swapped (not (Shared old new (record { names = p.names; part = part }))) (is_some (Named old es (record { names = p.names; part = part }))))

  -- one key more in front of others
  one_more : (part : Option ℕ) (found : List LossEntry) (rest : List Key) → found ≡ map (loss old.category n) (filter (is_lost old new es) rest)
      → path_loss n es (related_key old new p (record { names = p.names; part = part })) ++ found ≡ map (loss old.category n) (filter (is_lost old new es) (record { names = p.names; part = part } ∷ rest))
  one_more part found rest e = (λ i. key_loss part i ++ e i) ∙ by (is_lost old new es (record { names = p.names; part = part })) (filter (is_lost old new es) rest)
    where
      by : (b : Bool) (rest : List Key) → cond b (loss old.category n (record { names = p.names; part = part }) ∷ []) [] ++ map (loss old.category n) rest ≡ map (loss old.category n) (cond b (record { names = p.names; part = part } ∷ rest) rest)
      by true rest = refl
      by false rest = refl

  parts_found : (m : ℕ) (ps : List MembersTree) → record_losses n es (map (related_key old new p) (part_keys p.names m ps)) ≡ map (loss old.category n) (filter (is_lost old new es) (part_keys p.names m ps))
  parts_found m [] = refl
  parts_found m (q ∷ ps) = one_more (Some m) (record_losses n es (map (related_key old new p) (part_keys p.names (m + 1) ps))) (part_keys p.names (m + 1) ps) (parts_found (m + 1) ps)

  keys_found : (k : KindTree) → record_losses n es (map (related_key old new p) (keys_at p.names (Some k))) ≡ map (loss old.category n) (filter (is_lost old new es) (keys_at p.names (Some k)))
  keys_found (extended last ps) = one_more None (record_losses n es (map (related_key old new p) (part_keys p.names 0 ps))) (part_keys p.names 0 ps) (parts_found 0 ps)
  keys_found (fixed f) = one_more None [] [] refl
  keys_found (counted size k) = one_more None [] [] refl
  keys_found (by_fx f) = one_more None [] [] refl
  keys_found explicit = one_more None [] [] refl
  keys_found (compound ss) = one_more None [] [] refl

-- ---- all paths

losses_append : (n : ℕ) (es : EntriesTree) (xs ys : List RelationPath) → record_losses n es (xs ++ ys) ≡ record_losses n es xs ++ record_losses n es ys
losses_append n es [] ys = refl
losses_append n es (x ∷ xs) ys = ap (λ l. path_loss n es x ++ l) (losses_append n es xs ys) ∙ sym (append_assoc (path_loss n es x) (record_losses n es xs) (record_losses n es ys))

filter_append : (test : Key → Bool) (f : Key → LossEntry) (xs ys : List Key) → map f (filter test (xs ++ ys)) ≡ map f (filter test xs) ++ map f (filter test ys)
filter_append test f [] ys = refl
filter_append test f (x ∷ xs) ys = by (test x) (filter_append test f xs ys)
  where
    by : (b : Bool) → map f (filter test (xs ++ ys)) ≡ map f (filter test xs) ++ map f (filter test ys) → map f (cond b (x ∷ filter test (xs ++ ys)) (filter test (xs ++ ys))) ≡ map f (cond b (x ∷ filter test xs) (filter test xs)) ++ map f (filter test ys)
    by true h = ap (λ l. f x ∷ l) h
    by false h = h

found_paths : (old new : SpecTree) (n : ℕ) (es : EntriesTree) (ps : List Placed) → RecordShape old es → AllByRecursion (StandsNamed (record_kind old)) ps
    → record_losses n es (flat_map (related_keys old new) ps) ≡ map (loss old.category n) (filter (is_lost old new es) (flat_map (λ names. keys_at names (kind_at names (record_kind old))) (map (λ p. p.names) ps)))
found_paths old new n es [] shape h = refl
found_paths old new n es (p ∷ ps) shape h =
    losses_append n es (related_keys old new p) (flat_map (related_keys old new) ps)
    ∙ (λ i. (keys_found old new n es shape p h.0 p.kind ∙ ap (λ o. map (loss old.category n) (filter (is_lost old new es) (keys_at p.names o))) (sym h.0.stands.kind)) i ++ found_paths old new n es ps shape h.1 i)
    ∙ sym (filter_append (is_lost old new es) (loss old.category n) (keys_at p.names (kind_at p.names (record_kind old))) (flat_map (λ names. keys_at names (kind_at names (record_kind old))) (map (λ p. p.names) ps)))

pub found_is_lost : (old new : SpecTree) (n : ℕ) (es : EntriesTree) → Distinct (record_kind old) → RecordShape old es → record_losses n es (relation_paths old new) ≡ map (loss old.category n) (Lost old new es)
found_is_lost old new n es d shape =
    found_paths old new n es (placed_paths old) shape (all_named old d)
    ∙ ap (λ l. map (loss old.category n) (filter (is_lost old new es) (flat_map (λ names. keys_at names (kind_at names (record_kind old))) l))) (placed_slot_names 1 (record_slots old))

pub all_found : (old new : SpecTree) (n : ℕ) (rs : List EntriesTree) → Distinct (record_kind old) → AllByRecursion (RecordShape old) rs → found_losses (relation_paths old new) n rs ≡ losses_from old new n rs
all_found old new n [] d shapes = refl
all_found old new n (r ∷ rs) d shapes = λ i. found_is_lost old new n r d shapes.0 i ++ all_found old new (n + 1) rs d shapes.1 i
