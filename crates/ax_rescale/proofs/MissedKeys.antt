-- The misses that are found are the missed keys.
use Rattle.std.proofs.Common.{◌≡◌, ℕ, ◌+◌, Bool, true, false, cond, ◌&&◌, not, is_some, List, [], ◌∷◌, ◌++◌, map, filter, flat_map, Option, Some, None, option_and_then, refl, sym, ◌∙◌, ap, append_assoc, subst}
use Rattle.std.specs.List.{AllByRecursion}
use Rattle.ax_relation.proofs.Distinct.{Distinct}
use Rattle.ax_relation.proofs.PlacedPaths.{StandsNamed, all_named, kind_has_steps, placed_slot_names}
use Rattle.ax_format.specs.Bodies.{RecordShape}
use Rattle.ax_format.specs.Named.{Key, NamedEntry, part_keys, keys_at, kind_at, Named}
use Rattle.ax_format.specs.Placed.{Placed, steps_at, place_from, named_place, placed_paths}
use Rattle.ax_format.specs.Shared.{Shared}
use Rattle.ax_format.specs.Specification.{SpecTree, record_kind, record_slots}
use Rattle.ax_format.specs.Tree.{MembersTree, KindTree, fixed, extended, counted, by_fx, explicit, compound, marked, EntriesTree}
use Rattle.ax_format.specs.declared.place.Place.{Place}
use Rattle.ax_relation.proofs.PresentAt.{no_new_place, placed_present, present_at, present_named, some_step}
use Rattle.ax_relation.specs.Paths.{related_key, related_keys, relation_paths}
use Rattle.ax_relation.specs.Standing.{is_there}
use Rattle.ax_relation.specs.declared.relation.RelationPath.{RelationPath}
use Rattle.ax_rescale.proofs.BesideNames.{led, beside_named}
use Rattle.ax_rescale.proofs.ConversionNamed.{record_named}
use Rattle.ax_rescale.proofs.ConversionShape.{record_shape}
use Rattle.ax_rescale.specs.Alike.{is_alike}
use Rattle.ax_rescale.specs.Beside.{beside, alike_where, alike_place}
use Rattle.ax_rescale.specs.Conversion.{KindPair, alike_pair, convertible, converted_entry, passed, is_missed, Missed}
use Rattle.ax_rescale.specs.ConvertedRecord.{converted_record}
use Rattle.ax_rescale.specs.Misses.{miss, misses_from}
use Rattle.ax_rescale.specs.Watching.{target_where, target_of, stands, path_misses, record_misses, found_misses}
use Rattle.ax_rescale.specs.declared.miss.Miss.{Miss}

-- ---- where a key that isn't shared would stand

-- whether the target of a key is there says whether its entry passes, and that there is one whether it can be converted
record Tells (old new : SpecTree) (es : EntriesTree) (key : Key) (target : Option Place) : Type 0 where
  there : stands target (converted_record old new es) ≡ is_some (passed old new key (Named old es key))
  known : is_some target ≡ is_some (convertible old new key)

-- the names lead through numbers in the new edition, to a value exactly where the entry is
there_named : (old new : SpecTree) (es : EntriesTree) (first : List ℕ) (others : List (List ℕ)) (numbers : List ℕ) → RecordShape old es → steps_at (first ∷ others) (record_kind new) ≡ Some numbers
    → is_there (place_from numbers) None (converted_record old new es) ≡ is_some (passed old new (record { names = first ∷ others; part = None }) (Named old es (record { names = first ∷ others; part = None })))
there_named old new es first others numbers shape e =
    placed_present numbers None (converted_record old new es) (record_kind new) first others e
    ∙ sym (present_at None (first ∷ others) (record_kind new) numbers (marked (converted_record old new es)) (record_shape old new es shape).shape e)
    ∙ ap is_some (record_named old new es (record { names = first ∷ others; part = None }))

abbrev pair_where : KindTree → KindTree → Bool → Option KindPair
pair_where k l b = cond b (Some (record { old = k; new = l })) None

-- a path with a name, which stands in the old edition and isn't shared
module _ (old new : SpecTree) (es : EntriesTree) (first : List ℕ) (others : List (List ℕ)) (kind : KindTree) (shape : RecordShape old es)
    (stands_old : kind_at (first ∷ others) (record_kind old) ≡ Some kind) (unshared : Shared old new (record { names = first ∷ others; part = None }) ≡ false) where
  conv_is : (l : Option KindTree) → kind_at (first ∷ others) (record_kind new) ≡ l → convertible old new (record { names = first ∷ others; part = None }) ≡ alike_pair None (Some kind) l
  conv_is l kd = ap (λ b. cond b None (alike_pair None (kind_at (first ∷ others) (record_kind old)) (kind_at (first ∷ others) (record_kind new)))) unshared ∙ (λ i. alike_pair None (stands_old i) (kd i))

  entry_is : (entry : Option NamedEntry) (l : Option KindTree) → kind_at (first ∷ others) (record_kind new) ≡ l
      → passed old new (record { names = first ∷ others; part = None }) entry ≡ option_and_then (λ pair. option_and_then (converted_entry pair) entry) (alike_pair None (Some kind) l)
  entry_is entry l kd =
      ap (λ b. cond b entry (option_and_then (λ pair. option_and_then (converted_entry pair) entry) (convertible old new (record { names = first ∷ others; part = None })))) unshared
      ∙ ap (option_and_then (λ pair. option_and_then (converted_entry pair) entry)) (conv_is l kd)

  by_alike : (numbers : List ℕ) (l : KindTree) (b : Bool) → steps_at (first ∷ others) (record_kind new) ≡ Some numbers → kind_at (first ∷ others) (record_kind new) ≡ Some l → is_alike kind l ≡ b
      → Tells old new es (record { names = first ∷ others; part = None }) (cond b (Some (place_from numbers)) None)
  by_alike numbers l true st kd q = record {
    there = there_named old new es first others numbers shape st;
    known = sym (ap is_some (conv_is (Some l) kd) ∙ ap (λ x. is_some (pair_where kind l x)) q);
  }
  by_alike numbers l false st kd q = record {
    there =
        sym (ap is_some (entry_is (Named old es (record { names = first ∷ others; part = None })) (Some l) kd)
        ∙ ap (λ x. is_some (option_and_then (λ pair. option_and_then (converted_entry pair) (Named old es (record { names = first ∷ others; part = None }))) (pair_where kind l x))) q);
    known = sym (ap is_some (conv_is (Some l) kd) ∙ ap (λ x. is_some (pair_where kind l x)) q);
  }

  by_led : (o : Option (List ℕ)) (l : Option KindTree) → steps_at (first ∷ others) (record_kind new) ≡ o → kind_at (first ∷ others) (record_kind new) ≡ l → is_some o ≡ is_some l
      → Tells old new es (record { names = first ∷ others; part = None }) (option_and_then alike_where (led kind o l))
  by_led None None st kd e = record {
    there = sym (ap is_some (entry_is (Named old es (record { names = first ∷ others; part = None })) None kd));
    known = sym (ap is_some (conv_is None kd));
  }
  by_led None (Some l) st kd e = cc
  by_led (Some numbers) None st kd e = cc
  by_led (Some numbers) (Some l) st kd e = by_alike numbers l (is_alike kind l) st kd refl

  place_numbers : (numbers : List ℕ) → steps_at (first ∷ others) (record_kind old) ≡ Some numbers → alike_place old new (place_from numbers) ≡ option_and_then alike_where (beside numbers (record_kind old) (record_kind new))
  place_numbers (frn ∷ steps) e = refl
  place_numbers [] e = absurd (some_step first others (record_kind old) e)

  path_tells : (numbers : List ℕ) → steps_at (first ∷ others) (record_kind old) ≡ Some numbers → Tells old new es (record { names = first ∷ others; part = None }) (alike_place old new (place_from numbers))
  path_tells numbers e =
      subst (Tells old new es (record { names = first ∷ others; part = None }))
      (sym (place_numbers numbers e ∙ ap (option_and_then alike_where) (beside_named (first ∷ others) kind (record_kind old) (record_kind new) numbers e stands_old)))
      (by_led (steps_at (first ∷ others) (record_kind new)) (kind_at (first ∷ others) (record_kind new)) refl refl (kind_has_steps (first ∷ others) (record_kind new)))

-- ---- the keys of a path

module _ (old new : SpecTree) (n : ℕ) (es : EntriesTree) (shape : RecordShape old es) (p : Placed) (h : StandsNamed (record_kind old) p) where
  named_tells : (names : List (List ℕ)) → h.first ∷ h.others ≡ names → steps_at names (record_kind old) ≡ Some p.numbers → kind_at names (record_kind old) ≡ Some p.kind → Shared old new (record { names = names; part = None }) ≡ false
      → Tells old new es (record { names = names; part = None }) (alike_place old new (place_from p.numbers))
  named_tells [] is e f unshared = cc
  named_tells (first ∷ others) is e f unshared = path_tells old new es first others p.kind shape f unshared p.numbers e

  -- a part can't be converted
  part_tells : (i : ℕ) → Shared old new (record { names = p.names; part = Some i }) ≡ false → Tells old new es (record { names = p.names; part = Some i }) None
  part_tells i f =
      let entry = Named old es (record { names = p.names; part = Some i }) in
      let conv : convertible old new (record { names = p.names; part = Some i }) ≡ None = ap (λ b. cond b None (alike_pair (Some i) (kind_at p.names (record_kind old)) (kind_at p.names (record_kind new)))) f in
      record {
        there =
            sym (ap is_some (ap (λ b. cond b entry (option_and_then (λ pair. option_and_then (converted_entry pair) entry) (convertible old new (record { names = p.names; part = Some i })))) f
            ∙ ap (option_and_then (λ pair. option_and_then (converted_entry pair) entry)) conv));
        known = sym (ap is_some conv);
      }

  key_tells : (part : Option ℕ) → Shared old new (record { names = p.names; part = part }) ≡ false → Tells old new es (record { names = p.names; part = part }) (target_where None part (alike_place old new (place_from p.numbers)))
  key_tells None f = named_tells p.names (sym h.names) h.stands.steps h.stands.kind f
  key_tells (Some i) f = part_tells i f

  never : (o : Option NamedEntry) (rest : List Miss) → [] ≡ cond (is_some o && not (is_some o)) rest []
  never None rest = refl
  never (Some e) rest = refl

  shared_misses : (part : Option ℕ) → Shared old new (record { names = p.names; part = part }) ≡ true
      → path_misses n es (converted_record old new es) (related_key old new p (record { names = p.names; part = part })) (target_of old new (related_key old new p (record { names = p.names; part = part })))
      ≡ cond (is_missed old new es (record { names = p.names; part = part })) (miss old new n (record { names = p.names; part = part }) ∷ []) []
  shared_misses part t =
      let key : Key = record { names = p.names; part = part } in
      let target = target_of old new (related_key old new p key) in
      let made = converted_record old new es in
      let one : List Miss = record { record_at = n; path = (related_key old new p key).text; unconverted = is_some target } ∷ [] in
      ap (λ b. cond ((b && is_there (place_from p.numbers) part es) && not (stands target made)) one []) (no_new_place old new key ∙ ap not t)
      ∙ never (Named old es key) (miss old new n key ∷ [])
      ∙ ap (λ (o : Option NamedEntry). cond (is_some (Named old es key) && not (is_some o)) (miss old new n key ∷ []) [])
      (sym (ap (λ b. cond b (Named old es key) (option_and_then (λ pair. option_and_then (converted_entry pair) (Named old es key)) (convertible old new key))) t))

  unshared_misses : (part : Option ℕ) → Shared old new (record { names = p.names; part = part }) ≡ false
      → path_misses n es (converted_record old new es) (related_key old new p (record { names = p.names; part = part })) (target_of old new (related_key old new p (record { names = p.names; part = part })))
      ≡ cond (is_missed old new es (record { names = p.names; part = part })) (miss old new n (record { names = p.names; part = part }) ∷ []) []
  unshared_misses part f =
      let key : Key = record { names = p.names; part = part } in
      let made = converted_record old new es in
      let place = alike_place old new (place_from p.numbers) in
      let tells = key_tells part f in
      ap (λ (t : Option Place). path_misses n es made (related_key old new p key) t) (ap (λ b. target_where (cond b (named_place new p.names) None) part place) f)
      ∙ (λ i. cond (((no_new_place old new key ∙ ap not f) i && present_named old p part es shape h i) && not (tells.there i)) (record { record_at = n; path = (related_key old new p key).text; unconverted = tells.known i } ∷ []) [])

  key_misses : (part : Option ℕ)
      → path_misses n es (converted_record old new es) (related_key old new p (record { names = p.names; part = part })) (target_of old new (related_key old new p (record { names = p.names; part = part })))
      ≡ cond (is_missed old new es (record { names = p.names; part = part })) (miss old new n (record { names = p.names; part = part }) ∷ []) []
  key_misses part = by (Shared old new (record { names = p.names; part = part })) refl
    where
      by : (b : Bool) → Shared old new (record { names = p.names; part = part }) ≡ b
          → path_misses n es (converted_record old new es) (related_key old new p (record { names = p.names; part = part })) (target_of old new (related_key old new p (record { names = p.names; part = part })))
          ≡ cond (is_missed old new es (record { names = p.names; part = part })) (miss old new n (record { names = p.names; part = part }) ∷ []) []
      by true e = shared_misses part e
      by false e = unshared_misses part e

  -- one key more in front of others
  one_more : (part : Option ℕ) (found : List Miss) (rest : List Key) → found ≡ map (miss old new n) (filter (is_missed old new es) rest)
      → path_misses n es (converted_record old new es) (related_key old new p (record { names = p.names; part = part })) (target_of old new (related_key old new p (record { names = p.names; part = part }))) ++ found
      ≡ map (miss old new n) (filter (is_missed old new es) (record { names = p.names; part = part } ∷ rest))
  one_more part found rest e = (λ i. key_misses part i ++ e i) ∙ by (is_missed old new es (record { names = p.names; part = part })) (filter (is_missed old new es) rest)
    where
      by : (b : Bool) (rest : List Key) → cond b (miss old new n (record { names = p.names; part = part }) ∷ []) [] ++ map (miss old new n) rest ≡ map (miss old new n) (cond b (record { names = p.names; part = part } ∷ rest) rest)
      by true rest = refl
      by false rest = refl

  parts_found : (m : ℕ) (ps : List MembersTree) → record_misses old new n es (converted_record old new es) (map (related_key old new p) (part_keys p.names m ps)) ≡ map (miss old new n) (filter (is_missed old new es) (part_keys p.names m ps))
  parts_found m [] = refl
  parts_found m (q ∷ ps) = one_more (Some m) (record_misses old new n es (converted_record old new es) (map (related_key old new p) (part_keys p.names (m + 1) ps))) (part_keys p.names (m + 1) ps) (parts_found (m + 1) ps)

  keys_found : (k : KindTree) → record_misses old new n es (converted_record old new es) (map (related_key old new p) (keys_at p.names (Some k))) ≡ map (miss old new n) (filter (is_missed old new es) (keys_at p.names (Some k)))
  keys_found (extended last ps) = one_more None (record_misses old new n es (converted_record old new es) (map (related_key old new p) (part_keys p.names 0 ps))) (part_keys p.names 0 ps) (parts_found 0 ps)
  keys_found (fixed f) = one_more None [] [] refl
  keys_found (counted size k) = one_more None [] [] refl
  keys_found (by_fx f) = one_more None [] [] refl
  keys_found explicit = one_more None [] [] refl
  keys_found (compound ss) = one_more None [] [] refl

-- ---- all paths

misses_append : (old new : SpecTree) (n : ℕ) (es made : EntriesTree) (xs ys : List RelationPath) → record_misses old new n es made (xs ++ ys) ≡ record_misses old new n es made xs ++ record_misses old new n es made ys
misses_append old new n es made [] ys = refl
misses_append old new n es made (x ∷ xs) ys =
    ap (λ l. path_misses n es made x (target_of old new x) ++ l) (misses_append old new n es made xs ys) ∙ sym (append_assoc (path_misses n es made x (target_of old new x)) (record_misses old new n es made xs) (record_misses old new n es made ys))

filter_append : (test : Key → Bool) (f : Key → Miss) (xs ys : List Key) → map f (filter test (xs ++ ys)) ≡ map f (filter test xs) ++ map f (filter test ys)
filter_append test f [] ys = refl
filter_append test f (x ∷ xs) ys = by (test x) (filter_append test f xs ys)
  where
    by : (b : Bool) → map f (filter test (xs ++ ys)) ≡ map f (filter test xs) ++ map f (filter test ys) → map f (cond b (x ∷ filter test (xs ++ ys)) (filter test (xs ++ ys))) ≡ map f (cond b (x ∷ filter test xs) (filter test xs)) ++ map f (filter test ys)
    by true h = ap (λ l. f x ∷ l) h
    by false h = h

found_paths : (old new : SpecTree) (n : ℕ) (es : EntriesTree) (ps : List Placed) → RecordShape old es → AllByRecursion (StandsNamed (record_kind old)) ps
    → record_misses old new n es (converted_record old new es) (flat_map (related_keys old new) ps) ≡ map (miss old new n) (filter (is_missed old new es) (flat_map (λ names. keys_at names (kind_at names (record_kind old))) (map (λ p. p.names) ps)))
found_paths old new n es [] shape h = refl
found_paths old new n es (p ∷ ps) shape h =
    misses_append old new n es (converted_record old new es) (related_keys old new p) (flat_map (related_keys old new) ps)
    ∙ (λ i. (keys_found old new n es shape p h.0 p.kind ∙ ap (λ o. map (miss old new n) (filter (is_missed old new es) (keys_at p.names o))) (sym h.0.stands.kind)) i ++ found_paths old new n es ps shape h.1 i)
    ∙ sym (filter_append (is_missed old new es) (miss old new n) (keys_at p.names (kind_at p.names (record_kind old))) (flat_map (λ names. keys_at names (kind_at names (record_kind old))) (map (λ p. p.names) ps)))

found_is_missed : (old new : SpecTree) (n : ℕ) (es : EntriesTree) → Distinct (record_kind old) → RecordShape old es → record_misses old new n es (converted_record old new es) (relation_paths old new) ≡ map (miss old new n) (Missed old new es)
found_is_missed old new n es d shape =
    found_paths old new n es (placed_paths old) shape (all_named old d)
    ∙ ap (λ l. map (miss old new n) (filter (is_missed old new es) (flat_map (λ names. keys_at names (kind_at names (record_kind old))) l))) (placed_slot_names 1 (record_slots old))

pub all_found : (old new : SpecTree) (n : ℕ) (rs : List EntriesTree) → Distinct (record_kind old) → AllByRecursion (RecordShape old) rs → found_misses old new (relation_paths old new) n rs ≡ misses_from old new n rs
all_found old new n [] d shapes = refl
all_found old new n (r ∷ rs) d shapes = λ i. found_is_missed old new n r d shapes.0 i ++ all_found old new (n + 1) rs d shapes.1 i
