-- Each record has exactly one migrated record.
use Rattle.std.proofs.Common.{◌≡◌, ℕ, List, [], ◌∷◌, Option, Some, None, refl, sym, ◌∙◌}
use Rattle.ax_relation.proofs.DistinctNames.{record_distinct}
use Rattle.ax_relation.proofs.Losses.{kept_or_lost}
use Rattle.ax_relation.proofs.MovedNamed.{moved_named}
use Rattle.ax_relation.proofs.MovedShape.{entries_moved}
use Rattle.ax_relation.proofs.NamedOnce.{named_once}
use Rattle.ax_relation.specs.Fates.{KeptOrLost}
use Rattle.ax_relation.specs.Moved.{moved_record}
use Rattle.ax_format.specs.Bodies.{RecordShape}
use Rattle.ax_format.specs.Flaws.{NoFlaw}
use Rattle.ax_format.specs.Migrated.{Migrated, kept_where}
use Rattle.ax_format.specs.Named.{Key, NamedEntry, entry_at, entry_named, Named}
use Rattle.ax_format.specs.Shared.{shared_names, Shared}
use Rattle.ax_format.specs.Specification.{SpecTree, record_slots, record_kind}
use Rattle.ax_format.specs.Tree.{marked, EntriesTree}

pub moved_migrated : (old new : SpecTree) (es : EntriesTree) → RecordShape old es → Migrated old new es (moved_record old new es)
moved_migrated old new es h = record { shape = record { shape = entries_moved 1 (record_slots new) (record_slots old) es h.shape }; named = named }
  where
    at : (part : Option ℕ) (names : List (List ℕ)) → entry_named new (moved_record old new es) part names ≡ kept_where (shared_names old new part names) (entry_named old es part names)
    at part [] = refl
    at part (name ∷ names) = moved_named part (name ∷ names) (record_kind old) (record_kind new) (marked es) refl

    named : (key : Key) → Named new (moved_record old new es) key ≡ kept_where (Shared old new key) (Named old es key)
    named key = at key.part key.names

entries_of_marked : (es fs : EntriesTree) → marked es ≡ marked fs → es ≡ fs
entries_of_marked es fs e = cc

-- a record is determined by its entries
pub named_record_once : (spec : SpecTree) (es fs : EntriesTree) → NoFlaw spec → RecordShape spec es → RecordShape spec fs → ((key : Key) → Named spec es key ≡ Named spec fs key) → es ≡ fs
named_record_once spec es fs no_flaw p q h = entries_of_marked es fs (named_once (record_kind spec) (marked es) (marked fs) (record_distinct spec no_flaw) p.shape q.shape same)
  where
    same : (part : Option ℕ) (names : List (List ℕ)) → entry_at part names (record_kind spec) (marked es) ≡ entry_at part names (record_kind spec) (marked fs)
    same None [] = refl
    same (Some i) [] = refl
    same part (name ∷ names) = h (record { names = name ∷ names; part = part })

pub migrated_once : (old new : SpecTree) (es made other : EntriesTree) → NoFlaw new → Migrated old new es made → Migrated old new es other → made ≡ other
migrated_once old new es made other no_flaw m n = named_record_once new made other no_flaw m.shape n.shape (λ key. m.named key ∙ sym (n.named key))

pub each_kept_or_lost : (old new : SpecTree) (es made : EntriesTree) (key : Key) (entry : NamedEntry) → NoFlaw old → Migrated old new es made → Named old es key ≡ Some entry
    → KeptOrLost old new es made key entry
each_kept_or_lost old new es made key entry no_flaw m e = kept_or_lost old new es made key entry (record_distinct old no_flaw) m e
