-- The lines of what a record loses, written by pieces.
use Rattle.std.proofs.Common.{◌≡◌, ℕ, ◌+◌, ◌-◌, ◌/◌, ◌<◌, ◌≤◌, cond, min, Bool, true, false, List, [], ◌∷◌, ◌++◌, length, take, drop, Option, Some, None, IfSome, IfNone, is_some, refl, sym, ◌∙◌, ap, arith, subst, append-nil, Result, Ok, Err, IsErr}
use Rattle.std.specs.List.{AllZip}
use Rattle.std.proofs.lemmas.List.Concat.{flat_map-append}
use Rattle.ax_bits.specs.Bits.{bits}
use Rattle.ax_migration.specs.Losing.{lost_line, lost_lines}
use Rattle.ax_migration.specs.Finding.{record_losses}
use Rattle.ax_migrate_views.proofs.GonePaths.{losses_gone}
use Rattle.ax_migrate_views.proofs.LossSteps.{Front}
use Rattle.ax_moves.proofs.LostRuns.{lines_split}
use Rattle.ax_moves.specs.Gone.{gone}
use Rattle.ax_moves.specs.Laying.{Gathers}
use Rattle.ax_migration.specs.declared.losses.LossEntry.{LossEntry}
use Rattle.ax_migrate_views.proofs.ToldLosses.{losses_each}
use Rattle.ax_migrate_views.specs.Blocks.{IsOfEditions, old_tree}
use Rattle.ax_migrate_views.specs.Losses.{LosesEach, shown_entries, shown_losses}
use Rattle.ax_moves.specs.Lost.{is_below, key_path, key_paths, losses_below}
use Rattle.ax_migrate_views.specs.declared.migrator.Migrator.{Migrator}
use Rattle.ax_moves.specs.declared.lost.LostKey.{LostKey}
use Rattle.ax_endpoints.proofs.Pieces.{change, same_text}
use Rattle.ax_endpoints.specs.Changes.{Wrote}
use Rattle.ax_format.specs.Bodies.{SpellsBody}
use Rattle.ax_format.specs.Specification.{SpecTree}
use Rattle.ax_format.specs.Tree.{ValueTree, EntriesTree}
use Rattle.ax_walk.specs.Views.{IsRecordOf, SpellEach}
use Rattle.ax_relation.specs.declared.relation.RelationPath.{RelationPath}
use Rattle.ax_format.specs.declared.fault.BodyFault.{BodyFault}
use Rattle.ax_fspec.specs.Reading.{FailsAt, kind_read}
use Rattle.ax_codec.specs.Table.{record_kind_at}
use Rattle.ax_codec.specs.declared.codec.Codec.{Codec}
use Rattle.ax_codec.specs.declared.node.Node.{Node}
use Rattle.ax_walk.specs.Left.{records_left}
use Rattle.ax_walk.specs.Placing.{entries_there}
use Rattle.ax_walk.specs.Values.{IsAll, IsOne, value_in, entries_in}
use Rattle.ax_walk.specs.declared.records.Records.{Records}

-- ---- keys

-- what was kept is all
pub kept_text : (text old new : List ℕ) (n : ℕ) → Gathers text 0 n old new → n ≤ 65535 → take n new ≡ text
kept_text text old new n g short = g.laid short

-- where some lines were laid, there is a key
pub keys_there : (block n d : ℕ) (v : ValueTree) (keys : List LostKey) (told : ℕ) (old new : List ℕ) → Gathers (lost_lines block (losses_below n d v keys)) 0 told old new → 0 < told → 0 < length keys
keys_there block n d v [] told old new g some = absurd (omega (arith, g.counted))
keys_there block n d v (k ∷ keys) told old new g some = omega arith

-- and if it is one alone, its line
pub one_line : (block n d : ℕ) (v : ValueTree) (keys : List LostKey) (k : LostKey) (told : ℕ) (old new : List ℕ) → length keys ≡ 1 → keys ≡ k ∷ drop 1 keys → Gathers (lost_lines block (losses_below n d v keys)) 0 told old new → 0 < told
    → lost_line block n (key_path k).text ≡ lost_lines block (losses_below n d v keys)
one_line block n d v [] k told old new one is g some = absurd (omega (arith, one))
one_line block n d v (x ∷ y ∷ keys) k told old new one is g some = absurd (omega (arith, one))
one_line block n d v (x ∷ []) k told old new one is g some = by (is_below d v (key_path x)) refl
  where
    own : x ≡ k
    own = cc

    by : (b : Bool) → is_below d v (key_path x) ≡ b → lost_line block n (key_path k).text ≡ lost_lines block (losses_below n d v (x ∷ []))
    by true e = ap (λ y. lost_line block n (key_path y).text) (sym own) ∙ sym (append-nil (lost_line block n (key_path x).text)) ∙ sym (λ i. lost_lines block (cond (e i) (record { record_at = n; path = (key_path x).text } ∷ []) [] ++ []))
    by false e = absurd (omega (arith, g.counted, ap length (λ i. lost_lines block (cond (e i) (record { record_at = n; path = (key_path x).text } ∷ []) [] ++ []))))

pub halves : (block n d : ℕ) (v : ValueTree) (m : ℕ) (keys front later : List LostKey) → front ≡ take m keys → later ≡ drop m keys
    → lost_lines block (losses_below n d v front) ++ lost_lines block (losses_below n d v later) ≡ lost_lines block (losses_below n d v keys)
halves block n d v m keys front later e f = (λ i. lost_lines block (losses_below n d v (e i)) ++ lost_lines block (losses_below n d v (f i))) ∙ sym (lines_split block n d v m keys (losses_below n d v (take m keys)) refl)

-- ---- a record by its octets

pub never_fails : (nodes : List Node) (links body : List ℕ) (fault : BodyFault) → IsOne (record_kind_at nodes links) body → FailsAt (kind_read (record_kind_at nodes links) body 0) 0 fault → ⊥
unfolding kind_read
never_fails nodes links body fault one f = subst IsAll f.failed one.all

pub entries_shown : (nodes : List Node) (links body : List ℕ) → entries_there nodes links body 0 ≡ entries_in (value_in (record_kind_at nodes links) body)
unfolding kind_read value_in
entries_shown nodes links body = refl

-- ---- records

pub shown_gone : (paths : List RelationPath) (n : ℕ) (shown : List (Codec × List ℕ)) → shown_losses (gone paths) n shown ≡ shown_losses paths n shown
shown_gone paths n [] = refl
shown_gone paths n (s ∷ shown) = λ i. losses_gone n (shown_entries s) paths i ++ shown_gone paths (n + 1) shown i

-- each is shown under the codec
abbrev pub OfCodec : Codec → List (Codec × List ℕ) → Type 0
OfCodec codec [] = Unit {0}
OfCodec codec (s ∷ shown) = (s.0 ≡ codec) × OfCodec codec shown

-- ---- what was found, or not

pub of_none : (o : Option ℕ) (P : Type 0) → IfNone o P → is_some o ≡ false → P
of_none None P h e = h
of_none (Some n) P h e = cc

pub of_some : (o : Option ℕ) (P : ℕ → Type 0) → IfSome o P → is_some o ≡ true → (n : ℕ) × P n
of_some None P h e = cc
of_some (Some n) P h e = (n, h)

-- ---- records of a view

zip_codec : (codec : Codec) (spec : SpecTree) (records : List EntriesTree) (shown : List (Codec × List ℕ)) → AllZip (IsRecordOf codec spec) records shown → OfCodec codec shown
zip_codec codec spec [] [] h = tt
zip_codec codec spec [] (s ∷ shown) h = absurd h
zip_codec codec spec (r ∷ records) [] h = absurd h
zip_codec codec spec (r ∷ records) (s ∷ shown) h = (h.0.0, zip_codec codec spec records shown h.1)

module _ (m : Migrator) (body : List ℕ) (shown : List (Codec × List ℕ)) (of : IsOfEditions m) (each : SpellEach m.codec.now body shown) where
  pub each_codec : (records : List EntriesTree) × SpellsBody (old_tree m) records (bits body) → OfCodec m.codec.now shown
  each_codec s = zip_codec m.codec.now (old_tree m) s.0 shown (each.spells (old_tree m) s.0 of.compiled.clean of.compiled.stands s.1)

  pub lost_each : LosesEach m body (shown_losses (key_paths m.lost.items) 0 shown)
  lost_each =
      subst (LosesEach m body) (sym (shown_gone m.relation.now.paths 0 shown) ∙ ap (λ ps. shown_losses ps 0 shown) (sym of.lost.gone))
      (losses_each m body m.relation.now.paths shown of refl each)

pub next_lines : (block n : ℕ) (paths : List RelationPath) (left later : List (Codec × List ℕ)) (s : Codec × List ℕ) → left ≡ s ∷ later → lost_lines block (shown_losses paths n left) ≡ lost_lines block (record_losses n (shown_entries s) paths) ++ lost_lines block (shown_losses paths (n + 1) later)
next_lines block n paths left later s e = ap (λ x. lost_lines block (shown_losses paths n x)) e ∙ flat_map-append (λ (l : LossEntry). lost_line block l.record_at l.path) (record_losses n (shown_entries s) paths) (shown_losses paths (n + 1) later)

pub front_all : (h h' : Option (List ℕ)) (f f' : ℕ) (whole rest : List ℕ) → rest ≡ [] → Front h h' f f' whole rest → Wrote (change h h' f f') (Ok tt) whole
front_all h h' f f' whole rest e w = same_text h h' f f' (Ok tt) w.front whole (sym (append-nil w.front) ∙ ap (λ x. w.front ++ x) (sym e) ∙ sym w.split) w.wrote
