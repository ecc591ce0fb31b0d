-- What `migrate` answers to a block, by its migrated records.
use Rattle.std.proofs.Common.{◌≡◌, ℕ, ◌<◌, ◌≤◌, List, [], ◌∷◌, Option, Some, None, length, map, refl, sym, ◌∙◌, ap, subst, arith, suc}
use Rattle.ax_relation.specs.Moved.{moved_record}
use Rattle.ax_migration.proofs.OneBlock.{migrated_is_block}
use Rattle.ax_migration.specs.Losing.{block_losses, lost_lines}
use Rattle.ax_migration.specs.Migrating.{migrated_block}
use Rattle.ax_migration.proofs.LongRecords.{one_block}
use Rattle.ax_migration.specs.Commands.{migrate_command, unless_too_long}
use Rattle.ax_format.specs.Blocks.{BlockTree, Fits, read_block, opaque_block}
use Rattle.ax_format.specs.CanonicalOctets.{canon_block, canon_length, framed}
use Rattle.ax_format.specs.Flaws.{NoFlaw}
use Rattle.ax_format.specs.Migrated.{MigratedBlock}
use Rattle.ax_format.specs.Specification.{SpecTree}
use Rattle.ax_format.specs.Split.{first_too_long, records_length, split_octets}
use Rattle.ax_format.specs.Tree.{EntriesTree}
use Rattle.ax_blocks.specs.Commands.{gives, too_long}

records_in : BlockTree → List EntriesTree
records_in (read_block category records) = records
records_in (opaque_block category content) = []

length-map : {A B : Type 0} (f : A → B) (xs : List A) → length (map f xs) ≡ length xs
length-map f [] = refl
length-map f (x ∷ xs) = ap (λ n. suc n) (length-map f xs)

module _ (old new : SpecTree) (number category : ℕ) (records made : List EntriesTree) (n : NoFlaw new) (f : Fits old (read_block category records)) (m : MigratedBlock old new (read_block category records) (read_block category made)) where
  made_is : map (moved_record old new) records ≡ made
  unfolding records_in
  made_is = sym (ap records_in (migrated_is_block old new (read_block category records) (read_block category made) n f m))

  by_made : (migrate_command old new).answer number (read_block category records) ≡ unless_too_long (first_too_long new made) (lost_lines number (block_losses old new (read_block category records))) (split_octets new made)
  by_made = ap (λ rs. unless_too_long (first_too_long new rs) (lost_lines number (block_losses old new (read_block category records))) (split_octets new rs)) made_is

  pub answers_split : first_too_long new made ≡ None → (migrate_command old new).answer number (read_block category records) ≡ gives (lost_lines number (block_losses old new (read_block category records))) (split_octets new made)
  answers_split none = by_made ∙ ap (λ o. unless_too_long o (lost_lines number (block_losses old new (read_block category records))) (split_octets new made)) none

  pub answers_long : (count : ℕ) → first_too_long new made ≡ Some count → (migrate_command old new).answer number (read_block category records) ≡ too_long count
  answers_long count some = by_made ∙ ap (λ o. unless_too_long o (lost_lines number (block_losses old new (read_block category records))) (split_octets new made)) some

-- the records' block has at most 65,535 octets
pub answers_one : (old new : SpecTree) (number category : ℕ) (records : List EntriesTree) → category ≡ new.category → 0 < length records → canon_length new (migrated_block old new (read_block category records)) ≤ 65535
    → (migrate_command old new).answer number (read_block category records) ≡ gives (lost_lines number (block_losses old new (read_block category records))) (canon_block new (migrated_block old new (read_block category records)))
answers_one old new number category records same some short =
    let made = map (moved_record old new) records in
    let lines = lost_lines number (block_losses old new (read_block category records)) in
    let one = one_block new made (omega (arith, some, length-map (moved_record old new) records)) (subst (λ c. canon_length new (read_block c made) ≤ 65535) same short) in
    (λ i. unless_too_long (one.0 i) lines (one.1 i)) ∙ ap (λ c. gives lines (canon_block new (read_block c made))) (sym same)

pub answers_short : (old new : SpecTree) (number : ℕ) (block made : BlockTree) → old.category ≡ new.category → NoFlaw new → Fits old block → MigratedBlock old new block made → canon_length new made ≤ 65535
    → (migrate_command old new).answer number block ≡ gives (lost_lines number (block_losses old new block)) (canon_block new made)
answers_short old new number (read_block category records) made same n f m le =
    let is = migrated_is_block old new (read_block category records) made n f m in
    let P : BlockTree → Type 0 = λ b. canon_length new b ≤ 65535 in
    answers_one old new number category records (f.0 ∙ same) f.1 (subst P is le) ∙ ap (λ b. gives (lost_lines number (block_losses old new (read_block category records))) (canon_block new b)) (sym is)
answers_short old new number (opaque_block category content) made same n f m le = ap (λ b. gives [] (canon_block new b)) (sym m)

pub ruleset answers = (answers_split, answers_long, answers_short)
