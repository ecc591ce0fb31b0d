-- What `migrate` over views does with one block.
use Rattle.std.proofs.Common.{◌≡◌, ℕ, ◌≤◌, ◌==◌, Bool, true, false, cond, List, [], ◌∷◌, ◌++◌, Option, Some, None, length, take, refl, sym, ◌∙◌, ap, subst, arith, Result, Ok, Err}
use Rattle.std.proofs.lemmas.Bool.{eqb-true}
use Rattle.std.proofs.lemmas.List.{take-append-le, take-take}
use Rattle.ax_bits.specs.Bits.{bits}
use Rattle.ax_relation.proofs.Lookups.{equal}
use Rattle.ax_migration.specs.Losing.{losses_from, lost_lines}
use Rattle.ax_migrate_views.specs.Pieces.{FindsTooLong, WritesBlocks}
use Rattle.ax_migrate_views.specs.Blocks.{old_tree, new_tree, IsOfEditions, IsMigratedBlock, LaysMigrated}
use Rattle.ax_migrate_views.specs.Losses.{TellsLosses, WritesLosses}
use Rattle.ax_migrate_views.specs.declared.migrator.Migrator.{Migrator}
use Rattle.ax_migrate_views.specs.Ranges.{made_of}
use Rattle.ax_migration.proofs.Answering.{answers_one}
use Rattle.ax_migration.specs.Commands.{migrate_command, unless_too_long}
use Rattle.ax_format.proofs.Once.{body_never_both}
use Rattle.ax_format.specs.Blocks.{BlockTree, read_block, opaque_block}
use Rattle.ax_format.specs.Bodies.{SpellsBody}
use Rattle.ax_format.specs.CanonicalOctets.{framed}
use Rattle.ax_format.specs.Ends.{RawSpells}
use Rattle.ax_format.specs.Framing.{RawTree}
use Rattle.ax_format.specs.Specification.{SpecTree, spec_of}
use Rattle.ax_format.specs.Split.{split_octets}
use Rattle.ax_format.specs.Tree.{EntriesTree}
use Rattle.ax_format.specs.declared.fault.BodyFault.{BodyFault}
use Rattle.ax_endpoints.proofs.Pieces.{change, same_text}
use Rattle.ax_endpoints.specs.Changes.{SinkChange, Wrote}
use Rattle.ax_endpoints.specs.declared.sinks.SinkFailed.{SinkFailed}
use Rattle.ax_blocks.proofs.BlockSteps.{short_fault}
use Rattle.ax_blocks.proofs.OpaqueBlocks.{raw_framed}
use Rattle.ax_blocks.proofs.Taken.{Answers, octets_written, takes_after_lines, takes_cut_line, takes_silently, takes_fault, takes_too_long}
use Rattle.ax_blocks.specs.Commands.{gives}
use Rattle.ax_blocks.specs.BlockTaking.{Takes, GivesFor, WritesOctets}
use Rattle.ax_blocks.specs.declared.work.WorkStop.{WorkStop}
use Rattle.ax_blocks.specs.declared.work.WorkStop.TheVariants.{Fault, TooLong, ReportFault}
use Rattle.ax_walk.specs.Views.{SpellsSome, FailsThere}

-- ---- the category

own_category : (old : SpecTree) (category : ℕ) → category ≡ old.category → spec_of category (old ∷ []) ≡ Some old
own_category old category same = ap (λ b. cond b (Some old) None) (equal old.category category (sym same))

other_category : (old : SpecTree) (category : ℕ) → (category ≡ old.category → ⊥) → spec_of category (old ∷ []) ≡ None
other_category old category other = by (old.category == category) refl
  where
    by : (b : Bool) → (old.category == category) ≡ b → spec_of category (old ∷ []) ≡ None
    by true e = absurd (other (sym (eqb-true old.category category e)))
    by false e = ap (λ b. cond b (Some old) None) e

-- ---- a block of the old edition

module _ (m : Migrator) (number : ℕ) (raw : RawTree) (of : IsOfEditions m) (same : raw.category ≡ (old_tree m).category) (few : length raw.body ≤ 65532) where
  block : List EntriesTree → BlockTree
  block records = read_block (old_tree m).category records

  raw_spells : (records : List EntriesTree) → SpellsBody (old_tree m) records (bits raw.body) → RawSpells (old_tree m ∷ []) raw (block records)
  unfolding block
  raw_spells records spells =
      subst (λ c. RawSpells (old_tree m ∷ []) raw (read_block c records)) same (record {
        octets = framed raw.category raw.body;
        framed = raw_framed raw.category raw.body few;
        spelled = record { spec = old_tree m; known = own_category (old_tree m) raw.category same; body = raw.body; framed = raw_framed raw.category raw.body few; spelled = spells };
      })

  lines : List EntriesTree → List ℕ
  lines records = lost_lines number (losses_from (old_tree m) (new_tree m) 0 records)

  answers : (records : List EntriesTree) (count : ℕ) (output : List ℕ) → SpellsBody (old_tree m) records (bits raw.body) → IsMigratedBlock (old_tree m) (new_tree m) records count output → count ≤ 65535
      → (migrate_command (old_tree m) (new_tree m)).answer number (block records) ≡ gives (lines records) (take count output)
  unfolding block lines
  answers records count output spells h short =
      answers_one (old_tree m) (new_tree m) number (old_tree m).category records of.related.category spells.some (subst (λ n. n ≤ 65535) h.counted short)
      ∙ ap (gives (lost_lines number (losses_from (old_tree m) (new_tree m) 0 records))) (sym (h.laid short))

  module _ (some : SpellsSome m.codec.now raw.body) where
    found : (records : List EntriesTree) × SpellsBody (old_tree m) records (bits raw.body)
    found = some.spells (old_tree m) of.compiled.clean of.compiled.stands

    pub block_taken : (count : ℕ) (output laid : List ℕ) (o : SinkChange) (h h' : Option (List ℕ)) (f f' : ℕ) (u : Unit) (result : Result Unit WorkStop) → LaysMigrated m raw.body count output → count ≤ 65535 → laid ≡ take count output → WritesLosses m raw.body number (change h h' f f') (Ok u) → WritesOctets o laid result
        → Takes (migrate_command (old_tree m) (new_tree m)) number raw o (change h h' f f') result
    unfolding lines
    block_taken count output laid o h h' f f' u result l short is w wrote =
        let records = found.0 in
        takes_after_lines (migrate_command (old_tree m) (new_tree m)) number raw o (change h h' f f') (lines records) laid u result
        (record { block = block records; spells = raw_spells records found.1; answer = answers records count output found.1 (l.block records found.1) short ∙ ap (gives (lines records)) (sym is) }) (w.lines records found.1) wrote

    pub block_cut : (count : ℕ) (output : List ℕ) (held : Option (List ℕ)) (fails : ℕ) (h h' : Option (List ℕ)) (f f' : ℕ) (e : SinkFailed) → LaysMigrated m raw.body count output → count ≤ 65535 → WritesLosses m raw.body number (change h h' f f') (Err e)
        → Takes (migrate_command (old_tree m) (new_tree m)) number raw (change held held fails fails) (change h h' f f') (Err ReportFault)
    unfolding lines
    block_cut count output held fails h h' f f' e l short w =
        let records = found.0 in
        takes_cut_line (migrate_command (old_tree m) (new_tree m)) number raw (change h h' f f') held fails (lines records) (take count output) e
        (record { block = block records; spells = raw_spells records found.1; answer = answers records count output found.1 (l.block records found.1) short }) (w.lines records found.1)

    -- ---- several blocks, or a record that is too long

    answers_some : (found_long : Option ℕ) → FindsTooLong m raw.body found_long
        → (migrate_command (old_tree m) (new_tree m)).answer number (block found.0) ≡ unless_too_long found_long (lines found.0) (split_octets (new_tree m) (made_of m found.0))
    unfolding block lines
    answers_some found_long h = ap (λ o. unless_too_long o (lost_lines number (losses_from (old_tree m) (new_tree m) 0 found.0)) (split_octets (new_tree m) (made_of m found.0))) (h.found_is found.0 found.1)

    gives_split : FindsTooLong m raw.body None → GivesFor (migrate_command (old_tree m) (new_tree m)) number raw (lines found.0) (split_octets (new_tree m) (made_of m found.0))
    gives_split h = record { block = block found.0; spells = raw_spells found.0 found.1; answer = answers_some None h }

    pub long_taken : (k k' : Option (List ℕ)) (b b' : ℕ) (h h' : Option (List ℕ)) (f f' : ℕ) (u : Unit) (w : Result Unit SinkFailed) (result : Result Unit WorkStop) → FindsTooLong m raw.body None → WritesLosses m raw.body number (change h h' f f') (Ok u)
        → Answers w result → WritesBlocks m raw.body (change k k' b b') w → Takes (migrate_command (old_tree m) (new_tree m)) number raw (change k k' b b') (change h h' f f') result
    unfolding lines
    long_taken k k' b b' h h' f f' u w result none said is wrote =
        takes_after_lines (migrate_command (old_tree m) (new_tree m)) number raw (change k k' b b') (change h h' f f') (lines found.0) (split_octets (new_tree m) (made_of m found.0)) u result
        (gives_split none) (said.lines found.0 found.1) (octets_written (change k k' b b') (split_octets (new_tree m) (made_of m found.0)) w result is (wrote.wrote found.0 found.1))

    pub long_cut : (held : Option (List ℕ)) (fails : ℕ) (h h' : Option (List ℕ)) (f f' : ℕ) (e : SinkFailed) → FindsTooLong m raw.body None → WritesLosses m raw.body number (change h h' f f') (Err e)
        → Takes (migrate_command (old_tree m) (new_tree m)) number raw (change held held fails fails) (change h h' f f') (Err ReportFault)
    unfolding lines
    long_cut held fails h h' f f' e none said =
        takes_cut_line (migrate_command (old_tree m) (new_tree m)) number raw (change h h' f f') held fails (lines found.0) (split_octets (new_tree m) (made_of m found.0)) e (gives_split none) (said.lines found.0 found.1)

    pub record_long : (held shown : Option (List ℕ)) (fails flaws count : ℕ) → FindsTooLong m raw.body (Some count)
        → Takes (migrate_command (old_tree m) (new_tree m)) number raw (change held held fails fails) (change shown shown flaws flaws) (Err (TooLong count))
    record_long held shown fails flaws count h = takes_too_long (migrate_command (old_tree m) (new_tree m)) number raw held shown fails flaws (block found.0) count (raw_spells found.0 found.1) (answers_some (Some count) h)

  pub block_fails : (held shown : Option (List ℕ)) (fails flaws : ℕ) (fault : BodyFault) → FailsThere m.codec.now raw.body fault
      → Takes (migrate_command (old_tree m) (new_tree m)) number raw (change held held fails fails) (change shown shown flaws flaws) (Err (Fault fault))
  block_fails held shown fails flaws fault there =
      let e = there.fails (old_tree m) of.compiled.clean of.compiled.stands in
      takes_fault (migrate_command (old_tree m) (new_tree m)) number raw held shown fails flaws fault (record { spec = old_tree m; known = own_category (old_tree m) raw.category same; fails = e }) (short_fault (old_tree m) raw.body fault.bit fault.cause few e)

-- ---- a block of another category

pub opaque_taken : (m : Migrator) (number : ℕ) (raw : RawTree) (o : SinkChange) (h : Option (List ℕ)) (f count : ℕ) (output laid : List ℕ) (result : Result Unit WorkStop) → (raw.category ≡ (old_tree m).category → ⊥) → length raw.body ≤ 65532 → 1 ≤ length raw.body
    → take count output ≡ framed raw.category raw.body → laid ≡ take count output → WritesOctets o laid result → Takes (migrate_command (old_tree m) (new_tree m)) number raw o (change h h f f) result
opaque_taken m number raw o h f count output laid result other few some block is w =
    takes_silently (migrate_command (old_tree m) (new_tree m)) number raw o h f laid result
    (record {
      block = opaque_block raw.category raw.body;
      spells = record {
        octets = framed raw.category raw.body;
        framed = raw_framed raw.category raw.body few;
        spelled = record { unknown = other_category (old_tree m) raw.category other; framed = raw_framed raw.category raw.body few; some = some };
      };
      answer = ap (gives []) (sym (is ∙ block));
    }) w

-- ---- the front of the output, as it stands in the vector again

pub in_place : (n len : ℕ) (output after : List ℕ) → n ≤ 65535 → length output ≡ 131067 → 131067 ≤ len → take n (take len (output ++ after)) ≡ take n output
in_place n len output after within room enough = take-take n len (output ++ after) (omega arith) ∙ take-append-le n output after (omega arith)

-- ---- the lines

pub lines_whole : (m : Migrator) (body : List ℕ) (number told : ℕ) (lines : List ℕ) (h h' : Option (List ℕ)) (f f' : ℕ) (r : Result Unit SinkFailed) → told ≤ 65535 → TellsLosses m body number told lines → Wrote (change h h' f f') r (take told lines)
    → WritesLosses m body number (change h h' f f') r
lines_whole m body number told lines h h' f f' r short t w = record {
  lines = λ records spells. same_text h h' f f' r (take told lines) (lost_lines number (losses_from (old_tree m) (new_tree m) 0 records)) (t.told records spells short) w;
}

pub lines_never : (m : Migrator) (body : List ℕ) (number : ℕ) (fault : BodyFault) (h h' : Option (List ℕ)) (f f' : ℕ) (r : Result Unit SinkFailed) → IsOfEditions m → FailsThere m.codec.now body fault → WritesLosses m body number (change h h' f f') r
lines_never m body number fault h h' f f' r of fails = record {
  lines = λ records spells. absurd (body_never_both (old_tree m) (bits body) records fault.bit fault.cause spells (fails.fails (old_tree m) of.compiled.clean of.compiled.stands));
}
