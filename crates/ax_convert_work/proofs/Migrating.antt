-- `convert` does with a block in which nothing may be converted what `migrate` does.
use Rattle.std.proofs.Common.{◌≡◌, ℕ, ◌+◌, ◌*◌, ◌<◌, ◌≤◌, ◌==◌, Bool, true, false, cond, ◌&&◌, not, is_some, List, [], ◌∷◌, ◌++◌, length, map, filter, Option, Some, None, refl, sym, ◌∙◌, ap, subst, arith, length-append, Result, Ok, Err}
use Rattle.std.proofs.lemmas.Grind.{flat_map-append}
use Rattle.ax_bits.proofs.Words.{length-bits}
use Rattle.ax_bits.specs.Bits.{bits}
use Rattle.ax_convert_work.specs.ConvertCommand as Convert
use Rattle.ax_convert_work.specs.ConvertCommand.{convert_command, told_answer, told_octets}
use Rattle.ax_convert_work.specs.Standing.{MayConvert, TellsMayConvert}
use Rattle.ax_relation.proofs.Once.{moved_migrated}
use Rattle.ax_relation.proofs.SmallBlocks.{migrated_is_small}
use Rattle.ax_relation.specs.Moved.{moved_record}
use Rattle.ax_migration.specs.Losing.{loss, losses_from, lost_line, lost_lines}
use Rattle.ax_migrate_views.specs.Blocks.{old_tree, new_tree}
use Rattle.ax_migrate_views.specs.declared.migrator.Migrator.{Migrator}
use Rattle.ax_migration.specs.Commands as Migrate
use Rattle.ax_migration.specs.Commands.{migrate_command}
use Rattle.ax_format.proofs.CanonFramed.{length-framed}
use Rattle.ax_format.proofs.RecordLaws.{record_shape, record_canon_shortest}
use Rattle.ax_format.specs.Blocks.{BlockTree, read_block, opaque_block}
use Rattle.ax_format.specs.Bodies.{CanonBody, CanonRecord, RecordsSpell, SpellsRecord}
use Rattle.ax_format.specs.CanonicalOctets.{canon_length, octets_of}
use Rattle.ax_format.specs.Ends.{RawSpells}
use Rattle.ax_format.specs.Flaws.{NoFlaw}
use Rattle.ax_format.specs.Framing.{RawTree}
use Rattle.ax_format.specs.Migrated.{is_lost, Lost}
use Rattle.ax_format.specs.Named.{Key, key_text, Named, NamedEntry, named_keys}
use Rattle.ax_format.specs.Shared.{Shared}
use Rattle.ax_format.specs.Specification.{SpecTree}
use Rattle.ax_format.specs.Split.{first_too_long, fits_within, records_length, split_octets}
use Rattle.ax_format.specs.Tree.{EntriesTree}
use Rattle.ax_endpoints.specs.Changes.{SinkChange}
use Rattle.ax_report.specs.Lines.{entry_line}
use Rattle.ax_rescale.proofs.NothingConverted.{not_convertible, record_moves, missed_are_lost}
use Rattle.ax_rescale.proofs.ScaledKinds.{neither}
use Rattle.ax_rescale.specs.ConvertedRecord.{converted_record}
use Rattle.ax_rescale.specs.Converts.{converting_slots, some_stands, stands_in}
use Rattle.ax_rescale.specs.Missed.{missed_line, missed_word}
use Rattle.ax_rescale.specs.Misses.{miss, misses_from, missed_lines}
use Rattle.ax_blocks.specs.Commands.{BlockCommand, too_long}
use Rattle.ax_blocks.specs.BlockTaking.{Takes, Means, GivesFor}
use Rattle.ax_blocks.specs.declared.work.WorkStop.{WorkStop}
use Rattle.ax_blocks.specs.declared.work.WorkStop.TheVariants.{Fault, TooLong, WriteFault, ReportFault, OutOfMemory}

-- ---- the answer

module _ (old new : SpecTree) where
  abbrev Still : EntriesTree → Type 0
  Still r = stands_in (converting_slots old new) r ≡ false

  key_line : (number n : ℕ) (r : EntriesTree) (key : Key) → Still r → is_lost old new r key ≡ true → missed_line number (miss old new n key) ≡ lost_line number n (key_text old.category key)
  key_line number n r key still e = by (Named old r key) refl e
    where
      by : (entry : Option NamedEntry) → Named old r key ≡ entry → (is_some entry && not (Shared old new key)) ≡ true → missed_line number (miss old new n key) ≡ lost_line number n (key_text old.category key)
      by None named f = cc
      by (Some entry) named f = ap (λ c. entry_line (missed_word (is_some c)) number n (key_text old.category key)) (not_convertible old new r still key entry named)

  key_lines : (number n : ℕ) (r : EntriesTree) (keys : List Key) → Still r → missed_lines number (map (miss old new n) (filter (is_lost old new r) keys)) ≡ lost_lines number (map (loss old.category n) (filter (is_lost old new r) keys))
  key_lines number n r [] still = refl
  key_lines number n r (key ∷ keys) still = by (is_lost old new r key) refl (key_lines number n r keys still)
    where
      by : (b : Bool) → is_lost old new r key ≡ b → missed_lines number (map (miss old new n) (filter (is_lost old new r) keys)) ≡ lost_lines number (map (loss old.category n) (filter (is_lost old new r) keys))
          → missed_lines number (map (miss old new n) (cond b (key ∷ filter (is_lost old new r) keys) (filter (is_lost old new r) keys))) ≡ lost_lines number (map (loss old.category n) (cond b (key ∷ filter (is_lost old new r) keys) (filter (is_lost old new r) keys)))
      by true e later = λ i. key_line number n r key still e i ++ later i
      by false e later = later

  -- none of the records has something from which something is converted
  each_still : (r : EntriesTree) (rs : List EntriesTree) → some_stands (converting_slots old new) (r ∷ rs) ≡ false → Still r × (some_stands (converting_slots old new) rs ≡ false)
  each_still r rs h = neither (stands_in (converting_slots old new) r) (some_stands (converting_slots old new) rs) h

  records_move : (rs : List EntriesTree) → some_stands (converting_slots old new) rs ≡ false → map (converted_record old new) rs ≡ map (moved_record old new) rs
  records_move [] h = refl
  records_move (r ∷ rs) h = let both = each_still r rs h in (λ i. record_moves old new r both.0 i ∷ records_move rs both.1 i)

  lines_lost : (number n : ℕ) (rs : List EntriesTree) → some_stands (converting_slots old new) rs ≡ false → missed_lines number (misses_from old new n rs) ≡ lost_lines number (losses_from old new n rs)
  lines_lost number n [] h = refl
  lines_lost number n (r ∷ rs) h =
      let both = each_still r rs h in
      ap (λ keys. missed_lines number (map (miss old new n) keys ++ misses_from old new (n + 1) rs)) (missed_are_lost old new r both.0)
      ∙ flat_map-append (missed_line number) (map (miss old new n) (Lost old new r)) (misses_from old new (n + 1) rs)
      ∙ (λ i. key_lines number n r (named_keys old) both.0 i ++ lines_lost number (n + 1) rs both.1 i)
      ∙ sym (flat_map-append (λ l. lost_line number l.record_at l.path) (map (loss old.category n) (Lost old new r)) (losses_from old new (n + 1) rs))

  told_unless : (found : Option ℕ) (lines octets : List ℕ) → Convert.unless_too_long found lines octets ≡ told_answer (Migrate.unless_too_long found lines octets)
  told_unless None lines octets = refl
  told_unless (Some count) lines octets = refl

  pub answers_told : (number : ℕ) (block : BlockTree) → MayConvert old new block ≡ false → (convert_command old new).answer number block ≡ told_answer ((migrate_command old new).answer number block)
  answers_told number (read_block category records) h =
      (λ i. Convert.unless_too_long (first_too_long new (records_move records h i)) (lines_lost number 0 records h i) (split_octets new (records_move records h i)))
      ∙ told_unless (first_too_long new (map (moved_record old new) records)) (lost_lines number (losses_from old new 0 records)) (split_octets new (map (moved_record old new) records))
  answers_told number (opaque_block category content) h = refl

-- ---- the octets of a record that is too long

octets_within : (b : List ℕ) → 8 * length (octets_of b) ≤ length b
octets_within (a ∷ b ∷ c ∷ d ∷ e ∷ f ∷ g ∷ h ∷ more) = let t = octets_within more in omega (arith, t)
octets_within _ = omega arith

module _ (old new : SpecTree) (clean : NoFlaw old) (new_clean : NoFlaw new) where
  record_small : (r : EntriesTree) (x : List ℕ) → SpellsRecord old r x → length x ≤ 524256 → records_length new (moved_record old new r ∷ []) < 4294967296
  record_small r x h few =
      let shape = record_shape old r x h in
      let short : canon_length old (read_block old.category (r ∷ [])) ≤ 65535 =
      omega (arith, few, record_canon_shortest old r x h, octets_within (CanonBody old (r ∷ [])), length-append (CanonRecord old r) [], length-framed old.category (octets_of (CanonBody old (r ∷ [])))) in
      let small = migrated_is_small old new (read_block old.category (r ∷ [])) (read_block old.category (moved_record old new r ∷ [])) clean new_clean (refl, omega arith, (shape, tt)) (refl, (moved_migrated old new r shape, tt)) short in
      omega (arith, small, length-framed old.category (octets_of (CanonBody new (moved_record old new r ∷ []))), length-framed new.category (octets_of (CanonBody new (moved_record old new r ∷ []))))

  count_small : (rs : List EntriesTree) (b : List ℕ) (count : ℕ) → RecordsSpell old rs b → length b ≤ 524256 → first_too_long new (map (moved_record old new) rs) ≡ Some count → count < 4294967296
  count_small [] b count h few e = cc
  count_small (r ∷ rs) b count (x, y, joined, h, later) few e =
      let long : length b ≡ length x + length y = ap (λ (l : List ℕ). length l) joined ∙ length-append x y in
      by (fits_within 65535 new (moved_record old new r ∷ [])) e (record_small r x h (omega (arith, long, few))) (λ f. count_small rs y count later (omega (arith, long, few)) f)
    where
      by : (fits : Bool) → cond fits (first_too_long new (map (moved_record old new) rs)) (Some (records_length new (moved_record old new r ∷ []))) ≡ Some count → records_length new (moved_record old new r ∷ []) < 4294967296
          → (first_too_long new (map (moved_record old new) rs) ≡ Some count → count < 4294967296) → count < 4294967296
      by true f small below = below f
      by false f small below = let same : records_length new (moved_record old new r ∷ []) ≡ count = cc in subst (λ n. n < 4294967296) same small

  -- the one specification that is known is the old edition
  spec_is : (category : ℕ) (spec : SpecTree) (b : Bool) → cond b (Some old) None ≡ Some spec → old ≡ spec
  spec_is category spec true e = cc
  spec_is category spec false e = cc

  short_body : (category high low : ℕ) (octets body : List ℕ) → octets ≡ category ∷ high ∷ low ∷ body → length octets ≤ 65535 → length (bits body) ≤ 524256
  short_body category high low octets body e few = let n : length octets ≡ length (category ∷ high ∷ low ∷ body) = ap (λ (l : List ℕ). length l) e in omega (arith, n, few, length-bits body)

  spelled_small : (raw : RawTree) (category : ℕ) (records : List EntriesTree) (count : ℕ) → RawSpells (old ∷ []) raw (read_block category records) → first_too_long new (map (moved_record old new) records) ≡ Some count → count < 4294967296
  spelled_small raw category records count h e =
      let few : length h.octets ≤ 65535 = omega (arith, h.framed.counted, h.framed.high_octet, h.framed.low_octet) in
      let s = h.spelled in
      let is = spec_is category s.spec (old.category == category) s.known in
      count_small records (bits s.body) count (subst (λ (spec : SpecTree). RecordsSpell spec records (bits s.body)) (sym is) s.spelled.spelled)
      (short_body category s.framed.high s.framed.low h.octets s.body s.framed.layout few) e

  told_same : (found : Option ℕ) (lines octets : List ℕ) → ((count : ℕ) → found ≡ Some count → count < 4294967296) → told_answer (Migrate.unless_too_long found lines octets) ≡ Migrate.unless_too_long found lines octets
  told_same None lines octets h = refl
  told_same (Some count) lines octets h = let small = h count refl in
      let held : told_octets count ≡ count = omega (arith, small) in ap too_long held

  answer_same : (number : ℕ) (raw : RawTree) (block : BlockTree) → RawSpells (old ∷ []) raw block → told_answer ((migrate_command old new).answer number block) ≡ (migrate_command old new).answer number block
  answer_same number raw (read_block category records) h = told_same (first_too_long new (map (moved_record old new) records)) (lost_lines number (losses_from old new 0 records)) (split_octets new (map (moved_record old new) records)) (λ count e. spelled_small raw category records count h e)
  answer_same number raw (opaque_block category content) h = refl

  pub answers_spelled : (number : ℕ) (raw : RawTree) (block : BlockTree) → MayConvert old new block ≡ false → RawSpells (old ∷ []) raw block → (convert_command old new).answer number block ≡ (migrate_command old new).answer number block
  answers_spelled number raw block none h = answers_told old new number block none ∙ answer_same number raw block h

-- no slot, and no value in one
pub each_block : (old new : SpecTree) (block : BlockTree) → converting_slots old new ≡ [] → MayConvert old new block ≡ false
each_block old new (read_block category records) e = ap (λ ss. some_stands ss records) e ∙ by records
  where
    by : (rs : List EntriesTree) → some_stands [] rs ≡ false
    by [] = refl
    by (r ∷ rs) = by rs
each_block old new (opaque_block category content) e = refl

-- ---- what is done with a block

module _ (old new : SpecTree) (raw : RawTree) (tells : TellsMayConvert old new raw false) where
  module _ (clean : NoFlaw old) (new_clean : NoFlaw new) (number : ℕ) (o r : SinkChange) where
    same : (block : BlockTree) → RawSpells (old ∷ []) raw block → (convert_command old new).answer number block ≡ (migrate_command old new).answer number block
    same block h = answers_spelled old new clean new_clean number raw block (sym (tells.told block h)) h

    given_for : (lines octets : List ℕ) → GivesFor (migrate_command old new) number raw lines octets → GivesFor (convert_command old new) number raw lines octets
    given_for lines octets g = record { block = g.block; spells = g.spells; answer = same g.block g.spells ∙ g.answer }

    means_same : (result : Result Unit WorkStop) → Means (migrate_command old new) number raw o r result → Means (convert_command old new) number raw o r result
    means_same (Ok u) m = record { lines = m.lines; octets = m.octets; is = given_for m.lines m.octets m.is; said = m.said; wrote = m.wrote }
    means_same (Err (Fault f)) m = record { fails = m.fails; short = m.short; nothing = m.nothing }
    means_same (Err (TooLong count)) m = record { block = m.block; spells = m.spells; answer = same m.block m.spells ∙ m.answer; nothing = m.nothing }
    means_same (Err WriteFault) m = record { lines = m.lines; octets = m.octets; is = given_for m.lines m.octets m.is; said = m.said; part = m.part }
    means_same (Err ReportFault) m = record { lines = m.lines; octets = m.octets; is = given_for m.lines m.octets m.is; part = m.part; nothing = m.nothing }
    means_same (Err OutOfMemory) m = m

    takes_same : (result : Result Unit WorkStop) → Takes (migrate_command old new) number raw o r result → Takes (convert_command old new) number raw o r result
    takes_same result t = record {
      means = means_same result t.means;
      out_later = t.out_later;
      out_once = t.out_once;
      out_quiet = t.out_quiet;
      report_later = t.report_later;
      report_once = t.report_once;
      report_quiet = t.report_quiet;
    }

-- by the work of `migrate`, and by trees
pub view_taken : (m : Migrator) (may : Bool) (c : BlockCommand) (number : ℕ) (raw : RawTree) (o r : SinkChange) (result : Result Unit WorkStop) → TellsMayConvert (old_tree m) (new_tree m) raw may → may ≡ false → c ≡ migrate_command (old_tree m) (new_tree m) → Takes c number raw o r result
    → Takes (convert_command (old_tree m) (new_tree m)) number raw o r result
view_taken m may c number raw o r result tells still is t =
    takes_same (old_tree m) (new_tree m) raw (subst (TellsMayConvert (old_tree m) (new_tree m) raw) still tells) m.editions.related.old_no_flaw m.editions.related.new_no_flaw number o r result (subst (λ (d : BlockCommand). Takes d number raw o r result) is t)

pub tree_taken : (m : Migrator) (c : BlockCommand) (number : ℕ) (raw : RawTree) (o r : SinkChange) (result : Result Unit WorkStop) → c ≡ convert_command (old_tree m) (new_tree m) → Takes c number raw o r result
    → Takes (convert_command (old_tree m) (new_tree m)) number raw o r result
tree_taken m c number raw o r result is t = subst (λ (d : BlockCommand). Takes d number raw o r result) is t

pub ruleset takes = (view_taken, tree_taken)
