-- A migrated block, from its head and the bits of its records.
use Rattle.std.proofs.Common.{◌≡◌, ℕ, zero, suc, ◌+◌, ◌*◌, ◌/◌, ◌%◌, ◌^◌, ◌<◌, ◌≤◌, List, [], ◌∷◌, ◌++◌, length, take, drop, get_or, map, refl, sym, ◌∙◌, ap, arith, subst, append_assoc, length-take-le}
use Rattle.std.proofs.lemmas.List.{drop_at}
use Rattle.std.specs.List.{AllByRecursion}
use Rattle.ax_bits.proofs.Pieces.{word-split, word-low, bits-injective, AreOctets-items, take-bits, drop-bits}
use Rattle.ax_bits.proofs.Words.{length-bits}
use Rattle.ax_bits.specs.Bits.{bits, word, AreBits, AreOctets}
use Rattle.ax_canon.proofs.Framing.{framed_bits, octets_long}
use Rattle.ax_canon.proofs.Patching.{body_shape}
use Rattle.ax_relation.specs.Moves.{moves_from, record_moves}
use Rattle.ax_relation.specs.PlainMoves.{moves_tree}
use Rattle.ax_relation.proofs.Once.{moved_migrated}
use Rattle.ax_relation.proofs.SmallBlocks.{migrated_is_small}
use Rattle.ax_relation.specs.Moved.{moved_record}
use Rattle.ax_migration.proofs.OneBlock.{block_is_migrated}
use Rattle.ax_migration.specs.Migrating.{migrated_block}
use Rattle.ax_moves.proofs.MovedCanon.{record_canon_moved}
use Rattle.ax_migrate_views.specs.Blocks.{with_head, old_tree, new_tree, IsOfEditions, IsMigratedBlock, LaysMigrated}
use Rattle.ax_migrate_views.specs.Bodies.{body_by, LaysBody}
use Rattle.ax_moves.specs.Laying.{Lays}
use Rattle.ax_migrate_views.specs.declared.migrator.Migrator.{Migrator}
use Rattle.ax_format.proofs.CanonFramed.{length-framed}
use Rattle.ax_format.proofs.RecordLaws.{flawless_body_canon_spells, body_canon_shortest}
use Rattle.ax_format.proofs.SpelledBits.{records_bits}
use Rattle.ax_format.specs.Blocks.{BlockTree, read_block, Fits}
use Rattle.ax_format.specs.Bodies.{RecordShape, SpellsBody, CanonBody}
use Rattle.ax_format.specs.CanonicalOctets.{canon_length, octets_of, framed}
use Rattle.ax_format.specs.Flaws.{NoFlaw}
use Rattle.ax_format.specs.Specification.{SpecTree}
use Rattle.ax_format.specs.Tree.{EntriesTree}
use Rattle.ax_values.proofs.WrittenRecords.{framed_octets, body_octets, body_bits}

-- ---- octets

octets_front : (n : ℕ) (xs : List ℕ) → AreOctets xs → AreOctets (take n xs)
octets_front zero xs h = tt
octets_front (suc n) [] h = tt
octets_front (suc n) (x ∷ xs) h = (h.0, octets_front n xs h.1)

len_bits : (n : ℕ) → word 8 (n / 256 % 256) ++ word 8 (n % 256) ≡ word 16 n
len_bits n = (λ i. word-low 8 (n / 2 ^ 8) i ++ word-low 8 n i) ∙ sym (word-split 8 8 n)

-- the bits after the first three octets
after_head : (b old now : List ℕ) (m : ℕ) → 3 ≤ length old → take (8 * (3 + m)) (bits now) ≡ take 24 (bits old) ++ b → bits (drop 3 (take (3 + m) now)) ≡ b
after_head b old now m long e =
    sym (drop-bits 3 (take (3 + m) now)) ∙ ap (drop 24) (sym (take-bits (3 + m) now) ∙ e)
    ∙ drop_at (take 24 (bits old)) b 24 (length-take-le 24 (bits old) (omega (arith, length-bits old)))

headed : (category n m : ℕ) (b now : List ℕ) → n ≡ 3 + m → 3 ≤ length now → bits (drop 3 (take (3 + m) now)) ≡ b → bits (take n (with_head category n now)) ≡ (word 8 category ++ word 16 n) ++ b
headed category n m b [] e long h = absurd (omega arith)
headed category n m b (x ∷ []) e long h = absurd (omega arith)
headed category n m b (x ∷ y ∷ []) e long h = absurd (omega arith)
headed category n m b (x ∷ y ∷ z ∷ rest) e long h =
    let s : n ≡ suc (suc (suc m)) = omega arith in
    let t : 3 + m ≡ suc (suc (suc m)) = omega arith in
    let c = word 8 category in
    let hi = word 8 (n / 256 % 256) in
    let lo = word 8 (n % 256) in
    let body : bits (take m rest) ≡ b = ap (λ k. bits (drop 3 (take k (x ∷ y ∷ z ∷ rest)))) (sym t) ∙ h in
    ap (λ k. bits (take k (category ∷ (n / 256 % 256) ∷ (n % 256) ∷ rest))) s
    ∙ ap (λ w. c ++ (hi ++ (lo ++ w))) body
    ∙ ap (λ w. c ++ w) (sym (append_assoc hi lo b) ∙ ap (λ w. w ++ b) (len_bits n)) ∙ sym (append_assoc c (word 16 n) b)

-- ---- the records

pub moved_shapes : (old new : SpecTree) (rs : List EntriesTree) → AllByRecursion (RecordShape old) rs → AllByRecursion (RecordShape new) (map (moved_record old new) rs)
moved_shapes old new [] h = tt
moved_shapes old new (r ∷ rs) h = ((moved_migrated old new r h.0).shape, moved_shapes old new rs h.1)

body_canon : (old new : SpecTree) (rs : List EntriesTree) → NoFlaw old → NoFlaw new → AllByRecursion (RecordShape old) rs → body_by (moves_from (record_moves old new)) old rs ≡ CanonBody new (map (moved_record old new) rs)
body_canon old new [] old_clean clean h = refl
body_canon old new (r ∷ rs) old_clean clean h = λ i. record_canon_moved old new r old_clean clean h.0 i ++ body_canon old new rs old_clean clean h.1 i

pub length-moved : (old new : SpecTree) (rs : List EntriesTree) → length (map (moved_record old new) rs) ≡ length rs
length-moved old new [] = refl
length-moved old new (r ∷ rs) = ap suc (length-moved old new rs)

-- ---- the block

module _ (old new : SpecTree) (records : List EntriesTree) (body : List ℕ) (clean : NoFlaw old) (new_clean : NoFlaw new) (same : old.category ≡ new.category) (few : length body ≤ 65532) (spells : SpellsBody old records (bits body)) where
  shapes : AllByRecursion (RecordShape old) records
  shapes = body_shape old records (bits body) spells.spelled

  made : List EntriesTree
  made = map (moved_record old new) records

  block : BlockTree
  block = read_block old.category records

  fits : Fits old block
  unfolding block
  fits = (refl, spells.some, shapes)

  old_short : canon_length old block ≤ 65535
  unfolding block
  old_short =
      omega (arith, length-framed old.category (octets_of (CanonBody old records)), ap length (body_bits old records clean spells.some shapes), length-bits (octets_of (CanonBody old records)), length-bits body, body_canon_shortest old records (bits body) spells)

  small : canon_length new (migrated_block old new block) < 4294967296
  small = migrated_is_small old new block (migrated_block old new block) clean new_clean fits (block_is_migrated old new block (migrated_block old new block) fits refl) old_short

  some_made : 0 < length (map (moved_record old new) records)
  some_made = omega (arith, length-moved old new records, spells.some)

  made_spelled : SpellsBody new (map (moved_record old new) records) (CanonBody new (map (moved_record old new) records))
  made_spelled = flawless_body_canon_spells new (map (moved_record old new) records) new_clean some_made (moved_shapes old new records shapes)

  pub block_laid : (n : ℕ) (before now final : List ℕ) → Lays (CanonBody new (map (moved_record old new) records)) 3 n before now → 3 ≤ length before → 3 ≤ length now → final ≡ with_head old.category n now → AreOctets final → old.category < 256
      → IsMigratedBlock old new records n final
  unfolding block
  block_laid n before now final l long long_now is octets cat =
      let b = CanonBody new (map (moved_record old new) records) in
      let m = l.octets in
      let bit : AreBits b = records_bits new (map (moved_record old new) records) b made_spelled.spelled in
      let size : length (octets_of b) ≡ m = octets_long m b l.size bit in
      let whole : canon_length new (migrated_block old new (read_block old.category records)) ≡ 3 + m = length-framed old.category (octets_of b) ∙ ap (λ k. 3 + k) size in
      let count : n ≡ 3 + m = omega (arith, l.counted, small, whole) in
      record {
        counted = count ∙ sym whole;
        laid = λ short. (
            let front : take (8 * (3 + m)) (bits now) ≡ take 24 (bits before) ++ b = ap (λ k. take (8 * k) (bits now)) (sym count) ∙ l.laid short in
            let written : bits (take n final) ≡ (word 8 old.category ++ word 16 n) ++ b = ap (λ x. bits (take n x)) is ∙ headed old.category n m b now count long_now (after_head b before now m long front) in
            let wanted : bits (framed old.category (octets_of b)) ≡ (word 8 old.category ++ word 16 n) ++ b = framed_bits old.category m b l.size bit ∙ ap (λ k. (word 8 old.category ++ word 16 k) ++ b) (let e : m + 3 ≡ n = omega arith in e) in
            bits-injective (take n final) (framed old.category (octets_of b)) (octets_front n final octets) (framed_octets old.category (octets_of b) cat (body_octets new (map (moved_record old new) records) new_clean some_made (moved_shapes old new records shapes))) (written ∙ sym wanted));
      }

-- that of a migrator
pub migrated_laid : (m : Migrator) (body : List ℕ) (n : ℕ) (before now final : List ℕ) → IsOfEditions m → length body ≤ 65532 → LaysBody m.codec.now m.relation.now.moves body 3 n before now → length before ≡ 131067 → length now ≡ 131067
    → final ≡ with_head m.codec.now.category n now → ((i : ℕ) → get_or final i 0 < 256) → m.codec.now.category < 256 → LaysMigrated m body n final
migrated_laid m body n before now final of few l long long_now is items cat = record {
  block = λ records spells. (
      let stands = of.compiled.stands in
      let shapes = body_shape (old_tree m) records (bits body) spells.spelled in
      let bits_are : body_by (moves_tree m.relation.now.moves) (old_tree m) records ≡ CanonBody (new_tree m) (map (moved_record (old_tree m) (new_tree m)) records) =
      ap (λ ms. body_by (moves_from ms) (old_tree m) records) of.related.moves ∙ body_canon (old_tree m) (new_tree m) records of.compiled.clean of.related.new_no_flaw shapes in
      let laid = subst (λ b. Lays b 3 n before now) bits_are (l.laid (old_tree m) records of.compiled.clean stands spells) in
      block_laid (old_tree m) (new_tree m) records body of.compiled.clean of.related.new_no_flaw of.related.category few spells n before now final laid (omega arith) (omega arith)
      (is ∙ ap (λ c. with_head c n now) stands.category) (AreOctets-items final items) (omega (arith, stands.category)));
}
