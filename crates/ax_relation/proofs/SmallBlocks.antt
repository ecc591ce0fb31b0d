-- A migrated block has few octets.
use Rattle.std.proofs.Common.{ℕ, ◌+◌, ◌*◌, ◌<◌, ◌≤◌, List, [], ◌∷◌, length, refl, ap, arith, subst, length-append}
use Rattle.std.specs.List.{AllByRecursion}
use Rattle.ax_relation.proofs.DistinctNames.{record_distinct}
use Rattle.ax_relation.proofs.Grows.{grows}
use Rattle.ax_relation.proofs.Once.{moved_migrated, migrated_once}
use Rattle.ax_relation.specs.Moved.{moved_record}
use Rattle.ax_format.proofs.Bounds.{record_bounds}
use Rattle.ax_format.proofs.CanonFramed.{length-framed}
use Rattle.ax_format.specs.Blocks.{BlockTree, read_block, opaque_block, Fits}
use Rattle.ax_format.specs.Bodies.{RecordShape, CanonRecord, CanonBody}
use Rattle.ax_format.specs.CanonicalOctets.{octets_of, canon_length}
use Rattle.ax_format.specs.Flaws.{NoFlaw}
use Rattle.ax_format.specs.Migrated.{EachMigrated, MigratedBlock, Migrated}
use Rattle.ax_format.specs.Specification.{SpecTree, record_kind}
use Rattle.ax_format.specs.Tree.{marked, EntriesTree}

octets_within : (b : List ℕ) → (8 * length (octets_of b) ≤ length b) × (length b < 8 * length (octets_of b) + 8)
octets_within (a ∷ b ∷ c ∷ d ∷ e ∷ f ∷ g ∷ h ∷ more) = let t = octets_within more in (omega (arith, t.0), omega (arith, t.1))
octets_within _ = (omega arith, omega arith)

record_grows : (old new : SpecTree) (r s : EntriesTree) → NoFlaw old → NoFlaw new → RecordShape old r → Migrated old new r s → length (CanonRecord new s) ≤ 18 * length (CanonRecord old r)
record_grows old new r s o n h m =
    let is = migrated_once old new r (moved_record old new r) s n (moved_migrated old new r h) m in
    let P : EntriesTree → Type 0 = λ x. length (CanonRecord new x) ≤ 18 * length (CanonRecord old r) in
    subst P is (grows (record_kind old) (record_bounds old o) (record_kind new) (marked r) refl (record_distinct new n) (record_bounds new n) h.shape)

body_grows : (old new : SpecTree) (rs ss : List EntriesTree) → NoFlaw old → NoFlaw new → AllByRecursion (RecordShape old) rs → EachMigrated old new rs ss → length (CanonBody new ss) ≤ 18 * length (CanonBody old rs)
body_grows old new [] [] o n h m = omega arith
body_grows old new [] (s ∷ ss) o n h m = absurd m
body_grows old new (r ∷ rs) [] o n h m = absurd m
body_grows old new (r ∷ rs) (s ∷ ss) o n h m =
    let one = record_grows old new r s o n h.0 m.0 in
    let rest = body_grows old new rs ss o n h.1 m.1 in
    omega (arith, length-append (CanonRecord new s) (CanonBody new ss), length-append (CanonRecord old r) (CanonBody old rs))

pub migrated_is_small : (old new : SpecTree) (block made : BlockTree) → NoFlaw old → NoFlaw new → Fits old block → MigratedBlock old new block made → canon_length old block ≤ 65535 → canon_length new made < 4294967296
migrated_is_small old new (read_block category records) (read_block other made) o n f m le =
    let bits = body_grows old new records made o n f.2 m.1 in
    let a = octets_within (CanonBody new made) in
    let b = octets_within (CanonBody old records) in
    omega (arith, length-framed category (octets_of (CanonBody old records)), length-framed other (octets_of (CanonBody new made)), a.0, b.1)
migrated_is_small old new (read_block category records) (opaque_block other octets) o n f m le = absurd m
migrated_is_small old new (opaque_block category octets) made o n f m le =
    let e = ap (canon_length new) m in omega (arith, length-framed category octets)
