-- The migrated block of a view.
use Rattle.std.proofs.Common.{ℕ, zero, suc, ◌*◌, ◌≤◌, false, List, [], ◌∷◌, length, take, drop, sym, ◌∙◌, ap, arith, subst, take-append-drop}
use Rattle.ax_bits.proofs.Words.{bits-append, length-bits}
use Rattle.ax_bits.specs.Bits.{bits}
use Rattle.ax_bits.specs.Out.{Appends}
use Rattle.ax_bits.specs.declared.output.Out.{Out}
use Rattle.ax_migrate_views.specs.Blocks.{old_tree, AppendsMigrated, CountsMigrated, HasRoom, IsOfEditions, LaysMigrated}
use Rattle.ax_migrate_views.specs.declared.migrator.Migrator.{Migrator}
use Rattle.ax_format.proofs.Once.{body_never_both}
use Rattle.ax_format.specs.Bodies.{RecordsSpell, SpellsBody}
use Rattle.ax_format.specs.Flaws.{NoFlaw}
use Rattle.ax_format.specs.Sizes.{longest_block}
use Rattle.ax_format.specs.Specification.{SpecTree}
use Rattle.ax_format.specs.Tree.{EntriesTree}
use Rattle.ax_format.specs.declared.fault.BodyFault.{BodyFault}
use Rattle.ax_codec.specs.Standing.{StandsFor}
use Rattle.ax_codec.specs.Table.{record_kind_at}
use Rattle.ax_codec.specs.declared.codec.Codec.{Codec}
use Rattle.ax_walk.proofs.BodySteps.{some_records}
use Rattle.ax_walk.proofs.Spelled.{record_spelled}
use Rattle.ax_walk.specs.Pieces.{ArePieces, first_size}
use Rattle.ax_walk.specs.Values.{entries_in, value_in}
use Rattle.ax_walk.specs.Views.{FailsThere}

-- ---- the body of a view spells records

module _ (codec : Codec) (spec : SpecTree) (clean : NoFlaw spec) (stands : StandsFor codec spec) where
  pieces_spell : (n : ℕ) (xs : List ℕ) → ArePieces false (record_kind_at codec.nodes codec.slots) n xs → (records : List EntriesTree) × RecordsSpell spec records (bits xs)
  pieces_spell zero xs h = ([], ap bits h)
  pieces_spell (suc n) xs h =
      let k = record_kind_at codec.nodes codec.slots in
      let m = first_size false k xs in
      let rest = pieces_spell n (drop m xs) h.2 in
      (entries_in (value_in k (take m xs)) ∷ rest.0, (bits (take m xs), bits (drop m xs), ap bits (sym (take-append-drop m xs)) ∙ bits-append (take m xs) (drop m xs), (record_spelled codec (take m xs) h.1).spells spec clean stands, rest.1))

  pub view_spells : (n : ℕ) (body : List ℕ) → 1 ≤ length body → ArePieces false (record_kind_at codec.nodes codec.slots) n body → (records : List EntriesTree) × SpellsBody spec records (bits body)
  view_spells n body some h =
      let s = pieces_spell n body h in
      (s.0, record { some = some_records spec s.0 (bits body) s.1 (omega (arith, length-bits body)); spelled = s.1 })

-- so none fails
pub view_never_fails : (m : Migrator) (n : ℕ) (body : List ℕ) (fault : BodyFault) → IsOfEditions m → 1 ≤ length body → ArePieces false (record_kind_at m.codec.now.nodes m.codec.now.slots) n body → FailsThere m.codec.now body fault → ⊥
view_never_fails m n body fault of some h f =
    let s = view_spells m.codec.now (old_tree m) of.compiled.clean of.compiled.stands n body some h in
    body_never_both (old_tree m) (bits body) s.0 fault.bit fault.cause s.1 (f.fails (old_tree m) of.compiled.clean of.compiled.stands)

-- ---- its length

pub length_counted : (m : Migrator) (body : List ℕ) (n : ℕ) (output : List ℕ) → LaysMigrated m body n output → CountsMigrated m body n
length_counted m body n output h = record { counted = λ records s. (h.block records s).counted }

-- a length that was answered tells what is room
pub counted_fits : (m : Migrator) (body : List ℕ) (n free : ℕ) → CountsMigrated m body n → n ≤ longest_block → 8 * n ≤ free → HasRoom m body free
counted_fits m body n free h few room = record {
  block = λ records s. subst (λ k. k ≤ longest_block) (h.counted records s) few;
  room = λ records s. subst (λ k. 8 * k ≤ free) (h.counted records s) room;
}

-- ---- the block

module _ (m : Migrator) (body : List ℕ) (n : ℕ) (output : List ℕ) (of : IsOfEditions m) (pieces : ℕ) (some : 1 ≤ length body) (h : ArePieces false (record_kind_at m.codec.now.nodes m.codec.now.slots) pieces body) (laid : LaysMigrated m body n output) where
  spelled : (records : List EntriesTree) × SpellsBody (old_tree m) records (bits body)
  spelled = view_spells m.codec.now (old_tree m) of.compiled.clean of.compiled.stands pieces body some h

  pub few : (free : ℕ) → HasRoom m body free → n ≤ longest_block
  few free room = subst (λ k. k ≤ longest_block) (sym (laid.block spelled.0 spelled.1).counted) (room.block spelled.0 spelled.1)

  pub fits : (free : ℕ) → HasRoom m body free → 8 * n ≤ free
  fits free room = subst (λ k. 8 * k ≤ free) (sym (laid.block spelled.0 spelled.1).counted) (room.room spelled.0 spelled.1)

  pub appended : (old new : Out) → n ≤ longest_block → Appends old new (bits (take n output)) → AppendsMigrated m body old new
  appended old new few put = record { appended = λ records s. subst (λ xs. Appends old new (bits xs)) ((laid.block records s).laid few) put }
