-- Whether something in a block may be converted.
use Rattle.std.proofs.Common.{◌≡◌, ℕ, ◌==◌, Bool, true, false, cond, List, [], ◌∷◌, Some, None, refl, sym, ◌∙◌, ap, subst}
use Rattle.std.proofs.lemmas.Bool.{eqb-true}
use Rattle.ax_bits.specs.Bits.{bits}
use Rattle.ax_convert_work.proofs.Migrating.{each_block}
use Rattle.ax_convert_work.specs.Standing.{MayConvert, SomeStands, TellsMayConvert}
use Rattle.ax_relation.proofs.Lookups.{equal}
use Rattle.ax_migrate_views.specs.Blocks.{old_tree, new_tree}
use Rattle.ax_migrate_views.specs.declared.migrator.Migrator.{Migrator}
use Rattle.ax_format.proofs.Once.{body_never_both}
use Rattle.ax_format.specs.Blocks.{BlockTree, read_block, opaque_block}
use Rattle.ax_format.specs.Bodies.{SpellsBody}
use Rattle.ax_format.specs.Ends.{RawSpells}
use Rattle.ax_format.specs.Framing.{RawTree}
use Rattle.ax_format.specs.Specification.{SpecTree}
use Rattle.ax_format.specs.Tree.{EntriesTree}
use Rattle.ax_format.specs.declared.fault.BodyFault.{BodyFault}
use Rattle.ax_rescale.specs.Converts.{converting_slots, some_stands}
use Rattle.ax_walk.specs.Views.{FailsThere}

-- ---- the octets of a block

-- one category, and one body
same_body : (category other high low h l : ℕ) (octets body rest : List ℕ) → octets ≡ category ∷ high ∷ low ∷ body → octets ≡ other ∷ h ∷ l ∷ rest → (category ≡ other) × (body ≡ rest)
same_body category other high low h l octets body rest e f = let both : category ∷ high ∷ low ∷ body ≡ other ∷ h ∷ l ∷ rest = sym e ∙ f in (cc, cc)

module _ (old : SpecTree) (raw : RawTree) where
  known_is : (category : ℕ) (spec : SpecTree) (b : Bool) → (old.category == category) ≡ b → cond b (Some old) None ≡ Some spec → (category ≡ old.category) × (spec ≡ old)
  known_is category spec true q e = let same : old ≡ spec = cc in (sym (eqb-true old.category category q), sym same)
  known_is category spec false q e = cc

  -- the records are of the old edition, and the raw body spells them
  read_spells : (category : ℕ) (records : List EntriesTree) → RawSpells (old ∷ []) raw (read_block category records) → (raw.category ≡ old.category) × SpellsBody old records (bits raw.body)
  read_spells category records h =
      let s = h.spelled in
      let known = known_is category s.spec (old.category == category) refl s.known in
      let one = same_body raw.category category h.framed.high h.framed.low s.framed.high s.framed.low h.octets raw.body s.body h.framed.layout s.framed.layout in
      let here : SpellsBody old records (bits s.body) = subst (λ (spec : SpecTree). SpellsBody spec records (bits s.body)) known.1 s.spelled in (one.0 ∙ known.0, subst (λ (body : List ℕ). SpellsBody old records (bits body)) (sym one.1) here)

  -- an opaque block is of another category
  opaque_other : (category : ℕ) (content : List ℕ) → RawSpells (old ∷ []) raw (opaque_block category content) → raw.category ≡ old.category → ⊥
  opaque_other category content h same =
      let s = h.spelled in
      let one = same_body raw.category category h.framed.high h.framed.low s.framed.high s.framed.low h.octets raw.body content h.framed.layout s.framed.layout in
      let yes : (old.category == category) ≡ true = equal old.category category (sym same ∙ one.0) in
      let no : Some old ≡ None = sym (ap (λ b. cond b (Some old) None) yes) ∙ s.unknown in absurd (cc)

-- ---- what is told

module _ (m : Migrator) (raw : RawTree) (slots : List ℕ) (are : slots ≡ converting_slots (old_tree m) (new_tree m)) where
  pub tells_none : slots ≡ [] → TellsMayConvert (old_tree m) (new_tree m) raw false
  tells_none e = record { told = λ block h. sym (each_block (old_tree m) (new_tree m) block (sym are ∙ e)) }

  pub tells_other : (raw.category ≡ (old_tree m).category → ⊥) → TellsMayConvert (old_tree m) (new_tree m) raw false
  tells_other other = record { told = by }
    where
      by : (block : BlockTree) → RawSpells (old_tree m ∷ []) raw block → false ≡ MayConvert (old_tree m) (new_tree m) block
      by (read_block category records) h = absurd (other (read_spells (old_tree m) raw category records h).0)
      by (opaque_block category content) h = refl

  module _ (own : raw.category ≡ (old_tree m).category) where
    pub tells_view : (some : Bool) → SomeStands slots m.codec.now raw.body some → TellsMayConvert (old_tree m) (new_tree m) raw some
    tells_view some t = record { told = by }
      where
        by : (block : BlockTree) → RawSpells (old_tree m ∷ []) raw block → some ≡ MayConvert (old_tree m) (new_tree m) block
        by (read_block category records) h = t.told (old_tree m) records m.editions.compiled.clean m.editions.compiled.stands (read_spells (old_tree m) raw category records h).1 ∙ ap (λ ss. some_stands ss records) are
        by (opaque_block category content) h = absurd (opaque_other (old_tree m) raw category content h own)

    pub tells_fault : (may : Bool) (fault : BodyFault) → FailsThere m.codec.now raw.body fault → TellsMayConvert (old_tree m) (new_tree m) raw may
    tells_fault may fault f = record { told = by }
      where
        by : (block : BlockTree) → RawSpells (old_tree m ∷ []) raw block → may ≡ MayConvert (old_tree m) (new_tree m) block
        by (read_block category records) h = absurd (body_never_both (old_tree m) (bits raw.body) records fault.bit fault.cause (read_spells (old_tree m) raw category records h).1 (f.fails (old_tree m) m.editions.compiled.clean m.editions.compiled.stands))
        by (opaque_block category content) h = absurd (opaque_other (old_tree m) raw category content h own)

pub ruleset tells = (tells_none, tells_other, tells_view, tells_fault)
