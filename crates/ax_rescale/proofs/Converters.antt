-- What a converter holds of two editions, and what it makes of a record.
use Rattle.std.proofs.Common.{◌≡◌, List, sym, ◌∙◌, ap, subst}
use Rattle.ax_edition.specs.Index.{found, Finds}
use Rattle.ax_edition.specs.declared.index.Index.{Index}
use Rattle.ax_format.specs.Bodies.{RecordShape}
use Rattle.ax_format.specs.Naming.{slot_named}
use Rattle.ax_format.specs.Plain.{spec_tree}
use Rattle.ax_format.specs.Specification.{SpecTree, record_slots}
use Rattle.ax_format.specs.Tree.{SlotsTree, EntriesTree}
use Rattle.ax_rescale.proofs.ByMappings.{record_passes}
use Rattle.ax_rescale.proofs.ReadyRecords.{record_ready}
use Rattle.ax_rescale.specs.ConvertedRecord.{converted_record}
use Rattle.ax_rescale.specs.Converting.{IsConverter}
use Rattle.ax_rescale.specs.Mappings.{MappingTree, mappings_from, mappings_of, record_mappings, passed_by}
use Rattle.ax_rescale.specs.PlainMappings.{mappings_tree}
use Rattle.ax_rescale.specs.Ready.{MappingsReady}
use Rattle.ax_rescale.specs.declared.converter.Converter.{Converter}

-- what is found by the old items are the mappings
pub mappings_are : (old new : SpecTree) (os ns : SlotsTree) (index : Index) (mappings : List MappingTree) → os ≡ record_slots old → ns ≡ record_slots new → Finds 1 os index → mappings ≡ mappings_of 1 ns (found index) → mappings ≡ record_mappings old new
mappings_are old new os ns index mappings o n f m =
    let rules : found index ≡ (λ name. slot_named 1 name os) = λ i name. f.finds name i in
    m ∙ ap (mappings_of 1 ns) rules ∙ (λ i. mappings_of 1 (n i) (λ name. slot_named 1 name (o i)))

module _ (c : Converter) (is : IsConverter c) (es : EntriesTree) (shape : RecordShape (spec_tree c.old.now) es) where
  pub ready : MappingsReady (mappings_tree c.mappings) es
  ready = subst (λ (ws : List MappingTree). MappingsReady (mappings_from ws) es) (sym is.mappings) (record_ready (spec_tree c.old.now) (spec_tree c.new.now) es is.related.old_no_flaw is.related.new_no_flaw shape)

  pub passed_is : (made : EntriesTree) → made ≡ passed_by (mappings_tree c.mappings) es → made ≡ converted_record (spec_tree c.old.now) (spec_tree c.new.now) es
  passed_is made e = e ∙ ap (λ (ws : List MappingTree). passed_by (mappings_from ws) es) is.mappings ∙ record_passes (spec_tree c.old.now) (spec_tree c.new.now) es shape

pub ruleset mappings = (mappings_are)

pub ruleset records = (ready, passed_is)
