-- Values at the slots of mappings have the kinds from which they are converted, and these have scales.
use Rattle.std.specs.Prelude.{Option, Some, None, IfSome}
use Rattle.ax_format.specs.At.{slot_value}
use Rattle.ax_format.specs.Shape.{Shape}
use Rattle.ax_format.specs.Tree.{ValueTree, marked, EntriesTree}
use Rattle.ax_rescale.specs.Conversion.{KindPair}
use Rattle.ax_rescale.specs.Mappings.{MappingTree, mapping_from, MappingsTree, no_mappings, mapping_and}
use Rattle.ax_rescale.specs.Scales.{Scaled}

pub record PairReady (pair : KindPair) (v : ValueTree) : Type 0 where
  pub old_scaled : Scaled pair.old
  pub new_scaled : Scaled pair.new
  pub shape : Shape pair.old v

abbrev pub EntriesReady : (EntriesTree → Type 0) → ValueTree → Type 0
EntriesReady Ready (marked es) = Ready es
EntriesReady Ready _ = Unit {0}

abbrev pub ReadyWhere : Option KindPair → (EntriesTree → Type 0) → ValueTree → Type 0
ReadyWhere None Ready v = EntriesReady Ready v
ReadyWhere (Some pair) Ready v = PairReady pair v

abbrev pub MappingsReady : MappingsTree → EntriesTree → Type 0
MappingsReady no_mappings es = Unit {0}
MappingsReady (mapping_and (mapping_from s t p c below) ws) es = IfSome (slot_value s es) (ReadyWhere p (MappingsReady below)) × MappingsReady ws es

abbrev pub ValueReady : MappingTree → ValueTree → Type 0
ValueReady (mapping_from s t p c below) v = ReadyWhere p (MappingsReady below) v

abbrev pub MappingReady : MappingTree → EntriesTree → Type 0
MappingReady (mapping_from s t p c below) es = IfSome (slot_value s es) (ReadyWhere p (MappingsReady below))
