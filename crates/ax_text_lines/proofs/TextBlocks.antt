-- What `text` does with one block.
use Rattle.std.proofs.Common.{◌≡◌, ℕ, ◌≤◌, List, Option, Some, None, Result, Err, Bor, length}
use Rattle.std.specs.Option.{option_map, option_copied}
use Rattle.ax_format.specs.Blocks.{BlockTree}
use Rattle.ax_format.specs.Framing.{RawTree}
use Rattle.ax_format.specs.Plain.{spec_tree, catalogue_tree}
use Rattle.ax_format.specs.Specification.{SpecTree, spec_of}
use Rattle.ax_format.specs.declared.spec.Spec.{Spec}
use Rattle.ax_format.specs.declared.fault.BodyFault.{BodyFault}
use Rattle.ax_endpoints.specs.Changes.{SinkChange}
use Rattle.ax_blocks.proofs.BlockSteps.{short_fault}
use Rattle.ax_blocks.proofs.MadeBlocks.{read_made, opaque_made, tree_taken, tree_fails, tree_memory}
use Rattle.ax_blocks.specs.BlockTaking.{Takes, WritesOctets}
use Rattle.ax_blocks.specs.declared.work.WorkStop.{WorkStop}
use Rattle.ax_blocks.specs.declared.work.WorkStop.TheVariants.{Fault, OutOfMemory}
use Rattle.ax_text_form.specs.BlockText.{BlockLine, OpaqueLine}
use Rattle.ax_text_lines.proofs.TablesOf.{masked, known, unknown}
use Rattle.ax_text_lines.specs.TextCommand.{text_command}
use Rattle.ax_text_lines.specs.declared.tables.PrintedUap.{PrintedUap}
use Rattle.ax_text_lines.specs.Prints.{IsBlockPrinted}
use Rattle.ax_values.specs.Decoding.{IsBodyFault}

abbrev of_read : ℕ → SpecTree → BlockTree → List ℕ
of_read number spec block = BlockLine spec block

abbrev of_opaque : ℕ → ℕ → List ℕ → List ℕ
of_opaque number category content = OpaqueLine category content

module _ (tables catalogue : List Spec) (number : ℕ) (raw : RawTree) (held : Option (List ℕ)) (faults : ℕ) (same : tables ≡ catalogue) (found : Option (Bor PrintedUap))
    (looked : option_map (λ table. spec_tree table.items) (option_copied found) ≡ spec_of raw.category (catalogue_tree tables)) where
  pub text_printed : (table : Bor PrintedUap) (o : SinkChange) (line laid : List ℕ) (result : Result Unit WorkStop) → found ≡ Some table → length raw.body ≤ 65532 → IsBlockPrinted (spec_tree table.now.items) raw.category raw.body line → laid ≡ line
      → WritesOctets o laid result → Takes (text_command (catalogue_tree catalogue)) number raw o (record { held = held; held' = held; faults = faults; faults' = faults }) result
  text_printed table o line laid result is few printed e w =
      tree_taken of_read of_opaque (catalogue_tree catalogue) number raw o held faults line laid result
      (read_made of_read of_opaque (catalogue_tree catalogue) number raw (spec_tree table.now.items) line few (known tables catalogue raw.category same found table looked is) (record { records = printed.records; spelled = printed.spelled; is = printed.is })) e w

  pub text_fails : (table : Bor PrintedUap) (f : BodyFault) (shown : Option (List ℕ)) (flaws : ℕ) → found ≡ Some table → length raw.body ≤ 65532 → IsBodyFault (spec_tree table.now.items) raw.body f
      → Takes (text_command (catalogue_tree catalogue)) number raw (record { held = held; held' = held; faults = faults; faults' = faults }) (record { held = shown; held' = shown; faults = flaws; faults' = flaws }) (Err (Fault f))
  text_fails table f shown flaws is few fails =
      let spec = spec_tree table.now.items in
      tree_fails of_read of_opaque (catalogue_tree catalogue) number raw held shown faults flaws f (record { spec = spec; known = known tables catalogue raw.category same found table looked is; fails = fails.fails }) (short_fault spec raw.body f.bit f.cause few fails.fails)

  pub text_opaque : (o : SinkChange) (line laid : List ℕ) (result : Result Unit WorkStop) → found ≡ None → length raw.body ≤ 65532 → 1 ≤ length raw.body → line ≡ OpaqueLine raw.category raw.body → laid ≡ line
      → WritesOctets o laid result → Takes (text_command (catalogue_tree catalogue)) number raw o (record { held = held; held' = held; faults = faults; faults' = faults }) result
  text_opaque o line laid result is few some printed e w =
      tree_taken of_read of_opaque (catalogue_tree catalogue) number raw o held faults line laid result
      (opaque_made of_read of_opaque (catalogue_tree catalogue) number raw line few some (unknown tables catalogue raw.category same found looked is) printed) e w

pub text_memory : (catalogue : List SpecTree) (number : ℕ) (raw : RawTree) (held shown : Option (List ℕ)) (fails flaws : ℕ)
    → Takes (text_command catalogue) number raw (record { held = held; held' = held; faults = fails; faults' = fails }) (record { held = shown; held' = shown; faults = flaws; faults' = flaws }) (Err OutOfMemory)
text_memory catalogue number raw held shown fails flaws = tree_memory of_read of_opaque catalogue number raw held shown fails flaws

pub ruleset text_takes = (masked, text_printed, text_fails, text_opaque, text_memory)
