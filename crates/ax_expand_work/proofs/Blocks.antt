-- What `expand` does with one block.
use Rattle.std.proofs.Common.{◌≡◌, ℕ, ◌<◌, ◌≤◌, ◌==◌, Bool, true, false, cond, List, [], ◌∷◌, ◌++◌, length, Option, Some, None, Result, Ok, Err, refl, sym, ◌∙◌, ap, subst}
use Rattle.std.proofs.lemmas.Bool.{ne_eqb, eqb-false}
use Rattle.ax_bits.specs.Bits.{bits}
use Rattle.ax_expand.specs.Expansion.{ExpansionTree}
use Rattle.ax_expand_work.specs.ExpandCommand.{expand_command, re_lines, unread_lines}
use Rattle.ax_expand_work.specs.Gathering.{GathersBlock}
use Rattle.ax_expand_work.specs.declared.contents.ContentLines.{ContentLines}
use Rattle.ax_format.specs.Blocks.{read_block, opaque_block}
use Rattle.ax_format.specs.Bodies.{SpellsBody}
use Rattle.ax_format.specs.CanonicalOctets.{framed}
use Rattle.ax_format.specs.Framing.{RawTree}
use Rattle.ax_format.specs.Specification.{SpecTree, spec_of}
use Rattle.ax_format.specs.declared.fault.BodyFault.{BodyFault}
use Rattle.ax_endpoints.proofs.Pieces.{change}
use Rattle.ax_endpoints.specs.Changes.{SinkChange, Wrote}
use Rattle.ax_endpoints.specs.declared.sinks.SinkFailed.{SinkFailed}
use Rattle.ax_blocks.proofs.BlockSteps.{short_fault}
use Rattle.ax_blocks.proofs.OpaqueBlocks.{raw_framed}
use Rattle.ax_blocks.proofs.Taken.{nothing_written, takes_after_lines, takes_cut_line, takes_silently, takes_fault, takes_nothing}
use Rattle.ax_blocks.specs.Commands.{gives}
use Rattle.ax_blocks.specs.BlockTaking.{GivesFor, Takes, WritesOctets}
use Rattle.ax_blocks.specs.declared.work.WorkStop.{WorkStop}
use Rattle.ax_blocks.specs.declared.work.WorkStop.TheVariants.{Fault, ReportFault, OutOfMemory}
use Rattle.ax_codec.specs.Standing.{StandsFor, IsCompiled}
use Rattle.ax_codec.specs.declared.codec.Codec.{Codec}
use Rattle.ax_walk.specs.Views.{SpellsSome, FailsThere}

-- ---- a catalogue of one specification

known_case : (b : Bool) (spec : SpecTree) (category : ℕ) → (spec.category == category) ≡ b → spec.category ≡ category → cond b (Some spec) None ≡ Some spec
known_case true spec category e same = refl
known_case false spec category e same = absurd (eqb-false spec.category category e same)

known_alone : (category : ℕ) (spec : SpecTree) → category ≡ spec.category → spec_of category (spec ∷ []) ≡ Some spec
known_alone category spec e = known_case (spec.category == category) spec category refl (sym e)

unknown_alone : (category : ℕ) (spec : SpecTree) → (category ≡ spec.category → ⊥) → spec_of category (spec ∷ []) ≡ None
unknown_alone category spec other = ap (λ b. cond b (Some spec) None) (ne_eqb spec.category category (λ e. other (sym e)))

module _ (spec : SpecTree) (frn : ℕ) (x : ExpansionTree) (number : ℕ) (raw : RawTree) (codec : Codec) (compiled : IsCompiled codec spec) where
  -- ---- a block of another category

  pub other_taken : (held shown : Option (List ℕ)) (fails flaws : ℕ) (u : Unit) → (raw.category ≡ codec.category → ⊥) → length raw.body ≤ 65532 → 0 < length raw.body
      → Takes (expand_command spec frn x) number raw (change held held fails fails) (change shown shown flaws flaws) (Ok u)
  other_taken held shown fails flaws u other few some =
      takes_silently (expand_command spec frn x) number raw (change held held fails fails) shown flaws [] (Ok u)
      (record {
        block = opaque_block raw.category raw.body;
        spells = record {
          octets = framed raw.category raw.body;
          framed = raw_framed raw.category raw.body few;
          spelled = record { unknown = unknown_alone raw.category spec (λ e. other (e ∙ sym compiled.stands.category)); framed = raw_framed raw.category raw.body few; some = some };
        };
        answer = refl;
      })
      (nothing_written held fails u)

  -- ---- a block of the category

  pub fault_taken : (held shown : Option (List ℕ)) (fails flaws : ℕ) (fault : BodyFault) → raw.category ≡ codec.category → length raw.body ≤ 65532 → FailsThere codec raw.body fault
      → Takes (expand_command spec frn x) number raw (change held held fails fails) (change shown shown flaws flaws) (Err (Fault fault))
  fault_taken held shown fails flaws fault same few h =
      let f = h.fails spec compiled.clean compiled.stands in
      takes_fault (expand_command spec frn x) number raw held shown fails flaws fault
      (record { spec = spec; known = known_alone raw.category spec (same ∙ compiled.stands.category); fails = f })
      (short_fault spec raw.body fault.bit fault.cause few f)

  pub memory_taken : (held shown : Option (List ℕ)) (fails flaws : ℕ) → Takes (expand_command spec frn x) number raw (change held held fails fails) (change shown shown flaws flaws) (Err OutOfMemory)
  memory_taken held shown fails flaws = takes_nothing (expand_command spec frn x) number raw held shown fails flaws

  -- its lines, gathered after none
  gives_lines : (own : Codec) (body : List ℕ) (old new : ContentLines) → own ≡ codec → body ≡ raw.body → raw.category ≡ codec.category → length raw.body ≤ 65532 → SpellsSome codec raw.body → old.spelled.octets ≡ [] → old.faulty.octets ≡ [] → GathersBlock x frn number own body old new
      → GivesFor (expand_command spec frn x) number raw new.faulty.octets new.spelled.octets
  gives_lines own body old new at is same few spells none clear g =
      let stands : StandsFor own spec = subst (λ c. StandsFor c spec) (sym at) compiled.stands in
      let some = spells.spells spec compiled.clean compiled.stands in
      let spelled : SpellsBody spec some.0 (bits body) = subst (λ b. SpellsBody spec some.0 (bits b)) (sym is) some.1 in record {
        block = read_block raw.category some.0;
        spells = record {
          octets = framed raw.category raw.body;
          framed = raw_framed raw.category raw.body few;
          spelled = record { spec = spec; known = known_alone raw.category spec (same ∙ compiled.stands.category); body = raw.body; framed = raw_framed raw.category raw.body few; spelled = some.1 };
        };
        answer = λ i. gives (sym (g.faulty spec some.0 compiled.clean stands spelled ∙ ap (λ t. t ++ unread_lines frn x number 0 some.0) clear) i) (sym (g.spelled spec some.0 compiled.clean stands spelled ∙ ap (λ t. t ++ re_lines frn x number 0 some.0) none) i);
      }

  pub lines_taken : (own : Codec) (body : List ℕ) (old new : ContentLines) (o r : SinkChange) (u : Unit) (said laid : List ℕ) (result : Result Unit WorkStop) → own ≡ codec → body ≡ raw.body → raw.category ≡ codec.category → length raw.body ≤ 65532 → SpellsSome codec raw.body
      → old.spelled.octets ≡ [] → old.faulty.octets ≡ [] → GathersBlock x frn number own body old new → said ≡ new.faulty.octets → Wrote r (Ok u) said → laid ≡ new.spelled.octets → WritesOctets o laid result → Takes (expand_command spec frn x) number raw o r result
  lines_taken own body old new o r u said laid result at is same few spells none clear g s w l v =
      takes_after_lines (expand_command spec frn x) number raw o r new.faulty.octets new.spelled.octets u result (gives_lines own body old new at is same few spells none clear g)
      (subst (Wrote r (Ok u)) s w) (subst (λ t. WritesOctets o t result) l v)

  pub lines_cut : (own : Codec) (body : List ℕ) (old new : ContentLines) (held : Option (List ℕ)) (fails : ℕ) (r : SinkChange) (e : SinkFailed) (said : List ℕ) → own ≡ codec → body ≡ raw.body → raw.category ≡ codec.category → length raw.body ≤ 65532 → SpellsSome codec raw.body
      → old.spelled.octets ≡ [] → old.faulty.octets ≡ [] → GathersBlock x frn number own body old new → said ≡ new.faulty.octets → Wrote r (Err e) said → Takes (expand_command spec frn x) number raw (change held held fails fails) r (Err ReportFault)
  lines_cut own body old new held fails r e said at is same few spells none clear g s w =
      takes_cut_line (expand_command spec frn x) number raw r held fails new.faulty.octets new.spelled.octets e (gives_lines own body old new at is same few spells none clear g) (subst (Wrote r (Err e)) s w)

pub ruleset takes = (other_taken, fault_taken, memory_taken)
