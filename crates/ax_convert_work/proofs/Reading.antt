-- A block as it is read under the old edition alone.
use Rattle.std.proofs.Common.{◌≡◌, ◌≤◌, ◌==◌, Bool, true, false, cond, [], ◌∷◌, Some, None, length, refl, sym, ◌∙◌, ap, subst, arith}
use Rattle.std.proofs.lemmas.Bool.{eqb-true}
use Rattle.ax_convert_work.specs.Making.{IsReadBlock, NotMade, ShortIfOpaque}
use Rattle.ax_relation.proofs.Lookups.{equal}
use Rattle.ax_format.specs.Blocks.{BlockTree, opaque_block}
use Rattle.ax_format.specs.CanonicalOctets.{canon_length, framed}
use Rattle.ax_format.specs.Ends.{RawSpells}
use Rattle.ax_format.specs.Framing.{RawTree}
use Rattle.ax_format.specs.Plain.{spec_tree, block_tree}
use Rattle.ax_format.specs.Specification.{SpecTree, spec_of}
use Rattle.ax_format.specs.declared.fault.BodyFault.{BodyFault}
use Rattle.ax_format.specs.declared.record.Block.{Block}
use Rattle.ax_format.specs.declared.spec.Spec.{Spec}
use Rattle.ax_blocks.proofs.BlockSteps.{short_fault}
use Rattle.ax_blocks.proofs.OpaqueBlocks.{raw_framed}
use Rattle.ax_blocks.specs.declared.work.WorkStop.TheVariants.{Fault}
use Rattle.ax_values.proofs.RoundTrip.{decoded_fits, opaque_fits, opaque_length}
use Rattle.ax_values.specs.Decoding.{IsReadOf, IsBodyFault}

module _ (old : Spec) (raw : RawTree) where
  own_category : raw.category ≡ old.category → spec_of raw.category (spec_tree old ∷ []) ≡ Some (spec_tree old)
  own_category same = ap (λ b. cond b (Some (spec_tree old)) None) (equal old.category raw.category (sym same))

  -- the test of the category as the catalogue makes it
  other_category : (old.category == raw.category) ≡ false → spec_of raw.category (spec_tree old ∷ []) ≡ None
  other_category other = ap (λ b. cond b (Some (spec_tree old)) None) other

  read_of : (block : Block) → length raw.body ≤ 65532 → raw.category ≡ old.category → IsReadOf (spec_tree old) raw.category raw.body (block_tree block) → IsReadBlock old raw block
  read_of block few same read =
      let P : BlockTree → Type 0 = λ b. RawSpells (spec_tree old ∷ []) raw b in record {
        spells = subst P (sym read.is) (record {
          octets = framed raw.category raw.body;
          framed = raw_framed raw.category raw.body few;
          spelled = record { spec = spec_tree old; known = own_category same; body = raw.body; framed = raw_framed raw.category raw.body few; spelled = read.spelled };
        });
        fits = decoded_fits old raw.category raw.body block same read;
        short = subst (ShortIfOpaque (spec_tree old)) (sym read.is) tt;
      }

  opaque_of : (block : Block) → length raw.body ≤ 65532 → 1 ≤ length raw.body → (raw.category ≡ old.category → ⊥) → (old.category == raw.category) ≡ false → block_tree block ≡ opaque_block raw.category raw.body → IsReadBlock old raw block
  opaque_of block few some other test is =
      let P : BlockTree → Type 0 = λ b. RawSpells (spec_tree old ∷ []) raw b in
      let short : canon_length (spec_tree old) (opaque_block raw.category raw.body) ≤ 65535 = omega (arith, few, opaque_length old raw.category raw.body block is, ap (canon_length (spec_tree old)) is) in
      record {
        spells = subst P (sym is) (record {
          octets = framed raw.category raw.body;
          framed = raw_framed raw.category raw.body few;
          spelled = record { unknown = other_category test; framed = raw_framed raw.category raw.body few; some = some };
        });
        fits = opaque_fits old raw.category raw.body block other some is;
        short = subst (ShortIfOpaque (spec_tree old)) (sym is) short;
      }

  pub is_read : (block : Block) → length raw.body ≤ 65532 → 1 ≤ length raw.body → ((raw.category ≡ old.category → ⊥) → block_tree block ≡ opaque_block raw.category raw.body)
      → (raw.category ≡ old.category → IsReadOf (spec_tree old) raw.category raw.body (block_tree block)) → IsReadBlock old raw block
  is_read block few some opaque read = by (old.category == raw.category) refl
    where
      by : (b : Bool) → (old.category == raw.category) ≡ b → IsReadBlock old raw block
      by true e = let same = sym (eqb-true old.category raw.category e) in read_of block few same (read same)
      by false e =
          let other : raw.category ≡ old.category → ⊥ = λ same. (let x : true ≡ false = sym (equal old.category raw.category (sym same)) ∙ e in absurd (cc)) in
          opaque_of block few some other e (opaque other)

  pub body_fails : (new : SpecTree) (f : BodyFault) → length raw.body ≤ 65532 → (raw.category ≡ old.category) × IsBodyFault (spec_tree old) raw.body f → NotMade (spec_tree old) new raw (Fault f)
  body_fails new f few h = (record { spec = spec_tree old; known = own_category h.0; fails = h.1.fails }, short_fault (spec_tree old) raw.body f.bit f.cause few h.1.fails)

pub ruleset reads = (is_read, body_fails)
