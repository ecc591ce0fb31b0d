-- The octets of a block, piece by piece.
use Rattle.std.proofs.Common.{◌≡◌, ℕ, ◌+◌, ◌*◌, ◌<◌, ◌≤◌, List, [], ◌++◌, length, sym, ◌∙◌, ap, arith, subst, append-nil, length-append, take-append-drop, get_or}
use Rattle.std.proofs.lemmas.List.{nil_from_length}
use Rattle.ax_bits.proofs.Outputs.{length-unwritten}
use Rattle.ax_bits.proofs.Pieces.{bits-injective, AreOctets-items}
use Rattle.ax_bits.proofs.Words.{length-bits, length-word}
use Rattle.ax_bits.specs.Bits.{bits, word, AreOctets}
use Rattle.ax_bits.specs.Out.{Appends, room, written, unwritten}
use Rattle.ax_bits.specs.declared.output.Out.{Out}
use Rattle.ax_format.proofs.CanonFramed.{length-framed}
use Rattle.ax_format.specs.Bodies.{CanonBody}
use Rattle.ax_format.specs.CanonicalOctets.{octets_of, framed}
use Rattle.ax_format.specs.OfCode.{HasNoFlaw, BlockFits, block_octets, block_length}
use Rattle.ax_format.specs.Plain.{spec_tree, records_tree}
use Rattle.ax_format.specs.declared.record.Block.{Block}
use Rattle.ax_format.specs.declared.record.Block.TheVariants as BlockOf
use Rattle.ax_format.specs.declared.record.Record.{Record}
use Rattle.ax_format.specs.declared.spec.Spec.{Spec}
use Rattle.ax_values.proofs.WrittenRecords.{body_bits, body_octets, framed_bits, framed_octets, front_written}

-- a block of records
module _ (spec : Spec) (category : ℕ) (rs : List Record) (none : HasNoFlaw spec) (fits : BlockFits spec (BlockOf.Read category rs)) where
  read_bits : (n : ℕ) → n ≡ block_length spec (BlockOf.Read category rs) → bits (block_octets spec (BlockOf.Read category rs)) ≡ word 8 category ++ (word 16 n ++ CanonBody (spec_tree spec) (records_tree rs))
  read_bits n e =
      framed_bits category (octets_of (CanonBody (spec_tree spec) (records_tree rs))) n e
      ∙ ap (λ b. word 8 category ++ (word 16 n ++ b)) (body_bits (spec_tree spec) (records_tree rs) none fits.1 fits.2)

  read_octets : category < 256 → AreOctets (block_octets spec (BlockOf.Read category rs))
  read_octets lt = framed_octets category (octets_of (CanonBody (spec_tree spec) (records_tree rs))) lt (body_octets (spec_tree spec) (records_tree rs) none fits.1 fits.2)

module _ (spec : Spec) (block : Block) (category : ℕ) (rs : List Record) (none : HasNoFlaw spec) (fits : BlockFits spec block) (is : block ≡ BlockOf.Read category rs) where
  at_read : BlockFits spec (BlockOf.Read category rs)
  at_read = subst (BlockFits spec) is fits

  pub body_room : (old two : Out) (n : ℕ) → n ≡ block_length spec block → 8 * block_length spec block ≤ room old → Appends old two (word 8 category ++ word 16 n)
      → length (CanonBody (spec_tree spec) (records_tree rs)) ≤ room two
  body_room old two n e le a =
      let f : n ≡ block_length spec (BlockOf.Read category rs) = e ∙ ap (block_length spec) is in
      let all = length-bits (block_octets spec (BlockOf.Read category rs)) in
      let whole : length (bits (block_octets spec (BlockOf.Read category rs))) ≡ length (word 8 category) + (length (word 16 n) + length (CanonBody (spec_tree spec) (records_tree rs))) =
      ap length (read_bits spec category rs none at_read n f) ∙ length-append (word 8 category) (word 16 n ++ CanonBody (spec_tree spec) (records_tree rs))
      ∙ ap (λ k. length (word 8 category) + k) (length-append (word 16 n) (CanonBody (spec_tree spec) (records_tree rs))) in
      omega (arith, whole, all, ap (block_length spec) is, length-word 8 category, length-word 16 n, length-append (word 8 category) (word 16 n), a.room)

  pub read_written : (old two new : Out) (n : ℕ) → n ≡ block_length spec block → Appends old two (word 8 category ++ word 16 n) → Appends two new (CanonBody (spec_tree spec) (records_tree rs))
      → Appends old new (bits (block_octets spec block))
  read_written old two new n e a c =
      let f : n ≡ block_length spec (BlockOf.Read category rs) = e ∙ ap (block_length spec) is in
      front_written old two new category n (CanonBody (spec_tree spec) (records_tree rs)) (bits (block_octets spec block))
      (ap (λ block. bits (block_octets spec block)) is ∙ read_bits spec category rs none at_read n f) a c

  pub read_are_octets : category < 256 → AreOctets (block_octets spec block)
  read_are_octets lt = subst (λ block. AreOctets (block_octets spec block)) (sym is) (read_octets spec category rs none at_read lt)

-- ---- an opaque block

pub opaque_written : (old two new : Out) (category n : ℕ) (content : List ℕ) → n ≡ length content + 3 → Appends old two (word 8 category ++ word 16 n) → Appends two new (bits content) → Appends old new (bits (framed category content))
opaque_written old two new category n content e a c =
    let f : n ≡ length (framed category content) = omega (arith, e, length-framed category content) in
    front_written old two new category n (bits content) (bits (framed category content)) (framed_bits category content n f) a c

pub opaque_are_octets : (category : ℕ) (content : List ℕ) → category < 256 → AreOctets content → AreOctets (framed category content)
opaque_are_octets category content lt h = framed_octets category content lt h

pub ruleset opaque_blocks = (opaque_written, opaque_are_octets)

module _ (spec : Spec) (block : Block) (category : ℕ) (content : List ℕ) (is : block ≡ BlockOf.Opaque category content) where
  opaque_length : block_length spec block ≡ 3 + length content
  opaque_length = ap (block_length spec) is ∙ length-framed category content

  pub opaque_few : (n : ℕ) → n ≡ block_length spec block → n ≤ 65535 → length content ≤ 65532
  opaque_few n e le = omega (arith, e, le, opaque_length)

  pub opaque_room : (free : ℕ) → 8 * block_length spec block ≤ free → 24 + 8 * length content ≤ free
  opaque_room free le = omega (arith, le, opaque_length)

  pub of_opaque : (old new : Out) → Appends old new (bits (framed category content)) → Appends old new (bits (block_octets spec block))
  of_opaque old new h = subst (λ block. Appends old new (bits (block_octets spec block))) (sym is) h

  pub octets_of_opaque : AreOctets (framed category content) → AreOctets (block_octets spec block)
  octets_of_opaque h = subst (λ block. AreOctets (block_octets spec block)) (sym is) h

-- ---- a full buffer

pub filled : (old new : Out) (n : ℕ) (xs : List ℕ) → written old ≡ [] → room old ≡ 8 * n → n ≡ length xs → Appends old new (bits xs) → bits new.buffer.now ≡ bits xs
filled old new n xs none full e a =
    let rest : unwritten new ≡ [] = nil_from_length (unwritten new) (omega (arith, length-unwritten new, a.room, length-bits xs)) in
    sym (take-append-drop new.count (bits new.buffer.now)) ∙ (λ i. a.written i ++ rest i) ∙ append-nil (written old ++ bits xs) ∙ ap (λ t. t ++ bits xs) none

pub same_octets : (xs ys : List ℕ) → ((i : ℕ) → get_or xs i 0 < 256) → AreOctets ys → bits xs ≡ bits ys → xs ≡ ys
same_octets xs ys h t e = bits-injective xs ys (AreOctets-items xs h) t e

pub front_room : (spec : Spec) (block : Block) → 3 ≤ block_length spec block
front_room spec (BlockOf.Read category rs) = omega (arith, length-framed category (octets_of (CanonBody (spec_tree spec) (records_tree rs))))
front_room spec (BlockOf.Opaque category content) = omega (arith, length-framed category content)
