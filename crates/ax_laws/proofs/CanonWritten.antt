-- What `canon` writes for blocks, one after another.
use Rattle.std.proofs.Common.{◌≡◌, ℕ, ◌+◌, List, [], ◌∷◌, ◌++◌, Option, Some, None, refl, sym, ◌∙◌, ap}
use Rattle.ax_format.specs.Blocks.{BlockTree, read_block, opaque_block, SpellsBlock, SpellsStream}
use Rattle.ax_format.specs.CanonicalOctets.{CanonBytes, canon_block, canon_over, framed, category_of}
use Rattle.ax_format.specs.Specification.{SpecTree, spec_of}
use Rattle.ax_blocks.specs.BlockCommands.{canon_command}
use Rattle.ax_blocks.specs.Commands.{octets_in, output_of, report_of}
use Rattle.ax_blocks.specs.Made.{over}

opaque_over : (o : Option SpecTree) (category : ℕ) (content : List ℕ) → canon_over o (opaque_block category content) ≡ framed category content
opaque_over None category content = refl
opaque_over (Some spec) category content = refl

one_written : (catalogue : List SpecTree) (number : ℕ) (block : BlockTree) (front : List ℕ) → SpellsBlock catalogue block front
    → octets_in ((canon_command catalogue).answer number block) ≡ canon_over (spec_of (category_of block) catalogue) block
one_written catalogue number (read_block category records) front s =
    ap (λ o. over canon_block o (read_block category records)) s.known ∙ sym (ap (λ o. canon_over o (read_block category records)) s.known)
one_written catalogue number (opaque_block category content) front s = sym (opaque_over (spec_of category catalogue) category content)

pub written : (catalogue : List SpecTree) (blocks : List BlockTree) (octets : List ℕ) (number : ℕ) → SpellsStream catalogue blocks octets → output_of (canon_command catalogue) number blocks ≡ CanonBytes catalogue blocks
written catalogue [] octets number s = refl
written catalogue (block ∷ blocks) octets number (front, rest, split, spelled, more) =
    ap (λ x. x ++ output_of (canon_command catalogue) (number + 1) blocks) (one_written catalogue number block front spelled)
    ∙ ap (λ y. canon_over (spec_of (category_of block) catalogue) block ++ y) (written catalogue blocks rest (number + 1) more)

pub reported : (catalogue : List SpecTree) (blocks : List BlockTree) (number : ℕ) → report_of (canon_command catalogue) number blocks ≡ []
reported catalogue [] number = refl
reported catalogue (block ∷ blocks) number = reported catalogue blocks (number + 1)
