-- Blocks as they are encoded, one after another, and the octets of all.
use Rattle.std.proofs.Common.{◌≡◌, ℕ, ◌+◌, ◌<◌, ◌≤◌, List, [], ◌∷◌, ◌++◌, flat_map, length, map, take, drop, get_or, Option, Some, None, refl, sym, ◌∙◌, ap, arith, subst}
use Rattle.std.proofs.lemmas.List.{take_all, take_more, map-append, length-append}
use Rattle.std.specs.List.{AllByRecursion}
use Rattle.std.specs.Option.{option_map}
use Rattle.ax_convert_work.specs.ConvertCommand.{told_octets}
use Rattle.ax_convert_work.specs.Making.{AreDataBlocks, NoDataBlocks, octets_in}
use Rattle.ax_convert_work.specs.declared.blocks.DataBlock.{DataBlock}
use Rattle.ax_format.proofs.Namings.{from_place}
use Rattle.ax_format.specs.Blocks.{BlockTree, read_block}
use Rattle.ax_format.specs.CanonicalOctets.{canon_block}
use Rattle.ax_format.specs.Lengths.{capped}
use Rattle.ax_format.specs.OfCode.{block_octets}
use Rattle.ax_format.specs.Plain.{spec_tree, block_tree, records_tree}
use Rattle.ax_format.specs.Split.{Split, first_too_long}
use Rattle.ax_format.specs.declared.record.Block.{Block}
use Rattle.ax_format.specs.declared.record.Block.TheVariants as BlockOf
use Rattle.ax_format.specs.declared.spec.Spec.{Spec}
use Rattle.ax_rescale.specs.Splits.{ArePieces, IsPiece, IsRead, long_octets, records_in}
use Rattle.ax_blocks.specs.declared.work.WorkStop.TheVariants.{TooLong}

-- ---- lists

-- texts that are equal one by one are equal together
same_joined : {A B : Type 0} (f : A → List ℕ) (g : B → List ℕ) (xs : List A) (ys : List B) → map f xs ≡ map g ys → flat_map f xs ≡ flat_map g ys
same_joined f g [] [] e = refl
same_joined f g [] (y ∷ ys) e = absurd (cc)
same_joined f g (x ∷ xs) [] e = absurd (cc)
same_joined f g (x ∷ xs) (y ∷ ys) e =
    let head : f x ≡ g y = cc in
    let tail : map f xs ≡ map g ys = cc in
    let rest = same_joined f g xs ys tail in λ i. head i ++ rest i

map_twice : {A B C : Type 0} (f : B → C) (g : A → B) (xs : List A) → map f (map g xs) ≡ map (λ x. f (g x)) xs
map_twice f g [] = refl
map_twice f g (x ∷ xs) = ap (λ l. f (g x) ∷ l) (map_twice f g xs)

-- ---- a block of records

module _ (spec : Spec) where
  canon : BlockTree → List ℕ
  canon = canon_block (spec_tree spec)

  pub octets_of_pieces : (block : Block) (pieces : List Block) (blocks : List DataBlock) → IsRead block → ArePieces spec block pieces → map octets_in blocks ≡ map (block_octets spec) pieces → AreDataBlocks (spec_tree spec) (block_tree block) blocks
  unfolding canon
  octets_of_pieces (BlockOf.Read category records) pieces blocks read are same =
      let trees = Split (spec_tree spec) (records_tree records) in
      let each : map octets_in blocks ≡ map (λ rs. canon (read_block spec.category rs)) trees =
      same ∙ sym (map_twice canon block_tree pieces) ∙ ap (map canon) are.split ∙ map_twice canon (read_block spec.category) trees in
      (are.none_long, same_joined octets_in (λ rs. canon (read_block spec.category rs)) blocks trees each)
  octets_of_pieces (BlockOf.Opaque category octets) pieces blocks read are same = absurd read

-- ---- one after another

-- the octets of the first blocks
pub record Encoded (spec : Spec) (pieces : List Block) (made : List DataBlock) (i : ℕ) : Type 0 where
  pub counted : length made ≡ i
  pub made_is : map octets_in made ≡ map (block_octets spec) (take i pieces)
  pub left : AllByRecursion (IsPiece spec) (drop i pieces)

module _ (spec : Spec) (pieces : List Block) where
  pub encoded_none : (made : List DataBlock) → made ≡ [] → AllByRecursion (IsPiece spec) pieces → Encoded spec pieces made 0
  encoded_none made e each = record { counted = ap (λ (l : List DataBlock). length l) e; made_is = ap (map octets_in) e; left = each }

  module _ (made : List DataBlock) (i : ℕ) (items : List Block) (same : items ≡ pieces) (one : Block) (within : i < length items) (is : one ≡ get_or items i one) (g : Encoded spec pieces made i) where
    in_pieces : i < length pieces
    in_pieces = omega (arith, within, ap (λ (l : List Block). length l) same)

    one_there : one ≡ get_or pieces i one
    one_there = is ∙ ap (λ (l : List Block). get_or l i one) same

    here : IsPiece spec one × AllByRecursion (IsPiece spec) (drop (i + 1) pieces)
    here = subst (λ (l : List Block). AllByRecursion (IsPiece spec) l) (from_place pieces i one in_pieces one_there) g.left

    pub encoded_piece : IsPiece spec one
    encoded_piece = here.0

    pub encoded_next : (made' : List DataBlock) (m : DataBlock) → made' ≡ made ++ m ∷ [] → octets_in m ≡ block_octets spec one → Encoded spec pieces made' (i + 1)
    encoded_next made' m pushed e = record {
      counted = ap (λ (l : List DataBlock). length l) pushed ∙ length-append made (m ∷ []) ∙ ap (λ k. k + 1) g.counted;
      made_is =
          ap (map octets_in) pushed ∙ map-append octets_in made (m ∷ []) ∙ (λ j. g.made_is j ++ e j ∷ [])
          ∙ sym (ap (map (block_octets spec)) (take_more pieces i one in_pieces ∙ ap (λ x. take i pieces ++ x ∷ []) (sym one_there)) ∙ map-append (block_octets spec) (take i pieces) (one ∷ []));
      left = here.1;
    }

  pub encoded_all : (made : List DataBlock) (i : ℕ) → length pieces ≤ i → Encoded spec pieces made i → map octets_in made ≡ map (block_octets spec) pieces
  encoded_all made i past g = g.made_is ∙ ap (map (block_octets spec)) (take_all i pieces past)

-- ---- what is told of a record that is too long

told_same : (found : Option ℕ) (octets count : ℕ) → option_map capped found ≡ Some octets → count ≡ told_octets octets → option_map told_octets found ≡ Some count
told_same None octets count e is = absurd (cc)
told_same (Some n) octets count e is =
    let o : capped n ≡ octets = cc in
    let t : told_octets n ≡ count = omega arith in ap Some t

pub told_long : (spec : Spec) (block : Block) (octets count : ℕ) → IsRead block → long_octets spec (records_in block) ≡ Some octets → count ≡ told_octets octets → NoDataBlocks (spec_tree spec) (block_tree block) (TooLong count)
told_long spec (BlockOf.Read category records) octets count read e is = told_same (first_too_long (spec_tree spec) (records_tree records)) octets count e is
told_long spec (BlockOf.Opaque category content) octets count read e is = absurd read

pub ruleset encoding = (octets_of_pieces, told_long)
