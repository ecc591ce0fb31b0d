-- Blocks of so many of the records each, and of the lists that the records are split into.
use Rattle.std.proofs.Common.{◌≡◌, ℕ, ◌≤◌, List, [], ◌∷◌, ◌++◌, length, map, refl, sym, ◌∙◌, ap, subst, arith, append-nil, length-append}
use Rattle.std.proofs.Math.Seq.{take-append_seam, drop-append_seam}
use Rattle.std.proofs.lemmas.List.{length-map}
use Rattle.std.specs.List.{AllByRecursion}
use Rattle.ax_format.proofs.SplitLists.{all_fit, none_long}
use Rattle.ax_format.specs.Blocks.{read_block}
use Rattle.ax_format.specs.CanonicalOctets.{canon_length}
use Rattle.ax_format.specs.LongestFronts.{AllFit}
use Rattle.ax_format.specs.OfCode.{BlockFits}
use Rattle.ax_format.specs.Plain.{block_tree, records_tree, spec_tree}
use Rattle.ax_format.specs.Sizes.{longest_block}
use Rattle.ax_format.specs.declared.record.Block.{Block}
use Rattle.ax_format.specs.declared.record.Block.TheVariants as BlockOf
use Rattle.ax_format.specs.declared.record.Record.{Record}
use Rattle.ax_format.specs.declared.spec.Spec.{Spec}
use Rattle.ax_rescale.proofs.FrontSteps.{AreShaped}
use Rattle.ax_rescale.specs.Splits.{AreFronts, ArePieces, AreThere, IsPiece, all_records, pieces_of}

abbrev lengths : List (List Record) → List ℕ
lengths lists = map (λ (l : List Record). length l) lists

abbrev blocks : ℕ → List (List Record) → List Block
blocks category lists = map (λ (l : List Record). BlockOf.Read category l) lists

all_there : (lists : List (List Record)) → AreThere (lengths lists) (all_records lists)
all_there [] = tt
all_there (l ∷ lists) = (omega (arith, length-append l (all_records lists)), subst (AreThere (lengths lists)) (sym (drop-append_seam l (all_records lists))) (all_there lists))

all_pieces : (category : ℕ) (lists : List (List Record)) → pieces_of category (lengths lists) (all_records lists) ≡ blocks category lists
all_pieces category [] = refl
all_pieces category (l ∷ lists) =
    (λ i. BlockOf.Read category (take-append_seam l (all_records lists) i) ∷ pieces_of category (lengths lists) (drop-append_seam l (all_records lists) i)) ∙ ap (λ x. BlockOf.Read category l ∷ x) (all_pieces category lists)

block_trees : (category : ℕ) (lists : List (List Record)) → map block_tree (blocks category lists) ≡ map (read_block category) (map records_tree lists)
block_trees category [] = refl
block_trees category (l ∷ lists) = ap (λ x. read_block category (records_tree l) ∷ x) (block_trees category lists)

only_list : (lists : List (List Record)) (records : List Record) → length lists ≡ 1 → all_records lists ≡ records → lists ≡ records ∷ []
only_list [] records one e = absurd (omega (arith, one))
only_list (l ∷ []) records one e = ap (λ x. x ∷ []) (sym (append-nil l) ∙ e)
only_list (l ∷ k ∷ lists) records one e = absurd (omega (arith, one))

-- ---- each block

front_shaped : (spec : Spec) (l rest : List Record) → AreShaped spec (l ++ rest) → AreShaped spec l
front_shaped spec [] rest h = tt
front_shaped spec (r ∷ l) rest h = (h.0, front_shaped spec l rest h.1)

rest_shaped : (spec : Spec) (l rest : List Record) → AreShaped spec (l ++ rest) → AreShaped spec rest
rest_shaped spec [] rest h = h
rest_shaped spec (r ∷ l) rest h = rest_shaped spec l rest h.1

each_piece : (spec : Spec) (category : ℕ) (lists : List (List Record)) → category ≡ spec.category → AreShaped spec (all_records lists) → AllFit longest_block (spec_tree spec) (map records_tree lists)
    → AllByRecursion (IsPiece spec) (blocks category lists)
each_piece spec category [] same h fit = tt
each_piece spec category (l ∷ lists) same h fit = (
  record {
    fits = (same, fit.0, front_shaped spec l (all_records lists) h);
    read = tt;
    short = subst (λ n. n ≤ longest_block) (ap (λ k. canon_length (spec_tree spec) (read_block k (records_tree l))) (sym same)) fit.1;
  },
  each_piece spec category lists same (rest_shaped spec l (all_records lists) h) fit.2,
)

module _ (spec : Spec) (category : ℕ) (records : List Record) (counts : List ℕ) (f : AreFronts spec records counts) where
  pub there : AreThere counts records
  there = subst (AreThere counts) f.joined (subst (λ x. AreThere x (all_records f.lists)) f.counted (all_there f.lists))

  fronts_fit : AllFit longest_block (spec_tree spec) (map records_tree f.lists)
  fronts_fit = subst (AllFit longest_block (spec_tree spec)) (sym f.split) (all_fit longest_block (spec_tree spec) (records_tree records) (none_long longest_block (spec_tree spec) (records_tree records) f.none_long))

  -- the pieces that the lists make
  are_pieces : category ≡ spec.category → (pieces : List Block) → pieces ≡ blocks category f.lists → ArePieces spec (BlockOf.Read category records) pieces
  are_pieces same pieces e = record {
    split = ap (map block_tree) e ∙ block_trees category f.lists ∙ (λ i. map (read_block (same i)) (f.split i));
    none_long = f.none_long;
  }

  are_each : BlockFits spec (BlockOf.Read category records) → (pieces : List Block) → pieces ≡ blocks category f.lists → AllByRecursion (IsPiece spec) pieces
  are_each fits pieces e = subst (AllByRecursion (IsPiece spec)) (sym e) (each_piece spec category f.lists fits.0 (subst (AreShaped spec) (sym f.joined) fits.2) fronts_fit)

  cut_is : (pieces : List Block) → pieces ≡ pieces_of category counts records → pieces ≡ blocks category f.lists
  cut_is pieces e = e ∙ (λ i. pieces_of category (sym f.counted i) (sym f.joined i)) ∙ all_pieces category f.lists

  one_is : length counts ≡ 1 → (pieces : List Block) → pieces ≡ BlockOf.Read category records ∷ [] → pieces ≡ blocks category f.lists
  one_is one pieces e = e ∙ ap (blocks category) (sym (only_list f.lists records (sym (length-map f.lists (λ (l : List Record). length l)) ∙ ap length f.counted ∙ one) f.joined))

  pub cut_pieces : category ≡ spec.category → (pieces : List Block) → pieces ≡ pieces_of category counts records → ArePieces spec (BlockOf.Read category records) pieces
  cut_pieces same pieces e = are_pieces same pieces (cut_is pieces e)

  pub cut_each : BlockFits spec (BlockOf.Read category records) → (pieces : List Block) → pieces ≡ pieces_of category counts records → AllByRecursion (IsPiece spec) pieces
  cut_each fits pieces e = are_each fits pieces (cut_is pieces e)

  pub one_piece : category ≡ spec.category → length counts ≡ 1 → (pieces : List Block) → pieces ≡ BlockOf.Read category records ∷ [] → ArePieces spec (BlockOf.Read category records) pieces
  one_piece same one pieces e = are_pieces same pieces (one_is one pieces e)

  pub one_each : BlockFits spec (BlockOf.Read category records) → length counts ≡ 1 → (pieces : List Block) → pieces ≡ BlockOf.Read category records ∷ [] → AllByRecursion (IsPiece spec) pieces
  one_each fits one pieces e = are_each fits pieces (one_is one pieces e)
