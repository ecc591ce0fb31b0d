-- Records split one after another: what holds of those that were gone over, and how it goes on.
use Rattle.std.proofs.Common.{◌≡◌, ℕ, suc, ◌+◌, ◌<◌, ◌≤◌, Bool, true, false, cond, List, [], ◌∷◌, ◌++◌, length, map, drop, get_or, Some, None, refl, sym, ◌∙◌, ap, subst, arith, add-one, append_assoc, append-nil, length-append, drop-cons}
use Rattle.std.proofs.lemmas.Bool.{le-leb, lt-leb}
use Rattle.std.proofs.lemmas.List.{map-append, drop_all}
use Rattle.std.proofs.lemmas.List.Concat.{flat_map-append}
use Rattle.std.specs.List.{AllByRecursion}
use Rattle.std.specs.Option.{option_map}
use Rattle.ax_format.proofs.BlockLengths.{read_length}
use Rattle.ax_format.proofs.SplitLists.{none_long}
use Rattle.ax_format.specs.Bodies.{RecordShape}
use Rattle.ax_format.specs.Lengths.{capped, record_octets, records_octets}
use Rattle.ax_format.specs.OfCode.{HasNoFlaw}
use Rattle.ax_format.specs.Plain.{record_tree, records_tree, spec_tree}
use Rattle.ax_format.specs.Specification.{SpecTree}
use Rattle.ax_format.specs.Split.{EachFits, fits_within, records_length, split_after, split_within, too_long_within}
use Rattle.ax_format.specs.Tree.{EntriesTree}
use Rattle.ax_format.specs.declared.record.Record.{Record}
use Rattle.ax_format.specs.declared.spec.Spec.{Spec}
use Rattle.ax_rescale.specs.Splits.{AreFronts, all_records, long_octets}

abbrev pub AreShaped : Spec → List Record → Type 0
AreShaped spec rs = AllByRecursion (RecordShape (spec_tree spec)) (records_tree rs)

-- ---- octets

octets_counted : (spec : Spec) (rs : List Record) → HasNoFlaw spec → AreShaped spec rs → capped (capped (records_octets spec rs) + 3) ≡ capped (records_length (spec_tree spec) (records_tree rs))
octets_counted spec rs none h = read_length spec spec.category rs (capped (capped (records_octets spec rs) + 3)) none h refl

short_fits : (spec : Spec) (rs : List Record) → HasNoFlaw spec → AreShaped spec rs → records_octets spec rs + 3 ≤ 65535 → fits_within 65535 (spec_tree spec) (records_tree rs) ≡ true
short_fits spec rs none h le = le-leb (records_length (spec_tree spec) (records_tree rs)) 65535 (omega (arith, octets_counted spec rs none h, le))

long_never : (spec : Spec) (rs : List Record) → HasNoFlaw spec → AreShaped spec rs → 65535 < records_octets spec rs + 3 → fits_within 65535 (spec_tree spec) (records_tree rs) ≡ false
long_never spec rs none h lt = lt-leb (records_length (spec_tree spec) (records_tree rs)) 65535 (omega (arith, octets_counted spec rs none h, lt))

octets_more : (spec : Spec) (rs : List Record) (r : Record) → records_octets spec (rs ++ r ∷ []) ≡ records_octets spec rs + record_octets spec r
octets_more spec [] r = omega arith
octets_more spec (x ∷ rs) r = omega (arith, octets_more spec rs r)

shaped_more : (spec : Spec) (rs : List Record) (r : Record) → AreShaped spec rs → RecordShape (spec_tree spec) (record_tree r) → AreShaped spec (rs ++ r ∷ [])
shaped_more spec [] r h k = (k, tt)
shaped_more spec (x ∷ rs) r h k = (h.0, shaped_more spec rs r h.1 k)

some_taken : (spec : Spec) (rs : List Record) → 0 < records_octets spec rs → 0 < length rs
some_taken spec [] some = absurd (omega (arith, some))
some_taken spec (r ∷ rs) some = omega arith

-- ---- one record more

next_split : (room : ℕ) (spec : SpecTree) (taken : List EntriesTree) (r : EntriesTree) (rs : List EntriesTree) (b : Bool) → fits_within room spec (taken ++ r ∷ []) ≡ b
    → split_after room spec taken (r ∷ rs) ≡ cond b (split_after room spec (taken ++ r ∷ []) rs) (taken ∷ split_after room spec (r ∷ []) rs)
next_split room spec taken r rs b e = ap (λ x. cond x (split_after room spec (taken ++ r ∷ []) rs) (taken ∷ split_after room spec (r ∷ []) rs)) e

next_long : (room : ℕ) (spec : SpecTree) (r : EntriesTree) (rs : List EntriesTree) (b : Bool) → fits_within room spec (r ∷ []) ≡ b
    → too_long_within room spec (r ∷ rs) ≡ cond b (too_long_within room spec rs) (Some (records_length spec (r ∷ [])))
next_long room spec r rs b e = ap (λ x. cond x (too_long_within room spec rs) (Some (records_length spec (r ∷ [])))) e

first_split : (room : ℕ) (spec : SpecTree) (rs : List EntriesTree) → 0 < length rs → EachFits room spec rs → split_after room spec [] rs ≡ split_within room spec rs
first_split room spec [] some h = absurd (omega (arith, some))
first_split room spec (r ∷ rs) some h = next_split room spec [] r rs true (le-leb (records_length spec (r ∷ [])) room h.0)

-- ---- so far

-- the records before place i are those of the lists and c that were taken after them, whose block has so many octets
pub record AreGoneOver (spec : Spec) (rs : List Record) (i c octets : ℕ) (counts : List ℕ) : Type 0 where
  pub lists : List (List Record)
  pub taken : List Record
  pub joined : all_records lists ++ (taken ++ drop i rs) ≡ rs
  pub counted : map (λ (l : List Record). length l) lists ≡ counts
  pub count : c ≡ length taken
  pub weighed : octets ≡ records_octets spec taken + 3
  pub short : octets ≤ 65535
  pub shaped : AreShaped spec taken
  pub later : AreShaped spec (drop i rs)
  pub few : length counts + c ≤ i
  pub some : 0 < i → 0 < c
  pub split : EachFits 65535 (spec_tree spec) (records_tree rs) → map records_tree lists ++ split_after 65535 (spec_tree spec) (records_tree taken) (records_tree (drop i rs)) ≡ split_within 65535 (spec_tree spec) (records_tree rs)
  pub long : too_long_within 65535 (spec_tree spec) (records_tree (drop i rs)) ≡ too_long_within 65535 (spec_tree spec) (records_tree rs)

some_trees : (rs : List Record) → 0 < length rs → 0 < length (records_tree rs)
some_trees [] some = absurd (omega (arith, some))
some_trees (r ∷ rs) some = omega arith

pub begins : (spec : Spec) (rs : List Record) → 0 < length rs → AreShaped spec rs → AreGoneOver spec rs 0 0 3 []
begins spec rs some h = record {
  lists = [];
  taken = [];
  joined = refl;
  counted = refl;
  count = refl;
  weighed = refl;
  short = omega arith;
  shaped = tt;
  later = h;
  few = omega arith;
  some = λ lt. absurd (omega (arith, lt));
  split = first_split 65535 (spec_tree spec) (records_tree rs) (some_trees rs some);
  long = refl;
}

from_place : (rs : List Record) (i : ℕ) (r : Record) → i < length rs → r ≡ get_or rs i r → drop i rs ≡ r ∷ drop (i + 1) rs
from_place rs i r within e = drop-cons rs i r within ∙ ap (λ y. y ∷ drop (suc i) rs) (sym e) ∙ ap (λ n. r ∷ drop n rs) (sym (add-one i))

module _ (spec : Spec) (rs : List Record) (none : HasNoFlaw spec) (i c octets own : ℕ) (counts : List ℕ) (r : Record) (within : i < length rs) (is : r ≡ get_or rs i r) (measured : own ≡ capped (record_octets spec r)) (h : AreGoneOver spec rs i c octets counts) where
  abbrev T : SpecTree
  T = spec_tree spec

  abbrev rest : List Record
  rest = drop (i + 1) rs

  here : drop i rs ≡ r ∷ rest
  here = from_place rs i r within is

  shapes : AreShaped spec (r ∷ rest)
  shapes = subst (AreShaped spec) here h.later

  long_here : too_long_within 65535 T (records_tree (r ∷ rest)) ≡ too_long_within 65535 T (records_tree rs)
  long_here = ap (λ x. too_long_within 65535 T (records_tree x)) (sym here) ∙ h.long

  alone_counted : capped (capped (record_octets spec r + 0) + 3) ≡ capped (records_length T (record_tree r ∷ []))
  alone_counted = octets_counted spec (r ∷ []) none (shapes.0, tt)

  -- the record is too long by itself
  pub is_long : (alone : ℕ) → alone ≡ capped (own + 3) → 65535 < alone → long_octets spec (records_tree rs) ≡ Some alone
  is_long alone e lt =
      let never : fits_within 65535 T (record_tree r ∷ []) ≡ false = long_never spec (r ∷ []) none (shapes.0, tt) (omega (arith, e, lt, measured)) in
      let count : capped (records_length T (record_tree r ∷ [])) ≡ alone = omega (arith, alone_counted, measured, e) in
      ap (option_map capped) (sym long_here ∙ next_long 65535 T (record_tree r) (records_tree rest) false never) ∙ ap Some count

  module _ (alone : ℕ) (added : alone ≡ capped (own + 3)) (fits : alone ≤ 65535) where
    own_is : own ≡ record_octets spec r
    own_is = omega (arith, measured, added, fits)

    own_short : record_octets spec r + 0 + 3 ≤ 65535
    own_short = omega (arith, measured, added, fits)

    alone_fits : fits_within 65535 T (record_tree r ∷ []) ≡ true
    alone_fits = short_fits spec (r ∷ []) none (shapes.0, tt) own_short

    long_later : too_long_within 65535 T (records_tree rest) ≡ too_long_within 65535 T (records_tree rs)
    long_later = sym (next_long 65535 T (record_tree r) (records_tree rest) true alone_fits) ∙ long_here

    split_here : EachFits 65535 T (records_tree rs) → map records_tree h.lists ++ split_after 65535 T (records_tree h.taken) (records_tree (r ∷ rest)) ≡ split_within 65535 T (records_tree rs)
    split_here each = ap (λ x. map records_tree h.lists ++ split_after 65535 T (records_tree h.taken) (records_tree x)) (sym here) ∙ h.split each

    trees_more : records_tree (h.taken ++ r ∷ []) ≡ records_tree h.taken ++ record_tree r ∷ []
    trees_more = map-append record_tree h.taken (r ∷ [])

    more_shaped : AreShaped spec (h.taken ++ r ∷ [])
    more_shaped = shaped_more spec h.taken r h.shaped shapes.0

    -- it comes into the block of those before
    pub goes_on : octets + own ≤ 65535 → AreGoneOver spec rs (i + 1) (c + 1) (octets + own) counts
    goes_on le =
        let weight = octets_more spec h.taken r in
        let together : fits_within 65535 T (records_tree h.taken ++ record_tree r ∷ []) ≡ true =
        subst (λ x. fits_within 65535 T x ≡ true) trees_more (short_fits spec (h.taken ++ r ∷ []) none more_shaped (omega (arith, weight, own_is, h.weighed, le))) in
        record {
          lists = h.lists;
          taken = h.taken ++ r ∷ [];
          joined = ap (λ x. all_records h.lists ++ x) (append_assoc h.taken (r ∷ []) rest ∙ ap (λ x. h.taken ++ x) (sym here)) ∙ h.joined;
          counted = h.counted;
          count = omega (arith, h.count, length-append h.taken (r ∷ []));
          weighed = omega (arith, weight, own_is, h.weighed);
          short = le;
          shaped = more_shaped;
          later = shapes.1;
          few = let few = h.few in omega (arith, few);
          some = λ lt. omega arith;
          split = λ each. ap (λ x. map records_tree h.lists ++ x)
              (ap (λ x. split_after 65535 T x (records_tree rest)) trees_more ∙ sym (next_split 65535 T (records_tree h.taken) (record_tree r) (records_tree rest) true together)) ∙ split_here each;
          long = long_later;
        }

    -- it begins the next block
    pub goes_over : 65535 < octets + own → AreGoneOver spec rs (i + 1) 1 (3 + own) (counts ++ c ∷ [])
    goes_over lt =
        let weight = octets_more spec h.taken r in
        let never : fits_within 65535 T (records_tree h.taken ++ record_tree r ∷ []) ≡ false =
        subst (λ x. fits_within 65535 T x ≡ false) trees_more (long_never spec (h.taken ++ r ∷ []) none more_shaped (omega (arith, weight, own_is, h.weighed, lt))) in
        let some : 0 < length h.taken = some_taken spec h.taken (omega (arith, h.weighed, own_is, own_short, lt)) in
        record {
          lists = h.lists ++ h.taken ∷ [];
          taken = r ∷ [];
          joined = ap (λ x. x ++ (r ∷ rest)) (flat_map-append (λ (l : List Record). l) h.lists (h.taken ∷ []) ∙ ap (λ x. all_records h.lists ++ x) (append-nil h.taken))
              ∙ append_assoc (all_records h.lists) h.taken (r ∷ rest) ∙ ap (λ x. all_records h.lists ++ (h.taken ++ x)) (sym here) ∙ h.joined;
          counted = map-append (λ (l : List Record). length l) h.lists (h.taken ∷ []) ∙ (λ j. h.counted j ++ sym h.count j ∷ []);
          count = refl;
          weighed = omega (arith, own_is);
          short = omega (arith, own_is, own_short);
          shaped = (shapes.0, tt);
          later = shapes.1;
          few = omega (arith, h.few, h.count, some, length-append counts (c ∷ []));
          some = λ lt. omega arith;
          split = λ each. ap (λ x. x ++ split_after 65535 T (record_tree r ∷ []) (records_tree rest)) (map-append records_tree h.lists (h.taken ∷ []))
              ∙ append_assoc (map records_tree h.lists) (records_tree h.taken ∷ []) (split_after 65535 T (record_tree r ∷ []) (records_tree rest))
              ∙ ap (λ x. map records_tree h.lists ++ x) (sym (next_split 65535 T (records_tree h.taken) (record_tree r) (records_tree rest) false never)) ∙ split_here each;
          long = long_later;
        }

pub with_equals : (spec : Spec) (rs : List Record) (i c d o p : ℕ) (ns ms : List ℕ) → d ≡ c → p ≡ o → ms ≡ ns → AreGoneOver spec rs i c o ns → AreGoneOver spec rs i d p ms
with_equals spec rs i c d o p ns ms dc po mn h =
    subst (λ x. AreGoneOver spec rs i x p ms) (sym dc) (subst (λ x. AreGoneOver spec rs i c x ms) (sym po) (subst (λ x. AreGoneOver spec rs i c o x) (sym mn) h))

-- ---- all of them

pub few_fronts : (spec : Spec) (rs : List Record) (i c octets : ℕ) (counts : List ℕ) → 0 < length rs → length rs ≤ i → i < 4294967296 → AreGoneOver spec rs i c octets counts → length counts < 4294967295
few_fronts spec rs i c octets counts some past small h = let one = h.some (omega (arith, some, past)) in omega (arith, h.few, one, small)

pub ends : (spec : Spec) (rs : List Record) (i c octets : ℕ) (counts : List ℕ) → length rs ≤ i → AreGoneOver spec rs i c octets counts → AreFronts spec rs (counts ++ c ∷ [])
ends spec rs i c octets counts past h =
    let none : drop i rs ≡ [] = drop_all i rs past in
    let T = spec_tree spec in
    let long : too_long_within 65535 T (records_tree rs) ≡ None = sym h.long ∙ ap (λ x. too_long_within 65535 T (records_tree x)) none in
    record {
      lists = h.lists ++ h.taken ∷ [];
      joined = flat_map-append (λ (l : List Record). l) h.lists (h.taken ∷ []) ∙ ap (λ x. all_records h.lists ++ (h.taken ++ x)) (sym none) ∙ h.joined;
      counted = map-append (λ (l : List Record). length l) h.lists (h.taken ∷ []) ∙ (λ j. h.counted j ++ sym h.count j ∷ []);
      split = map-append records_tree h.lists (h.taken ∷ []) ∙ ap (λ x. map records_tree h.lists ++ split_after 65535 T (records_tree h.taken) (records_tree x)) (sym none)
          ∙ h.split (none_long 65535 T (records_tree rs) long);
      none_long = long;
    }
