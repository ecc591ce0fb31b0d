-- Lists of values of fixed kinds that are built: parts of extended and closed items, and occurrences by FX.
use Rattle.std.proofs.Common.{◌≡◌, ℕ, ◌<◌, List, [], ◌∷◌, ◌++◌, length, map, refl, sym, ◌∙◌, ap, subst, arith, append_assoc}
use Rattle.std.proofs.lemmas.List.{length-map}
use Rattle.ax_bits.specs.Bits.{word}
use Rattle.ax_printed_lines.specs.Laid.{Lays}
use Rattle.ax_printed_lines.specs.declared.laid.LaidBits.{LaidBits}
use Rattle.ax_text_form.proofs.Onto.{fixed_more, part_more}
use Rattle.ax_format.specs.Canonical.{fixed_canon, members_canon, parts_canon, run_canon}
use Rattle.ax_format.specs.InBounds.{MembersInBounds, PartsInBounds}
use Rattle.ax_format.specs.Shape.{FixedShape, MembersShape, PartsShape, EachShape}
use Rattle.ax_format.specs.Tree.{FixedTree, MembersTree, ValueTree, ValuesTree, no_values, value_and, value_count, ListsTree, no_lists, list_and}
use Rattle.ax_format.specs.Widths.{fx_width}
use Rattle.ax_format.specs.declared.kind.LastPart.{LastPart}
use Rattle.ax_text_form.proofs.WordTokens.{part_is_word}
use Rattle.ax_text_form.specs.ValueText.{Texts, opening, closing, part_word, fixed_onto, members_onto, part_onto, parts_onto, each_onto}
use Rattle.ax_printed_lines.specs.Printed.{Place, Goes, IsBuilt, IsOneWord}
use Rattle.ax_text_lines.specs.HeldText.{text_part}
use Rattle.ax_text_lines.specs.declared.drafting.TextPart.{TextPart}
use Rattle.ax_printed_lines.proofs.Building.{built_after, Partly, partly_first, partly_more, partly_done, built_and}
use Rattle.ax_printed_lines.proofs.FixedBuilt.{FixedIsBuilt, MembersAreBuilt}
use Rattle.ax_printed_lines.proofs.Going.{goes_both, one_word}

-- ---- a part

abbrev pub PartIsBuilt : MembersTree → Place → Place → LaidBits → LaidBits → Type 0
PartIsBuilt p old new before after = IsBuilt (MembersShape p) (λ vs. part_onto p vs []) (members_canon p) old new before after

abbrev pub PartsAreBuilt : LastPart → List MembersTree → Place → Place → LaidBits → LaidBits → Type 0
PartsAreBuilt last ps old new before after = IsBuilt (PartsShape ps) (λ ls. parts_onto ps ls (closing ∷ [])) (parts_canon last ps) old new before after

pub part_built : (p : MembersTree) (old mid inner new : Place) (before after : LaidBits) → (IsOneWord part_word → Goes old mid (part_word ∷ [])) → Goes mid inner (opening ∷ []) → MembersAreBuilt p inner new before after → PartIsBuilt p old new before after
part_built p old mid inner new before after g o b =
    built_after (MembersShape p) (λ vs. members_onto p vs (closing ∷ [])) (members_canon p) (MembersShape p) (λ vs. part_onto p vs []) (members_canon p) (part_word ∷ opening ∷ []) old inner new before after
    (goes_both old mid inner (part_word ∷ []) (opening ∷ []) (g (one_word part_word part_is_word)) o) b (λ vs h. (vs, h, refl, refl))

-- ---- parts

pub record PartsLeft (last : LastPart) (ps all : List MembersTree) (old now : Place) (before after : LaidBits) : Type 0 where
  pub built : Partly (PartsShape all) (λ ls. parts_onto all ls (closing ∷ [])) (parts_canon last all) (PartsShape ps) (λ ls. parts_onto ps ls (closing ∷ [])) (parts_canon last ps) old now before after
  pub bounds : PartsInBounds last ps

pub parts_first : (last : LastPart) (ps : List MembersTree) (old : Place) (out : LaidBits) → PartsInBounds last ps → PartsLeft last ps ps old old out out
parts_first last ps old out h = record { built = partly_first (PartsShape ps) (λ ls. parts_onto ps ls (closing ∷ [])) (parts_canon last ps) old out; bounds = h }

-- a part, and later ones
parts_and : (last : LastPart) (p : MembersTree) (ps : List MembersTree) (vs : ValuesTree) (ls : ListsTree) → MembersShape p vs → PartsShape ps ls
    → (y : ListsTree) × PartsShape (p ∷ ps) y × (parts_onto (p ∷ ps) y (closing ∷ []) ≡ part_onto p vs [] ++ parts_onto ps ls (closing ∷ [])) × (parts_canon last (p ∷ ps) y ≡ (members_canon p vs ++ 1 ∷ []) ++ parts_canon last ps ls)
parts_and last p ps vs no_lists h k = absurd k
parts_and last p ps vs (list_and ws ls) h k =
    (list_and vs (list_and ws ls), (h, k), sym (part_more p vs [] (parts_onto ps (list_and ws ls) (closing ∷ []))), sym (append_assoc (members_canon p vs) (1 ∷ []) (parts_canon last ps (list_and ws ls))))

with_bit : (p : MembersTree) (old new : Place) (before mid after : LaidBits) (bit : ℕ) → PartIsBuilt p old new before mid → Lays mid after (bit ∷ []) → IsBuilt (MembersShape p) (λ vs. part_onto p vs []) (λ vs. members_canon p vs ++ bit ∷ []) old new before after
with_bit p old new before mid after bit b a =
    built_and (MembersShape p) (λ vs. part_onto p vs []) (members_canon p) (MembersShape p) (λ vs. part_onto p vs []) (λ vs. members_canon p vs ++ bit ∷ []) [] (bit ∷ []) old new new before mid after b (record { left = refl; keeps = λ rest k. k }) a
    (λ vs h. (vs, h, sym (part_more p vs [] []), refl))

one_part : (last : LastPart) (p : MembersTree) (ps all : List MembersTree) (old now new : Place) (before mid inner after : LaidBits) → PartsLeft last (p ∷ ps) all old now before mid → PartIsBuilt p now new mid inner → Lays inner after (1 ∷ []) → PartsLeft last ps all old new before after
one_part last p ps all old now new before mid inner after l b a = record {
  built = partly_more (PartsShape all) (λ ls. parts_onto all ls (closing ∷ [])) (parts_canon last all) (PartsShape (p ∷ ps)) (λ ls. parts_onto (p ∷ ps) ls (closing ∷ [])) (parts_canon last (p ∷ ps)) (MembersShape p) (λ vs. part_onto p vs []) (λ vs. members_canon p vs ++ 1 ∷ [])
      (PartsShape ps) (λ ls. parts_onto ps ls (closing ∷ [])) (parts_canon last ps) old now new before mid after l.built (with_bit p now new mid inner after 1 b a) (λ vs ls h k. parts_and last p ps vs ls h k);
  bounds = l.bounds.1;
}

no_part : (ps : List MembersTree) (x : Texts) → parts_onto ps no_lists x ≡ x
no_part [] x = refl
no_part (p ∷ ps) x = refl

last_part : (last : LastPart) (p : MembersTree) (ps all : List MembersTree) (old now mid new : Place) (before middle inner after : LaidBits) → PartsLeft last (p ∷ ps) all old now before middle → PartIsBuilt p now mid middle inner → Goes mid new (closing ∷ []) → Lays inner after (word (fx_width last (length ps)) 0)
    → PartsAreBuilt last all old new before after
last_part last p ps all old now mid new before middle inner after l b g a =
    let fx = word (fx_width last (length ps)) 0 in
    partly_done (PartsShape all) (λ ls. parts_onto all ls (closing ∷ [])) (parts_canon last all) (PartsShape (p ∷ ps)) (λ ls. parts_onto (p ∷ ps) ls (closing ∷ [])) (parts_canon last (p ∷ ps)) old now new before middle after l.built
    (built_and (MembersShape p) (λ vs. part_onto p vs []) (members_canon p) (PartsShape (p ∷ ps)) (λ ls. parts_onto (p ∷ ps) ls (closing ∷ [])) (parts_canon last (p ∷ ps)) (closing ∷ []) fx now mid new middle inner after b g a
    (λ vs h. (list_and vs no_lists, h, ap (part_onto p vs) (no_part ps (closing ∷ [])) ∙ sym (part_more p vs [] (closing ∷ [])), refl)))

-- the first of the parts that are left
module _ (last : LastPart) (p : TextPart) (left later : List TextPart) (at : left ≡ p ∷ later) where
  pub part_bounds : (all : List MembersTree) (old now : Place) (before after : LaidBits) → PartsLeft last (map text_part left) all old now before after → MembersInBounds (text_part p)
  part_bounds all old now before after l = (subst (PartsInBounds last) (ap (map text_part) at) l.bounds).0.2

  pub part_next : (all : List MembersTree) (old now new : Place) (before mid inner after : LaidBits) → PartsLeft last (map text_part left) all old now before mid → PartIsBuilt (text_part p) now new mid inner → Lays inner after (1 ∷ []) → PartsLeft last (map text_part later) all old new before after
  part_next all old now new before mid inner after l b a =
      one_part last (text_part p) (map text_part later) all old now new before mid inner after (subst (λ ps. PartsLeft last ps all old now before mid) (ap (map text_part) at) l) b a

  pub part_last : (all : List MembersTree) (old now mid new : Place) (before middle inner after : LaidBits) → PartsLeft last (map text_part left) all old now before middle → PartIsBuilt (text_part p) now mid middle inner → Goes mid new (closing ∷ []) → Lays inner after (word (fx_width last (length later)) 0)
      → PartsAreBuilt last all old new before after
  part_last all old now mid new before middle inner after l b g a =
      last_part last (text_part p) (map text_part later) all old now mid new before middle inner after (subst (λ ps. PartsLeft last ps all old now before middle) (ap (map text_part) at) l) b g
      (subst (λ n. Lays inner after (word (fx_width last n) 0)) (sym (length-map later text_part)) a)

-- ---- occurrences by FX

abbrev pub SomeFixed : FixedTree → ValuesTree → Type 0
SomeFixed f vs = (0 < value_count vs) × EachShape (FixedShape f) vs

abbrev pub RunIsBuilt : FixedTree → Place → Place → LaidBits → LaidBits → Type 0
RunIsBuilt f old new before after = IsBuilt (SomeFixed f) (λ vs. each_onto (fixed_onto f) vs (closing ∷ [])) (run_canon f) old new before after

abbrev pub RunLeft : FixedTree → Place → Place → LaidBits → LaidBits → Type 0
RunLeft f old now before after =
    Partly (SomeFixed f) (λ vs. each_onto (fixed_onto f) vs (closing ∷ [])) (run_canon f) (SomeFixed f) (λ vs. each_onto (fixed_onto f) vs (closing ∷ [])) (run_canon f) old now before after

pub run_first : (f : FixedTree) (old : Place) (out : LaidBits) → RunLeft f old old out out
run_first f old out = partly_first (SomeFixed f) (λ vs. each_onto (fixed_onto f) vs (closing ∷ [])) (run_canon f) old out

run_and : (f : FixedTree) (v : ValueTree) (vs : ValuesTree) → FixedShape f v → SomeFixed f vs
    → (y : ValuesTree) × SomeFixed f y × (each_onto (fixed_onto f) y (closing ∷ []) ≡ fixed_onto f v [] ++ each_onto (fixed_onto f) vs (closing ∷ [])) × (run_canon f y ≡ (fixed_canon f v ++ 1 ∷ []) ++ run_canon f vs)
run_and f v no_values h k = absurd (omega (arith, k.0))
run_and f v (value_and w vs) h k =
    (value_and v (value_and w vs), (omega arith, (h, k.1)), sym (fixed_more f v [] (each_onto (fixed_onto f) (value_and w vs) (closing ∷ []))), sym (append_assoc (fixed_canon f v) (1 ∷ []) (run_canon f (value_and w vs))))

pub run_next : (f : FixedTree) (old now new : Place) (before mid inner after : LaidBits) → RunLeft f old now before mid → FixedIsBuilt f now new mid inner → Lays inner after (1 ∷ []) → RunLeft f old new before after
run_next f old now new before mid inner after l b a =
    partly_more (SomeFixed f) (λ vs. each_onto (fixed_onto f) vs (closing ∷ [])) (run_canon f) (SomeFixed f) (λ vs. each_onto (fixed_onto f) vs (closing ∷ [])) (run_canon f) (FixedShape f) (λ v. fixed_onto f v []) (λ v. fixed_canon f v ++ 1 ∷ [])
    (SomeFixed f) (λ vs. each_onto (fixed_onto f) vs (closing ∷ [])) (run_canon f) old now new before mid after l
    (built_and (FixedShape f) (λ v. fixed_onto f v []) (fixed_canon f) (FixedShape f) (λ v. fixed_onto f v []) (λ v. fixed_canon f v ++ 1 ∷ []) [] (1 ∷ []) now new new mid inner after b (record { left = refl; keeps = λ rest k. k }) a (λ v h. (v, h, sym (fixed_more f v [] []), refl)))
    (λ v vs h k. run_and f v vs h k)

pub run_last : (f : FixedTree) (old now mid new : Place) (before middle inner after : LaidBits) → RunLeft f old now before middle → FixedIsBuilt f now mid middle inner → Goes mid new (closing ∷ []) → Lays inner after (0 ∷ []) → RunIsBuilt f old new before after
run_last f old now mid new before middle inner after l b g a =
    partly_done (SomeFixed f) (λ vs. each_onto (fixed_onto f) vs (closing ∷ [])) (run_canon f) (SomeFixed f) (λ vs. each_onto (fixed_onto f) vs (closing ∷ [])) (run_canon f) old now new before middle after l
    (built_and (FixedShape f) (λ v. fixed_onto f v []) (fixed_canon f) (SomeFixed f) (λ vs. each_onto (fixed_onto f) vs (closing ∷ [])) (run_canon f) (closing ∷ []) (0 ∷ []) now mid new middle inner after b g a
    (λ v h. (value_and v no_values, (omega arith, (h, tt)), sym (fixed_more f v [] (closing ∷ [])), refl)))
