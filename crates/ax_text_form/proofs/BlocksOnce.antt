-- The texts of a block determine it, under one catalogue.
use Rattle.std.proofs.Common.{◌≡◌, ℕ, ◌+◌, ◌/◌, ◌%◌, ◌==◌, Bool, true, false, cond, List, [], ◌∷◌, Option, Some, None, refl, sym, ◌∙◌, ap, arith, subst}
use Rattle.std.specs.Prelude.{codes}
use Rattle.std.specs.List.{AllByRecursion}
use Rattle.ax_format.specs.Blocks.{BlockTree, read_block, opaque_block}
use Rattle.ax_format.specs.Bodies.{RecordShape}
use Rattle.ax_format.specs.CanonicalOctets.{category_of}
use Rattle.ax_format.specs.Flaws.{NoFlaw}
use Rattle.ax_format.specs.Paths.{three_digits}
use Rattle.ax_format.specs.Specification.{SpecTree, record_slots, spec_of}
use Rattle.ax_format.specs.Streams.{FitsOver}
use Rattle.ax_format.specs.Tree.{EntriesTree}
use Rattle.ax_text_form.specs.BlockText.{records_onto}
use Rattle.ax_text_form.specs.Names.{SlotsNamed, IsNamed}
use Rattle.ax_text_form.specs.Readable.{SlotsReadable}
use Rattle.ax_text_form.specs.Tokens.{TextOver, IsOfCatalogue}
use Rattle.ax_text_form.specs.ValueText.{Texts, closing, hex_text}
use Rattle.ax_text_form.proofs.Readables.{record_readable, record_named}
use Rattle.ax_text_form.proofs.Unique.{heads, tails, different, same_hex, same_entries}

-- ---- categories

cons_parts : {A : Type 0} (a b : A) (x y : List A) → a ∷ x ≡ b ∷ y → (a ≡ b) × (x ≡ y)
cons_parts a b x y e = (cc, cc)

same_category : (n m : ℕ) → three_digits n ≡ three_digits m → n ≡ m
same_category n m e =
    let p = cons_parts (48 + n / 100) (48 + m / 100) ((48 + n / 10 % 10) ∷ (48 + n % 10) ∷ []) ((48 + m / 10 % 10) ∷ (48 + m % 10) ∷ []) e in
    let q = cons_parts (48 + n / 10 % 10) (48 + m / 10 % 10) ((48 + n % 10) ∷ []) ((48 + m % 10) ∷ []) p.1 in
    let r = cons_parts (48 + n % 10) (48 + m % 10) [] [] q.1 in
    omega (arith, p.0, q.0, r.0)

-- ---- records

same_records : (spec : SpecTree) (rs us : List EntriesTree) (x y : Texts) → SlotsReadable (record_slots spec) → SlotsNamed (record_slots spec) → AllByRecursion (RecordShape spec) rs → AllByRecursion (RecordShape spec) us
    → records_onto spec rs (closing ∷ x) ≡ records_onto spec us (closing ∷ y) → (rs ≡ us) × (x ≡ y)
same_records spec [] [] x y r n a b e = (refl, tails _ _ _ _ e)
same_records spec [] (u ∷ us) x y r n a b e = absurd (different (codes "record") closing refl (heads _ _ _ _ (sym e)))
same_records spec (v ∷ rs) [] x y r n a b e = absurd (different (codes "record") closing refl (heads _ _ _ _ e))
same_records spec (v ∷ rs) (u ∷ us) x y r n a b e =
    let s = same_entries 1 (record_slots spec) v u (records_onto spec rs (closing ∷ x)) (records_onto spec us (closing ∷ y)) r n a.0.shape b.0.shape (tails _ _ _ _ (tails _ _ _ _ e)) in
    let t = same_records spec rs us x y r n a.1 b.1 s.1 in
    (rw (s.0, t.0) refl, t.1)

-- ---- blocks

found_among : (P : SpecTree → Type 0) (category : ℕ) (catalogue : List SpecTree) (spec : SpecTree) → AllByRecursion P catalogue → spec_of category catalogue ≡ Some spec → P spec
found_among P category [] spec h e = absurd (none spec e)
  where
    none : (spec : SpecTree) → None ≡ Some spec → ⊥
    none spec e = cc
found_among P category (first ∷ catalogue) spec h e = choice (first.category == category) h.0 (found_among P category catalogue spec h.1) e
  where
    some_same : (a b : SpecTree) → Some a ≡ Some b → a ≡ b
    some_same a b e = cc

    choice : (b : Bool) → P first → (spec_of category catalogue ≡ Some spec → P spec) → cond b (Some first) (spec_of category catalogue) ≡ Some spec → P spec
    choice true p q e = subst P (some_same first spec e) p
    choice false p q e = q e

module _ (catalogue : List SpecTree) where
  abbrev good : SpecTree → Type 0
  good spec = NoFlaw spec × IsNamed spec

  -- two read blocks, over what the catalogue has for their category
  read_same : (o : Option SpecTree) (category : ℕ) (rs us : List EntriesTree) → ((spec : SpecTree) → o ≡ Some spec → good spec) → FitsOver o (read_block category rs) → FitsOver o (read_block category us)
      → TextOver o (read_block category rs) ≡ TextOver o (read_block category us) → rs ≡ us
  read_same None category rs us g a b e = absurd a
  read_same (Some spec) category rs us g a b e =
      let h = g spec refl in
      (same_records spec rs us [] [] (record_readable spec h.0) (record_named spec h.1) a.2 b.2 (tails _ _ _ _ (tails _ _ _ _ (tails _ _ _ _ e)))).0

  -- the second text is the category
  read_category : (o p : Option SpecTree) (category other : ℕ) (rs us : List EntriesTree) → FitsOver o (read_block category rs) → FitsOver p (read_block other us) → TextOver o (read_block category rs) ≡ TextOver p (read_block other us) → category ≡ other
  read_category None p category other rs us a b e = absurd a
  read_category (Some spec) None category other rs us a b e = absurd b
  read_category (Some spec) (Some s) category other rs us a b e = same_category category other (heads _ _ _ _ (tails _ _ _ _ e))

  never_alike : (o p : Option SpecTree) (category other : ℕ) (rs : List EntriesTree) (xs : List ℕ) → FitsOver o (read_block category rs) → TextOver o (read_block category rs) ≡ TextOver p (opaque_block other xs) → ⊥
  never_alike None p category other rs xs a e = a
  never_alike (Some spec) None category other rs xs a e = different (codes "block") (codes "opaque") refl (heads _ _ _ _ e)
  never_alike (Some spec) (Some s) category other rs xs a e = different (codes "block") (codes "opaque") refl (heads _ _ _ _ e)

  opaque_text : (o : Option SpecTree) (category : ℕ) (xs : List ℕ) → TextOver o (opaque_block category xs) ≡ codes "opaque" ∷ three_digits category ∷ hex_text xs ∷ []
  opaque_text None category xs = refl
  opaque_text (Some spec) category xs = refl

  pub same_block : (block other : BlockTree) → AllByRecursion good catalogue → IsOfCatalogue catalogue block → IsOfCatalogue catalogue other
      → TextOver (spec_of (category_of block) catalogue) block ≡ TextOver (spec_of (category_of other) catalogue) other → block ≡ other
  same_block (read_block category rs) (read_block other us) g a b e =
      let c = read_category (spec_of category catalogue) (spec_of other catalogue) category other rs us a.fits b.fits e in
      let fits : FitsOver (spec_of category catalogue) (read_block category us) = subst (λ n. FitsOver (spec_of n catalogue) (read_block n us)) (sym c) b.fits in
      let text : TextOver (spec_of category catalogue) (read_block category rs) ≡ TextOver (spec_of category catalogue) (read_block category us) = e ∙ ap (λ n. TextOver (spec_of n catalogue) (read_block n us)) (sym c) in
      let same = read_same (spec_of category catalogue) category rs us (λ spec f. found_among good category catalogue spec g f) a.fits fits text in
      (λ i. read_block (c i) (same i))
  same_block (read_block category rs) (opaque_block other xs) g a b e = absurd (never_alike (spec_of category catalogue) (spec_of other catalogue) category other rs xs a.fits e)
  same_block (opaque_block category xs) (read_block other us) g a b e = absurd (never_alike (spec_of other catalogue) (spec_of category catalogue) other category us xs b.fits (sym e))
  same_block (opaque_block category xs) (opaque_block other ys) g a b e =
      let t = sym (opaque_text (spec_of category catalogue) category xs) ∙ e ∙ opaque_text (spec_of other catalogue) other ys in
      let c = same_category category other (heads _ _ _ _ (tails _ _ _ _ t)) in
      let same = same_hex xs ys a.octets b.octets (heads _ _ _ _ (tails _ _ _ _ (tails _ _ _ _ t))) in
      (λ i. opaque_block (c i) (same i))
