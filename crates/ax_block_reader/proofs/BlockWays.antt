-- Each way through the readers of blocks.
use Rattle.std.proofs.Common.{◌≡◌, ℕ, ◌+◌, ◌/◌, ◌%◌, ◌<◌, ◌==◌, Bool, true, false, cond, ◌⊎◌, inl, inr, List, [], ◌∷◌, ◌++◌, length, drop, refl, sym, ◌∙◌, ap, subst, arith, codes, Some, None, lit<, is_some}
use Rattle.std.specs.Prelude.{Option, MatchOption}
use Rattle.std.proofs.lemmas.Bool.{eqb-true}
use Rattle.ax_tokens.specs.Stopping.{Texts, StopsAt, Stops, IsNotFirst}
use Rattle.ax_tokens.specs.declared.stopped.Stopped.{Stopped}
use Rattle.ax_tokens.specs.declared.stopped.Stopped.TheVariants.{Bad, OutOfMemory}
use Rattle.ax_tokens.proofs.Words.{not_first, none_first}
use Rattle.ax_format.specs.Blocks.{BlockTree, read_block, opaque_block}
use Rattle.ax_format.specs.Paths.{three_digits}
use Rattle.ax_format.specs.Specification.{SpecTree, spec_of}
use Rattle.ax_format.specs.Streams.{FitsOver}
use Rattle.ax_format.specs.Tree.{EntriesTree, no_entries}
use Rattle.ax_text_form.proofs.Unique.{different}
use Rattle.ax_text_form.specs.Tokens.{TextOver}
use Rattle.ax_text_form.specs.ValueText.{hex_text}
use Rattle.ax_block_reader.specs.BlockForms.{IsCategoryText, HasKnown, HasLacked, ReadShape, OpaqueShape, records_over, after_block_word, after_opaque_word}
use Rattle.ax_block_reader.specs.BlockTexts.{block_texts, IsBlockText}
use Rattle.ax_text_form.specs.CatalogueBlocks.{IsBlockOf}
use Rattle.ax_block_reader.specs.Continuing.{Done, Continues, Spelled, IsRead}
use Rattle.ax_block_reader.specs.Languages.{IsContent}
use Rattle.ax_block_reader.specs.Records.{SomeRecords, braced_records_texts}
use Rattle.ax_block_reader.proofs.Continuations.{heads, tails, no_text, both_read, lacks_there, word_read, begin_stops}
use Rattle.ax_block_reader.proofs.Contents.{content_due}
use Rattle.ax_block_reader.proofs.RecordListWays.{records_due}

-- ---- categories

cons_parts : {A : Type 0} (a b : A) (x y : List A) → a ∷ x ≡ b ∷ y → (a ≡ b) × (x ≡ y)
cons_parts a b x y e = (cc, cc)

same_category : (n m : ℕ) → three_digits n ≡ three_digits m → n ≡ m
same_category n m e =
    let p = cons_parts (48 + n / 100) (48 + m / 100) ((48 + n / 10 % 10) ∷ (48 + n % 10) ∷ []) ((48 + m / 10 % 10) ∷ (48 + m % 10) ∷ []) e in
    let q = cons_parts (48 + n / 10 % 10) (48 + m / 10 % 10) ((48 + n % 10) ∷ []) ((48 + m % 10) ∷ []) p.1 in
    let r = cons_parts (48 + n % 10) (48 + m % 10) [] [] q.1 in
    omega (arith, p.0, q.0, r.0)

found_case : (b : Bool) (first spec : SpecTree) (category : ℕ) (o : Option SpecTree) → (first.category == category) ≡ b → (o ≡ Some spec → spec.category ≡ category) → cond b (Some first) o ≡ Some spec → spec.category ≡ category
found_case true first spec category o h next e = let same : first ≡ spec = cc in sym (ap (λ s. s.category) same) ∙ eqb-true first.category category h
found_case false first spec category o h next e = next e

-- what is found for a category has it
found_category : (category : ℕ) (catalogue : List SpecTree) (spec : SpecTree) → spec_of category catalogue ≡ Some spec → spec.category ≡ category
found_category category [] spec e = absurd cc
found_category category (first ∷ catalogue) spec e = found_case (first.category == category) first spec category (spec_of category catalogue) refl (found_category category catalogue spec) e

abbrev some_spec : SpecTree → Option SpecTree
some_spec spec = Some spec

abbrev no_spec : Option SpecTree
no_spec = None

-- ---- a block of records

-- it has a specification, and one or more records of its shape
over_case : (o : Option SpecTree) (category : ℕ) (rs : List EntriesTree) → FitsOver o (read_block category rs) → (spec : SpecTree) × (o ≡ Some spec) × SomeRecords spec rs
over_case None category rs h = absurd h
over_case (Some spec) category rs h = (spec, refl, (h.1, h.2))

text_case : (o : Option SpecTree) (category : ℕ) (rs : List EntriesTree) → FitsOver o (read_block category rs) → TextOver o (read_block category rs) ≡ codes "block" ∷ three_digits category ∷ records_over o rs
text_case None category rs h = absurd h
text_case (Some spec) category rs h = refl

module _ (catalogue : List SpecTree) where
  abbrev AreRead : Texts → Type 0
  AreRead = Spelled (ReadShape catalogue) (after_block_word catalogue)

  abbrev AreRecords : SpecTree → Texts → Type 0
  AreRecords spec = Spelled (SomeRecords spec) (braced_records_texts spec)

  read_fits : (category : ℕ) (spec : SpecTree) (rs : List EntriesTree) → category < 256 → spec_of category catalogue ≡ Some spec → SomeRecords spec rs → IsBlockOf catalogue (read_block category rs)
  read_fits category spec rs lt e h =
      let over : FitsOver (Some spec) (read_block category rs) = (sym (found_category category catalogue spec e), h.0, h.1) in
      record { fits = record { fits = subst (λ o. FitsOver o (read_block category rs)) (sym e) over; octets = tt }; category = lt }

  after_known : (category : ℕ) (spec : SpecTree) (rs : List EntriesTree) → spec_of category catalogue ≡ Some spec → after_block_word catalogue (read_block category rs) ≡ three_digits category ∷ braced_records_texts spec rs
  after_known category spec rs e = ap (λ o. three_digits category ∷ records_over o rs) e

  known_f : (category : ℕ) (spec : SpecTree) → category < 256 → spec_of category catalogue ≡ Some spec → (t : Texts) → AreRecords spec t → AreRead (three_digits category ∷ t)
  known_f category spec lt e t (rs, h, q) = (read_block category rs, read_fits category spec rs lt e h, ap (λ x. three_digits category ∷ x) q ∙ sym (after_known category spec rs e))

  read_some : (block : BlockTree) → ReadShape catalogue block → [] ≡ after_block_word catalogue block → ⊥
  read_some (read_block category rs) h e = no_text (three_digits category) _ e
  read_some (opaque_block category content) h e = h

  same_spec : (a b : SpecTree) → some_spec a ≡ some_spec b → a ≡ b
  same_spec a b e = cc

  known_back : (category : ℕ) (spec : SpecTree) → spec_of category catalogue ≡ Some spec → (t : Texts) (block : BlockTree) → ReadShape catalogue block → three_digits category ∷ t ≡ after_block_word catalogue block → AreRecords spec t
  known_back category spec e t (opaque_block other content) h f = absurd h
  known_back category spec e t (read_block other rs) h f =
      let same : category ≡ other = same_category category other (heads (three_digits category) (three_digits other) t _ f) in
      let over = over_case (spec_of other catalogue) other rs h.fits.fits in
      let spec_same : over.0 ≡ spec = same_spec over.0 spec (sym over.1 ∙ ap (λ n. spec_of n catalogue) (sym same) ∙ e) in
      (rs, subst (λ s. SomeRecords s rs) spec_same over.2, tails (three_digits category) (three_digits other) t _ f ∙ ap (λ o. records_over o rs) over.1 ∙ ap (λ s. braced_records_texts s rs) spec_same)

  -- after the category the records come
  known_read : (category : ℕ) (spec : SpecTree) (old now : Texts) → category < 256 → spec_of category catalogue ≡ Some spec → old ≡ three_digits category ∷ now → Continues AreRead (AreRecords spec) old now
  known_read category spec old now lt e h =
      word_read AreRead (AreRecords spec) (three_digits category) old now (known_f category spec lt e) (λ m. read_some m.0 m.1 m.2) (λ t m. known_back category spec e t m.0 m.1 m.2) h

  pub records_lack : (category : ℕ) (spec : SpecTree) (stopped : Stopped) (old mid new : Texts) → category < 256 → spec_of category catalogue ≡ Some spec → old ≡ three_digits category ∷ mid → Stops stopped (AreRecords spec) mid new → Stops stopped AreRead old new
  records_lack category spec stopped old mid new lt e h s = lacks_there AreRead (AreRecords spec) stopped old mid new (known_read category spec old mid lt e h) s

  pub read_is_read : (category : ℕ) (spec : SpecTree) (rs : List EntriesTree) (old mid new : Texts) → category < 256 → spec_of category catalogue ≡ Some spec → old ≡ three_digits category ∷ mid → IsRead (SomeRecords spec) (braced_records_texts spec) rs mid new
      → IsRead (ReadShape catalogue) (after_block_word catalogue) (read_block category rs) old new
  read_is_read category spec rs old mid new lt e h r = record {
    shape = read_fits category spec rs lt e r.shape;
    split = h ∙ ap (λ t. three_digits category ∷ t) r.split ∙ ap (λ t. t ++ new) (sym (after_known category spec rs e));
    whole = both_read AreRead (AreRecords spec) Done old mid new (known_read category spec old mid lt e h) r.whole;
  }

  -- a category with a specification
  abbrev IsKnownText : List ℕ → Type 0
  IsKnownText text = (category : ℕ) × (category < 256) × (spec : SpecTree) × (spec_of category catalogue ≡ Some spec) × (text ≡ three_digits category)

  begins_known : (block : BlockTree) → ReadShape catalogue block → (text : List ℕ) × (rest : Texts) × (after_block_word catalogue block ≡ text ∷ rest) × IsKnownText text
  begins_known (opaque_block category content) h = absurd h
  begins_known (read_block category rs) h =
      let over = over_case (spec_of category catalogue) category rs h.fits.fits in
      (three_digits category, records_over (spec_of category catalogue) rs, refl, (category, h.category, over.0, over.1, refl))

  known_stops : (texts : Texts) → HasKnown catalogue → IsNotFirst IsKnownText texts → StopsAt AreRead texts texts
  known_stops texts (category, lt, (spec, e)) n =
      begin_stops AreRead IsKnownText (after_block_word catalogue (read_block category (no_entries ∷ []))) texts (read_block category (no_entries ∷ []), read_fits category spec (no_entries ∷ []) lt e (records_due spec), refl)
      (λ t m. let x = begins_known m.0 m.1 in (x.0, x.1, m.2 ∙ x.2, x.3)) n

  fewer_known : (texts : Texts) → IsNotFirst IsCategoryText texts → IsNotFirst IsKnownText texts
  fewer_known [] n = tt
  fewer_known (text ∷ texts) n = λ h. n (h.0, h.1, h.4)

  pub no_category_known : (stopped : Stopped) (texts : Texts) → HasKnown catalogue → IsNotFirst IsCategoryText texts → Stops stopped AreRead texts texts
  no_category_known Bad texts k n = known_stops texts k (fewer_known texts n)
  no_category_known OutOfMemory texts k n = tt

  none_known : (category : ℕ) → spec_of category catalogue ≡ None → IsKnownText (three_digits category) → ⊥
  none_known category e (other, lt, spec, f, t) =
      let same : category ≡ other = same_category category other t in
      let bad : no_spec ≡ some_spec spec = sym e ∙ ap (λ n. spec_of n catalogue) same ∙ f in cc

  -- the category has no specification
  pub category_unknown : (category : ℕ) (texts : Texts) → HasKnown catalogue → texts ≡ three_digits category ∷ drop 1 texts → spec_of category catalogue ≡ None → StopsAt AreRead texts texts
  category_unknown category texts k h e = known_stops texts k (not_first IsKnownText texts (three_digits category) h (none_known category e))

-- ---- an opaque block

opaque_case : (o : Option SpecTree) (category : ℕ) (content : List ℕ) → ((spec : SpecTree) → o ≡ Some spec → spec.category ≡ category) → FitsOver o (opaque_block category content) → (o ≡ None) × (0 < length content)
opaque_case None category content f h = (refl, h)
opaque_case (Some spec) category content f h = absurd (h.0 (sym (f spec refl)))

opaque_text : (o : Option SpecTree) (category : ℕ) (content : List ℕ) → TextOver o (opaque_block category content) ≡ codes "opaque" ∷ three_digits category ∷ hex_text content ∷ []
opaque_text None category content = refl
opaque_text (Some spec) category content = refl

module _ (catalogue : List SpecTree) where
  abbrev AreOpaque : Texts → Type 0
  AreOpaque = Spelled (OpaqueShape catalogue) after_opaque_word

  abbrev AreContent : Texts → Type 0
  AreContent = Spelled IsContent (λ octets. hex_text octets ∷ [])

  opaque_fits : (category : ℕ) (content : List ℕ) → category < 256 → spec_of category catalogue ≡ None → IsContent content → IsBlockOf catalogue (opaque_block category content)
  opaque_fits category content lt e h = record { fits = record { fits = subst (λ o. FitsOver o (opaque_block category content)) (sym e) h.0; octets = h.1 }; category = lt }

  opaque_parts : (category : ℕ) (content : List ℕ) → IsBlockOf catalogue (opaque_block category content) → (spec_of category catalogue ≡ None) × IsContent content
  opaque_parts category content h =
      let x = opaque_case (spec_of category catalogue) category content (λ spec e. found_category category catalogue spec e) h.fits.fits in (x.0, (x.1, h.fits.octets))

  lacked_f : (category : ℕ) → category < 256 → spec_of category catalogue ≡ None → (t : Texts) → AreContent t → AreOpaque (three_digits category ∷ t)
  lacked_f category lt e t (content, h, q) = (opaque_block category content, opaque_fits category content lt e h, ap (λ x. three_digits category ∷ x) q)

  opaque_some : (block : BlockTree) → OpaqueShape catalogue block → [] ≡ after_opaque_word block → ⊥
  opaque_some (read_block category rs) h e = h
  opaque_some (opaque_block category content) h e = no_text (three_digits category) (hex_text content ∷ []) e

  lacked_back : (category : ℕ) (t : Texts) (block : BlockTree) → OpaqueShape catalogue block → three_digits category ∷ t ≡ after_opaque_word block → AreContent t
  lacked_back category t (read_block other rs) h f = absurd h
  lacked_back category t (opaque_block other content) h f = (content, (opaque_parts other content h).1, tails (three_digits category) (three_digits other) t (hex_text content ∷ []) f)

  lacked_read : (category : ℕ) (old now : Texts) → category < 256 → spec_of category catalogue ≡ None → old ≡ three_digits category ∷ now → Continues AreOpaque AreContent old now
  lacked_read category old now lt e h = word_read AreOpaque AreContent (three_digits category) old now (lacked_f category lt e) (λ m. opaque_some m.0 m.1 m.2) (λ t m. lacked_back category t m.0 m.1 m.2) h

  pub content_lacks : (category : ℕ) (stopped : Stopped) (old mid new : Texts) → category < 256 → spec_of category catalogue ≡ None → old ≡ three_digits category ∷ mid → Stops stopped AreContent mid new → Stops stopped AreOpaque old new
  content_lacks category stopped old mid new lt e h s = lacks_there AreOpaque AreContent stopped old mid new (lacked_read category old mid lt e h) s

  pub opaque_is_read : (category : ℕ) (content : List ℕ) (old mid new : Texts) → category < 256 → spec_of category catalogue ≡ None → old ≡ three_digits category ∷ mid → IsRead IsContent (λ octets. hex_text octets ∷ []) content mid new
      → IsRead (OpaqueShape catalogue) after_opaque_word (opaque_block category content) old new
  opaque_is_read category content old mid new lt e h r = record {
    shape = opaque_fits category content lt e r.shape;
    split = h ∙ ap (λ t. three_digits category ∷ t) r.split;
    whole = both_read AreOpaque AreContent Done old mid new (lacked_read category old mid lt e h) r.whole;
  }

  -- a category without a specification
  abbrev IsLackedText : List ℕ → Type 0
  IsLackedText text = (category : ℕ) × (category < 256) × (spec_of category catalogue ≡ None) × (text ≡ three_digits category)

  begins_lacked : (block : BlockTree) → OpaqueShape catalogue block → (text : List ℕ) × (rest : Texts) × (after_opaque_word block ≡ text ∷ rest) × IsLackedText text
  begins_lacked (read_block category rs) h = absurd h
  begins_lacked (opaque_block category content) h = (three_digits category, hex_text content ∷ [], refl, (category, h.category, (opaque_parts category content h).0, refl))

  lacked_stops : (texts : Texts) → HasLacked catalogue → IsNotFirst IsLackedText texts → StopsAt AreOpaque texts texts
  lacked_stops texts (category, lt, e) n =
      begin_stops AreOpaque IsLackedText (three_digits category ∷ hex_text content_due.0 ∷ []) texts (opaque_block category content_due.0, opaque_fits category content_due.0 lt e content_due.1, refl)
      (λ t m. let x = begins_lacked m.0 m.1 in (x.0, x.1, m.2 ∙ x.2, x.3)) n

  fewer_lacked : (texts : Texts) → IsNotFirst IsCategoryText texts → IsNotFirst IsLackedText texts
  fewer_lacked [] n = tt
  fewer_lacked (text ∷ texts) n = λ h. n (h.0, h.1, h.3)

  pub no_category_lacked : (stopped : Stopped) (texts : Texts) → HasLacked catalogue → IsNotFirst IsCategoryText texts → Stops stopped AreOpaque texts texts
  no_category_lacked Bad texts k n = lacked_stops texts k (fewer_lacked texts n)
  no_category_lacked OutOfMemory texts k n = tt

  none_lacked : (category : ℕ) (spec : SpecTree) → spec_of category catalogue ≡ Some spec → IsLackedText (three_digits category) → ⊥
  none_lacked category spec e (other, lt, f, t) =
      let same : category ≡ other = same_category category other t in
      let bad : some_spec spec ≡ no_spec = sym e ∙ ap (λ n. spec_of n catalogue) same ∙ f in cc

  -- the category has a specification
  pub category_has : (category : ℕ) (spec : SpecTree) (texts : Texts) → HasLacked catalogue → texts ≡ three_digits category ∷ drop 1 texts → spec_of category catalogue ≡ Some spec → StopsAt AreOpaque texts texts
  category_has category spec texts k h e = lacked_stops texts k (not_first IsLackedText texts (three_digits category) h (none_lacked category spec e))

  is_some_case : (o : Option SpecTree) → is_some o ≡ true → (spec : SpecTree) × (o ≡ Some spec)
  is_some_case None e = absurd cc
  is_some_case (Some spec) e = (spec, refl)

  pub category_has_one : (category : ℕ) (texts : Texts) → HasLacked catalogue → texts ≡ three_digits category ∷ drop 1 texts → is_some (spec_of category catalogue) ≡ true → StopsAt AreOpaque texts texts
  category_has_one category texts k h e = let x = is_some_case (spec_of category catalogue) e in category_has category x.0 texts k h x.1

-- ---- the first word

module _ (catalogue : List SpecTree) where
  abbrev AreBlock : Texts → Type 0
  AreBlock = IsBlockText catalogue

  read_f : (t : Texts) (block : BlockTree) → ReadShape catalogue block → t ≡ after_block_word catalogue block → AreBlock (codes "block" ∷ t)
  read_f t (opaque_block category content) h e = absurd h
  read_f t (read_block category rs) h e = (read_block category rs, h, ap (λ x. codes "block" ∷ x) e ∙ sym (text_case (spec_of category catalogue) category rs h.fits.fits))

  opaque_f : (t : Texts) (block : BlockTree) → OpaqueShape catalogue block → t ≡ after_opaque_word block → AreBlock (codes "opaque" ∷ t)
  opaque_f t (read_block category rs) h e = absurd h
  opaque_f t (opaque_block category content) h e = (opaque_block category content, h, ap (λ x. codes "opaque" ∷ x) e ∙ sym (opaque_text (spec_of category catalogue) category content))

  -- a block's text is of one of the two forms
  forms : (t : Texts) (block : BlockTree) → IsBlockOf catalogue block → t ≡ block_texts catalogue block → ((rest : Texts) × (t ≡ codes "block" ∷ rest) × AreRead catalogue rest) ⊎ ((rest : Texts) × (t ≡ codes "opaque" ∷ rest) × AreOpaque catalogue rest)
  forms t (read_block category rs) h e = inl (after_block_word catalogue (read_block category rs), e ∙ text_case (spec_of category catalogue) category rs h.fits.fits, (read_block category rs, h, refl))
  forms t (opaque_block category content) h e = inr (after_opaque_word (opaque_block category content), e ∙ opaque_text (spec_of category catalogue) category content, (opaque_block category content, h, refl))

  abbrev Forms : Texts → Type 0
  Forms t = ((rest : Texts) × (t ≡ codes "block" ∷ rest) × AreRead catalogue rest) ⊎ ((rest : Texts) × (t ≡ codes "opaque" ∷ rest) × AreOpaque catalogue rest)

  form_some : Forms [] → ⊥
  form_some (inl x) = no_text (codes "block") x.0 x.1
  form_some (inr x) = no_text (codes "opaque") x.0 x.1

  form_read : (t : Texts) → Forms (codes "block" ∷ t) → AreRead catalogue t
  form_read t (inl x) = subst (AreRead catalogue) (sym (tails (codes "block") (codes "block") t x.0 x.1)) x.2
  form_read t (inr x) = absurd (different (codes "block") (codes "opaque") refl (heads (codes "block") (codes "opaque") t x.0 x.1))

  form_opaque : (t : Texts) → Forms (codes "opaque" ∷ t) → AreOpaque catalogue t
  form_opaque t (inl x) = absurd (different (codes "opaque") (codes "block") refl (heads (codes "opaque") (codes "block") t x.0 x.1))
  form_opaque t (inr x) = subst (AreOpaque catalogue) (sym (tails (codes "opaque") (codes "opaque") t x.0 x.1)) x.2

  block_read : (old now : Texts) → old ≡ codes "block" ∷ now → Continues AreBlock (AreRead catalogue) old now
  block_read old now e = word_read AreBlock (AreRead catalogue) (codes "block") old now (λ t m. read_f t m.0 m.1 m.2) (λ m. form_some (forms [] m.0 m.1 m.2)) (λ t m. form_read t (forms (codes "block" ∷ t) m.0 m.1 m.2)) e

  opaque_read : (old now : Texts) → old ≡ codes "opaque" ∷ now → Continues AreBlock (AreOpaque catalogue) old now
  opaque_read old now e = word_read AreBlock (AreOpaque catalogue) (codes "opaque") old now (λ t m. opaque_f t m.0 m.1 m.2) (λ m. form_some (forms [] m.0 m.1 m.2)) (λ t m. form_opaque t (forms (codes "opaque" ∷ t) m.0 m.1 m.2)) e

  pub read_lacks : (stopped : Stopped) (old mid new : Texts) → old ≡ codes "block" ∷ mid → Stops stopped (AreRead catalogue) mid new → Stops stopped AreBlock old new
  read_lacks stopped old mid new e s = lacks_there AreBlock (AreRead catalogue) stopped old mid new (block_read old mid e) s

  pub opaque_lacks : (stopped : Stopped) (old mid new : Texts) → old ≡ codes "opaque" ∷ mid → Stops stopped (AreOpaque catalogue) mid new → Stops stopped AreBlock old new
  opaque_lacks stopped old mid new e s = lacks_there AreBlock (AreOpaque catalogue) stopped old mid new (opaque_read old mid e) s

  shaped : (block : BlockTree) → ReadShape catalogue block → IsBlockOf catalogue block × (block_texts catalogue block ≡ codes "block" ∷ after_block_word catalogue block)
  shaped (opaque_block category content) h = absurd h
  shaped (read_block category rs) h = (h, text_case (spec_of category catalogue) category rs h.fits.fits)

  shaped_opaque : (block : BlockTree) → OpaqueShape catalogue block → IsBlockOf catalogue block × (block_texts catalogue block ≡ codes "opaque" ∷ after_opaque_word block)
  shaped_opaque (read_block category rs) h = absurd h
  shaped_opaque (opaque_block category content) h = (h, opaque_text (spec_of category catalogue) category content)

  pub block_of_records : (block : BlockTree) (old mid new : Texts) → old ≡ codes "block" ∷ mid → IsRead (ReadShape catalogue) (after_block_word catalogue) block mid new → IsRead (IsBlockOf catalogue) (block_texts catalogue) block old new
  block_of_records block old mid new e r =
      let x = shaped block r.shape in
      record {
        shape = x.0;
        split = e ∙ ap (λ t. codes "block" ∷ t) r.split ∙ ap (λ t. t ++ new) (sym x.1);
        whole = both_read AreBlock (AreRead catalogue) Done old mid new (block_read old mid e) r.whole;
      }

  pub block_of_octets : (block : BlockTree) (old mid new : Texts) → old ≡ codes "opaque" ∷ mid → IsRead (OpaqueShape catalogue) after_opaque_word block mid new → IsRead (IsBlockOf catalogue) (block_texts catalogue) block old new
  block_of_octets block old mid new e r =
      let x = shaped_opaque block r.shape in
      record {
        shape = x.0;
        split = e ∙ ap (λ t. codes "opaque" ∷ t) r.split ∙ ap (λ t. t ++ new) (sym x.1);
        whole = both_read AreBlock (AreOpaque catalogue) Done old mid new (opaque_read old mid e) r.whole;
      }

  -- a block of one record, or an opaque one
  known_due : HasKnown catalogue → (t : Texts) × AreBlock t
  known_due (category, lt, (spec, e)) = let b = read_block category (no_entries ∷ []) in (block_texts catalogue b, (b, read_fits catalogue category spec (no_entries ∷ []) lt e (records_due spec), refl))

  lacked_due : HasLacked catalogue → (t : Texts) × AreBlock t
  lacked_due (category, lt, e) = let b = opaque_block category content_due.0 in (block_texts catalogue b, (b, opaque_fits catalogue category content_due.0 lt e content_due.1, refl))

  abbrev IsKnown : Option ℕ → Type 0
  IsKnown known = MatchOption known (catalogue ≡ []) (λ n. (n < 256) × ((spec : SpecTree) × (spec_of n catalogue ≡ Some spec)))

  some_due : (known : Option ℕ) → IsKnown known → (t : Texts) × AreBlock t
  some_due None e = lacked_due (0, lit< tt, ap (λ c. spec_of 0 c) e)
  some_due (Some n) h = known_due (n, h.0, h.1)

  -- the first words
  abbrev IsFirstWord : List ℕ → Type 0
  IsFirstWord text = ((text ≡ codes "block") × HasKnown catalogue) ⊎ ((text ≡ codes "opaque") × HasLacked catalogue)

  begins_form : (t : Texts) → Forms t → (text : List ℕ) × (rest : Texts) × (t ≡ text ∷ rest) × IsFirstWord text
  begins_form t (inl x) = let k = begins_known catalogue x.2.0 x.2.1 in (codes "block", x.0, x.1, inl (refl, (k.3.0, k.3.1, (k.3.2, k.3.3))))
  begins_form t (inr x) = let k = begins_lacked catalogue x.2.0 x.2.1 in (codes "opaque", x.0, x.1, inr (refl, (k.3.0, k.3.1, k.3.2)))

  pub form_stops : (known : Option ℕ) (texts : Texts) → IsKnown known → IsNotFirst IsFirstWord texts → StopsAt AreBlock texts texts
  form_stops known texts k n = let d = some_due known k in begin_stops AreBlock IsFirstWord d.0 texts d.1 (λ t m. begins_form t (forms t m.0 m.1 m.2)) n

  -- the word isn't one of those that may come
  other_form : (known : Option ℕ) (texts : Texts) (text : List ℕ) → IsKnown known → texts ≡ text ∷ drop 1 texts → (text ≡ codes "block" → HasKnown catalogue → ⊥) → (text ≡ codes "opaque" → HasLacked catalogue → ⊥) → StopsAt AreBlock texts texts
  other_form known texts text k e a b = form_stops known texts k (not_first IsFirstWord texts text e (λ h. other h))
    where
      other : IsFirstWord text → ⊥
      other (inl x) = a x.0 x.1
      other (inr x) = b x.0 x.1

  no_known : catalogue ≡ [] → HasKnown catalogue → ⊥
  no_known e h = let bad : no_spec ≡ some_spec h.2.0 = ap (λ c. spec_of h.0 c) (sym e) ∙ h.2.1 in cc

  -- `block`, and there is no specification
  pub unknown_form : (known : Option ℕ) (texts : Texts) (text : List ℕ) → IsKnown known → texts ≡ text ∷ drop 1 texts → text ≡ codes "block" → catalogue ≡ [] → StopsAt AreBlock texts texts
  unknown_form known texts text k e is none = other_form known texts text k e (λ w h. no_known none h) (λ w h. different (codes "block") (codes "opaque") refl (sym is ∙ w))

  -- `opaque`, and no category is without a specification
  pub unlacked_form : (known : Option ℕ) (texts : Texts) (text : List ℕ) → IsKnown known → texts ≡ text ∷ drop 1 texts → text ≡ codes "opaque" → ((n : ℕ) → n < 256 → spec_of n catalogue ≡ None → ⊥) → StopsAt AreBlock texts texts
  unlacked_form known texts text k e is none = other_form known texts text k e (λ w h. different (codes "opaque") (codes "block") refl (sym is ∙ w)) (λ w h. none h.0 h.1 h.2)

  pub neither_form : (known : Option ℕ) (texts : Texts) (text : List ℕ) → IsKnown known → texts ≡ text ∷ drop 1 texts → (text ≡ codes "block" → ⊥) → (text ≡ codes "opaque" → ⊥) → StopsAt AreBlock texts texts
  neither_form known texts text k e a b = other_form known texts text k e (λ w h. a w) (λ w h. b w)

  pub no_form : (known : Option ℕ) (stopped : Stopped) (texts : Texts) → IsKnown known → texts ≡ [] → Stops stopped AreBlock texts texts
  no_form known Bad texts k e = form_stops known texts k (none_first IsFirstWord texts e)
  no_form known OutOfMemory texts k e = tt

pub ruleset form_ways = no_form

pub ruleset read_ways = records_lack

pub ruleset opaque_ways = content_lacks

pub ruleset block_ways = (read_lacks, opaque_lacks)
