-- All tokens of a line.
use Rattle.std.proofs.Common.{◌≡◌, ℕ, ◌+◌, ◌-◌, ◌<◌, ◌≤◌, List, [], ◌∷◌, ◌++◌, length, take, refl, sym, ◌∙◌, ap, subst, append_assoc, append-nil, length-append, arith, Some, None}
use Rattle.std.specs.Prelude.{Option}
use Rattle.std.proofs.lemmas.List.{take_at, length-map, append_cancel_left}
use Rattle.ax_tokens.specs.PlainToken.{PlainToken}
use Rattle.ax_tokens.specs.FirstBad.{FirstBad}
use Rattle.ax_tokens.specs.Stopping.{Texts, StopsAt, texts_of}
use Rattle.ax_tokens.proofs.Bad.{stops_bad}
use Rattle.ax_format.specs.Blocks.{BlockTree, read_block, opaque_block, Fits}
use Rattle.ax_format.specs.CanonicalOctets.{framed, canon_over}
use Rattle.ax_format.specs.Lengths.{capped}
use Rattle.ax_format.specs.OfCode.{BlockFits, block_length}
use Rattle.ax_format.specs.Plain.{spec_tree, records_tree, block_tree}
use Rattle.ax_format.specs.Specification.{SpecTree, spec_of}
use Rattle.ax_format.specs.Streams.{FitsOver}
use Rattle.ax_format.specs.Tree.{EntriesTree}
use Rattle.ax_format.specs.declared.record.Block.{Block}
use Rattle.ax_format.specs.declared.record.Block.TheVariants as BlockOf
use Rattle.ax_format.specs.declared.record.Record.{Record}
use Rattle.ax_format.specs.declared.spec.Spec.{Spec}
use Rattle.ax_block_reader.specs.BlockTexts.{block_texts, IsBlockText, canonical_length, Spells}
use Rattle.ax_text_form.specs.CatalogueBlocks.{IsBlockOf}
use Rattle.ax_block_reader.specs.Continuing.{Done, Continues, IsRead}
use Rattle.ax_block_reader.proofs.Continuations.{no_text}

-- ---- texts after a whole block

take_one_more : (front : Texts) (text : List ℕ) (after more : Texts) → take (length front + 1) (front ++ text ∷ after) ++ more ≡ front ++ text ∷ more
take_one_more front text after more =
    ap (λ t. t ++ more) (ap (take (length front + 1)) (sym (append_assoc front (text ∷ []) after)) ∙ take_at (front ++ text ∷ []) after (length front + 1) (length-append front (text ∷ []))) ∙ append_assoc front (text ∷ []) more

-- a longer member than the front there is none
no_longer : (L : Texts → Type 0) (old front after : Texts) (text : List ℕ) (more : Texts) → ((member x y : Texts) → (z : Texts) × (y ≡ text ∷ z) → L member → member ++ x ≡ front ++ y → (rest : Texts) × (member ≡ front ++ rest) × Done rest) → L (front ++ text ∷ more) → ⊥
no_longer L old front after text more following l =
    let x = following (front ++ text ∷ more) [] (text ∷ more) (more, refl) l (append-nil (front ++ text ∷ more)) in
    no_text text more (sym x.2 ∙ sym (append_cancel_left front (text ∷ more) x.0 x.1))

trailing : (L : Texts → Type 0) (front after : Texts) (text : List ℕ) → L front → ((member x y : Texts) → (z : Texts) × (y ≡ text ∷ z) → L member → member ++ x ≡ front ++ y → (rest : Texts) × (member ≡ front ++ rest) × Done rest) → FirstBad L (front ++ text ∷ after) (length front)
trailing L front after text l following = record {
  no_member = no_longer L (front ++ text ∷ after) front after text after following;
  within = omega (arith, length-append front (text ∷ after));
  rest = [];
  begins = subst L (sym (ap (λ t. t ++ []) (take_at front (text ∷ after) (length front) refl) ∙ append-nil front)) l;
  refuses = λ lt more h. no_longer L (front ++ text ∷ after) front after text more following (subst L (take_one_more front text after more) h);
}

trailing_case : (L : Texts → Type 0) (old new : Texts) (c : Continues L Done old new) → 0 < length new → FirstBad L old (length old - length new)
trailing_case L old [] c lt = absurd (omega (arith, lt))
trailing_case L old (text ∷ after) c lt =
    let member : L c.front = subst L (append-nil c.front) (c.member [] refl) in
    let at : length old - length (text ∷ after) ≡ length c.front = omega (arith, ap length c.split, length-append c.front (text ∷ after)) in
    subst (λ n. FirstBad L old n) (sym at) (subst (λ t. FirstBad L t (length c.front)) (sym c.split) (trailing L c.front after text member (λ m x y al l h. c.following m x y al l h)))

-- ---- the tokens

abbrev BadBefore : List SpecTree → List PlainToken → Texts → Type 0
BadBefore catalogue tokens new = FirstBad (IsBlockText catalogue) (texts_of tokens) (length (texts_of tokens) - length new)

-- a block, and tokens after it
pub trails : (catalogue : List SpecTree) (tokens : List PlainToken) (old new : Texts) (block : BlockTree) → old ≡ texts_of tokens → IsRead (IsBlockOf catalogue) (block_texts catalogue) block old new → 0 < length new → BadBefore catalogue tokens new
trails catalogue tokens old new block same r lt = subst (λ t. FirstBad (IsBlockText catalogue) t (length t - length new)) same (trailing_case (IsBlockText catalogue) old new r.whole lt)

pub stopped : (catalogue : List SpecTree) (tokens : List PlainToken) (old new : Texts) → old ≡ texts_of tokens → StopsAt (IsBlockText catalogue) old new → BadBefore catalogue tokens new
stopped catalogue tokens old new e s = stops_bad (IsBlockText catalogue) (texts_of tokens) new (subst (λ t. StopsAt (IsBlockText catalogue) t new) e s)

is_empty : (x : Texts) → length x ≤ 0 → x ≡ []
is_empty [] lt = refl
is_empty (t ∷ x) lt = absurd (omega (arith, lt))

pub spells : (catalogue : List SpecTree) (tokens : List PlainToken) (old new : Texts) (block : BlockTree) → old ≡ texts_of tokens → IsRead (IsBlockOf catalogue) (block_texts catalogue) block old new → length new ≤ 0 → Spells catalogue tokens block
spells catalogue tokens old new block same r lt = record {
  of_catalogue = r.shape;
  texts = sym same ∙ r.split ∙ ap (λ x. block_texts catalogue block ++ x) (is_empty new lt) ∙ append-nil (block_texts catalogue block);
}

pub count_is : (catalogue : List SpecTree) (tokens : List PlainToken) (new : Texts) (a b : ℕ) → a ≡ length tokens → b ≡ length new → BadBefore catalogue tokens new → FirstBad (IsBlockText catalogue) (texts_of tokens) (a - b)
count_is catalogue tokens new a b e f h = subst (λ n. FirstBad (IsBlockText catalogue) (texts_of tokens) n) (omega (arith, e, f, length-map tokens (λ t. t.text))) h

-- ---- the canonical form

framed_length : (category : ℕ) (body : List ℕ) → length (framed category body) ≡ length body + 3
framed_length category body = omega arith

opaque_case : (o : Option SpecTree) (category : ℕ) (content : List ℕ) → canon_over o (opaque_block category content) ≡ framed category content
opaque_case None category content = refl
opaque_case (Some spec) category content = refl

pub opaque_length : (catalogue : List SpecTree) (block : Block) (category : ℕ) (content : List ℕ) (n : ℕ) → block ≡ BlockOf.Opaque category content → length content < 4294967296 → n ≡ length content + 3 → n ≡ capped (canonical_length catalogue (block_tree block))
opaque_length catalogue block category content n e small h =
    subst (λ b. n ≡ capped (canonical_length catalogue (block_tree b))) (sym e)
    (let same : canonical_length catalogue (opaque_block category content) ≡ length content + 3 = ap length (opaque_case (spec_of category catalogue) category content) ∙ framed_length category content in omega (arith, h, same, small))

none_case : (o : Option SpecTree) (category : ℕ) (records : List EntriesTree) → o ≡ None → length (canon_over o (read_block category records)) ≡ 3
none_case None category records e = framed_length category []
none_case (Some spec) category records e = absurd cc

pub none_length : (catalogue : List SpecTree) (block : Block) (category : ℕ) (records : List Record) → block ≡ BlockOf.Read category records → spec_of category catalogue ≡ None → 3 ≡ capped (canonical_length catalogue (block_tree block))
none_length catalogue block category records e h =
    subst (λ b. 3 ≡ capped (canonical_length catalogue (block_tree b))) (sym e) (omega (arith, none_case (spec_of category catalogue) category (records_tree records) h))

found_case : (o : Option SpecTree) (spec : SpecTree) (block : BlockTree) → o ≡ Some spec → FitsOver o block → Fits spec block
found_case o spec block e h = subst (λ p. FitsOver p block) e h

pub fits_found : (catalogue : List SpecTree) (block : Block) (category : ℕ) (records : List Record) (spec : Spec) → block ≡ BlockOf.Read category records → spec_of category catalogue ≡ Some (spec_tree spec) → IsBlockOf catalogue (block_tree block) → BlockFits spec block
fits_found catalogue block category records spec e h is =
    subst (λ b. BlockFits spec b) (sym e) (found_case (spec_of category catalogue) (spec_tree spec) (read_block category (records_tree records)) h (subst (λ b. IsBlockOf catalogue (block_tree b)) e is).fits.fits)

pub found_length : (catalogue : List SpecTree) (block : Block) (category : ℕ) (records : List Record) (spec : Spec) (n : ℕ) → block ≡ BlockOf.Read category records → spec_of category catalogue ≡ Some (spec_tree spec) → n ≡ capped (block_length spec block) → n ≡ capped (canonical_length catalogue (block_tree block))
found_length catalogue block category records spec n e h is =
    let base : n ≡ capped (block_length spec (BlockOf.Read category records)) = is ∙ ap (λ b. capped (block_length spec b)) e in
    subst (λ b. n ≡ capped (canonical_length catalogue (block_tree b))) (sym e) (base ∙ ap (λ o. capped (length (canon_over o (read_block category (records_tree records))))) (sym h))

pub ruleset lengths = (opaque_length, none_length, fits_found, found_length)
