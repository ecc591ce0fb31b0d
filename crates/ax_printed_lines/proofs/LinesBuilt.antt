-- Lines of blocks that are built.
use Rattle.std.proofs.Common.{◌≡◌, ℕ, ◌+◌, ◌<◌, ◌≤◌, Bool, true, false, cond, List, [], ◌∷◌, ◌++◌, length, map, Option, Some, refl, sym, ◌∙◌, ap, subst, arith, append-nil}
use Rattle.std.specs.Prelude.{codes, ◌==◌}
use Rattle.std.proofs.lemmas.Bool.{eqb-true, and_parts}
use Rattle.std.specs.List.{list_all}
use Rattle.ax_bits.proofs.Pieces.{bits-injective}
use Rattle.ax_printed_lines.specs.declared.laid.LaidBits.{LaidBits}
use Rattle.ax_text_form.proofs.Onto.{entries_more}
use Rattle.ax_format.specs.Blocks.{read_block}
use Rattle.ax_format.specs.Bodies.{CanonBody}
use Rattle.ax_format.specs.CanonicalOctets.{octets_of, framed}
use Rattle.ax_format.specs.Flaws.{NoFlaw}
use Rattle.ax_format.specs.Paths.{three_digits}
use Rattle.ax_format.specs.Specification.{SpecTree, record_slots, spec_of}
use Rattle.ax_format.specs.Streams.{FitsOver}
use Rattle.ax_format.specs.Tree.{EntriesTree}
use Rattle.ax_text_form.proofs.WordTokens.{block_is_word}
use Rattle.ax_text_form.specs.BlockText.{records_onto, BlockText}
use Rattle.ax_text_form.specs.Tokens.{kind_of}
use Rattle.ax_text_form.specs.ValueText.{Texts, opening, closing, entries_onto}
use Rattle.ax_tokens.proofs.Levels.{keeps_within}
use Rattle.ax_tokens.specs.Depth.{level_after, KeepsWithin}
use Rattle.ax_tokens.specs.Gap.{IsGap, no_octet, separator}
use Rattle.ax_tokens.specs.Lexing.{MayFollow, AreTokensWithGaps, AreTokensOf}
use Rattle.ax_tokens.specs.Octets.{is_separator}
use Rattle.ax_tokens.specs.PlainToken.{PlainToken}
use Rattle.ax_values.proofs.WrittenRecords.{body_bits, body_octets}
use Rattle.ax_printed_lines.specs.Printed.{Place, AfterGap, IsAfterOctet, AreInFront, IsOneWord, Keeps, Goes, AreRecords, IsPrinted}
use Rattle.ax_printed_lines.proofs.Going.{front_both, goes_both, one_word, close_stands}

-- ---- texts that are read are the tokens of their line

gap_there : (rest gap : List ℕ) → list_all is_separator gap ≡ true → IsGap rest gap
gap_there rest [] h = no_octet
gap_there rest (x ∷ gap) h = let p = and_parts (is_separator x) (list_all is_separator gap) h in separator x gap p.0 (gap_there rest gap p.1)

-- the tokens of texts that stand in front, of which the first begins at place `at`
abbrev tokens_in_front : (at : ℕ) (texts : Texts) (octets left : List ℕ) → AreInFront texts octets left → List PlainToken
tokens_in_front at [] octets left h = []
tokens_in_front at (text ∷ texts) octets left (more, s, h) = record { kind = kind_of text; text = text; from = at; to = at + length text } ∷ tokens_in_front (at + length text + length s.gap) texts more left h

texts_back : (at : ℕ) (texts : Texts) (octets left : List ℕ) (h : AreInFront texts octets left) → map (λ t. t.text) (tokens_in_front at texts octets left h) ≡ texts
texts_back at [] octets left h = refl
texts_back at (text ∷ texts) octets left (more, s, h) = ap (λ t. text ∷ t) (texts_back (at + length text + length s.gap) texts more left h)

each_lexed : (at level : ℕ) (texts : Texts) (octets : List ℕ) (h : AreInFront texts octets []) → Keeps level texts → AreTokensWithGaps at (tokens_in_front at texts octets [] h) octets []
each_lexed at level [] octets h k = h
each_lexed at level (text ∷ texts) octets (more, s, h) k =
    (s.gap, more, s.split, refl, refl, k.0, subst (λ l. MayFollow (kind_of text) (s.gap ++ l)) (sym (append-nil more)) s.follows, gap_there (more ++ []) s.gap s.each, each_lexed (at + length text + length s.gap) (level_after (kind_of text) level) texts more h k.2)

keep_levels : (at level : ℕ) (texts : Texts) (octets left : List ℕ) (h : AreInFront texts octets left) → Keeps level texts → KeepsWithin 20 level (tokens_in_front at texts octets left h)
keep_levels at level [] octets left h k = tt
keep_levels at level (text ∷ texts) octets left (more, s, h) k = (k.1, keep_levels (at + length text + length s.gap) (level_after (kind_of text) level) texts more left h k.2)

-- the tokens of a line, which has a gap in front
line_lexed : (texts : Texts) (line octets : List ℕ) (g : AfterGap line octets) (h : AreInFront texts octets []) → Keeps 0 texts → AreTokensOf line 20 (tokens_in_front (length g.gap) texts octets [] h)
line_lexed texts line octets g h k = record {
  lexed = record { gap = g.gap; more = octets; split = g.split; first_gap = gap_there (octets ++ []) g.gap g.each; each_token = each_lexed (length g.gap) 0 texts octets h k };
  within = keeps_within 20 (tokens_in_front (length g.gap) texts octets [] h) (keep_levels (length g.gap) 0 texts octets [] h k);
}

-- ---- a block's line

records_more : (spec : SpecTree) (rs : List EntriesTree) (x y : Texts) → records_onto spec rs x ++ y ≡ records_onto spec rs (x ++ y)
records_more spec [] x y = refl
records_more spec (r ∷ rs) x y =
    ap (λ t. codes "record" ∷ opening ∷ t) (entries_more 1 (record_slots spec) r (closing ∷ records_onto spec rs x) y ∙ ap (λ t. entries_onto 1 (record_slots spec) r (closing ∷ t)) (records_more spec rs x y))

found_case : (b : Bool) (first spec : SpecTree) (category : ℕ) (o : Option SpecTree) → (first.category == category) ≡ b → (o ≡ Some spec → spec.category ≡ category) → cond b (Some first) o ≡ Some spec → spec.category ≡ category
found_case true first spec category o h next e = let same : first ≡ spec = cc in sym (ap (λ s. s.category) same) ∙ eqb-true first.category category h
found_case false first spec category o h next e = next e

-- what is found for a category has it
found_category : (category : ℕ) (catalogue : List SpecTree) (spec : SpecTree) → spec_of category catalogue ≡ Some spec → spec.category ≡ category
found_category category [] spec e = absurd cc
found_category category (first ∷ catalogue) spec e = found_case (first.category == category) first spec category (spec_of category catalogue) refl (found_category category catalogue spec) e

module _ (catalogue : List SpecTree) (spec : SpecTree) (category : ℕ) (line : List ℕ) (known : Some spec ≡ spec_of category catalogue) (none : NoFlaw spec) (small : category < 256) where
  pub line_printed : (old named numbered opened new : Place) (before after : LaidBits) → AfterGap line old.left → old.level ≡ 0 → (IsOneWord (codes "block") → Goes old named (codes "block" ∷ [])) → Goes named numbered (three_digits category ∷ []) → Goes numbered opened (opening ∷ [])
      → AreRecords spec opened new before after → IsAfterOctet 125 new.left [] → new.level ≤ 20 → IsPrinted catalogue line category before after
  line_printed old named numbered opened new before after gap start g d o b end low =
      let rs = b.value in
      let block = read_block category rs in
      let front : Texts = codes "block" ∷ three_digits category ∷ opening ∷ [] in
      let all : Texts = (front ++ records_onto spec rs []) ++ closing ∷ [] in
      let goes : Goes old new (front ++ records_onto spec rs []) =
      goes_both old opened new front (records_onto spec rs []) (goes_both old named opened (codes "block" ∷ []) (three_digits category ∷ opening ∷ []) (g (one_word (codes "block") block_is_word)) (goes_both named numbered opened (three_digits category ∷ []) (opening ∷ []) d o)) b.goes in
      let texts : all ≡ BlockText spec block = ap (λ t. codes "block" ∷ three_digits category ∷ opening ∷ t) (records_more spec rs [] (closing ∷ [])) in
      let keeps : Keeps 0 all = subst (λ n. Keeps n all) start (goes.keeps (closing ∷ []) (refl, omega (arith, low), tt)) in
      let whole : AreInFront all old.left [] = front_both (front ++ records_onto spec rs []) (closing ∷ []) old.left new.left [] goes.left ([], close_stands new.left [] end, refl) in
      record {
        spec = spec;
        block = block;
        known = sym known;
        of_catalogue = record { fits = record { fits = subst (λ o. FitsOver o block) known (sym (found_category category catalogue spec (sym known)), b.shape.0, b.shape.1); octets = tt }; category = small };
        tokens = tokens_in_front (length gap.gap) all old.left [] whole;
        lexed = line_lexed all line old.left gap whole keeps;
        texts = texts_back (length gap.gap) all old.left [] whole ∙ texts;
        body = CanonBody spec rs;
        lays = b.lays;
        canonical = λ octets h e. ap (framed category) (bits-injective octets (octets_of (CanonBody spec rs)) h (body_octets spec rs none b.shape.0 b.shape.1) (e ∙ sym (body_bits spec rs none b.shape.0 b.shape.1)));
      }
