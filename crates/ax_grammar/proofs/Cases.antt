-- Each way through the rules of fixed kinds and of kinds.
use Rattle.std.proofs.Common.{◌≡◌, ℕ, List, map, Result, Ok, Err, refl, sym, subst, ap, ◌∙◌}
use Rattle.std.specs.Prelude.{IsOkAnd, MatchResult}
use Rattle.ax_format.proofs.VariantTrees.{by_fx_tree, compound_tree, fixed_kind_tree, group_tree}
use Rattle.ax_format.specs.Plain.{fixed_tree, member_tree, kind_tree, slot_tree}
use Rattle.ax_format.specs.Tree.{FixedTree, element, group, members_of, KindTree, fixed, by_fx, explicit, compound, slots_of}
use Rattle.ax_format.specs.declared.content.Content.{Content}
use Rattle.ax_format.specs.declared.kind.Fixed.{Fixed}
use Rattle.ax_format.specs.declared.kind.Fixed.TheVariants as FixedOf
use Rattle.ax_format.specs.declared.kind.Kind.{Kind}
use Rattle.ax_format.specs.declared.kind.Kind.TheVariants as KindOf
use Rattle.ax_format.specs.declared.kind.Member.{Member}
use Rattle.ax_format.specs.declared.kind.Slot.{Slot}
use Rattle.ax_grammar.specs.Gives.{Gives}
use Rattle.ax_grammar.specs.Parsing.{Texts, Parsed, ◌>>=◌, braced_at}
use Rattle.ax_grammar.specs.Rules.{keyword_at, width_at, content_at, fixed_by_word, fixed_step, fixed_at, member_at, kind_by_word, kind_step, kind_at, slot_at}
use Rattle.ax_tokens.specs.declared.stopped.Stopped.{Stopped}
use Rattle.ax_tokens.specs.declared.stopped.Stopped.TheVariants.{Bad, OutOfMemory}
use Rattle.ax_grammar.specs.declared.keyword.Keyword.{Keyword}
use Rattle.ax_grammar.specs.declared.keyword.Keyword.TheVariants as Word
use Rattle.ax_grammar.proofs.Recursive.{fixed_is, kind_is}

-- what `map` makes of a call's outcome
abbrev pub Maps : {X Y : Type 0} → (X → Y) → Result X Stopped → Result Y Stopped → Type 0
Maps make r m = MatchResult r (λ x. IsOkAnd m (λ y. y ≡ make x)) (λ e. m ≡ Err e)

-- a variant that is made of what a call gives
mapped_gives : {X Y A B : Type 0} (view : X → A) (tree : Y → B) (make : X → Y) (join : A → B) → ((x : X) → tree (make x) ≡ join (view x)) → (r : Result X Stopped) (m : Result Y Stopped) (after : Texts) (read : Parsed A)
    → Gives view r after read → Maps make r m → Gives tree m after (read >>= λ a. Ok (join a.0, a.1))
mapped_gives view tree make join same (Ok x) (Ok y) after read g h = ap (λ r. r >>= λ a. Ok (join a.0, a.1)) g ∙ ap (λ t. Ok (t, after)) (sym (ap tree h ∙ same x))
mapped_gives view tree make join same (Ok x) (Err e) after read g h = absurd h
mapped_gives {B} view tree make join same (Err Bad) m after read g h = subst (λ o. Gives tree o after (read >>= λ a. Ok (join a.0, a.1))) (sym h) (ap (λ r. r >>= λ a. Ok (join a.0, a.1)) g)
mapped_gives view tree make join same (Err OutOfMemory) m after read g h = subst (λ o. Gives tree o after (read >>= λ a. Ok (join a.0, a.1))) (sym h) tt

-- ---- fixed kinds

fixed_after : (old a : Texts) (word : Keyword) → keyword_at old ≡ Ok (word, a) → fixed_at old ≡ fixed_by_word fixed_at word old a
unfolding fixed_step
fixed_after old a word e = fixed_is old ∙ ap (λ r. r >>= λ w. fixed_by_word fixed_at w.0 old w.1) e

pub element_read : (old a b c : Texts) (width : ℕ) (content : Content) (tree : FixedTree) → tree ≡ element width content → keyword_at old ≡ Ok (Word.Element, a) → width_at a ≡ Ok (width, b) → content_at b ≡ Ok (content, c)
    → fixed_at old ≡ Ok (tree, c)
element_read old a b c width content tree same e f g = fixed_after old a Word.Element e ∙ rw (f, g) refl ∙ ap (λ x. Ok (x, c)) (sym same)

pub group_gives : (old a after : Texts) (r : Result (List Member) Stopped) (m : Result Fixed Stopped) → keyword_at old ≡ Ok (Word.Group, a)
    → Gives (λ members. map member_tree members) r after (braced_at member_at a) → Maps FixedOf.Group r m → Gives fixed_tree m after (fixed_at old)
unfolding member_at
group_gives old a after r m e g h =
    subst (Gives fixed_tree m after) (sym (fixed_after old a Word.Group e)) (mapped_gives (λ members. map member_tree members) fixed_tree FixedOf.Group (λ members. group (members_of members)) group_tree r m after (braced_at member_at a) g h)

-- ---- kinds

kind_after : (old a : Texts) (word : Keyword) → keyword_at old ≡ Ok (word, a) → kind_at old ≡ kind_by_word kind_at word old a
unfolding kind_step
kind_after old a word e = kind_is old ∙ ap (λ r. r >>= λ w. kind_by_word kind_at w.0 old w.1) e

pub by_fx_gives : (old a after : Texts) (r : Result Fixed Stopped) (m : Result Kind Stopped) → keyword_at old ≡ Ok (Word.ByFx, a)
    → Gives fixed_tree r after (fixed_at a) → Maps KindOf.ByFx r m → Gives kind_tree m after (kind_at old)
by_fx_gives old a after r m e g h =
    subst (Gives kind_tree m after) (sym (kind_after old a Word.ByFx e)) (mapped_gives fixed_tree kind_tree KindOf.ByFx by_fx by_fx_tree r m after (fixed_at a) g h)

pub explicit_read : (old a : Texts) (tree : KindTree) → tree ≡ explicit → keyword_at old ≡ Ok (Word.Explicit, a) → kind_at old ≡ Ok (tree, a)
explicit_read old a tree same e = kind_after old a Word.Explicit e ∙ ap (λ x. Ok (x, a)) (sym same)

pub compound_gives : (old a after : Texts) (r : Result (List Slot) Stopped) (m : Result Kind Stopped) → keyword_at old ≡ Ok (Word.Compound, a)
    → Gives (λ slots. map slot_tree slots) r after (braced_at slot_at a) → Maps KindOf.Compound r m → Gives kind_tree m after (kind_at old)
unfolding slot_at
compound_gives old a after r m e g h =
    subst (Gives kind_tree m after) (sym (kind_after old a Word.Compound e)) (mapped_gives (λ slots. map slot_tree slots) kind_tree KindOf.Compound (λ slots. compound (slots_of slots)) compound_tree r m after (braced_at slot_at a) g h)

-- a kind that is none of the others is a fixed one
default_case : (word : Keyword) (old a : Texts) → (word ≡ Word.Extended → ⊥) → (word ≡ Word.Closed → ⊥) → (word ≡ Word.Counted → ⊥) → (word ≡ Word.Wide → ⊥) → (word ≡ Word.ByFx → ⊥) → (word ≡ Word.Explicit → ⊥) → (word ≡ Word.Compound → ⊥)
    → kind_by_word kind_at word old a ≡ (fixed_at old >>= λ f. Ok (fixed f.0, f.1))
default_case Word.Extended old a h1 h2 h3 h4 h5 h6 h7 = absurd (h1 refl)
default_case Word.Closed old a h1 h2 h3 h4 h5 h6 h7 = absurd (h2 refl)
default_case Word.Counted old a h1 h2 h3 h4 h5 h6 h7 = absurd (h3 refl)
default_case Word.Wide old a h1 h2 h3 h4 h5 h6 h7 = absurd (h4 refl)
default_case Word.ByFx old a h1 h2 h3 h4 h5 h6 h7 = absurd (h5 refl)
default_case Word.Explicit old a h1 h2 h3 h4 h5 h6 h7 = absurd (h6 refl)
default_case Word.Compound old a h1 h2 h3 h4 h5 h6 h7 = absurd (h7 refl)
default_case word old a h1 h2 h3 h4 h5 h6 h7 = refl

pub fixed_gives : (old a after : Texts) (word : Keyword) (r : Result Fixed Stopped) (m : Result Kind Stopped)
    → (word ≡ Word.Extended → ⊥) → (word ≡ Word.Closed → ⊥) → (word ≡ Word.Counted → ⊥) → (word ≡ Word.Wide → ⊥) → (word ≡ Word.ByFx → ⊥) → (word ≡ Word.Explicit → ⊥) → (word ≡ Word.Compound → ⊥)
    → keyword_at old ≡ Ok (word, a) → Gives fixed_tree r after (fixed_at old) → Maps KindOf.Fixed r m → Gives kind_tree m after (kind_at old)
fixed_gives old a after word r m h1 h2 h3 h4 h5 h6 h7 e g h =
    subst (Gives kind_tree m after) (sym (kind_after old a word e ∙ default_case word old a h1 h2 h3 h4 h5 h6 h7)) (mapped_gives fixed_tree kind_tree KindOf.Fixed fixed fixed_kind_tree r m after (fixed_at old) g h)
