-- Texts through which the level of braces passes, and how deep it is inside.
use Rattle.std.proofs.Common.{◌≡◌, ℕ, ◌+◌, ◌-◌, ◌≤◌, max, List, [], ◌∷◌, ◌++◌, length, map, ap, subst, arith, append_assoc}
use Rattle.ax_tokens.specs.Depth.{level_after, KeepsWithin}
use Rattle.ax_tokens.specs.Printing.{placed}
use Rattle.ax_grammar.specs.Keywords.{keyword_text}
use Rattle.ax_grammar.specs.Printing.{kind_of}
use Rattle.ax_grammar.specs.Spelling.{block, closed}
use Rattle.ax_grammar.specs.declared.keyword.Keyword.{Keyword}
use Rattle.ax_grammar.specs.declared.keyword.Keyword.TheVariants as Word
use Rattle.ax_text_form.proofs.WordTokens.{IsWord}

-- the level keeps the limit, from one text to the next
abbrev pub Levels : ℕ → ℕ → List (List ℕ) → Type 0
Levels limit level [] = Unit {0}
Levels limit level (text ∷ texts) = (level_after (kind_of text) level ≤ limit) × Levels limit (level_after (kind_of text) level) texts

pub levels : (limit level at : ℕ) (texts : List (List ℕ)) → KeepsWithin limit level (placed at (map (λ text. (kind_of text, text)) texts)) → Levels limit level texts
levels limit level at [] h = tt
levels limit level at (text ∷ texts) h = (h.0, levels limit (level_after (kind_of text) level) (at + length text + 1) texts h.1)

-- a text that is no brace
pub record IsFlat (text : List ℕ) : Type 0 where
  pub flat : (level : ℕ) → level_after (kind_of text) level ≡ level

pub word_flat : (text : List ℕ) → IsWord text → IsFlat text
word_flat text w = record { flat = λ level. ap (λ kind. level_after kind level) w.kind }

-- the level after the texts is that before them, and inside them it is so much deeper
pub record Passes (texts : List (List ℕ)) (depth : ℕ) : Type 0 where
  pub pass : (limit level : ℕ) (more : List (List ℕ)) → level ≤ limit → Levels limit level (texts ++ more) → (level + depth ≤ limit) × Levels limit level more

pub none_passes : Passes [] 0
none_passes = record { pass = λ limit level more le h. (omega (arith, le), h) }

pub less_passes : (texts : List (List ℕ)) (d e : ℕ) → e ≤ d → Passes texts d → Passes texts e
less_passes texts d e le p = record { pass = λ limit level more some h. let t = p.pass limit level more some h in (omega (arith, t.0, le), t.1) }

pub flat_then : (text : List ℕ) (texts : List (List ℕ)) (d : ℕ) → IsFlat text → Passes texts d → Passes (text ∷ texts) d
flat_then text texts d f p = record { pass = λ limit level more le h. p.pass limit level more le (subst (λ n. Levels limit n (texts ++ more)) (f.flat level) h.1) }

pub both_pass : (a b : List (List ℕ)) (d e : ℕ) → Passes a d → Passes b e → Passes (a ++ b) (max d e)
both_pass a b d e p q = record {
  pass = λ limit level more le h.
      let t = p.pass limit level (b ++ more) le (subst (Levels limit level) (append_assoc a b more) h) in
      let u = q.pass limit level more le t.1 in (omega (arith, t.0, u.0), u.1);
}

-- texts without a brace in front of others
pub flat_both : (a b : List (List ℕ)) (e : ℕ) → Passes a 0 → Passes b e → Passes (a ++ b) e
flat_both a b e p q = less_passes (a ++ b) (max 0 e) e (omega arith) (both_pass a b 0 e p q)

braces_pass : (texts : List (List ℕ)) (d : ℕ) → Passes texts d → Passes (keyword_text Word.Open ∷ closed texts) (1 + d)
braces_pass texts d p = record {
  pass = λ limit level more le h.
      let t = p.pass limit (level + 1) (keyword_text Word.Close ∷ more) h.0 (subst (Levels limit (level + 1)) (append_assoc texts (keyword_text Word.Close ∷ []) more) h.1) in
      let back : level + 1 - 1 ≡ level = omega arith in (omega (arith, t.0), subst (λ n. Levels limit n more) back t.1.1);
}

pub block_passes : (word : Keyword) (texts : List (List ℕ)) (d : ℕ) → IsFlat (keyword_text word) → Passes texts d → Passes (block word texts) (1 + d)
block_passes word texts d f p = flat_then (keyword_text word) (keyword_text Word.Open ∷ closed texts) (1 + d) f (braces_pass texts d p)
