-- All of the texts, as a rule reads them: what is read is spelled, and where it stops is the first bad token of the rule's language.
use Rattle.std.proofs.Common.{◌≡◌, ℕ, suc, ◌-◌, ◌≤◌, List, [], ◌∷◌, ◌++◌, length, Ok, Err, refl, sym, ◌∙◌, ap, subst, append-nil, length-append, arith}
use Rattle.std.proofs.lemmas.List.{length-map}
use Rattle.ax_tokens.specs.PlainToken.{PlainToken}
use Rattle.ax_tokens.specs.Stopping.{StopsAt, first_with}
use Rattle.ax_tokens.specs.FirstBad.{FirstBad}
use Rattle.ax_tokens.proofs.Stops.{PrefixFree}
use Rattle.ax_tokens.proofs.Bad.{stops_bad, trails_bad}
use Rattle.ax_grammar.specs.Answers.{texts_of, Spelled}
use Rattle.ax_grammar.specs.Parsing.{Texts, Parsed, ◌>>=◌, end_at, all_of}
use Rattle.ax_grammar.proofs.Recursion.{bind_ok, reads, rest_is, value_is}
use Rattle.ax_grammar.proofs.Steady.{At, Halts, IsSteady}

abbrev stops : (A : Type 0) → Texts → Parsed A
stops A rest = Err rest

stops_is : (A : Type 0) (a b : Texts) → stops A a ≡ stops A b → a ≡ b
stops_is A a b e = cc

pub never : {A : Type 0} (x : A) (a b : Texts) → reads x a ≡ stops A b → ⊥
never x a b e = cc

end_found : (texts rest : Texts) (u : Unit {0}) → end_at texts ≡ reads u rest → (texts ≡ []) × (rest ≡ [])
end_found [] rest u e = (refl, sym (rest_is tt u [] rest e))
end_found (text ∷ texts) rest u e = absurd cc

-- a rule that reads what is spelled, whatever follows, that reads nothing else, and that is steady
pub record Reads {A : Type 0} (rule : Texts → Parsed A) (Fits : A → Type 0) (spell : A → Texts) : Type 0 where
  pub complete : (a : A) (rest : Texts) → Fits a → rule (spell a ++ rest) ≡ reads a rest
  pub sound : (texts rest : Texts) (a : A) → rule texts ≡ reads a rest → Fits a × (texts ≡ spell a ++ rest)
  pub steady : (k : ℕ) → IsSteady k rule

module _ (A : Type 0) (rule : Texts → Parsed A) (Fits : A → Type 0) (spell : A → Texts) (r : Reads rule Fits spell) where
  abbrev Language : Texts → Type 0
  Language = Spelled Fits spell

  pub all_read : (a : A) → Fits a → all_of rule (spell a) ≡ reads a []
  all_read a h = ap (λ t. rule t >>= λ s. end_at s.1 >>= λ e. Ok (s.0, e.1)) (sym (append-nil (spell a))) ∙ ap (λ r. r >>= λ s. end_at s.1 >>= λ e. Ok (s.0, e.1)) (r.complete a [] h)

  pub all_found : (texts rest : Texts) (a : A) → all_of rule texts ≡ reads a rest → Fits a × (texts ≡ spell a)
  all_found texts rest a e =
      let f = bind_ok (rule texts) (λ s. end_at s.1 >>= λ x. reads s.0 x.1) (a, rest) e in
      let g = bind_ok (end_at f.0.1) (λ x. reads f.0.0 x.1) (a, rest) f.2 in
      let s = r.sound texts f.0.1 f.0.0 f.1 in
      let n = end_found f.0.1 g.0.1 g.0.0 g.1 in
      subst (λ x. Fits x × (texts ≡ spell x)) (value_is f.0.0 a g.0.1 rest g.2) (s.0, s.1 ∙ ap (λ t. spell f.0.0 ++ t) n.0 ∙ append-nil (spell f.0.0))

  language_free : PrefixFree Language
  language_free a b x y l m e =
      let same : reads l.0 x ≡ reads m.0 y = sym (ap (λ t. rule (t ++ x)) l.2 ∙ r.complete l.0 x l.1) ∙ ap rule e ∙ ap (λ t. rule (t ++ y)) m.2 ∙ r.complete m.0 y m.1 in
      l.2 ∙ ap spell (value_is l.0 m.0 x y same) ∙ sym m.2

  -- where the rule stops, the language stops
  halts_stops : (old new : Texts) → Halts rule old new → StopsAt Language old new
  halts_stops old new s =
      let f = r.sound (s.front ++ (s.rest ++ [])) [] s.value (s.begins []) in
      record {
        front = s.front;
        split = s.split;
        rest = s.rest;
        begins = (s.value, f.0, ap (λ t. s.front ++ t) (sym (append-nil s.rest)) ∙ f.1 ∙ append-nil (spell s.value));
        refuses = λ member following more m h. never m.0 following (first_with new more) (sym (ap (λ t. rule (t ++ following)) m.2 ∙ r.complete m.0 following m.1) ∙ ap rule h ∙ s.again more);
      }

  -- all of a spelling was read, and texts follow
  end_bad : (texts : Texts) (a : A) (last after : Texts) → Fits a → texts ≡ spell a ++ last → (end_at last >>= λ x. reads a x.1) ≡ stops A after → FirstBad Language texts (length texts - length after)
  end_bad texts a [] after h e k = absurd (never a [] after k)
  end_bad texts a (bad ∷ last) after h e k =
      subst (λ t. FirstBad Language texts (length texts - length t)) (stops_is A (bad ∷ last) after k) (trails_bad Language texts (spell a) (bad ∷ last) language_free (a, h, refl) e (omega arith))

  read_bad : (texts after : Texts) (p : Parsed A) → rule texts ≡ p → At rule texts p → (p >>= λ s. end_at s.1 >>= λ x. reads s.0 x.1) ≡ stops A after → FirstBad Language texts (length texts - length after)
  read_bad texts after (Ok x) e s h = let f = r.sound texts x.1 x.0 e in end_bad texts x.0 x.1 after f.0 f.1 h
  read_bad texts after (Err new) e s h = subst (λ t. FirstBad Language texts (length texts - length t)) (stops_is A new after h) (stops_bad Language texts new (halts_stops texts new s))

  texts_bad : (texts after : Texts) → all_of rule texts ≡ stops A after → FirstBad Language texts (length texts - length after)
  texts_bad texts after h = read_bad texts after (rule texts) refl (r.steady (suc (length texts)) texts (omega arith)) h

  -- the count of the texts that are left is that of the code
  pub names_bad : (tokens : List PlainToken) (after : Texts) → all_of rule (texts_of tokens) ≡ stops A after → FirstBad Language (texts_of tokens) (length tokens - length after)
  names_bad tokens after e = subst (λ n. FirstBad Language (texts_of tokens) (n - length after)) (length-map tokens (λ t. t.text)) (texts_bad (texts_of tokens) after e)

  end_within : (texts : Texts) (a : A) (last after : Texts) → texts ≡ spell a ++ last → (end_at last >>= λ x. reads a x.1) ≡ stops A after → length after ≤ length texts
  end_within texts a [] after e h = absurd (never a [] after h)
  end_within texts a (bad ∷ last) after e h = omega (arith, ap length e, length-append (spell a) (bad ∷ last), ap length (stops_is A (bad ∷ last) after h))

  read_within : (texts after : Texts) (p : Parsed A) → rule texts ≡ p → At rule texts p → (p >>= λ s. end_at s.1 >>= λ x. reads s.0 x.1) ≡ stops A after → length after ≤ length texts
  read_within texts after (Ok x) e s h = end_within texts x.0 x.1 after (r.sound texts x.1 x.0 e).1 h
  read_within texts after (Err new) e s h = omega (arith, ap length s.split, length-append s.front new, ap length (stops_is A new after h))

  pub stops_within : (tokens : List PlainToken) (after : Texts) → all_of rule (texts_of tokens) ≡ stops A after → length after ≤ length tokens
  stops_within tokens after e =
      let texts = texts_of tokens in
      omega (arith, length-map tokens (λ t. t.text), read_within texts after (rule texts) refl (r.steady (suc (length texts)) texts (omega arith)) e)

  -- the texts of what fits are read, so nothing that stops the reader spells it
  pub stops_none : (texts after : Texts) (a : A) → all_of rule texts ≡ stops A after → Fits a → texts ≡ spell a → ⊥
  stops_none texts after a e h same = never a [] after (sym (ap (all_of rule) same ∙ all_read a h) ∙ e)

  -- what is read is spelled by the texts, and by nothing else
  pub read_is : (texts rest : Texts) (a b : A) → all_of rule texts ≡ reads a rest → Fits b → texts ≡ spell b → a ≡ b
  read_is texts rest a b e h same = value_is a b rest [] (sym e ∙ ap (all_of rule) same ∙ all_read b h)
