-- The first text of a value: there is one, and it is no brace that closes.
use Rattle.std.proofs.Common.{◌≡◌, ℕ, suc, ◌≤◌, List, [], ◌∷◌, refl, sym, ◌∙◌, arith}
use Rattle.std.specs.Prelude.{decimal}
use Rattle.ax_tokens.specs.Stopping.{Texts}
use Rattle.ax_format.specs.Shape.{NumberShape, FixedShape, Shape, EachShape}
use Rattle.ax_format.specs.Tree.{FixedTree, element, group, KindTree, fixed, extended, counted, by_fx, explicit, compound, ValueTree, number, member_values, part_values, occurrences, content_octets, marked, ValuesTree, no_values, value_and}
use Rattle.ax_text_form.proofs.Unique.{different, never_closes, small}
use Rattle.ax_text_form.specs.Readable.{FixedReadable, Readable}
use Rattle.ax_text_form.specs.ValueText.{opening, closing, hex_text, number_onto, fixed_onto, members_onto, parts_onto, each_onto, kind_onto, entries_onto}
use Rattle.ax_block_reader.specs.Languages.{each_texts, FewerThan}
use Rattle.ax_block_reader.proofs.Continuations.{heads, tails, no_text}
use Rattle.ax_block_reader.proofs.Collecting.{Closes}

pub record HasFirst (texts : Texts) : Type 0 where
  pub text : List ℕ
  pub rest : Texts
  pub is : texts ≡ text ∷ rest
  pub other : text ≡ closing → ⊥

opening_first : (rest : Texts) → HasFirst (opening ∷ rest)
opening_first rest = record { text = opening; rest = rest; is = refl; other = different opening closing refl }

number_first : (w : ℕ) (v : ValueTree) (x : Texts) → w ≤ 128 → NumberShape w v → HasFirst (number_onto v x)
number_first w (number n) x le h = record { text = decimal n; rest = x; is = refl; other = never_closes n (small w n le h) }
number_first w v x le h = absurd h

pub fixed_first : (f : FixedTree) (v : ValueTree) (x : Texts) → FixedReadable f → FixedShape f v → HasFirst (fixed_onto f v x)
fixed_first (element w c) v x r h = number_first w v x r h
fixed_first (group ms) (member_values vs) x r h = opening_first (members_onto ms vs (closing ∷ x))
fixed_first (group ms) v x r h = absurd h

quote_first : (octets : List ℕ) → hex_text octets ≡ closing → ⊥
quote_first octets e = let bad : 34 ≡ 125 = first_is 34 125 _ _ e in omega (arith, bad)
  where
    first_is : (a b : ℕ) (x y : List ℕ) → a ∷ x ≡ b ∷ y → a ≡ b
    first_is a b x y e = cc

pub kind_first : (k : KindTree) (v : ValueTree) (x : Texts) → Readable k → Shape k v → HasFirst (kind_onto k v x)
kind_first (fixed f) v x r h = fixed_first f v x r h
kind_first (extended last ps) (part_values ls) x r h = opening_first (parts_onto ps ls (closing ∷ x))
kind_first (extended last ps) v x r h = absurd h
kind_first (counted size k) (occurrences vs) x r h = opening_first (each_onto (kind_onto k) vs (closing ∷ x))
kind_first (counted size k) v x r h = absurd h
kind_first (by_fx f) (occurrences vs) x r h = opening_first (each_onto (fixed_onto f) vs (closing ∷ x))
kind_first (by_fx f) v x r h = absurd h
kind_first explicit (content_octets xs) x r h = record { text = hex_text xs; rest = x; is = refl; other = quote_first xs }
kind_first explicit v x r h = absurd h
kind_first (compound ss) (marked es) x r h = opening_first (entries_onto 1 ss es (closing ∷ x))
kind_first (compound ss) v x r h = absurd h

-- ---- lists of values

abbrev pub AllFirst : (ValueTree → Type 0) → (ValueTree → Texts → Texts) → Type 0
AllFirst R onto = (v : ValueTree) (x : Texts) → R v → HasFirst (onto v x)

first_some : (texts : Texts) → HasFirst texts → [] ≡ texts → ⊥
first_some texts f e = no_text f.text f.rest (e ∙ f.is)

first_other : (texts t : Texts) → HasFirst texts → closing ∷ t ≡ texts → ⊥
first_other texts t f e = f.other (sym (heads closing f.text t f.rest (e ∙ f.is)))

each_some : (R : ValueTree → Type 0) (onto : ValueTree → Texts → Texts) → AllFirst R onto → (vs : ValuesTree) → EachShape R vs → [] ≡ each_texts onto vs → ⊥
each_some R onto f no_values h e = no_text closing [] e
each_some R onto f (value_and v vs) h e = first_some (onto v (each_texts onto vs)) (f v (each_texts onto vs) h.0) e

each_only : (R : ValueTree → Type 0) (onto : ValueTree → Texts → Texts) → AllFirst R onto → (t : Texts) (vs : ValuesTree) → EachShape R vs → closing ∷ t ≡ each_texts onto vs → t ≡ []
each_only R onto f t no_values h e = tails closing closing t [] e
each_only R onto f t (value_and v vs) h e = absurd (first_other (onto v (each_texts onto vs)) t (f v (each_texts onto vs) h.0) e)

pub each_closes : (R : ValueTree → Type 0) (onto : ValueTree → Texts → Texts) → AllFirst R onto → Closes (EachShape R) (each_texts onto) no_values
each_closes R onto f = record { shape = tt; texts = refl; some = λ m. each_some R onto f m.0 m.1 m.2; only = λ t m. each_only R onto f t m.0 m.1 m.2 }

pub fewer_closes : (n : ℕ) (R : ValueTree → Type 0) (onto : ValueTree → Texts → Texts) → AllFirst R onto → Closes (FewerThan (suc n) R) (each_texts onto) no_values
fewer_closes n R onto f = record { shape = (omega arith, tt); texts = refl; some = λ m. each_some R onto f m.0 m.1.1 m.2; only = λ t m. each_only R onto f t m.0 m.1.1 m.2 }
