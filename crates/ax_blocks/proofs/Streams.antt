-- A run over a stream, block by block.
use Rattle.std.proofs.Common.{◌≡◌, ℕ, suc, ◌+◌, ◌*◌, ◌<◌, List, [], ◌∷◌, ◌++◌, length, refl, sym, ◌∙◌, ap, subst, arith, append_assoc, append-nil, length-append}
use Rattle.ax_bits.specs.Bits.{AreOctets}
use Rattle.ax_format.specs.Blocks.{BlockTree, IsFramed, SpellsBlock, SpellsStream}
use Rattle.ax_format.specs.Ends.{RawSpells, RawsSpell}
use Rattle.ax_format.specs.Framing.{RawTree, AreRaws}
use Rattle.ax_format.specs.Specification.{SpecTree}

-- ---- lists of blocks

pub raws_snoc : (raws : List RawTree) (octets front : List ℕ) (raw : RawTree) → AreRaws raws octets → IsFramed raw.category raw.body front → 0 < length raw.body → AreRaws (raws ++ raw ∷ []) (octets ++ front)
raws_snoc [] octets front raw e f some = (front, [], ap (λ x. x ++ front) e ∙ sym (append-nil front), f, some, refl)
raws_snoc (r ∷ raws) octets front raw (x, y, e, f', some', more) f some =
    (x, y ++ front, ap (λ z. z ++ front) e ∙ append_assoc x y front, f', some', raws_snoc raws y front raw more f some)

pub spell_snoc : (catalogue : List SpecTree) (raws : List RawTree) (blocks : List BlockTree) (raw : RawTree) (b : BlockTree) → RawsSpell catalogue raws blocks → RawSpells catalogue raw b → RawsSpell catalogue (raws ++ raw ∷ []) (blocks ++ b ∷ [])
spell_snoc catalogue [] [] raw b h s = (s, tt)
spell_snoc catalogue [] (c ∷ blocks) raw b h s = absurd h
spell_snoc catalogue (r ∷ raws) [] raw b h s = absurd h
spell_snoc catalogue (r ∷ raws) (c ∷ blocks) raw b h s = (h.0, spell_snoc catalogue raws blocks raw b h.1 s)

pub spell_count : (catalogue : List SpecTree) (raws : List RawTree) (blocks : List BlockTree) → RawsSpell catalogue raws blocks → length raws ≡ length blocks
spell_count catalogue [] [] h = refl
spell_count catalogue [] (c ∷ blocks) h = absurd h
spell_count catalogue (r ∷ raws) [] h = absurd h
spell_count catalogue (r ∷ raws) (c ∷ blocks) h = ap suc (spell_count catalogue raws blocks h.1)

pub stream_snoc : (catalogue : List SpecTree) (blocks : List BlockTree) (octets front : List ℕ) (b : BlockTree) → SpellsStream catalogue blocks octets → SpellsBlock catalogue b front → SpellsStream catalogue (blocks ++ b ∷ []) (octets ++ front)
stream_snoc catalogue [] octets front b e s = (front, [], ap (λ x. x ++ front) e ∙ sym (append-nil front), s, refl)
stream_snoc catalogue (c ∷ blocks) octets front b (x, y, e, s', more) s = (x, y ++ front, ap (λ z. z ++ front) e ∙ append_assoc x y front, s', stream_snoc catalogue blocks y front b more s)

pub length_snoc : {A : Type 0} (xs : List A) (x : A) → length (xs ++ x ∷ []) ≡ length xs + 1
length_snoc xs x = length-append xs (x ∷ [])

-- the octets of a block are determined by its category and body
pub framed_count : (category : ℕ) (body octets : List ℕ) → IsFramed category body octets → length octets ≡ 3 + length body
framed_count category body octets f = ap length f.layout ∙ omega arith

pub framed_once : (category : ℕ) (body xs ys : List ℕ) → IsFramed category body xs → IsFramed category body ys → xs ≡ ys
framed_once category body xs ys f g =
    let l : length xs ≡ length ys = framed_count category body xs f ∙ sym (framed_count category body ys g) in
    let e : 256 * f.high + f.low ≡ length xs = f.counted in
    let d : 256 * g.high + g.low ≡ length ys = g.counted in
    let a : f.low < 256 = f.low_octet in
    let b : g.low < 256 = g.low_octet in
    let high : f.high ≡ g.high = omega arith in
    let low : f.low ≡ g.low = omega arith in
    f.layout ∙ (λ i. category ∷ high i ∷ low i ∷ body) ∙ sym g.layout

pub raw_spells_block : (catalogue : List SpecTree) (raw : RawTree) (b : BlockTree) (front : List ℕ) → IsFramed raw.category raw.body front → RawSpells catalogue raw b → SpellsBlock catalogue b front
raw_spells_block catalogue raw b front f s = subst (SpellsBlock catalogue b) (framed_once raw.category raw.body s.octets front s.framed f) s.spelled

-- ---- the rest of an input is framed too

pub octets_after : (xs ys : List ℕ) → AreOctets (xs ++ ys) → AreOctets ys
octets_after [] ys h = h
octets_after (x ∷ xs) ys h = octets_after xs ys h.1
