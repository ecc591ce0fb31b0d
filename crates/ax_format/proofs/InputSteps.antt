-- An input, block after block: what a loop over its blocks keeps, and the end that it reaches.
use Rattle.std.proofs.Common.{◌≡◌, ◌↔◌, ℕ, ◌+◌, ◌*◌, ◌<◌, ◌≤◌, List, [], ◌∷◌, ◌++◌, length, refl, sym, ◌∙◌, ap, arith, subst, append_assoc, append-nil, length-append}
use Rattle.ax_bits.proofs.Words.{length-bits}
use Rattle.ax_bits.specs.Bits.{bits, AreOctets}
use Rattle.ax_format.proofs.BodyReader.{record_some}
use Rattle.ax_format.proofs.FramedOnce.{some_framed_after}
use Rattle.ax_format.specs.Blocks.{BlockTree, read_block, opaque_block, IsFramed, SpellsBlock, SpellsStream}
use Rattle.ax_format.specs.Bodies.{RecordsSpell}
use Rattle.ax_format.specs.Ends.{RawSpells, RawsSpell, RawFails, by_framing, by_body, Ends}
use Rattle.ax_format.specs.Framing.{RawTree, AreRaws, FramingEnd, whole, FramingEnds, Framed}
use Rattle.ax_format.specs.Specification.{SpecTree}
use Rattle.ax_format.specs.Tree.{EntriesTree}
use Rattle.ax_format.specs.declared.fault.BodyCause.{BodyCause}

-- ---- one block more

pub raws_more : (raws : List RawTree) (raw : RawTree) (front octets : List ℕ) → AreRaws raws front → IsFramed raw.category raw.body octets → 0 < length raw.body → AreRaws (raws ++ raw ∷ []) (front ++ octets)
raws_more [] raw front octets h framed some = (octets, [], ap (λ l. l ++ octets) h ∙ sym (append-nil octets), framed, some, refl)
raws_more (r ∷ raws) raw front octets (x, y, split, f, s, more) framed some =
    (x, y ++ octets, ap (λ l. l ++ octets) split ∙ append_assoc x y octets, f, s, raws_more raws raw y octets more framed some)

-- ---- the end, after blocks that spell

pub ends_by_framing : (catalogue : List SpecTree) (limit : ℕ) (raws : List RawTree) (blocks : List BlockTree) (front rest : List ℕ) (e : FramingEnd) → AreRaws raws front → RawsSpell catalogue raws blocks → length front ≤ limit
    → FramingEnds limit (length front) rest e → Ends catalogue (front ++ rest) limit blocks (by_framing e)
ends_by_framing catalogue limit raws blocks front rest e h s within ends = record {
  raws = raws;
  framed = record { front = front; rest = rest; split = refl; blocks = h; within = within; ends = ends };
  spelled = s;
}

-- the body of the next block fails, whatever octets are after it
pub ends_by_body : (catalogue : List SpecTree) (limit : ℕ) (raws : List RawTree) (bad : RawTree) (blocks : List BlockTree) (front octets rest : List ℕ) (p : ℕ) (c : BodyCause)
    → AreRaws raws front → RawsSpell catalogue raws blocks → IsFramed bad.category bad.body octets → 0 < length bad.body → length (front ++ octets) ≤ limit → AreOctets rest → RawFails catalogue bad p c
    → Ends catalogue ((front ++ octets) ++ rest) limit blocks (by_body (length raws) (24 + p) c)
ends_by_body catalogue limit raws bad blocks front octets rest p c h s framed some within all fails =
    let t = some_framed_after (front ++ octets) rest limit (raws ++ bad ∷ []) (raws_more raws bad front octets h framed some) within all in record {
      before = raws;
      bad = bad;
      after = t.0;
      end = t.1;
      framed = subst (λ l. Framed ((front ++ octets) ++ rest) limit l t.1) (append_assoc raws (bad ∷ []) t.0) t.2;
      spelled = s;
      place = p;
      fails = fails;
      counted = refl;
      header = refl;
    }

-- ---- an input ends well exactly where it spells blocks

record IsRaw (catalogue : List SpecTree) (block : BlockTree) (octets : List ℕ) : Type 0 where
  raw : RawTree
  framed : IsFramed raw.category raw.body octets
  some : 0 < length raw.body
  spells : RawSpells catalogue raw block

-- records have an octet
records_some : (spec : SpecTree) (records : List EntriesTree) (body : List ℕ) → 0 < length records → RecordsSpell spec records (bits body) → 0 < length body
records_some spec [] body some h = absurd (omega arith)
records_some spec (r ∷ records) body some (x, y, e, h, t) =
    let one : 0 < length x = record_some spec r x h in
    omega (arith, ap length e, length-append x y, length-bits body)

raw_of : (catalogue : List SpecTree) (block : BlockTree) (octets : List ℕ) → SpellsBlock catalogue block octets → IsRaw catalogue block octets
raw_of catalogue (read_block category records) octets h = record {
  raw = record { category = category; body = h.body };
  framed = h.framed;
  some = records_some h.spec records h.body h.spelled.some h.spelled.spelled;
  spells = record { octets = octets; framed = h.framed; spelled = h };
}
raw_of catalogue (opaque_block category content) octets h = record {
  raw = record { category = category; body = content };
  framed = h.framed;
  some = h.some;
  spells = record { octets = octets; framed = h.framed; spelled = h };
}

raws_of : (catalogue : List SpecTree) (blocks : List BlockTree) (octets : List ℕ) → SpellsStream catalogue blocks octets → (raws : List RawTree) × AreRaws raws octets × RawsSpell catalogue raws blocks
raws_of catalogue [] octets h = ([], h, tt)
raws_of catalogue (block ∷ blocks) octets (front, rest, split, s, more) =
    let one = raw_of catalogue block front s in
    let t = raws_of catalogue blocks rest more in
    (one.raw ∷ t.0, (front, rest, split, one.framed, one.some, t.1), (one.spells, t.2))

-- a category and a body have one frame
one_frame : (category : ℕ) (body octets others : List ℕ) → IsFramed category body octets → IsFramed category body others → octets ≡ others
one_frame category body octets others h g =
    let p : length octets ≡ 3 + length body = ap length h.layout ∙ omega arith in
    let q : length others ≡ 3 + length body = ap length g.layout ∙ omega arith in
    let sum : 256 * h.high + h.low ≡ 256 * g.high + g.low = h.counted ∙ p ∙ sym q ∙ sym g.counted in
    let a : h.low < 256 = h.low_octet in
    let b : g.low < 256 = g.low_octet in
    let high : h.high ≡ g.high = omega arith in
    let low : h.low ≡ g.low = omega arith in
    h.layout ∙ (λ i. category ∷ high i ∷ low i ∷ body) ∙ sym g.layout

stream_of : (catalogue : List SpecTree) (raws : List RawTree) (blocks : List BlockTree) (octets : List ℕ) → AreRaws raws octets → RawsSpell catalogue raws blocks → SpellsStream catalogue blocks octets
stream_of catalogue [] [] octets h s = h
stream_of catalogue [] (block ∷ blocks) octets h s = absurd s
stream_of catalogue (raw ∷ raws) [] octets h s = absurd s
stream_of catalogue (raw ∷ raws) (block ∷ blocks) octets (front, rest, split, framed, some, more) s =
    let same : s.0.octets ≡ front = one_frame raw.category raw.body s.0.octets front s.0.framed framed in
    (front, rest, split, subst (SpellsBlock catalogue block) same s.0.spelled, stream_of catalogue raws blocks rest more s.1)

pub ends_well : (catalogue : List SpecTree) (octets : List ℕ) (limit : ℕ) (blocks : List BlockTree) → Ends catalogue octets limit blocks (by_framing whole) ↔ SpellsStream catalogue blocks octets × (length octets ≤ limit)
ends_well catalogue octets limit blocks = (
  (λ h. (let all : octets ≡ h.framed.front = h.framed.split ∙ ap (λ l. h.framed.front ++ l) h.framed.ends ∙ append-nil h.framed.front in
      (subst (SpellsStream catalogue blocks) (sym all) (stream_of catalogue h.raws blocks h.framed.front h.framed.blocks h.spelled), (let within : length h.framed.front ≤ limit = h.framed.within in omega (arith, ap length all))))),
  (λ h. (let t = raws_of catalogue blocks octets h.0 in record {
    raws = t.0;
    framed = record { front = octets; rest = []; split = sym (append-nil octets); blocks = t.1; within = h.1; ends = refl };
    spelled = t.2;
  })),
)
