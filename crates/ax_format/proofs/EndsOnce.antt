-- Under a catalogue each input has one list of blocks and one end.
use Rattle.std.proofs.Common.{◌≡◌, ℕ, ◌+◌, ◌<◌, ◌⊎◌, inl, inr, ◌==◌, Bool, true, false, cond, List, [], ◌∷◌, ◌++◌, Option, Some, None, length, refl, sym, ◌∙◌, ap, arith, subst}
use Rattle.std.specs.List.{AllByRecursion}
use Rattle.ax_bits.specs.Bits.{bits, AreOctets}
use Rattle.ax_format.proofs.Bounds.{bounds_sound, record_bounds}
use Rattle.ax_format.proofs.FramedOnce.{framed_once, some_framed}
use Rattle.ax_format.proofs.Once.{body_once, body_never_both, body_fails_once, body_spelled_or_fails}
use Rattle.ax_format.specs.Blocks.{BlockTree, read_block, opaque_block, IsFramed, SpellsBlock}
use Rattle.ax_format.specs.Bodies.{SpellsBody, FailsBody}
use Rattle.ax_format.specs.Ends.{RawSpells, RawsSpell, RawFails, InputEnd, by_framing, by_body, Ends}
use Rattle.ax_format.specs.Flaws.{NoFlaw}
use Rattle.ax_format.specs.Framing.{RawTree, AreRaws, FramingEnd, Framed}
use Rattle.ax_format.specs.Sound.{Sound}
use Rattle.ax_format.specs.Specification.{SpecTree, spec_of, record_kind}
use Rattle.ax_format.specs.Streams.{HasOneEnd}
use Rattle.ax_format.specs.Tree.{EntriesTree}
use Rattle.ax_format.specs.declared.fault.BodyCause.{BodyCause}

-- ---- what a block's octets spell

-- octets are framed as one category and body
same_frame : (c d : ℕ) (a b octets : List ℕ) → IsFramed c a octets → IsFramed d b octets → (d ≡ c) × (b ≡ a)
same_frame c d a b octets h g =
    let e : d ∷ g.high ∷ g.low ∷ b ≡ c ∷ h.high ∷ h.low ∷ a = sym g.layout ∙ h.layout in
    let category : d ≡ c = cc in
    let body : b ≡ a = cc in
    (category, body)

-- octets of this category and body spell records under a specification
record IsRead (catalogue : List SpecTree) (category : ℕ) (body : List ℕ) (of : ℕ) (records : List EntriesTree) : Type 0 where
  spec : SpecTree
  same : of ≡ category
  known : spec_of category catalogue ≡ Some spec
  spelled : SpellsBody spec records (bits body)

-- or they are opaque
record IsOpaque (catalogue : List SpecTree) (category : ℕ) (body : List ℕ) (of : ℕ) (content : List ℕ) : Type 0 where
  same : of ≡ category
  unknown : spec_of category catalogue ≡ None
  is : content ≡ body

abbrev Is : List SpecTree → ℕ → List ℕ → BlockTree → Type 0
Is catalogue category body (read_block of records) = IsRead catalogue category body of records
Is catalogue category body (opaque_block of content) = IsOpaque catalogue category body of content

spelled_is : (catalogue : List SpecTree) (category : ℕ) (body octets : List ℕ) (block : BlockTree) → IsFramed category body octets → SpellsBlock catalogue block octets → Is catalogue category body block
spelled_is catalogue category body octets (read_block of records) h s =
    let t = same_frame category of body s.body octets h s.framed in
    let known : spec_of category catalogue ≡ Some s.spec = ap (λ c. spec_of c catalogue) (sym t.0) ∙ s.known in
    record { spec = s.spec; same = t.0; known = known; spelled = subst (λ b. SpellsBody s.spec records (bits b)) t.1 s.spelled }
spelled_is catalogue category body octets (opaque_block of content) h s =
    let t = same_frame category of body content octets h s.framed in
    record { same = t.0; unknown = ap (λ c. spec_of c catalogue) (sym t.0) ∙ s.unknown; is = t.1 }

one_spec : (o : Option SpecTree) (spec other : SpecTree) → o ≡ Some spec → o ≡ Some other → other ≡ spec
one_spec o spec other e f = let s : Some other ≡ Some spec = sym f ∙ e in cc

is_once : (catalogue : List SpecTree) (category : ℕ) (body : List ℕ) (block other : BlockTree) → Is catalogue category body block → Is catalogue category body other → block ≡ other
is_once catalogue category body (read_block of records) (read_block to others) h g =
    let spec : g.spec ≡ h.spec = one_spec (spec_of category catalogue) h.spec g.spec h.known g.known in
    let same : records ≡ others = body_once h.spec (bits body) records others h.spelled (subst (λ s. SpellsBody s others (bits body)) spec g.spelled) in
    let to_same : of ≡ to = h.same ∙ sym g.same in
    λ i. read_block (to_same i) (same i)
is_once catalogue category body (read_block of records) (opaque_block to content) h g = absurd (let e : Some h.spec ≡ None = sym h.known ∙ g.unknown in cc)
is_once catalogue category body (opaque_block of content) (read_block to records) h g = absurd (let e : Some g.spec ≡ None = sym g.known ∙ h.unknown in cc)
is_once catalogue category body (opaque_block of content) (opaque_block to others) h g =
    let same : content ≡ others = h.is ∙ sym g.is in
    let to_same : of ≡ to = h.same ∙ sym g.same in
    λ i. opaque_block (to_same i) (same i)

-- octets spell one block of a catalogue
pub block_once : (catalogue : List SpecTree) (octets : List ℕ) (category : ℕ) (body : List ℕ) (block other : BlockTree) → IsFramed category body octets → SpellsBlock catalogue block octets → SpellsBlock catalogue other octets → block ≡ other
block_once catalogue octets category body block other f h g =
    is_once catalogue category body block other (spelled_is catalogue category body octets block f h) (spelled_is catalogue category body octets other f g)

-- ---- a block of the input: spelled or failing

raw_once : (catalogue : List SpecTree) (raw : RawTree) (block other : BlockTree) → RawSpells catalogue raw block → RawSpells catalogue raw other → block ≡ other
raw_once catalogue raw block other h g =
    is_once catalogue raw.category raw.body block other (spelled_is catalogue raw.category raw.body h.octets block h.framed h.spelled) (spelled_is catalogue raw.category raw.body g.octets other g.framed g.spelled)

is_no_fault : (catalogue : List SpecTree) (raw : RawTree) (block : BlockTree) (p : ℕ) (c : BodyCause) → Is catalogue raw.category raw.body block → RawFails catalogue raw p c → ⊥
is_no_fault catalogue raw (read_block of records) p c h g =
    let spec : g.spec ≡ h.spec = one_spec (spec_of raw.category catalogue) h.spec g.spec h.known g.known in
    body_never_both h.spec (bits raw.body) records p c h.spelled (subst (λ s. FailsBody s (bits raw.body) p c) spec g.fails)
is_no_fault catalogue raw (opaque_block of content) p c h g = let e : Some g.spec ≡ None = sym g.known ∙ h.unknown in cc

pub raw_no_fault : (catalogue : List SpecTree) (raw : RawTree) (block : BlockTree) (p : ℕ) (c : BodyCause) → RawSpells catalogue raw block → RawFails catalogue raw p c → ⊥
raw_no_fault catalogue raw block p c h g = is_no_fault catalogue raw block p c (spelled_is catalogue raw.category raw.body h.octets block h.framed h.spelled) g

pub one_fault : (catalogue : List SpecTree) (raw : RawTree) (p q : ℕ) (c d : BodyCause) → RawFails catalogue raw p c → RawFails catalogue raw q d → (p ≡ q) × (c ≡ d)
one_fault catalogue raw p q c d h g =
    let spec : g.spec ≡ h.spec = one_spec (spec_of raw.category catalogue) h.spec g.spec h.known g.known in
    body_fails_once h.spec (bits raw.body) p q c d h.fails (subst (λ s. FailsBody s (bits raw.body) q d) spec g.fails)

-- ---- block after block

-- the first n blocks stand in front of these
abbrev Judged : List SpecTree → FramingEnd → ℕ → List RawTree → List BlockTree → InputEnd → Type 0
Judged catalogue e n [] [] end = end ≡ by_framing e
Judged catalogue e n [] (block ∷ blocks) end = ⊥
Judged catalogue e n (raw ∷ raws) [] end = (p : ℕ) × (c : BodyCause) × RawFails catalogue raw p c × (end ≡ by_body n (24 + p) c)
Judged catalogue e n (raw ∷ raws) (block ∷ blocks) end = RawSpells catalogue raw block × Judged catalogue e (n + 1) raws blocks end

judged_once : (catalogue : List SpecTree) (e : FramingEnd) (n : ℕ) (raws : List RawTree) (blocks others : List BlockTree) (end other : InputEnd)
    → Judged catalogue e n raws blocks end → Judged catalogue e n raws others other → (blocks ≡ others) × (end ≡ other)
judged_once catalogue e n [] [] [] end other h g = (refl, h ∙ sym g)
judged_once catalogue e n [] [] (block ∷ others) end other h g = absurd g
judged_once catalogue e n [] (block ∷ blocks) others end other h g = absurd h
judged_once catalogue e n (raw ∷ raws) [] [] end other (p, c, h, is) (q, d, g, to) =
    let t = one_fault catalogue raw p q c d h g in
    (refl, is ∙ (λ i. by_body n (24 + t.0 i) (t.1 i)) ∙ sym to)
judged_once catalogue e n (raw ∷ raws) [] (block ∷ others) end other (p, c, h, is) g = absurd (raw_no_fault catalogue raw block p c g.0 h)
judged_once catalogue e n (raw ∷ raws) (block ∷ blocks) [] end other h (q, d, g, to) = absurd (raw_no_fault catalogue raw block q d h.0 g)
judged_once catalogue e n (raw ∷ raws) (block ∷ blocks) (b ∷ others) end other h g =
    let head : block ≡ b = raw_once catalogue raw block b h.0 g.0 in
    let more = judged_once catalogue e (n + 1) raws blocks others end other h.1 g.1 in
    ((λ i. head i ∷ more.0 i), more.1)

all_spelled : (catalogue : List SpecTree) (e : FramingEnd) (n : ℕ) (raws : List RawTree) (blocks : List BlockTree) → RawsSpell catalogue raws blocks → Judged catalogue e n raws blocks (by_framing e)
all_spelled catalogue e n [] [] h = refl
all_spelled catalogue e n [] (block ∷ blocks) h = absurd h
all_spelled catalogue e n (raw ∷ raws) [] h = absurd h
all_spelled catalogue e n (raw ∷ raws) (block ∷ blocks) h = (h.0, all_spelled catalogue e (n + 1) raws blocks h.1)

one_fails : (catalogue : List SpecTree) (e : FramingEnd) (n : ℕ) (before : List RawTree) (bad : RawTree) (after : List RawTree) (blocks : List BlockTree) (p number : ℕ) (c : BodyCause)
    → number ≡ n + length before → RawsSpell catalogue before blocks → RawFails catalogue bad p c → Judged catalogue e n (before ++ bad ∷ after) blocks (by_body number (24 + p) c)
one_fails catalogue e n [] bad after [] p number c is h g = (p, c, g, (let same : number ≡ n = omega arith in λ i. by_body (same i) (24 + p) c))
one_fails catalogue e n [] bad after (block ∷ blocks) p number c is h g = absurd h
one_fails catalogue e n (raw ∷ before) bad after [] p number c is h g = absurd h
one_fails catalogue e n (raw ∷ before) bad after (block ∷ blocks) p number c is h g =
    (h.0, one_fails catalogue e (n + 1) before bad after blocks p number c (omega arith) h.1 g)

-- ---- one end

record Walk (catalogue : List SpecTree) (octets : List ℕ) (limit : ℕ) (blocks : List BlockTree) (end : InputEnd) : Type 0 where
  raws : List RawTree
  framing : FramingEnd
  framed : Framed octets limit raws framing
  judged : Judged catalogue framing 0 raws blocks end

walk_of : (catalogue : List SpecTree) (octets : List ℕ) (limit : ℕ) (blocks : List BlockTree) (end : InputEnd) → Ends catalogue octets limit blocks end → Walk catalogue octets limit blocks end
walk_of catalogue octets limit blocks (by_framing e) h = record { raws = h.raws; framing = e; framed = h.framed; judged = all_spelled catalogue e 0 h.raws blocks h.spelled }
walk_of catalogue octets limit blocks (by_body number bit c) h =
    let counted : number ≡ 0 + length h.before = h.counted ∙ omega arith in
    let judged : Judged catalogue h.end 0 (h.before ++ h.bad ∷ h.after) blocks (by_body number (24 + h.place) c)
    = one_fails catalogue h.end 0 h.before h.bad h.after blocks h.place number c counted h.spelled h.fails in
    record {
      raws = h.before ++ h.bad ∷ h.after;
      framing = h.end;
      framed = h.framed;
      judged = subst (λ b. Judged catalogue h.end 0 (h.before ++ h.bad ∷ h.after) blocks (by_body number b c)) (sym h.header) judged;
    }

pub ends_once : (catalogue : List SpecTree) (octets : List ℕ) (limit : ℕ) (blocks others : List BlockTree) (end other : InputEnd) → Ends catalogue octets limit blocks end → Ends catalogue octets limit others other
    → (blocks ≡ others) × (end ≡ other)
ends_once catalogue octets limit blocks others end other h g =
    let w = walk_of catalogue octets limit blocks end h in
    let v = walk_of catalogue octets limit others other g in
    let t = framed_once octets limit w.raws v.raws w.framing v.framing w.framed v.framed in
    let judged : Judged catalogue w.framing 0 w.raws others other
    = subst (λ e. Judged catalogue e 0 w.raws others other) (sym t.1) (subst (λ r. Judged catalogue v.framing 0 r others other) (sym t.0) v.judged) in
    judged_once catalogue w.framing 0 w.raws blocks others end other w.judged judged

-- ---- some end

-- a raw block is framed
record HasOctets (raw : RawTree) : Type 0 where
  octets : List ℕ
  framed : IsFramed raw.category raw.body octets
  some : 0 < length raw.body

raws_framed : (raws : List RawTree) (octets : List ℕ) → AreRaws raws octets → AllByRecursion HasOctets raws
raws_framed [] octets h = tt
raws_framed (raw ∷ raws) octets (front, rest, split, framed, some, more) = (record { octets = front; framed = framed; some = some }, raws_framed raws rest more)

-- the specification found is one of the catalogue
found : (P : SpecTree → Type 0) (b : Bool) (one : SpecTree) (rest : Option SpecTree) (spec : SpecTree) → P one → (rest ≡ Some spec → P spec) → cond b (Some one) rest ≡ Some spec → P spec
found P true one rest spec h more e = let same : one ≡ spec = cc in subst P same h
found P false one rest spec h more e = more e

sound_of : (category : ℕ) (catalogue : List SpecTree) (spec : SpecTree) → AllByRecursion (λ s. Sound (record_kind s)) catalogue → spec_of category catalogue ≡ Some spec → Sound (record_kind spec)
sound_of category [] spec h e = absurd (let none : None ≡ Some spec = e in cc)
sound_of category (s ∷ catalogue) spec h e = found (λ s. Sound (record_kind s)) (s.category == category) s (spec_of category catalogue) spec h.0 (sound_of category catalogue spec h.1) e

-- a raw block spells a block, or its body fails
abbrev RawJudged : List SpecTree → RawTree → Type 0
RawJudged catalogue raw = ((block : BlockTree) × RawSpells catalogue raw block) ⊎ ((p : ℕ) × (c : BodyCause) × RawFails catalogue raw p c)

body_judged : (catalogue : List SpecTree) (raw : RawTree) (spec : SpecTree) → HasOctets raw → spec_of raw.category catalogue ≡ Some spec
    → ((records : List EntriesTree) × SpellsBody spec records (bits raw.body)) ⊎ ((p : ℕ) × (c : BodyCause) × FailsBody spec (bits raw.body) p c) → RawJudged catalogue raw
body_judged catalogue raw spec h known (inl (records, s)) = inl (
  read_block raw.category records,
  record {
    octets = h.octets;
    framed = h.framed;
    spelled = record { spec = spec; known = known; body = raw.body; framed = h.framed; spelled = s };
  },
)
body_judged catalogue raw spec h known (inr (p, c, f)) = inr (p, c, record { spec = spec; known = known; fails = f })

by_spec : (catalogue : List SpecTree) (raw : RawTree) (o : Option SpecTree) → HasOctets raw → AllByRecursion (λ s. Sound (record_kind s)) catalogue → spec_of raw.category catalogue ≡ o → RawJudged catalogue raw
by_spec catalogue raw None h sound is = inl (opaque_block raw.category raw.body, record { octets = h.octets; framed = h.framed; spelled = record { unknown = is; framed = h.framed; some = h.some } })
by_spec catalogue raw (Some spec) h sound is = body_judged catalogue raw spec h is (body_spelled_or_fails spec raw.body (sound_of raw.category catalogue spec sound is) h.some)

-- all raw blocks spell, or one fails after those that spell
record OneFails (catalogue : List SpecTree) (raws : List RawTree) (blocks : List BlockTree) (p : ℕ) (c : BodyCause) : Type 0 where
  before : List RawTree
  bad : RawTree
  after : List RawTree
  split : raws ≡ before ++ bad ∷ after
  spelled : RawsSpell catalogue before blocks
  fails : RawFails catalogue bad p c

abbrev AllJudged : List SpecTree → List RawTree → Type 0
AllJudged catalogue raws = ((blocks : List BlockTree) × RawsSpell catalogue raws blocks) ⊎ ((blocks : List BlockTree) × (p : ℕ) × (c : BodyCause) × OneFails catalogue raws blocks p c)

with_first : (catalogue : List SpecTree) (raw : RawTree) (raws : List RawTree) → RawJudged catalogue raw → AllJudged catalogue raws → AllJudged catalogue (raw ∷ raws)
with_first catalogue raw raws (inr (p, c, h)) more = inr ([], p, c, record { before = []; bad = raw; after = raws; split = refl; spelled = tt; fails = h })
with_first catalogue raw raws (inl (block, h)) (inl (blocks, s)) = inl (block ∷ blocks, (h, s))
with_first catalogue raw raws (inl (block, h)) (inr (blocks, p, c, f)) =
    inr (block ∷ blocks, p, c, record { before = raw ∷ f.before; bad = f.bad; after = f.after; split = ap (λ l. raw ∷ l) f.split; spelled = (h, f.spelled); fails = f.fails })

all_judged : (catalogue : List SpecTree) (raws : List RawTree) → AllByRecursion (λ s. Sound (record_kind s)) catalogue → AllByRecursion HasOctets raws → AllJudged catalogue raws
all_judged catalogue [] sound h = inl ([], tt)
all_judged catalogue (raw ∷ raws) sound h =
    with_first catalogue raw raws (by_spec catalogue raw (spec_of raw.category catalogue) h.0 sound refl) (all_judged catalogue raws sound h.1)

some_end : (catalogue : List SpecTree) (octets : List ℕ) (limit : ℕ) (raws : List RawTree) (e : FramingEnd) → Framed octets limit raws e → AllJudged catalogue raws
    → (blocks : List BlockTree) × (end : InputEnd) × Ends catalogue octets limit blocks end
some_end catalogue octets limit raws e framed (inl (blocks, h)) = (blocks, by_framing e, record { raws = raws; framed = framed; spelled = h })
some_end catalogue octets limit raws e framed (inr (blocks, p, c, f)) = (
  blocks,
  by_body (length f.before) (24 + p) c,
  record {
    before = f.before;
    bad = f.bad;
    after = f.after;
    end = e;
    framed = subst (λ r. Framed octets limit r e) f.split framed;
    spelled = f.spelled;
    place = p;
    fails = f.fails;
    counted = refl;
    header = refl;
  },
)

pub one_end_sound : (catalogue : List SpecTree) (octets : List ℕ) (limit : ℕ) → AreOctets octets → AllByRecursion (λ s. Sound (record_kind s)) catalogue → HasOneEnd (Ends catalogue octets limit)
one_end_sound catalogue octets limit all sound =
    let t = some_framed octets limit all in record {
      some = some_end catalogue octets limit t.0 t.1 t.2 (all_judged catalogue t.0 sound (raws_framed t.0 t.2.front t.2.blocks));
      one = λ blocks others end other h g. ends_once catalogue octets limit blocks others end other h g;
    }

flawless_sound : (catalogue : List SpecTree) → AllByRecursion NoFlaw catalogue → AllByRecursion (λ s. Sound (record_kind s)) catalogue
flawless_sound [] h = tt
flawless_sound (spec ∷ catalogue) h = (bounds_sound (record_kind spec) (record_bounds spec h.0), flawless_sound catalogue h.1)

pub one_end_flawless : (catalogue : List SpecTree) (octets : List ℕ) (limit : ℕ) → AreOctets octets → AllByRecursion NoFlaw catalogue → HasOneEnd (Ends catalogue octets limit)
one_end_flawless catalogue octets limit all h = one_end_sound catalogue octets limit all (flawless_sound catalogue h)
