-- Each input has an answer by a block command.
use Rattle.std.proofs.Common.{◌≡◌, ℕ, ◌+◌, ◌≤◌, ◌⊎◌, inl, inr, List, [], ◌∷◌, ◌++◌, length, refl, sym, ◌∙◌, ap, subst, arith, append_assoc, length-append}
use Rattle.std.specs.List.{AllByRecursion}
use Rattle.ax_bits.specs.Bits.{AreOctets}
use Rattle.ax_blocks.proofs.Prefixes.{none_more, later_number}
use Rattle.ax_blocks.proofs.Streams.{raw_spells_block}
use Rattle.ax_blocks.specs.Commands.{BlockCommand, BlockAnswer, gives, too_long, IsGiven, AreGiven}
use Rattle.ax_blocks.specs.Ending.{stream_end}
use Rattle.ax_blocks.specs.Streams.{StreamAnswers}
use Rattle.ax_blocks.specs.declared.end.StreamEnd.{StreamEnd}
use Rattle.ax_blocks.specs.declared.end.StreamEnd.TheVariants.{TooLong}
use Rattle.ax_format.proofs.EndsOnce.{one_end_flawless}
use Rattle.ax_format.specs.Blocks.{BlockTree, SpellsBlock, SpellsStream}
use Rattle.ax_format.specs.Ends.{RawsSpell, InputEnd, by_framing, by_body, Ends}
use Rattle.ax_format.specs.Flaws.{NoFlaw}
use Rattle.ax_format.specs.Framing.{RawTree, AreRaws}
use Rattle.ax_format.specs.Specification.{SpecTree}

-- ---- the octets of the blocks before an end

split_raws : (raws others : List RawTree) (octets : List ℕ) → AreRaws (raws ++ others) octets → (x : List ℕ) × (y : List ℕ) × (octets ≡ x ++ y) × AreRaws raws x
split_raws [] others octets h = ([], octets, refl, refl)
split_raws (raw ∷ raws) others octets (front, rest, split, framed, some, more) =
    let t = split_raws raws others rest more in
    (front ++ t.0, t.1, split ∙ ap (λ k. front ++ k) t.2 ∙ sym (append_assoc front t.0 t.1), (front, t.0, refl, framed, some, t.3))

stream_of : (catalogue : List SpecTree) (raws : List RawTree) (blocks : List BlockTree) (octets : List ℕ) → AreRaws raws octets → RawsSpell catalogue raws blocks → SpellsStream catalogue blocks octets
stream_of catalogue [] [] octets h s = h
stream_of catalogue [] (b ∷ blocks) octets h s = absurd s
stream_of catalogue (raw ∷ raws) [] octets h s = absurd s
stream_of catalogue (raw ∷ raws) (b ∷ blocks) octets (front, rest, split, framed, some, more) s = (front, rest, split, raw_spells_block catalogue raw b front framed s.0, stream_of catalogue raws blocks rest more s.1)

record Front (catalogue : List SpecTree) (limit : ℕ) (input : List ℕ) (blocks : List BlockTree) : Type 0 where
  octets : List ℕ
  rest : List ℕ
  split : input ≡ octets ++ rest
  within : length octets ≤ limit
  spelled : SpellsStream catalogue blocks octets

front_of : (catalogue : List SpecTree) (limit : ℕ) (input : List ℕ) (blocks : List BlockTree) (e : InputEnd) → Ends catalogue input limit blocks e → Front catalogue limit input blocks
front_of catalogue limit input blocks (by_framing e) h = record {
  octets = h.framed.front;
  rest = h.framed.rest;
  split = h.framed.split;
  within = h.framed.within;
  spelled = stream_of catalogue h.raws blocks h.framed.front h.framed.blocks h.spelled;
}
front_of catalogue limit input blocks (by_body number bit c) h =
    let t = split_raws h.before (h.bad ∷ h.after) h.framed.front h.framed.blocks in
    record {
      octets = t.0;
      rest = t.1 ++ h.framed.rest;
      split = h.framed.split ∙ ap (λ x. x ++ h.framed.rest) t.2 ∙ append_assoc t.0 t.1 h.framed.rest;
      within = omega (arith, h.framed.within, ap length t.2, length-append t.0 t.1);
      spelled = stream_of catalogue h.before blocks t.0 t.3 h.spelled;
    }

-- ---- each of the blocks has a result, or one is the first that has none

record FirstLong (c : BlockCommand) (n : ℕ) (blocks : List BlockTree) : Type 0 where
  before : List BlockTree
  block : BlockTree
  after : List BlockTree
  split : blocks ≡ before ++ block ∷ after
  given : AreGiven c n before
  count : ℕ
  answer : c.answer (n + length before) block ≡ too_long count

first_long : (c : BlockCommand) (n : ℕ) (blocks : List BlockTree) → AreGiven c n blocks ⊎ FirstLong c n blocks
first_long c n [] = inl tt
first_long c n (block ∷ blocks) = by (c.answer n block) refl (first_long c (n + 1) blocks)
  where
    by : (a : BlockAnswer) → c.answer n block ≡ a → AreGiven c (n + 1) blocks ⊎ FirstLong c (n + 1) blocks → (IsGiven (c.answer n block) × AreGiven c (n + 1) blocks) ⊎ FirstLong c n (block ∷ blocks)
    by (too_long count) e more = inr (record { before = []; block = block; after = blocks; split = refl; given = tt; count = count; answer = ap (λ k. c.answer k block) (sym (none_more n)) ∙ e })
    by (gives lines octets) e (inl given) = inl (subst IsGiven (sym e) tt, given)
    by (gives lines octets) e (inr f) = inr (record {
      before = block ∷ f.before;
      block = f.block;
      after = f.after;
      split = ap (λ x. block ∷ x) f.split;
      given = (subst IsGiven (sym e) tt, f.given);
      count = f.count;
      answer = ap (λ k. c.answer k f.block) (sym (later_number n (length f.before))) ∙ f.answer;
    })

record AtBlock (catalogue : List SpecTree) (before : List BlockTree) (block : BlockTree) (octets : List ℕ) : Type 0 where
  front : List ℕ
  one : List ℕ
  after : List ℕ
  split : octets ≡ front ++ (one ++ after)
  spelled : SpellsStream catalogue before front
  here : SpellsBlock catalogue block one

at_block : (catalogue : List SpecTree) (before : List BlockTree) (block : BlockTree) (after : List BlockTree) (octets : List ℕ) → SpellsStream catalogue (before ++ block ∷ after) octets → AtBlock catalogue before block octets
at_block catalogue [] block after octets (one, rest, split, here, more) = record { front = []; one = one; after = rest; split = split; spelled = refl; here = here }
at_block catalogue (b ∷ before) block after octets (x, rest, split, first, more) =
    let t = at_block catalogue before block after rest more in
    record {
      front = x ++ t.front;
      one = t.one;
      after = t.after;
      split = split ∙ ap (λ k. x ++ k) t.split ∙ sym (append_assoc x t.front (t.one ++ t.after));
      spelled = (x, t.front, refl, first, t.spelled);
      here = t.here;
    }

-- ---- the answer

abbrev pub StreamThere : BlockCommand → ℕ → List ℕ → Type 0
StreamThere c limit input = (blocks : List BlockTree) × (end : StreamEnd) × StreamAnswers c limit input blocks end

module _ (c : BlockCommand) (limit : ℕ) (input : List ℕ) where
  refused : (blocks : List BlockTree) → Front c.catalogue limit input blocks → FirstLong c 0 blocks → StreamThere c limit input
  refused blocks f l =
      let t = at_block c.catalogue l.before l.block l.after f.octets (subst (λ x. SpellsStream c.catalogue x f.octets) l.split f.spelled) in
      let parts : f.octets ≡ (t.front ++ t.one) ++ t.after = t.split ∙ sym (append_assoc t.front t.one t.after) in
      let count = ap length parts ∙ length-append (t.front ++ t.one) t.after in (
        l.before,
        TooLong (length l.before) l.count,
        inr (record {
          octets = t.front;
          rest = t.one ++ (t.after ++ f.rest);
          begins = record {
            split = f.split ∙ ap (λ x. x ++ f.rest) t.split ∙ append_assoc t.front (t.one ++ t.after) f.rest ∙ ap (λ x. t.front ++ x) (append_assoc t.one t.after f.rest);
            within = omega (arith, f.within, count, length-append t.front t.one);
            spelled = t.spelled;
            given = l.given;
          };
          block = l.block;
          front = t.one;
          after = t.after ++ f.rest;
          next = record { split = refl; within = omega (arith, f.within, count); spelled = t.here };
          count = l.count;
          answer = ap (λ k. c.answer k l.block) (omega arith) ∙ l.answer;
          is = refl;
        }),
      )

  by_blocks : (blocks : List BlockTree) (e : InputEnd) → Ends c.catalogue input limit blocks e → AreGiven c 0 blocks ⊎ FirstLong c 0 blocks → StreamThere c limit input
  by_blocks blocks e h (inl given) = (blocks, stream_end (length blocks) e, inl (record { end = e; ends = h; given = given; is = refl }))
  by_blocks blocks e h (inr long) = refused blocks (front_of c.catalogue limit input blocks e h) long

  pub stream_there : AreOctets input → AllByRecursion NoFlaw c.catalogue → StreamThere c limit input
  stream_there are clean = let s = (one_end_flawless c.catalogue input limit are clean).some in by_blocks s.0 s.1 s.2 (first_long c 0 s.0)
