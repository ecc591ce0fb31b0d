-- An input has one answer, also where a block is refused for its length.
use Rattle.std.proofs.Common.{◌≡◌, ℕ, ◌+◌, ◌<◌, ◌≤◌, inl, inr, List, [], ◌∷◌, ◌++◌, length, refl, sym, ◌∙◌, ap, subst, arith, append_assoc, append-nil, length-append}
use Rattle.ax_format.proofs.EndsOnce.{ends_once}
use Rattle.ax_format.proofs.Framings.{len_of_front, one_next}
use Rattle.ax_format.proofs.Framings as framings
use Rattle.ax_format.proofs.InputSteps.{ends_well, ends_by_body}
use Rattle.ax_format.specs.Blocks.{BlockTree, IsFramed, SpellsBlock, SpellsStream}
use Rattle.ax_format.specs.Ends.{RawsSpell, RawFails, InputEnd, by_framing, by_body, Ends}
use Rattle.ax_format.specs.Framing.{RawTree, AreRaws, FramingEnd, whole, FramingEnds, block, end}
use Rattle.ax_format.specs.Specification.{SpecTree}
use Rattle.ax_format.specs.declared.fault.BodyCause.{BodyCause}
use Rattle.ax_blocks.proofs.Prefixes.{IsSameFront, same_front, none_more, later_number}
use Rattle.ax_blocks.proofs.Streams.{raw_spells_block}
use Rattle.ax_blocks.specs.Commands.{BlockCommand, BlockAnswer, too_long, IsGiven, AreGiven}
use Rattle.ax_blocks.specs.Ending.{stream_end}
use Rattle.ax_blocks.specs.Streams.{StreamAnswers, EndsTooLong, EndsWithInput}
use Rattle.ax_blocks.specs.declared.end.StreamEnd.{StreamEnd}
use Rattle.ax_blocks.specs.declared.end.StreamEnd.TheVariants.{TooLong}

-- ---- a block, and the raw block that spells it

record OneRaw (catalogue : List SpecTree) (b : BlockTree) (octets : List ℕ) : Type 0 where
  raw : RawTree
  framed : IsFramed raw.category raw.body octets
  some : 0 < length raw.body

one_raw : (catalogue : List SpecTree) (b : BlockTree) (raws : List RawTree) (octets : List ℕ) → RawsSpell catalogue raws (b ∷ []) → AreRaws raws octets → OneRaw catalogue b octets
one_raw catalogue b [] octets h a = absurd h
one_raw catalogue b (raw ∷ []) octets h (front, rest, split, framed, some, more) =
    let same : front ≡ octets = sym (append-nil front) ∙ ap (λ r. front ++ r) (sym more) ∙ sym split in
    record { raw = raw; framed = subst (IsFramed raw.category raw.body) same framed; some = some }
one_raw catalogue b (raw ∷ r ∷ raws) octets h a = absurd h.1

one_block : (catalogue : List SpecTree) (b : BlockTree) (octets : List ℕ) → SpellsBlock catalogue b octets → Ends catalogue octets (length octets) (b ∷ []) (by_framing whole)
one_block catalogue b octets s = (ends_well catalogue octets (length octets) (b ∷ [])).1 ((octets, [], sym (append-nil octets), s, refl), omega arith)

raw_of : (catalogue : List SpecTree) (b : BlockTree) (octets : List ℕ) → SpellsBlock catalogue b octets → OneRaw catalogue b octets
raw_of catalogue b octets s =
    let e = one_block catalogue b octets s in
    let same : e.framed.front ≡ octets = sym (append-nil e.framed.front) ∙ ap (λ r. e.framed.front ++ r) (sym e.framed.ends) ∙ sym e.framed.split in
    subst (OneRaw catalogue b) same (one_raw catalogue b e.raws e.framed.front e.spelled e.framed.blocks)

-- ---- where an input ends, no further block is spelled within the limit

abbrev Blocked : List SpecTree → ℕ → ℕ → List ℕ → Type 0
Blocked catalogue limit taken rest = (b : BlockTree) (front after : List ℕ) → rest ≡ front ++ after → SpellsBlock catalogue b front → taken + length front ≤ limit → ⊥

blocked_by_framing : (catalogue : List SpecTree) (limit taken : ℕ) (rest : List ℕ) (e : FramingEnd) → taken ≤ limit → FramingEnds limit taken rest e → Blocked catalogue limit taken rest
blocked_by_framing catalogue limit taken rest e le h b front after split s within =
    let r = raw_of catalogue b front s in
    absurd (let x : block r.raw ≡ end e = one_next limit taken rest (end e) (block r.raw) le h (record { front = front; after = after; split = split; framed = r.framed; some = r.some; within = within }) in cc)

blocked_by_body : (catalogue : List SpecTree) (limit taken : ℕ) (rest : List ℕ) (bad : RawTree) (octets later : List ℕ) (p : ℕ) (c : BodyCause) → rest ≡ octets ++ later → IsFramed bad.category bad.body octets → 0 < length bad.body → RawFails catalogue bad p c
    → Blocked catalogue limit taken rest
blocked_by_body catalogue limit taken rest bad octets later p c e framed some fails b front after split s within =
    let r = raw_of catalogue b front s in
    let x = len_of_front bad.category bad.body octets later rest framed e in
    let y = len_of_front r.raw.category r.raw.body front after rest r.framed split in
    let same : octets ≡ front = framings.same_front octets front later after (sym e ∙ split) (sym x.0 ∙ y.0) in
    let failing : Ends catalogue (front ++ []) (length front) [] (by_body 0 (24 + p) c)
    = ends_by_body catalogue (length front) [] bad [] [] front [] p c refl tt (subst (IsFramed bad.category bad.body) same framed) some (omega arith) tt fails in
    let once = ends_once catalogue front (length front) (b ∷ []) [] (by_framing whole) (by_body 0 (24 + p) c) (one_block catalogue b front s)
    (subst (λ o. Ends catalogue o (length front) [] (by_body 0 (24 + p) c)) (append-nil front) failing) in
    absurd (let z : b ∷ [] ≡ [] = once.0 in cc)

-- ---- the blocks of an input up to its end

split_raws : (raws others : List RawTree) (octets : List ℕ) → AreRaws (raws ++ others) octets → (x : List ℕ) × (y : List ℕ) × (octets ≡ x ++ y) × AreRaws raws x × AreRaws others y
split_raws [] others octets h = ([], octets, refl, refl, h)
split_raws (raw ∷ raws) others octets (front, rest, split, framed, some, more) =
    let t = split_raws raws others rest more in
    (front ++ t.0, t.1, split ∙ ap (λ k. front ++ k) t.2 ∙ sym (append_assoc front t.0 t.1), (front, t.0, refl, framed, some, t.3), t.4)

stream_of : (catalogue : List SpecTree) (raws : List RawTree) (blocks : List BlockTree) (octets : List ℕ) → AreRaws raws octets → RawsSpell catalogue raws blocks → SpellsStream catalogue blocks octets
stream_of catalogue [] [] octets h s = h
stream_of catalogue [] (b ∷ blocks) octets h s = absurd s
stream_of catalogue (raw ∷ raws) [] octets h s = absurd s
stream_of catalogue (raw ∷ raws) (b ∷ blocks) octets (front, rest, split, framed, some, more) s = (front, rest, split, raw_spells_block catalogue raw b front framed s.0, stream_of catalogue raws blocks rest more s.1)

record Reached (catalogue : List SpecTree) (limit : ℕ) (input : List ℕ) (blocks : List BlockTree) : Type 0 where
  octets : List ℕ
  rest : List ℕ
  split : input ≡ octets ++ rest
  spelled : SpellsStream catalogue blocks octets
  blocked : Blocked catalogue limit (length octets) rest

reached : (catalogue : List SpecTree) (limit : ℕ) (input : List ℕ) (blocks : List BlockTree) (e : InputEnd) → Ends catalogue input limit blocks e → Reached catalogue limit input blocks
reached catalogue limit input blocks (by_framing e) h = record {
  octets = h.framed.front;
  rest = h.framed.rest;
  split = h.framed.split;
  spelled = stream_of catalogue h.raws blocks h.framed.front h.framed.blocks h.spelled;
  blocked = blocked_by_framing catalogue limit (length h.framed.front) h.framed.rest e h.framed.within h.framed.ends;
}
reached catalogue limit input blocks (by_body number bit c) h =
    let t = split_raws h.before (h.bad ∷ h.after) h.framed.front h.framed.blocks in
    let w : AreRaws (h.bad ∷ h.after) t.1 = t.4 in
    record {
      octets = t.0;
      rest = t.1 ++ h.framed.rest;
      split = h.framed.split ∙ ap (λ x. x ++ h.framed.rest) t.2 ∙ append_assoc t.0 t.1 h.framed.rest;
      spelled = stream_of catalogue h.before blocks t.0 t.3 h.spelled;
      blocked = blocked_by_body catalogue limit (length t.0) (t.1 ++ h.framed.rest) h.bad w.0 (w.1 ++ h.framed.rest) h.place c (ap (λ x. x ++ h.framed.rest) w.2 ∙ append_assoc w.0 w.1 h.framed.rest) w.3 w.4 h.fails;
    }

-- ---- a block that is spelled within the limit, after others, is one of them

not_long : (c : BlockCommand) (limit taken n : ℕ) (before blocks : List BlockTree) (b : BlockTree) (octets front after x z : List ℕ) → octets ++ (front ++ after) ≡ x ++ z → SpellsStream c.catalogue before octets → SpellsBlock c.catalogue b front
    → taken + length (octets ++ front) ≤ limit → SpellsStream c.catalogue blocks x → AreGiven c n blocks → Blocked c.catalogue limit (taken + length x) z → IsGiven (c.answer (n + length before) b)
not_long c limit taken n [] [] b octets front after x z e s h within m given blocked =
    let lo : length (octets ++ front) ≡ length octets + length front = length-append octets front in
    let zo : length octets ≡ 0 = ap length s in
    let zx : length x ≡ 0 = ap length m in
    absurd (blocked b front after (sym (ap (λ o. o ++ z) m) ∙ sym e ∙ ap (λ o. o ++ (front ++ after)) s) h (omega arith))
not_long c limit taken n [] (y ∷ blocks) b octets front after x z e s h within (f, r, split, first, more) given blocked =
    let same : IsSameFront y b (r ++ z) after = same_front c.catalogue y b f (r ++ z) front after (sym (append_assoc f r z) ∙ sym (ap (λ o. o ++ z) split) ∙ sym e ∙ ap (λ o. o ++ (front ++ after)) s) first h in
    subst (λ m. IsGiven (c.answer m b)) (none_more n) (subst (λ k. IsGiven (c.answer n k)) same.block given.0)
not_long c limit taken n (a ∷ before) [] b octets front after x z e (u, v, split, first, others) h within m given blocked =
    let lo : length (octets ++ front) ≡ length octets + length front = length-append octets front in
    let lu : length octets ≡ length u + length v = ap length split ∙ length-append u v in
    let zx : length x ≡ 0 = ap length m in
    absurd (blocked a u (v ++ (front ++ after)) (sym (ap (λ o. o ++ z) m) ∙ sym e ∙ ap (λ o. o ++ (front ++ after)) split ∙ append_assoc u v (front ++ after)) first (omega arith))
not_long c limit taken n (a ∷ before) (y ∷ blocks) b octets front after x z e (u, v, split, first, others) h within (f, r, split', first', more) given blocked =
    let joined : u ++ (v ++ (front ++ after)) ≡ f ++ (r ++ z) = sym (append_assoc u v (front ++ after)) ∙ sym (ap (λ o. o ++ (front ++ after)) split) ∙ e ∙ ap (λ o. o ++ z) split' ∙ append_assoc f r z in
    let same : IsSameFront a y (v ++ (front ++ after)) (r ++ z) = same_front c.catalogue a y u (v ++ (front ++ after)) f (r ++ z) joined first first' in
    let total : length u + length (v ++ (front ++ after)) ≡ length f + length (r ++ z) = sym (length-append u (v ++ (front ++ after))) ∙ ap length joined ∙ length-append f (r ++ z) in
    let later : length (v ++ (front ++ after)) ≡ length (r ++ z) = ap length same.after in
    let lo : length (octets ++ front) ≡ length octets + length front = length-append octets front in
    let lv : length (v ++ front) ≡ length v + length front = length-append v front in
    let lu : length octets ≡ length u + length v = ap length split ∙ length-append u v in
    let lx : length x ≡ length f + length r = ap length split' ∙ length-append f r in
    subst (λ m. IsGiven (c.answer m b)) (later_number n (length before))
    (not_long c limit (taken + length u) (n + 1) before blocks b v front after r z same.after others h (omega arith) more given.1 (λ k p q sp sk le. blocked k p q sp sk (omega arith)))

-- ---- two blocks that are refused

record IsSameLong (before others : List BlockTree) (b d : BlockTree) : Type 0 where
  blocks : before ≡ others
  block_is : b ≡ d

long_once : (c : BlockCommand) (n : ℕ) (before others : List BlockTree) (b d : BlockTree) (octets front after x front' after' : List ℕ) → octets ++ (front ++ after) ≡ x ++ (front' ++ after') → SpellsStream c.catalogue before octets → SpellsBlock c.catalogue b front
    → SpellsStream c.catalogue others x → SpellsBlock c.catalogue d front' → AreGiven c n before → AreGiven c n others → (IsGiven (c.answer (n + length before) b) → ⊥) → (IsGiven (c.answer (n + length others) d) → ⊥) → IsSameLong before others b d
long_once c n [] [] b d octets front after x front' after' e s h m k given more never nor =
    let same : IsSameFront b d after after' = same_front c.catalogue b d front after front' after' (sym (ap (λ o. o ++ (front ++ after)) s) ∙ e ∙ ap (λ o. o ++ (front' ++ after')) m) h k in
    record { blocks = refl; block_is = same.block }
long_once c n [] (y ∷ others) b d octets front after x front' after' e s h (f, r, split, first, rest) k given more never nor =
    let same : IsSameFront y b (r ++ (front' ++ after')) after
    = same_front c.catalogue y b f (r ++ (front' ++ after')) front after (sym (append_assoc f r (front' ++ after')) ∙ sym (ap (λ o. o ++ (front' ++ after')) split) ∙ sym e ∙ ap (λ o. o ++ (front ++ after)) s) first h in
    absurd (never (subst (λ m. IsGiven (c.answer m b)) (none_more n) (subst (λ q. IsGiven (c.answer n q)) same.block more.0)))
long_once c n (a ∷ before) [] b d octets front after x front' after' e (u, v, split, first, rest) h m k given more never nor =
    let same : IsSameFront a d (v ++ (front ++ after)) after'
    = same_front c.catalogue a d u (v ++ (front ++ after)) front' after' (sym (append_assoc u v (front ++ after)) ∙ sym (ap (λ o. o ++ (front ++ after)) split) ∙ e ∙ ap (λ o. o ++ (front' ++ after')) m) first k in
    absurd (nor (subst (λ m. IsGiven (c.answer m d)) (none_more n) (subst (λ q. IsGiven (c.answer n q)) same.block given.0)))
long_once c n (a ∷ before) (y ∷ others) b d octets front after x front' after' e (u, v, split, first, rest) h (f, r, split', first', rest') k given more never nor =
    let same : IsSameFront a y (v ++ (front ++ after)) (r ++ (front' ++ after'))
    = same_front c.catalogue a y u (v ++ (front ++ after)) f (r ++ (front' ++ after'))
    (sym (append_assoc u v (front ++ after)) ∙ sym (ap (λ o. o ++ (front ++ after)) split) ∙ e ∙ ap (λ o. o ++ (front' ++ after')) split' ∙ append_assoc f r (front' ++ after')) first first' in
    let t = long_once c (n + 1) before others b d v front after r front' after' same.after rest h rest' k given.1 more.1
    (λ g. never (subst (λ m. IsGiven (c.answer m b)) (later_number n (length before)) g)) (λ g. nor (subst (λ m. IsGiven (c.answer m d)) (later_number n (length others)) g)) in
    record { blocks = λ i. same.block i ∷ t.blocks i; block_is = t.block_is }

-- ---- one answer

none_before : (n : ℕ) → 0 + n ≡ n
none_before n = omega arith

refused : (answer : BlockAnswer) (count : ℕ) → answer ≡ too_long count → IsGiven answer → ⊥
refused answer count is given = subst IsGiven is given

one_count : (count other : ℕ) → too_long count ≡ too_long other → count ≡ other
one_count count other e = cc

module _ (c : BlockCommand) (limit : ℕ) (input : List ℕ) where
  long_or_end : (blocks others : List BlockTree) (e d : StreamEnd) → EndsTooLong c limit input blocks e → EndsWithInput c limit input others d → ⊥
  long_or_end blocks others e d h k =
      let r = reached c.catalogue limit input others k.end k.ends in
      let within : length (h.octets ++ h.front) ≤ limit = h.next.within in
      let some : IsGiven (c.answer (0 + length blocks) h.block)
      = not_long c limit 0 0 blocks others h.block h.octets h.front h.after r.octets r.rest (ap (λ x. h.octets ++ x) (sym h.next.split) ∙ sym h.begins.split ∙ r.split) h.begins.spelled h.next.spelled (omega arith) r.spelled k.given
      (λ b p q sp sk le. r.blocked b p q sp sk (omega arith)) in
      refused (c.answer (length blocks) h.block) h.count h.answer (subst (λ n. IsGiven (c.answer n h.block)) (none_before (length blocks)) some)

  pub answers_once : (blocks others : List BlockTree) (e d : StreamEnd) → StreamAnswers c limit input blocks e → StreamAnswers c limit input others d → (e ≡ d) × (blocks ≡ others)
  answers_once blocks others e d (inl h) (inl k) =
      let same = ends_once c.catalogue input limit blocks others h.end k.end h.ends k.ends in
      (h.is ∙ ap (λ b. stream_end (length b) h.end) same.0 ∙ ap (λ x. stream_end (length others) x) same.1 ∙ sym k.is, same.0)
  answers_once blocks others e d (inr h) (inl k) = absurd (long_or_end blocks others e d h k)
  answers_once blocks others e d (inl h) (inr k) = absurd (long_or_end others blocks d e k h)
  answers_once blocks others e d (inr h) (inr k) =
      let t = long_once c 0 blocks others h.block k.block h.octets h.front h.after k.octets k.front k.after
      (ap (λ x. h.octets ++ x) (sym h.next.split) ∙ sym h.begins.split ∙ k.begins.split ∙ ap (λ x. k.octets ++ x) k.next.split) h.begins.spelled h.next.spelled k.begins.spelled k.next.spelled h.begins.given k.begins.given
      (λ g. refused (c.answer (length blocks) h.block) h.count h.answer (subst (λ n. IsGiven (c.answer n h.block)) (none_before (length blocks)) g))
      (λ g. refused (c.answer (length others) k.block) k.count k.answer (subst (λ n. IsGiven (c.answer n k.block)) (none_before (length others)) g)) in
      let count : h.count ≡ k.count = one_count h.count k.count (sym h.answer ∙ ap (λ m. c.answer (length m) h.block) t.blocks ∙ ap (c.answer (length others)) t.block_is ∙ k.answer) in
      (h.is ∙ ap (λ m. TooLong (length m) h.count) t.blocks ∙ ap (TooLong (length others)) count ∙ sym k.is, t.blocks)
