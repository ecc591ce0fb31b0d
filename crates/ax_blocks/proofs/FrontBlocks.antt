-- What an input has at its front once blocks of it were taken: one block more, or where the run over it stops.
use Rattle.std.proofs.Common.{◌≡◌, ℕ, ◌+◌, ◌*◌, ◌<◌, ◌≤◌, List, [], ◌∷◌, ◌++◌, Option, Some, None, length, refl, sym, ◌∙◌, ap, subst, arith, append_assoc, append-nil, length-append, inl, inr, Err}
use Rattle.ax_bits.specs.Bits.{AreOctets}
use Rattle.ax_blocks.specs.Reader.{GivesBlock, FindsEnd, StopsUnfinished, OnEnd, OnReadFault, RanOut, octets_to_end}
use Rattle.ax_blocks.specs.Taking.{IsUnfinished}
use Rattle.ax_blocks.specs.declared.next_error.NextError.{NextError}
use Rattle.ax_blocks.specs.declared.next_error.NextError.TheVariants.{BadLen, EndsInHeader, EndsInBlock, InputTooLong, ReadFault}
use Rattle.ax_format.specs.Blocks.{BlockTree}
use Rattle.ax_format.proofs.InputSteps.{ends_by_framing, ends_by_body}
use Rattle.ax_format.specs.Ends.{RawSpells, RawsSpell, RawFails, Ends, by_framing, by_body}
use Rattle.ax_format.specs.Framing.{RawTree, AreRaws, FramingEnd, FramingEnds, whole, bad_len, ends_in_header, ends_in_block, input_too_long, IsJustNext, end, len_of}
use Rattle.ax_format.specs.declared.fault.BodyCause.{BodyCause}
use Rattle.ax_format.specs.declared.record.RawBlock.{RawBlock}
use Rattle.ax_endpoints.specs.Changes.{SinkChange, Gains}
use Rattle.ax_endpoints.specs.Told.{with_front, with_end, IsAtEnd}
use Rattle.ax_blocks.proofs.Results.{output_snoc, report_snoc, given_snoc}
use Rattle.ax_endpoints.proofs.Gains.{both, gains_both, gains_on, gains_part}
use Rattle.ax_blocks.proofs.Streams.{raws_snoc, spell_snoc, spell_count, stream_snoc, length_snoc, framed_count, raw_spells_block, octets_after}
use Rattle.ax_blocks.specs.Commands.{BlockCommand, gives, lines_in, octets_in, report_of, output_of, IsGiven}
use Rattle.ax_blocks.specs.Remembering.{RemembersAll, RemembersUpTo}
use Rattle.ax_blocks.specs.Ending.{cause_of, refused_at, framing_end, error_end, stop_end}
use Rattle.ax_blocks.specs.Streams.{BeginsWith, ThenBlock, EndsWithInput, AtBlock, IsLeft, RefusesBlock, in_body, by_length, ToldRun, reading, writing, reporting, for_memory}
use Rattle.ax_blocks.specs.BlockTaking.{GivesFor, IsTooLongFor, IsCutFor, IsCutAfterLines, GainNothing, StopsFor}
use Rattle.ax_blocks.specs.declared.end.StreamEnd.{StreamEnd}
use Rattle.ax_blocks.specs.declared.end.StreamEnd.TheVariants as EndOf
use Rattle.ax_blocks.specs.declared.work.WorkStop.{WorkStop}
use Rattle.ax_blocks.specs.declared.work.WorkStop.TheVariants.{Fault, TooLong, WriteFault, ReportFault, OutOfMemory}

-- the input began with whole blocks, `given` octets of them, whose results were written, and so much is kept of them
pub record SoFar (c : BlockCommand) (limit : ℕ) (Kept : List RawTree → Type 0) (input : List ℕ) (left : Option (List ℕ)) (o r : SinkChange) (given count : ℕ) : Type 0 where
  pub octets : List ℕ
  pub rest : List ℕ
  pub raws : List RawTree
  pub blocks : List BlockTree
  pub begins : BeginsWith c limit input blocks octets rest
  pub left_is : left ≡ Some rest
  pub framed : AreRaws raws octets
  pub spelled : RawsSpell c.catalogue raws blocks
  pub out : Gains o (output_of c 0 blocks)
  pub report : Gains r (report_of c 0 blocks)
  pub counted : count ≡ length blocks
  pub given_is : given ≡ length octets
  pub kept : Kept raws

-- what was left, with the octets taken in front of what is left now
pub record Split (rest octets : List ℕ) (left' : Option (List ℕ)) : Type 0 where
  pub after : List ℕ
  pub left : left' ≡ Some after
  pub split : rest ≡ octets ++ after

pub left_splits : (rest octets : List ℕ) (left left' : Option (List ℕ)) → left ≡ Some rest → left ≡ with_front octets left' → Split rest octets left'
left_splits rest octets left None e f = let g : ◌≡◌ {A = Option (List ℕ)} (Some rest) None = sym e ∙ f in absurd (cc)
left_splits rest octets left (Some after) e f = let g : ◌≡◌ {A = Option (List ℕ)} (Some rest) (Some (octets ++ after)) = sym e ∙ f in record { after = after; left = refl; split = cc }

-- no block so far
pub nothing_so_far : (c : BlockCommand) (limit : ℕ) (Kept : List RawTree → Type 0) (input : List ℕ) (left : Option (List ℕ)) (o r : SinkChange) (given : ℕ) → Gains o [] → Gains r [] → left ≡ Some input → given ≡ 0 → Kept [] → SoFar c limit Kept input left o r given 0
nothing_so_far c limit Kept input left o r given added said l z kept = record {
  octets = [];
  rest = input;
  raws = [];
  blocks = [];
  begins = record { split = refl; within = omega arith; spelled = refl; given = tt };
  left_is = l;
  framed = refl;
  spelled = tt;
  out = added;
  report = said;
  counted = refl;
  given_is = z;
  kept = kept;
}

-- memory was wanting before the first block
pub no_memory : (c : BlockCommand) (limit : ℕ) (input : List ℕ) (left : Option (List ℕ)) (o r : SinkChange) → left ≡ Some input → Gains o [] → Gains r [] → ToldRun c limit input left o r EndOf.OutOfMemory
no_memory c limit input left o r l added said = inr (for_memory refl (record {
  blocks = [];
  octets = [];
  front = [];
  rest = input;
  stands = record { begins = record { split = refl; within = omega arith; spelled = refl; given = tt }; out = added; report = said };
  next = inl refl;
  left = l;
}))

-- ---- one block more

module _ (c : BlockCommand) (limit : ℕ) (Kept : List RawTree → Type 0) (input : List ℕ) (left left' : Option (List ℕ)) (o r : SinkChange) (given count taken taken' : ℕ) (raw : RawTree)
    (s : SoFar c limit Kept input left o r given count) (g : GivesBlock limit given left left' taken taken' raw) where
  after_block : Split s.rest g.octets left'
  after_block = left_splits s.rest g.octets left left' s.left_is g.took.gives

  is_some : 0 < length raw.body
  is_some = (g.just []).is.some

  fits : length (s.octets ++ g.octets) ≤ limit
  fits =
      let long : length (s.octets ++ g.octets) ≡ length s.octets + length g.octets = length-append s.octets g.octets in
      let old : given ≡ length s.octets = s.given_is in
      let fit : given + length g.octets ≤ limit = g.within in
      omega arith

  then_block : (b : BlockTree) → RawSpells c.catalogue raw b → ThenBlock c limit s.octets s.rest b g.octets after_block.after
  then_block b spells = record { split = after_block.split; within = fits; spelled = raw_spells_block c.catalogue raw b g.octets g.framed spells }

  numbered : (b : BlockTree) (lines laid : List ℕ) → c.answer count b ≡ gives lines laid → c.answer (length s.blocks) b ≡ gives lines laid
  numbered b lines laid answer = ap (λ n. c.answer n b) (sym s.counted) ∙ answer

  at_block : (b : BlockTree) (lines laid : List ℕ) → RawSpells c.catalogue raw b → c.answer count b ≡ gives lines laid → AtBlock c limit input left' s.blocks lines laid
  at_block b lines laid spells answer = record {
    octets = s.octets;
    rest = s.rest;
    begins = s.begins;
    block = b;
    front = g.octets;
    after = after_block.after;
    next = then_block b spells;
    answer = numbered b lines laid answer;
    left = after_block.left;
  }

  pub one_block_more : (Later : List RawTree → Type 0) (lines laid : List ℕ) (p q : SinkChange) → ((raws : List RawTree) → Kept raws → Later (raws ++ raw ∷ [])) → GivesFor c count raw lines laid → p.held ≡ o.held' → Gains p laid → q.held ≡ r.held' → Gains q lines
      → SoFar c limit Later input left' (both o p) (both r q) (given + (3 + length raw.body)) (count + 1)
  one_block_more Later lines laid p q keeps f joins added shows said =
      let first : 0 + length s.blocks ≡ length s.blocks = omega arith in
      let answer : c.answer (0 + length s.blocks) f.block ≡ gives lines laid = ap (λ n. c.answer n f.block) first ∙ numbered f.block lines laid f.answer in
      let size : length g.octets ≡ 3 + length raw.body = framed_count raw.category raw.body g.octets g.framed in
      let old : given ≡ length s.octets = s.given_is in
      let long : length (s.octets ++ g.octets) ≡ length s.octets + length g.octets = length-append s.octets g.octets in
      record {
        octets = s.octets ++ g.octets;
        rest = after_block.after;
        raws = s.raws ++ raw ∷ [];
        blocks = s.blocks ++ f.block ∷ [];
        begins = record {
          split = s.begins.split ∙ ap (λ x. s.octets ++ x) after_block.split ∙ sym (append_assoc s.octets g.octets after_block.after);
          within = fits;
          spelled = stream_snoc c.catalogue s.blocks s.octets g.octets f.block s.begins.spelled (raw_spells_block c.catalogue raw f.block g.octets g.framed f.spells);
          given = given_snoc c 0 s.blocks f.block s.begins.given (subst IsGiven (sym answer) tt);
        };
        left_is = after_block.left;
        framed = raws_snoc s.raws s.octets g.octets raw s.framed g.framed is_some;
        spelled = spell_snoc c.catalogue s.raws s.blocks raw f.block s.spelled f.spells;
        out = gains_both o p (output_of c 0 s.blocks) laid joins s.out added ∙ ap (with_end o.held) (sym (output_snoc c 0 s.blocks f.block ∙ ap (λ a. output_of c 0 s.blocks ++ octets_in a) answer));
        report = gains_both r q (report_of c 0 s.blocks) lines shows s.report said ∙ ap (with_end r.held) (sym (report_snoc c 0 s.blocks f.block ∙ ap (λ a. report_of c 0 s.blocks ++ lines_in a) answer));
        counted = ap (λ n. n + 1) s.counted ∙ sym (length_snoc s.blocks f.block);
        given_is = omega arith;
        kept = keeps s.raws s.kept;
      }

  -- ---- and no more

  pub stops_for_memory : (p q : SinkChange) → p.held ≡ o.held' → q.held ≡ r.held' → GainNothing p q → ToldRun c limit input left' (both o p) (both r q) EndOf.OutOfMemory
  stops_for_memory p q joins shows nothing = inr (for_memory refl (record {
    blocks = s.blocks;
    octets = s.octets;
    front = g.octets;
    rest = after_block.after;
    stands = record {
      begins = record { split = s.begins.split ∙ ap (λ x. s.octets ++ x) after_block.split; within = s.begins.within; spelled = s.begins.spelled; given = s.begins.given };
      out = gains_on o p (output_of c 0 s.blocks) joins s.out nothing.out;
      report = gains_on r q (report_of c 0 s.blocks) shows s.report nothing.report;
    };
    next = inr (record { raw = raw; framed = g.framed; some = is_some; within = fits });
    left = after_block.left;
  }))

  pub stops_writing : (p q : SinkChange) → p.held ≡ o.held' → q.held ≡ r.held' → IsCutAfterLines c count raw p q → ToldRun c limit input left' (both o p) (both r q) EndOf.WriteFault
  stops_writing p q joins shows f = inr (writing refl (record {
    blocks = s.blocks;
    lines = f.lines;
    laid = f.octets;
    at = at_block f.is.block f.lines f.octets f.is.spells f.is.answer;
    out = gains_part o p (output_of c 0 s.blocks) f.octets joins s.out f.part;
    report = gains_both r q (report_of c 0 s.blocks) f.lines shows s.report f.said;
  }))

  pub stops_reporting : (p q : SinkChange) → p.held ≡ o.held' → q.held ≡ r.held' → IsCutFor c count raw p q → ToldRun c limit input left' (both o p) (both r q) EndOf.ReportFault
  stops_reporting p q joins shows f = inr (reporting refl (record {
    blocks = s.blocks;
    lines = f.lines;
    laid = f.octets;
    at = at_block f.is.block f.lines f.octets f.is.spells f.is.answer;
    out = gains_on o p (output_of c 0 s.blocks) joins s.out f.nothing;
    report = gains_part r q (report_of c 0 s.blocks) f.lines shows s.report f.part;
  }))

  left_by_block : (e : StreamEnd) → RefusesBlock (length s.blocks) e → IsLeft c limit input left' s.blocks e
  left_by_block e is = inr (record {
    octets = s.octets;
    raw = raw;
    front = g.octets;
    after = after_block.after;
    split = s.begins.split ∙ ap (λ x. s.octets ++ x) after_block.split;
    spelled = s.begins.spelled;
    framed = g.framed;
    left = after_block.left;
    is = is;
  })

  pub answers_too_long : (n : ℕ) (p q : SinkChange) → p.held ≡ o.held' → q.held ≡ r.held' → IsTooLongFor c count raw p q n → ToldRun c limit input left' (both o p) (both r q) (EndOf.TooLong count n)
  answers_too_long n p q joins shows f = inl (record {
    blocks = s.blocks;
    answers = inr (record {
      octets = s.octets;
      rest = s.rest;
      begins = s.begins;
      block = f.block;
      front = g.octets;
      after = after_block.after;
      next = then_block f.block f.spells;
      count = n;
      answer = ap (λ m. c.answer m f.block) (sym s.counted) ∙ f.answer;
      is = ap (λ m. EndOf.TooLong m n) s.counted;
    });
    out = gains_on o p (output_of c 0 s.blocks) joins s.out f.nothing.out;
    report = gains_on r q (report_of c 0 s.blocks) shows s.report f.nothing.report;
    read = λ m e. absurd (cc);
    left = left_by_block (EndOf.TooLong count n) (by_length n (ap (λ m. EndOf.TooLong m n) s.counted));
  })

  pub answers_fault : (bit : ℕ) (cause : BodyCause) (p q : SinkChange) → AreOctets input → p.held ≡ o.held' → q.held ≡ r.held' → GainNothing p q → RawFails c.catalogue raw bit cause
      → ToldRun c limit input left' (both o p) (both r q) (refused_at (cause_of cause) count (24 + bit))
  answers_fault bit cause p q are joins shows nothing f =
      let whole_split : input ≡ (s.octets ++ g.octets) ++ after_block.after = s.begins.split ∙ ap (λ x. s.octets ++ x) after_block.split ∙ sym (append_assoc s.octets g.octets after_block.after) in
      inl (record {
        blocks = s.blocks;
        answers = inl (record {
          end = by_body (length s.raws) (24 + bit) cause;
          ends = subst (λ x. Ends c.catalogue x limit s.blocks (by_body (length s.raws) (24 + bit) cause)) (sym whole_split)
              (ends_by_body c.catalogue limit s.raws raw s.blocks s.octets g.octets after_block.after bit cause s.framed s.spelled g.framed is_some fits (octets_after (s.octets ++ g.octets) after_block.after (subst AreOctets whole_split are)) f);
          given = s.begins.given;
          is = ap (λ n. refused_at (cause_of cause) n (24 + bit)) (s.counted ∙ sym (spell_count c.catalogue s.raws s.blocks s.spelled));
        });
        out = gains_on o p (output_of c 0 s.blocks) joins s.out nothing.out;
        report = gains_on r q (report_of c 0 s.blocks) shows s.report nothing.report;
        read = λ m e. absurd (cc);
        left = left_by_block (refused_at (cause_of cause) count (24 + bit)) (in_body bit cause (ap (λ m. refused_at (cause_of cause) m (24 + bit)) s.counted));
      })

  pub takes_no_more : (p q : SinkChange) (stop : WorkStop) → AreOctets input → p.held ≡ o.held' → q.held ≡ r.held' → StopsFor c count raw p q stop → ToldRun c limit input left' (both o p) (both r q) (stop_end count stop)
  takes_no_more p q (Fault f) are joins shows h = answers_fault f.bit f.cause p q are joins shows h.nothing h.fails
  takes_no_more p q (TooLong n) are joins shows h = answers_too_long n p q joins shows h
  takes_no_more p q WriteFault are joins shows h = stops_writing p q joins shows h
  takes_no_more p q ReportFault are joins shows h = stops_reporting p q joins shows h
  takes_no_more p q OutOfMemory are joins shows h = stops_for_memory p q joins shows h

  -- the block is the last one of the input: it is kept too
  pub keeps_through : (Later : List RawTree → Type 0) → ((raws : List RawTree) → Kept raws → Later (raws ++ raw ∷ [])) → left ≡ Some g.octets → RemembersAll Later limit input
  keeps_through Later keeps alone =
      let rest : s.rest ≡ g.octets = (let e : ◌≡◌ {A = Option (List ℕ)} (Some s.rest) (Some g.octets) = sym s.left_is ∙ alone in cc) in
      record {
        raws = s.raws ++ raw ∷ [];
        framed = record {
          front = s.octets ++ g.octets;
          rest = [];
          split = s.begins.split ∙ ap (λ x. s.octets ++ x) rest ∙ sym (append-nil (s.octets ++ g.octets));
          blocks = raws_snoc s.raws s.octets g.octets raw s.framed g.framed is_some;
          within = fits;
          ends = refl;
        };
        remembered = keeps s.raws s.kept;
      }

-- ---- no block more

-- as an input of their own, octets of a block that isn't there whole end in its header or in it, or are none
unfinished_ends : (limit before : ℕ) (rest : List ℕ) → IsUnfinished limit before rest → (e : FramingEnd) × FramingEnds limit before rest e
unfinished_ends limit before [] u = (whole, refl)
unfinished_ends limit before (a ∷ []) u = (ends_in_header 8, record { some = omega arith; cut = omega arith; within = u.within; missing = refl })
unfinished_ends limit before (a ∷ b ∷ []) u = (ends_in_header 16, record { some = omega arith; cut = omega arith; within = u.within; missing = refl })
unfinished_ends limit before (a ∷ b ∷ d ∷ more) u =
    let header : 3 ≤ length (a ∷ b ∷ d ∷ more) = omega arith in
    (ends_in_block (8 * length (a ∷ b ∷ d ∷ more)), record { header = header; len = u.len header; cut = u.more header; within = u.within; missing = refl })

module _ (c : BlockCommand) (limit : ℕ) (Kept : List RawTree → Type 0) (input : List ℕ) (left left' : Option (List ℕ)) (o r : SinkChange) (given count taken taken' : ℕ)
    (s : SoFar c limit Kept input left o r given count) where
  ends_framed : (e : FramingEnd) → FindsEnd limit given left left' taken taken' e → EndsWithInput c limit input s.blocks (framing_end count e)
  ends_framed e f =
      let t : Split s.rest f.octets left' = left_splits s.rest f.octets left left' s.left_is f.took.gives in
      let just : IsJustNext limit given s.rest (end e) = subst (λ x. IsJustNext limit given x (end e)) (sym t.split) (f.just t.after (subst (RanOut e) t.left f.ran_out)) in
      record {
        end = by_framing e;
        ends = subst (λ x. Ends c.catalogue x limit s.blocks (by_framing e)) (sym s.begins.split)
            (ends_by_framing c.catalogue limit s.raws s.blocks s.octets s.rest e s.framed s.spelled s.begins.within (let P : ℕ → Type 0 = λ n. FramingEnds limit n s.rest e in subst P s.given_is just.is));
        given = s.begins.given;
        is = ap (λ n. framing_end n e) s.counted;
      }

  left_by_framing : (e : FramingEnd) → FindsEnd limit given left left' taken taken' e → IsLeft c limit input left' s.blocks (framing_end count e)
  left_by_framing e f =
      let t : Split s.rest f.octets left' = left_splits s.rest f.octets left left' s.left_is f.took.gives in
      inl (record {
        octets = s.octets;
        shown = f.octets;
        after = t.after;
        split = s.begins.split ∙ ap (λ x. s.octets ++ x) t.split;
        spelled = s.begins.spelled;
        end = e;
        count = f.count ∙ ap (λ n. octets_to_end limit n e) s.given_is;
        ran_out = f.ran_out;
        left = t.left;
        is = ap (λ n. framing_end n e) s.counted;
      })

  pub reads_all : FindsEnd limit given left left' taken taken' whole → ToldRun c limit input left' o r (EndOf.Done count)
  reads_all f =
      let t : Split s.rest f.octets left' = left_splits s.rest f.octets left left' s.left_is f.took.gives in
      let none : t.after ≡ [] = subst IsAtEnd t.left f.ran_out in
      inl (record { blocks = s.blocks; answers = inl (ends_framed whole f); out = s.out; report = s.report; read = λ m e. t.left ∙ ap Some none; left = left_by_framing whole f })

  -- what is kept, where framing ends so
  pub keeps_up_to : (e : FramingEnd) → FramingEnds limit given s.rest e → RemembersUpTo Kept limit input e
  keeps_up_to e ends = record {
    raws = s.raws;
    framed = record {
      front = s.octets;
      rest = s.rest;
      split = s.begins.split;
      blocks = s.framed;
      within = s.begins.within;
      ends = (let P : ℕ → Type 0 = λ n. FramingEnds limit n s.rest e in subst P s.given_is ends);
    };
    remembered = s.kept;
  }

  pub keeps_at_end : (e : FramingEnd) → FindsEnd limit given left left' taken taken' e → RemembersUpTo Kept limit input e
  keeps_at_end e f =
      let t : Split s.rest f.octets left' = left_splits s.rest f.octets left left' s.left_is f.took.gives in
      let just : IsJustNext limit given s.rest (end e) = subst (λ x. IsJustNext limit given x (end e)) (sym t.split) (f.just t.after (subst (RanOut e) t.left f.ran_out)) in
      keeps_up_to e just.is

  pub keeps_unfinished : IsUnfinished limit given s.rest → (e : FramingEnd) × RemembersUpTo Kept limit input e
  keeps_unfinished u = let (e, ends) = unfinished_ends limit given s.rest u in (e, keeps_up_to e ends)

  pub ends_early : (e : FramingEnd) → ((m : ℕ) → framing_end count e ≡ EndOf.Done m → ⊥) → FindsEnd limit given left left' taken taken' e → ToldRun c limit input left' o r (framing_end count e)
  ends_early e never f = inl (record { blocks = s.blocks; answers = inl (ends_framed e f); out = s.out; report = s.report; read = λ m is. absurd (never m is); left = left_by_framing e f })

  pub stops_reading : StopsUnfinished limit given left left' taken taken' → ToldRun c limit input left' o r EndOf.ReadFault
  stops_reading u =
      let t : Split s.rest u.octets left' = left_splits s.rest u.octets left left' s.left_is u.took.gives in
      inr (reading refl (record {
        blocks = s.blocks;
        octets = s.octets;
        part = u.octets;
        rest = t.after;
        stands = record {
          begins = record { split = s.begins.split ∙ ap (λ x. s.octets ++ x) t.split; within = s.begins.within; spelled = s.begins.spelled; given = s.begins.given };
          out = s.out;
          report = s.report;
        };
        left = t.left;
        unfinished = (let P : ℕ → Type 0 = λ n. IsUnfinished limit n u.octets in subst P s.given_is u.unfinished);
      }))

  pub reader_stops : (e : NextError) → OnEnd {A = RawBlock} (Err e) (FindsEnd limit given left left' taken taken') → OnReadFault {A = RawBlock} (Err e) (StopsUnfinished limit given left left' taken taken')
      → ToldRun c limit input left' o r (error_end count e)
  reader_stops BadLen f u = ends_early bad_len (λ m is. absurd (cc)) f
  reader_stops (EndsInHeader bit) f u = ends_early (ends_in_header bit) (λ m is. absurd (cc)) f
  reader_stops (EndsInBlock bit) f u = ends_early (ends_in_block bit) (λ m is. absurd (cc)) f
  reader_stops InputTooLong f u = ends_early input_too_long (λ m is. absurd (cc)) f
  reader_stops ReadFault f u = stops_reading u
