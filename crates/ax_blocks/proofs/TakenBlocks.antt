-- The octets that were taken, as an input of their own: blocks at its front, and where the run over it stops.
use Rattle.std.proofs.Common.{◌≡◌, ℕ, ◌+◌, ◌≤◌, List, [], ◌∷◌, ◌++◌, Option, Some, None, length, refl, sym, ◌∙◌, ap, arith, append-nil, Err}
use Rattle.ax_blocks.specs.Reader.{GivesBlock, FindsEnd, StopsUnfinished, OnEnd, OnReadFault, RanOut}
use Rattle.ax_blocks.specs.Taking.{Took}
use Rattle.ax_blocks.proofs.Ends.{took_both}
use Rattle.ax_blocks.specs.declared.next_error.NextError.{NextError}
use Rattle.ax_blocks.specs.declared.next_error.NextError.TheVariants.{BadLen, EndsInHeader, EndsInBlock, InputTooLong, ReadFault}
use Rattle.ax_format.specs.Framing.{RawTree, FramingEnd, whole, bad_len, ends_in_header, ends_in_block, input_too_long}
use Rattle.ax_format.specs.declared.record.RawBlock.{RawBlock}
use Rattle.ax_endpoints.specs.Changes.{SourceChange, SinkChange, Gains}
use Rattle.ax_endpoints.proofs.Gains.{both}
use Rattle.ax_blocks.specs.Commands.{BlockCommand}
use Rattle.ax_blocks.specs.Ending.{framing_end, error_end, stop_end}
use Rattle.ax_blocks.specs.Streams.{RunsOver}
use Rattle.ax_blocks.specs.BlockTaking.{GivesFor, StopsFor}
use Rattle.ax_blocks.specs.declared.end.StreamEnd.TheVariants as EndOf
use Rattle.ax_blocks.specs.declared.work.WorkStop.{WorkStop}
use Rattle.ax_blocks.specs.Remembering.{RemembersAll, RemembersUpTo}
use Rattle.ax_blocks.proofs.FrontBlocks.{SoFar, nothing_so_far, one_block_more, takes_no_more, keeps_through, reads_all, keeps_up_to, keeps_at_end, keeps_unfinished, ends_early, stops_reading}

-- they are whole blocks, whose results were written, whether the source tells them or not
pub record TakenSoFar (c : BlockCommand) (limit : ℕ) (Kept : List RawTree → Type 0) (i : SourceChange) (o r : SinkChange) (given count : ℕ) : Type 0 where
  pub octets : List ℕ
  pub took : Took i.left i.left' i.taken i.taken' octets
  pub so_far : SoFar c limit Kept octets (Some []) o r given count

-- none was taken
pub nothing : (left : Option (List ℕ)) (taken : ℕ) → Took left left taken taken []
nothing None taken = record { octets_are = tt; gives = refl; counted = omega arith }
nothing (Some rest) taken = record { octets_are = tt; gives = refl; counted = omega arith }

pub nothing_taken : (c : BlockCommand) (limit : ℕ) (Kept : List RawTree → Type 0) (left : Option (List ℕ)) (taken faults faults' : ℕ) (o r : SinkChange) (given : ℕ) → Gains o [] → Gains r [] → given ≡ 0 → Kept []
    → TakenSoFar c limit Kept (record { left = left; left' = left; taken = taken; taken' = taken; faults = faults; faults' = faults' }) o r given 0
nothing_taken c limit Kept left taken faults faults' o r given added said z kept = record { octets = []; took = nothing left taken; so_far = nothing_so_far c limit Kept [] (Some []) o r given added said refl z kept }

-- with more octets after them
followed : (c : BlockCommand) (limit : ℕ) (Kept : List RawTree → Type 0) (input more : List ℕ) (o r : SinkChange) (given count : ℕ) → SoFar c limit Kept input (Some []) o r given count → SoFar c limit Kept (input ++ more) (Some more) o r given count
followed c limit Kept input more o r given count s =
    let none : s.rest ≡ [] = (let e : ◌≡◌ {A = Option (List ℕ)} (Some []) (Some s.rest) = s.left_is in cc) in
    record {
      octets = s.octets;
      rest = more;
      raws = s.raws;
      blocks = s.blocks;
      begins = record {
        split = ap (λ x. x ++ more) (s.begins.split ∙ ap (λ x. s.octets ++ x) none ∙ append-nil s.octets);
        within = s.begins.within;
        spelled = s.begins.spelled;
        given = s.begins.given;
      };
      left_is = refl;
      framed = s.framed;
      spelled = s.spelled;
      out = s.out;
      report = s.report;
      counted = s.counted;
      given_is = s.given_is;
      kept = s.kept;
    }

-- the octets of an answer, as all that was left
took_alone : (left left' : Option (List ℕ)) (taken taken' : ℕ) (octets : List ℕ) → Took left left' taken taken' octets → Took (Some octets) (Some []) taken taken' octets
took_alone left left' taken taken' octets t = record { octets_are = t.octets_are; gives = ap Some (sym (append-nil octets)); counted = t.counted }

gives_alone : (limit given : ℕ) (left left' : Option (List ℕ)) (taken taken' : ℕ) (raw : RawTree) (g : GivesBlock limit given left left' taken taken' raw) → GivesBlock limit given (Some g.octets) (Some []) taken taken' raw
gives_alone limit given left left' taken taken' raw g = record { octets = g.octets; framed = g.framed; took = took_alone left left' taken taken' g.octets g.took; within = g.within; just = g.just }

none_after : (e : FramingEnd) → RanOut e (Some [])
none_after whole = refl
none_after input_too_long = tt
none_after (ends_in_header bit) = refl
none_after bad_len = tt
none_after (ends_in_block bit) = refl

ends_alone : (limit given : ℕ) (left left' : Option (List ℕ)) (taken taken' : ℕ) (e : FramingEnd) (f : FindsEnd limit given left left' taken taken' e) → FindsEnd limit given (Some f.octets) (Some []) taken taken' e
ends_alone limit given left left' taken taken' e f = record { octets = f.octets; took = took_alone left left' taken taken' f.octets f.took; count = f.count; ran_out = none_after e; just = f.just }

stops_alone : (limit given : ℕ) (left left' : Option (List ℕ)) (taken taken' : ℕ) (u : StopsUnfinished limit given left left' taken taken') → StopsUnfinished limit given (Some u.octets) (Some []) taken taken'
stops_alone limit given left left' taken taken' u = record { octets = u.octets; took = took_alone left left' taken taken' u.octets u.took; unfinished = u.unfinished }

-- ---- the blocks before, and an answer of the reader

module _ (c : BlockCommand) (limit : ℕ) (Kept : List RawTree → Type 0) (i : SourceChange) (o r : SinkChange) (given count : ℕ) (s : TakenSoFar c limit Kept i o r given count) (next : Option (List ℕ)) (t' f' : ℕ) where
  abbrev pub onward : SourceChange
  onward = record { left = i.left; left' = next; taken = i.taken; taken' = t'; faults = i.faults; faults' = f' }

  all_taken : (octets : List ℕ) → Took i.left' next i.taken' t' octets → Took i.left next i.taken t' (s.octets ++ octets)
  all_taken octets t = took_both i.left i.left' next i.taken i.taken' t' s.octets octets s.took t

  so_far : (octets : List ℕ) → SoFar c limit Kept (s.octets ++ octets) (Some octets) o r given count
  so_far octets = followed c limit Kept s.octets octets o r given count s.so_far

  ended_over : (Also : List ℕ → Type 0) → ((octets : List ℕ) (end : FramingEnd) → RemembersUpTo Kept limit octets end → Also octets)
      → (e : FramingEnd) (f : FindsEnd limit given i.left' next i.taken' t' e) → ((m : ℕ) → framing_end count e ≡ EndOf.Done m → ⊥) → RunsOver c limit onward o r (framing_end count e) Also
  ended_over Also also e f never = record {
    octets = s.octets ++ f.octets;
    took = all_taken f.octets f.took;
    run = ends_early c limit Kept (s.octets ++ f.octets) (Some f.octets) (Some []) o r given count i.taken' t' (so_far f.octets) e never (ends_alone limit given i.left' next i.taken' t' e f);
    also = also (s.octets ++ f.octets) e (keeps_at_end c limit Kept (s.octets ++ f.octets) (Some f.octets) (Some []) o r given count i.taken' t' (so_far f.octets) e (ends_alone limit given i.left' next i.taken' t' e f));
  }

  -- the reader ends
  pub done_over : (Also : List ℕ → Type 0) → ((octets : List ℕ) → RemembersAll Kept limit octets → Also octets) → FindsEnd limit given i.left' next i.taken' t' whole → RunsOver c limit onward o r (EndOf.Done count) Also
  done_over Also also f = record {
    octets = s.octets ++ f.octets;
    took = all_taken f.octets f.took;
    run = reads_all c limit Kept (s.octets ++ f.octets) (Some f.octets) (Some []) o r given count i.taken' t' (so_far f.octets) (ends_alone limit given i.left' next i.taken' t' whole f);
    also = also (s.octets ++ f.octets) (keeps_at_end c limit Kept (s.octets ++ f.octets) (Some f.octets) (Some []) o r given count i.taken' t' (so_far f.octets) whole (ends_alone limit given i.left' next i.taken' t' whole f));
  }

  pub refused_over : (Also : List ℕ → Type 0) → ((octets : List ℕ) (end : FramingEnd) → RemembersUpTo Kept limit octets end → Also octets) → (e : NextError) → OnEnd {A = RawBlock} (Err e) (FindsEnd limit given i.left' next i.taken' t') → OnReadFault {A = RawBlock} (Err e) (StopsUnfinished limit given i.left' next i.taken' t')
      → RunsOver c limit onward o r (error_end count e) Also
  unfolding so_far followed
  refused_over Also also BadLen f u = ended_over Also also bad_len f (λ m is. absurd (cc))
  refused_over Also also (EndsInHeader bit) f u = ended_over Also also (ends_in_header bit) f (λ m is. absurd (cc))
  refused_over Also also (EndsInBlock bit) f u = ended_over Also also (ends_in_block bit) f (λ m is. absurd (cc))
  refused_over Also also InputTooLong f u = ended_over Also also input_too_long f (λ m is. absurd (cc))
  refused_over Also also ReadFault f u = record {
    octets = s.octets ++ u.octets;
    took = all_taken u.octets u.took;
    run = stops_reading c limit Kept (s.octets ++ u.octets) (Some u.octets) (Some []) o r given count i.taken' t' (so_far u.octets) (stops_alone limit given i.left' next i.taken' t' u);
    also = (let (end, kept) = keeps_unfinished c limit Kept (s.octets ++ u.octets) (Some u.octets) (Some []) o r given count i.taken' t' (so_far u.octets) u.unfinished in also (s.octets ++ u.octets) end kept);
  }

  module _ (raw : RawTree) (g : GivesBlock limit given i.left' next i.taken' t' raw) (p q : SinkChange) (joins : p.held ≡ o.held') (shows : q.held ≡ r.held') where
    -- the work stops
    pub stopped_over : (Later : List RawTree → Type 0) → ((raws : List RawTree) → Kept raws → Later (raws ++ raw ∷ [])) → (Also : List ℕ → Type 0) → ((octets : List ℕ) → RemembersAll Later limit octets → Also octets)
        → (stop : WorkStop) → StopsFor c count raw p q stop → RunsOver c limit onward (both o p) (both r q) (stop_end count stop) Also
    unfolding gives_alone
    stopped_over Later keeps Also also stop h =
        let took : Took i.left next i.taken t' (s.octets ++ g.octets) = all_taken g.octets g.took in record {
          octets = s.octets ++ g.octets;
          took = took;
          run = takes_no_more c limit Kept (s.octets ++ g.octets) (Some g.octets) (Some []) o r given count i.taken' t' raw (so_far g.octets) (gives_alone limit given i.left' next i.taken' t' raw g) p q stop took.octets_are joins shows h;
          also = also (s.octets ++ g.octets) (keeps_through c limit Kept (s.octets ++ g.octets) (Some g.octets) (Some []) o r given count i.taken' t' raw (so_far g.octets) (gives_alone limit given i.left' next i.taken' t' raw g) Later keeps refl);
        }

    -- the block is taken
    pub taken_more : (Later : List RawTree → Type 0) (lines laid : List ℕ) → ((raws : List RawTree) → Kept raws → Later (raws ++ raw ∷ [])) → GivesFor c count raw lines laid → Gains p laid → Gains q lines
        → TakenSoFar c limit Later onward (both o p) (both r q) (given + (3 + length raw.body)) (count + 1)
    taken_more Later lines laid keeps f added said = record {
      octets = s.octets ++ g.octets;
      took = all_taken g.octets g.took;
      so_far = one_block_more c limit Kept (s.octets ++ g.octets) (Some g.octets) (Some []) o r given count i.taken' t' raw (so_far g.octets) (gives_alone limit given i.left' next i.taken' t' raw g) Later lines laid p q keeps f joins added shows said;
    }
