-- What holds after each block of an input, and where the run over it stops.
use Rattle.std.proofs.Common.{◌≡◌, ℕ, ◌+◌, ◌*◌, ◌<◌, ◌≤◌, List, [], ◌∷◌, ◌++◌, Option, Some, None, length, refl, sym, ◌∙◌, ap, subst, arith, Result, Ok, Err}
use Rattle.ax_bits.specs.Bits.{AreOctets}
use Rattle.ax_blocks.specs.Reader.{ReaderState, IsOpen, GivesBlock, FindsEnd, StopsUnfinished, OnBlock, OnEnd, OnReadFault, OnTooLong, IsAfter, block_octets, ended_by}
use Rattle.ax_blocks.specs.Taking.{UnlessReadFault}
use Rattle.ax_blocks.specs.declared.next_error.NextError.{NextError}
use Rattle.ax_blocks.specs.declared.next_error.NextError.TheVariants.{BadLen, EndsInHeader, EndsInBlock, InputTooLong, ReadFault}
use Rattle.ax_format.specs.Ends.{RawFails}
use Rattle.ax_format.specs.Framing.{RawTree, FramingEnd, whole}
use Rattle.ax_format.specs.declared.fault.BodyCause.{BodyCause}
use Rattle.ax_format.specs.declared.fault.BodyCause.TheVariants as Body
use Rattle.ax_format.specs.declared.record.RawBlock.{RawBlock}
use Rattle.ax_endpoints.proofs.Ends.{Rose-later}
use Rattle.ax_endpoints.specs.Changes.{SourceChange, SinkChange}
use Rattle.ax_endpoints.specs.Told.{Rose}
use Rattle.ax_endpoints.proofs.Gains.{both, gains_none}
use Rattle.ax_blocks.proofs.Streams.{framed_count}
use Rattle.ax_blocks.specs.Commands.{BlockCommand}
use Rattle.ax_blocks.specs.Ending.{cause_of, error_end, stop_end}
use Rattle.ax_blocks.specs.Streams.{RunsOver, StreamRuns, IsCaused, IsLicensed, CountsOnly, Reports, HasCause}
use Rattle.ax_blocks.specs.BlockTaking.{IsCutFor, StopsFor, UnlessReportFault, UnlessWriteFault, Takes}
use Rattle.ax_blocks.specs.declared.end.StreamEnd.{StreamEnd}
use Rattle.ax_blocks.specs.declared.end.StreamEnd.TheVariants as EndOf
use Rattle.ax_blocks.specs.declared.work.WorkStop.{WorkStop}
use Rattle.ax_blocks.specs.declared.work.WorkStop.TheVariants.{Fault, TooLong, WriteFault, ReportFault, OutOfMemory}
use Rattle.ax_blocks.proofs.FrontBlocks.{SoFar, nothing_so_far, no_memory, one_block_more, takes_no_more, reads_all, keeps_at_end, reader_stops}
use Rattle.ax_blocks.proofs.TakenBlocks.{TakenSoFar, nothing, nothing_taken, done_over, refused_over, stopped_over, taken_more}
use Rattle.ax_blocks.specs.Remembering.{RemembersAll, RemembersUpTo, RemembersTaken}

-- ---- the invariant of the block loop

pub record Running (c : BlockCommand) (limit : ℕ) (Kept : List RawTree → Type 0) (i : SourceChange) (o r : SinkChange) (now : BlockCommand) (reader : ReaderState) (count : ℕ) (Sound : Type 0) : Type 0 where
  pub same : now ≡ c
  pub sound : Sound
  pub limit_is : reader.limit ≡ limit
  pub open_ : IsOpen reader
  pub within : reader.given ≤ limit
  pub few : 3 * count ≤ reader.given
  pub took : i.taken' ≡ i.taken + reader.given
  pub source_later : i.faults ≤ i.faults'
  pub out_later : o.faults ≤ o.faults'
  pub report_later : r.faults ≤ r.faults'
  pub source_quiet : i.faults' ≡ i.faults
  pub out_quiet : o.faults' ≡ o.faults
  pub report_quiet : r.faults' ≡ r.faults
  pub told : (input : List ℕ) → AreOctets input → i.left ≡ Some input → SoFar c limit Kept input i.left' o r reader.given count
  pub taken : TakenSoFar c limit Kept i o r reader.given count

pub running_begins : (c : BlockCommand) (Kept : List RawTree → Type 0) (left held shown : Option (List ℕ)) (taken faults fails flaws : ℕ) (reader : ReaderState) (Sound : Type 0) → Sound → Kept [] → reader ≡ record { limit = reader.limit; given = 0; ended = None }
    → Running c reader.limit Kept (record { left = left; left' = left; taken = taken; taken' = taken; faults = faults; faults' = faults })
    (record { held = held; held' = held; faults = fails; faults' = fails }) (record { held = shown; held' = shown; faults = flaws; faults' = flaws }) c reader 0 Sound
running_begins c Kept left held shown taken faults fails flaws reader Sound sound kept e =
    let z : reader.given ≡ 0 = ap (λ x. x.given) e in
    record {
      same = refl;
      sound = sound;
      limit_is = refl;
      open_ = ap (λ x. x.ended) e;
      within = omega arith;
      few = omega arith;
      took = omega arith;
      source_later = omega arith;
      out_later = omega arith;
      report_later = omega arith;
      source_quiet = refl;
      out_quiet = refl;
      report_quiet = refl;
      told = λ input are l. nothing_so_far c reader.limit Kept input left _ _ reader.given (gains_none held fails fails) (gains_none shown flaws flaws) l z kept;
      taken = nothing_taken c reader.limit Kept left taken faults faults _ _ reader.given (gains_none held fails fails) (gains_none shown flaws flaws) z kept;
    }

-- ---- what the run ensures

error_caused : (limit count taken given t' : ℕ) (i : SourceChange) (o r : SinkChange) (e : NextError) → i.taken' ≡ t' → taken ≡ i.taken + given
    → OnTooLong {A = RawBlock} (Err e) (limit + taken < given + t') → OnReadFault {A = RawBlock} (Err e) (Rose i.faults i.faults') → IsCaused limit i o r (error_end count e)
error_caused limit count taken given t' i o r BadLen a b past rose = tt
error_caused limit count taken given t' i o r (EndsInHeader bit) a b past rose = tt
error_caused limit count taken given t' i o r (EndsInBlock bit) a b past rose = tt
error_caused limit count taken given t' i o r InputTooLong a b past rose = omega (arith, a, b, past)
error_caused limit count taken given t' i o r ReadFault a b past rose = rose

error_licensed : (c : BlockCommand) (count : ℕ) (e : NextError) → IsLicensed c (error_end count e)
error_licensed c count BadLen = tt
error_licensed c count (EndsInHeader bit) = tt
error_licensed c count (EndsInBlock bit) = tt
error_licensed c count InputTooLong = tt
error_licensed c count ReadFault = tt

stop_caused : (limit number count : ℕ) (c : BlockCommand) (raw : RawTree) (i : SourceChange) (o r p q : SinkChange) (stop : WorkStop) → o.faults ≤ p.faults → r.faults ≤ q.faults → StopsFor c number raw p q stop
    → IsCaused limit i (both o p) (both r q) (stop_end count stop)
stop_caused limit number count c raw i o r p q (Fault f) l m h = tt
stop_caused limit number count c raw i o r p q (TooLong n) l m h = tt
stop_caused limit number count c raw i o r p q WriteFault l m h = Rose-later l h.part.rose
stop_caused limit number count c raw i o r p q ReportFault l m h = Rose-later m h.part.rose
stop_caused limit number count c raw i o r p q OutOfMemory l m h = tt

-- a line that failed has an octet
reports : (c : BlockCommand) (number : ℕ) (raw : RawTree) (p q : SinkChange) → IsCutFor c number raw p q → Reports c
reports c number raw p q h =
    let within : h.part.count < length h.lines = h.part.within in
    record { number = number; block = h.is.block; lines = h.lines; octets = h.octets; answer = h.is.answer; some = omega arith }

has_cause : (c : BlockCommand) (raw : RawTree) (p : ℕ) (cause : BodyCause) → RawFails c.catalogue raw p cause → HasCause c (cause_of cause)
has_cause c raw p Body.RunsOut h = record { raw = raw; place = p; fails = h }
has_cause c raw p Body.UndefinedSlot h = record { raw = raw; place = p; fails = h }
has_cause c raw p Body.PresenceTooLong h = record { raw = raw; place = p; fails = h }
has_cause c raw p Body.ExtensionPastEnd h = record { raw = raw; place = p; fails = h }
has_cause c raw p Body.BadExplicitLength h = record { raw = raw; place = p; fails = h }

stop_licensed : (c : BlockCommand) (number : ℕ) (raw : RawTree) (p q : SinkChange) (stop : WorkStop) → StopsFor c number raw p q stop → IsLicensed c (stop_end number stop)
stop_licensed c number raw p q (Fault f) h = has_cause c raw f.bit f.cause h.fails
stop_licensed c number raw p q (TooLong n) h = record { block = h.block; answer = h.answer }
stop_licensed c number raw p q WriteFault h = tt
stop_licensed c number raw p q ReportFault h = reports c number raw p q h
stop_licensed c number raw p q OutOfMemory h = tt

-- what was counted where the reader stops, and where the work stops
counts_error : (count mid : ℕ) (i : SourceChange) (o r : SinkChange) (e : NextError) → mid ≡ i.faults → i.faults' ≤ mid + 1 → UnlessReadFault {A = Option RawBlock} (Err e) (i.faults' ≡ mid)
    → o.faults' ≡ o.faults → r.faults' ≡ r.faults → CountsOnly i o r (error_end count e)
counts_error count mid i o r BadLen same once quiet out report = (quiet ∙ same, out, report)
counts_error count mid i o r (EndsInHeader bit) same once quiet out report = (quiet ∙ same, out, report)
counts_error count mid i o r (EndsInBlock bit) same once quiet out report = (quiet ∙ same, out, report)
counts_error count mid i o r InputTooLong same once quiet out report = (quiet ∙ same, out, report)
counts_error count mid i o r ReadFault same once quiet out report = (omega (arith, same, once), out, report)

counts_stop : (count : ℕ) (i : SourceChange) (o r p q : SinkChange) (stop : WorkStop) → i.faults' ≡ i.faults → p.faults ≡ o.faults → q.faults ≡ r.faults → p.faults' ≤ p.faults + 1 → q.faults' ≤ q.faults + 1
    → UnlessWriteFault (Err stop) (p.faults' ≡ p.faults) → UnlessReportFault (Err stop) (q.faults' ≡ q.faults) → CountsOnly i (both o p) (both r q) (stop_end count stop)
counts_stop count i o r p q (Fault f) source out report wrote said unwritten unsaid = (source, unwritten ∙ out, unsaid ∙ report)
counts_stop count i o r p q (TooLong n) source out report wrote said unwritten unsaid = (source, unwritten ∙ out, unsaid ∙ report)
counts_stop count i o r p q WriteFault source out report wrote said unwritten unsaid = (source, omega (arith, out, wrote), unsaid ∙ report)
counts_stop count i o r p q ReportFault source out report wrote said unwritten unsaid = (source, unwritten ∙ out, omega (arith, report, said))
counts_stop count i o r p q OutOfMemory source out report wrote said unwritten unsaid = (source, unwritten ∙ out, unsaid ∙ report)

-- a sink, one call further
abbrev pub step : SinkChange → Option (List ℕ) → ℕ → SinkChange
step o held faults = record { held = o.held'; held' = held; faults = o.faults'; faults' = faults }

module _ (c : BlockCommand) (limit : ℕ) (i : SourceChange) (o r : SinkChange) (now : BlockCommand) (reader : ReaderState) (count : ℕ) (Sound : Type 0) (Kept : List RawTree → Type 0) (run : Running c limit Kept i o r now reader count Sound)
    (next : Option (List ℕ)) (t' f' : ℕ) (later : i.faults' ≤ f') where
  abbrev pub further : SourceChange
  further = record { left = i.left; left' = next; taken = i.taken; taken' = t'; faults = i.faults; faults' = f' }

  still_later : i.faults ≤ f'
  still_later = let a : i.faults ≤ i.faults' = run.source_later in omega arith

  gives_block : (raw : RawTree) → GivesBlock reader.limit reader.given i.left' next i.taken' t' raw → GivesBlock limit reader.given i.left' next i.taken' t' raw
  gives_block raw g = subst (λ n. GivesBlock n reader.given i.left' next i.taken' t' raw) run.limit_is g

  ends_at : FindsEnd reader.limit reader.given i.left' next i.taken' t' whole → FindsEnd limit reader.given i.left' next i.taken' t' whole
  ends_at f = subst (λ n. FindsEnd n reader.given i.left' next i.taken' t' whole) run.limit_is f

  -- what was kept, where the reader ends
  pub kept_told : FindsEnd reader.limit reader.given i.left' next i.taken' t' whole → (input : List ℕ) → AreOctets input → i.left ≡ Some input → RemembersAll Kept limit input
  kept_told f input are l = keeps_at_end c limit Kept input i.left' next o r reader.given count i.taken' t' (run.told input are l) whole (ends_at f)

  pub kept_of_taken : (Also : List ℕ → Type 0) → ((octets : List ℕ) → RemembersAll Kept limit octets → Also octets) → FindsEnd reader.limit reader.given i.left' next i.taken' t' whole → RunsOver c limit further o r (EndOf.Done count) Also
  kept_of_taken Also also f = done_over c limit Kept i o r reader.given count run.taken next t' f' Also also (ends_at f)

  -- the reader ends
  pub run_done : f' ≡ i.faults' → FindsEnd reader.limit reader.given i.left' next i.taken' t' whole → StreamRuns c limit further o r (EndOf.Done count)
  run_done still f = record {
    told = λ input are l. reads_all c limit Kept input i.left' next o r reader.given count i.taken' t' (run.told input are l) (ends_at f);
    over_taken = kept_of_taken (λ octets. Unit {0}) (λ octets k. tt) f;
    caused = tt;
    licensed = tt;
    counts = (still ∙ run.source_quiet, run.out_quiet, run.report_quiet);
    source_later = still_later;
    out_later = run.out_later;
    report_later = run.report_later;
  }

  -- the reader refuses
  pub refused_of_taken : (Also : List ℕ → Type 0) → ((octets : List ℕ) (end : FramingEnd) → RemembersUpTo Kept limit octets end → Also octets) → (e : NextError) → OnEnd {A = RawBlock} (Err e) (FindsEnd reader.limit reader.given i.left' next i.taken' t')
      → OnReadFault {A = RawBlock} (Err e) (StopsUnfinished reader.limit reader.given i.left' next i.taken' t') → RunsOver c limit further o r (error_end count e) Also
  refused_of_taken Also also e f u = refused_over c limit Kept i o r reader.given count run.taken next t' f' Also also e
      (subst (λ n. OnEnd {A = RawBlock} (Err e) (FindsEnd n reader.given i.left' next i.taken' t')) run.limit_is f)
      (subst (λ n. OnReadFault {A = RawBlock} (Err e) (StopsUnfinished n reader.given i.left' next i.taken' t')) run.limit_is u)

  pub run_refused : (e : NextError) → OnEnd {A = RawBlock} (Err e) (FindsEnd reader.limit reader.given i.left' next i.taken' t') → OnReadFault {A = RawBlock} (Err e) (StopsUnfinished reader.limit reader.given i.left' next i.taken' t')
      → OnTooLong {A = RawBlock} (Err e) (reader.limit + i.taken' < reader.given + t') → OnReadFault {A = RawBlock} (Err e) (Rose i.faults' f') → f' ≤ i.faults' + 1 → UnlessReadFault {A = Option RawBlock} (Err e) (f' ≡ i.faults')
      → StreamRuns c limit further o r (error_end count e)
  run_refused e f u past rose once quiet = record {
    told = λ input are l. reader_stops c limit Kept input i.left' next o r reader.given count i.taken' t' (run.told input are l) e
        (subst (λ n. OnEnd {A = RawBlock} (Err e) (FindsEnd n reader.given i.left' next i.taken' t')) run.limit_is f)
        (subst (λ n. OnReadFault {A = RawBlock} (Err e) (StopsUnfinished n reader.given i.left' next i.taken' t')) run.limit_is u);
    over_taken = refused_of_taken (λ octets. Unit {0}) (λ octets end k. tt) e f u;
    caused = error_caused limit count i.taken' reader.given t' further o r e refl run.took (subst (λ n. OnTooLong {A = RawBlock} (Err e) (n + i.taken' < reader.given + t')) run.limit_is past) (fault_rose e rose);
    licensed = error_licensed c count e;
    counts = counts_error count i.faults' further o r e run.source_quiet once quiet run.out_quiet run.report_quiet;
    source_later = still_later;
    out_later = run.out_later;
    report_later = run.report_later;
  } where
    fault_rose : (e : NextError) → OnReadFault {A = RawBlock} (Err e) (Rose i.faults' f') → OnReadFault {A = RawBlock} (Err e) (Rose i.faults f')
    fault_rose BadLen h = h
    fault_rose (EndsInHeader bit) h = h
    fault_rose (EndsInBlock bit) h = h
    fault_rose InputTooLong h = h
    fault_rose ReadFault h = Rose-later run.source_later h

  module _ (raw : RawTree) (held shown : Option (List ℕ)) (fails flaws : ℕ) (still : f' ≡ i.faults') (g : GivesBlock reader.limit reader.given i.left' next i.taken' t' raw) where
    -- the work stops
    pub stopped_of_taken : (Later : List RawTree → Type 0) → ((raws : List RawTree) → Kept raws → Later (raws ++ raw ∷ [])) → (Also : List ℕ → Type 0) → ((octets : List ℕ) → RemembersAll Later limit octets → Also octets) → (stop : WorkStop) → Takes now count raw (step o held fails) (step r shown flaws) (Err stop)
        → RunsOver c limit further (both o (step o held fails)) (both r (step r shown flaws)) (stop_end count stop) Also
    stopped_of_taken Later keeps Also also stop t =
        let s : Takes c count raw (step o held fails) (step r shown flaws) (Err stop) = subst (λ n. Takes n count raw (step o held fails) (step r shown flaws) (Err stop)) run.same t in
        stopped_over c limit Kept i o r reader.given count run.taken next t' f' raw (gives_block raw g) (step o held fails) (step r shown flaws) refl refl Later keeps Also also stop s.means

    pub run_stopped : (stop : WorkStop) → Takes now count raw (step o held fails) (step r shown flaws) (Err stop) → StreamRuns c limit further (both o (step o held fails)) (both r (step r shown flaws)) (stop_end count stop)
    run_stopped stop t =
        let s : Takes c count raw (step o held fails) (step r shown flaws) (Err stop) = subst (λ n. Takes n count raw (step o held fails) (step r shown flaws) (Err stop)) run.same t in
        let a : o.faults ≤ o.faults' = run.out_later in
        let b : o.faults' ≤ fails = s.out_later in
        let d : r.faults ≤ r.faults' = run.report_later in
        let e : r.faults' ≤ flaws = s.report_later in
        record {
          told = λ input are l. takes_no_more c limit Kept input i.left' next o r reader.given count i.taken' t' raw (run.told input are l) (gives_block raw g) (step o held fails) (step r shown flaws) stop are refl refl s.means;
          over_taken = stopped_of_taken (λ raws. Unit {0}) (λ raws k. tt) (λ octets. Unit {0}) (λ octets k. tt) stop t;
          caused = stop_caused limit count count c raw further o r (step o held fails) (step r shown flaws) stop run.out_later run.report_later s.means;
          licensed = stop_licensed c count raw (step o held fails) (step r shown flaws) stop s.means;
          counts = counts_stop count further o r (step o held fails) (step r shown flaws) stop (still ∙ run.source_quiet) run.out_quiet run.report_quiet s.out_once s.report_once s.out_quiet s.report_quiet;
          source_later = still_later;
          out_later = omega arith;
          report_later = omega arith;
        }

    -- the block is taken
    pub run_on : (Later : List RawTree → Type 0) → ((raws : List RawTree) → Kept raws → Later (raws ++ raw ∷ [])) → (u : Unit) (now' : BlockCommand) (reader' : ReaderState) (Still : Type 0) → Takes now count raw (step o held fails) (step r shown flaws) (Ok u) → Still → now' ≡ now → reader'.limit ≡ reader.limit → reader'.given ≡ reader.given + (3 + length raw.body)
        → reader'.given ≤ reader'.limit → IsOpen reader' → Running c limit Later further (both o (step o held fails)) (both r (step r shown flaws)) now' reader' (count + 1) Still
    run_on Later keeps u now' reader' Still t sound' kept same counts fits opened =
        let s : Takes c count raw (step o held fails) (step r shown flaws) (Ok u) = subst (λ n. Takes n count raw (step o held fails) (step r shown flaws) (Ok u)) run.same t in
        let size : length g.octets ≡ 3 + length raw.body = framed_count raw.category raw.body g.octets g.framed in
        let q : t' ≡ i.taken' + length g.octets = g.took.counted in
        let k : i.taken' ≡ i.taken + reader.given = run.took in
        let lim : reader.limit ≡ limit = run.limit_is in
        let few : 3 * count ≤ reader.given = run.few in
        let a : o.faults ≤ o.faults' = run.out_later in
        let b : o.faults' ≤ fails = s.out_later in
        let d : r.faults ≤ r.faults' = run.report_later in
        let e : r.faults' ≤ flaws = s.report_later in
        record {
          same = kept ∙ run.same;
          sound = sound';
          limit_is = same ∙ run.limit_is;
          open_ = opened;
          within = omega arith;
          few = omega arith;
          took = omega arith;
          source_later = still_later;
          out_later = omega arith;
          report_later = omega arith;
          source_quiet = still ∙ run.source_quiet;
          out_quiet = s.out_quiet ∙ run.out_quiet;
          report_quiet = s.report_quiet ∙ run.report_quiet;
          told = λ input are l. (let P : ℕ → Type 0 = λ n. SoFar c limit Later input next (both o (step o held fails)) (both r (step r shown flaws)) n (count + 1) in
              subst P (sym counts) (one_block_more c limit Kept input i.left' next o r reader.given count i.taken' t' raw (run.told input are l) (gives_block raw g) Later s.means.lines s.means.octets (step o held fails) (step r shown flaws)
              keeps s.means.is refl s.means.wrote refl s.means.said));
          taken = (let P : ℕ → Type 0 = λ n. TakenSoFar c limit Later further (both o (step o held fails)) (both r (step r shown flaws)) n (count + 1) in
              subst P (sym counts) (taken_more c limit Kept i o r reader.given count run.taken next t' f' raw (gives_block raw g) (step o held fails) (step r shown flaws) refl refl Later s.means.lines s.means.octets keeps s.means.is s.means.wrote s.means.said));
        }

-- ---- answers of the reader

pub unfailed : (result : Result (Option RawBlock) NextError) (answer : Option RawBlock) (P : Type 0) → result ≡ Ok answer → UnlessReadFault result P → P
unfailed result answer P e h = subst (λ r. UnlessReadFault r P) e h

pub gives_raw : (result : Result (Option RawBlock) NextError) (raw : RawBlock) (P : RawBlock → Type 0) → result ≡ Ok (Some raw) → OnBlock result P → P raw
gives_raw result raw P e h = subst (λ r. OnBlock r P) e h

pub gives_end : (result : Result (Option RawBlock) NextError) (P : FramingEnd → Type 0) → result ≡ Ok None → OnEnd result P → P whole
gives_end result P e h = subst (λ r. OnEnd r P) e h

pub reader_after : (old new : ReaderState) (result : Result (Option RawBlock) NextError) (raw : RawBlock) → result ≡ Ok (Some raw) → IsAfter old result new
    → (new.limit ≡ old.limit) × ((new.given ≡ old.given + (3 + length raw.body.now)) × ((new.given ≤ new.limit) × IsOpen new))
reader_after old new result raw e a = (a.same_limit, (a.counts ∙ ap (λ r. old.given + block_octets r) e, (a.within, a.keeps ∙ ap ended_by e)))

-- ---- what a work remembers

error_not_done : (count m : ℕ) (e : NextError) → error_end count e ≡ EndOf.Done m → ⊥
error_not_done count m BadLen is = absurd (cc)
error_not_done count m (EndsInHeader bit) is = absurd (cc)
error_not_done count m (EndsInBlock bit) is = absurd (cc)
error_not_done count m InputTooLong is = absurd (cc)
error_not_done count m ReadFault is = absurd (cc)

-- it remembered nothing before
remembers_up_to : (Before : Type 0) (Kept : List RawTree → Type 0) (limit : ℕ) (input : List ℕ) (end : FramingEnd) → RemembersUpTo (λ raws. Before → Kept raws) limit input end → Before → RemembersUpTo Kept limit input end
remembers_up_to Before Kept limit input end h m = record { raws = h.raws; framed = h.framed; remembered = h.remembered m }

pub remembers_done : (Before : Type 0) (Kept : List RawTree → Type 0) (limit : ℕ) (input : List ℕ) → RemembersAll (λ raws. Before → Kept raws) limit input → Before → RemembersAll Kept limit input
remembers_done Before Kept limit input h m = remembers_up_to Before Kept limit input whole h m

-- of the octets that were taken: all of them at the end of the input, and through a block that stops the run
pub remembers_taken : (Before : Type 0) (Kept : List RawTree → Type 0) (limit : ℕ) (octets : List ℕ) (e : StreamEnd) → RemembersAll (λ raws. Before → Kept raws) limit octets → Before → RemembersTaken Kept limit octets e
remembers_taken Before Kept limit octets e h m = record { end = whole; blocks = remembers_up_to Before Kept limit octets whole h m; read = λ count is. refl }

-- and where the reader refuses
pub remembers_at_error : (Before : Type 0) (Kept : List RawTree → Type 0) (limit : ℕ) (octets : List ℕ) (count : ℕ) (e : NextError) (end : FramingEnd) → RemembersUpTo (λ raws. Before → Kept raws) limit octets end → Before
    → RemembersTaken Kept limit octets (error_end count e)
remembers_at_error Before Kept limit octets count e end h m = record { end = end; blocks = remembers_up_to Before Kept limit octets end h m; read = λ number is. absurd (error_not_done count number e is) }

-- ---- no memory for the reader

pub memory_first : (c : BlockCommand) (limit : ℕ) (left held shown : Option (List ℕ)) (taken faults fails flaws : ℕ)
    → StreamRuns c limit (record { left = left; left' = left; taken = taken; taken' = taken; faults = faults; faults' = faults })
    (record { held = held; held' = held; faults = fails; faults' = fails }) (record { held = shown; held' = shown; faults = flaws; faults' = flaws }) EndOf.OutOfMemory
memory_first c limit left held shown taken faults fails flaws = record {
  told = λ input are l. no_memory c limit input left _ _ l (gains_none held fails fails) (gains_none shown flaws flaws);
  over_taken = record {
    octets = [];
    took = nothing left taken;
    run = no_memory c limit [] (Some []) _ _ refl (gains_none held fails fails) (gains_none shown flaws flaws);
    also = tt;
  };
  caused = tt;
  licensed = tt;
  counts = (refl, refl, refl);
  source_later = omega arith;
  out_later = omega arith;
  report_later = omega arith;
}
