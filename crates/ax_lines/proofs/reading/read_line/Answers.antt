use Rattle.std.proofs.Common.{◌≡◌, Some, ℕ, ◌+◌, ◌-◌, ◌++◌, ◌∙◌, sym, subst, ap, take, drop, length, arith}
use borrow.Rule.Slice.PartMut.{put_mid, same_len_mid}
use Rattle.ax_endpoints.specs.Changes.{source_change}
use Rattle.ax_lines.specs.Feeds.{IsPlain, IsFeedAt}
use Rattle.ax_lines.specs.Holding.{HoldsLine}
use Rattle.ax_lines.proofs.Steps.{StandsPlain, reads_plain, holds_feed, plain_longer, all_put}
use Rattle.ax_lines.proofs.reading.read_line.Goals as goal

pub loop-filled-preserved : goal.loop-filled-preserved
loop-filled-preserved g c =
    let before = take c.args.buffered c.args.buffer.now.items in
    let filled : ℕ = c.loop-filled.filled in
    let n : ℕ = c.in_ok-count.count in
    let wide = c.deref_mut.result.now in
    let part = c.read.new.into in
    let len : ℕ = c.widen.new.buffer.len in
    let k = filled + 65536 - filled in
    let start : StandsPlain (source_change g.S.Source c.args.source.now c.loop-filled.source) before wide filled =
    subst (λ b. StandsPlain (source_change g.S.Source c.args.source.now c.loop-filled.source) before b filled) (sym c.deref_mut.ensures.value)
    (plain_longer _ _ _ _ _ c.widen.ensures.front c.widen.ensures.longer c.loop-filled.invariant.0) in
    let items = take len (put_mid filled k wide part ++ drop (length (put_mid filled k wide part)) c.widen.new.buffer.items) in
    let whole : items ≡ put_mid filled k wide part = all_put wide c.widen.new.buffer.items part len filled k c.deref_mut.ensures.len c.read.auto.into in
    let plain : IsPlain (take (filled + n - filled) (drop filled (put_mid filled k wide part))) =
    subst (λ b. IsPlain (take (filled + n - filled) (drop filled b))) (c.deref.ensures.value ∙ whole) c.in_default.ensures in
    let size : length items ≡ len = ap length whole ∙ same_len_mid filled k wide part c.read.auto.into ∙ c.deref_mut.ensures.len in
    let held : length c.widen.new.buffer.items ≡ len = ap length (sym c.deref_mut.ensures.value) ∙ c.deref_mut.ensures.len in (
      subst (λ b. StandsPlain (source_change g.S.Source c.args.source.now c.read.new.self) before b (filled + n)) (sym whole)
          (reads_plain _ _ _ _ _ _ _ _ _ _ _ _ _ _ _ start c.in_ok-count.ensures.room c.in_ok-count.ensures.gives c.in_ok-count.ensures.number plain),
      omega (arith, size, c.widen.ensures.length, held, c.loop-filled.invariant.1, c.loop-filled-test.true),
      omega (arith, size, c.widen.ensures.longer, held, c.loop-filled.invariant.2),
      omega (arith, c.widen.ensures.room, c.loop-filled.invariant.3),
      c.in_ok-count.ensures.quiet ∙ c.loop-filled.invariant.4,
    )

pub returns-in-Some-clause-line : goal.returns-in-Some-clause-line
returns-in-Some-clause-line g c =
    let before = take c.args.buffered c.args.buffer.now.items in
    let filled : ℕ = c.loop-filled.filled in
    let n : ℕ = c.in_ok-count.count in
    let wide = c.deref_mut.result.now in
    let part = c.read.new.into in
    let len : ℕ = c.widen.new.buffer.len in
    let k = filled + 65536 - filled in
    let start : StandsPlain (source_change g.S.Source c.args.source.now c.loop-filled.source) before wide filled =
    subst (λ b. StandsPlain (source_change g.S.Source c.args.source.now c.loop-filled.source) before b filled) (sym c.deref_mut.ensures.value)
    (plain_longer _ _ _ _ _ c.widen.ensures.front c.widen.ensures.longer c.loop-filled.invariant.0) in
    let items = take len (put_mid filled k wide part ++ drop (length (put_mid filled k wide part)) c.widen.new.buffer.items) in
    let whole : items ≡ put_mid filled k wide part = all_put wide c.widen.new.buffer.items part len filled k c.deref_mut.ensures.len c.read.auto.into in
    let feed : IsFeedAt (take (filled + n - filled) (drop filled (put_mid filled k wide part))) c.in-Some.at =
    subst (λ b. IsFeedAt (take (filled + n - filled) (drop filled b)) c.in-Some.at) (c.deref.ensures.value ∙ whole) c.in-Some.ensures in
    subst (λ b. HoldsLine (source_change g.S.Source c.args.source.now c.read.new.self) before b c.args.most (record { start = 0; end = filled + n; feed = Some (filled + c.in-Some.at) })) (sym whole)
    (holds_feed _ _ _ _ _ _ _ _ _ _ _ _ _ _ _ start c.in_ok-count.ensures.room c.in_ok-count.ensures.gives c.in_ok-count.ensures.number _ _ feed)
