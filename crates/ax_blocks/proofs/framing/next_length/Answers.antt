use Rattle.std.proofs.Common.{arith}
use Rattle.ax_blocks.specs.Reader.{OnEnd, OnReadFault, FindsEnd, StopsUnfinished}
use Rattle.ax_blocks.proofs.Ends.{Header, header_ends, header_there, block_cut, block_ends, block_faults, passed_on}
use Rattle.ax_blocks.proofs.framing.next_length.Goals as goal

pub returns-in_err-buffered-clause-end : goal.returns-in_err-buffered-clause-end
returns-in_err-buffered-clause-end g c =
    passed_on (λ r. OnEnd r (FindsEnd c.args.limit c.args.given (g.S.Source.left c.args.source.now) (g.S.Source.left c.take_part.new.source) (g.S.Source.taken c.args.source.now) (g.S.Source.taken c.take_part.new.source)))
    c.from_residual.result c.in_err-buffered.field-0.0 c.from_residual.ensures.1
    (header_ends c.args.limit c.args.given _ _ _ _ c.args.buffer.now c.take_part.new.buffer c.requires.within c.in_err-buffered.field-0.0 c.in_err-buffered.ensures.means)

pub returns-in_err-buffered-2-clause-end : goal.returns-in_err-buffered-2-clause-end
returns-in_err-buffered-2-clause-end g c =
    let header : Header c.args.limit c.args.given (g.S.Source.left c.args.source.now) (g.S.Source.left c.take_part.new.source) (g.S.Source.taken c.args.source.now) (g.S.Source.taken c.take_part.new.source) c.take_part.new.buffer c.from_be_bytes-length.result
    = header_there c.args.limit c.args.given _ _ _ _ _ _ c.in_ok-buffered.buffered _ c.requires.within c.in_ok-buffered.ensures.means c.if-buffered-lt-HEADER.false (omega (arith, c.take_part.auto.buffer)) c.from_be_bytes-length.ensures c.if-length-lt4.false in
    passed_on (λ r. OnEnd r (FindsEnd c.args.limit c.args.given (g.S.Source.left c.args.source.now) (g.S.Source.left c.take_part-2.new.source) (g.S.Source.taken c.args.source.now) (g.S.Source.taken c.take_part-2.new.source)))
    c.from_residual-in_err-buffered-2.result c.in_err-buffered-2.field-0.0 c.from_residual-in_err-buffered-2.ensures.1
    (block_ends c.args.limit c.args.given _ _ _ _ _ _ _ c.take_part-2.new.buffer c.from_be_bytes-length.result c.requires.within header c.in_err-buffered-2.field-0.0 c.in_err-buffered-2.ensures.means)

pub returns-in_err-buffered-2-clause-fault : goal.returns-in_err-buffered-2-clause-fault
returns-in_err-buffered-2-clause-fault g c =
    let header : Header c.args.limit c.args.given (g.S.Source.left c.args.source.now) (g.S.Source.left c.take_part.new.source) (g.S.Source.taken c.args.source.now) (g.S.Source.taken c.take_part.new.source) c.take_part.new.buffer c.from_be_bytes-length.result
    = header_there c.args.limit c.args.given _ _ _ _ _ _ c.in_ok-buffered.buffered _ c.requires.within c.in_ok-buffered.ensures.means c.if-buffered-lt-HEADER.false (omega (arith, c.take_part.auto.buffer)) c.from_be_bytes-length.ensures c.if-length-lt4.false in
    passed_on (λ r. OnReadFault r (StopsUnfinished c.args.limit c.args.given (g.S.Source.left c.args.source.now) (g.S.Source.left c.take_part-2.new.source) (g.S.Source.taken c.args.source.now) (g.S.Source.taken c.take_part-2.new.source)))
    c.from_residual-in_err-buffered-2.result c.in_err-buffered-2.field-0.0 c.from_residual-in_err-buffered-2.ensures.1
    (block_faults c.args.limit c.args.given _ _ _ _ _ _ _ c.take_part-2.new.buffer c.from_be_bytes-length.result c.requires.within header c.in_err-buffered-2.field-0.0 c.in_err-buffered-2.ensures.means)

pub returns-then-buffered-length-clause-end : goal.returns-then-buffered-length-clause-end
returns-then-buffered-length-clause-end g c =
    let header : Header c.args.limit c.args.given (g.S.Source.left c.args.source.now) (g.S.Source.left c.take_part.new.source) (g.S.Source.taken c.args.source.now) (g.S.Source.taken c.take_part.new.source) c.take_part.new.buffer c.from_be_bytes-length.result
    = header_there c.args.limit c.args.given _ _ _ _ _ _ c.in_ok-buffered.buffered _ c.requires.within c.in_ok-buffered.ensures.means c.if-buffered-lt-HEADER.false (omega (arith, c.take_part.auto.buffer)) c.from_be_bytes-length.ensures c.if-length-lt4.false in
    block_cut c.args.limit c.args.given _ _ _ _ _ _ _ c.take_part-2.new.buffer c.from_be_bytes-length.result c.requires.within header c.in_ok-buffered-2.buffered c.if-buffered-length.true c.in_ok-buffered-2.ensures.means
