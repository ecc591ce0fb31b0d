use Rattle.std.proofs.Common.{rules}
use Rattle.ax_block_reader.proofs.ShortNumbers.{zero_and_more, zero_only}
use Rattle.ax_block_reader.proofs.numbers.short_number.Goals as goal

pub returns-in-Some-eq0 : goal.returns-in-Some-eq0
returns-in-Some-eq0 c =
    zero_and_more c.args.text.now c.in-Some.first.now c.in-Some-eq0.field-0 c.in-Some.later.now (search rules) c.in-Some-eq0.ensures.0 c.in-Some-eq0.field-0-test c.if-not-is_empty.ensures

pub returns-in-Some-eq0-2 : goal.returns-in-Some-eq0-2
returns-in-Some-eq0-2 c =
    zero_only c.args.text.now c.in-Some.first.now c.in-Some-eq0.field-0 c.in-Some.later.now (search rules) c.in-Some-eq0.ensures.0 c.in-Some-eq0.field-0-test c.if-not-is_empty.ensures
