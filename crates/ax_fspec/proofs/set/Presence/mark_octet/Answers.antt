use Rattle.ax_fspec.proofs.Sets.{length-marks_in, may_write_first, may_write_second, written_first, written_second}
use Rattle.ax_fspec.proofs.set.Presence.mark_octet.Goals as goal

pub with_seven-self-inside-requires-clause-none_following : goal.with_seven-self-inside-requires-clause-none_following
with_seven-self-inside-requires-clause-none_following c =
    let set = c.self.inside in
    (may_write_first set.first set.second c.args.octet c.args.self.now c.self.view_is c.if-octet-lt9.true c.requires.none_following).0

pub with_seven-self-inside-requires-else-octet-lt9-clause-none_following :
    goal.with_seven-self-inside-requires-else-octet-lt9-clause-none_following
with_seven-self-inside-requires-else-octet-lt9-clause-none_following c =
    let set = c.self.inside in
    may_write_second set.first set.second c.args.octet c.args.self.now c.self.view_is c.if-octet-lt9.false c.requires.none_following

pub returns-then-octet-lt9 : goal.returns-then-octet-lt9
returns-then-octet-lt9 c =
    let set = c.self.inside in
    let new = c.with_seven-self-inside in
    let both = written_first set.first set.second new.result c.args.octet c.args.marks c.args.self.now c.self.view_is c.if-octet-lt9.true c.requires.none_following new.ensures.marks in
    record { marks = both.0; none_following = both.1; size = length-marks_in new.result set.second }

pub returns-else-octet-lt9 : goal.returns-else-octet-lt9
returns-else-octet-lt9 c =
    let set = c.self.inside in
    let new = c.with_seven-self-inside-else-octet-lt9 in
    let both = written_second set.first set.second new.result c.args.octet c.args.marks c.args.self.now c.self.view_is c.if-octet-lt9.false c.requires.octet new.ensures.marks in
    record { marks = both.0; none_following = both.1; size = length-marks_in set.first new.result }
