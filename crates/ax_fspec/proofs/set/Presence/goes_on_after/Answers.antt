use Rattle.ax_fspec.proofs.Sets.{after_in_both, after_in_first, after_in_second, after_last}
use Rattle.ax_fspec.proofs.set.Presence.goes_on_after.Goals as goal

pub returns-then-self-ne0-clause-marked : goal.returns-then-self-ne0-clause-marked
returns-then-self-ne0-clause-marked c =
    let set = c.self.inside in
    after_in_both set.first set.second c.args.octet c.args.self.now c.self.view_is c.if-octet-lt9.true c.self.invariant.1 c.if-self-ne0.true

pub returns-else-self-ne0-clause-marked : goal.returns-else-self-ne0-clause-marked
returns-else-self-ne0-clause-marked c =
    let set = c.self.inside in
    after_in_first set.first set.second c.args.octet c.args.self.now c.is_marked_after.result c.self.view_is c.if-octet-lt9.true c.if-self-ne0.false c.is_marked_after.ensures

pub returns-else-octet-lt9-clause-marked : goal.returns-else-octet-lt9-clause-marked
returns-else-octet-lt9-clause-marked c =
    let set = c.self.inside in
    let following = c.is_marked_after-else-octet-lt9 in
    after_in_second set.first set.second c.args.octet c.args.self.now following.result c.self.view_is c.if-octet-lt9.false following.ensures

pub returns-else-octet-lt9-clause-within : goal.returns-else-octet-lt9-clause-within
returns-else-octet-lt9-clause-within c =
    let following = c.is_marked_after-else-octet-lt9 in
    after_last c.self.inside.second c.args.octet following.result c.requires following.ensures
