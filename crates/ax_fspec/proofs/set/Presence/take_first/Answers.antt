use Rattle.ax_fspec.proofs.Sets.{taken_first, taken_second, none_taken}
use Rattle.ax_fspec.proofs.set.Presence.take_first.Goals as goal

pub returns-then-self-ne0-clause-some : goal.returns-then-self-ne0-clause-some
returns-then-self-ne0-clause-some c =
    let set = c.self.inside in
    let place = c.first_place-place in
    rw c.without_first-self-inside.ensures
    (taken_first set.first set.second place.result c.args.self.now c.self.view_is place.ensures.place place.ensures.low place.ensures.high).0

pub returns-then-self-ne0-clause-marks : goal.returns-then-self-ne0-clause-marks
returns-then-self-ne0-clause-marks c =
    let set = c.self.inside in
    let place = c.first_place-place in
    rw c.without_first-self-inside.ensures
    (taken_first set.first set.second place.result c.args.self.now c.self.view_is place.ensures.place place.ensures.low place.ensures.high).1

pub returns-then-self-ne0-2-clause-some : goal.returns-then-self-ne0-2-clause-some
returns-then-self-ne0-2-clause-some c =
    let set = c.self.inside in
    let place = c.first_place-place-then-self-ne0-2 in
    rw c.without_first-self-inside-then-self-ne0-2.ensures
    (taken_second set.first set.second place.result c.args.self.now c.self.view_is c.if-self-ne0.false place.ensures.place place.ensures.low place.ensures.high).0

pub returns-then-self-ne0-2-clause-marks : goal.returns-then-self-ne0-2-clause-marks
returns-then-self-ne0-2-clause-marks c =
    let set = c.self.inside in
    let place = c.first_place-place-then-self-ne0-2 in
    rw c.without_first-self-inside-then-self-ne0-2.ensures
    (taken_second set.first set.second place.result c.args.self.now c.self.view_is c.if-self-ne0.false place.ensures.place place.ensures.low place.ensures.high).1

pub returns-clause-none : goal.returns-clause-none
returns-clause-none c =
    none_taken c.self.inside.first c.self.inside.second c.args.self.now c.self.view_is c.if-self-ne0.false c.if-self-ne0-2.false
