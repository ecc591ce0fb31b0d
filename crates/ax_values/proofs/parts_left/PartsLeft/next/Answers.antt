use Rattle.std.proofs.Common.{◌≡◌, ◌+◌, ◌-◌, ◌*◌, ◌<◌, true, false, List, ◌∷◌, length, drop, map, ap, arith, refl, sym, ◌∙◌}
use Rattle.ax_format.specs.Tree.{MembersTree}
use Rattle.ax_format.specs.Widths.{members_width, fx_width}
use Rattle.ax_values.proofs.Continuing.{fault_passed}
use Rattle.ax_values.proofs.PartUnits.{part_unit_is}
use Rattle.ax_values.proofs.PartsRead.{part_at, others_at, short_left, left_bounds, past_left, met_left, ready_left}
use Rattle.ax_values.specs.Parts.{parts_left}
use Rattle.ax_values.proofs.parts_left.PartsLeft.next.Goals.{else-more-via-then-more+else-others-eq0, else-more-via-else-more}
use Rattle.ax_values.proofs.parts_left.PartsLeft.next.Goals as goal

pub returns-in_err-end-clause-fault : goal.returns-in_err-end-clause-fault
returns-in_err-end-clause-fault g c =
    let s = c.args.self.now in
    let tree = g.P.SizedPart.tree in
    let p : MembersTree = tree c.in-Some.part.now in
    let all : List MembersTree = map tree (drop s.index s.parts.now) in
    let later : List MembersTree = map tree (drop (s.index + 1) s.parts.now) in
    let within : s.index < length s.parts.now = omega (arith, c.in-Some.ensures.lookup.3.0) in
    let parts : all ≡ p ∷ later = part_at tree s.parts.now s.index within c.in-Some.part.now c.in-Some.ensures.lookup.1 in
    let others : length later ≡ length s.parts.now - s.index - 1 = others_at tree s.parts.now s.index within in
    let bounds = left_bounds s.last s.more all later p s.body.now s.at c.if-not-self.false parts c.requires.ready in
    let fx : c.fx_width-fx.result ≡ fx_width s.last (length later) = c.fx_width-fx.ensures ∙ ap (fx_width s.last) (sym others) in
    let fault = c.in_err-end.field-0.0 in
    fault_passed (parts_left s.last s.more all s.body.now s.at) s.at c.from_residual.result fault c.from_residual.ensures.1
    (short_left s.last s.more all later p s.body.now s.at c.if-not-self.false parts fault
    (omega (arith, c.in_err-end.ensures.short, c.members_width-width.ensures, bounds.1, fx)) (ap (λ f. f.cause) c.in_err-end.ensures.fault) (ap (λ f. f.bit) c.in_err-end.ensures.fault))

pub returns-then-others-eq0-clause-fault : goal.returns-then-others-eq0-clause-fault
returns-then-others-eq0-clause-fault g c =
    let s = c.args.self.now in
    let tree = g.P.SizedPart.tree in
    let p : MembersTree = tree c.in-Some.part.now in
    let all : List MembersTree = map tree (drop s.index s.parts.now) in
    let later : List MembersTree = map tree (drop (s.index + 1) s.parts.now) in
    let within : s.index < length s.parts.now = omega (arith, c.in-Some.ensures.lookup.3.0) in
    let parts : all ≡ p ∷ later = part_at tree s.parts.now s.index within c.in-Some.part.now c.in-Some.ensures.lookup.1 in
    let others : length later ≡ length s.parts.now - s.index - 1 = others_at tree s.parts.now s.index within in
    let bounds = left_bounds s.last s.more all later p s.body.now s.at c.if-not-self.false parts c.requires.ready in
    let fx : c.fx_width-fx.result ≡ fx_width s.last (length later) = c.fx_width-fx.ensures ∙ ap (fx_width s.last) (sym others) in
    let ok = c.in_ok-end.ensures.ok in
    let w = members_width p in
    let u = part_unit_is s.body.now s.at c.in_ok-end.end w (fx_width s.last (length later)) (8 * s.at + c.members_width-width.result) c.is_continued-more.result bounds.3 ok.0 ok.1 (omega (arith, ok.2, c.members_width-width.ensures, bounds.1, fx))
    (omega (arith, c.members_width-width.ensures, bounds.1)) (λ e. c.is_continued-more.ensures.with_fx (fx ∙ e)) (λ e. c.is_continued-more.ensures.without_fx (fx ∙ e)) in
    past_left s.last s.more all later p s.body.now s.at c.if-not-self.false parts c.requires.ready c.in_ok-end.end c.is_continued-more.result u _ c.if-more.true (omega (arith, others, c.if-others-eq0.true)) refl (omega (arith, u.forwards))

pub returns-clause-some : goal.returns-clause-some
returns-clause-some g c =
    let s = c.args.self.now in
    let tree = g.P.SizedPart.tree in
    let p : MembersTree = tree c.in-Some.part.now in
    let all : List MembersTree = map tree (drop s.index s.parts.now) in
    let later : List MembersTree = map tree (drop (s.index + 1) s.parts.now) in
    let within : s.index < length s.parts.now = omega (arith, c.in-Some.ensures.lookup.3.0) in
    let parts : all ≡ p ∷ later = part_at tree s.parts.now s.index within c.in-Some.part.now c.in-Some.ensures.lookup.1 in
    let others : length later ≡ length s.parts.now - s.index - 1 = others_at tree s.parts.now s.index within in
    let bounds = left_bounds s.last s.more all later p s.body.now s.at c.if-not-self.false parts c.requires.ready in
    let fx : c.fx_width-fx.result ≡ fx_width s.last (length later) = c.fx_width-fx.ensures ∙ ap (fx_width s.last) (sym others) in
    let ok = c.in_ok-end.ensures.ok in
    let w = members_width p in
    let u = part_unit_is s.body.now s.at c.in_ok-end.end w (fx_width s.last (length later)) (8 * s.at + c.members_width-width.result) c.is_continued-more.result bounds.3 ok.0 ok.1 (omega (arith, ok.2, c.members_width-width.ensures, bounds.1, fx))
    (omega (arith, c.members_width-width.ensures, bounds.1)) (λ e. c.is_continued-more.ensures.with_fx (fx ∙ e)) (λ e. c.is_continued-more.ensures.without_fx (fx ∙ e)) in
    met_left s.last s.more all later p s.body.now s.at c.if-not-self.false parts c.requires.ready c.in_ok-end.end c.is_continued-more.result u
    (elim c.else-more.branch [
      | else-more-via-then-more+else-others-eq0 w ↦ (λ one. (omega (arith, others, w.if-others-eq0.false)))
      | else-more-via-else-more w ↦ (λ one. absurd (let e : true ≡ false = sym one ∙ w.if-more.false in cc))
    ])

pub returns-clause-ready : goal.returns-clause-ready
returns-clause-ready g c =
    let s = c.args.self.now in
    let tree = g.P.SizedPart.tree in
    let p : MembersTree = tree c.in-Some.part.now in
    let all : List MembersTree = map tree (drop s.index s.parts.now) in
    let later : List MembersTree = map tree (drop (s.index + 1) s.parts.now) in
    let within : s.index < length s.parts.now = omega (arith, c.in-Some.ensures.lookup.3.0) in
    let parts : all ≡ p ∷ later = part_at tree s.parts.now s.index within c.in-Some.part.now c.in-Some.ensures.lookup.1 in
    let others : length later ≡ length s.parts.now - s.index - 1 = others_at tree s.parts.now s.index within in
    let bounds = left_bounds s.last s.more all later p s.body.now s.at c.if-not-self.false parts c.requires.ready in
    let fx : c.fx_width-fx.result ≡ fx_width s.last (length later) = c.fx_width-fx.ensures ∙ ap (fx_width s.last) (sym others) in
    let ok = c.in_ok-end.ensures.ok in
    let w = members_width p in
    let u = part_unit_is s.body.now s.at c.in_ok-end.end w (fx_width s.last (length later)) (8 * s.at + c.members_width-width.result) c.is_continued-more.result bounds.3 ok.0 ok.1 (omega (arith, ok.2, c.members_width-width.ensures, bounds.1, fx))
    (omega (arith, c.members_width-width.ensures, bounds.1)) (λ e. c.is_continued-more.ensures.with_fx (fx ∙ e)) (λ e. c.is_continued-more.ensures.without_fx (fx ∙ e)) in
    ready_left s.last s.more all later p s.body.now s.at c.if-not-self.false parts c.requires.ready c.in_ok-end.end c.is_continued-more.result u
    (elim c.else-more.branch [
      | else-more-via-then-more+else-others-eq0 w ↦ (λ one. (omega (arith, others, w.if-others-eq0.false)))
      | else-more-via-else-more w ↦ (λ one. absurd (let e : true ≡ false = sym one ∙ w.if-more.false in cc))
    ])
