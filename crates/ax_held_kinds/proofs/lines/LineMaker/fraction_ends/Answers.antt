use Rattle.std.proofs.Common.{◌≡◌, ◌+◌, ◌/◌, ◌^◌, [], ◌∷◌, IfSome, length, length-append, ap, subst, ◌∙◌}
use Rattle.ax_text_form.specs.FractionEnds.{fraction_end}
use Rattle.ax_text_form.proofs.QuantityLines.{end_more}
use Rattle.ax_held_kinds.proofs.lines.LineMaker.fraction_ends.Goals as goal

pub loop-twos-preserved : goal.loop-twos-preserved
loop-twos-preserved c =
    let unit = c.args.scale.now.unit in
    let den = c.args.scale.now.den in
    let ends = c.loop-twos.ends in
    let twos = c.loop-twos.twos in
    let end = c.in-Some.end in
    let said : end ≡ fraction_end c.as_slice.result.now (den / 2 ^ twos) = subst (λ r. IfSome r (λ end. end ≡ fraction_end c.as_slice.result.now (den / 2 ^ twos))) c.in-Some.is c.in_ok-end.ensures in (
      ap length c.in_ok-push-in-Some.ensures.ok ∙ length-append ends (end ∷ []) ∙ ap (λ n. n + 1) c.loop-twos.invariant.0,
      end_more unit den twos ends c.push.new.self end c.loop-twos.invariant.0 c.loop-twos.invariant.1 (said ∙ ap (λ u. fraction_end u (den / 2 ^ twos)) c.as_slice.ensures.octets) c.in_ok-push-in-Some.ensures.ok,
    )
