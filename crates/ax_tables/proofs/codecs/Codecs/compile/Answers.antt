use Rattle.std.proofs.Common.{◌≡◌, ℕ, ◌+◌, ◌<◌, length, take, arith, sym, ◌∙◌, ap, subst, length-append, ◌∷◌, []}
use Rattle.std.proofs.lemmas.List.{take_all}
use Rattle.ax_format.specs.Plain.{catalogue_tree}
use Rattle.ax_tables.proofs.CodecLists.{each_next, apart, there, missing}
use Rattle.ax_codec.specs.Standing.{StandForEach}
use Rattle.ax_tables.proofs.codecs.Codecs.compile.Goals.{in-Some+in_ok-compile+in_ok-push, in_default}
use Rattle.ax_tables.proofs.codecs.Codecs.compile.Goals as goal

pub loop-index-preserved : goal.loop-index-preserved
loop-index-preserved c =
    let all = c.args.catalogue.now in
    let i : ℕ = c.loop-index.index in
    let within : i < length all = omega (arith, c.loop-index-test.true, c.count-index-end.ensures.number) in
    elim c.match-at.branch [
      | in-Some+in_ok-compile+in_ok-push w ↦ record {
        stand = subst (λ cs. StandForEach cs (catalogue_tree (take (i + 1) all))) (sym w.codecs-is)
            (each_next all i w.in-Some.accepted.now c.loop-index.codecs w.push.new.self w.in_ok-compile.field-0 within (there all i c.at.result w.in-Some.accepted w.in-Some.is c.at.ensures.value) c.loop-index.invariant.stand w.in_ok-compile.ensures w.in_ok-push.ensures.ok);
        count = ap length (w.codecs-is ∙ w.in_ok-push.ensures.ok) ∙ length-append c.loop-index.codecs (w.in_ok-compile.field-0 ∷ []) ∙ ap (λ n. n + 1) c.loop-index.invariant.count;
      }
      | in_default w ↦ absurd (missing c.at.result w.in_default.not-Some (c.at.ensures.within.1 within))
    ]

pub invariant_of-result : goal.invariant_of-result
invariant_of-result c =
    let all = c.args.catalogue.now in
    let i : ℕ = c.loop-index.index in
    let whole : take i all ≡ all = take_all i all (omega (arith, c.loop-index-test.false, c.count-index-end.ensures.number)) in
    record {
      apart = apart c.loop-index.codecs all (subst (λ specs. StandForEach c.loop-index.codecs (catalogue_tree specs)) whole c.loop-index.invariant.stand) c.count-index-end.ensures.apart;
      placed = c.in_ok-places.ensures;
    }
