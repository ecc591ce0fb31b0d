use Rattle.std.proofs.Common.{◌≡◌, ◌+◌, ◌<◌, ◌≤◌, IsTrue, drop, ℕ, length, get_or, arith, refl, subst, sym, ap}
use Rattle.ax_codec.proofs.Compiling.{mask_begins, mask_marks, mask_skips, mask_is, mask_ends}
use Rattle.ax_format.specs.Presence.{none_marked}
use Rattle.ax_codec.specs.Meaning.{linked_slots}
use Rattle.ax_fspec.proofs.Marking.{MaskSoFar}
use Rattle.ax_codec.proofs.build.mask_of.Goals.{then-link-gt0, else-link-gt0}
use Rattle.ax_codec.proofs.build.mask_of.Goals as goal

pub loop-link-init : goal.loop-link-init
loop-link-init c = record { number = refl; mask = λ ms. subst (λ marks. MaskSoFar (linked_slots ms c.args.links.now) 0 marks) (sym c.empty-defined.ensures) (mask_begins c.args.links.now ms) }

pub loop-link-preserved : goal.loop-link-preserved
loop-link-preserved c =
    let links = c.args.links.now in
    let i : ℕ = c.loop-link.link-index in
    let same = c.as_slice-link-items.ensures.members in
    let link : ℕ = get_or c.as_slice-link-items.result.now i 0 in
    let is : link ≡ get_or links i 0 = ap (λ xs. get_or xs i 0) same in
    let within : i < length links = subst (λ xs. i < length xs) same c.loop-link-test.true in
    let number = c.loop-link.invariant.number in
    record {
      number = omega arith;
      mask = λ ms. elim c.if-link-gt0.branch [
        | then-link-gt0 w ↦ subst (λ marks. MaskSoFar (linked_slots ms links) (i + 1) marks) (sym w.defined-is)
            (mask_marks ms links i (c.loop-link.number + 1) link c.loop-link.defined (c.loop-link.invariant.mask ms) within (omega (arith, c.requires)) is w.mark.new.self (omega arith) w.if-link-gt0.true w.mark.ensures)
        | else-link-gt0 w ↦ subst (λ marks. MaskSoFar (linked_slots ms links) (i + 1) marks) (sym w.defined-is)
            (mask_skips ms links i (c.loop-link.number + 1) link c.loop-link.defined (c.loop-link.invariant.mask ms) within (omega (arith, c.requires)) is w.if-link-gt0.false)
      ];
    }

pub invariant_of-result : goal.invariant_of-result
invariant_of-result c =
    let links = c.args.links.now in
    let i : ℕ = c.loop-link.link-index in
    let past = subst (λ xs. length xs ≤ i) c.as_slice-link-items.ensures.members c.loop-link-test.false in
    let few = subst (λ xs. i ≤ length xs) c.as_slice-link-items.ensures.members c.loop-link.auto.link-index-end in
    let all : length links ≡ i = omega arith in
    record {
      some = omega (arith, c.count.ensures, c.requires);
      few = omega (arith, c.count.ensures, c.requires);
      within = subst (λ n. IsTrue (none_marked (drop n c.loop-link.defined))) (sym c.count.ensures) (mask_ends links i c.loop-link.defined c.loop-link.invariant.mask all);
    }

pub returns : goal.returns
returns c ms =
    let links = c.args.links.now in
    let i : ℕ = c.loop-link.link-index in
    let past = subst (λ xs. length xs ≤ i) c.as_slice-link-items.ensures.members c.loop-link-test.false in
    let few = subst (λ xs. i ≤ length xs) c.as_slice-link-items.ensures.members c.loop-link.auto.link-index-end in
    let all : length links ≡ i = omega arith in
    mask_is ms links i _ c.loop-link.defined (c.loop-link.invariant.mask ms) all c.count.ensures refl
