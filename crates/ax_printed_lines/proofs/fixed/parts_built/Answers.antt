use Rattle.std.proofs.Common.{◌≡◌, ◌∷◌, ◌+◌, ◌-◌, ◌<◌, ℕ, length, map, drop, get_or, ap, arith, length-drop, rules, subst, sym}
use Rattle.std.proofs.lemmas.Option.{IfSome_then}
use Rattle.ax_bits.specs.Bits.{word}
use Rattle.ax_format.specs.Widths.{fx_width}
use Rattle.ax_text_form.proofs.Printed.{from_place}
use Rattle.ax_text_lines.specs.HeldText.{text_part}
use Rattle.ax_printed_lines.specs.Laid.{Lays}
use Rattle.ax_printed_lines.proofs.ListsBuilt.{parts_first, part_bounds, part_next, part_last, PartIsBuilt}
use Rattle.ax_printed_lines.proofs.fixed.parts_built.Goals as goal

pub loop-index-init : goal.loop-index-init
loop-index-init c = record { built = parts_first c.args.last (map text_part c.args.parts.now) c.args.cursor.now c.args.out.now c.requires; within = omega arith }

pub part_built-requires : goal.part_built-requires
part_built-requires c =
    let list = c.args.parts.now in
    let i : ℕ = c.loop-index.index in
    let p = c.index-list-index.result in
    let same = c.as_slice-list.ensures.members in
    let lt : i < length list = subst (λ xs. i < length xs) same c.loop-index-test.true in
    let at : drop i list ≡ p ∷ drop (i + 1) list = from_place list i p lt (subst (λ xs. p ≡ get_or xs i p) same c.index-list-index.is) in
    part_bounds c.args.last p (drop i list) (drop (i + 1) list) at (map text_part list) c.args.cursor.now c.loop-index.cursor c.args.out.now c.loop-index.out c.loop-index.invariant.built

pub returns-then-closes : goal.returns-then-closes
returns-then-closes c =
    let list = c.args.parts.now in
    let i : ℕ = c.loop-index.index in
    let p = c.index-list-index.result in
    let same = c.as_slice-list.ensures.members in
    let lt : i < length list = subst (λ xs. i < length xs) same c.loop-index-test.true in
    let later = drop (i + 1) list in
    let at : drop i list ≡ p ∷ later = from_place list i p lt (subst (λ xs. p ≡ get_or xs i p) same c.index-list-index.is) in
    let size : length c.as_slice-list.result.now - (i + 1) ≡ length later = omega (arith, ap length same, length-drop (i + 1) list) in
    IfSome_then c.last_fx_built.result c.last_fx_built.ensures (λ done a.
    part_last c.args.last p (drop i list) later at (map text_part list) c.args.cursor.now c.loop-index.cursor c.part_built.new.cursor c.closes.new.self c.args.out.now c.loop-index.out c.part_built.new.out c.last_fx_built.new.out
    c.loop-index.invariant.built c.in_ok-part_built.ensures (search rules) (subst (λ n. Lays c.part_built.new.out c.last_fx_built.new.out (word (fx_width c.args.last n) 0)) size a))

pub loop-index-preserved : goal.loop-index-preserved
loop-index-preserved c =
    let list = c.args.parts.now in
    let i : ℕ = c.loop-index.index in
    let held = c.index-list-index.result in
    let same = c.as_slice-list.ensures.members in
    let lt : i < length list = subst (λ xs. i < length xs) same c.loop-index-test.true in
    let later = drop (i + 1) list in
    let at : drop i list ≡ held ∷ later = from_place list i held lt (subst (λ xs. held ≡ get_or xs i held) same c.index-list-index.is) in
    let p = text_part held in
    let stays : c.closes.new.self ≡ c.part_built.new.cursor = search rules in
    let built : PartIsBuilt p c.loop-index.cursor c.closes.new.self c.loop-index.out c.part_built.new.out = subst (λ z. PartIsBuilt p c.loop-index.cursor z c.loop-index.out c.part_built.new.out) (sym stays) c.in_ok-part_built.ensures in
    record {
      built = part_next c.args.last held (drop i list) later at (map text_part list) c.args.cursor.now c.loop-index.cursor c.closes.new.self c.args.out.now c.loop-index.out c.part_built.new.out c.fx_built.new.out c.loop-index.invariant.built built (search rules);
      within = omega (arith, lt);
    }
