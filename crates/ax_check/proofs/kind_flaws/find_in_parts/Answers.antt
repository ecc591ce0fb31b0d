use Rattle.std.proofs.Common.{◌≡◌, ◌++◌, ◌+◌, ◌-◌, ◌≤◌, ◌==◌, length, refl, ap, subst, sym, ◌∙◌, rules}
use Rattle.ax_check.proofs.PartLists.{part_start, part_step, part_end}
use Rattle.ax_check.specs.Members.{part_flaws}
use Rattle.ax_check.specs.Names.{listed, AreSame}
use Rattle.ax_format.specs.Flaws.{flaw_where, names_with}
use Rattle.ax_format.proofs.Completions.{fx_few}
use Rattle.ax_format.specs.Plain.{part_tree}
use Rattle.ax_format.specs.Widths.{fx_width}
use Rattle.ax_format.specs.declared.flaw.FlawKind.TheVariants.{Empty}
use Rattle.ax_check.proofs.kind_flaws.find_in_parts.Goals as goal

pub loop-part-preserved : goal.loop-part-preserved
loop-part-preserved c =
    let flaws : c.find_in_part.new.found ≡ c.loop-part.found ++ part_flaws c.fx_width-fx.result c.args.path.now c.loop-part.number (listed c.loop-part.names.set) (part_tree c.part-item.result) = search rules in
    let names : AreSame (listed c.find_in_part.new.names.set) (names_with (listed c.loop-part.names.set) (part_tree c.part-item.result)) = search rules in (
      ap (λ n. n + 1) c.loop-part.invariant.0,
      part_step c.args.last c.args.path.now c.loop-part.number c.loop-part.part-index _ c.fx_width-fx.result (listed c.loop-part.names.set) (listed c.find_in_part.new.names.set) c.args.parts.now c.part-item.result c.loop-part.found c.find_in_part.new.found _
          (search rules) (search rules) (ap (λ n. length c.args.parts.now - n - 1) c.loop-part.invariant.0) (c.fx_width-fx.ensures ∙ ap (λ n. fx_width c.args.last (n - c.loop-part.number - 1)) c.count-in-loop-part.ensures) flaws names c.loop-part.invariant.1,
    )

pub find_in_part-requires : goal.find_in_part-requires
find_in_part-requires c = subst (λ n. n ≤ 1) (sym c.fx_width-fx.ensures) (fx_few c.args.last _)

pub loop-part-init : goal.loop-part-init
loop-part-init c =
    let noted : c.note.new.found ≡ c.args.found.now ++ flaw_where (length c.args.parts.now == 0) Empty c.args.path.now = search rules in
    (refl, part_start c.args.last c.args.path.now c.args.parts.now (listed c.new-names.result.set) c.args.found.now c.note.new.found c.new-names.ensures noted)

pub returns : goal.returns
returns c =
    part_end c.args.last c.args.path.now c.loop-part.number c.loop-part.part-index (listed c.loop-part.names.set) c.args.parts.now c.args.found.now c.loop-part.found (search rules) c.loop-part.invariant.1

pub returns-in_err-note : goal.returns-in_err-note
returns-in_err-note c = search rules

pub returns-in_err-find_in_part : goal.returns-in_err-find_in_part
returns-in_err-find_in_part c = search rules
