use Rattle.std.proofs.lemmas.Result.{err_from_is_err_and}
use Rattle.std.proofs.Common.{rules, ◌≡◌, codes}
use Rattle.ax_format.specs.Plain.{catalogue_tree}
use Rattle.ax_block_reader.proofs.BlockWays.{no_form, unknown_form, unlacked_form, neither_form}
use Rattle.ax_block_reader.proofs.blocks.form_of.Goals as goal

pub returns-in_err-token-clause-none : goal.returns-in_err-token-clause-none
returns-in_err-token-clause-none c =
    let p = err_from_is_err_and c.from_residual.result c.from_residual.ensures.1 in
    rw (p.1, p.2) (no_form (catalogue_tree c.args.items.now) c.known_category-known.result c.in_err-token.field-0.0 c.args.reader.now c.known_category-known.ensures c.in_err-token.ensures.end.1)

pub returns-in-None-clause-none : goal.returns-in-None-clause-none
returns-in-None-clause-none c =
    let none = rw c.in-None.is at c.known_category-known.ensures in
    let word : c.in_ok-token.token.now.text.now ≡ codes "block" = search rules in
    unknown_form (catalogue_tree c.args.items.now) c.known_category-known.result c.args.reader.now c.in_ok-token.token.now.text.now c.known_category-known.ensures c.in_ok-token.ensures.next word none

pub returns-in-None-lacked_category-clause-none : goal.returns-in-None-lacked_category-clause-none
returns-in-None-lacked_category-clause-none c =
    let none = rw c.in-None-lacked_category.is at c.lacked_category.ensures in
    let word : c.in_ok-token.token.now.text.now ≡ codes "opaque" = search rules in
    unlacked_form (catalogue_tree c.args.items.now) c.known_category-known.result c.args.reader.now c.in_ok-token.token.now.text.now c.known_category-known.ensures c.in_ok-token.ensures.next word none

pub returns-clause-none : goal.returns-clause-none
returns-clause-none c =
    let no_block : c.in_ok-token.token.now.text.now ≡ codes "block" → ⊥ = search rules in
    let no_opaque : c.in_ok-token.token.now.text.now ≡ codes "opaque" → ⊥ = search rules in
    neither_form (catalogue_tree c.args.items.now) c.known_category-known.result c.args.reader.now c.in_ok-token.token.now.text.now c.known_category-known.ensures c.in_ok-token.ensures.next no_block no_opaque
