use Rattle.std.proofs.Common.{rules, ◌≡◌, ◌*◌, sym, ◌∙◌, ap, to_z, of_z}
use Rattle.std.specs.Int.{w128}
use Rattle.std.specs.Prelude.{nat_abs}
use Rattle.std.proofs.lemmas.Int.{to_z-of_z}
use Rattle.ax_rescale.proofs.Conversions.{none_exact, none_spelled, none_where}
use Rattle.ax_rescale.specs.Rescaled.{with_sign_of}
use Rattle.ax_rescale.proofs.number.convert_number.Goals as goal

pub returns-in_default-clause-none : goal.returns-in_default-clause-none
returns-in_default-clause-none c =
    let same : to_z w128 (of_z w128 c.meant-meant.result) ≡ c.meant-meant.result = to_z-of_z w128 c.meant-meant.result (search rules) in
    let size = c.unsigned_abs.ensures.value ∙ ap nat_abs same in
    none_exact c.args.old_width c.args.old.now c.args.value c.args.new_width c.args.new.now c.meant-meant.result c.requires.new_width.1 c.meant-meant.ensures.value
    (λ s lt e. c.in_default.ensures.none s lt (ap (λ n. s * n) c.product-divisor.ensures ∙ e ∙ (λ i. sym size i * sym c.product-factor.ensures i)))

pub returns-clause-none : goal.returns-clause-none
returns-clause-none c =
    let same : to_z w128 (of_z w128 c.meant-meant.result) ≡ c.meant-meant.result = to_z-of_z w128 c.meant-meant.result (search rules) in
    let size = c.unsigned_abs.ensures.value ∙ ap nat_abs same in
    let es : c.in-Some.size * (c.args.new.now.num * c.args.old.now.den) ≡ nat_abs c.meant-meant.result * (c.args.old.now.num * c.args.new.now.den) =
    ap (λ n. c.in-Some.size * n) (sym c.product-divisor.ensures) ∙ c.in-Some.ensures.some ∙ (λ i. size i * c.product-factor.ensures i) in
    let made : to_z w128 (of_z w128 c.in-Some-signed_as.made) ≡ c.in-Some-signed_as.made = to_z-of_z w128 c.in-Some-signed_as.made (search rules) in
    none_where c.spelled.result _ _ (λ never. none_spelled c.args.old_width c.args.old.now c.args.value c.args.new_width c.args.new.now c.meant-meant.result (to_z w128 (of_z w128 c.in-Some-signed_as.made)) c.in-Some.size
    c.requires.old_scale.0 c.requires.new_scale.1 c.requires.new_scale.0 c.requires.old_scale.1 c.meant-meant.ensures.value es (made ∙ c.in-Some-signed_as.ensures.some ∙ ap (λ z. with_sign_of z c.in-Some.size) same) never) c.spelled.ensures.none
