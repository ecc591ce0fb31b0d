use Rattle.std.proofs.Common.{◌≡◌, ◌+◌, ◌-◌, ◌<◌, ◌≤◌, ℕ, length, take, drop, ap, arith, refl, subst, sym, length-drop}
use Rattle.std.proofs.lemmas.List.{length-take-le}
use Rattle.ax_bits.specs.Bits.{AreOctets}
use Rattle.ax_format.specs.Tree.{explicit, content_octets}
use Rattle.ax_fspec.proofs.Counting.{explicit_none, explicit_bad, explicit_short, explicit_gets, octets_part}
use Rattle.ax_fspec.specs.Reading.{Gets, kind_read}
use Rattle.ax_values.proofs.Continuing.{fault_passed}
use Rattle.ax_values.proofs.explicit.explicit_content.Goals as goal

pub returns-in_err-length-clause-fault : goal.returns-in_err-length-clause-fault
returns-in_err-length-clause-fault c =
    let fault = c.in_err-length.field-0.0 in
    fault_passed (kind_read explicit c.args.body.now c.args.at) c.args.at c.from_residual.result fault c.from_residual.ensures.1
    (explicit_none c.args.body.now c.args.at fault c.in_err-length.ensures.short (ap (λ f. f.cause) c.in_err-length.ensures.fault) (ap (λ f. f.bit) c.in_err-length.ensures.fault))

pub returns-then-length-eq0-clause-fault : goal.returns-then-length-eq0-clause-fault
returns-then-length-eq0-clause-fault c = explicit_bad c.args.body.now c.args.at c.in_ok-length.length _ c.in_ok-length.ensures.ok.0 c.in_ok-length.ensures.ok.1 c.if-length-eq0.true refl refl

pub returns-then-end-body-clause-fault : goal.returns-then-end-body-clause-fault
returns-then-end-body-clause-fault c =
    explicit_short c.args.body.now c.args.at c.in_ok-length.length _ c.in_ok-length.ensures.ok.0 c.in_ok-length.ensures.ok.1 (omega (arith, c.in_ok-length.ensures.ok.1, c.type_inv.body c.args.at)) (omega (arith, c.if-length-eq0.false)) (omega (arith, c.if-end-body.true)) refl refl

pub returns-clause-content : goal.returns-clause-content
returns-clause-content c =
    let all = c.args.body.now in
    let at : ℕ = c.args.at in
    let n : ℕ = c.in_ok-length.length in
    let some : 0 < n = omega (arith, c.if-length-eq0.false) in
    let within : at + n ≤ length all = omega (arith, c.if-end-body.false) in
    let octets = take (at + n - (at + 1)) (drop (at + 1) all) in
    let content : octets ≡ take (n - 1) (drop (at + 1) all) = ap (λ m. take m (drop (at + 1) all)) (let e : at + n - (at + 1) ≡ n - 1 = omega arith in e) in
    let long : length octets ≡ at + n - (at + 1) = length-take-le (at + n - (at + 1)) (drop (at + 1) all) (omega (arith, length-drop (at + 1) all, some, within)) in
    let end : at + n ≡ at + 1 + length octets = omega (arith, long, some) in
    subst (λ end. Gets (kind_read explicit all at) all at end (content_octets octets)) end
    (explicit_gets all octets at n (at + n) c.in_ok-length.ensures.ok.0 c.in_ok-length.ensures.ok.1 (omega (arith, c.in_ok-length.ensures.ok.1, c.type_inv.body c.args.at)) some refl within
    content (subst AreOctets (sym content) (octets_part (n - 1) (at + 1) all (λ i. (let fits = c.type_inv.body i in omega arith)))))
