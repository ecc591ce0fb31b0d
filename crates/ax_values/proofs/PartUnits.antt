-- A part that was found at an octet, with its FX bit where it has one.
use Rattle.std.proofs.Common.{◌≡◌, ℕ, ◌+◌, ◌-◌, ◌*◌, ◌<◌, ◌≤◌, ◌⊎◌, inl, inr, Bool, true, false, List, [], ◌∷◌, length, take, drop, refl, sym, ◌∙◌, ap, arith, subst}
use Rattle.ax_bits.specs.Bits.{bits}
use Rattle.ax_format.specs.Reader.{members_value}
use Rattle.ax_format.specs.Tree.{MembersTree, ValuesTree, list_and, no_lists}
use Rattle.ax_format.specs.Widths.{members_width, fx_width}
use Rattle.ax_format.specs.declared.fault.BodyCause.TheVariants.{ExtensionPastEnd}
use Rattle.ax_format.specs.declared.fault.BodyFault.{BodyFault}
use Rattle.ax_format.specs.declared.kind.LastPart.{LastPart}
use Rattle.ax_fspec.proofs.AtOctets.{IsUnit, parts_at, parts_end, parts_end_bare, parts_go_on, parts_past_end, fx_or_none}
use Rattle.ax_fspec.specs.Reading.{Gets, FailsAt, Continues, fx_bit}

-- w bits and so many FX bits are the octets from `at` up to `end`; `more` says whether there is an FX bit, and it is set
pub record IsPartUnit (body : List ℕ) (at end w fx : ℕ) (more : Bool) : Type 0 where
  pub forwards : at < end
  pub within : end ≤ length body
  pub width : w + fx ≡ 8 * (end - at)
  pub with_fx : fx ≡ 1 → take 1 (drop (8 * at + w) (bits body)) ≡ fx_bit more ∷ []
  pub without_fx : fx ≡ 0 → more ≡ false

-- of what the code found
pub part_unit_is : (body : List ℕ) (at end w fx bit : ℕ) (more : Bool) → 0 < w + fx → at ≤ end → end ≤ length body → w + fx ≡ 8 * (end - at) → bit ≡ 8 * at + w
    → (fx ≡ 1 → take 1 (drop bit (bits body)) ≡ fx_bit more ∷ []) → (fx ≡ 0 → more ≡ false) → IsPartUnit body at end w fx more
part_unit_is body at end w fx bit more some le within l b has none = record {
  forwards = omega arith;
  within = within;
  width = l;
  with_fx = λ one. subst (λ k. take 1 (drop k (bits body)) ≡ fx_bit more ∷ []) b (has one);
  without_fx = none;
}

module _ (last : LastPart) (p : MembersTree) (body : List ℕ) (at end : ℕ) (more : Bool) where
  fx_unit : (fx : ℕ) → IsPartUnit body at end (members_width p) fx more → fx ≡ 1 → IsUnit body at end (members_width p) (fx_bit more)
  fx_unit fx u has = record { forwards = u.forwards; within = u.within; width = omega (arith, u.width, has); last = u.with_fx has }

  -- no other part is present
  pub part_unit_ends : (ps : List MembersTree) (vs : ValuesTree) → IsPartUnit body at end (members_width p) (fx_width last (length ps)) more → more ≡ false → vs ≡ members_value p (drop (8 * at) (bits body))
      → Gets (parts_at last (p ∷ ps) body at) body at end (list_and vs no_lists)
  part_unit_ends ps vs u none is = by (fx_or_none last (length ps))
    where
      by : (fx_width last (length ps) ≡ 1) ⊎ (fx_width last (length ps) ≡ 0) → Gets (parts_at last (p ∷ ps) body at) body at end (list_and vs no_lists)
      by (inl has) = parts_end last p ps body at end (members_width p) (fx_bit more) has (fx_unit (fx_width last (length ps)) u has) refl vs (ap fx_bit none) is
      by (inr bare) = parts_end_bare last p ps body at end vs bare (omega (arith, u.forwards)) u.within (omega (arith, u.width, bare)) is

  -- another one is
  pub part_unit_goes_on : (q : MembersTree) (ps : List MembersTree) (vs : ValuesTree) → IsPartUnit body at end (members_width p) (fx_width last (length (q ∷ ps))) more → more ≡ true → vs ≡ members_value p (drop (8 * at) (bits body))
      → Continues (parts_at last (p ∷ q ∷ ps) body at) at end (λ ls. list_and vs ls) (parts_at last (q ∷ ps) body end)
  part_unit_goes_on q ps vs u one is = parts_go_on last p q ps body at end (members_width p) (fx_bit more) vs (fx_unit (fx_width last (length (q ∷ ps))) u refl) refl (ap fx_bit one) is

  -- another one is, and the kind has no other
  pub part_unit_past : (fault : BodyFault) → IsPartUnit body at end (members_width p) (fx_width last 0) more → more ≡ true → fault.cause ≡ ExtensionPastEnd → fault.bit + 1 ≡ 8 * end → FailsAt (parts_at last (p ∷ []) body at) at fault
  part_unit_past fault u one c b = by (fx_or_none last 0)
    where
      by : (fx_width last 0 ≡ 1) ⊎ (fx_width last 0 ≡ 0) → FailsAt (parts_at last (p ∷ []) body at) at fault
      by (inl has) = parts_past_end last p body at end (members_width p) (fx_bit more) fault has (fx_unit (fx_width last 0) u has) refl (ap fx_bit one) c b
      by (inr bare) = absurd (let no : true ≡ false = sym one ∙ u.without_fx bare in cc)
