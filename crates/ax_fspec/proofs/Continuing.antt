-- Reading goes on after what was read.
use Rattle.std.proofs.Common.{◌≡◌, ℕ, ◌+◌, ◌-◌, ◌*◌, List, refl, ◌∙◌, ap, arith}
use Rattle.ax_bits.specs.Bits.{bits}
use Rattle.ax_format.proofs.Failed.{failed_is}
use Rattle.ax_format.specs.Reader.{Read, got, failed, after}
use Rattle.ax_format.proofs.Spelled.{got_is}
use Rattle.ax_format.specs.declared.fault.BodyFault.{BodyFault}
use Rattle.ax_fspec.specs.Reading.{Gets, FailsAt, Continues}

after_none : {A : Type 0} (r : Read A) → r ≡ after 0 (λ a. a) r
after_none (got a m y) = got_is y refl (omega arith)
after_none (failed p c) = failed_is (omega arith) refl

after_after : {A B C : Type 0} (m n k : ℕ) (f : B → C) (g : A → B) (r : Read A) → k ≡ m + n → after m f (after n g r) ≡ after k (λ a. f (g a)) r
after_after m n k f g (got a l y) e = got_is y refl (omega arith)
after_after m n k f g (failed p c) e = failed_is (omega arith) refl

pub begins : {A : Type 0} (r : Read A) (at : ℕ) → Continues r at at (λ a. a) r
begins r at = record { forwards = omega arith; same = after_none r ∙ ap (λ n. after n (λ a. a) r) (let e : 0 ≡ 8 * (at - at) = omega arith in e) }

pub goes_on : {A B C : Type 0} (whole : Read C) (next : Read B) (rest : Read A) (at here end : ℕ) (f : B → C) (g : A → B) → Continues whole at here f next → Continues next here end g rest → Continues whole at end (λ a. f (g a)) rest
goes_on whole next rest at here end f g h t = record {
  forwards = omega (arith, h.forwards, t.forwards);
  same = h.same ∙ ap (after (8 * (here - at)) f) t.same ∙ after_after (8 * (here - at)) (8 * (end - here)) (8 * (end - at)) f g rest (omega (arith, h.forwards, t.forwards));
}

pub gets_after : {A B : Type 0} (whole : Read B) (rest : Read A) (body : List ℕ) (at here end : ℕ) (f : A → B) (a : A) → Continues whole at here f rest → Gets rest body here end a → Gets whole body at end (f a)
gets_after whole rest body at here end f a h t = record {
  forwards = omega (arith, h.forwards, t.forwards);
  within = t.within;
  got = h.same ∙ ap (after (8 * (here - at)) f) t.got ∙ got_is (bits _) refl (omega (arith, h.forwards, t.forwards));
}

pub fails_after : {A B : Type 0} (whole : Read B) (rest : Read A) (at here : ℕ) (f : A → B) (fault : BodyFault) → Continues whole at here f rest → FailsAt rest here fault → FailsAt whole at fault
fails_after whole rest at here f fault h t = record {
  place = 8 * (here - at) + t.place;
  failed = h.same ∙ ap (after (8 * (here - at)) f) t.failed;
  bit = omega (arith, h.forwards, t.bit);
}

-- the same in another value
pub front_is : {A B : Type 0} (whole : Read B) (rest : Read A) (at here : ℕ) (f g : A → B) → ((a : A) → f a ≡ g a) → Continues whole at here f rest → Continues whole at here g rest
front_is whole rest at here f g e h = record { forwards = h.forwards; same = h.same ∙ same_after rest }
  where
    same_after : (r : Read _) → after (8 * (here - at)) f r ≡ after (8 * (here - at)) g r
    same_after (got a m y) = got_is y (e a) refl
    same_after (failed p c) = refl
