-- Printing that goes on after what was read and printed.
use Rattle.std.proofs.Common.{◌≡◌, ℕ, List, ◌∷◌, ◌++◌, refl, sym, ◌∙◌, ap}
use Rattle.ax_format.specs.Reader.{Read}
use Rattle.ax_format.specs.declared.fault.BodyFault.{BodyFault}
use Rattle.ax_fspec.proofs.Continuing.{gets_after}
use Rattle.ax_fspec.specs.Reading.{Gets, FailsAt, Continues}
use Rattle.ax_text_form.specs.Printing.{after_spaces, Puts}
use Rattle.ax_text_form.specs.ValueText.{Texts, opening, closing, one_onto, in_braces}
use Rattle.ax_text_lines.specs.Prints.{Prints}
use Rattle.ax_values.proofs.Continuing.{failed_after, failed_by_fault}
use Rattle.ax_values.specs.SlotReading.{HasFailed}
use Rattle.ax_values.specs.declared.error.DecodeError.{DecodeError}
use Rattle.ax_values.specs.declared.error.DecodeError.TheVariants as Decoding

-- with a closing brace
abbrev pub closed : {A : Type 0} → (A → Texts → Texts) → A → Texts → Texts
closed onto a rest = onto a (closing ∷ rest)

-- what is read and printed from octet `here` on decides what is from octet `at` on
pub record Leads {A B : Type 0} (onto : A → Texts → Texts) (next : Read A) (whole_onto : B → Texts → Texts) (whole : Read B) (body : List ℕ) (at here : ℕ) (old now : List ℕ) : Type 0 where
  pub prints : (end : ℕ) (new : List ℕ) → Prints onto next body here end now new → Prints whole_onto whole body at end old new
  pub fails : (e : DecodeError) → HasFailed next here e → HasFailed whole at e

pub leads_none : {A : Type 0} (onto : A → Texts → Texts) (found : Read A) (body : List ℕ) (at : ℕ) (out : List ℕ) → Leads onto found onto found body at at out out
leads_none onto found body at out = record { prints = λ end new p. p; fails = λ e h. h }

pub leads_on : {A B C : Type 0} {f : A → Texts → Texts} {g : B → Texts → Texts} {h : C → Texts → Texts} {rest : Read A} {next : Read B} {whole : Read C} {body : List ℕ} {at here end : ℕ} {old now new : List ℕ}
    → Leads g next h whole body at here old now → Leads f rest g next body here end now new → Leads f rest h whole body at end old new
leads_on h t = record { prints = λ end new p. h.prints end new (t.prints end new p); fails = λ e x. h.fails e (t.fails e x) }

-- after a front of the whole, whose texts were printed
pub leads_by : {A B : Type 0} (onto : A → Texts → Texts) (next : Read A) (whole_onto : B → Texts → Texts) (whole : Read B) (body : List ℕ) (at here : ℕ) (old now : List ℕ) (front : A → B) (f : Texts → Texts) → Continues whole at here front next
    → ((a : A) (rest : Texts) → whole_onto (front a) rest ≡ f (onto a rest)) → Puts after_spaces f old now → Leads onto next whole_onto whole body at here old now
leads_by onto next whole_onto whole body at here old now front f c e p = record {
  prints = λ end new q. (record {
    value = front q.value;
    read = gets_after whole next body at here end front q.value c q.read;
    put = record { put = λ rest. q.put.put rest ∙ p.put (onto q.value rest) ∙ ap (λ t. old ++ after_spaces t) (sym (e q.value rest)) };
  });
  fails = λ e h. failed_after whole next at here front e c h;
}

pub fails_too : {A B : Type 0} {onto : A → Texts → Texts} {next : Read A} {whole_onto : B → Texts → Texts} {whole : Read B} {body : List ℕ} {at here : ℕ} {old now : List ℕ} → Leads onto next whole_onto whole body at here old now
    → (fault : BodyFault) → FailsAt next here fault → FailsAt whole at fault
fails_too {A} {B} {onto} {next} {whole_onto} {whole} {body} {at} {here} h fault t = (h.fails (Decoding.Fault fault) (failed_by_fault next here (Decoding.Fault fault) fault refl t)).met fault refl

-- after an opening brace
pub opened : {A B : Type 0} (onto : A → Texts → Texts) (next : Read A) (whole_onto : B → Texts → Texts) (whole : Read B) (body : List ℕ) (at : ℕ) (old now : List ℕ) (front : A → B) → ((end : ℕ) (a : A) → Gets next body at end a → Gets whole body at end (front a))
    → ((fault : BodyFault) → FailsAt next at fault → FailsAt whole at fault) → ((a : A) (rest : Texts) → whole_onto (front a) rest ≡ in_braces (onto a) rest) → Puts after_spaces (one_onto opening) old now
    → Leads (closed onto) next whole_onto whole body at at old now
opened onto next whole_onto whole body at old now front gets fails e p = record {
  prints = λ end new q. (record {
    value = front q.value;
    read = gets end q.value q.read;
    put = record { put = λ rest. q.put.put rest ∙ p.put (closed onto q.value rest) ∙ ap (λ t. old ++ after_spaces t) (sym (e q.value rest)) };
  });
  fails = λ e h. (record { met = λ fault is. fails fault (h.met fault is) });
}
