-- Lines that lead on: what is read and shown later decides what is read and shown of the whole.
use Rattle.std.proofs.Common.{◌≡◌, ℕ, suc, ◌+◌, ◌≤◌, List, [], ◌∷◌, ◌++◌, length, take, drop, refl, sym, ◌∙◌, ap, arith, append-nil, append_assoc, length-append, codes, decimal, ◌-◌}
use Rattle.std.proofs.lemmas.Fmt.{decimal_digit}
use Rattle.std.proofs.lemmas.List.{append_cancel_left, take_at, drop_at, drop-drop}
use Rattle.ax_format.specs.Reader.{Read}
use Rattle.ax_format.specs.Tree.{KindTree, ValueTree}
use Rattle.ax_format.specs.declared.fault.BodyFault.{BodyFault}
use Rattle.ax_fspec.proofs.Continuing.{gets_after, fails_after}
use Rattle.ax_fspec.specs.Reading.{Gets, FailsAt, Continues, kind_read}
use Rattle.ax_text_form.specs.Printing.{as_lines, Puts}
use Rattle.ax_text_form.specs.ShowText.{count_line, kind_lines}
use Rattle.ax_text_form.specs.ValueText.{Texts, one_onto}
use Rattle.ax_values.proofs.Continuing.{failed_by_want}
use Rattle.ax_values.specs.SlotReading.{HasFailed}
use Rattle.ax_values.specs.declared.error.DecodeError.{DecodeError}
use Rattle.ax_values.specs.declared.error.DecodeError.TheVariants as Decoding
use Rattle.ax_listing.specs.Shown.{Shows, ShowsCounted}

-- what is done once reading ended at an octet, with these lines and so many things shown; and what a fault means
abbrev pub Ending : Type 1
Ending = ℕ → List ℕ → ℕ → Type 0

pub record Leads {A : Type 0} (Done : Ending) (Failed : BodyFault → Type 0) (lines : A → Texts → Texts) (size : A → ℕ) (next : Read A) (body : List ℕ) (here : ℕ) (now : List ℕ) (i : ℕ) : Type 0 where
  pub within : here ≤ length body
  pub ends : (end : ℕ) (a : A) (new : List ℕ) (n : ℕ) → Gets next body here end a → Puts as_lines (lines a) now new → n ≡ i + size a → Done end new n
  pub fails : (fault : BodyFault) → FailsAt next here fault → Failed fault

-- one thing more was shown
pub leads_next : {A B : Type 0} (Done : Ending) (Failed : BodyFault → Type 0) (lines : B → Texts → Texts) (later : A → Texts → Texts) (one : Texts → Texts) (size : B → ℕ) (fewer : A → ℕ) (next : Read B) (rest : Read A) (body : List ℕ) (here end : ℕ) (now new : List ℕ) (i : ℕ) (cons : A → B)
    → Leads Done Failed lines size next body here now i → end ≤ length body → Continues next here end cons rest → Puts as_lines one now new → ((a : A) (t : Texts) → lines (cons a) t ≡ one (later a t)) → ((a : A) → size (cons a) ≡ suc (fewer a))
    → Leads Done Failed later fewer rest body end new (i + 1)
leads_next Done Failed lines later one size fewer next rest body here end now new i cons h le c p e s = record {
  within = le;
  ends = λ last a out n g q m.
      h.ends last (cons a) out n (gets_after next rest body here end last cons a c g) (record { put = λ t. q.put t ∙ p.put (later a t) ∙ ap (λ u. now ++ as_lines u) (sym (e a t)) }) (let k = s a in omega (arith, m, k));
  fails = λ fault f. h.fails fault (fails_after next rest here end cons fault c f);
}

-- the lines under a count line, from the first on
pub counted_first : {A : Type 0} (k : KindTree) (path word : List ℕ) (body : List ℕ) (at here : ℕ) (out : List ℕ) (lines : A → Texts → Texts) (size : A → ℕ) (next : Read A) (value : A → ValueTree)
    → here ≤ length body → Continues (kind_read k body at) at here value next → ((a : A) (end : ℕ) → Gets (kind_read k body at) body at end (value a) → (t : Texts) → kind_lines k path (value a) t ≡ count_line path word (size a) ∷ lines a t)
    → Leads (λ end new n. ShowsCounted k path word body at end out new n) (FailsAt (kind_read k body at) at) lines size next body here out 0
counted_first k path word body at here out lines size next value le c e = record {
  within = le;
  ends = λ end a new n g p m.
      let read = gets_after (kind_read k body at) next body at here end value a c g in
      let same : size a ≡ n = omega (arith, m) in record {
        value = value a;
        read = read;
        later = lines a;
        put = p;
        first = λ t. e a end read t ∙ ap (λ n. count_line path word n ∷ lines a t) same;
      };
  fails = λ fault f. fails_after (kind_read k body at) next at here value fault c f;
}

-- the count stands in the line that was put in front of them
pub counted_shown : (k : KindTree) (path word body : List ℕ) (at end line : ℕ) (old first mid new : List ℕ) (n : ℕ) → Puts as_lines (one_onto (count_line path word 0)) old first → line ≡ length first → ShowsCounted k path word body at end first mid n
    → new ≡ take (line - 2) mid ++ (decimal n ++ drop (line - 1) mid) → Shows k path body at end old new
counted_shown k path word body at end line old first mid new n p e h is =
    let front = path ++ codes " " ++ word ++ codes " " in
    let later = as_lines (h.later []) in
    let first_is : first ≡ old ++ (front ++ 0x30 ∷ 0x0A ∷ []) = sym (append-nil first) ∙ p.put [] ∙ ap (λ t. old ++ t) (append_assoc front (decimal 0) (0x0A ∷ []) ∙ ap (λ d. front ++ (d ++ 0x0A ∷ [])) (decimal_digit 0 (omega arith))) in
    let mid_is : mid ≡ (old ++ front) ++ (0x30 ∷ 0x0A ∷ later) =
    sym (append-nil mid) ∙ h.put.put [] ∙ ap (λ t. t ++ later) (first_is ∙ sym (append_assoc old front (0x30 ∷ 0x0A ∷ []))) ∙ append_assoc (old ++ front) (0x30 ∷ 0x0A ∷ []) later in
    let long : line ≡ length (old ++ front) + 2 = omega (arith, e, ap length first_is, length-append old (front ++ 0x30 ∷ 0x0A ∷ []), length-append front (0x30 ∷ 0x0A ∷ []), length-append old front) in
    let before : take (line - 2) mid ≡ old ++ front =
    (λ i. take (let d : line - 2 ≡ length (old ++ front) = omega (arith, long) in d i) (mid_is i)) ∙ take_at (old ++ front) (0x30 ∷ 0x0A ∷ later) (length (old ++ front)) refl in
    let following : drop (line - 1) mid ≡ 0x0A ∷ later =
    (λ i. drop (let d : line - 1 ≡ length (old ++ front) + 1 = omega (arith, long) in d i) (mid_is i)) ∙ sym (drop-drop 1 (length (old ++ front)) ((old ++ front) ++ (0x30 ∷ 0x0A ∷ later)))
    ∙ ap (λ t. drop 1 t) (drop_at (old ++ front) (0x30 ∷ 0x0A ∷ later) (length (old ++ front)) refl) in
    let whole : new ≡ old ++ (count_line path word n ++ 0x0A ∷ later) =
    is ∙ (λ i. before i ++ (decimal n ++ following i)) ∙ append_assoc old front (decimal n ++ 0x0A ∷ later) ∙ ap (λ t. old ++ t) (sym (append_assoc front (decimal n) (0x0A ∷ later))) in
    record {
      value = h.value;
      read = h.read;
      put = record {
        put = λ t.
            let tail : later ++ as_lines t ≡ as_lines (h.later t) =
            append_cancel_left first (later ++ as_lines t) (as_lines (h.later t)) (sym (append_assoc first later (as_lines t)) ∙ ap (λ m. m ++ as_lines t) (sym (sym (append-nil mid) ∙ h.put.put [])) ∙ h.put.put t) in
            ap (λ m. m ++ as_lines t) whole
            ∙ append_assoc old (count_line path word n ++ 0x0A ∷ later) (as_lines t)
            ∙ ap (λ m. old ++ m) (append_assoc (count_line path word n) (0x0A ∷ later) (as_lines t) ∙ ap (λ m. count_line path word n ++ 0x0A ∷ m) tail)
            ∙ ap (λ m. old ++ as_lines m) (sym (h.first t));
      };
    }

pub counted_failed : {A : Type 0} (found : Read A) (at : ℕ) (e : DecodeError) → e ≡ Decoding.OutOfMemory → HasFailed found at e
counted_failed found at e is = failed_by_want found at e is

-- the line stands there yet
pub counted_longer : (k : KindTree) (path word body : List ℕ) (at end line : ℕ) (old first mid : List ℕ) (n : ℕ) → Puts as_lines (one_onto (count_line path word 0)) old first → line ≡ length first → ShowsCounted k path word body at end first mid n
    → (2 ≤ line) × (line ≤ length mid)
counted_longer k path word body at end line old first mid n p e h =
    let front = path ++ codes " " ++ word ++ codes " " in
    let first_is : first ≡ old ++ (front ++ 0x30 ∷ 0x0A ∷ []) = sym (append-nil first) ∙ p.put [] ∙ ap (λ t. old ++ t) (append_assoc front (decimal 0) (0x0A ∷ []) ∙ ap (λ d. front ++ (d ++ 0x0A ∷ [])) (decimal_digit 0 (omega arith))) in
    let mid_is : mid ≡ first ++ as_lines (h.later []) = sym (append-nil mid) ∙ h.put.put [] in (
      omega (arith, e, ap length first_is, length-append old (front ++ 0x30 ∷ 0x0A ∷ []), length-append front (0x30 ∷ 0x0A ∷ [])),
      omega (arith, e, ap length mid_is, length-append first (as_lines (h.later []))),
    )

pub ruleset counts = counted_failed
