-- Entries under their numbers, one after the other.
use Rattle.std.proofs.Common.{◌≡◌, ℕ, ◌+◌, ◌<◌, ◌==◌, Bool, true, false, cond, List, [], ◌∷◌, ◌++◌, length, take, get_or, find, Option, Some, None, is_some, refl, sym, ◌∙◌, ap}
use Rattle.std.proofs.lemmas.List.{take_more}
use Rattle.std.proofs.lemmas.List.Folds.{find-append}
use Rattle.std.specs.Option.{option_map, option_or}
use Rattle.ax_format.specs.declared.content.Content.{Content}
use Rattle.ax_format.specs.declared.content.TableText.{TableText}
use Rattle.ax_held_kinds.specs.Entries.{alone}

-- the first entry of a number, of those so far or else this one
first_of : (found : Option TableText) (b : Bool) (e : TableText) → cond (is_some (option_map alone found)) (option_map alone found) (cond b (Some (alone e)) None) ≡ option_map alone (option_or found (cond b (Some e) None))
first_of None true e = refl
first_of None false e = refl
first_of (Some f) b e = refl

pub entry_kept : (entries : List TableText) (i : ℕ) (e : TableText) (n : ℕ) (now later : Option Content) → i < length entries → e ≡ get_or entries i e → now ≡ option_map alone (find (λ entry. entry.number == n) (take i entries))
    → later ≡ cond (is_some now) now (cond (e.number == n) (Some (alone e)) None) → later ≡ option_map alone (find (λ entry. entry.number == n) (take (i + 1) entries))
entry_kept entries i e n now later lt is so step =
    let p : TableText → Bool = λ entry. entry.number == n in
    let more : take (i + 1) entries ≡ take i entries ++ e ∷ [] = take_more entries i e lt ∙ ap (λ x. take i entries ++ x ∷ []) (sym is) in
    step ∙ ap (λ o. cond (is_some o) o (cond (e.number == n) (Some (alone e)) None)) so ∙ first_of (find p (take i entries)) (e.number == n) e
    ∙ ap (option_map alone) (sym (find-append p (take i entries) (e ∷ [])) ∙ ap (find p) (sym more))
