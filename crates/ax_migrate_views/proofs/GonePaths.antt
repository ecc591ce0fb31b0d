-- Keys that have no new place are all that a record can lose.
use Rattle.std.proofs.Common.{◌≡◌, ℕ, suc, ◌+◌, ◌<◌, ◌≤◌, ◌&&◌, cond, arith, Bool, true, false, is_none, is_some, List, [], ◌∷◌, ◌++◌, length, drop, get_or, Option, Some, None, refl, sym, ◌∙◌, ap, append_assoc, append-nil}
use Rattle.std.proofs.lemmas.List.{drop_all}
use Rattle.ax_relation.specs.declared.relation.RelationPath.{RelationPath}
use Rattle.ax_migration.specs.Finding.{path_loss, record_losses, found_losses}
use Rattle.ax_relation.specs.Standing.{is_there}
use Rattle.ax_moves.specs.Gone.{gone, gone_of}
use Rattle.ax_format.proofs.Namings.{from_place}
use Rattle.ax_format.specs.Tree.{EntriesTree}
use Rattle.ax_format.specs.declared.place.Place.{Place}

-- ---- the list of them

pub none_gone : (made : List RelationPath) (p : RelationPath) → is_some p.new ≡ true → made ≡ made ++ gone_of p
none_gone made p e = by p.new e
  where
    by : (o : Option Place) → is_some o ≡ true → made ≡ made ++ cond (is_none o) (p ∷ []) []
    by (Some q) f = sym (append-nil made)
    by None f = cc

same_path : (p : RelationPath) (o : Option Place) → p.new ≡ o → is_some o ≡ false → record { text = p.text; part = p.part; old = p.old; new = None } ≡ p
same_path p None e f = ap (λ o. record { text = p.text; part = p.part; old = p.old; new = o }) (sym e)
same_path p (Some q) e f = cc

pub one_gone : (made new : List RelationPath) (p q : RelationPath) → is_some p.new ≡ false → q ≡ record { text = p.text; part = p.part; old = p.old; new = None } → new ≡ made ++ q ∷ [] → new ≡ made ++ gone_of p
one_gone made new p q e is put = put ∙ ap (λ x. made ++ x ∷ []) (is ∙ same_path p p.new refl e) ∙ by p.new e
  where
    by : (o : Option Place) → is_some o ≡ false → made ++ p ∷ [] ≡ made ++ cond (is_none o) (p ∷ []) []
    by None f = refl
    by (Some q) f = cc

pub ruleset ones = (none_gone, one_gone)

pub gone_next : (paths : List RelationPath) (i : ℕ) (p : RelationPath) (made new : List RelationPath) → i < length paths → p ≡ get_or paths i p → made ++ gone (drop i paths) ≡ gone paths → new ≡ made ++ gone_of p → new ++ gone (drop (i + 1) paths) ≡ gone paths
gone_next paths i p made new within is h put =
    ap (λ x. x ++ gone (drop (i + 1) paths)) put ∙ append_assoc made (gone_of p) (gone (drop (i + 1) paths)) ∙ ap (λ x. made ++ gone x) (sym (from_place paths i p within is)) ∙ h

pub gone_last : (paths : List RelationPath) (i : ℕ) (made : List RelationPath) → length paths ≤ i → made ++ gone (drop i paths) ≡ gone paths → made ≡ gone paths
gone_last paths i made past h = sym (append-nil made) ∙ ap (λ x. made ++ gone x) (sym (drop_all i paths past)) ∙ h

pub ruleset lists = (gone_next, gone_last)

-- ---- losses

none_lost : (n : ℕ) (es : EntriesTree) (p : RelationPath) → is_none p.new ≡ false → path_loss n es p ≡ []
none_lost n es p e = ap (λ b. cond (b && is_there p.old p.part es) (record { record_at = n; path = p.text } ∷ []) []) e

pub losses_gone : (n : ℕ) (es : EntriesTree) (paths : List RelationPath) → record_losses n es (gone paths) ≡ record_losses n es paths
losses_gone n es [] = refl
losses_gone n es (p ∷ ps) = by (is_none p.new) refl (losses_gone n es ps)
  where
    by : (b : Bool) → is_none p.new ≡ b → record_losses n es (gone ps) ≡ record_losses n es ps → record_losses n es (cond b (p ∷ []) [] ++ gone ps) ≡ path_loss n es p ++ record_losses n es ps
    by true e later = ap (λ x. path_loss n es p ++ x) later
    by false e later = later ∙ ap (λ x. x ++ record_losses n es ps) (sym (none_lost n es p e))

pub found_gone : (n : ℕ) (paths : List RelationPath) (rs : List EntriesTree) → found_losses (gone paths) n rs ≡ found_losses paths n rs
found_gone n paths [] = refl
found_gone n paths (r ∷ rs) = λ i. losses_gone n r paths i ++ found_gone (n + 1) paths rs i

-- one record more
pub found_more : (paths : List RelationPath) (n : ℕ) (rs : List EntriesTree) (r : EntriesTree) → found_losses paths n (rs ++ r ∷ []) ≡ found_losses paths n rs ++ record_losses (n + length rs) r paths
found_more paths n [] r = append-nil (record_losses n r paths) ∙ ap (λ k. record_losses k r paths) (let e : n ≡ n + 0 = omega arith in e)
found_more paths n (q ∷ rs) r =
    ap (λ x. record_losses n q paths ++ x) (found_more paths (n + 1) rs r ∙ ap (λ k. found_losses paths (n + 1) rs ++ record_losses k r paths) (let e : n + 1 + length rs ≡ n + suc (length rs) = omega arith in e))
    ∙ sym (append_assoc (record_losses n q paths) (found_losses paths (n + 1) rs) (record_losses (n + suc (length rs)) r paths))
