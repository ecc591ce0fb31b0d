-- A table's entry of a number, as a table of that entry.
use Rattle.std.proofs.Common.{◌≡◌, ℕ, ◌==◌, Bool, true, false, cond, List, [], ◌∷◌, find, Option, Some, None, refl, sym, ap, subst, ◌∙◌}
use Rattle.ax_held_kinds.specs.Entries.{said_by}
use Rattle.ax_format.specs.declared.content.Content.{Content}
use Rattle.ax_format.specs.declared.content.Content.TheVariants.{Quantity, Table}
use Rattle.ax_format.specs.declared.content.Scale.{Scale}
use Rattle.ax_format.specs.declared.content.TableText.{TableText}
use Rattle.ax_text_form.specs.Listable.{ContentListable}
use Rattle.ax_text_form.specs.Remarks.{entry_remark, remark}

abbrev IsNumber : ℕ → Option TableText → Type 0
IsNumber n None = Unit {0}
IsNumber n (Some entry) = (entry.number == n) ≡ true

found_number : (n : ℕ) (entries : List TableText) → IsNumber n (find (λ entry. entry.number == n) entries)
found_number n [] = tt
found_number n (entry ∷ entries) = by_test (entry.number == n) refl (found_number n entries)
  where
    by_test : (b : Bool) → (entry.number == n) ≡ b → IsNumber n (find (λ entry. entry.number == n) entries) → IsNumber n (cond b (Some entry) (find (λ entry. entry.number == n) entries))
    by_test true e h = e
    by_test false e h = h

remark_said : (w n : ℕ) (found : Option TableText) → IsNumber n found → remark w (said_by found) n ≡ entry_remark found
remark_said w n None h = refl
remark_said w n (Some entry) h = ap (λ b. entry_remark (cond b (Some entry) None)) h

pub table_remark : (n : ℕ) (entries : List TableText) (content : Content) → content ≡ said_by (find (λ entry. entry.number == n) entries) → (w : ℕ) → remark w content n ≡ remark w (Table entries) n
table_remark n entries content is w = ap (λ c. remark w c n) is ∙ remark_said w n (find (λ entry. entry.number == n) entries) (found_number n entries)

listable_said : (w : ℕ) (found : Option TableText) → ContentListable w (said_by found)
listable_said w None = tt
listable_said w (Some entry) = tt

pub table_listable : (n : ℕ) (entries : List TableText) (content : Content) → content ≡ said_by (find (λ entry. entry.number == n) entries) → (w : ℕ) → ContentListable w (Table entries) → ContentListable w content
table_listable n entries content is w h = subst (ContentListable w) (sym is) (listable_said w (find (λ entry. entry.number == n) entries))

-- a quantity's content
pub scale_remark : (n : ℕ) (scale : Scale) (content : Content) → content ≡ Quantity scale → (w : ℕ) → remark w content n ≡ remark w (Quantity scale) n
scale_remark n scale content is w = ap (λ c. remark w c n) is

pub scale_listable : (scale : Scale) (content : Content) → content ≡ Quantity scale → (w : ℕ) → ContentListable w (Quantity scale) → ContentListable w content
scale_listable scale content is w h = subst (ContentListable w) (sym is) h

pub ruleset contents = (table_remark, table_listable, scale_remark, scale_listable)
