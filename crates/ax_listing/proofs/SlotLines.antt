-- One slot, at the path of its name.
use Rattle.std.proofs.Common.{◌≡◌, ℕ, List, ◌++◌, take, codes, decimal, subst, sym, ap, ◌∙◌, append_assoc}
use Rattle.ax_format.specs.Paths.{at}
use Rattle.ax_format.specs.Tree.{KindTree, subitem}
use Rattle.ax_fspec.specs.Reading.{kind_read}
use Rattle.ax_text_form.specs.ShowText.{occurrence}
use Rattle.ax_values.specs.SlotReading.{HasFailed, HasSlotFailed}
use Rattle.ax_values.specs.declared.error.DecodeError.{DecodeError}
use Rattle.ax_listing.specs.Shown.{Shows, IsSlotShown}

pub slot_shown : (name : List ℕ) (k : KindTree) (path body : List ℕ) (here end : ℕ) (old new : List ℕ) → Shows k (at path name) body here end old new → IsSlotShown (subitem name k) path body here end old new
slot_shown name k path body here end old new h = record { shows = h }

pub slot_failed : (name : List ℕ) (k : KindTree) (body : List ℕ) (here : ℕ) (e : DecodeError) → HasFailed (kind_read k body here) here e → HasSlotFailed (subitem name k) body here e
slot_failed name k body here e h = record { failed = h }

pub ruleset slot_ways = (slot_shown, slot_failed)

-- a value, at a path that was made
pub under_shown : (name : List ℕ) (k : KindTree) (path inner body : List ℕ) (here end : ℕ) (old new : List ℕ) → inner ≡ at path name → Shows k inner body here end old new
    → Shows k (at path name) body here end old new
under_shown name k path inner body here end old new e h = subst (λ inner. Shows k inner body here end old new) e h

pub ruleset under_ways = under_shown

-- ---- paths

pub named : (path name padded made : List ℕ) (count : ℕ) → take count padded ≡ name → made ≡ path ++ (codes "/" ++ take count padded) → made ≡ at path name
named path name padded made count is e = e ∙ ap (λ name. path ++ (codes "/" ++ name)) is ∙ sym (append_assoc path (codes "/") name)

pub numbered : (path made : List ℕ) (n : ℕ) → made ≡ path ++ (codes "[" ++ (decimal n ++ codes "]")) → made ≡ occurrence path n
numbered path made n e = e ∙ sym (append_assoc (path ++ codes "[") (decimal n) (codes "]") ∙ append_assoc path (codes "[") (decimal n ++ codes "]"))
