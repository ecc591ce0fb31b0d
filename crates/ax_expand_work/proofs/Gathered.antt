-- The lines of one content, and of a record.
use Rattle.std.proofs.Common.{◌≡◌, ℕ, ◌<◌, ◌≤◌, List, [], ◌∷◌, ◌++◌, length, Some, None, refl, sym, ◌∙◌, ap, subst, append-nil, arith}
use Rattle.ax_bits.proofs.Words.{length-bits}
use Rattle.ax_bits.specs.Bits.{bits}
use Rattle.ax_expand.proofs.Canonical.{content_shape, content_shortest}
use Rattle.ax_expand.proofs.Contents.{whole_read, FaultRead, read_inside, read_trailing, fault_read}
use Rattle.ax_expand.specs.Content.{SpellsContent, FailsContent}
use Rattle.ax_expand.specs.Expansion.{ExpansionTree}
use Rattle.ax_expand.specs.Lengths.{content_length}
use Rattle.ax_expand.specs.Reading.{content_read}
use Rattle.ax_expand.specs.declared.fault.ContentCause.{ContentCause}
use Rattle.ax_expand.specs.declared.fault.ContentCause.TheVariants.{TrailingOctets}
use Rattle.ax_expand.specs.declared.form.Form.{Form}
use Rattle.ax_expand_work.specs.ExpandCommand.{spelled_line, faulty_line}
use Rattle.ax_expand_work.specs.Gathering.{GathersContent}
use Rattle.ax_expand_work.specs.Judging.{spelled, faulty, judged_read, judge}
use Rattle.ax_expand_work.specs.Lines.{re_line, unread_line}
use Rattle.ax_expand_work.specs.declared.contents.ContentLines.{ContentLines}
use Rattle.ax_format.specs.Reader.{got}
use Rattle.ax_format.specs.Tree.{SlotsTree, ValueTree}

-- ---- what a content is

judge_spelled : (x : ExpansionTree) (content : List ℕ) (v : ValueTree) → SpellsContent x.form x.slots v (bits content) → judge x content ≡ spelled v
judge_spelled x content v h = ap judged_read (whole_read x.form x.slots v (bits content) h)

trailing_read : (v : ValueTree) (p : ℕ) (y : List ℕ) → 0 < length y → judged_read (got v p y) ≡ faulty p TrailingOctets
trailing_read v p [] some = absurd (omega arith)
trailing_read v p (b ∷ y) some = refl

fault_judged : (form : Form) (ss : SlotsTree) (b : List ℕ) (p : ℕ) (c : ContentCause) → FaultRead form ss b p c → judged_read (content_read form ss b) ≡ faulty p c
fault_judged form ss b p c (read_inside cause e f) = ap judged_read f ∙ ap (faulty p) (sym e)
fault_judged form ss b p c (read_trailing v y some e f) = ap judged_read f ∙ trailing_read v p y some ∙ ap (faulty p) (sym e)

judge_faulty : (x : ExpansionTree) (content : List ℕ) (p : ℕ) (c : ContentCause) → FailsContent x.form x.slots (bits content) p c → judge x content ≡ faulty p c
judge_faulty x content p c h = fault_judged x.form x.slots (bits content) p c (fault_read x.form x.slots (bits content) p c h)

-- ---- its line

-- the canonical content is no longer than what spells the value
pub short_canon : (form : Form) (ss : SlotsTree) (v : ValueTree) (content : List ℕ) → length content ≤ 254 → SpellsContent form ss v (bits content) → content_length form ss v ≤ 254
short_canon form ss v content few h =
    let least = content_shortest form ss v (bits content) h in
    let all = length-bits content in
    omega (arith, few, least, all)

pub line_spelled : (x : ExpansionTree) (block n : ℕ) (content : List ℕ) (v : ValueTree) (old new : ContentLines) → SpellsContent x.form x.slots v (bits content) → new.spelled.octets ≡ old.spelled.octets ++ re_line x block n v → new.faulty.octets ≡ old.faulty.octets
    → GathersContent x block n (Some content) old new
line_spelled x block n content v old new h line same = record {
  spelled = line ∙ ap (λ j. old.spelled.octets ++ spelled_line x block n j) (sym (judge_spelled x content v h));
  faulty = same ∙ sym (append-nil old.faulty.octets) ∙ ap (λ j. old.faulty.octets ++ faulty_line block n j) (sym (judge_spelled x content v h));
}

pub line_faulty : (x : ExpansionTree) (block n : ℕ) (content : List ℕ) (p : ℕ) (c : ContentCause) (old new : ContentLines) → FailsContent x.form x.slots (bits content) p c → new.faulty.octets ≡ old.faulty.octets ++ unread_line block n p c → new.spelled.octets ≡ old.spelled.octets
    → GathersContent x block n (Some content) old new
line_faulty x block n content p c old new h line same = record {
  spelled = same ∙ sym (append-nil old.spelled.octets) ∙ ap (λ j. old.spelled.octets ++ spelled_line x block n j) (sym (judge_faulty x content p c h));
  faulty = line ∙ ap (λ j. old.faulty.octets ++ faulty_line block n j) (sym (judge_faulty x content p c h));
}

pub no_line : (x : ExpansionTree) (block n : ℕ) (lines : ContentLines) → GathersContent x block n None lines lines
no_line x block n lines = record { spelled = sym (append-nil lines.spelled.octets); faulty = sym (append-nil lines.faulty.octets) }

pub fails_as : {form : Form} {ss : SlotsTree} {b : List ℕ} {p q : ℕ} {c d : ContentCause} → p ≡ q → c ≡ d → FailsContent form ss b q d → FailsContent form ss b p c
fails_as {form = form} {ss = ss} {b = b} {p = p} {d = d} e f h = subst (λ x. FailsContent form ss b p x) (sym f) (subst (λ x. FailsContent form ss b x d) (sym e) h)

pub ruleset contents = (content_shape, short_canon, line_spelled, line_faulty)
