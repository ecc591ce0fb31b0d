-- The lines of the records of a block, gathered one after the other.
use Rattle.std.proofs.Common.{◌≡◌, ℕ, ◌+◌, ◌≤◌, Bool, true, false, List, [], ◌∷◌, ◌++◌, length, Some, None, refl, sym, ◌∙◌, ap, subst, append-nil, append_assoc, arith}
use Rattle.std.specs.List.{AllZip}
use Rattle.std.specs.Prelude.{option_and_then}
use Rattle.ax_bits.specs.Bits.{bits}
use Rattle.ax_expand.specs.Expansion.{ExpansionTree}
use Rattle.ax_expand_work.specs.ExpandCommand.{content_at, re_lines_of, unread_lines_of, re_lines, unread_lines}
use Rattle.ax_expand_work.specs.Gathering.{GathersContent, GathersBlock}
use Rattle.ax_expand_work.specs.declared.contents.ContentLines.{ContentLines}
use Rattle.ax_format.proofs.Spelled.{read_spelled}
use Rattle.ax_format.specs.At.{slot_value}
use Rattle.ax_format.specs.Bodies.{SpellsBody}
use Rattle.ax_format.specs.Flaws.{NoFlaw}
use Rattle.ax_format.specs.Reader.{read, got}
use Rattle.ax_format.specs.Specification.{SpecTree, record_kind}
use Rattle.ax_format.specs.Spelling.{Spells}
use Rattle.ax_format.specs.Tree.{element, group, KindTree, fixed, extended, counted, by_fx, explicit, compound, ValueTree, number, member_values, part_values, occurrences, content_octets, marked, EntriesTree}
use Rattle.ax_codec.proofs.BareKinds.{bare_read, stands_record}
use Rattle.ax_codec.specs.Standing.{StandsFor}
use Rattle.ax_codec.specs.Table.{record_kind_at}
use Rattle.ax_codec.specs.declared.codec.Codec.{Codec}
use Rattle.ax_walk.proofs.Spelled.{value_spelled}
use Rattle.ax_walk.specs.Shown.{content_in}
use Rattle.ax_walk.specs.Values.{ItemInBounds, IsItemOf, value_in, value_read, entries_in}
use Rattle.ax_walk.specs.Views.{CountsRecords, IsRecordOf, SpellEach}

-- ---- a content has at most 254 octets

few_in : (k : KindTree) (v : ValueTree) (b content : List ℕ) → Spells k v b → content_in v ≡ Some content → length content ≤ 254
few_in k (number n) b content h e = absurd cc
few_in k (member_values vs) b content h e = absurd cc
few_in k (part_values ls) b content h e = absurd cc
few_in k (occurrences vs) b content h e = absurd cc
few_in k (marked es) b content h e = absurd cc
few_in (fixed (element w c)) (content_octets xs) b content h e = absurd h
few_in (fixed (group ms)) (content_octets xs) b content h e = absurd h
few_in (extended last ps) (content_octets xs) b content h e = absurd h
few_in (counted size k) (content_octets xs) b content h e = absurd h
few_in (by_fx f) (content_octets xs) b content h e = absurd h
few_in explicit (content_octets xs) b content h e = let same : xs ≡ content = cc in omega (arith, ap length same, h.0)
few_in (compound ss) (content_octets xs) b content h e = absurd h

pub content_few : (fx : Bool) (k : KindTree) (body content : List ℕ) → fx ≡ false → ItemInBounds fx k → IsItemOf fx k body → content_in (value_in k body) ≡ Some content → length content ≤ 254
content_few true k body content e bounds one is = absurd cc
content_few false k body content e bounds one is = few_in k (value_in k body) (bits body) content (value_spelled k body bounds one) is

-- ---- a record

module _ (x : ExpansionTree) (block n frn : ℕ) (es : EntriesTree) where
  pub no_item : (lines : ContentLines) → slot_value frn es ≡ None → GathersContent x block n (content_at frn es) lines lines
  no_item lines e =
      let none : content_at frn es ≡ None = ap (option_and_then content_in) e in
      subst (λ content. GathersContent x block n content lines lines) (sym none) (record { spelled = sym (append-nil lines.spelled.octets); faulty = sym (append-nil lines.faulty.octets) })

  pub no_content : (v : ValueTree) (lines : ContentLines) → slot_value frn es ≡ Some v → content_in v ≡ None → GathersContent x block n (content_at frn es) lines lines
  no_content v lines e f =
      let none : content_at frn es ≡ None = ap (option_and_then content_in) e ∙ f in
      subst (λ content. GathersContent x block n content lines lines) (sym none) (record { spelled = sym (append-nil lines.spelled.octets); faulty = sym (append-nil lines.faulty.octets) })

  pub has_content : (v : ValueTree) (content : List ℕ) (old new : ContentLines) → slot_value frn es ≡ Some v → content_in v ≡ Some content → GathersContent x block n (Some content) old new → GathersContent x block n (content_at frn es) old new
  has_content v content old new e f h = subst (λ content. GathersContent x block n content old new) (sym (ap (option_and_then content_in) e ∙ f)) h

-- ---- the records of a view

-- the lines of records so far, before those of the rest of the records that the body spells
pub record GoesOn (x : ExpansionTree) (frn block : ℕ) (codec : Codec) (spec : SpecTree) (n : ℕ) (records : List EntriesTree) (old now : ContentLines) (left : List (Codec × List ℕ)) : Type 0 where
  pub rest : List EntriesTree
  pub zips : AllZip (IsRecordOf codec spec) rest left
  pub count : n + length rest ≡ length records
  pub spelled : now.spelled.octets ++ re_lines frn x block n rest ≡ old.spelled.octets ++ re_lines frn x block 0 records
  pub faulty : now.faulty.octets ++ unread_lines frn x block n rest ≡ old.faulty.octets ++ unread_lines frn x block 0 records

pub record Gathering (x : ExpansionTree) (frn block : ℕ) (codec : Codec) (body : List ℕ) (n : ℕ) (old now : ContentLines) (left : List (Codec × List ℕ)) : Type 0 where
  pub goes : (spec : SpecTree) (records : List EntriesTree) → NoFlaw spec → StandsFor codec spec → SpellsBody spec records (bits body) → GoesOn x frn block codec spec n records old now left

-- what octets that spell a record show is that record
shown_is : (codec : Codec) (spec : SpecTree) (entries : EntriesTree) (s : Codec × List ℕ) → StandsFor codec spec → IsRecordOf codec spec entries s → entries_in (value_in (record_kind_at s.0.nodes s.0.slots) s.1) ≡ entries
unfolding value_in
shown_is codec spec entries s stands h =
    let own : StandsFor s.0 spec = subst (λ c. StandsFor c spec) (sym h.0) stands in
    let same : read (record_kind_at s.0.nodes s.0.slots) (bits s.1) ≡ read (record_kind spec) (bits s.1) = ap (λ k. read k (bits s.1)) (stands_record s.0 spec own) ∙ bare_read (record_kind spec) (bits s.1) in
    let whole : read (record_kind spec) (bits s.1) ≡ got (marked entries) (length (bits s.1)) [] = ap (read (record_kind spec)) (sym (append-nil (bits s.1))) ∙ read_spelled (record_kind spec) (marked entries) (bits s.1) [] h.1.spells in
    ap (λ r. entries_in (value_read r)) (same ∙ whole)

module _ (x : ExpansionTree) (frn block : ℕ) (codec : Codec) (body : List ℕ) where
  pub gathering_begins : (lines : ContentLines) (left : List (Codec × List ℕ)) → SpellEach codec body left → Gathering x frn block codec body 0 lines lines left
  gathering_begins lines left each = record {
    goes = λ spec records clean stands spells. record { rest = records; zips = each.spells spec records clean stands spells; count = omega arith; spelled = refl; faulty = refl };
  }

  one_more : (spec : SpecTree) (n : ℕ) (records : List EntriesTree) (old now new : ContentLines) (s : Codec × List ℕ) (left : List (Codec × List ℕ)) (rest : List EntriesTree) → StandsFor codec spec → AllZip (IsRecordOf codec spec) rest (s ∷ left) → n + length rest ≡ length records
      → now.spelled.octets ++ re_lines frn x block n rest ≡ old.spelled.octets ++ re_lines frn x block 0 records → now.faulty.octets ++ unread_lines frn x block n rest ≡ old.faulty.octets ++ unread_lines frn x block 0 records
      → GathersContent x block n (content_at frn (entries_in (value_in (record_kind_at s.0.nodes s.0.slots) s.1))) now new → GoesOn x frn block codec spec (n + 1) records old new left
  one_more spec n records old now new s left [] stands zips count spelled faulty g = absurd zips
  one_more spec n records old now new s left (r ∷ rest) stands zips count spelled faulty g =
      let is = ap (content_at frn) (shown_is codec spec r s stands zips.0) in record {
        rest = rest;
        zips = zips.1;
        count = omega (arith, count);
        spelled = ap (λ t. t ++ re_lines frn x block (n + 1) rest) (g.spelled ∙ ap (λ c. now.spelled.octets ++ re_lines_of x block n c) is) ∙ append_assoc now.spelled.octets (re_lines_of x block n (content_at frn r)) (re_lines frn x block (n + 1) rest) ∙ spelled;
        faulty = ap (λ t. t ++ unread_lines frn x block (n + 1) rest) (g.faulty ∙ ap (λ c. now.faulty.octets ++ unread_lines_of x block n c) is) ∙ append_assoc now.faulty.octets (unread_lines_of x block n (content_at frn r)) (unread_lines frn x block (n + 1) rest) ∙ faulty;
      }

  pub gathering_goes_on : (n : ℕ) (old now new : ContentLines) (s : Codec × List ℕ) (all left : List (Codec × List ℕ)) → all ≡ s ∷ left → Gathering x frn block codec body n old now all → GathersContent x block n (content_at frn (entries_in (value_in (record_kind_at s.0.nodes s.0.slots) s.1))) now new
      → Gathering x frn block codec body (n + 1) old new left
  gathering_goes_on n old now new s all left split h g = record {
    goes = λ spec records clean stands spells. let so = h.goes spec records clean stands spells in one_more spec n records old now new s left so.rest stands (subst (AllZip (IsRecordOf codec spec) so.rest) split so.zips) so.count so.spelled so.faulty g;
  }

  no_rest : (rest : List EntriesTree) → length rest ≡ 0 → rest ≡ []
  no_rest [] e = refl
  no_rest (r ∷ rest) e = absurd (omega (arith, e))

  none_zips : (spec : SpecTree) (rest : List EntriesTree) → AllZip (IsRecordOf codec spec) rest [] → length rest ≡ 0
  none_zips spec [] h = refl
  none_zips spec (r ∷ rest) h = absurd h

  all_gathered : (n : ℕ) (old now : ContentLines) (left : List (Codec × List ℕ)) → Gathering x frn block codec body n old now left → ((spec : SpecTree) (records : List EntriesTree) → NoFlaw spec → StandsFor codec spec → SpellsBody spec records (bits body) → (so : GoesOn x frn block codec spec n records old now left) → length so.rest ≡ 0)
      → GathersBlock x frn block codec body old now
  all_gathered n old now left h none = record {
    spelled = λ spec records clean stands spells. let so = h.goes spec records clean stands spells in sym (append-nil now.spelled.octets) ∙ ap (λ rs. now.spelled.octets ++ re_lines frn x block n rs) (sym (no_rest so.rest (none spec records clean stands spells so))) ∙ so.spelled;
    faulty = λ spec records clean stands spells. let so = h.goes spec records clean stands spells in sym (append-nil now.faulty.octets) ∙ ap (λ rs. now.faulty.octets ++ unread_lines frn x block n rs) (sym (no_rest so.rest (none spec records clean stands spells so))) ∙ so.faulty;
  }

  -- no record is left
  pub gathered_all : (n : ℕ) (old now : ContentLines) (left : List (Codec × List ℕ)) → left ≡ [] → Gathering x frn block codec body n old now left → GathersBlock x frn block codec body old now
  gathered_all n old now left e h = all_gathered n old now left h (λ spec records clean stands spells so. none_zips spec so.rest (subst (AllZip (IsRecordOf codec spec) so.rest) e so.zips))

  -- as many were gathered as there are
  pub gathered_count : (n count : ℕ) (old now : ContentLines) (left : List (Codec × List ℕ)) → CountsRecords codec body count → count ≤ n → Gathering x frn block codec body n old now left → GathersBlock x frn block codec body old now
  gathered_count n count old now left counts past h = all_gathered n old now left h (λ spec records clean stands spells so. omega (arith, so.count, past, counts.counts spec records clean stands spells))
