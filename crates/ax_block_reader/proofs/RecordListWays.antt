-- Each way through the readers of lists of records.
use Rattle.std.proofs.Common.{◌≡◌, ◌⊎◌, inl, inr, List, [], ◌∷◌, ◌++◌, refl, sym, ◌∙◌, ap, subst, arith, codes, Result}
use Rattle.std.specs.List.{AllByRecursion}
use Rattle.ax_tokens.specs.Stopping.{Texts, Stops, IsNotFirst, Word, Then}
use Rattle.ax_tokens.specs.declared.stopped.Stopped.{Stopped}
use Rattle.ax_tokens.proofs.Stops.{BeginsWith}
use Rattle.ax_format.specs.Bodies.{RecordShape}
use Rattle.ax_format.specs.Plain.{record_tree, records_tree}
use Rattle.ax_format.specs.Specification.{SpecTree, record_slots}
use Rattle.ax_format.specs.Tree.{EntriesTree, no_entries}
use Rattle.ax_format.specs.declared.record.Record.{Record}
use Rattle.ax_text_form.proofs.Unique.{different}
use Rattle.ax_text_form.specs.BlockText.{record_onto}
use Rattle.ax_text_form.specs.ValueText.{opening, closing}
use Rattle.ax_block_reader.specs.Continuing.{Continues, Spelled, IsRead, Gives}
use Rattle.ax_block_reader.specs.Records.{record_texts, SomeRecords, records_texts, braced_records_texts}
use Rattle.ax_block_reader.proofs.Continuations.{heads, tails, no_text, same_read, same_front, Prefixed, prefix_lacks}
use Rattle.ax_block_reader.proofs.Collecting.{prefix_gives, Collects, none_collected, more_collected, all_collected, same_put, left_lacks, one_collected, one_lacks, skip_collected, Closes, closing_read, closing_cut}
use Rattle.ax_block_reader.proofs.EntryWays.{no_entries_fit}
use Rattle.ax_text_form.proofs.Onto.{entries_more}

-- ---- records in front of others

record_more : (spec : SpecTree) (es : EntriesTree) (x y : Texts) → record_onto spec es x ++ y ≡ record_onto spec es (x ++ y)
record_more spec es x y = ap (λ t. codes "record" ∷ opening ∷ t) (entries_more 1 (record_slots spec) es (closing ∷ x) y)

abbrev pub records_before : List Record → List EntriesTree → List EntriesTree
records_before [] rs = rs
records_before (r ∷ made) rs = record_tree r ∷ records_before made rs

before_none : (made : List Record) → records_before made [] ≡ records_tree made
before_none [] = refl
before_none (r ∷ made) = ap (λ rs. record_tree r ∷ rs) (before_none made)

before_more : (made : List Record) (r : Record) (rs : List EntriesTree) → records_before made (record_tree r ∷ rs) ≡ records_before (made ++ r ∷ []) rs
before_more [] r rs = refl
before_more (x ∷ made) r rs = ap (λ z. record_tree x ∷ z) (before_more made r rs)

module _ (spec : SpecTree) where
  abbrev S : EntriesTree → Type 0
  S = RecordShape spec

  abbrev All : List EntriesTree → Type 0
  All = AllByRecursion S

  abbrev some : List EntriesTree → Type 0
  some = SomeRecords spec

  abbrev spell : List EntriesTree → Texts
  spell = records_texts spec

  abbrev cons : EntriesTree → List EntriesTree → List EntriesTree
  cons r rs = r ∷ rs

  abbrev Parts : Texts → Type 0
  Parts = Then (Spelled S (record_texts spec)) (Spelled All spell)

  some_f : (t : Texts) → Parts t → Spelled some spell t
  some_f t (a, b, e, (r, h, q), (rs, g, s)) = (r ∷ rs, (omega arith, (h, g)), e ∙ ap (λ x. x ++ b) q ∙ record_more spec r [] b ∙ ap (record_onto spec r) s)

  some_back : (t : Texts) (rs : List EntriesTree) → some rs → t ≡ spell rs → Parts t
  some_back t [] h e = absurd (omega (arith, h.0))
  some_back t (r ∷ rs) h e = (record_texts spec r, spell rs, e ∙ sym (record_more spec r [] (spell rs)), (r, h.1.0, refl), (rs, h.1.1, refl))

  some_start : (old : Texts) → Continues (Spelled some spell) Parts old old
  some_start old = same_read (Spelled some spell) Parts old old some_f (λ t m. some_back t m.0 m.1 m.2) refl

  start_front : (old : Texts) → (some_start old).front ≡ []
  unfolding some_start
  start_front old = same_front (Spelled some spell) Parts old old some_f (λ t m. some_back t m.0 m.1 m.2) refl

  more_back : (t : Texts) (rs : List EntriesTree) → All rs → t ≡ spell rs → BeginsWith closing t ⊎ Spelled some spell t
  more_back t [] h e = inl ([], e)
  more_back t (r ∷ rs) h e = inr (r ∷ rs, (omega arith, h), e)

  -- records were read, and a record must come
  pub record RecordsRead (made : List Record) (old now : Texts) : Type 0 where
    pub read : Collects some some spell spell (records_before made) old now

  pub no_record_read : (made : List Record) (old now : Texts) → made ≡ [] → now ≡ old → RecordsRead made old now
  no_record_read made old now e same = subst (λ m. RecordsRead m old now) (sym e) (record { read = same_put _ _ _ _ (λ rs. rs) (records_before []) old now (λ rs. refl) (none_collected some spell old now same) })

  pub record_lacks : (made : List Record) (stopped : Stopped) (old now new : Texts) → RecordsRead made old now → Stops stopped (Spelled S (record_texts spec)) now new → Stops stopped (Spelled some spell) old new
  record_lacks made stopped old now new r s =
      left_lacks some some spell spell (records_before made) stopped old now new r.read (one_lacks some All spell spell S (record_texts spec) (closing ∷ []) stopped now now new (some_start now) ([], tt, refl) s)

  -- and one more
  pub record OneMore (made : List Record) (old now : Texts) : Type 0 where
    pub read : Collects some All spell spell (records_before made) old now

  pub one_read : (made more : List Record) (one : Record) (old now new : Texts) → RecordsRead made old now → IsRead S (record_texts spec) (record_tree one) now new → more ≡ made ++ one ∷ [] → OneMore more old new
  one_read made more one old now new r h pushed =
      let step = one_collected some All spell spell S (record_texts spec) cons (record_tree one) [] now now new (some_start now) (start_front now) (λ rs s g. (omega arith, (s, g))) (λ rs s g. sym (record_more spec (record_tree one) [] (spell rs))) h in
      subst (λ m. OneMore m old new) (sym pushed) (record {
        read = same_put _ _ _ _ (λ rs. records_before made (record_tree one ∷ rs)) (records_before (made ++ one ∷ [])) old new (λ rs. before_more made one rs)
            (more_collected some some All spell spell spell (records_before made) (cons (record_tree one)) old now new r.read step);
      })

  pub records_go_on : (made : List Record) (old mid new : Texts) → OneMore made old mid → new ≡ mid → IsNotFirst (λ text. text ≡ closing) mid → RecordsRead made old new
  records_go_on made old mid new r same n = record {
    read = more_collected some All some spell spell spell (records_before made) (λ rs. rs) old mid new r.read (skip_collected All some spell spell closing mid new (λ rs h. h.1) (λ rs h. refl) (λ t m. more_back t m.0 m.1 m.2) n same);
  }

  some_there : (rs : List EntriesTree) → [] ≡ spell rs → ⊥
  some_there [] e = no_text closing [] e
  some_there (r ∷ rs) e = no_text (codes "record") _ e

  only_there : (t : Texts) (rs : List EntriesTree) → closing ∷ t ≡ spell rs → t ≡ []
  only_there t [] e = tails closing closing t [] e
  only_there t (r ∷ rs) e = absurd (different closing (codes "record") refl (heads closing (codes "record") t _ e))

  closes : Closes All spell []
  closes = record { shape = tt; texts = refl; some = λ m. some_there m.0 m.2; only = λ t m. only_there t m.0 m.2 }

  pub records_cut : (made : List Record) (stopped : Stopped) (old mid new : Texts) → OneMore made old mid → mid ≡ [] → new ≡ [] → Stops stopped (Spelled some spell) old new
  records_cut made stopped old mid new one e g = left_lacks some All spell spell (records_before made) stopped old mid new one.read (closing_cut All spell [] stopped mid new closes e g)

  pub records_end : (made : List Record) (old mid new : Texts) → OneMore made old mid → mid ≡ closing ∷ new → IsRead some spell (records_tree made) old new
  records_end made old mid new one e =
      subst (λ rs. IsRead some spell rs old new) (before_none made) (all_collected some All spell spell (records_before made) [] old mid new one.read (closing_read All spell [] mid new closes e))

pub ruleset records_ways = (no_record_read, record_lacks)

-- ---- in braces

abbrev AreRecords : SpecTree → Texts → Type 0
AreRecords spec = Spelled (SomeRecords spec) (records_texts spec)

abbrev AreBraced : SpecTree → Texts → Type 0
AreBraced spec = Spelled (SomeRecords spec) (braced_records_texts spec)

braced_prefixed : (spec : SpecTree) → Prefixed opening (AreRecords spec) (AreBraced spec)
braced_prefixed spec = record { put = λ t m. (m.0, m.1, ap (λ x. opening ∷ x) m.2); taken = λ t m. (records_texts spec m.0, m.2, (m.0, m.1, refl)) }

-- one record without entries
pub records_due : (spec : SpecTree) → SomeRecords spec (no_entries ∷ [])
records_due spec = (omega arith, (record { shape = no_entries_fit 1 (record_slots spec) }, tt))

pub open_way : (spec : SpecTree) (stopped : Stopped) (old new : Texts) → Stops stopped (Word opening) old new → Stops stopped (AreBraced spec) old new
open_way spec stopped old new s = prefix_lacks opening (AreRecords spec) (AreBraced spec) (records_texts spec (no_entries ∷ [])) stopped old new (braced_prefixed spec) (no_entries ∷ [], records_due spec, refl) s

pub braced_gives : (spec : SpecTree) (r : Result (List Record) Stopped) (old mid new : Texts) → old ≡ (opening ∷ []) ++ mid → Gives records_tree (SomeRecords spec) (records_texts spec) r mid new → Gives records_tree (SomeRecords spec) (braced_records_texts spec) r old new
braced_gives spec r old mid new e g = prefix_gives records_tree opening (SomeRecords spec) (braced_records_texts spec) (SomeRecords spec) (records_texts spec) r old mid new (braced_prefixed spec) (λ rs h. h) (λ rs. refl) e g
