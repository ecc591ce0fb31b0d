-- Tokens are a block's text under a catalogue, or one of them is the first bad one.
use Rattle.std.proofs.Common.{◌≡◌, ℕ, zero, suc, ◌+◌, ◌-◌, ◌/◌, ◌%◌, ◌<◌, ◌≤◌, ◌==◌, ◌⊎◌, inl, inr, Bool, true, false, cond, List, [], ◌∷◌, ◌++◌, length, codes, Option, Some, None, refl, sym, ◌∙◌, ap, subst, arith, append-nil}
use Rattle.std.specs.List.{AllByRecursion}
use Rattle.std.proofs.lemmas.Bool.{cases_lt}
use Rattle.ax_bits.specs.Bits.{AreOctets}
use Rattle.ax_blocks.proofs.BlockSteps.{known_category}
use Rattle.ax_block_reader.specs.BlockTexts.{block_texts, IsBlockText, Spells}
use Rattle.ax_block_reader.specs.Continuing.{Spelled}
use Rattle.ax_format.specs.Blocks.{BlockTree, read_block, opaque_block}
use Rattle.ax_format.specs.Bodies.{RecordShape}
use Rattle.ax_format.specs.Flaws.{NoFlaw}
use Rattle.ax_format.specs.Paths.{three_digits}
use Rattle.ax_format.specs.Shape.{EntriesShape}
use Rattle.ax_format.specs.Specification.{SpecTree, record_slots, spec_of}
use Rattle.ax_format.specs.Streams.{FitsOver}
use Rattle.ax_format.specs.Tree.{EntriesTree}
use Rattle.ax_text_form.proofs.Onto.{entries_more}
use Rattle.ax_text_form.proofs.Readables.{record_readable, record_named}
use Rattle.ax_text_form.proofs.Unique.{heads, tails, different, same_hex, same_entries}
use Rattle.ax_text_form.specs.BlockText.{record_onto, records_onto}
use Rattle.ax_text_form.specs.CatalogueBlocks.{IsBlockOf}
use Rattle.ax_text_form.specs.Names.{SlotsNamed, IsNamed}
use Rattle.ax_text_form.specs.Readable.{SlotsReadable}
use Rattle.ax_text_form.specs.Tokens.{TextOver}
use Rattle.ax_text_form.specs.ValueText.{opening, closing, hex_text, entries_onto}
use Rattle.ax_tokens.proofs.Bad.{stops_bad, trails_bad}
use Rattle.ax_tokens.proofs.Stops.{PrefixFree, NeverBegins, end_stops}
use Rattle.ax_tokens.specs.FirstBad.{FirstBad}
use Rattle.ax_tokens.specs.PlainToken.{PlainToken}
use Rattle.ax_tokens.specs.Stopping.{Texts, One, Then, joined, Closed, texts_of}
use Rattle.ax_laws.proofs.HexRead.{IsHex, hex_or_not}
use Rattle.ax_laws.proofs.KindsRead.{AreEntries, no_entry, entries_reading}
use Rattle.ax_laws.proofs.PathsRead.{category_or_not}
use Rattle.ax_laws.proofs.Readers.{IsOrNot, Reading, found, stops, one_reading, one_free, then_reading, same_reading, after_reading, prefixed_reading, IsChoice, choice_reading, first_refused, closed_reading, onto_free, onto_never}

-- ---- records

shaped : (spec : SpecTree) (es : EntriesTree) → EntriesShape 1 (record_slots spec) es → RecordShape spec es
shaped spec es h = record { shape = h }

record_more : (spec : SpecTree) (es : EntriesTree) (x y : Texts) → record_onto spec es x ++ y ≡ record_onto spec es (x ++ y)
record_more spec es x y = ap (λ t. codes "record" ∷ opening ∷ t) (entries_more 1 (record_slots spec) es (closing ∷ x) y)

module _ (spec : SpecTree) (readable : SlotsReadable (record_slots spec)) (named : SlotsNamed (record_slots spec)) where
  abbrev AreRecord : Texts → Type 0
  AreRecord = Spelled (RecordShape spec) (λ es. record_onto spec es [])

  abbrev AreBraced : Texts → Type 0
  AreBraced = Spelled (RecordShape spec) (λ es. opening ∷ entries_onto 1 (record_slots spec) es (closing ∷ []))

  same_record : (es fs : EntriesTree) (x y : Texts) → RecordShape spec es → RecordShape spec fs → record_onto spec es x ≡ record_onto spec fs y → (es ≡ fs) × (x ≡ y)
  same_record es fs x y a b e = same_entries 1 (record_slots spec) es fs x y readable named a.shape b.shape (tails _ _ _ _ (tails _ _ _ _ e))

  record_free : PrefixFree AreRecord
  record_free = onto_free (RecordShape spec) (record_onto spec) (record_more spec) same_record

  record_never : NeverBegins AreRecord closing
  record_never = onto_never (RecordShape spec) (record_onto spec) closing (record_more spec) (λ es x y h e. different (codes "record") closing refl (heads _ _ _ _ e))

  record_reading : (old : Texts) → Reading AreRecord old
  record_reading old =
      let d = no_entry 1 (record_slots spec) in
      prefixed_reading AreBraced AreRecord (codes "record") (opening ∷ closing ∷ []) old (d.0, shaped spec d.0 d.1, ap (λ x. opening ∷ x) d.2) (λ t m. (m.0, m.1, ap (λ x. codes "record" ∷ x) m.2)) (λ t m. (opening ∷ entries_onto 1 (record_slots spec) m.0 (closing ∷ []), m.2, (m.0, m.1, refl))) (λ rest le.
      prefixed_reading (AreEntries 1 (record_slots spec)) AreBraced opening (closing ∷ []) rest d (λ t m. (m.0, shaped spec m.0 m.1, ap (λ x. opening ∷ x) m.2)) (λ t m. (entries_onto 1 (record_slots spec) m.0 (closing ∷ []), m.2, (m.0, m.1.shape, refl))) (λ more less.
      entries_reading 1 (record_slots spec) readable named more))

  -- one or more, up to the brace that closes them
  gather : (members : List Texts) → AllByRecursion AreRecord members → (rs : List EntriesTree) × AllByRecursion (RecordShape spec) rs × (joined members ++ closing ∷ [] ≡ records_onto spec rs (closing ∷ []))
  gather [] all = ([], tt, refl)
  gather (m ∷ members) all =
      let g = gather members all.1 in
      let r = all.0.0 in
      (r ∷ g.0, (all.0.1, g.1), ap (λ x. (x ++ joined members) ++ closing ∷ []) all.0.2 ∙ ap (λ x. x ++ closing ∷ []) (record_more spec r [] (joined members)) ∙ record_more spec r (joined members) (closing ∷ []) ∙ ap (record_onto spec r) g.2)

  scatter : (rs : List EntriesTree) → AllByRecursion (RecordShape spec) rs → (members : List Texts) × AllByRecursion AreRecord members × (joined members ++ closing ∷ [] ≡ records_onto spec rs (closing ∷ []))
  scatter [] h = ([], tt, refl)
  scatter (r ∷ rs) h =
      let s = scatter rs h.1 in
      (record_onto spec r [] ∷ s.0, ((r, h.0, refl), s.1), ap (λ x. x ++ closing ∷ []) (record_more spec r [] (joined s.0)) ∙ record_more spec r (joined s.0) (closing ∷ []) ∙ ap (record_onto spec r) s.2)

  abbrev AreRecords : Texts → Type 0
  AreRecords = Spelled (λ rs. (0 < length rs) × AllByRecursion (RecordShape spec) rs) (λ rs. records_onto spec rs (closing ∷ []))

  abbrev AreBracedRecords : Texts → Type 0
  AreBracedRecords = Spelled (λ rs. (0 < length rs) × AllByRecursion (RecordShape spec) rs) (λ rs. opening ∷ records_onto spec rs (closing ∷ []))

  some_f : (t : Texts) → Then AreRecord (Closed AreRecord closing) t → AreRecords t
  some_f t (a, b, e, (r, h, p), (members, all, q)) =
      let g = gather members all in
      (r ∷ g.0, (omega arith, (h, g.1)), e ∙ ap (λ x. x ++ b) p ∙ record_more spec r [] b ∙ ap (record_onto spec r) (q ∙ g.2))

  some_back : (t : Texts) (rs : List EntriesTree) → (0 < length rs) × AllByRecursion (RecordShape spec) rs → t ≡ records_onto spec rs (closing ∷ []) → Then AreRecord (Closed AreRecord closing) t
  some_back t [] h e = absurd (let lt = h.0 in omega (arith, lt))
  some_back t (r ∷ rs) h e =
      let s = scatter rs h.1.1 in
      (record_onto spec r [], joined s.0 ++ closing ∷ [], e ∙ ap (record_onto spec r) (sym s.2) ∙ sym (record_more spec r [] (joined s.0 ++ closing ∷ [])), (r, h.1.0, refl), (s.0, s.1, refl))

  records_reading : (old : Texts) → Reading AreRecords old
  records_reading old =
      same_reading (Then AreRecord (Closed AreRecord closing)) AreRecords old some_f (λ t m. some_back t m.0 m.1 m.2)
      (then_reading AreRecord (Closed AreRecord closing) (closing ∷ []) old ([], tt, refl) record_free (record_reading old) (λ rest le. closed_reading AreRecord closing record_free record_never (length rest) (λ x less. record_reading x) rest (omega arith)))

  one_record : AreRecords (codes "record" ∷ opening ∷ closing ∷ closing ∷ [])
  one_record = let d = no_entry 1 (record_slots spec) in some_f (codes "record" ∷ opening ∷ closing ∷ closing ∷ []) (codes "record" ∷ opening ∷ closing ∷ [], closing ∷ [], refl, (d.0, shaped spec d.0 d.1, ap (λ x. codes "record" ∷ opening ∷ x) d.2), ([], tt, refl))

  braced_reading : (old : Texts) → Reading AreBracedRecords old
  braced_reading old =
      prefixed_reading AreRecords AreBracedRecords opening (codes "record" ∷ opening ∷ closing ∷ closing ∷ []) old one_record (λ t m. (m.0, m.1, ap (λ x. opening ∷ x) m.2)) (λ t m. (records_onto spec m.0 (closing ∷ []), m.2, (m.0, m.1, refl))) (λ rest le. records_reading rest)

  braced_due : AreBracedRecords (opening ∷ codes "record" ∷ opening ∷ closing ∷ closing ∷ [])
  braced_due = (one_record.0, one_record.1, ap (λ x. opening ∷ x) one_record.2)

  same_records : (rs us : List EntriesTree) (x y : Texts) → AllByRecursion (RecordShape spec) rs → AllByRecursion (RecordShape spec) us → records_onto spec rs (closing ∷ x) ≡ records_onto spec us (closing ∷ y) → (rs ≡ us) × (x ≡ y)
  same_records [] [] x y a b e = (refl, tails _ _ _ _ e)
  same_records [] (u ∷ us) x y a b e = absurd (different (codes "record") closing refl (heads _ _ _ _ (sym e)))
  same_records (v ∷ rs) [] x y a b e = absurd (different (codes "record") closing refl (heads _ _ _ _ e))
  same_records (v ∷ rs) (u ∷ us) x y a b e =
      let s = same_record v u (records_onto spec rs (closing ∷ x)) (records_onto spec us (closing ∷ y)) a.0 b.0 e in
      let t = same_records rs us x y a.1 b.1 s.1 in
      ((λ i. s.0 i ∷ t.0 i), t.1)

records_more : (spec : SpecTree) (rs : List EntriesTree) (x y : Texts) → records_onto spec rs x ++ y ≡ records_onto spec rs (x ++ y)
records_more spec [] x y = refl
records_more spec (r ∷ rs) x y = record_more spec r (records_onto spec rs x) y ∙ ap (record_onto spec r) (records_more spec rs x y)

-- ---- categories

cons_parts : {A : Type 0} (a b : A) (x y : List A) → a ∷ x ≡ b ∷ y → (a ≡ b) × (x ≡ y)
cons_parts a b x y e = (cc, cc)

same_category : (n m : ℕ) → three_digits n ≡ three_digits m → n ≡ m
same_category n m e =
    let p = cons_parts (48 + n / 100) (48 + m / 100) ((48 + n / 10 % 10) ∷ (48 + n % 10) ∷ []) ((48 + m / 10 % 10) ∷ (48 + m % 10) ∷ []) e in
    let q = cons_parts (48 + n / 10 % 10) (48 + m / 10 % 10) ((48 + n % 10) ∷ []) ((48 + m % 10) ∷ []) p.1 in
    let r = cons_parts (48 + n % 10) (48 + m % 10) [] [] q.1 in
    omega (arith, p.0, q.0, r.0)

abbrev IsCategoryText : List ℕ → Type 0
IsCategoryText text = (n : ℕ) × (n < 256) × (text ≡ three_digits n)

category_text_or_not : (text : List ℕ) → IsOrNot (IsCategoryText text)
category_text_or_not (a ∷ b ∷ c ∷ []) = category_or_not a b c
category_text_or_not text = inr (λ h. let size = ap length h.2 in absurd (omega (arith, size)))

some_spec : (a b : SpecTree) → Some a ≡ Some b → a ≡ b
some_spec a b e = cc

module _ (catalogue : List SpecTree) where
  abbrev Known : ℕ → Type 0
  Known n = (spec : SpecTree) × (spec_of n catalogue ≡ Some spec)

  abbrev Lacked : ℕ → Type 0
  Lacked n = spec_of n catalogue ≡ None

  known_or_lacked : (n : ℕ) → Known n ⊎ Lacked n
  known_or_lacked n = by (spec_of n catalogue) refl
    where
      by : (o : Option SpecTree) → spec_of n catalogue ≡ o → Known n ⊎ Lacked n
      by (Some spec) e = inl (spec, e)
      by None e = inr e

  not_both : (n : ℕ) → Known n → Lacked n → ⊥
  not_both n k l = let bad = sym k.1 ∙ l in cc

  -- some category below k is so, or none is
  abbrev SomeBelow : (ℕ → Type 0) → ℕ → Type 0
  SomeBelow P k = (n : ℕ) × (n < k) × P n

  abbrev NoneBelow : (ℕ → Type 0) → ℕ → Type 0
  NoneBelow P k = (n : ℕ) → n < k → P n → ⊥

  one_more : (P : ℕ → Type 0) (k : ℕ) → SomeBelow P k ⊎ NoneBelow P k → IsOrNot (P k) → SomeBelow P (suc k) ⊎ NoneBelow P (suc k)
  one_more P k (inl (n, lt, p)) here = inl (n, omega arith, p)
  one_more P k (inr none) (inl p) = inl (k, omega arith, p)
  one_more P k (inr none) (inr never) = inr (λ n lt p. by (cases_lt n k) lt p)
    where
      by : {n : ℕ} → (n < k) ⊎ (k ≤ n) → n < suc k → P n → ⊥
      by {n = n} (inl less) lt p = none n less p
      by {n = n} (inr le) lt p = let same : n ≡ k = omega arith in never (subst P same p)

  some_known : (k : ℕ) → SomeBelow Known k ⊎ NoneBelow Known k
  some_known zero = inr (λ n lt p. absurd (omega arith))
  some_known (suc k) = one_more Known k (some_known k) (by (known_or_lacked k))
    where
      by : Known k ⊎ Lacked k → IsOrNot (Known k)
      by (inl known) = inl known
      by (inr lacked) = inr (λ known. not_both k known lacked)

  some_lacked : (k : ℕ) → SomeBelow Lacked k ⊎ NoneBelow Lacked k
  some_lacked zero = inr (λ n lt p. absurd (omega arith))
  some_lacked (suc k) = one_more Lacked k (some_lacked k) (by (known_or_lacked k))
    where
      by : Known k ⊎ Lacked k → IsOrNot (Lacked k)
      by (inl known) = inr (λ lacked. not_both k known lacked)
      by (inr lacked) = inl lacked

  -- ---- what stands after the first word

  pub record IsRead (t : Texts) : Type 0 where
    category : ℕ
    low : category < 256
    spec : SpecTree
    known : spec_of category catalogue ≡ Some spec
    records : List EntriesTree
    some : 0 < length records
    shape : AllByRecursion (RecordShape spec) records
    texts : t ≡ three_digits category ∷ opening ∷ records_onto spec records (closing ∷ [])

  pub record IsOpaque (t : Texts) : Type 0 where
    category : ℕ
    low : category < 256
    lacked : spec_of category catalogue ≡ None
    content : List ℕ
    some : 0 < length content
    octets : AreOctets content
    texts : t ≡ three_digits category ∷ hex_text content ∷ []

  abbrev IsKnownText : List ℕ → Type 0
  IsKnownText text = (n : ℕ) × (n < 256) × Known n × (text ≡ three_digits n)

  abbrev IsLackedText : List ℕ → Type 0
  IsLackedText text = (n : ℕ) × (n < 256) × Lacked n × (text ≡ three_digits n)

  known_text_or_not : (text : List ℕ) → IsOrNot (IsKnownText text)
  known_text_or_not text = by (category_text_or_not text)
    where
      by_spec : (n : ℕ) → n < 256 → text ≡ three_digits n → Known n ⊎ Lacked n → IsOrNot (IsKnownText text)
      by_spec n lt e (inl known) = inl (n, lt, known, e)
      by_spec n lt e (inr lacked) = inr (λ h. not_both h.0 h.2 (subst Lacked (same_category n h.0 (sym e ∙ h.3)) lacked))

      by : IsOrNot (IsCategoryText text) → IsOrNot (IsKnownText text)
      by (inl (n, lt, e)) = by_spec n lt e (known_or_lacked n)
      by (inr none) = inr (λ h. none (h.0, h.1, h.3))

  lacked_text_or_not : (text : List ℕ) → IsOrNot (IsLackedText text)
  lacked_text_or_not text = by (category_text_or_not text)
    where
      by_spec : (n : ℕ) → n < 256 → text ≡ three_digits n → Known n ⊎ Lacked n → IsOrNot (IsLackedText text)
      by_spec n lt e (inl known) = inr (λ h. not_both h.0 (subst Known (same_category n h.0 (sym e ∙ h.3)) known) h.2)
      by_spec n lt e (inr lacked) = inl (n, lt, lacked, e)

      by : IsOrNot (IsCategoryText text) → IsOrNot (IsLackedText text)
      by (inl (n, lt, e)) = by_spec n lt e (known_or_lacked n)
      by (inr none) = inr (λ h. none (h.0, h.1, h.3))

  module _ (good : (n : ℕ) (spec : SpecTree) → spec_of n catalogue ≡ Some spec → SlotsReadable (record_slots spec) × SlotsNamed (record_slots spec)) where
    put_read : (n : ℕ) → n < 256 → (spec : SpecTree) (known : spec_of n catalogue ≡ Some spec) (t : Texts) → AreBracedRecords spec (good n spec known).0 (good n spec known).1 t → IsRead (three_digits n ∷ t)
    put_read n lt spec known t m = record { category = n; low = lt; spec = spec; known = known; records = m.0; some = m.1.0; shape = m.1.1; texts = ap (λ x. three_digits n ∷ x) m.2 }

    take_read : (n : ℕ) → n < 256 → (spec : SpecTree) (known : spec_of n catalogue ≡ Some spec) (t : Texts) → IsRead (three_digits n ∷ t) → AreBracedRecords spec (good n spec known).0 (good n spec known).1 t
    take_read n lt spec known t r =
        let same : r.category ≡ n = same_category r.category n (sym (heads _ _ _ _ r.texts)) in
        let one : r.spec ≡ spec = some_spec r.spec spec (sym r.known ∙ ap (λ c. spec_of c catalogue) same ∙ known) in
        (r.records, (r.some, subst (λ s. AllByRecursion (RecordShape s) r.records) one r.shape), tails _ _ _ _ r.texts ∙ ap (λ s. opening ∷ records_onto s r.records (closing ∷ [])) one)

    read_due : SomeBelow Known 256 → (t : Texts) × IsRead t
    read_due (n, lt, (spec, known)) =
        let d = braced_due spec (good n spec known).0 (good n spec known).1 in
        (three_digits n ∷ opening ∷ codes "record" ∷ opening ∷ closing ∷ closing ∷ [], put_read n lt spec known (opening ∷ codes "record" ∷ opening ∷ closing ∷ closing ∷ []) d)

    no_read : IsRead [] → ⊥
    no_read r = let e = r.texts in cc

    read_reading : SomeBelow Known 256 → (old : Texts) → Reading IsRead old
    read_reading some [] = let d = read_due some in stops [] (end_stops IsRead d.0 d.1 no_read)
    read_reading some (text ∷ rest) = by (known_text_or_not text)
      where
        by : IsOrNot (IsKnownText text) → Reading IsRead (text ∷ rest)
        by (inl (n, lt, (spec, known), e)) =
            let g = good n spec known in
            subst (λ x. Reading IsRead (x ∷ rest)) (sym e) (after_reading (AreBracedRecords spec g.0 g.1) IsRead (three_digits n) rest no_read (put_read n lt spec known) (take_read n lt spec known) (braced_reading spec g.0 g.1 rest))
        by (inr none) =
            let d = read_due some in
            stops (text ∷ rest) (first_refused IsRead IsKnownText d.0 d.1 (λ t r. (three_digits r.category, opening ∷ records_onto r.spec r.records (closing ∷ []), r.texts, (r.category, r.low, (r.spec, r.known), refl))) text rest none)

    abbrev IsContentText : List ℕ → Type 0
    IsContentText text = (octets : List ℕ) × (0 < length octets) × AreOctets octets × (text ≡ hex_text octets)

    content_or_not : (text : List ℕ) → IsOrNot (IsContentText text)
    content_or_not text = by (hex_or_not text)
      where
        by_size : (octets : List ℕ) → AreOctets octets → text ≡ hex_text octets → (0 < length octets) ⊎ (length octets ≤ 0) → IsOrNot (IsContentText text)
        by_size octets are e (inl lt) = inl (octets, lt, are, e)
        by_size octets are e (inr le) = inr (λ h. let count = ap length (same_hex h.0 octets h.2 are (sym h.3 ∙ e)) in let lt = h.1 in omega (arith, lt, le, count))

        by : IsOrNot (IsHex text) → IsOrNot (IsContentText text)
        by (inl (octets, are, e)) = by_size octets are e (cases_lt 0 (length octets))
        by (inr none) = inr (λ h. none (h.0, h.2, h.3))

    opaque_reading : SomeBelow Lacked 256 → (old : Texts) → Reading IsOpaque old
    opaque_reading (n, lt, lacked) old =
        same_reading (Then (One IsLackedText) (One IsContentText)) IsOpaque old
        (λ t m. record { category = m.3.2.0; low = m.3.2.1; lacked = m.3.2.2; content = m.4.2.0; some = m.4.2.1; octets = m.4.2.2; texts = m.2 ∙ ap (λ x. x ++ m.1) (m.3.1 ∙ ap (λ x. x ∷ []) m.3.2.3) ∙ ap (λ x. three_digits m.3.2.0 ∷ x) (m.4.1 ∙ ap (λ x. x ∷ []) m.4.2.3) })
        (λ t m. (three_digits m.category ∷ [], hex_text m.content ∷ [], m.texts, (three_digits m.category, refl, (m.category, m.low, m.lacked, refl)), (hex_text m.content, refl, (m.content, m.some, m.octets, refl))))
        (then_reading (One IsLackedText) (One IsContentText) (hex_text (0 ∷ []) ∷ []) old (hex_text (0 ∷ []), refl, (0 ∷ [], omega arith, (omega arith, tt), refl)) (one_free IsLackedText) (one_reading IsLackedText (three_digits n) (n, lt, lacked, refl) lacked_text_or_not old) (λ rest le.
        one_reading IsContentText (hex_text (0 ∷ [])) (0 ∷ [], omega arith, (omega arith, tt), refl) content_or_not rest))

    -- ---- blocks

    abbrev ByBlock : Texts → Type 0
    ByBlock t = (rest : Texts) × (t ≡ codes "block" ∷ rest) × IsRead rest

    abbrev ByOpaque : Texts → Type 0
    ByOpaque t = (rest : Texts) × (t ≡ codes "opaque" ∷ rest) × IsOpaque rest

    of_read : (t : Texts) → ByBlock t → IsBlockText catalogue t
    of_read t (rest, e, r) = (
      read_block r.category r.records,
      record { fits = record { fits = subst (λ o. FitsOver o (read_block r.category r.records)) (sym r.known) (sym (known_category r.category catalogue r.spec r.known), r.some, r.shape); octets = tt }; category = r.low },
      e ∙ ap (λ x. codes "block" ∷ x) r.texts ∙ sym (ap (λ o. TextOver o (read_block r.category r.records)) r.known),
    )

    opaque_text : (o : Option SpecTree) (category : ℕ) (xs : List ℕ) → TextOver o (opaque_block category xs) ≡ codes "opaque" ∷ three_digits category ∷ hex_text xs ∷ []
    opaque_text None category xs = refl
    opaque_text (Some spec) category xs = refl

    of_opaque : (t : Texts) → ByOpaque t → IsBlockText catalogue t
    of_opaque t (rest, e, r) = (
      opaque_block r.category r.content,
      record { fits = record { fits = subst (λ o. FitsOver o (opaque_block r.category r.content)) (sym r.lacked) r.some; octets = r.octets }; category = r.low },
      e ∙ ap (λ x. codes "opaque" ∷ x) r.texts ∙ sym (opaque_text (spec_of r.category catalogue) r.category r.content),
    )

    block_back : (t : Texts) (block : BlockTree) → IsBlockOf catalogue block → t ≡ block_texts catalogue block → ByBlock t ⊎ ByOpaque t
    block_back t (read_block category records) of e = by (spec_of category catalogue) refl of.fits.fits e
      where
        by : (o : Option SpecTree) → spec_of category catalogue ≡ o → FitsOver o (read_block category records) → t ≡ TextOver o (read_block category records) → ByBlock t ⊎ ByOpaque t
        by None k f h = absurd f
        by (Some spec) k f h = inl (three_digits category ∷ opening ∷ records_onto spec records (closing ∷ []), h, record { category = category; low = of.category; spec = spec; known = k; records = records; some = f.1; shape = f.2; texts = refl })
    block_back t (opaque_block category content) of e = by (spec_of category catalogue) refl of.fits.fits
      where
        by : (o : Option SpecTree) → spec_of category catalogue ≡ o → FitsOver o (opaque_block category content) → ByBlock t ⊎ ByOpaque t
        by None k f = inr (three_digits category ∷ hex_text content ∷ [], e ∙ opaque_text (spec_of category catalogue) category content, record { category = category; low = of.category; lacked = k; content = content; some = f; octets = of.fits.octets; texts = refl })
        by (Some spec) k f = absurd (f.0 (sym (known_category category catalogue spec k)))

    never_block : NeverBegins ByOpaque (codes "block")
    never_block member following x m h = different (codes "opaque") (codes "block") refl (heads _ _ _ _ (sym (ap (λ t. t ++ following) m.1) ∙ h))

    by_choice : IsChoice ByBlock ByOpaque (IsBlockText catalogue) (codes "block")
    by_choice = record { first = of_read; second = of_opaque; either = λ t m. block_back t m.0 m.1 m.2; begins = λ t m. (m.0, m.1); never = never_block }

    after_block : SomeBelow Known 256 → (old : Texts) → Reading ByBlock old
    after_block some old = let d = read_due some in prefixed_reading IsRead ByBlock (codes "block") d.0 old d.1 (λ t m. (t, refl, m)) (λ t m. m) (λ rest le. read_reading some rest)

    opaque_due : SomeBelow Lacked 256 → (t : Texts) × IsOpaque t
    opaque_due (n, lt, lacked) = (three_digits n ∷ hex_text (0 ∷ []) ∷ [], record { category = n; low = lt; lacked = lacked; content = 0 ∷ []; some = omega arith; octets = (omega arith, tt); texts = refl })

    after_opaque : SomeBelow Lacked 256 → (old : Texts) → Reading ByOpaque old
    after_opaque some old = let d = opaque_due some in prefixed_reading IsOpaque ByOpaque (codes "opaque") d.0 old d.1 (λ t m. (t, refl, m)) (λ t m. m) (λ rest le. opaque_reading some rest)

    only_read : NoneBelow Lacked 256 → (t : Texts) → ByBlock t ⊎ ByOpaque t → ByBlock t
    only_read none t (inl m) = m
    only_read none t (inr m) = absurd (none m.2.category m.2.low m.2.lacked)

    only_opaque : NoneBelow Known 256 → (t : Texts) → ByBlock t ⊎ ByOpaque t → ByOpaque t
    only_opaque none t (inl m) = absurd (none m.2.category m.2.low (m.2.spec, m.2.known))
    only_opaque none t (inr m) = m

    by_forms : SomeBelow Known 256 ⊎ NoneBelow Known 256 → SomeBelow Lacked 256 ⊎ NoneBelow Lacked 256 → (old : Texts) → Reading (IsBlockText catalogue) old
    by_forms (inl known) (inl lacked) old =
        let d = read_due known in
        choice_reading ByBlock ByOpaque (IsBlockText catalogue) (codes "block") by_choice (codes "block" ∷ d.0) old (of_read (codes "block" ∷ d.0) (d.0, refl, d.1)) (λ rest e. after_block known old) (after_opaque lacked old)
    by_forms (inl known) (inr none) old = same_reading ByBlock (IsBlockText catalogue) old of_read (λ t m. only_read none t (block_back t m.0 m.1 m.2)) (after_block known old)
    by_forms (inr none) (inl lacked) old = same_reading ByOpaque (IsBlockText catalogue) old of_opaque (λ t m. only_opaque none t (block_back t m.0 m.1 m.2)) (after_opaque lacked old)
    by_forms (inr none) (inr nor) old = absurd (neither (known_or_lacked 0))
      where
        neither : Known 0 ⊎ Lacked 0 → ⊥
        neither (inl known) = none 0 (omega arith) known
        neither (inr lacked) = nor 0 (omega arith) lacked

    block_reading : (old : Texts) → Reading (IsBlockText catalogue) old
    block_reading old = by_forms (some_known 256) (some_lacked 256) old

    -- ---- no block's text is the beginning of another's

    read_texts : (t x : Texts) (m : ByBlock t) → t ++ x ≡ codes "block" ∷ three_digits m.2.category ∷ opening ∷ records_onto m.2.spec m.2.records (closing ∷ x)
    read_texts t x m = ap (λ y. y ++ x) (m.1 ∙ ap (λ y. codes "block" ∷ y) m.2.texts) ∙ ap (λ y. codes "block" ∷ three_digits m.2.category ∷ opening ∷ y) (records_more m.2.spec m.2.records (closing ∷ []) x)

    opaque_texts : (t x : Texts) (m : ByOpaque t) → t ++ x ≡ codes "opaque" ∷ three_digits m.2.category ∷ hex_text m.2.content ∷ x
    opaque_texts t x m = ap (λ y. y ++ x) (m.1 ∙ ap (λ y. codes "opaque" ∷ y) m.2.texts)

    read_free : (a b x y : Texts) → ByBlock a → ByBlock b → a ++ x ≡ b ++ y → a ≡ b
    read_free a b x y m k h =
        let e = sym (read_texts a x m) ∙ h ∙ read_texts b y k in
        let category : m.2.category ≡ k.2.category = same_category m.2.category k.2.category (heads _ _ _ _ (tails _ _ _ _ e)) in
        let spec : m.2.spec ≡ k.2.spec = some_spec m.2.spec k.2.spec (sym m.2.known ∙ ap (λ c. spec_of c catalogue) category ∙ k.2.known) in
        let g = good k.2.category k.2.spec k.2.known in
        let records : m.2.records ≡ k.2.records
        = (same_records k.2.spec g.0 g.1 m.2.records k.2.records x y (subst (λ s. AllByRecursion (RecordShape s) m.2.records) spec m.2.shape) k.2.shape (sym (ap (λ s. records_onto s m.2.records (closing ∷ x)) spec) ∙ tails _ _ _ _ (tails _ _ _ _ (tails _ _ _ _ e)))).0 in
        m.1 ∙ ap (λ t. codes "block" ∷ t) (m.2.texts ∙ (λ i. three_digits (category i) ∷ opening ∷ records_onto (spec i) (records i) (closing ∷ [])) ∙ sym k.2.texts) ∙ sym k.1

    opaque_free : (a b x y : Texts) → ByOpaque a → ByOpaque b → a ++ x ≡ b ++ y → a ≡ b
    opaque_free a b x y m k h =
        let e = sym (opaque_texts a x m) ∙ h ∙ opaque_texts b y k in
        let category : three_digits m.2.category ≡ three_digits k.2.category = heads _ _ _ _ (tails _ _ _ _ e) in
        let content : hex_text m.2.content ≡ hex_text k.2.content = heads _ _ _ _ (tails _ _ _ _ (tails _ _ _ _ e)) in
        m.1 ∙ ap (λ t. codes "opaque" ∷ t) (m.2.texts ∙ (λ i. category i ∷ content i ∷ []) ∙ sym k.2.texts) ∙ sym k.1

    by_both : (a b x y : Texts) → ByBlock a ⊎ ByOpaque a → ByBlock b ⊎ ByOpaque b → a ++ x ≡ b ++ y → a ≡ b
    by_both a b x y (inl m) (inl k) h = read_free a b x y m k h
    by_both a b x y (inr m) (inr k) h = opaque_free a b x y m k h
    by_both a b x y (inl m) (inr k) h = absurd (different (codes "block") (codes "opaque") refl (heads _ _ _ _ (sym (read_texts a x m) ∙ h ∙ opaque_texts b y k)))
    by_both a b x y (inr m) (inl k) h = absurd (different (codes "opaque") (codes "block") refl (heads _ _ _ _ (sym (opaque_texts a x m) ∙ h ∙ read_texts b y k)))

    block_free : PrefixFree (IsBlockText catalogue)
    block_free a b x y m k h = by_both a b x y (block_back a m.0 m.1 m.2) (block_back b k.0 k.1 k.2) h

    -- ---- tokens

    abbrev TextOrBad : List PlainToken → Type 0
    TextOrBad tokens = ((block : BlockTree) × Spells catalogue tokens block) ⊎ ((token : ℕ) × FirstBad (IsBlockText catalogue) (texts_of tokens) token)

    text_of_tokens : (tokens : List PlainToken) → TextOrBad tokens
    text_of_tokens tokens = by (block_reading (texts_of tokens))
      where
        by_rest : (front rest : Texts) → texts_of tokens ≡ front ++ rest → IsBlockText catalogue front → TextOrBad tokens
        by_rest front [] e (block, of, h) = inl (block, record { of_catalogue = of; texts = e ∙ append-nil front ∙ h })
        by_rest front (text ∷ rest) e l = inr (length (texts_of tokens) - length (text ∷ rest), trails_bad (IsBlockText catalogue) (texts_of tokens) front (text ∷ rest) block_free l e (omega arith))

        by : Reading (IsBlockText catalogue) (texts_of tokens) → TextOrBad tokens
        by (found front rest e l) = by_rest front rest e l
        by (stops new s) = inr (length (texts_of tokens) - length new, stops_bad (IsBlockText catalogue) (texts_of tokens) new s)

found_among : (P : SpecTree → Type 0) (category : ℕ) (catalogue : List SpecTree) (spec : SpecTree) → AllByRecursion P catalogue → spec_of category catalogue ≡ Some spec → P spec
found_among P category [] spec h e = absurd (let none : None ≡ Some spec = e in cc)
found_among P category (first ∷ catalogue) spec h e = choice (first.category == category) h.0 (found_among P category catalogue spec h.1) e
  where
    choice : (b : Bool) → P first → (spec_of category catalogue ≡ Some spec → P spec) → cond b (Some first) (spec_of category catalogue) ≡ Some spec → P spec
    choice true p q e = subst P (some_spec first spec e) p
    choice false p q e = q e

pub text_or_bad : (catalogue : List SpecTree) → AllByRecursion (λ spec. NoFlaw spec × IsNamed spec) catalogue → (tokens : List PlainToken) → ((block : BlockTree) × Spells catalogue tokens block) ⊎ ((token : ℕ) × FirstBad (IsBlockText catalogue) (texts_of tokens) token)
text_or_bad catalogue all tokens =
    text_of_tokens catalogue (λ n spec known. let g = found_among (λ spec. NoFlaw spec × IsNamed spec) n catalogue spec all known in (record_readable spec g.0, record_named spec g.1)) tokens
