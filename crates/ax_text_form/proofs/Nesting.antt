-- The texts of a block are tokens, and their braces nest no deeper than its specification lets them.
use Rattle.std.proofs.Common.{◌≡◌, ℕ, ◌+◌, ◌-◌, ◌≤◌, Bool, true, false, cond, MatchBool, List, [], ◌∷◌, ◌++◌, length, map, refl, sym, ap, subst, arith}
use Rattle.std.specs.Prelude.{decimal, codes, ◌==◌}
use Rattle.std.specs.List.{AllByRecursion, join_with_byte}
use Rattle.ax_bits.specs.Bits.{AreOctets}
use Rattle.ax_format.specs.Blocks.{BlockTree, read_block, opaque_block}
use Rattle.ax_format.specs.Bodies.{RecordShape}
use Rattle.ax_format.specs.Flaws.{NoFlaw}
use Rattle.ax_format.specs.Paths.{three_digits}
use Rattle.ax_format.specs.Shape.{NumberShape, FixedShape, MembersShape, PartsShape, EachShape, Shape, EntriesShape}
use Rattle.ax_format.specs.Specification.{SpecTree, record_slots}
use Rattle.ax_format.specs.Tree.{FixedTree, element, group, MembersTree, no_members, member_and, named, spare, KindTree, fixed, extended, counted, by_fx, explicit, compound, SlotsTree, no_slots, slot_and, spare_slot, subitem, ValueTree, number, member_values, part_values, occurrences, content_octets, marked, ValuesTree, no_values, value_and, ListsTree, no_lists, list_and, EntriesTree, no_entries, entry_and}
use Rattle.ax_tokens.specs.Depth.{level_after, KeepsWithin, IsWithin}
use Rattle.ax_tokens.specs.Lexing.{IsTokenText, AreTokensOf}
use Rattle.ax_tokens.specs.Octets.{line_feed}
use Rattle.ax_tokens.specs.Printing.{AreTokenTexts, placed}
use Rattle.ax_tokens.specs.declared.token.TokenKind.{TokenKind}
use Rattle.ax_tokens.proofs.Levels.{keeps_within}
use Rattle.ax_tokens.proofs.Printed.{printed_line}
use Rattle.ax_text_form.specs.BlockText.{records_onto, BlockText, BlockLine}
use Rattle.ax_text_form.specs.Names.{FixedNamed, MembersNamed, KindNamed, SlotsNamed, IsNamed}
use Rattle.ax_text_form.specs.Readable.{FixedReadable, MembersReadable, Readable, SlotsReadable}
use Rattle.ax_text_form.specs.Tokens.{kind_of, BlockTokens, fixed_nesting, members_nesting, parts_nesting, kind_nesting, slots_nesting, block_nesting, HoldsBlock}
use Rattle.ax_text_form.specs.ValueText.{Texts, closing, spare_word, part_word, hex_text, in_braces, number_onto, fixed_onto, members_onto, parts_onto, each_onto, kind_onto, entries_onto}
use Rattle.ax_text_form.proofs.Readables.{record_readable, record_named}
use Rattle.ax_text_form.proofs.Unique.{small}
use Rattle.ax_text_form.proofs.WordTokens.{IsWord, decimal_word, name_word, category_word, spare_is_word, part_is_word, record_is_word, block_is_word, opaque_is_word, hex_token}

-- texts of tokens that keep their level within the limit, from a level on
abbrev pub Keep : ℕ → ℕ → Texts → Type 0
Keep limit level [] = Unit {0}
Keep limit level (text ∷ texts) = IsTokenText (kind_of text) text × (level_after (kind_of text) level ≤ limit) × Keep limit (level_after (kind_of text) level) texts

-- ---- single texts

word_keeps : (limit level : ℕ) (text : List ℕ) (rest : Texts) → IsWord text → level ≤ limit → Keep limit level rest → Keep limit level (text ∷ rest)
word_keeps limit level text rest w le k = subst (λ kind. IsTokenText kind text × (level_after kind level ≤ limit) × Keep limit (level_after kind level) rest) (sym w.kind) (w.octets, le, k)

braces_keep : (limit level : ℕ) (onto : Texts → Texts) (rest : Texts) → level + 1 ≤ limit → (Keep limit (level + 1) (closing ∷ rest) → Keep limit (level + 1) (onto (closing ∷ rest))) → Keep limit level rest → Keep limit level (in_braces onto rest)
braces_keep limit level onto rest le h k =
    let back : level ≡ level + 1 - 1 = omega arith in
    (refl, le, h (refl, omega (arith, le), subst (λ l. Keep limit l rest) back k))

hex_keeps : (limit level : ℕ) (octets : List ℕ) (rest : Texts) → AreOctets octets → level ≤ limit → Keep limit level rest → Keep limit level (hex_text octets ∷ rest)
hex_keeps limit level octets rest h le k = (hex_token octets h, le, k)

number_keeps : (limit level w : ℕ) (v : ValueTree) (rest : Texts) → w ≤ 128 → NumberShape w v → level ≤ limit → Keep limit level rest → Keep limit level (number_onto v rest)
number_keeps limit level w (number n) rest le h l k = word_keeps limit level (decimal n) rest (decimal_word n (small w n le h)) l k
number_keeps limit level w v rest le h l k = absurd h

-- ---- fixed kinds

mutual
  fixed_keeps : (limit level : ℕ) (f : FixedTree) (v : ValueTree) (rest : Texts) → FixedReadable f → FixedNamed f → FixedShape f v → level + fixed_nesting f ≤ limit → Keep limit level rest → Keep limit level (fixed_onto f v rest)
  fixed_keeps limit level (element w c) v rest r n h le k = number_keeps limit level w v rest r h (omega (arith, le)) k
  fixed_keeps limit level (group ms) (member_values vs) rest r n h le k =
      braces_keep limit level (members_onto ms vs) rest (omega (arith, le)) (λ inner. members_keep limit (level + 1) ms vs (closing ∷ rest) r n h (omega (arith, le)) inner) k
  fixed_keeps limit level (group ms) v rest r n h le k = absurd h

  members_keep : (limit level : ℕ) (ms : MembersTree) (vs : ValuesTree) (rest : Texts) → MembersReadable ms → MembersNamed ms → MembersShape ms vs → level + members_nesting ms ≤ limit → Keep limit level rest → Keep limit level (members_onto ms vs rest)
  members_keep limit level no_members vs rest r n h le k = k
  members_keep limit level (member_and m ms) no_values rest r n h le k = absurd h
  members_keep limit level (member_and (named name f) ms) (value_and v vs) rest r n h le k =
      word_keeps limit level name (fixed_onto f v (members_onto ms vs rest)) (name_word name n.0) (omega (arith, le))
      (fixed_keeps limit level f v (members_onto ms vs rest) r.0 n.1 h.0 (omega (arith, le)) (members_keep limit level ms vs rest r.1 n.2 h.1 (omega (arith, le)) k))
  members_keep limit level (member_and (spare w) ms) (value_and v vs) rest r n h le k =
      word_keeps limit level spare_word (number_onto v (members_onto ms vs rest)) spare_is_word (omega (arith, le))
      (number_keeps limit level w v (members_onto ms vs rest) r.0 h.0 (omega (arith, le)) (members_keep limit level ms vs rest r.1 n h.1 le k))

-- ---- kinds

parts_keep : (limit level : ℕ) (ps : List MembersTree) (ls : ListsTree) (rest : Texts) → AllByRecursion MembersReadable ps → AllByRecursion MembersNamed ps → PartsShape ps ls → level + parts_nesting ps ≤ limit → Keep limit level rest
    → Keep limit level (parts_onto ps ls rest)
parts_keep limit level ps no_lists rest r n h le k = absurd h
parts_keep limit level [] (list_and vs ls) rest r n h le k = absurd h
parts_keep limit level (p ∷ ps) (list_and vs no_lists) rest r n h le k =
    word_keeps limit level part_word (in_braces (members_onto p vs) (parts_onto ps no_lists rest)) part_is_word (omega (arith, le))
    (braces_keep limit level (members_onto p vs) (parts_onto ps no_lists rest) (omega (arith, le)) (λ inner. members_keep limit (level + 1) p vs (closing ∷ parts_onto ps no_lists rest) r.0 n.0 h (omega (arith, le)) inner) (none ps))
  where
    none : (ps : List MembersTree) → Keep limit level (parts_onto ps no_lists rest)
    none [] = k
    none (p ∷ ps) = k
parts_keep limit level (p ∷ ps) (list_and vs (list_and ws ls)) rest r n h le k =
    word_keeps limit level part_word (in_braces (members_onto p vs) (parts_onto ps (list_and ws ls) rest)) part_is_word (omega (arith, le))
    (braces_keep limit level (members_onto p vs) (parts_onto ps (list_and ws ls) rest) (omega (arith, le)) (λ inner. members_keep limit (level + 1) p vs (closing ∷ parts_onto ps (list_and ws ls) rest) r.0 n.0 h.0 (omega (arith, le)) inner)
    (parts_keep limit level ps (list_and ws ls) rest r.1 n.1 h.1 (omega (arith, le)) k))

each_keep : (limit level : ℕ) (R : ValueTree → Type 0) (onto : ValueTree → Texts → Texts) → ((v : ValueTree) (rest : Texts) → R v → Keep limit level rest → Keep limit level (onto v rest)) → (vs : ValuesTree) (rest : Texts) → EachShape R vs → Keep limit level rest
    → Keep limit level (each_onto onto vs rest)
each_keep limit level R onto f no_values rest h k = k
each_keep limit level R onto f (value_and v vs) rest h k = f v (each_onto onto vs rest) h.0 (each_keep limit level R onto f vs rest h.1 k)

choice_keeps : (limit level : ℕ) (b : Bool) (S T : Type 0) (p q : Texts) → MatchBool b S T → (S → Keep limit level p) → (T → Keep limit level q) → Keep limit level (cond b p q)
choice_keeps limit level true S T p q h f g = f h
choice_keeps limit level false S T p q h f g = g h

mutual
  kind_keeps : (limit level : ℕ) (k : KindTree) (v : ValueTree) (rest : Texts) → Readable k → KindNamed k → Shape k v → level + kind_nesting k ≤ limit → Keep limit level rest → Keep limit level (kind_onto k v rest)
  kind_keeps limit level (fixed f) v rest r n h le k = fixed_keeps limit level f v rest r n h le k
  kind_keeps limit level (extended last ps) (part_values ls) rest r n h le k =
      braces_keep limit level (parts_onto ps ls) rest (omega (arith, le)) (λ inner. parts_keep limit (level + 1) ps ls (closing ∷ rest) r.0 n h (omega (arith, le)) inner) k
  kind_keeps limit level (extended last ps) v rest r n h le k = absurd h
  kind_keeps limit level (counted size inside) (occurrences vs) rest r n h le k =
      braces_keep limit level (each_onto (kind_onto inside) vs) rest (omega (arith, le))
      (λ inner. each_keep limit (level + 1) (Shape inside) (kind_onto inside) (λ v rest h k. kind_keeps limit (level + 1) inside v rest r n h (omega (arith, le)) k) vs (closing ∷ rest) h.1 inner) k
  kind_keeps limit level (counted size inside) v rest r n h le k = absurd h
  kind_keeps limit level (by_fx f) (occurrences vs) rest r n h le k =
      braces_keep limit level (each_onto (fixed_onto f) vs) rest (omega (arith, le))
      (λ inner. each_keep limit (level + 1) (FixedShape f) (fixed_onto f) (λ v rest h k. fixed_keeps limit (level + 1) f v rest r n h (omega (arith, le)) k) vs (closing ∷ rest) h.1 inner) k
  kind_keeps limit level (by_fx f) v rest r n h le k = absurd h
  kind_keeps limit level explicit (content_octets xs) rest r n h le k = hex_keeps limit level xs rest h.1 (omega (arith, le)) k
  kind_keeps limit level explicit v rest r n h le k = absurd h
  kind_keeps limit level (compound ss) (marked es) rest r n h le k =
      braces_keep limit level (entries_onto 1 ss es) rest (omega (arith, le)) (λ inner. entries_keep limit (level + 1) 1 ss es (closing ∷ rest) r.1 n h (omega (arith, le)) inner) k
  kind_keeps limit level (compound ss) v rest r n h le k = absurd h

  entries_keep : (limit level s : ℕ) (ss : SlotsTree) (es : EntriesTree) (rest : Texts) → SlotsReadable ss → SlotsNamed ss → EntriesShape s ss es → level + slots_nesting ss ≤ limit → Keep limit level rest → Keep limit level (entries_onto s ss es rest)
  entries_keep limit level s no_slots es rest r n h le k = k
  entries_keep limit level s (slot_and spare_slot ss) es rest r n h le k = entries_keep limit level (s + 1) ss es rest r.2 n h le k
  entries_keep limit level s (slot_and (subitem name kind) ss) no_entries rest r n h le k = entries_keep limit level (s + 1) ss no_entries rest r.2 n.2 h (omega (arith, le)) k
  entries_keep limit level s (slot_and (subitem name kind) ss) (entry_and t v es) rest r n h le k =
      choice_keeps limit level (t == s) _ _ _ _ h
      (λ g. word_keeps limit level name (kind_onto kind v (entries_onto (s + 1) ss es rest)) (name_word name n.0) (omega (arith, le))
      (kind_keeps limit level kind v (entries_onto (s + 1) ss es rest) r.1 n.1 g.0 (omega (arith, le)) (entries_keep limit level (s + 1) ss es rest r.2 n.2 g.1 (omega (arith, le)) k)))
      (λ g. entries_keep limit level (s + 1) ss (entry_and t v es) rest r.2 n.2 g (omega (arith, le)) k)

-- ---- records and blocks

records_keep : (limit level : ℕ) (spec : SpecTree) (rs : List EntriesTree) (rest : Texts) → SlotsReadable (record_slots spec) → SlotsNamed (record_slots spec) → AllByRecursion (RecordShape spec) rs
    → level + (1 + slots_nesting (record_slots spec)) ≤ limit → Keep limit level rest → Keep limit level (records_onto spec rs rest)
records_keep limit level spec [] rest r n h le k = k
records_keep limit level spec (es ∷ rs) rest r n h le k =
    word_keeps limit level (codes "record") (in_braces (entries_onto 1 (record_slots spec) es) (records_onto spec rs rest)) record_is_word (omega (arith, le))
    (braces_keep limit level (entries_onto 1 (record_slots spec) es) (records_onto spec rs rest) (omega (arith, le)) (λ inner. entries_keep limit (level + 1) 1 (record_slots spec) es (closing ∷ records_onto spec rs rest) r n h.0.shape (omega (arith, le)) inner)
    (records_keep limit level spec rs rest r n h.1 le k))

pub block_keeps : (limit : ℕ) (spec : SpecTree) (block : BlockTree) → NoFlaw spec → IsNamed spec → HoldsBlock spec block → block_nesting spec ≤ limit → Keep limit 0 (BlockText spec block)
block_keeps limit spec (read_block category rs) f n h le =
    word_keeps limit 0 (codes "block") (three_digits category ∷ in_braces (records_onto spec rs) []) block_is_word (omega arith)
    (word_keeps limit 0 (three_digits category) (in_braces (records_onto spec rs) []) (category_word category h.category) (omega arith)
    (braces_keep limit 0 (records_onto spec rs) [] (omega (arith, le)) (λ inner. records_keep limit 1 spec rs (closing ∷ []) (record_readable spec f) (record_named spec n) h.fits.2 (omega (arith, le)) inner) tt))
block_keeps limit spec (opaque_block category xs) f n h le =
    word_keeps limit 0 (codes "opaque") (three_digits category ∷ hex_text xs ∷ []) opaque_is_word (omega arith)
    (word_keeps limit 0 (three_digits category) (hex_text xs ∷ []) (category_word category h.category) (omega arith) (hex_keeps limit 0 xs [] h.octets (omega arith) tt))

-- ---- tokens of a line

abbrev with_kinds : Texts → List (TokenKind × List ℕ)
with_kinds texts = map (λ text. (kind_of text, text)) texts

are_texts : (limit level : ℕ) (texts : Texts) → Keep limit level texts → AreTokenTexts (with_kinds texts)
are_texts limit level [] h = tt
are_texts limit level (text ∷ texts) h = (h.0, are_texts limit (level_after (kind_of text) level) texts h.2)

keep_levels : (limit level at : ℕ) (texts : Texts) → Keep limit level texts → KeepsWithin limit level (placed at (with_kinds texts))
keep_levels limit level at [] h = tt
keep_levels limit level at (text ∷ texts) h = (h.1, keep_levels limit (level_after (kind_of text) level) (at + length text + 1) texts h.2)

texts_back : (texts : Texts) → map (λ t. t.1) (with_kinds texts) ≡ texts
texts_back [] = refl
texts_back (text ∷ texts) = ap (λ t. text ∷ t) (texts_back texts)

pub line_tokens : (limit : ℕ) (spec : SpecTree) (block : BlockTree) → NoFlaw spec → IsNamed spec → HoldsBlock spec block → IsWithin limit (BlockTokens spec block) → AreTokensOf (BlockLine spec block) limit (BlockTokens spec block)
line_tokens limit spec block f n h within =
    subst (λ text. AreTokensOf (text ++ line_feed ∷ []) limit (BlockTokens spec block)) (ap (join_with_byte 0x20) (texts_back (BlockText spec block)))
    (printed_line (with_kinds (BlockText spec block)) limit (are_texts (block_nesting spec) 0 (BlockText spec block) (block_keeps (block_nesting spec) spec block f n h (omega arith))) within)

pub tokens_within : (limit : ℕ) (spec : SpecTree) (block : BlockTree) → NoFlaw spec → IsNamed spec → HoldsBlock spec block → block_nesting spec ≤ limit → IsWithin limit (BlockTokens spec block)
tokens_within limit spec block f n h le = keeps_within limit (BlockTokens spec block) (keep_levels limit 0 0 (BlockText spec block) (block_keeps limit spec block f n h le))
