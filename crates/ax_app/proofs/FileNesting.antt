-- How deep the braces of a file nest, and those of its blocks.
use Rattle.std.proofs.Common.{◌≡◌, ℕ, ◌+◌, ◌^◌, ◌<◌, ◌≤◌, max, Bool, true, false, cond, List, [], ◌∷◌, map, bytes_eq, decimal, Option, Some, refl, sym, subst, arith, append-nil}
use Rattle.std.specs.List.{AllByRecursion, flat_map, find}
use Rattle.std.proofs.lemmas.List.Concat.{flat_map-cons}
use Rattle.ax_grammar.specs.InRange.{EntryInRange, ContentInRange, FixedInRange, MembersInRange, KindInRange, SlotsInRange, ItemInRange, UapSlotInRange, InRange}
use Rattle.ax_grammar.specs.Keywords.{keyword_text}
use Rattle.ax_grammar.specs.Printing.{spelled_tokens}
use Rattle.ax_grammar.specs.Spelling.{quoted, sign_text, block, extended_word, counted_word, entry_texts, content_texts, fixed_texts, members_texts, part_texts, kind_texts, slots_texts, item_texts, uap_slot_texts, spelled}
use Rattle.ax_grammar.specs.declared.keyword.Keyword.TheVariants as Word
use Rattle.ax_format.specs.Blocks.{BlockTree}
use Rattle.ax_format.specs.Flaws.{NoFlaw}
use Rattle.ax_format.specs.Paths.{three_digits}
use Rattle.ax_format.specs.Specification.{ItemTree, SpecTree, first_named, slot_of_item, uap_slot}
use Rattle.ax_format.specs.Tree.{FixedTree, element, group, named, spare, MembersTree, no_members, member_and, KindTree, fixed, extended, counted, by_fx, explicit, compound, SlotTree, spare_slot, subitem, SlotsTree, no_slots, slot_and, slots_of}
use Rattle.ax_format.specs.declared.content.Content.{Content}
use Rattle.ax_format.specs.declared.content.Content.TheVariants as Meaning
use Rattle.ax_format.specs.declared.content.Sign.{Sign}
use Rattle.ax_format.specs.declared.content.Sign.TheVariants.{Unsigned, Signed}
use Rattle.ax_format.specs.declared.content.TableText.{TableText}
use Rattle.ax_format.specs.declared.kind.Counter.{Counter}
use Rattle.ax_format.specs.declared.kind.Counter.TheVariants.{One, Two}
use Rattle.ax_format.specs.declared.kind.LastPart.{LastPart}
use Rattle.ax_format.specs.declared.kind.LastPart.TheVariants.{WithFx, WithoutFx}
use Rattle.ax_format.specs.declared.spec.UapSlot.{UapSlot}
use Rattle.ax_format.specs.declared.spec.UapSlot.TheVariants as Uap
use Rattle.ax_tokens.proofs.Levels.{within_keeps}
use Rattle.ax_tokens.specs.Depth.{IsWithin}
use Rattle.ax_tokens.specs.Lexing.{AreTokensOf}
use Rattle.ax_text_form.proofs.Nesting.{line_tokens, tokens_within}
use Rattle.ax_text_form.proofs.WordTokens.{decimal_word, name_word, category_word}
use Rattle.ax_text_form.specs.BlockText.{BlockLine}
use Rattle.ax_text_form.specs.Names.{FixedNamed, MembersNamed, KindNamed, SlotsNamed, ItemNamed, IsNamed}
use Rattle.ax_text_form.specs.Tokens.{HoldsBlock, BlockTokens, fixed_nesting, members_nesting, parts_nesting, kind_nesting, slots_nesting, block_nesting}
use Rattle.ax_app.proofs.Passing.{Levels, levels, IsFlat, word_flat, Passes, none_passes, less_passes, flat_then, both_pass, flat_both, block_passes}

-- ---- the texts of a list

each_passes : {A : Type 0} (spell : A → List (List ℕ)) (depth : A → ℕ) (deepest : List A → ℕ) (Fits : A → Type 0) → ((a : A) → Fits a → Passes (spell a) (depth a)) → deepest [] ≡ 0 → ((a : A) (xs : List A) → deepest (a ∷ xs) ≡ max (depth a) (deepest xs))
    → (xs : List A) → AllByRecursion Fits xs → Passes (flat_map spell xs) (deepest xs)
each_passes spell depth deepest Fits h none some [] k = subst (Passes []) (sym none) none_passes
each_passes spell depth deepest Fits h none some (x ∷ xs) k =
    subst (Passes (flat_map spell (x ∷ xs))) (sym (some x xs))
    (subst (λ texts. Passes texts (max (depth x) (deepest xs))) (sym (flat_map-cons spell x xs)) (both_pass (spell x) (flat_map spell xs) (depth x) (deepest xs) (h x k.0) (each_passes spell depth deepest Fits h none some xs k.1)))

abbrev no_depth : {A : Type 0} → A → ℕ
no_depth a = 0

flat_one : (text : List ℕ) → IsFlat text → Passes (text ∷ []) 0
flat_one text f = flat_then text [] 0 f none_passes

number_flat : (n : ℕ) → n < 10 ^ 18 → IsFlat (decimal n)
number_flat n h = word_flat (decimal n) (decimal_word n (omega (arith, h)))

text_flat : (text : List ℕ) → IsFlat (quoted text)
text_flat text = record { flat = λ level. refl }

-- ---- contents

entry_passes : (entry : TableText) → EntryInRange entry → Passes (entry_texts entry) 0
entry_passes entry h = flat_then (decimal entry.number) (quoted entry.text ∷ []) 0 (number_flat entry.number h.0) (flat_one (quoted entry.text) (text_flat entry.text))

entries_pass : (entries : List TableText) → AllByRecursion EntryInRange entries → Passes (flat_map entry_texts entries) 0
entries_pass entries h = each_passes entry_texts no_depth no_depth EntryInRange entry_passes refl (λ a xs. refl) entries h

sign_flat : (sign : Sign) → IsFlat (sign_text sign)
sign_flat Unsigned = record { flat = λ level. refl }
sign_flat Signed = record { flat = λ level. refl }

content_passes : (content : Content) → ContentInRange content → Passes (content_texts content) 0
content_passes Meaning.Raw h = flat_one (keyword_text Word.Raw) (record { flat = λ level. refl })
content_passes (Meaning.Table entries) h =
    less_passes (block Word.Table (flat_map entry_texts entries)) 1 0 (omega arith) (block_passes Word.Table (flat_map entry_texts entries) 0 (record { flat = λ level. refl }) (entries_pass entries h))
content_passes Meaning.Ascii h = flat_one (keyword_text Word.Ascii) (record { flat = λ level. refl })
content_passes Meaning.Icao h = flat_one (keyword_text Word.Icao) (record { flat = λ level. refl })
content_passes Meaning.Octal h = flat_one (keyword_text Word.Octal) (record { flat = λ level. refl })
content_passes (Meaning.Integer sign) h = flat_then (keyword_text Word.Integer) (sign_text sign ∷ []) 0 (record { flat = λ level. refl }) (flat_one (sign_text sign) (sign_flat sign))
content_passes (Meaning.Quantity scale) h =
    flat_then (keyword_text Word.Quantity) _ 0 (record { flat = λ level. refl })
    (flat_then (sign_text scale.sign) _ 0 (sign_flat scale.sign) (flat_then (decimal scale.num) _ 0 (number_flat scale.num h.0) (flat_then (decimal scale.den) _ 0 (number_flat scale.den h.1) (flat_one (quoted scale.unit) (text_flat scale.unit)))))

-- ---- fixed kinds

mutual
  fixed_passes : (f : FixedTree) → FixedInRange f → Passes (fixed_texts f) (fixed_nesting f)
  fixed_passes (element width content) h =
      flat_then (keyword_text Word.Element) (decimal width ∷ content_texts content) 0 (record { flat = λ level. refl })
      (flat_then (decimal width) (content_texts content) 0 (number_flat width (omega (arith, h.0))) (content_passes content h.1))
  fixed_passes (group ms) h = block_passes Word.Group (members_texts ms) (members_nesting ms) (record { flat = λ level. refl }) (members_pass ms h)

  members_pass : (ms : MembersTree) → MembersInRange ms → Passes (members_texts ms) (members_nesting ms)
  members_pass no_members h = none_passes
  members_pass (member_and (named name f) ms) h =
      both_pass (name ∷ fixed_texts f) (members_texts ms) (fixed_nesting f) (members_nesting ms) (flat_then name (fixed_texts f) (fixed_nesting f) (word_flat name (name_word name h.0.0)) (fixed_passes f h.0.1)) (members_pass ms h.1)
  members_pass (member_and (spare width) ms) h =
      flat_both (keyword_text Word.Spare ∷ decimal width ∷ []) (members_texts ms) (members_nesting ms)
      (flat_then (keyword_text Word.Spare) (decimal width ∷ []) 0 (record { flat = λ level. refl }) (flat_one (decimal width) (number_flat width (omega (arith, h.0))))) (members_pass ms h.1)

part_passes : (ms : MembersTree) → MembersInRange ms → Passes (part_texts ms) (1 + members_nesting ms)
part_passes ms h = block_passes Word.Part (members_texts ms) (members_nesting ms) (record { flat = λ level. refl }) (members_pass ms h)

-- ---- kinds

-- how deep the braces of a kind's own text nest, tables aside
abbrev mutual
  text_nesting : KindTree → ℕ
  text_nesting (fixed f) = fixed_nesting f
  text_nesting (extended last ps) = 1 + parts_nesting ps
  text_nesting (counted size k) = 1 + text_nesting k
  text_nesting (by_fx f) = fixed_nesting f
  text_nesting explicit = 0
  text_nesting (compound ss) = 1 + slots_text_nesting ss

  slots_text_nesting : SlotsTree → ℕ
  slots_text_nesting no_slots = 0
  slots_text_nesting (slot_and spare_slot ss) = slots_text_nesting ss
  slots_text_nesting (slot_and (subitem name k) ss) = max (text_nesting k) (slots_text_nesting ss)

mutual
  one_deeper : (k : KindTree) → kind_nesting k ≤ text_nesting k + 1
  one_deeper (fixed f) = omega arith
  one_deeper (extended last ps) = omega arith
  one_deeper (counted size k) = omega (arith, one_deeper k)
  one_deeper (by_fx f) = omega arith
  one_deeper explicit = omega arith
  one_deeper (compound ss) = omega (arith, slots_one_deeper ss)

  slots_one_deeper : (ss : SlotsTree) → slots_nesting ss ≤ slots_text_nesting ss + 1
  slots_one_deeper no_slots = omega arith
  slots_one_deeper (slot_and spare_slot ss) = slots_one_deeper ss
  slots_one_deeper (slot_and (subitem name k) ss) = omega (arith, one_deeper k, slots_one_deeper ss)

extended_flat : (last : LastPart) → IsFlat (keyword_text (extended_word last))
extended_flat WithFx = record { flat = λ level. refl }
extended_flat WithoutFx = record { flat = λ level. refl }

counted_flat : (size : Counter) → IsFlat (keyword_text (counted_word size))
counted_flat One = record { flat = λ level. refl }
counted_flat Two = record { flat = λ level. refl }

mutual
  kind_passes : (k : KindTree) → KindInRange k → Passes (kind_texts k) (text_nesting k)
  kind_passes (fixed f) h = fixed_passes f h
  kind_passes (extended last ps) h =
      block_passes (extended_word last) (flat_map part_texts ps) (parts_nesting ps) (extended_flat last) (each_passes part_texts (λ p. 1 + members_nesting p) parts_nesting MembersInRange part_passes refl (λ p ps. refl) ps h)
  kind_passes (counted size k) h = block_passes (counted_word size) (kind_texts k) (text_nesting k) (counted_flat size) (kind_passes k h)
  kind_passes (by_fx f) h = flat_then (keyword_text Word.ByFx) (fixed_texts f) (fixed_nesting f) (record { flat = λ level. refl }) (fixed_passes f h)
  kind_passes explicit h = flat_one (keyword_text Word.Explicit) (record { flat = λ level. refl })
  kind_passes (compound ss) h = block_passes Word.Compound (slots_texts ss) (slots_text_nesting ss) (record { flat = λ level. refl }) (slots_pass ss h)

  slots_pass : (ss : SlotsTree) → SlotsInRange ss → Passes (slots_texts ss) (slots_text_nesting ss)
  slots_pass no_slots h = none_passes
  slots_pass (slot_and spare_slot ss) h = flat_both (keyword_text Word.Dash ∷ []) (slots_texts ss) (slots_text_nesting ss) (flat_one (keyword_text Word.Dash) (record { flat = λ level. refl })) (slots_pass ss h.1)
  slots_pass (slot_and (subitem name k) ss) h =
      both_pass (name ∷ kind_texts k) (slots_texts ss) (text_nesting k) (slots_text_nesting ss) (flat_then name (kind_texts k) (text_nesting k) (word_flat name (name_word name h.0.0)) (kind_passes k h.0.1)) (slots_pass ss h.1)

-- ---- specifications

item_passes : (item : ItemTree) → ItemInRange item → Passes (item_texts item) (text_nesting item.kind)
item_passes item h =
    flat_then (keyword_text Word.Item) _ (text_nesting item.kind) (record { flat = λ level. refl })
    (flat_then item.name _ (text_nesting item.kind) (word_flat item.name (name_word item.name h.0)) (flat_then (quoted item.title) (kind_texts item.kind) (text_nesting item.kind) (text_flat item.title) (kind_passes item.kind h.2)))

abbrev items_nesting : List ItemTree → ℕ
items_nesting [] = 0
items_nesting (item ∷ items) = max (text_nesting item.kind) (items_nesting items)

uap_slot_passes : (slot : UapSlot) → UapSlotInRange slot → Passes (uap_slot_texts slot) 0
uap_slot_passes Uap.Spare h = flat_one (keyword_text Word.Dash) (record { flat = λ level. refl })
uap_slot_passes (Uap.Item name) h = flat_one name (word_flat name (name_word name h))

spec_passes : (spec : SpecTree) → InRange spec → Passes (spelled spec) (max (1 + items_nesting spec.items) 1)
spec_passes spec h =
    flat_then (keyword_text Word.Category) _ _ (record { flat = λ level. refl })
    (flat_then (three_digits spec.category) _ _ (word_flat (three_digits spec.category) (category_word spec.category h.category))
    (flat_then (keyword_text Word.Edition) _ _ (record { flat = λ level. refl })
    (flat_then (quoted spec.edition) _ _ (text_flat spec.edition)
    (both_pass (block Word.Items (flat_map item_texts spec.items)) (block Word.Uap (flat_map uap_slot_texts spec.uap)) (1 + items_nesting spec.items) 1
    (block_passes Word.Items (flat_map item_texts spec.items) (items_nesting spec.items) (record { flat = λ level. refl }) (each_passes item_texts (λ item. text_nesting item.kind) items_nesting ItemInRange item_passes refl (λ item items. refl) spec.items h.items))
    (block_passes Word.Uap (flat_map uap_slot_texts spec.uap) 0 (record { flat = λ level. refl }) (each_passes uap_slot_texts no_depth no_depth UapSlotInRange uap_slot_passes refl (λ slot slots. refl) spec.uap h.uap))))))

-- ---- slots of records

-- the braces of a slot's values nest at most so deep
abbrev SlotNests : ℕ → SlotTree → Type 0
SlotNests n spare_slot = Unit {0}
SlotNests n (subitem name k) = kind_nesting k ≤ n

found_here : (n : ℕ) (b : Bool) (item : ItemTree) (o : Option ItemTree) → kind_nesting item.kind ≤ n → SlotNests n (slot_of_item o) → SlotNests n (slot_of_item (cond b (Some item) o))
found_here n true item o h t = h
found_here n false item o h t = t

found_nests : (n : ℕ) (test : ItemTree → Bool) (items : List ItemTree) → items_nesting items + 1 ≤ n → SlotNests n (slot_of_item (find test items))
found_nests n test [] h = tt
found_nests n test (item ∷ items) h = found_here n (test item) item (find test items) (omega (arith, one_deeper item.kind, h)) (found_nests n test items (omega (arith, h)))

and_nests : (n : ℕ) (slot : SlotTree) (ss : SlotsTree) → SlotNests n slot → slots_nesting ss ≤ n → slots_nesting (slot_and slot ss) ≤ n
and_nests n spare_slot ss h le = le
and_nests n (subitem name k) ss h le = omega (arith, h, le)

uap_nests : (items : List ItemTree) (uap : List UapSlot) → slots_nesting (slots_of (map (uap_slot items) uap)) ≤ items_nesting items + 1
uap_nests items [] = omega arith
uap_nests items (Uap.Spare ∷ uap) = uap_nests items uap
uap_nests items (Uap.Item name ∷ uap) =
    and_nests (items_nesting items + 1) (slot_of_item (first_named name items)) (slots_of (map (uap_slot items) uap)) (found_nests (items_nesting items + 1) (λ item. bytes_eq item.name name) items (omega arith)) (uap_nests items uap)

pub block_nests : (spec : SpecTree) → InRange spec → IsWithin 16 (spelled_tokens spec) → block_nesting spec ≤ 18
block_nests spec h within =
    let kept = levels 16 0 0 (spelled spec) (within_keeps 16 (spelled_tokens spec) within) in
    let deep = ((spec_passes spec h).pass 16 0 [] (omega arith) (subst (λ texts. Levels 16 0 texts) (sym (append-nil (spelled spec))) kept)).0 in
    omega (arith, deep, uap_nests spec.items spec.uap)

-- ---- names

mutual
  fixed_named : (f : FixedTree) → FixedInRange f → FixedNamed f
  fixed_named (element w c) h = tt
  fixed_named (group ms) h = members_named ms h

  members_named : (ms : MembersTree) → MembersInRange ms → MembersNamed ms
  members_named no_members h = tt
  members_named (member_and (spare w) ms) h = members_named ms h.1
  members_named (member_and (named name f) ms) h = (h.0.0, fixed_named f h.0.1, members_named ms h.1)

parts_named : (ps : List MembersTree) → AllByRecursion MembersInRange ps → AllByRecursion MembersNamed ps
parts_named [] h = tt
parts_named (p ∷ ps) h = (members_named p h.0, parts_named ps h.1)

mutual
  kind_named : (k : KindTree) → KindInRange k → KindNamed k
  kind_named (fixed f) h = fixed_named f h
  kind_named (extended last ps) h = parts_named ps h
  kind_named (counted size k) h = kind_named k h
  kind_named (by_fx f) h = fixed_named f h
  kind_named explicit h = tt
  kind_named (compound ss) h = slots_named ss h

  slots_named : (ss : SlotsTree) → SlotsInRange ss → SlotsNamed ss
  slots_named no_slots h = tt
  slots_named (slot_and spare_slot ss) h = slots_named ss h.1
  slots_named (slot_and (subitem name k) ss) h = (h.0.0, kind_named k h.0.1, slots_named ss h.1)

items_named : (items : List ItemTree) → AllByRecursion ItemInRange items → AllByRecursion ItemNamed items
items_named [] h = tt
items_named (item ∷ items) h = ((h.0.0, kind_named item.kind h.0.2), items_named items h.1)

pub spec_named : (spec : SpecTree) → InRange spec → IsNamed spec
spec_named spec h = record { items = items_named spec.items h.items }

pub file_tokens : (spec : SpecTree) (block : BlockTree) → InRange spec → NoFlaw spec → IsWithin 16 (spelled_tokens spec) → HoldsBlock spec block → AreTokensOf (BlockLine spec block) 20 (BlockTokens spec block)
file_tokens spec block h f within holds = line_tokens 20 spec block f (spec_named spec h) holds (tokens_within 20 spec block f (spec_named spec h) holds (let deep = block_nests spec h within in omega (arith, deep)))
