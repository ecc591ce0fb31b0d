-- What `show` over views makes of one block.
use Rattle.std.proofs.Common.{◌≡◌, ℕ, ◌<◌, ◌≤◌, List, [], ◌∷◌, ◌++◌, Option, Some, None, Result, Bor, length, codes, decimal, sym, ◌∙◌, ap, subst, arith, append-nil}
use Rattle.std.specs.Option.{option_map, option_copied}
use Rattle.ax_format.specs.Blocks.{read_block}
use Rattle.ax_format.specs.CanonicalOctets.{canon_length}
use Rattle.ax_format.specs.Flaws.{NoFlaw}
use Rattle.ax_format.specs.Framing.{RawTree}
use Rattle.ax_format.specs.Lengths.{capped}
use Rattle.ax_format.specs.Plain.{spec_tree, catalogue_tree}
use Rattle.ax_format.specs.Specification.{SpecTree, spec_of, record_slots}
use Rattle.ax_format.specs.declared.spec.Spec.{Spec}
use Rattle.ax_listing.specs.Shown.{ShowsRecords}
use Rattle.ax_listing.specs.Listing.{ListsBody}
use Rattle.ax_listing.specs.ShowCommand.{show_command, IsListed}
use Rattle.ax_endpoints.specs.Changes.{SinkChange}
use Rattle.ax_blocks.proofs.BlockSteps.{asked_category}
use Rattle.ax_blocks.proofs.MadeBlocks.{read_made, opaque_made, read_stop, short_stop, tree_taken}
use Rattle.ax_blocks.specs.Made.{IsMadeRead}
use Rattle.ax_blocks.specs.BlockTaking.{Takes, WritesOctets}
use Rattle.ax_blocks.specs.declared.work.WorkStop.{WorkStop}
use Rattle.ax_codec.specs.Standing.{StandsFor, StandForEach, codec_of}
use Rattle.ax_codec.specs.declared.codec.Codec.{Codec}
use Rattle.ax_text_form.proofs.Listables.{record_listable}
use Rattle.ax_text_form.specs.Listable.{SlotsListable}
use Rattle.ax_text_form.specs.Printing.{as_lines, Puts}
use Rattle.ax_text_form.specs.ShowText.{block_front, records_lines, ShowText, OpaqueShown}
use Rattle.ax_text_form.specs.ValueText.{one_onto}
use Rattle.ax_walk.specs.Views.{CountsRecords}
use Rattle.ax_canon.proofs.CodecsOf.{stands_there, none_there}
use Rattle.ax_canon.specs.Laid.{LaysBits}
use Rattle.ax_listing.proofs.TablesOf as TablesOf
use Rattle.ax_listing.specs.declared.tables.ListedUap.{ListedUap}

pub listable : (spec : SpecTree) → NoFlaw spec → SlotsListable (record_slots spec)
listable spec h = record_listable spec h

pub body_listed : (spec : SpecTree) (number category octets count : ℕ) (body old mid new : List ℕ) → old ≡ [] → Puts as_lines (one_onto (block_front number category octets ++ codes " records " ++ decimal count)) old mid → ShowsRecords spec body mid new
    → ListsBody spec number category octets count body new
body_listed spec number category octets count body old mid new e p h =
    let front = block_front number category octets ++ codes " records " ++ decimal count in record {
      records = h.records;
      spelled = h.spelled;
      is = sym (append-nil new) ∙ h.put.put [] ∙ p.put (records_lines spec 0 h.records []) ∙ ap (λ old. old ++ as_lines (front ∷ records_lines spec 0 h.records [])) e;
    }

pub ruleset bodies = (listable, body_listed)

-- ---- a block that was read

capped_small : (n : ℕ) → n < 4294967296 → capped n ≡ n
capped_small n lt = omega arith

pub read_listed : (codec : Codec) (spec : SpecTree) (raw : RawTree) (number octets count : ℕ) (output listing : List ℕ) → NoFlaw spec → StandsFor codec spec → raw.category ≡ spec.category → octets < 4294967296
    → LaysBits codec raw.body octets output → CountsRecords codec raw.body count → ListsBody spec number raw.category octets count raw.body listing → IsMadeRead (λ spec block. ShowText spec block number) spec raw listing
read_listed codec spec raw number octets count output listing clean stands same less laid counts h =
    let length_is : octets ≡ canon_length spec (read_block raw.category h.records) = (laid.begins spec h.records clean stands h.spelled).counted ∙ ap (λ n. canon_length spec (read_block n h.records)) (sym same) in
    let capped_is : octets ≡ capped (canon_length spec (read_block raw.category h.records)) = sym (capped_small octets less) ∙ ap capped length_is in
    let count_is : count ≡ length h.records = counts.counts spec h.records clean stands h.spelled in record {
      records = h.records;
      spelled = h.spelled;
      is = h.is ∙ (λ i. as_lines ((block_front number raw.category (capped_is i) ++ codes " records " ++ decimal (count_is i)) ∷ records_lines spec 0 h.records []));
    }

pub ruleset reads = read_listed

-- ---- a block of a catalogue

some_same : {A : Type 0} {s t : A} → Some s ≡ Some t → s ≡ t
some_same e = cc

none_some : {s : SpecTree} → None ≡ Some s → ⊥
none_some e = cc

-- the codec and the table of a category are of one specification
module _ (codecs : List Codec) (tables catalogue : List Spec) (category : ℕ) (same : tables ≡ catalogue) (found : Option (Bor ListedUap)) (looked : option_map (λ table. spec_tree table.items) (option_copied found) ≡ spec_of category (catalogue_tree tables)) where
  pub stands : (codec : Codec) (table : Bor ListedUap) → StandForEach codecs (catalogue_tree catalogue) → codec_of category codecs ≡ Some codec → found ≡ Some table → StandsFor codec (spec_tree table.now.items)
  stands codec table h f is = let s = stands_there codecs (catalogue_tree catalogue) category codec h f in subst (StandsFor codec) (some_same (sym s.known ∙ TablesOf.known tables catalogue category same found table looked is)) s.compiled.stands

  pub same_category : (table : Bor ListedUap) → found ≡ Some table → category ≡ table.now.items.category
  same_category table is = asked_category category (catalogue_tree catalogue) table.now.items (TablesOf.known tables catalogue category same found table looked is)

  pub never : (codec : Codec) → StandForEach codecs (catalogue_tree catalogue) → codec_of category codecs ≡ Some codec → found ≡ None → ⊥
  never codec h f is = let s = stands_there codecs (catalogue_tree catalogue) category codec h f in none_some (sym (TablesOf.unknown tables catalogue category same found looked is) ∙ s.known)

pub opaque_listed : (codecs : List Codec) (catalogue : List SpecTree) (number : ℕ) (raw : RawTree) (old listing : List ℕ) → StandForEach codecs catalogue → codec_of raw.category codecs ≡ None → length raw.body ≤ 65532 → 1 ≤ length raw.body → old ≡ []
    → listing ≡ old ++ OpaqueShown number raw.category raw.body → IsListed catalogue number raw listing
opaque_listed codecs catalogue number raw old listing h none few some e is =
    opaque_made (λ number spec block. ShowText spec block number) (λ number category content. OpaqueShown number category content) catalogue number raw listing few some (none_there codecs catalogue raw.category h none)
    (is ∙ ap (λ old. old ++ OpaqueShown number raw.category raw.body) e)

pub read_block_listed : (catalogue : List SpecTree) (number : ℕ) (raw : RawTree) (spec : SpecTree) (listing : List ℕ) → length raw.body ≤ 65532 → spec_of raw.category catalogue ≡ Some spec → IsMadeRead (λ spec block. ShowText spec block number) spec raw listing → IsListed catalogue number raw listing
read_block_listed catalogue number raw spec listing few known h = read_made (λ number spec block. ShowText spec block number) (λ number category content. OpaqueShown number category content) catalogue number raw spec listing few known h

pub ruleset blocks = (read_block_listed, opaque_listed, read_stop, short_stop, TablesOf.masked, TablesOf.known, stands, same_category, never)

pub listed_taken : (catalogue : List SpecTree) (number : ℕ) (raw : RawTree) (o : SinkChange) (held : Option (List ℕ)) (faults : ℕ) (listing laid : List ℕ) (result : Result Unit WorkStop) → IsListed catalogue number raw listing → laid ≡ listing → WritesOctets o laid result
    → Takes (show_command catalogue) number raw o (record { held = held; held' = held; faults = faults; faults' = faults }) result
listed_taken catalogue number raw o held faults listing laid result h is w = tree_taken (λ number spec block. ShowText spec block number) (λ number category content. OpaqueShown number category content) catalogue number raw o held faults listing laid result h is w

pub ruleset takes = listed_taken
