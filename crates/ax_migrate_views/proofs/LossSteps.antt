-- Lines of losses, written one after another.
use Rattle.std.proofs.Common.{◌≡◌, ℕ, zero, suc, ◌+◌, ◌&&◌, cond, Bool, true, false, is_none, ◌<◌, ◌≤◌, List, [], ◌∷◌, ◌++◌, length, take, drop, length-drop, get_or, Option, option_and_then, refl, sym, ◌∙◌, ap, arith, subst, append_assoc, append-nil, Result, Ok, Err, IsErr}
use Rattle.std.proofs.lemmas.List.{drop_all, length-map, length-take-le}
use Rattle.std.proofs.lemmas.List.Concat.{flat_map-append}
use Rattle.ax_bits.proofs.Words.{length-bits}
use Rattle.ax_bits.specs.Bits.{bits}
use Rattle.ax_relation.specs.declared.relation.RelationPath.{RelationPath}
use Rattle.ax_migration.specs.Finding.{path_loss, record_losses}
use Rattle.ax_relation.specs.Standing.{value_below, is_there}
use Rattle.ax_migration.specs.Losing.{lost_line, lost_lines}
use Rattle.ax_migration.specs.declared.losses.LossEntry.{LossEntry}
use Rattle.ax_migrate_views.specs.Losses.{shown_losses, losses_here}
use Rattle.ax_migrate_views.specs.declared.losses.RecordLosses.{RecordLosses}
use Rattle.ax_format.proofs.BodyReader.{compound_some}
use Rattle.ax_format.proofs.Namings.{from_place}
use Rattle.ax_format.specs.At.{slot_value}
use Rattle.ax_format.specs.InBounds.{InBounds}
use Rattle.ax_format.specs.Spelling.{Spells}
use Rattle.ax_format.specs.Tree.{slots_of, KindTree, ValueTree, marked, EntriesTree}
use Rattle.ax_endpoints.proofs.Pieces.{change, written_then, failed_before, same_text}
use Rattle.ax_endpoints.specs.Changes.{Wrote}
use Rattle.ax_endpoints.specs.declared.sinks.SinkFailed.{SinkFailed}
use Rattle.ax_codec.specs.declared.codec.Codec.{Codec}
use Rattle.ax_codec.specs.Meaning.{meanings, linked_slots}
use Rattle.ax_codec.specs.Table.{record_kind_at}
use Rattle.ax_codec.specs.declared.node.Node.{Node}
use Rattle.ax_walk.proofs.ItemSteps.{is_marked}
use Rattle.ax_walk.proofs.Spelled.{value_spelled}
use Rattle.ax_walk.specs.Left.{records_left}
use Rattle.ax_walk.specs.Pieces.{pieces, first_size, ArePieces}
use Rattle.ax_walk.specs.Values.{IsOne, value_in, entries_in}
use Rattle.ax_walk.specs.declared.records.Records.{Records}

-- ---- a text that is written piece by piece

pub record Front (h h' : Option (List ℕ)) (f f' : ℕ) (whole rest : List ℕ) : Type 0 where
  pub front : List ℕ
  pub split : whole ≡ front ++ rest
  pub wrote : Wrote (change h h' f f') (Ok tt) front

pub front_more : (h h' h'' : Option (List ℕ)) (f f' f'' : ℕ) (u : Unit) (whole rest piece later : List ℕ) → rest ≡ piece ++ later → Front h h' f f' whole rest → Wrote (change h' h'' f' f'') (Ok u) piece → Front h h'' f f'' whole later
front_more h h' h'' f f' f'' u whole rest piece later e w v = record {
  front = w.front ++ piece;
  split = w.split ∙ ap (λ t. w.front ++ t) e ∙ sym (append_assoc w.front piece later);
  wrote = written_then h h' h'' f f' f'' tt (Ok tt) w.front piece w.wrote v;
}

pub front_failed : (h h' h'' : Option (List ℕ)) (f f' f'' : ℕ) (x : SinkFailed) (r : Result Unit SinkFailed) (whole rest piece later : List ℕ) → IsErr r → rest ≡ piece ++ later → Front h h' f f' whole rest → Wrote (change h' h'' f' f'') (Err x) piece
    → Wrote (change h h'' f f'') r whole
front_failed h h' h'' f f' f'' x r whole rest piece later is e w v =
    same_text h h'' f f'' r (w.front ++ (piece ++ later)) whole (ap (λ t. w.front ++ t) (sym e) ∙ sym w.split)
    (written_then h h' h'' f f' f'' tt r w.front (piece ++ later) w.wrote (failed_before h' h'' f' f'' x r piece later is v))

-- ---- the lines of a record

pub path_lines : (block n : ℕ) (es : EntriesTree) (paths : List RelationPath) (i : ℕ) (p : RelationPath) → i < length paths → p ≡ get_or paths i p
    → lost_lines block (record_losses n es (drop i paths)) ≡ lost_lines block (path_loss n es p) ++ lost_lines block (record_losses n es (drop (i + 1) paths))
path_lines block n es paths i p within is =
    ap (λ ps. lost_lines block (record_losses n es ps)) (from_place paths i p within is) ∙ flat_map-append (λ (l : LossEntry). lost_line block l.record_at l.path) (path_loss n es p) (record_losses n es (drop (i + 1) paths))

pub no_path_left : (block n : ℕ) (es : EntriesTree) (paths : List RelationPath) (i : ℕ) → length paths ≤ i → lost_lines block (record_losses n es (drop i paths)) ≡ []
no_path_left block n es paths i past = ap (λ ps. lost_lines block (record_losses n es ps)) (drop_all i paths past)

-- the lines of a lost path
pub lost_path : (block n : ℕ) (es : EntriesTree) (p : RelationPath) → is_none p.new ≡ true → is_there p.old p.part es ≡ true → lost_lines block (path_loss n es p) ≡ lost_line block n p.text
lost_path block n es p e f = (λ i. lost_lines block (cond (e i && f i) (record { record_at = n; path = p.text } ∷ []) [])) ∙ append-nil (lost_line block n p.text)

-- ---- no record is left

pub none_left : (paths : List RelationPath) (n : ℕ) (here : Option RecordLosses) (left : List (Codec × List ℕ)) → losses_here here ≡ [] → left ≡ [] → losses_here here ++ shown_losses paths n left ≡ []
none_left paths n here left e f = λ i. e i ++ shown_losses paths n (f i)

-- ---- how many records are left

pub records_count : (it : Records) → length (records_left it) ≡ it.count
records_count it = length-map (pieces false (record_kind_at it.codec.now.nodes it.codec.now.slots) it.count it.left.now) (λ octets. shown it octets) ∙ pieces_count false (record_kind_at it.codec.now.nodes it.codec.now.slots) it.count it.left.now
  where
    shown : Records → List ℕ → Codec × List ℕ
    shown it octets = (it.codec.now, octets)

    pieces_count : (fx : Bool) (k : KindTree) (n : ℕ) (xs : List ℕ) → length (pieces fx k n xs) ≡ n
    pieces_count fx k zero xs = refl
    pieces_count fx k (suc n) xs = ap suc (pieces_count fx k n (drop (first_size fx k xs) xs))

one_some : (nodes : List Node) (links octets : List ℕ) → InBounds (record_kind_at nodes links) → IsOne (record_kind_at nodes links) octets → 0 < length octets
unfolding record_kind_at
one_some nodes links octets bounds one =
    let k = record_kind_at nodes links in
    let s = subst (λ v. Spells k v (bits octets)) (is_marked nodes links octets) (value_spelled k octets bounds one) in
    omega (arith, compound_some (slots_of (linked_slots (meanings nodes) links)) (entries_in (value_in k octets)) (bits octets) s, length-bits octets)

few_pieces : (nodes : List Node) (links : List ℕ) (n : ℕ) (xs : List ℕ) → InBounds (record_kind_at nodes links) → ArePieces false (record_kind_at nodes links) n xs → n ≤ length xs
few_pieces nodes links zero xs bounds h = omega arith
few_pieces nodes links (suc n) xs bounds h =
    let m = first_size false (record_kind_at nodes links) xs in
    omega (arith, h.0, one_some nodes links (take m xs) bounds h.1, length-take-le m xs h.0, length-drop m xs, few_pieces nodes links n (drop m xs) bounds h.2)

pub records_few : (it : Records) → length (records_left it) ≤ 65532
records_few it = omega (arith, records_count it, few_pieces it.codec.now.nodes it.codec.now.slots it.count it.left.now it.codec.now.records.bounds it.records, it.size)
