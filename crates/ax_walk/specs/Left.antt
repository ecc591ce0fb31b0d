-- What is left of the records of a body, of the parts and of the occurrences of an item.
use Rattle.std.specs.Prelude.{ℕ, Bool, false, List, map}
use Rattle.ax_codec.specs.Meaning.{meanings, linked_parts}
use Rattle.ax_codec.specs.Table.{kind_at, record_kind_at}
use Rattle.ax_codec.specs.declared.codec.Codec.{Codec}
use Rattle.ax_walk.specs.Pieces.{pieces, part_pieces, part_sizes}
use Rattle.ax_walk.specs.declared.item.ItemView.{ItemView}
use Rattle.ax_walk.specs.declared.occurrences.Occurrences.{Occurrences}
use Rattle.ax_walk.specs.declared.parts.PartSlices.{PartSlices}
use Rattle.ax_walk.specs.declared.record.RecordView.{RecordView}
use Rattle.ax_walk.specs.declared.records.Records.{Records}

-- a record's codec and octets
abbrev pub record_shown : RecordView → Codec × List ℕ
record_shown r = (r.codec.now, r.body.now)

abbrev pub records_left : Records → List (Codec × List ℕ)
records_left it = map (λ octets. (it.codec.now, octets)) (pieces false (record_kind_at it.codec.now.nodes it.codec.now.slots) it.count it.left.now)

-- the octets of the parts of an item
abbrev pub parts_left : PartSlices → List (List ℕ)
parts_left it = part_pieces (part_sizes it.last (linked_parts (meanings it.codec.now.nodes) it.links.now)) it.left.now

-- an occurrence's codec, the link of its node, whether it is one by FX, and its octets
abbrev pub Occurrence : Type 0
Occurrence = Codec × ℕ × Bool × List ℕ

abbrev pub occurrence_shown : ItemView → Occurrence
occurrence_shown item = (item.codec.now, item.link, item.by_fx, item.body.now)

abbrev pub occurrences_shown : Codec → ℕ → Bool → List (List ℕ) → List Occurrence
occurrences_shown codec link fx octets = map (λ xs. (codec, link, fx, xs)) octets

abbrev pub occurrences_left : Occurrences → List Occurrence
occurrences_left it = occurrences_shown it.codec.now it.link it.by_fx (pieces it.by_fx (kind_at it.codec.now.nodes it.link) it.count it.left.now)
