-- The octets of a record that is seen, as a value of a kind that is the table's but for names and contents.
use Rattle.std.proofs.Common.{◌≡◌, ℕ, ◌-◌, List, length, take, drop, refl, sym, ◌∙◌, ap, arith, subst}
use Rattle.std.proofs.lemmas.List.{take_all}
use Rattle.ax_bits.specs.Bits.{bits}
use Rattle.ax_format.specs.InBounds.{InBounds}
use Rattle.ax_format.specs.Reader.{read}
use Rattle.ax_format.specs.Spelling.{Spells}
use Rattle.ax_format.specs.Tree.{KindTree}
use Rattle.ax_fspec.specs.Reading.{IsSpelledAt}
use Rattle.ax_codec.proofs.BareKinds.{bare_read}
use Rattle.ax_codec.specs.Bare.{bare_kind}
use Rattle.ax_codec.specs.Table.{record_kind_at}
use Rattle.ax_codec.specs.declared.codec.Codec.{Codec}
use Rattle.ax_view.proofs.BareBounds.{in_bounds}
use Rattle.ax_walk.proofs.Spelled.{all_spelled}
use Rattle.ax_walk.specs.Values.{IsAll, IsRecord, value_in, value_read}

module _ (codec : Codec) (k : KindTree) (same : bare_kind k ≡ record_kind_at codec.nodes codec.slots) where
  pub record_bounds : InBounds k
  record_bounds = in_bounds k (subst InBounds (sym same) codec.records.bounds)

  read_same : (b : List ℕ) → read (record_kind_at codec.nodes codec.slots) b ≡ read k b
  read_same b = ap (λ k. read k b) (sym same) ∙ bare_read k b

  module _ (octets : List ℕ) (one : IsRecord codec octets) where
    spells : Spells k (value_in (record_kind_at codec.nodes codec.slots) octets) (bits octets)
    unfolding value_in
    spells = subst (λ v. Spells k v (bits octets)) (ap value_read (sym (read_same (bits octets))))
        (all_spelled k octets record_bounds (read k (bits octets)) refl (subst IsAll (read_same (bits octets)) one.all))

    pub record_spelled : IsSpelledAt k octets 0 (length octets) (value_in (record_kind_at codec.nodes codec.slots) octets)
    record_spelled = record {
      forwards = omega arith;
      within = omega arith;
      spelling = record { spells = subst (λ xs. Spells k (value_in (record_kind_at codec.nodes codec.slots) octets) (bits xs)) (sym whole) spells };
    }
      where
        whole : take (length octets - 0) (drop 0 octets) ≡ octets
        whole = take_all (length octets - 0) octets (omega arith)
