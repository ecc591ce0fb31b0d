-- What a sink gains by one change and another after it.
use Rattle.std.proofs.Common.{◌≡◌, ℕ, List, [], ◌++◌, Option, take, sym, ◌∙◌, ap}
use Rattle.ax_endpoints.proofs.Ends.{with_end-nil, with_end-append}
use Rattle.ax_endpoints.specs.Changes.{SinkChange, Gains, GainsNothing, GainsPart, GainsWithPart}
use Rattle.ax_endpoints.specs.Told.{with_end}

-- a change, and another after it
abbrev pub both : SinkChange → SinkChange → SinkChange
both o s = record { held = o.held; held' = s.held'; faults = o.faults; faults' = s.faults' }

pub gains_both : (o s : SinkChange) (a b : List ℕ) → s.held ≡ o.held' → Gains o a → Gains s b → Gains (both o s) (a ++ b)
gains_both o s a b joins g h = h ∙ ap (λ t. with_end t b) (joins ∙ g) ∙ with_end-append o.held a b

pub gains_on : (o s : SinkChange) (a : List ℕ) → s.held ≡ o.held' → Gains o a → GainsNothing s → Gains (both o s) a
gains_on o s a joins g h = h ∙ joins ∙ g

pub gains_part : (o s : SinkChange) (a b : List ℕ) → s.held ≡ o.held' → Gains o a → GainsPart s b → GainsWithPart (both o s) a b
gains_part o s a b joins g h = record {
  count = h.count;
  within = h.within;
  gained = h.gained ∙ ap (λ t. with_end t (take h.count b)) (joins ∙ g) ∙ with_end-append o.held a (take h.count b);
}

pub gains_none : (held : Option (List ℕ)) (faults later : ℕ) → Gains (record { held = held; held' = held; faults = faults; faults' = later }) []
gains_none held faults later = sym (with_end-nil held)
