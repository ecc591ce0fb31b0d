-- Texts that are written piece by piece.
use Rattle.std.proofs.Common.{◌≡◌, ℕ, ◌+◌, ◌<◌, ◌≤◌, List, ◌++◌, Option, length, take, refl, sym, ◌∙◌, ap, arith, length-append, Result, Ok, Err, OnOk, OnErr, IsErr, [], subst}
use Rattle.std.proofs.Math.Seq.{take-append-add}
use Rattle.std.proofs.lemmas.List.{take-append-le}
use Rattle.ax_endpoints.specs.Told.{with_end, Rose}
use Rattle.ax_endpoints.proofs.Ends.{with_end-nil, with_end-append, Rose-later}
use Rattle.ax_endpoints.specs.Changes.{SinkChange, GainsPart, Wrote}
use Rattle.ax_endpoints.specs.declared.sinks.SinkFailed.{SinkFailed}

abbrev pub change : Option (List ℕ) → Option (List ℕ) → ℕ → ℕ → SinkChange
change held held' faults faults' = record { held = held; held' = held'; faults = faults; faults' = faults' }

-- a piece was added, and then another
two_added : (h h' h'' : Option (List ℕ)) (a b : List ℕ) → h' ≡ with_end h a → h'' ≡ with_end h' b → h'' ≡ with_end h (a ++ b)
two_added h h' h'' a b e f = f ∙ ap (λ t. with_end t b) e ∙ with_end-append h a b

-- a piece failed
first_cut : (h h' : Option (List ℕ)) (f f' : ℕ) (a : List ℕ) → (n : ℕ) × (n < length a) × (h' ≡ with_end h (take n a)) → Rose f f' → GainsPart (change h h' f f') a
first_cut h h' f f' a (n, less, e) rose = record { count = n; within = omega arith; gained = e; rose = rose }

-- what comes after a text that was cut isn't there
cut_before : (h h' : Option (List ℕ)) (f f' : ℕ) (a b : List ℕ) → GainsPart (change h h' f f') a → GainsPart (change h h' f f') (a ++ b)
cut_before h h' f f' a b g =
    let within : g.count < length a = g.within in
    let long : length (a ++ b) ≡ length a + length b = length-append a b in
    record {
      count = g.count;
      within = omega arith;
      gained = g.gained ∙ ap (with_end h) (sym (take-append-le g.count a b (omega arith)));
      rose = g.rose;
    }

-- a text was added, and the one after it was cut
cut_after : (h h' h'' : Option (List ℕ)) (f f' f'' : ℕ) (a b : List ℕ) → h' ≡ with_end h a → f ≤ f' → GainsPart (change h' h'' f' f'') b → GainsPart (change h h'' f f'') (a ++ b)
cut_after h h' h'' f f' f'' a b e l g =
    let within : g.count < length b = g.within in
    let long : length (a ++ b) ≡ length a + length b = length-append a b in
    record {
      count = length a + g.count;
      within = omega arith;
      gained = g.gained ∙ ap (λ t. with_end t (take g.count b)) e ∙ with_end-append h a (take g.count b) ∙ ap (with_end h) (sym (take-append-add a b g.count));
      rose = Rose-later l g.rose;
    }

-- what a call that writes a piece says
pub piece_written : (h h' : Option (List ℕ)) (f f' : ℕ) (r : Result Unit SinkFailed) (a : List ℕ)
    → OnOk r (h' ≡ with_end h a) → OnErr r ((n : ℕ) × (n < length a) × (h' ≡ with_end h (take n a))) → OnErr r (Rose f f') → f ≤ f' → f' ≤ f + 1 → OnOk r (f' ≡ f) → Wrote (change h h' f f') r a
piece_written h h' f f' (Ok u) a whole prefix rose later once quiet = record { whole = whole; part = prefix; later = later; once = once; quiet = quiet }
piece_written h h' f f' (Err e) a whole prefix rose later once quiet = record { whole = whole; part = first_cut h h' f f' a prefix rose; later = later; once = once; quiet = quiet }

-- a text, and another after it
pub written_then : (h h' h'' : Option (List ℕ)) (f f' f'' : ℕ) (u : Unit) (r : Result Unit SinkFailed) (a b : List ℕ) → Wrote (change h h' f f') (Ok u) a → Wrote (change h' h'' f' f'') r b → Wrote (change h h'' f f'') r (a ++ b)
written_then h h' h'' f f' f'' u (Ok t) a b v w =
    let l : f' ≡ f = v.quiet in let m : f'' ≡ f' = w.quiet in
    record { whole = two_added h h' h'' a b v.whole w.whole; part = w.part; later = omega arith; once = omega arith; quiet = omega arith }
written_then h h' h'' f f' f'' u (Err e) a b v w =
    let l : f' ≡ f = v.quiet in let m : f' ≤ f'' = w.later in let n : f'' ≤ f' + 1 = w.once in
    record { whole = w.whole; part = cut_after h h' h'' f f' f'' a b v.whole v.later w.part; later = omega arith; once = omega arith; quiet = tt }

-- a text that failed, and another that would stand after it
pub failed_before : (h h' : Option (List ℕ)) (f f' : ℕ) (e : SinkFailed) (r : Result Unit SinkFailed) (a b : List ℕ) → IsErr r → Wrote (change h h' f f') (Err e) a → Wrote (change h h' f f') r (a ++ b)
failed_before h h' f f' e (Ok u) a b is w = absurd (cc)
failed_before h h' f f' e (Err d) a b is w = record { whole = w.whole; part = cut_before h h' f f' a b w.part; later = w.later; once = w.once; quiet = w.quiet }

-- a text that is equal to another
pub same_text : (h h' : Option (List ℕ)) (f f' : ℕ) (r : Result Unit SinkFailed) (a b : List ℕ) → a ≡ b → Wrote (change h h' f f') r a → Wrote (change h h' f f') r b
same_text h h' f f' r a b e w = let P : List ℕ → Type 0 = λ t. Wrote (change h h' f f') r t in subst P e w

-- nothing was written
pub nothing_written : (h : Option (List ℕ)) (f : ℕ) (u : Unit) → Wrote (change h h f f) (Ok u) []
nothing_written h f u = record { whole = sym (with_end-nil h); part = tt; later = omega arith; once = omega arith; quiet = refl }

pub ruleset pieces = (piece_written, written_then, failed_before, nothing_written)
