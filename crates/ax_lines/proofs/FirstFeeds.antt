-- What the search for an octet says of the first line feed.
use Rattle.std.proofs.Common.{◌≡◌, ℕ, zero, suc, ◌<◌, ◌≤◌, ◌==◌, true, List, [], ◌∷◌, Option, Some, None, length, slice_index, refl, ap, arith}
use Rattle.std.proofs.lemmas.Bool.{eqb-true}
use Rattle.memchr.specs.Find.{IsFirstByte, is_byte}
use Rattle.ax_lines.specs.Feeds.{IsPlain, IsFeedAt, IsFirstFeed}

-- no place has a line feed
nowhere : (xs : List ℕ) → ((k : ℕ) → 0 ≤ k → k < length xs → (slice_index xs k == 10) ≡ true → ⊥) → IsPlain xs
nowhere [] h = tt
nowhere (x ∷ xs) h = ((λ e. h 0 (omega arith) (omega arith) (ap (λ y. y == 10) e)), nowhere xs (λ k low high is. h (suc k) (omega arith) (omega arith) is))

-- no place before it has a line feed
there : (xs : List ℕ) (at : ℕ) → ((k : ℕ) → 0 ≤ k → k < at → (slice_index xs k == 10) ≡ true → ⊥) → at < length xs → (slice_index xs at == 10) ≡ true → IsFeedAt xs at
there [] at h less is = absurd (omega arith)
there (x ∷ xs) zero h less is = record { front = []; following = xs; split = ap (λ y. y ∷ xs) (eqb-true x 10 is); plain = tt; place = refl }
there (x ∷ xs) (suc at) h less is =
    let later = there xs at (λ k low high at_k. h (suc k) (omega arith) (omega arith) at_k) (omega arith) is in
    record {
      front = x ∷ later.front;
      following = later.following;
      split = ap (λ l. x ∷ l) later.split;
      plain = ((λ e. h 0 (omega arith) (omega arith) (ap (λ y. y == 10) e)), later.plain);
      place = ap (λ n. suc n) later.place;
    }

pub first_found : (xs : List ℕ) (r : Option ℕ) → IsFirstByte (is_byte 10) xs r → IsFirstFeed xs r
first_found xs None h = nowhere xs h
first_found xs (Some at) h = there xs at h.0.before h.0.high h.1

pub ruleset first_feeds = (first_found)
