-- What octets show that end with a line feed, or pass a limit, or end with the input.
use Rattle.std.proofs.Common.{◌≡◌, ℕ, zero, suc, ◌+◌, ◌<◌, ◌≤◌, ◌⊎◌, inl, inr, List, [], ◌∷◌, ◌++◌, Option, Some, None, length, take, drop, min, refl, sym, ◌∙◌, ap, subst, arith, append_assoc, append-nil, length-append, length-take-le, Result, Ok, Err}
use Rattle.std.proofs.Math.Seq.{take-length, take-append_seam, drop-append-add}
use Rattle.std.proofs.lemmas.Bool.{cases_lt}
use Rattle.std.proofs.lemmas.List.{take-append-le}
use Rattle.ax_lines.specs.Feeds.{IsNoFeed, IsPlain, IsFirstFeed}
use Rattle.ax_lines.specs.Judging.{IsCut, Judges}
use Rattle.ax_lines.specs.Lined.{PassesLimit, PassesLine}
use Rattle.ax_lines.specs.declared.judging.Cut.{Cut}
use Rattle.ax_lines.specs.declared.line_error.LineError.{LineError}
use Rattle.ax_lines.specs.declared.line_error.LineError.TheVariants.{InputTooLong, LineTooLong}
use Rattle.ax_endpoints.specs.Told.{IsAtEnd}

-- ---- octets parted at a place

-- the octet at that place, and those after it
record Parted (xs : List ℕ) (n : ℕ) : Type 0 where
  pub octet : ℕ
  pub following : List ℕ
  pub split : xs ≡ take n xs ++ (octet ∷ following)

parted : (xs : List ℕ) (n : ℕ) → n < length xs → Parted xs n
parted [] n less = absurd (omega arith)
parted (x ∷ xs) zero less = record { octet = x; following = xs; split = refl }
parted (x ∷ xs) (suc n) less = let p = parted xs n (omega arith) in record { octet = p.octet; following = p.following; split = ap (λ l. x ∷ l) p.split }

plain_after : (front following : List ℕ) (octet : ℕ) → IsPlain (front ++ (octet ∷ following)) → IsNoFeed octet
plain_after [] following octet p = p.0
plain_after (x ∷ front) following octet p = plain_after front following octet p.1

plain_take : (xs : List ℕ) (n : ℕ) → IsPlain xs → IsPlain (take n xs)
plain_take xs zero p = tt
plain_take [] (suc n) p = tt
plain_take (x ∷ xs) (suc n) p = (p.0, plain_take xs n p.1)

-- ---- a limit is passed

passes_line : (line_limit limit given room : ℕ) (octets front following : List ℕ) → given + room ≡ limit → octets ≡ front ++ following → IsPlain front → line_limit < length front → line_limit < room → PassesLine line_limit limit given octets
passes_line line_limit limit given room octets front following counted split plain far within =
    let p = parted front line_limit far in
    let size : length (take line_limit front) ≡ line_limit = length-take-le line_limit front (omega arith) in
    record {
      front = take line_limit front;
      octet = p.octet;
      following = p.following ++ following;
      split = split ∙ ap (λ l. l ++ following) p.split ∙ append_assoc (take line_limit front) (p.octet ∷ p.following) following;
      plain = plain_take front line_limit plain;
      one_more = plain_after (take line_limit front) p.following p.octet (subst IsPlain p.split plain);
      count = size;
      within = omega arith;
    }

passes_limit : (line_limit limit given room : ℕ) (octets front following : List ℕ) → given + room ≡ limit → octets ≡ front ++ following → IsPlain front → room ≤ length front → room < length octets → room ≤ line_limit → PassesLimit line_limit limit given octets
passes_limit line_limit limit given room octets front following counted split plain le far short =
    let p = parted octets room far in
    let size : length (take room octets) ≡ room = length-take-le room octets (omega arith) in
    let same : take room octets ≡ take room front = ap (take room) split ∙ take-append-le room front following le in
    record {
      front = take room octets;
      octet = p.octet;
      following = p.following;
      split = p.split;
      plain = subst IsPlain (sym same) (plain_take front room plain);
      short = omega arith;
      count = omega arith;
    }

-- ---- the cases of an answer

by_order : (a b : ℕ) → (a ≤ b → ⊥) → (b < a) ⊎ (a ≤ b) → b < a
by_order a b never (inl less) = less
by_order a b never (inr le) = absurd (never le)

not_le : (a b : ℕ) → (a ≤ b → ⊥) → b < a
not_le a b never = by_order a b never (cases_lt b a)

-- of that many octets, with the place of their first line feed
abbrev pub JudgesAll : ℕ → ℕ → Option ℕ → ℕ → Result (Option Cut) LineError → Type 0
JudgesAll line_limit room feed count result =
    (limit given : ℕ) (octets : List ℕ) (left : Option (List ℕ)) → given + room ≡ limit → length octets ≡ count → IsFirstFeed octets feed → (feed ≡ None → count < min line_limit room + 1 → IsAtEnd left)
    → Judges line_limit limit given octets left result

front_of : (octets front following : List ℕ) (at : ℕ) → octets ≡ front ++ (10 ∷ following) → length front ≡ at → take at octets ≡ front
front_of octets front following at split place = ap (take at) split ∙ ap (λ n. take n (front ++ (10 ∷ following))) (sym place) ∙ take-append_seam front (10 ∷ following)

after_of : (octets front following : List ℕ) (at whole : ℕ) → octets ≡ front ++ (10 ∷ following) → length front ≡ at → whole ≡ at + 1 → drop whole octets ≡ following
after_of octets front following at whole split place is =
    let e : whole ≡ length front + 1 = omega arith in
    ap (drop whole) split ∙ ap (λ n. drop n (front ++ (10 ∷ following))) e ∙ drop-append-add front (10 ∷ following) 1

size_of : (octets front following : List ℕ) → octets ≡ front ++ (10 ∷ following) → length octets ≡ length front + suc (length following)
size_of octets front following split = ap length split ∙ length-append front (10 ∷ following)

none_dropped : (octets : List ℕ) (n : ℕ) → length octets ≤ n → drop n octets ≡ []
none_dropped [] zero le = refl
none_dropped [] (suc n) le = refl
none_dropped (x ∷ octets) zero le = absurd (omega arith)
none_dropped (x ∷ octets) (suc n) le = none_dropped octets n (omega arith)

all_taken : (octets : List ℕ) (n : ℕ) → length octets ≡ n → take n octets ≡ octets
all_taken octets n e = ap (λ m. take m octets) (sym e) ∙ take-length octets

empty : (octets : List ℕ) → length octets ≡ 0 → octets ≡ []
empty [] e = refl
empty (x ∷ octets) e = absurd (omega arith)

pub line_there : (line_limit room count : ℕ) (feed : Option ℕ) (cut : Cut) → IsCut feed count cut → cut.line ≤ line_limit → cut.whole ≤ room → (cut.whole ≡ 0 → ⊥) → JudgesAll line_limit room feed count (Ok (Some cut))
line_there line_limit room count (Some at) cut is short within some limit given octets left counted size h whole =
    let front : take cut.line octets ≡ h.front = front_of octets h.front h.following cut.line h.split (h.place ∙ sym is.0) in
    let following : drop cut.whole octets ≡ h.following = after_of octets h.front h.following at cut.whole h.split h.place is.1 in
    let long : length octets ≡ length h.front + suc (length h.following) = size_of octets h.front h.following h.split in
    let line : cut.line ≡ at = is.0 in let all : cut.whole ≡ at + 1 = is.1 in let place : length h.front ≡ at = h.place in
    let taken : length (take cut.line octets) ≡ length h.front = ap length front in
    record {
      order = omega arith;
      within = omega arith;
      shows = inl (record {
        split = h.split ∙ (λ i. sym front i ++ (10 ∷ sym following i));
        plain = subst IsPlain (sym front) h.plain;
        short = omega arith;
        within = omega arith;
      });
    }
line_there line_limit room count None cut is short within some limit given octets left counted size h whole =
    let line : cut.line ≡ count = is.0 in let all : cut.whole ≡ count = is.1 in
    let front : take cut.line octets ≡ octets = all_taken octets cut.line (omega arith) in
    let taken : length (take cut.line octets) ≡ length octets = ap length front in
    record {
      order = omega arith;
      within = omega arith;
      shows = inr (
        record {
          split = sym front;
          none_following = none_dropped octets cut.whole (omega arith);
          some = not_le (length (take cut.line octets)) 0 (λ le. some (omega arith));
          plain = subst IsPlain (sym front) h;
          short = omega arith;
          within = omega arith;
        },
        whole refl (omega arith),
      );
    }

pub none_there : (line_limit room count : ℕ) (feed : Option ℕ) (cut : Cut) → IsCut feed count cut → cut.whole ≡ 0 → JudgesAll line_limit room feed count (Ok None)
none_there line_limit room count (Some at) cut is none limit given octets left counted size h whole = absurd (let all : cut.whole ≡ at + 1 = is.1 in omega arith)
none_there line_limit room count None cut is none limit given octets left counted size h whole =
    let all : cut.whole ≡ count = is.1 in
    (empty octets (omega arith), whole refl (omega arith))

-- one of the limits doesn't allow it
abbrev pub IsPast : ℕ → ℕ → Cut → Type 0
IsPast line_limit room cut = ((cut.line ≤ line_limit) × (room < cut.whole)) ⊎ (line_limit < cut.line)

past : (line_limit room : ℕ) (cut : Cut) → cut.whole ≤ cut.line + 1 → IsPast line_limit room cut → line_limit < room → line_limit < cut.line
past line_limit room cut near (inl (short, far)) less = absurd (omega arith)
past line_limit room cut near (inr far) less = far

beyond : (line_limit room : ℕ) (cut : Cut) → cut.line ≤ cut.whole → IsPast line_limit room cut → room ≤ line_limit → room < cut.whole
beyond line_limit room cut order (inl (short, far)) le = far
beyond line_limit room cut order (inr far) le = omega arith

pub line_passed : (line_limit room count : ℕ) (feed : Option ℕ) (cut : Cut) → IsCut feed count cut → IsPast line_limit room cut → line_limit < room → JudgesAll line_limit room feed count (Err LineTooLong)
line_passed line_limit room count (Some at) cut is never less limit given octets left counted size h whole =
    let line : cut.line ≡ at = is.0 in let all : cut.whole ≡ at + 1 = is.1 in let place : length h.front ≡ at = h.place in
    let far : line_limit < cut.line = past line_limit room cut (omega arith) never less in
    passes_line line_limit limit given room octets h.front (10 ∷ h.following) counted h.split h.plain (omega arith) less
line_passed line_limit room count None cut is never less limit given octets left counted size h whole =
    let line : cut.line ≡ count = is.0 in let all : cut.whole ≡ count = is.1 in
    let far : line_limit < cut.line = past line_limit room cut (omega arith) never less in
    passes_line line_limit limit given room octets octets [] counted (sym (append-nil octets)) h (omega arith) less

pub limit_passed : (line_limit room count : ℕ) (feed : Option ℕ) (cut : Cut) → IsCut feed count cut → IsPast line_limit room cut → room ≤ line_limit → JudgesAll line_limit room feed count (Err InputTooLong)
limit_passed line_limit room count (Some at) cut is never le limit given octets left counted size h whole =
    let line : cut.line ≡ at = is.0 in let all : cut.whole ≡ at + 1 = is.1 in let place : length h.front ≡ at = h.place in
    let far : room < cut.whole = beyond line_limit room cut (omega arith) never le in
    let long : length octets ≡ length h.front + suc (length h.following) = size_of octets h.front h.following h.split in
    passes_limit line_limit limit given room octets h.front (10 ∷ h.following) counted h.split h.plain (omega arith) (omega arith) le
limit_passed line_limit room count None cut is never le limit given octets left counted size h whole =
    let line : cut.line ≡ count = is.0 in let all : cut.whole ≡ count = is.1 in
    let far : room < cut.whole = beyond line_limit room cut (omega arith) never le in
    passes_limit line_limit limit given room octets octets [] counted (sym (append-nil octets)) h (omega arith) (omega arith) le

pub ruleset judged = (line_there, none_there, line_passed, limit_passed)
