-- What stands below a place.
use Rattle.std.proofs.Common.{◌≡◌, ℕ, zero, suc, ◌+◌, nat_lt, false, List, [], ◌∷◌, ◌++◌, Option, Some, None, is_some, option_and_then, refl, sym, ◌∙◌, ap, arith}
use Rattle.std.proofs.lemmas.Bool.{lt-ltb, le-ltb}
use Rattle.std.specs.Prelude.{◌&&◌}
use Rattle.ax_laws.specs.MemberPlaces.{below, standing, member_count, nth_part}
use Rattle.ax_format.specs.At.{value_at, nth_value, nth_list, slot_value, is_present}
use Rattle.ax_format.specs.Fitting.{list_count}
use Rattle.ax_format.specs.Shape.{MembersShape, PartsShape}
use Rattle.ax_format.specs.Tree.{MembersTree, no_members, member_and, named, spare, ValueTree, number, member_values, part_values, occurrences, content_octets, marked, ValuesTree, no_values, value_and, value_count, ListsTree, no_lists, list_and, EntriesTree}
use Rattle.ax_format.specs.declared.place.Place.{Place}
use Rattle.ax_relation.proofs.CommonParts.{none_below_none, same_test}

-- ---- steps after others

abbrev Follows : List ℕ → List ℕ → ValueTree → ValueTree → Type 0
Follows steps more w v = value_at steps v ≡ Some w → value_at (steps ++ more) v ≡ value_at more w

after_one : (steps more : List ℕ) (w : ValueTree) → ((v : ValueTree) → Follows steps more w v) → (o : Option ValueTree)
    → option_and_then (value_at steps) o ≡ Some w → option_and_then (value_at (steps ++ more)) o ≡ value_at more w
after_one steps more w go (Some v) h = go v h
after_one steps more w go None h = cc

at_more : (steps more : List ℕ) (w v : ValueTree) → Follows steps more w v
at_more [] more w v h = let same : v ≡ w = cc in ap (value_at more) same
at_more (i ∷ steps) more w (member_values vs) h = after_one steps more w (at_more steps more w) (nth_value i vs) h
at_more (s ∷ steps) more w (marked es) h = after_one steps more w (at_more steps more w) (slot_value s es) h
at_more (p ∷ i ∷ steps) more w (part_values ls) h = after_one steps more w (at_more steps more w) (nth_value i (nth_list p ls)) h
at_more (p ∷ []) more w (part_values ls) h = cc
at_more (i ∷ steps) more w (number n) h = cc
at_more (i ∷ steps) more w (occurrences vs) h = cc
at_more (i ∷ steps) more w (content_octets xs) h = cc

-- ---- members

alone_there : (o : Option ValueTree) → is_some (option_and_then (value_at []) o) ≡ is_some o
alone_there None = refl
alone_there (Some v) = refl

nth_there : (i : ℕ) (vs : ValuesTree) → is_some (nth_value i vs) ≡ nat_lt i (value_count vs)
nth_there i no_values = sym (none_below_none i)
nth_there zero (value_and v vs) = sym (lt-ltb 0 (suc (value_count vs)) (omega arith))
nth_there (suc i) (value_and v vs) = nth_there i vs ∙ same_test i (value_count vs)

as_many : (ms : MembersTree) (vs : ValuesTree) → MembersShape ms vs → value_count vs ≡ member_count ms
as_many no_members no_values h = refl
as_many no_members (value_and v vs) h = absurd h
as_many (member_and m ms) no_values h = absurd h
as_many (member_and (named name f) ms) (value_and v vs) h = ap suc (as_many ms vs h.1)
as_many (member_and (spare w) ms) (value_and v vs) h = ap suc (as_many ms vs h.1)

pub group_member : (entries : EntriesTree) (place : Place) (i : ℕ) (ms : MembersTree) (vs : ValuesTree) → MembersShape ms vs → standing entries place ≡ Some (member_values vs)
    → is_present entries (below place (i ∷ [])) ≡ nat_lt i (member_count ms)
group_member entries place i ms vs shape h =
    ap is_some (at_more (place.frn ∷ place.steps) (i ∷ []) (member_values vs) (marked entries) h)
    ∙ alone_there (nth_value i vs) ∙ nth_there i vs ∙ ap (nat_lt i) (as_many ms vs shape)

-- ---- parts

past_parts : (p i : ℕ) → is_some (nth_value i (nth_list p no_lists)) ≡ false
past_parts p i = refl

in_part : (p i : ℕ) (ps : List MembersTree) (ls : ListsTree) → PartsShape ps ls → is_some (nth_value i (nth_list p ls)) ≡ nat_lt p (list_count ls) && nat_lt i (member_count (nth_part p ps))
in_part p i ps no_lists h = absurd h
in_part p i [] (list_and vs ls) h = absurd h
in_part zero i (q ∷ ps) (list_and vs no_lists) h = nth_there i vs ∙ ap (nat_lt i) (as_many q vs h)
in_part zero i (q ∷ ps) (list_and vs (list_and ws ls)) h =
    nth_there i vs ∙ ap (nat_lt i) (as_many q vs h.0) ∙ sym (ap (λ b. b && nat_lt i (member_count q)) (lt-ltb 0 (list_count (list_and ws ls) + 1) (omega arith)))
in_part (suc p) i (q ∷ ps) (list_and vs no_lists) h = sym (ap (λ b. b && nat_lt i (member_count (nth_part p ps))) (le-ltb (suc p) 1 (omega arith)))
in_part (suc p) i (q ∷ ps) (list_and vs (list_and ws ls)) h =
    let more : suc (list_count (list_and ws ls)) ≡ list_count (list_and ws ls) + 1 = omega arith in
    in_part p i ps (list_and ws ls) h.1 ∙ ap (λ b. b && nat_lt i (member_count (nth_part p ps))) (same_test p (list_count (list_and ws ls)) ∙ ap (nat_lt (suc p)) more)

pub part_member : (entries : EntriesTree) (place : Place) (p i : ℕ) (ps : List MembersTree) (ls : ListsTree) → PartsShape ps ls → standing entries place ≡ Some (part_values ls)
    → is_present entries (below place (p ∷ i ∷ [])) ≡ nat_lt p (list_count ls) && nat_lt i (member_count (nth_part p ps))
part_member entries place p i ps ls shape h =
    ap is_some (at_more (place.frn ∷ place.steps) (p ∷ i ∷ []) (part_values ls) (marked entries) h)
    ∙ alone_there (nth_value i (nth_list p ls)) ∙ in_part p i ps ls shape

-- ---- items that aren't marked

pub unmarked_absent : (entries : EntriesTree) (place : Place) → slot_value place.frn entries ≡ None → is_present entries place ≡ false
unmarked_absent es place h = ap (λ o. is_some (option_and_then (value_at place.steps) o)) h
