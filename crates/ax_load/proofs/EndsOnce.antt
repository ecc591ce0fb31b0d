-- The loading of files ends in one way.
use Rattle.std.proofs.Common.{◌≡◌, ◌≢◌, ℕ, ◌+◌, ◌<◌, ◌≤◌, ◌⊎◌, inl, inr, List, [], ◌∷◌, ◌++◌, Bool, IsTrue, Option, Some, None, IsSome, length, append_assoc, append-nil, refl, sym, ◌∙◌, ap, subst, arith}
use Rattle.ax_endpoints.specs.Files.{File, octets_of, Lacks, Exceeds}
use Rattle.ax_endpoints.specs.Told.{Rose}
use Rattle.ax_format.specs.Specification.{SpecTree, spec_of}
use Rattle.ax_tokens.proofs.Once.{no_bad_byte, none_too_deep, bad_byte_once, too_deep_once, one_kind}
use Rattle.ax_load.specs.declared.fault.LoadStop.{LoadStop}
use Rattle.ax_load.specs.declared.fault.LoadStop.TheVariants as LoadStopOf
use Rattle.ax_load.specs.declared.fault.SpecFault.{SpecFault}
use Rattle.ax_load.specs.declared.fault.SpecFault.TheVariants.{TooLarge, BadByte, TooDeep, BadToken, Flawed}
use Rattle.ax_load.specs.FileAnswers.{IsFlawedIn, IsRefusedIn, largest_file}
use Rattle.ax_load.specs.Languages.{Language, category_files}
use Rattle.ax_endpoints.specs.Changes.{LibraryCounts}
use Rattle.ax_load.specs.Loading.{GivesSpec, IsRefusedFile, StopsAtFile, EachGives, AreNewAfter, HasCategoryTwice, EndsAtFile, by_file, by_category, FilesEnd, from_load}
use Rattle.ax_load.proofs.FilesOnce.{IsOne, category_files_are_one, same_tokens, same_tree, same_octets, spec_given_once, given_stops_for_memory, none_is_none}

-- ---- one file's octets

module _ {T : Type 0} (language : Language T) (one : IsOne language) where
  flawed_once : (octets : List ℕ) (tree other : T) → IsFlawedIn language octets tree → IsFlawedIn language octets other → tree ≡ other
  flawed_once octets tree other h k = same_tree language one h.tokens k.tokens tree other (same_tokens octets h.tokens k.tokens h.has k.has) h.spelled k.spelled

  pub fault_once : (octets : List ℕ) (fault other : SpecFault) → IsRefusedIn language octets fault → IsRefusedIn language octets other → fault ≡ other
  fault_once octets TooLarge TooLarge h k = refl
  fault_once octets TooLarge (BadByte at) h k = let s : length octets ≤ largest_file = k.small in absurd (omega arith)
  fault_once octets TooLarge (TooDeep token) h k = let s : length octets ≤ largest_file = k.small in absurd (omega arith)
  fault_once octets TooLarge (BadToken token) h k = let s : length octets ≤ largest_file = k.has.small in absurd (omega arith)
  fault_once octets TooLarge (Flawed flaws) h (spec, k, is) = let s : length octets ≤ largest_file = k.has.small in absurd (omega arith)
  fault_once octets (BadByte at) TooLarge h k = let s : length octets ≤ largest_file = h.small in absurd (omega arith)
  fault_once octets (BadByte at) (BadByte next) h k = ap BadByte (bad_byte_once octets 16 at next h.bad k.bad)
  fault_once octets (BadByte at) (TooDeep token) h k = absurd (one_kind octets 16 at token h.bad k.deep)
  fault_once octets (BadByte at) (BadToken token) h k = absurd (no_bad_byte octets 16 k.tokens at k.has.lexed h.bad)
  fault_once octets (BadByte at) (Flawed flaws) h (spec, k, is) = absurd (no_bad_byte octets 16 k.tokens at k.has.lexed h.bad)
  fault_once octets (TooDeep token) TooLarge h k = let s : length octets ≤ largest_file = h.small in absurd (omega arith)
  fault_once octets (TooDeep token) (BadByte at) h k = absurd (one_kind octets 16 at token k.bad h.deep)
  fault_once octets (TooDeep token) (TooDeep next) h k = ap TooDeep (too_deep_once octets 16 token next h.deep k.deep)
  fault_once octets (TooDeep token) (BadToken next) h k = absurd (none_too_deep octets 16 k.tokens token k.has.lexed h.deep)
  fault_once octets (TooDeep token) (Flawed flaws) h (spec, k, is) = absurd (none_too_deep octets 16 k.tokens token k.has.lexed h.deep)
  fault_once octets (BadToken token) TooLarge h k = let s : length octets ≤ largest_file = h.has.small in absurd (omega arith)
  fault_once octets (BadToken token) (BadByte at) h k = absurd (no_bad_byte octets 16 h.tokens at h.has.lexed k.bad)
  fault_once octets (BadToken token) (TooDeep next) h k = absurd (none_too_deep octets 16 h.tokens next h.has.lexed k.deep)
  fault_once octets (BadToken token) (BadToken next) h k =
      ap BadToken (one.bad_once h.tokens token next h.bad (subst (λ ts. language.NamesBad ts next) (same_tokens octets k.tokens h.tokens k.has h.has) k.bad))
  fault_once octets (BadToken token) (Flawed flaws) h (spec, k, is) = absurd (one.never_both h.tokens token spec h.bad (subst (λ ts. language.Spells ts spec) (same_tokens octets k.tokens h.tokens k.has h.has) k.spelled))
  fault_once octets (Flawed flaws) TooLarge (spec, h, is) k = let s : length octets ≤ largest_file = h.has.small in absurd (omega arith)
  fault_once octets (Flawed flaws) (BadByte at) (spec, h, is) k = absurd (no_bad_byte octets 16 h.tokens at h.has.lexed k.bad)
  fault_once octets (Flawed flaws) (TooDeep token) (spec, h, is) k = absurd (none_too_deep octets 16 h.tokens token h.has.lexed k.deep)
  fault_once octets (Flawed flaws) (BadToken token) (spec, h, is) k = absurd (one.never_both k.tokens token spec k.bad (subst (λ ts. language.Spells ts spec) (same_tokens octets h.tokens k.tokens h.has k.has) h.spelled))
  fault_once octets (Flawed flaws) (Flawed others) (spec, h, is) (other, k, is') =
      ap Flawed (is ∙ ap language.flaws (flawed_once octets spec other h k) ∙ sym is')

-- ---- a file of a library that tells its files

exceeds_some : (o : Option (List ℕ)) (limit : ℕ) → Exceeds o limit → (octets : List ℕ) × (o ≡ Some octets) × (limit < length octets)
exceeds_some None limit h = absurd h
exceeds_some (Some octets) limit h = (octets, refl, h)

module _ {T : Type 0} (language : Language T) (one : IsOne language) where
  refused_there : (files : List File) (c : LibraryCounts) (name : List ℕ) (fault : SpecFault) → IsRefusedFile language (Some files) c name fault → (octets : List ℕ) × (octets_of name files ≡ Some octets) × IsRefusedIn language octets fault
  refused_there files c name TooLarge h = exceeds_some (octets_of name files) largest_file h
  refused_there files c name (BadByte at) h = (h.octets, h.holds, h.refused)
  refused_there files c name (TooDeep token) h = (h.octets, h.holds, h.refused)
  refused_there files c name (BadToken token) h = (h.octets, h.holds, h.refused)
  refused_there files c name (Flawed flaws) h = (h.octets, h.holds, h.refused)

  refused_once : (files : List File) (c : LibraryCounts) (name : List ℕ) (fault next : SpecFault) → (octets : List ℕ) × (octets_of name files ≡ Some octets) × IsRefusedIn language octets fault → (octets : List ℕ) × (octets_of name files ≡ Some octets) × IsRefusedIn language octets next → fault ≡ next
  refused_once files c name fault next (octets, is, h) (others, is', k) = fault_once language one others fault next (subst (λ o. IsRefusedIn language o fault) (same_octets files name octets others is is') h) k

  lacks_or_refused : (files : List File) (c : LibraryCounts) (name : List ℕ) (fault : SpecFault) → (Rose c.faults c.faults' → ⊥) → Rose c.faults c.faults' ⊎ Lacks (Some files) name → (octets : List ℕ) × (octets_of name files ≡ Some octets) × IsRefusedIn language octets fault → ⊥
  lacks_or_refused files c name fault quiet (inl rose) k = quiet rose
  lacks_or_refused files c name fault quiet (inr lacks) (octets, is, k) = let e : None ≡ Some octets = sym lacks ∙ is in absurd (cc)

  refusals_once : (files : List File) (c : LibraryCounts) (name : List ℕ) (i n m : ℕ) (fault next : SpecFault) → n ≡ i → m ≡ i → IsRefusedFile language (Some files) c name fault → IsRefusedFile language (Some files) c name next → LoadStopOf.SpecRefused n fault ≡ LoadStopOf.SpecRefused m next
  refusals_once files c name i n m fault next is is' h k =
      ap (λ x. LoadStopOf.SpecRefused x fault) (is ∙ sym is') ∙ ap (λ f. LoadStopOf.SpecRefused m f) (refused_once files c name fault next (refused_there files c name fault h) (refused_there files c name next k))

  pub stops_once : (files : List File) (c : LibraryCounts) (name : List ℕ) (i : ℕ) (outcome other : LoadStop) → (Rose c.faults c.faults' → ⊥) → outcome ≢ LoadStopOf.OutOfMemory → other ≢ LoadStopOf.OutOfMemory
      → StopsAtFile language (Some files) c name i outcome → StopsAtFile language (Some files) c name i other → outcome ≡ other
  stops_once files c name i (LoadStopOf.LoadFault n) (LoadStopOf.LoadFault m) quiet some others h k = ap LoadStopOf.LoadFault (h.0 ∙ sym k.0)
  stops_once files c name i (LoadStopOf.LoadFault n) (LoadStopOf.SpecRefused m next) quiet some others h k = absurd (lacks_or_refused files c name next quiet h.1 (refused_there files c name next k.1))
  stops_once files c name i (LoadStopOf.SpecRefused n fault) (LoadStopOf.LoadFault m) quiet some others h k = absurd (lacks_or_refused files c name fault quiet k.1 (refused_there files c name fault h.1))
  stops_once files c name i (LoadStopOf.SpecRefused n fault) (LoadStopOf.SpecRefused m next) quiet some others h k = refusals_once files c name i n m fault next h.0 k.0 h.1 k.1
  stops_once files c name i LoadStopOf.OutOfMemory other quiet some others h k = absurd (some refl)
  stops_once files c name i outcome LoadStopOf.OutOfMemory quiet some others h k = absurd (others refl)
  stops_once files c name i (LoadStopOf.CategoryTwice n category) other quiet some others h k = absurd h
  stops_once files c name i outcome (LoadStopOf.CategoryTwice n category) quiet some others h k = absurd k

twice_once : (files : List File) (before : List SpecTree) (name : List ℕ) (category next : ℕ) → HasCategoryTwice (Some files) before name category → HasCategoryTwice (Some files) before name next → category ≡ next
twice_once files before name category next h k = h.is ∙ ap (λ s. s.category) (spec_given_once files name h.spec k.spec h.gives k.gives) ∙ sym k.is

file_ends_once : (distinct : Bool) (files : List File) (c : LibraryCounts) (before : List SpecTree) (name : List ℕ) (i : ℕ) (outcome other : LoadStop) → (Rose c.faults c.faults' → ⊥) → outcome ≢ LoadStopOf.OutOfMemory → other ≢ LoadStopOf.OutOfMemory
    → EndsAtFile distinct (Some files) c before name i outcome → EndsAtFile distinct (Some files) c before name i other → outcome ≡ other
file_ends_once distinct files c before name i outcome other quiet some others (by_file h) (by_file k) = stops_once category_files category_files_are_one files c name i outcome other quiet some others h k
file_ends_once distinct files c before name i outcome other quiet some others (by_file h) (by_category want category is twice) = absurd (some (given_stops_for_memory files c name i twice.spec outcome twice.gives quiet h))
file_ends_once distinct files c before name i outcome other quiet some others (by_category want category is twice) (by_file k) = absurd (others (given_stops_for_memory files c name i twice.spec other twice.gives quiet k))
file_ends_once distinct files c before name i outcome other quiet some others (by_category want category is twice) (by_category want' next is' twice') =
    is ∙ ap (LoadStopOf.CategoryTwice i) (twice_once files before name category next twice twice') ∙ sym is'

-- ---- files one after another

-- after specifications, these names end the run
abbrev EndOn : Bool → List File → LibraryCounts → ℕ → List SpecTree → List (List ℕ) → LoadStop → Type 0
EndOn distinct files c i before [] outcome = ⊥
EndOn distinct files c i before (name ∷ more) outcome =
    EndsAtFile distinct (Some files) c before name i outcome
    ⊎ ((spec : SpecTree) × GivesSpec (Some files) name spec × (IsTrue distinct → spec_of spec.category before ≡ None) × EndOn distinct files c (i + 1) (before ++ spec ∷ []) more outcome)

ends_on : (distinct : Bool) (files : List File) (c : LibraryCounts) (i : ℕ) (before : List SpecTree) (earlier : List (List ℕ)) (specs : List SpecTree) (name : List ℕ) (more : List (List ℕ)) (outcome : LoadStop) → EachGives (Some files) earlier specs → (IsTrue distinct → AreNewAfter before specs)
    → EndsAtFile distinct (Some files) c (before ++ specs) name (i + length earlier) outcome → EndOn distinct files c i before (earlier ++ (name ∷ more)) outcome
ends_on distinct files c i before [] [] name more outcome h new ends =
    let e : i + length {A = List ℕ} [] ≡ i = omega arith in
    inl (subst (λ n. EndsAtFile distinct (Some files) c before name n outcome) e (subst (λ x. EndsAtFile distinct (Some files) c x name (i + length {A = List ℕ} []) outcome) (append-nil before) ends))
ends_on distinct files c i before [] (s ∷ specs) name more outcome h new ends = absurd h
ends_on distinct files c i before (n ∷ earlier) [] name more outcome h new ends = absurd h
ends_on distinct files c i before (n ∷ earlier) (s ∷ specs) name more outcome h new ends =
    let e : i + length (n ∷ earlier) ≡ (i + 1) + length earlier = omega arith in
    inr (
      s,
      h.0,
      (λ want. (new want).0),
      ends_on distinct files c (i + 1) (before ++ s ∷ []) earlier specs name more outcome h.1 (λ want. (new want).1)
          (subst (λ k. EndsAtFile distinct (Some files) c ((before ++ s ∷ []) ++ specs) name k outcome) e
          (subst (λ x. EndsAtFile distinct (Some files) c x name (i + length (n ∷ earlier)) outcome) (sym (append_assoc before (s ∷ []) specs)) ends)),
    )

-- of a library that tells its files, what was taken before a load doesn't matter
module _ (files : List File) (c : LibraryCounts) (name : List ℕ) (t u : ℕ) where
  refused_told : {T : Type 0} (language : Language T) (fault : SpecFault) → IsRefusedFile language (Some files) (from_load c t) name fault → IsRefusedFile language (Some files) (from_load c u) name fault
  refused_told language TooLarge h = h
  refused_told language (BadByte at) h = h
  refused_told language (TooDeep token) h = h
  refused_told language (BadToken token) h = h
  refused_told language (Flawed flaws) h = h

  pub stops_told : {T : Type 0} (language : Language T) (i : ℕ) (stop : LoadStop) → StopsAtFile language (Some files) (from_load c t) name i stop → StopsAtFile language (Some files) (from_load c u) name i stop
  stops_told language i (LoadStopOf.LoadFault n) h = h
  stops_told language i (LoadStopOf.SpecRefused n fault) h = (h.0, refused_told language fault h.1)
  stops_told language i (LoadStopOf.CategoryTwice n category) h = h
  stops_told language i LoadStopOf.OutOfMemory h = h

  pub ends_told : (distinct : Bool) (before : List SpecTree) (i : ℕ) (stop : LoadStop) → EndsAtFile distinct (Some files) (from_load c t) before name i stop → EndsAtFile distinct (Some files) (from_load c u) before name i stop
  ends_told distinct before i stop (by_file h) = by_file (stops_told category_files i stop h)
  ends_told distinct before i stop (by_category want category is twice) = by_category want category is twice

ends_from_the_start : (distinct : Bool) (files : List File) (c : LibraryCounts) (names : List (List ℕ)) (outcome : LoadStop) → FilesEnd distinct (Some files) c names outcome → EndOn distinct files c 0 [] names outcome
ends_from_the_start distinct files c names outcome h =
    let e : 0 + length h.earlier ≡ length h.earlier = omega arith in
    subst (λ n. EndOn distinct files c 0 [] n outcome) (sym h.split)
    (ends_on distinct files c 0 [] h.earlier h.before h.name h.more outcome h.give.each h.give.categories (subst (λ k. EndsAtFile distinct (Some files) c h.before h.name k outcome) (sym e) (ends_told files c h.name _ c.taken distinct h.before (length h.earlier) outcome h.ends)))

given_ends_not : (distinct : Bool) (files : List File) (c : LibraryCounts) (before : List SpecTree) (name : List ℕ) (i : ℕ) (spec : SpecTree) (outcome : LoadStop) → (Rose c.faults c.faults' → ⊥) → outcome ≢ LoadStopOf.OutOfMemory → GivesSpec (Some files) name spec → (IsTrue distinct → spec_of spec.category before ≡ None)
    → EndsAtFile distinct (Some files) c before name i outcome → ⊥
given_ends_not distinct files c before name i spec outcome quiet some gives fresh (by_file h) = some (given_stops_for_memory files c name i spec outcome gives quiet h)
given_ends_not distinct files c before name i spec outcome quiet some gives fresh (by_category want category is twice) =
    let e : category ≡ spec.category = twice.is ∙ ap (λ s. s.category) (spec_given_once files name twice.spec spec twice.gives gives) in
    none_is_none (spec_of spec.category before) (fresh want) (subst (λ n. IsSome (spec_of n before)) e twice.twice)

ends_on_once : (distinct : Bool) (files : List File) (c : LibraryCounts) (i : ℕ) (before : List SpecTree) (names : List (List ℕ)) (outcome other : LoadStop) → (Rose c.faults c.faults' → ⊥) → outcome ≢ LoadStopOf.OutOfMemory → other ≢ LoadStopOf.OutOfMemory
    → EndOn distinct files c i before names outcome → EndOn distinct files c i before names other → outcome ≡ other
ends_on_once distinct files c i before [] outcome other quiet some others h k = absurd h
ends_on_once distinct files c i before (name ∷ more) outcome other quiet some others (inl h) (inl k) = file_ends_once distinct files c before name i outcome other quiet some others h k
ends_on_once distinct files c i before (name ∷ more) outcome other quiet some others (inl h) (inr (spec, gives, fresh, k)) = absurd (given_ends_not distinct files c before name i spec outcome quiet some gives fresh h)
ends_on_once distinct files c i before (name ∷ more) outcome other quiet some others (inr (spec, gives, fresh, h)) (inl k) = absurd (given_ends_not distinct files c before name i spec other quiet others gives fresh k)
ends_on_once distinct files c i before (name ∷ more) outcome other quiet some others (inr (spec, gives, fresh, h)) (inr (spec', gives', fresh', k)) =
    ends_on_once distinct files c (i + 1) (before ++ spec ∷ []) more outcome other quiet some others h
    (subst (λ s. EndOn distinct files c (i + 1) (before ++ s ∷ []) more other) (spec_given_once files name spec' spec gives' gives) k)

pub loading_ends_once : (distinct : Bool) (files : List File) (c : LibraryCounts) (names : List (List ℕ)) (outcome other : LoadStop) → (Rose c.faults c.faults' → ⊥) → outcome ≢ LoadStopOf.OutOfMemory → other ≢ LoadStopOf.OutOfMemory
    → FilesEnd distinct (Some files) c names outcome → FilesEnd distinct (Some files) c names other → outcome ≡ other
loading_ends_once distinct files c names outcome other quiet some others h k =
    ends_on_once distinct files c 0 [] names outcome other quiet some others (ends_from_the_start distinct files c names outcome h) (ends_from_the_start distinct files c names other k)
