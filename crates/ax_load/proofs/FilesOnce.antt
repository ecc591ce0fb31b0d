-- Files give one answer.
use Rattle.std.proofs.Common.{◌≡◌, ℕ, ◌≤◌, ◌⊎◌, inl, inr, List, [], ◌∷◌, ◌++◌, Bool, IsTrue, Option, Some, None, IsSome, length, append_assoc, append-nil, refl, sym, ◌∙◌, ap, subst, arith}
use Rattle.ax_endpoints.specs.Files.{File, octets_of, Lacks, IsLonger, Exceeds}
use Rattle.ax_endpoints.specs.Told.{Rose}
use Rattle.ax_format.specs.Specification.{SpecTree, spec_of}
use Rattle.ax_tokens.specs.PlainToken.{PlainToken}
use Rattle.ax_tokens.proofs.Once.{tokens_once, no_bad_byte, none_too_deep}
use Rattle.ax_grammar.proofs.BadTokens.{bad_token_once, bad_spells_none}
use Rattle.ax_grammar.specs.Answers.{SpellsSpec, texts_of}
use Rattle.ax_grammar.proofs.TokenTexts.{spelling_once}
use Rattle.ax_load.specs.declared.fault.LoadStop.{LoadStop}
use Rattle.ax_load.specs.declared.fault.LoadStop.TheVariants as LoadStopOf
use Rattle.ax_load.specs.declared.fault.SpecFault.{SpecFault}
use Rattle.ax_load.specs.declared.fault.SpecFault.TheVariants.{TooLarge, BadByte, TooDeep, BadToken, Flawed}
use Rattle.ax_load.specs.FileAnswers.{HasTokens, IsAcceptedIn, IsRefusedIn, largest_file}
use Rattle.ax_load.specs.Languages.{Language, category_files}
use Rattle.ax_endpoints.specs.Changes.{LibraryCounts}
use Rattle.ax_load.specs.Loading.{GivesIn, GivesSpec, IsRefusedFile, IsRefusedOctets, StopsAtFile, EachGives, AreNewAfter, HasCategoryTwice, EndsAtFile, by_file, by_category, FilesGive, FilesEnd, from_load, taken_by}

-- ---- one file

pub same_tokens : (octets : List ℕ) (ts us : List PlainToken) → HasTokens octets ts → HasTokens octets us → ts ≡ us
same_tokens octets ts us h k = tokens_once octets ts us h.lexed.lexed k.lexed.lexed

-- tokens of the language spell one tree or have one bad token, and never both
pub record IsOne {T : Type 0} (language : Language T) : Type 0 where
  pub tree_once : (ts : List PlainToken) (tree other : T) → language.Spells ts tree → language.Spells ts other → tree ≡ other
  pub bad_once : (ts : List PlainToken) (token next : ℕ) → language.NamesBad ts token → language.NamesBad ts next → token ≡ next
  pub never_both : (ts : List PlainToken) (token : ℕ) (tree : T) → language.NamesBad ts token → language.Spells ts tree → ⊥

pub category_files_are_one : IsOne category_files
category_files_are_one = record {
  tree_once = λ ts tree other h k. spelling_once tree other h.in_range k.in_range (sym h.texts ∙ k.texts);
  bad_once = bad_token_once;
  never_both = bad_spells_none;
}

module _ {T : Type 0} (language : Language T) (one : IsOne language) where
  pub same_tree : (ts us : List PlainToken) (tree other : T) → ts ≡ us → language.Spells ts tree → language.Spells us other → tree ≡ other
  same_tree ts us tree other is h k = one.tree_once us tree other (subst (λ x. language.Spells x tree) is h) k

  pub accepted_once : (octets : List ℕ) (tree other : T) → IsAcceptedIn language octets tree → IsAcceptedIn language octets other → tree ≡ other
  accepted_once octets tree other h k = same_tree h.tokens k.tokens tree other (same_tokens octets h.tokens k.tokens h.has k.has) h.spelled k.spelled

  pub accepted_not_refused : (octets : List ℕ) (tree : T) (fault : SpecFault) → IsAcceptedIn language octets tree → IsRefusedIn language octets fault → ⊥
  accepted_not_refused octets tree TooLarge h k = let small : length octets ≤ largest_file = h.has.small in absurd (omega arith)
  accepted_not_refused octets tree (BadByte at) h k = no_bad_byte octets 16 h.tokens at h.has.lexed k.bad
  accepted_not_refused octets tree (TooDeep token) h k = none_too_deep octets 16 h.tokens token h.has.lexed k.deep
  accepted_not_refused octets tree (BadToken token) h k = one.never_both k.tokens token tree k.bad (subst (λ ts. language.Spells ts tree) (same_tokens octets h.tokens k.tokens h.has k.has) h.spelled)
  accepted_not_refused octets tree (Flawed flaws) h (other, flawed, is) =
      let same : tree ≡ other = same_tree h.tokens flawed.tokens tree other (same_tokens octets h.tokens flawed.tokens h.has flawed.has) h.spelled flawed.spelled in
      flawed.some (subst (λ s. language.flaws s ≡ []) same h.sound)

-- ---- one file of a library that tells its files

pub same_octets : (files : List File) (name octets other : List ℕ) → octets_of name files ≡ Some octets → octets_of name files ≡ Some other → octets ≡ other
same_octets files name octets other h k = let e : Some octets ≡ Some other = sym h ∙ k in cc

given_not_longer : (files : List File) (name octets : List ℕ) → octets_of name files ≡ Some octets → length octets ≤ largest_file → IsLonger (Some files) name largest_file → ⊥
given_not_longer files name octets is small h = let k : Exceeds (Some octets) largest_file = subst (λ o. Exceeds o largest_file) is h in absurd (omega arith)

module _ {T : Type 0} (language : Language T) (one : IsOne language) (files : List File) (name : List ℕ) where
  pub tree_given_once : (tree other : T) → GivesIn language (Some files) name tree → GivesIn language (Some files) name other → tree ≡ other
  tree_given_once tree other h k =
      accepted_once language one k.octets tree other (subst (λ o. IsAcceptedIn language o tree) (same_octets files name h.octets k.octets h.holds k.holds) h.accepted) k.accepted

  refused_octets_not_given : (tree : T) (fault : SpecFault) → GivesIn language (Some files) name tree → IsRefusedOctets language (Some files) name fault → ⊥
  refused_octets_not_given tree fault h k =
      accepted_not_refused language one k.octets tree fault (subst (λ o. IsAcceptedIn language o tree) (same_octets files name h.octets k.octets h.holds k.holds) h.accepted) k.refused

  refused_not_given : (c : LibraryCounts) (tree : T) (fault : SpecFault) → GivesIn language (Some files) name tree → IsRefusedFile language (Some files) c name fault → ⊥
  refused_not_given c tree TooLarge h k = given_not_longer files name h.octets h.holds h.accepted.has.small k
  refused_not_given c tree (BadByte at) h k = refused_octets_not_given tree (BadByte at) h k
  refused_not_given c tree (TooDeep token) h k = refused_octets_not_given tree (TooDeep token) h k
  refused_not_given c tree (BadToken token) h k = refused_octets_not_given tree (BadToken token) h k
  refused_not_given c tree (Flawed flaws) h k = refused_octets_not_given tree (Flawed flaws) h k

  fault_not_given : (c : LibraryCounts) (tree : T) → GivesIn language (Some files) name tree → (Rose c.faults c.faults' → ⊥) → Rose c.faults c.faults' ⊎ Lacks (Some files) name → ⊥
  fault_not_given c tree h quiet (inl rose) = quiet rose
  fault_not_given c tree h quiet (inr lacks) = let e : None ≡ Some h.octets = sym lacks ∙ h.holds in absurd (cc)

  -- a file that gives a tree ends no run, but for want of memory
  pub given_tree_stops_for_memory : (c : LibraryCounts) (i : ℕ) (tree : T) (outcome : LoadStop) → GivesIn language (Some files) name tree → (Rose c.faults c.faults' → ⊥) → StopsAtFile language (Some files) c name i outcome → outcome ≡ LoadStopOf.OutOfMemory
  given_tree_stops_for_memory c i tree (LoadStopOf.LoadFault n) h quiet k = absurd (fault_not_given c tree h quiet k.1)
  given_tree_stops_for_memory c i tree (LoadStopOf.SpecRefused n fault) h quiet k = absurd (refused_not_given c tree fault h k.1)
  given_tree_stops_for_memory c i tree LoadStopOf.OutOfMemory h quiet k = refl
  given_tree_stops_for_memory c i tree (LoadStopOf.CategoryTwice n category) h quiet k = absurd k

pub spec_given_once : (files : List File) (name : List ℕ) (spec other : SpecTree) → GivesSpec (Some files) name spec → GivesSpec (Some files) name other → spec ≡ other
spec_given_once files name spec other h k = tree_given_once category_files category_files_are_one files name spec other h k

pub given_stops_for_memory : (files : List File) (c : LibraryCounts) (name : List ℕ) (i : ℕ) (spec : SpecTree) (outcome : LoadStop) → GivesSpec (Some files) name spec → (Rose c.faults c.faults' → ⊥) → StopsAtFile category_files (Some files) c name i outcome → outcome ≡ LoadStopOf.OutOfMemory
given_stops_for_memory files c name i spec outcome h quiet k = given_tree_stops_for_memory category_files category_files_are_one files name c i spec outcome h quiet k

pub none_is_none : {A : Type 0} (x : Option A) → x ≡ None → IsSome x → ⊥
none_is_none {A = A} x is h = let e : IsSome {T = A} None = subst IsSome is h in absurd (cc)

-- ---- files one after another

-- after specifications, these names give the rest of the catalogue
abbrev GiveOn : Bool → List File → List SpecTree → List (List ℕ) → List SpecTree → Type 0
GiveOn distinct files before [] catalogue = before ≡ catalogue
GiveOn distinct files before (name ∷ more) catalogue =
    (spec : SpecTree) × GivesSpec (Some files) name spec × (IsTrue distinct → spec_of spec.category before ≡ None) × GiveOn distinct files (before ++ spec ∷ []) more catalogue

gives_on : (distinct : Bool) (files : List File) (before : List SpecTree) (names : List (List ℕ)) (specs : List SpecTree) → EachGives (Some files) names specs → (IsTrue distinct → AreNewAfter before specs) → GiveOn distinct files before names (before ++ specs)
gives_on distinct files before [] [] h new = sym (append-nil before)
gives_on distinct files before [] (s ∷ specs) h new = absurd h
gives_on distinct files before (n ∷ names) [] h new = absurd h
gives_on distinct files before (n ∷ names) (s ∷ specs) h new =
    (s, h.0, (λ want. (new want).0), subst (λ x. GiveOn distinct files (before ++ s ∷ []) names x) (append_assoc before (s ∷ []) specs) (gives_on distinct files (before ++ s ∷ []) names specs h.1 (λ want. (new want).1)))

from_the_start : (distinct : Bool) (files : List File) (names : List (List ℕ)) (catalogue : List SpecTree) → FilesGive distinct (Some files) names catalogue → GiveOn distinct files [] names catalogue
from_the_start distinct files names catalogue h = gives_on distinct files [] names catalogue h.each h.categories

after : (distinct : Bool) (files : List File) (before : List SpecTree) (name : List ℕ) (more : List (List ℕ)) (spec : SpecTree) (catalogue : List SpecTree) → GivesSpec (Some files) name spec → GiveOn distinct files before (name ∷ more) catalogue → GiveOn distinct files (before ++ spec ∷ []) more catalogue
after distinct files before name more spec catalogue gives (other, given, fresh, on) = subst (λ s. GiveOn distinct files (before ++ s ∷ []) more catalogue) (spec_given_once files name other spec given gives) on

up_to_there : (distinct : Bool) (files : List File) (before : List SpecTree) (earlier : List (List ℕ)) (specs : List SpecTree) (left : List (List ℕ)) (catalogue : List SpecTree) → EachGives (Some files) earlier specs → GiveOn distinct files before (earlier ++ left) catalogue → GiveOn distinct files (before ++ specs) left catalogue
up_to_there distinct files before [] [] left catalogue h g = subst (λ x. GiveOn distinct files x left catalogue) (sym (append-nil before)) g
up_to_there distinct files before [] (s ∷ specs) left catalogue h g = absurd h
up_to_there distinct files before (n ∷ earlier) [] left catalogue h g = absurd h
up_to_there distinct files before (n ∷ earlier) (s ∷ specs) left catalogue h g =
    subst (λ x. GiveOn distinct files x left catalogue) (append_assoc before (s ∷ []) specs) (up_to_there distinct files (before ++ s ∷ []) earlier specs left catalogue h.1 (after distinct files before n (earlier ++ left) s catalogue h.0 g))

pub each_given_once : (files : List File) (names : List (List ℕ)) (specs others : List SpecTree) → EachGives (Some files) names specs → EachGives (Some files) names others → specs ≡ others
each_given_once files [] [] [] h k = refl
each_given_once files [] (s ∷ specs) others h k = absurd h
each_given_once files [] specs (s ∷ others) h k = absurd k
each_given_once files (n ∷ names) [] others h k = absurd h
each_given_once files (n ∷ names) specs [] h k = absurd k
each_given_once files (n ∷ names) (s ∷ specs) (t ∷ others) h k = ap (λ x. x ∷ specs) (spec_given_once files n s t h.0 k.0) ∙ ap (λ x. t ∷ x) (each_given_once files names specs others h.1 k.1)

pub given_once : (distinct : Bool) (files : List File) (names : List (List ℕ)) (catalogue other : List SpecTree) → FilesGive distinct (Some files) names catalogue → FilesGive distinct (Some files) names other → catalogue ≡ other
given_once distinct files names catalogue other h k = each_given_once files names catalogue other h.each k.each

twice_not_given : (distinct : Bool) (files : List File) (before : List SpecTree) (name : List ℕ) (more : List (List ℕ)) (catalogue : List SpecTree) (category : ℕ) → IsTrue distinct → HasCategoryTwice (Some files) before name category → GiveOn distinct files before (name ∷ more) catalogue → ⊥
twice_not_given distinct files before name more catalogue category want twice (spec, given, fresh, on) =
    let same : spec ≡ twice.spec = spec_given_once files name spec twice.spec given twice.gives in
    let is : category ≡ spec.category = twice.is ∙ ap (λ s. s.category) (sym same) in
    none_is_none (spec_of spec.category before) (fresh want) (subst (λ n. IsSome (spec_of n before)) is twice.twice)

ends_for_memory : (distinct : Bool) (files : List File) (c : LibraryCounts) (before : List SpecTree) (name : List ℕ) (more : List (List ℕ)) (i : ℕ) (catalogue : List SpecTree) (outcome : LoadStop) → (Rose c.faults c.faults' → ⊥)
    → EndsAtFile distinct (Some files) c before name i outcome → GiveOn distinct files before (name ∷ more) catalogue → outcome ≡ LoadStopOf.OutOfMemory
ends_for_memory distinct files c before name more i catalogue outcome quiet (by_file h) (spec, given, fresh, on) = given_stops_for_memory files c name i spec outcome given quiet h
ends_for_memory distinct files c before name more i catalogue outcome quiet (by_category want category is twice) g = absurd (twice_not_given distinct files before name more catalogue category want twice g)

-- where the files give a catalogue and no fault of the library is counted, only want of memory ends the run at a file
pub given_ends_for_memory : (distinct : Bool) (files : List File) (c : LibraryCounts) (names : List (List ℕ)) (catalogue : List SpecTree) (outcome : LoadStop) → (Rose c.faults c.faults' → ⊥) → FilesGive distinct (Some files) names catalogue → FilesEnd distinct (Some files) c names outcome → outcome ≡ LoadStopOf.OutOfMemory
given_ends_for_memory distinct files c names catalogue outcome quiet h k =
    ends_for_memory distinct files (from_load c (taken_by (Some files) k.earlier k.before k.give.each c.taken)) k.before k.name k.more (length k.earlier) catalogue outcome quiet k.ends
    (up_to_there distinct files [] k.earlier k.before (k.name ∷ k.more) catalogue k.give.each (subst (λ n. GiveOn distinct files [] n catalogue) k.split (from_the_start distinct files names catalogue h)))
