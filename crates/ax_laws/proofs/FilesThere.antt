-- Each file is accepted or refused, and files give specifications or end the run.
use Rattle.std.proofs.Common.{◌≡◌, ◌≢◌, ℕ, ◌+◌, ◌<◌, ◌≤◌, ◌⊎◌, inl, inr, Bool, true, false, List, [], ◌∷◌, ◌++◌, length, append-nil, Option, Some, None, IsSome, IsTrue, refl, sym, ◌∙◌, subst}
use Rattle.std.proofs.lemmas.Bool.{cases_lt}
use Rattle.ax_endpoints.specs.Changes.{LibraryCounts}
use Rattle.ax_endpoints.specs.Files.{File, octets_of, Exceeds}
use Rattle.ax_expand.specs.Expansion.{ExpansionTree}
use Rattle.ax_format.specs.Specification.{SpecTree, spec_of}
use Rattle.ax_format.specs.declared.flaw.Flaw.{Flaw}
use Rattle.ax_load.proofs.EndsOnce.{ends_told}
use Rattle.ax_load.proofs.Passes.{Passed, none_passed, one_passed}
use Rattle.ax_load.specs.FileAnswers.{largest_file, deepest, HasTokens, IsAcceptedIn, IsRefusedIn}
use Rattle.ax_load.specs.Languages.{Language, category_files, expansion_files}
use Rattle.ax_load.specs.Loading.{GivesIn, FilesGive, StopsAtFile, EndsAtFile, by_file, by_category, FilesEnd}
use Rattle.ax_load.specs.declared.fault.LoadStop.{LoadStop}
use Rattle.ax_load.specs.declared.fault.LoadStop.TheVariants.{SpecRefused, CategoryTwice, LoadFault, OutOfMemory}
use Rattle.ax_load.specs.declared.fault.SpecFault.{SpecFault}
use Rattle.ax_load.specs.declared.fault.SpecFault.TheVariants.{TooLarge, BadByte, TooDeep, BadToken, Flawed}
use Rattle.ax_tokens.proofs.Once.{lexed_or_faulty}
use Rattle.ax_tokens.specs.Faults.{HasBadByte, IsTooDeep}
use Rattle.ax_tokens.specs.Lexing.{AreTokensOf}
use Rattle.ax_tokens.specs.PlainToken.{PlainToken}
use Rattle.ax_laws.proofs.ExpansionsRead.{expansion_or_bad}
use Rattle.ax_laws.proofs.TokensRead.{spec_or_bad}

-- ---- octets

abbrev pub AcceptedOrRefused : {T : Type 0} → Language T → List ℕ → Type 0
AcceptedOrRefused {T} language octets = ((tree : T) × IsAcceptedIn language octets tree) ⊎ ((fault : SpecFault) × IsRefusedIn language octets fault)

module _ {T : Type 0} (language : Language T) (reads : (tokens : List PlainToken) → ((tree : T) × language.Spells tokens tree) ⊎ ((token : ℕ) × language.NamesBad tokens token)) where
  by_flaws : (octets : List ℕ) (tokens : List PlainToken) (tree : T) → HasTokens octets tokens → language.Spells tokens tree → (flaws : List Flaw) → language.flaws tree ≡ flaws → AcceptedOrRefused language octets
  by_flaws octets tokens tree has spelled [] e = inl (tree, record { tokens = tokens; has = has; spelled = spelled; sound = e })
  by_flaws octets tokens tree has spelled (flaw ∷ flaws) e =
      inr (Flawed (language.flaws tree), (tree, record { tokens = tokens; has = has; spelled = spelled; some = λ none. absurd (let f : flaw ∷ flaws ≡ [] = sym e ∙ none in cc) }, refl))

  by_tokens : (octets : List ℕ) (tokens : List PlainToken) → HasTokens octets tokens → ((tree : T) × language.Spells tokens tree) ⊎ ((token : ℕ) × language.NamesBad tokens token) → AcceptedOrRefused language octets
  by_tokens octets tokens has (inl (tree, spelled)) = by_flaws octets tokens tree has spelled (language.flaws tree) refl
  by_tokens octets tokens has (inr (token, bad)) = inr (BadToken token, record { tokens = tokens; has = has; bad = bad })

  by_octets : (octets : List ℕ) → length octets ≤ largest_file → ((tokens : List PlainToken) × AreTokensOf octets deepest tokens) ⊎ ((place : ℕ) × HasBadByte octets deepest place) ⊎ ((number : ℕ) × IsTooDeep octets deepest number) → AcceptedOrRefused language octets
  by_octets octets small (inl (tokens, lexed)) = by_tokens octets tokens (record { small = small; lexed = lexed }) (reads tokens)
  by_octets octets small (inr (inl (place, bad))) = inr (BadByte place, record { small = small; bad = bad })
  by_octets octets small (inr (inr (number, deep))) = inr (TooDeep number, record { small = small; deep = deep })

  by_size : (octets : List ℕ) → (largest_file < length octets) ⊎ (length octets ≤ largest_file) → AcceptedOrRefused language octets
  by_size octets (inl long) = inr (TooLarge, long)
  by_size octets (inr small) = by_octets octets small (lexed_or_faulty octets deepest)

  judged : (octets : List ℕ) → AcceptedOrRefused language octets
  judged octets = by_size octets (cases_lt largest_file (length octets))

  -- ---- a file of a library

  module _ (files : List File) (c : LibraryCounts) (name : List ℕ) (i : ℕ) where
    abbrev GivesOrStops : Type 0
    GivesOrStops = ((tree : T) × GivesIn language (Some files) name tree) ⊎ ((stop : LoadStop) × StopsAtFile language (Some files) c name i stop × (stop ≢ OutOfMemory))

    refused : (octets : List ℕ) → octets_of name files ≡ Some octets → (fault : SpecFault) → IsRefusedIn language octets fault → GivesOrStops
    refused octets e TooLarge h = inr (SpecRefused i TooLarge, (refl, subst (λ found. Exceeds found largest_file) (sym e) h), λ same. absurd cc)
    refused octets e (BadByte at) h = inr (SpecRefused i (BadByte at), (refl, record { octets = octets; holds = e; refused = h }), λ same. absurd cc)
    refused octets e (TooDeep token) h = inr (SpecRefused i (TooDeep token), (refl, record { octets = octets; holds = e; refused = h }), λ same. absurd cc)
    refused octets e (BadToken token) h = inr (SpecRefused i (BadToken token), (refl, record { octets = octets; holds = e; refused = h }), λ same. absurd cc)
    refused octets e (Flawed flaws) h = inr (SpecRefused i (Flawed flaws), (refl, record { octets = octets; holds = e; refused = h }), λ same. absurd cc)

    by_answer : (octets : List ℕ) → octets_of name files ≡ Some octets → AcceptedOrRefused language octets → GivesOrStops
    by_answer octets e (inl (tree, h)) = inl (tree, record { octets = octets; holds = e; accepted = h })
    by_answer octets e (inr (fault, h)) = refused octets e fault h

    by_file_of : (found : Option (List ℕ)) → octets_of name files ≡ found → GivesOrStops
    by_file_of None e = inr (LoadFault i, (refl, inr e), λ same. absurd cc)
    by_file_of (Some octets) e = by_answer octets e (judged octets)

    gives_or_stops : GivesOrStops
    gives_or_stops = by_file_of (octets_of name files) refl

pub spec_file_judged : (octets : List ℕ) → AcceptedOrRefused category_files octets
spec_file_judged octets = judged category_files spec_or_bad octets

pub expansion_file_judged : (octets : List ℕ) → AcceptedOrRefused expansion_files octets
expansion_file_judged octets = judged expansion_files expansion_or_bad octets

pub expansion_gives_or_stops : (files : List File) (c : LibraryCounts) (name : List ℕ) (i : ℕ) → ((x : ExpansionTree) × GivesIn expansion_files (Some files) name x) ⊎ ((stop : LoadStop) × StopsAtFile expansion_files (Some files) c name i stop × (stop ≢ OutOfMemory))
expansion_gives_or_stops files c name i = gives_or_stops expansion_files expansion_or_bad files c name i

-- ---- category files, one after another

abbrev pub GiveOrEnd : Bool → List File → LibraryCounts → List (List ℕ) → Type 0
GiveOrEnd distinct files c names =
    ((specs : List SpecTree) × FilesGive distinct (Some files) names specs) ⊎ ((stop : LoadStop) × FilesEnd distinct (Some files) c names stop × (stop ≢ OutOfMemory))

module _ (distinct : Bool) (files : List File) (c : LibraryCounts) (names : List (List ℕ)) where
  ends : (i : ℕ) (before : List SpecTree) (name : List ℕ) (more : List (List ℕ)) (stop : LoadStop) (t : ℕ) → Passed distinct (Some files) names i before (name ∷ more) 0 t → EndsAtFile distinct (Some files) c before name i stop → stop ≢ OutOfMemory → GiveOrEnd distinct files c names
  ends i before name more stop t p h never = inr (
    stop,
    record {
      earlier = p.earlier;
      name = name;
      more = more;
      split = p.split;
      before = before;
      give = p.give;
      ends = ends_told files c name c.taken _ distinct before (length p.earlier) stop (subst (λ n. EndsAtFile distinct (Some files) c before name n stop) p.counted h);
    },
    never,
  )

  module _ (i : ℕ) (before : List SpecTree) (name : List ℕ) (more : List (List ℕ)) (t : ℕ) (p : Passed distinct (Some files) names i before (name ∷ more) 0 t) (later : (specs : List SpecTree) (t' : ℕ) → Passed distinct (Some files) names (i + 1) specs more 0 t' → GiveOrEnd distinct files c names) where
    passed : (spec : SpecTree) → GivesIn category_files (Some files) name spec → (IsTrue distinct → spec_of spec.category before ≡ None) → GiveOrEnd distinct files c names
    passed spec gives fresh = later (before ++ spec ∷ []) _ (one_passed distinct (Some files) names i before name more spec 0 t _ p (record { gives = gives; number = refl }) fresh)

    by_category_of : (spec : SpecTree) → GivesIn category_files (Some files) name spec → (want : Bool) → distinct ≡ want → (found : Option SpecTree) → spec_of spec.category before ≡ found → GiveOrEnd distinct files c names
    by_category_of spec gives false d found e = passed spec gives (λ yes. absurd (let never : false ≡ true = sym d ∙ yes in cc))
    by_category_of spec gives true d None e = passed spec gives (λ yes. e)
    by_category_of spec gives true d (Some one) e =
        ends i before name more (CategoryTwice i spec.category) t p
        (by_category (subst IsTrue (sym d) refl) spec.category refl (record { spec = spec; gives = gives; is = refl; twice = subst (λ o. IsSome o) (sym e) refl })) (λ same. absurd cc)

    by_file_given : ((spec : SpecTree) × GivesIn category_files (Some files) name spec) ⊎ ((stop : LoadStop) × StopsAtFile category_files (Some files) c name i stop × (stop ≢ OutOfMemory)) → GiveOrEnd distinct files c names
    by_file_given (inl (spec, gives)) = by_category_of spec gives distinct refl (spec_of spec.category before) refl
    by_file_given (inr (stop, h, never)) = ends i before name more stop t p (by_file h) never

  from : (left : List (List ℕ)) (i : ℕ) (before : List SpecTree) (t : ℕ) → Passed distinct (Some files) names i before left 0 t → GiveOrEnd distinct files c names
  from [] i before t p = inl (before, subst (λ n. FilesGive distinct (Some files) n before) (sym (p.split ∙ append-nil p.earlier)) p.give)
  from (name ∷ more) i before t p = by_file_given i before name more t p (λ specs t' q. from more (i + 1) specs t' q) (gives_or_stops category_files spec_or_bad files c name i)

  pub give_or_end : GiveOrEnd distinct files c names
  give_or_end = from names 0 [] 0 (none_passed distinct (Some files) names 0)
