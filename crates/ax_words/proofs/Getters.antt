-- What the getters of clap give of what was found.
use Rattle.std.proofs.Common.{◌≡◌, ◌<◌, List, map, length, Option, Some, sym, ◌∙◌, subst, codes, option_map, arith}
use Rattle.std.specs.Prelude.{IfSome}
use Rattle.std.proofs.lemmas.List.{length-map}
use Rattle.clap.specs.Matches.{first_value, matched_of, raw_values}
use Rattle.clap.specs.Walk.{Text, first_of, all_of, rows_of}
use Rattle.clap.specs.declared.parser.matches.Found.{Found}
use Rattle.clap.proofs.WalkLemmas.{first_value-rows, raw_values-rows}
use Rattle.ax_words.specs.Lines.{HasFewFiles}

pub first_is : (f : Found) (id : Text) (o : Option Text) → o ≡ first_value f id → first_of id (rows_of f) ≡ o
first_is f id o e = sym (e ∙ first_value-rows f id)

pub all_is : (f : Found) (id : Text) (o : Option (List Text)) → o ≡ option_map raw_values (matched_of f id) → all_of id (rows_of f) ≡ o
all_is f id o e = sym (e ∙ raw_values-rows f id)

pub ruleset getters = (first_is, all_is)

-- as many words are handed out as stand under the name
pub few_words : {X : Type 0} (text : X → Text) (f : Found) (words : List X) → Some (map text words) ≡ option_map raw_values (matched_of f (codes "SPEC")) → HasFewFiles (rows_of f) → length words < 4294967296
few_words text f words e few = let h = subst (λ o. IfSome o (λ files. length files < 4294967296)) (all_is f (codes "SPEC") (Some (map text words)) e) few in omega (arith, h, length-map words text)
