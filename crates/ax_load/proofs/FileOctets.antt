-- A file that gives no octets.
use Rattle.std.proofs.Common.{◌≡◌, ℕ, ◌⊎◌, inl, inr, List, [], Option, IsSome}
use Rattle.ax_load.proofs.FileLemmas.{loads_spec, refused_file, took_one, took_none, took_refused}
use Rattle.ax_load.specs.Counting.{TookFiles, TookAt}
use Rattle.ax_load.specs.Languages.{Language, category_files}
use Rattle.ax_load.specs.Loading.{HasNoOctets, StopsAtFile}
use Rattle.ax_load.specs.declared.fault.LoadStop.{LoadStop}
use Rattle.ax_load.specs.declared.fault.LoadStop.TheVariants.{SpecRefused, CategoryTwice, LoadFault, OutOfMemory}
use Rattle.ax_load.specs.declared.fault.SpecFault.TheVariants.{TooLarge, BadByte, TooDeep, BadToken, Flawed}
use Rattle.ax_endpoints.specs.Changes.{LibraryCounts}
use Rattle.ax_endpoints.specs.Files.{File}

-- it ends the run, whatever it was to spell
pub no_octets_stop : {T : Type 0} (language : Language T) (files : Option (List File)) (c : LibraryCounts) (name : List ℕ) (i : ℕ) (stop : LoadStop) → HasNoOctets files c name i stop → StopsAtFile language files c name i stop
no_octets_stop language files c name i (LoadFault n) h = h
no_octets_stop language files c name i (SpecRefused n TooLarge) h = h
no_octets_stop language files c name i (SpecRefused n (BadByte at)) h = absurd h
no_octets_stop language files c name i (SpecRefused n (TooDeep token)) h = absurd h
no_octets_stop language files c name i (SpecRefused n (BadToken token)) h = absurd h
no_octets_stop language files c name i (SpecRefused n (Flawed flaws)) h = absurd h
no_octets_stop language files c name i OutOfMemory h = tt
no_octets_stop language files c name i (CategoryTwice n category) h = absurd h

-- and nothing was taken of it
pub no_octets_took : (files : Option (List File)) (c : LibraryCounts) (name : List ℕ) (i t t' : ℕ) (stop : LoadStop) → HasNoOctets files c name i stop → (IsSome files → t' ≡ t) → TookAt files t t' name stop
no_octets_took files c name i t t' (LoadFault n) h kept = took_none files t t' kept
no_octets_took files c name i t t' (SpecRefused n TooLarge) h kept = took_none files t t' kept
no_octets_took files c name i t t' (SpecRefused n (BadByte at)) h kept = absurd h
no_octets_took files c name i t t' (SpecRefused n (TooDeep token)) h kept = absurd h
no_octets_took files c name i t t' (SpecRefused n (BadToken token)) h kept = absurd h
no_octets_took files c name i t t' (SpecRefused n (Flawed flaws)) h kept = absurd h
no_octets_took files c name i t t' OutOfMemory h kept = inl (took_none files t t' kept)
no_octets_took files c name i t t' (CategoryTwice n category) h kept = absurd h

pub no_file : (files : Option (List File)) (c : LibraryCounts) (name : List ℕ) (i : ℕ) (stop : LoadStop) → HasNoOctets files c name i stop → StopsAtFile category_files files c name i stop
no_file = no_octets_stop category_files

pub ruleset file_ends = (loads_spec, refused_file, took_one, took_refused, no_file, no_octets_took)
