-- What contracts see of the forms in memory. Calls are numbered from 0, and the number stays at the last one of a u64.
use Rattle.std.specs.Prelude.{ℕ, List, Bool, ◌==◌, max, Option, Some, None, slice_get, map, string_bytes, String, Vec}
use Rattle.std.specs.Global.{Global}
use Rattle.std.specs.List.{list_any}
use Rattle.ax_endpoints.specs.Files.{File, file}

-- a source in memory
pub record SourceState : Type 0 where
  pub left : List ℕ
  pub taken : ℕ
  pub cuts : List ℕ
  pub failing : List ℕ
  pub call : ℕ
  pub faults : ℕ

-- whether the call is one of those
abbrev pub is_listed : List ℕ → ℕ → Bool
is_listed calls call = list_any (λ listed. listed == call) calls

-- at least 1
abbrev pub at_least_one : ℕ → ℕ
at_least_one n = max n 1

-- the cut, where there is one, else what is asked
abbrev pub cut_or : Option ℕ → ℕ → ℕ
cut_or None asked = asked
cut_or (Some cut) asked = at_least_one cut

-- the most octets that the call of that number gives of those asked
abbrev pub most_of_call : List ℕ → ℕ → ℕ → ℕ
most_of_call cuts call asked = cut_or (slice_get cuts call) asked

-- a sink in memory: room is the number of octets that it can still take
pub record SinkState : Type 0 where
  pub held : List ℕ
  pub room : ℕ
  pub largest : ℕ
  pub failing : List ℕ
  pub call : ℕ
  pub faults : ℕ

-- a library in memory
pub record LibraryState : Type 0 where
  pub files : List File
  pub failing : List ℕ
  pub call : ℕ
  pub faults : ℕ
  pub taken : ℕ

-- whether its next call fails
abbrev pub fails_now : LibraryState → Bool
fails_now library = is_listed library.failing library.call

-- the files of a list of names and octets
abbrev pub files_of : List (String Global × Vec ℕ Global) → List File
files_of named = map (λ one. file (string_bytes one.0) one.1.items) named
