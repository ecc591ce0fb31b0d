-- What is written anew of what is read from octets of a body.
use Rattle.std.specs.Prelude.{◌≡◌, ℕ, ◌-◌, ◌*◌, ◌≤◌, ◌⊎◌, List, ◌++◌, length}
use Rattle.ax_bits.specs.Out.{Appends, room}
use Rattle.ax_bits.specs.declared.output.Out.{Out}
use Rattle.ax_format.specs.Canonical.{canon}
use Rattle.ax_format.specs.Reader.{Read}
use Rattle.ax_format.specs.Tree.{KindTree, SlotsTree}
use Rattle.ax_format.specs.declared.fault.BodyFault.{BodyFault}
use Rattle.ax_fspec.specs.Reading.{Gets, FailsAt, kind_read, entries_at}
use Rattle.ax_walk.specs.Walking.{along}

-- what is read from octet `at` up to octet `end` is written by the rule, or nothing can be read there; never more octets are
-- written than were read
pub record Rewrites {A : Type 0} (rule : A → List ℕ) (found : Read A) (body : List ℕ) (at end : ℕ) (old new : Out) : Type 0 where
  pub forwards : at ≤ end
  pub within : end ≤ length body
  pub room : 8 * (length body - end) ≤ room new
  pub some : (b : List ℕ) × Appends old new b
  pub state : ((a : A) × Gets found body at end a × Appends old new (rule a)) ⊎ ((fault : BodyFault) × FailsAt found at fault)

-- a value of the kind
abbrev pub RewritesKind : KindTree → List ℕ → ℕ → ℕ → Out → Out → Type 0
RewritesKind k body at end old new = Rewrites (canon k) (kind_read k body at) body at end old new

-- the entries of the marked slots
abbrev pub RewritesEntries : SlotsTree → List ℕ → List ℕ → ℕ → ℕ → Out → Out → Type 0
RewritesEntries ss marks body at end old new = Rewrites (along ss marks) (entries_at ss marks body at) body at end old new

-- a front is written, and what is read from octet `here` on decides the rest
pub record Fronts {A B : Type 0} (rule : A → List ℕ) (next : Read A) (whole_rule : B → List ℕ) (whole : Read B) (body : List ℕ) (at here : ℕ) (old now : Out) : Type 0 where
  pub front : List ℕ
  pub appends : Appends old now front
  pub gets : (a : A) (end : ℕ) → Gets next body here end a → (b : B) × Gets whole body at end b × (whole_rule b ≡ front ++ rule a)
  pub fails : (fault : BodyFault) → FailsAt next here fault → FailsAt whole at fault

-- the same, or nothing can be read
pub record Writes {A B : Type 0} (rule : A → List ℕ) (next : Read A) (whole_rule : B → List ℕ) (whole : Read B) (body : List ℕ) (at here : ℕ) (old now : Out) : Type 0 where
  pub forwards : at ≤ here
  pub within : here ≤ length body
  pub room : 8 * (length body - here) ≤ room now
  pub some : (b : List ℕ) × Appends old now b
  pub state : Fronts rule next whole_rule whole body at here old now ⊎ ((fault : BodyFault) × FailsAt whole at fault)
