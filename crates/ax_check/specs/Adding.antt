-- Why a specification isn't added to a catalogue.
use Rattle.std.specs.Prelude.{◌≡◌, List, IsSome}
use Rattle.ax_format.specs.Plain.{catalogue_tree}
use Rattle.ax_format.specs.Specification.{spec_of}
use Rattle.ax_format.specs.declared.spec.Spec.{Spec}
use Rattle.ax_check.specs.declared.catalogue.AddError.{AddError}
use Rattle.ax_check.specs.declared.catalogue.AddError.TheVariants.{CategoryTwice, OutOfMemory}

-- the catalogue has the specification's category; want of memory says nothing
abbrev pub WhyRefused : List Spec → Spec → AddError → Type 0
WhyRefused specs one (CategoryTwice category) = (category ≡ one.category) × IsSome (spec_of one.category (catalogue_tree specs))
WhyRefused specs one OutOfMemory = Unit {0}
