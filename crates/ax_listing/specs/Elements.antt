-- What is said of elements.
use Rattle.std.specs.Prelude.{ℕ}
use Rattle.std.specs.Coded.{Unit-prop, le_prop}
use Rattle.ax_format.specs.declared.content.Content.{Content}
use Rattle.ax_format.specs.declared.content.Content.TheVariants.{Raw, Table, Ascii, Icao, Octal, Integer, Quantity}
use Rattle.ax_text_form.specs.Listable.{ContentListable}

-- a fact of a content and a width is one fact
pub ContentListable-prop : (w : ℕ) (c : Content) → IsProp (ContentListable w c)
ContentListable-prop w Raw p q = Unit-prop p q
ContentListable-prop w (Table entries) p q = Unit-prop p q
ContentListable-prop w Ascii p q = Unit-prop p q
ContentListable-prop w Icao p q = Unit-prop p q
ContentListable-prop w Octal p q = Unit-prop p q
ContentListable-prop w (Integer sign) p q = Unit-prop p q
ContentListable-prop w (Quantity scale) p q = λ i. (le_prop p.0 q.0 i, le_prop p.1 q.1 i)
