-- What the records of categories are walked over by.
use Rattle.std.specs.Prelude.{◌≡◌, ℕ, ◌<◌, List, length, get_or, Option, None, IfSome}
use Rattle.std.specs.Borrow.{Bor}
use Rattle.std.specs.Option.{option_map}
use Rattle.ax_codec.specs.Standing.{codec_of}
use Rattle.ax_codec.specs.declared.codec.Codec.{Codec}
use Rattle.ax_walk.specs.RecordRows.{AreRecordRows}
use Rattle.ax_walk.specs.declared.record_rows.RecordRows.{RecordRows}
use Rattle.ax_canon.specs.declared.category_rows.CategoryRows.{CategoryRows}

abbrev pub own_codec : RecordRows → Codec
own_codec rows = rows.codec.now

abbrev pub lent_codec : Bor RecordRows → Codec
lent_codec rows = own_codec rows.now

-- by category, of the first n ones: what the records of its codec are walked over by; none where there is no codec
pub record AreRowsTo (codecs : List Codec) (n : ℕ) (rows : List (Option RecordRows)) : Type 0 where
  pub size : length rows ≡ n
  pub codec : (c : ℕ) → c < n → option_map own_codec (get_or rows c None) ≡ codec_of c codecs
  pub own : (c : ℕ) → c < n → IfSome (get_or rows c None) AreRecordRows

-- of all categories
abbrev pub AreCategoryRows : CategoryRows → Type 0
AreCategoryRows made = AreRowsTo made.codecs.now.codecs 256 made.rows.items
