-- The tokens that stand for themselves.
use Rattle.std.specs.Prelude.{ℕ, List, [], ◌∷◌, Option, find, bytes_eq, codes}
use Rattle.ax_grammar.specs.declared.keyword.Keyword.{Keyword}
use Rattle.ax_grammar.specs.declared.keyword.Keyword.TheVariants as Word

-- the octets of each
abbrev pub keyword_text : Keyword → List ℕ
keyword_text Word.Category = codes "category"
keyword_text Word.Edition = codes "edition"
keyword_text Word.Items = codes "items"
keyword_text Word.Uap = codes "uap"
keyword_text Word.Item = codes "item"
keyword_text Word.Element = codes "element"
keyword_text Word.Group = codes "group"
keyword_text Word.Extended = codes "extended"
keyword_text Word.Closed = codes "closed"
keyword_text Word.Counted = codes "counted"
keyword_text Word.Wide = codes "wide"
keyword_text Word.ByFx = codes "byfx"
keyword_text Word.Explicit = codes "explicit"
keyword_text Word.Compound = codes "compound"
keyword_text Word.Part = codes "part"
keyword_text Word.Spare = codes "spare"
keyword_text Word.Dash = codes "-"
keyword_text Word.Raw = codes "raw"
keyword_text Word.Table = codes "table"
keyword_text Word.Ascii = codes "ascii"
keyword_text Word.Icao = codes "icao"
keyword_text Word.Octal = codes "octal"
keyword_text Word.Integer = codes "integer"
keyword_text Word.Quantity = codes "quantity"
keyword_text Word.Unsigned = codes "unsigned"
keyword_text Word.Signed = codes "signed"
keyword_text Word.Expansion = codes "expansion"
keyword_text Word.Fx = codes "fx"
keyword_text Word.Fixed = codes "fixed"
keyword_text Word.Open = codes "{"
keyword_text Word.Close = codes "}"

-- each of them
abbrev pub keywords : List Keyword
keywords = Word.Category ∷ Word.Edition ∷ Word.Items ∷ Word.Uap ∷ Word.Item ∷ Word.Element ∷ Word.Group ∷ Word.Extended
    ∷ Word.Closed ∷ Word.Counted ∷ Word.Wide ∷ Word.ByFx ∷ Word.Explicit ∷ Word.Compound ∷ Word.Part ∷ Word.Spare ∷ Word.Dash ∷ Word.Raw ∷ Word.Table
    ∷ Word.Ascii ∷ Word.Icao ∷ Word.Octal ∷ Word.Integer ∷ Word.Quantity ∷ Word.Unsigned ∷ Word.Signed ∷ Word.Expansion ∷ Word.Fx ∷ Word.Fixed ∷ Word.Open ∷ Word.Close ∷ []

-- the one of these octets
unfoldable pub keyword_of : List ℕ → Option Keyword
keyword_of text = find (λ word. bytes_eq (keyword_text word) text) keywords
