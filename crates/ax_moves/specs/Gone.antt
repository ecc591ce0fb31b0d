-- The keys that are lost wherever they are present.
use Rattle.std.specs.Prelude.{is_none, if◌then◌else◌, List, [], ◌∷◌, ◌++◌}
use Rattle.ax_relation.specs.declared.relation.RelationPath.{RelationPath}

abbrev pub gone_of : RelationPath → List RelationPath
gone_of p = if is_none p.new then p ∷ [] else []

-- those that have no new place, in order
abbrev pub gone : List RelationPath → List RelationPath
gone [] = []
gone (p ∷ ps) = gone_of p ++ gone ps
