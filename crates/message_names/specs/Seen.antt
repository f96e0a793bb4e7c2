-- What contracts see of the code's lists of names.
use Rattle.std.specs.Prelude.{Bool, true, false, List, [], map, Option, option_map, if◌then◌else◌}
use Rattle.syntax_tree.specs.Placed.{Stmt, assign, assign_entry, assign_empty, perform, perform_entry, when, when_else, loop}
use Rattle.syntax_tree.specs.declared.place.Place.{Place}
use Rattle.message_names.specs.declared.mentions.Mention as code_mention
use Rattle.message_names.specs.Mentions.{Mention, stmt_mentions}

abbrev pub mention_of : code_mention.Mention → Mention
mention_of m = record { name = m.name.now; place = m.place; role = m.role }

abbrev pub mentions_of : List code_mention.Mention → List Mention
mentions_of ms = map mention_of ms

-- a name that was looked for
abbrev pub found : Option code_mention.Mention → Option Mention
found m = option_map mention_of m

-- ---- statements, by the groups of their forms

abbrev pub is_change : Stmt Place → Bool
is_change (assign r e) = true
is_change (assign_entry r mon p entry q es) = true
is_change (assign_empty r cond p) = true
is_change (perform p name es) = true
is_change (perform_entry p mon entry q es) = true
is_change s = false

-- in the statement no others stand
abbrev pub is_plain : Stmt Place → Bool
is_plain (when p e a) = false
is_plain (when_else p e a b) = false
is_plain (loop p name q low high a) = false
is_plain s = true

-- the names of a statement, if it is so
abbrev pub mentions_if : (Stmt Place → Bool) → Stmt Place → List Mention
mentions_if form s = if form s then stmt_mentions s else []
