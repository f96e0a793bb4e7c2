-- What is said of a program where a rule for calls fails: a routine that reaches itself, a handler
-- that reaches a wait.
use Rattle.std.specs.Prelude.{◌≡◌, ◌≢◌, ℕ, ◌++◌, ◌&&◌, Bool, List, [], codes, find, Option, None, option_map, unwrap_or, is_some}
use Rattle.message_text.specs.Words.{quoted}
use Rattle.syntax_tree.specs.Plain.{Name}
use Rattle.syntax_tree.specs.Placed.{Process, Prog}
use Rattle.syntax_tree.specs.Parts.{routines, processes, same_place}
use Rattle.syntax_tree.specs.declared.place.Place.{Place}
use Rattle.static_calls.specs.Reaching.{IsWayBack}
use Rattle.message_conduct.specs.Sentences.{name_at}

-- a routine that reaches itself, and the first that it calls by which it does
unfoldable pub round_sentence : (caller callee : Name) → List ℕ
round_sentence caller callee = quoted caller ++ (codes " reaches itself through its call of " ++ quoted callee)

-- a process whose handler reaches a wait
unfoldable pub handler_sentence : (process : Name) → List ℕ
handler_sentence process = codes "the handler of " ++ (quoted process ++ codes " reaches a `wait`")

-- the name of the routine whose name stands at the place
abbrev pub routine_name : Prog Place → Place → Name
routine_name g place = unwrap_or (name_at place (routines g.decls)) []

-- what is said of the routine at the place that reaches itself; nothing where none does
pub record IsRoundTold (g : Prog Place) (place : Place) (said : Option (List ℕ)) : Type 0 where
  pub callee : Option Place
  pub way : IsWayBack g place callee
  pub is : said ≡ option_map (λ p. round_sentence (routine_name g place) (routine_name g p)) callee

-- the process has a handler, and its name stands at the place
abbrev pub is_handled_at : Place → Process Place → Bool
is_handled_at place p = is_some p.handler && same_place p.place place

-- what is said of the process at the place that has a handler; nothing where none has
abbrev pub handler_told : Prog Place → Place → Option (List ℕ)
handler_told g place = option_map (λ p. handler_sentence p.name) (find (is_handled_at place) (processes g.decls))

-- what is said where the rule with that number fails at the place
pub data IsCallTold (g : Prog Place) (number : ℕ) (place : Place) (said : Option (List ℕ)) : Type 0 where
  of_round : number ≡ 31 → IsRoundTold g place said → IsCallTold g number place said
  of_handler : number ≡ 35 → said ≡ handler_told g place → IsCallTold g number place said
  of_other : number ≢ 31 → number ≢ 35 → said ≡ None → IsCallTold g number place said
