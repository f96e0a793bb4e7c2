use Rattle.std.proofs.Common.{◌≡◌, ℕ, List, drop, take, subst, sym, ◌∙◌, ap, add-zero, refl, arith, length-drop, slice_index_or}
use Rattle.std.proofs.lemmas.List.{get_or-drop}
use Rattle.syntax.specs.declared.token.Token.{Token}
use Rattle.syntax.proofs.ReadLemmas.{begun, spot_near, spot_past, spot_past_blank, read_blank, read_comment, read_token, comment_within, comment_in_line, spelling_in_line, longest_some}
use Rattle.syntax.specs.Tokens.{StandsIn}
use Rattle.syntax.specs.Reading.{IsRead}
use Rattle.syntax.proofs.lexer.step.Goals as goal

pub past_blank-requires-clause-col : goal.past_blank-requires-clause-col
past_blank-requires-clause-col c = let near = spot_near c.args.text.now c.args.spot c.requires.read.place in omega (arith, near)

pub past-requires-clause-at : goal.past-requires-clause-at
past-requires-clause-at c =
    let rest : List ℕ = drop c.args.spot.at c.args.text.now in
    let begins = begun c.bytes_from-rest.result.now rest c.bytes_from-rest.ensures c.in-Ok-Comment.field-0-is c.in-Ok-Comment.ensures.ok in
    omega (arith, comment_within rest c.in-Ok-Comment.len begins, length-drop c.args.spot.at c.args.text.now)

pub past-requires-clause-col : goal.past-requires-clause-col
past-requires-clause-col c =
    let rest : List ℕ = drop c.args.spot.at c.args.text.now in
    let begins = begun c.bytes_from-rest.result.now rest c.bytes_from-rest.ensures c.in-Ok-Comment.field-0-is c.in-Ok-Comment.ensures.ok in
    let near = spot_near c.args.text.now c.args.spot c.requires.read.place in
    omega (arith, near, comment_within rest c.in-Ok-Comment.len begins, length-drop c.args.spot.at c.args.text.now)

pub past-requires-in-Ok-Token-clause-col : goal.past-requires-in-Ok-Token-clause-col
past-requires-in-Ok-Token-clause-col c =
    let rest : List ℕ = drop c.args.spot.at c.args.text.now in
    let begins = begun c.bytes_from-rest.result.now rest c.bytes_from-rest.ensures c.in-Ok-Token.field-0-is c.in-Ok-Token.ensures.ok in
    let near = spot_near c.args.text.now c.args.spot c.requires.read.place in
    omega (arith, near, begins.0.within, length-drop c.args.spot.at c.args.text.now)

pub returns-in-Ok-Blank-clause-read : goal.returns-in-Ok-Blank-clause-read
returns-in-Ok-Blank-clause-read c =
    let rest : List ℕ = drop c.args.spot.at c.args.text.now in
    let begins = begun c.bytes_from-rest.result.now rest c.bytes_from-rest.ensures c.in-Ok-Blank.field-0-is c.in-Ok-Blank.ensures.ok in
    let here : slice_index_or c.bytes_from-rest.result.now 0 0 ≡ slice_index_or c.args.text.now c.args.spot.at 0 =
    ap (λ r. slice_index_or r 0 0) c.bytes_from-rest.ensures ∙ get_or-drop c.args.spot.at c.args.text.now 0 0 ∙ ap (λ k. slice_index_or c.args.text.now k 0) (add-zero c.args.spot.at) in
    read_blank c.args.text.now c.args.spot c.past_blank.result c.args.toks.now c.requires.read begins c.past_blank.ensures.at
    (spot_past_blank c.args.text.now c.args.spot c.past_blank.result _ c.requires.read.place c.requires.more here c.past_blank.ensures.at c.past_blank.ensures.line c.past_blank.ensures.col)

pub returns-in-Ok-Comment-clause-read : goal.returns-in-Ok-Comment-clause-read
returns-in-Ok-Comment-clause-read c =
    let rest : List ℕ = drop c.args.spot.at c.args.text.now in
    let n : ℕ = c.in-Ok-Comment.len in
    let begins = begun c.bytes_from-rest.result.now rest c.bytes_from-rest.ensures c.in-Ok-Comment.field-0-is c.in-Ok-Comment.ensures.ok in
    read_comment c.args.text.now c.args.spot c.past.result c.args.toks.now n c.requires.read begins c.past.ensures.at
    (spot_past c.args.text.now c.args.spot c.past.result n c.requires.read.place (comment_within rest n begins) (comment_in_line rest n begins) c.past.ensures.at c.past.ensures.line c.past.ensures.col)

pub returns-in_ok-add-in-Ok-Token-clause-read : goal.returns-in_ok-add-in-Ok-Token-clause-read
returns-in_ok-add-in-Ok-Token-clause-read c =
    let text : List ℕ = c.args.text.now in
    let rest : List ℕ = drop c.args.spot.at text in
    let n : ℕ = c.in-Ok-Token.len in
    let begins = begun c.bytes_from-rest.result.now rest c.bytes_from-rest.ensures c.in-Ok-Token.field-0-is c.in-Ok-Token.ensures.ok in
    let t : Token = record { kind = c.in-Ok-Token.kind; start = c.args.spot.at; len = n; line = c.args.spot.line; col = c.args.spot.col } in
    let place = c.requires.read.place in
    let stands : StandsIn text t = record { longest = begins.0; kind = begins.1; line = place.line; col = place.col } in
    let next = spot_past text c.args.spot c.past-in-Ok-Token.result n place begins.0.within (spelling_in_line (take n rest) begins.0.spells) c.past-in-Ok-Token.ensures.at c.past-in-Ok-Token.ensures.line c.past-in-Ok-Token.ensures.col in
    subst (IsRead text c.past-in-Ok-Token.result) (sym c.in_ok-add-in-Ok-Token.ensures.ok)
    (read_token text c.args.spot c.past-in-Ok-Token.result c.args.toks.now t c.requires.read refl stands c.past-in-Ok-Token.ensures.at next)

pub returns-in_ok-add-in-Ok-Token-clause-further :
    goal.returns-in_ok-add-in-Ok-Token-clause-further
returns-in_ok-add-in-Ok-Token-clause-further c =
    let rest : List ℕ = drop c.args.spot.at c.args.text.now in
    let begins = begun c.bytes_from-rest.result.now rest c.bytes_from-rest.ensures c.in-Ok-Token.field-0-is c.in-Ok-Token.ensures.ok in
    omega (arith, longest_some rest c.in-Ok-Token.len begins.0, c.past-in-Ok-Token.ensures.at)
