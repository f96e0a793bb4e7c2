use Rattle.std.proofs.Common.{◌≡◌, ap, sym, ◌∙◌, subst, ◌∷◌, length, Err, inl, inr}
use Rattle.syntax_tree.specs.Placed.{placed}
use Rattle.syntax.specs.Grammar.{MOST_LEVELS}
use Rattle.syntax.specs.Words.{toks_of}
use Rattle.syntax_reading.specs.ExprReading.{syntax, nesting}
use Rattle.syntax_reading.specs.Reading.{whole}
use Rattle.syntax_reading.proofs.Sound.{whole_sound}
use Rattle.syntax_reading.proofs.Again.{one_tree}
use Rattle.syntax_parser.specs.declared.fault.Refusal.TheVariants as refusal
use Rattle.syntax_parser.specs.declared.fault.SyntaxFault.TheVariants as fault
use Rattle.syntax_parser.specs.Reads.{Gives}
use Rattle.syntax_reading.proofs.Stops.{fault-stops}
use Rattle.syntax_parser.proofs.Refusals.{no_tree, opening, stopped}
use Rattle.syntax_parser.proofs.program.parse.Goals as goal

pub returns-in-Ok-clause-found : goal.returns-in-Ok-clause-found
returns-in-Ok-clause-found c =
    whole_sound (toks_of c.args.text.now c.args.tokens.now.list) (placed c.in-Ok.prog)
    (ap (λ l. (whole MOST_LEVELS) (toks_of c.args.text.now l)) (sym c.as_slice.ensures) ∙ c.in-Ok.ensures)

pub returns-in-Ok-clause-only : goal.returns-in-Ok-clause-only
returns-in-Ok-clause-only c g tree =
    (one_tree MOST_LEVELS) (toks_of c.args.text.now c.args.tokens.now.list) (placed c.in-Ok.prog) g
    (whole_sound (toks_of c.args.text.now c.args.tokens.now.list) (placed c.in-Ok.prog)
    (ap (λ l. (whole MOST_LEVELS) (toks_of c.args.text.now l)) (sym c.as_slice.ensures) ∙ c.in-Ok.ensures))
    tree

pub returns-in-Err-Syntax-clause-only : goal.returns-in-Err-Syntax-clause-only
returns-in-Err-Syntax-clause-only c g tree =
    let is : c.in-Err-Syntax.field-0 ≡ refusal.Syntax c.in-Err-Syntax.left = c.in-Err-Syntax.field-0-is in
    absurd (no_tree (toks_of c.args.text.now c.args.tokens.now.list) (syntax c.in-Err-Syntax.left)
    (ap (λ l. (whole MOST_LEVELS) (toks_of c.args.text.now l)) (sym c.as_slice.ensures)
    ∙ subst (λ r. Gives placed (whole MOST_LEVELS (toks_of c.args.text.now c.as_slice.result.now)) (Err r)) is c.in-Err-Syntax.ensures) g tree)

pub returns-in-Err-Nesting-clause-only : goal.returns-in-Err-Nesting-clause-only
returns-in-Err-Nesting-clause-only c g tree =
    let is : c.in-Err-Nesting.field-0 ≡ refusal.Nesting c.in-Err-Nesting.left = c.in-Err-Nesting.field-0-is in
    absurd (no_tree (toks_of c.args.text.now c.args.tokens.now.list) (nesting c.in-Err-Nesting.left)
    (ap (λ l. (whole MOST_LEVELS) (toks_of c.args.text.now l)) (sym c.as_slice.ensures)
    ∙ subst (λ r. Gives placed (whole MOST_LEVELS (toks_of c.args.text.now c.as_slice.result.now)) (Err r)) is c.in-Err-Nesting.ensures) g tree)

pub returns-in-Err-Nesting-clause-nesting : goal.returns-in-Err-Nesting-clause-nesting
returns-in-Err-Nesting-clause-nesting c p same =
    let is : c.in-Err-Nesting.field-0 ≡ refusal.Nesting c.in-Err-Nesting.left = c.in-Err-Nesting.field-0-is in
    let it = opening c.args.text.now c.args.tokens.now.list c.in-Err-Nesting.left
    (ap (λ l. (whole MOST_LEVELS) (toks_of c.args.text.now l)) (sym c.as_slice.ensures)
    ∙ subst (λ r. Gives placed (whole MOST_LEVELS (toks_of c.args.text.now c.as_slice.result.now)) (Err r)) is c.in-Err-Nesting.ensures) in
    let there : c.place_of-in-Err-Nesting.result ≡ p = cc in
    record {
      before = it.before;
      token = it.token;
      after = it.after;
      all = it.all;
      opens = it.opens;
      stands = sym there ∙ c.place_of-in-Err-Nesting.ensures.at it.before it.after it.token it.all it.count;
    }

pub returns-in-Err-Syntax-clause-syntax : goal.returns-in-Err-Syntax-clause-syntax
returns-in-Err-Syntax-clause-syntax c p same =
    let is : c.in-Err-Syntax.field-0 ≡ refusal.Syntax c.in-Err-Syntax.left = c.in-Err-Syntax.field-0-is in
    let read = ap (λ l. whole MOST_LEVELS (toks_of c.args.text.now l)) (sym c.as_slice.ensures)
    ∙ subst (λ r. Gives placed (whole MOST_LEVELS (toks_of c.args.text.now c.as_slice.result.now)) (Err r)) is c.in-Err-Syntax.ensures in
    let there : c.place_of.result ≡ p = cc in
    elim (fault-stops c.args.text.now c.args.tokens.now.list c.in-Err-Syntax.left read) [
      | inl (s, count) ↦ inl (s, sym there ∙ c.place_of.ensures.at s.before s.after s.token s.all count)
      | inr (begins, none) ↦ inr (begins, sym there ∙ c.place_of.ensures.last none)
    ]

pub returns-in-Ok-clause-too_deep : goal.returns-in-Ok-clause-too_deep
returns-in-Ok-clause-too_deep c p o =
    let stop = stopped c.args.text.now c.args.tokens.now.list p o in
    let read = ap (λ l. (whole MOST_LEVELS) (toks_of c.args.text.now l)) (sym c.as_slice.ensures) ∙ c.in-Ok.ensures in
    let both = sym read ∙ stop in
    cc

pub returns-in-Err-Syntax-clause-too_deep : goal.returns-in-Err-Syntax-clause-too_deep
returns-in-Err-Syntax-clause-too_deep c p o =
    let is : c.in-Err-Syntax.field-0 ≡ refusal.Syntax c.in-Err-Syntax.left = c.in-Err-Syntax.field-0-is in
    let stop = stopped c.args.text.now c.args.tokens.now.list p o in
    let read = ap (λ l. (whole MOST_LEVELS) (toks_of c.args.text.now l)) (sym c.as_slice.ensures)
    ∙ subst (λ r. Gives placed (whole MOST_LEVELS (toks_of c.args.text.now c.as_slice.result.now)) (Err r)) is c.in-Err-Syntax.ensures in
    let both = sym read ∙ stop in
    cc

pub returns-in-Err-Nesting-clause-too_deep : goal.returns-in-Err-Nesting-clause-too_deep
returns-in-Err-Nesting-clause-too_deep c p o =
    let is : c.in-Err-Nesting.field-0 ≡ refusal.Nesting c.in-Err-Nesting.left = c.in-Err-Nesting.field-0-is in
    let stop = stopped c.args.text.now c.args.tokens.now.list p o in
    let read = ap (λ l. (whole MOST_LEVELS) (toks_of c.args.text.now l)) (sym c.as_slice.ensures)
    ∙ subst (λ r. Gives placed (whole MOST_LEVELS (toks_of c.args.text.now c.as_slice.result.now)) (Err r)) is c.in-Err-Nesting.ensures in
    let both = sym read ∙ stop in
    let count : c.in-Err-Nesting.left ≡ length (o.token ∷ o.after) = cc in
    inl (ap (λ q. Err (fault.Nesting q)) (c.place_of-in-Err-Nesting.ensures.at o.before o.after o.token o.all count ∙ sym o.stands))
