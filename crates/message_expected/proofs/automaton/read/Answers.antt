use Rattle.std.proofs.Common.{◌≡◌, ap, inl, inr, ◌∙◌}
use Rattle.std.proofs.lemmas.Result.{IfOk-weaker}
use Rattle.out_of_memory.specs.Refused.{refused}
use Rattle.syntax.proofs.LawLemmas.{only_memory}
use Rattle.syntax.specs.declared.fault.LexFault.TheVariants as lex
use Rattle.message_expected.specs.Automaton as automaton
use Rattle.message_expected.specs.Leads.{Leads}
use Rattle.message_expected.specs.Stack.{reached_of}
use Rattle.message_expected.proofs.automaton.read.Goals as goal

pub returns-in-Ok : goal.returns-in-Ok
returns-in-Ok c =
    IfOk-weaker c.lead.result (λ it. reached_of it ≡ automaton.reach automaton.start (automaton.kinds_in c.args.text.now c.as_slice.result.now)) (λ it. Leads c.args.text.now (reached_of it))
    (λ it is. inl (c.in-Ok.tokens.list, c.in-Ok.ensures.list, is ∙ ap (λ l. automaton.reach automaton.start (automaton.kinds_in c.args.text.now l)) c.as_slice.ensures)) c.lead.ensures

pub returns-in-Err : goal.returns-in-Err
returns-in-Err c =
    IfOk-weaker c.lead_nowhere.result (λ it. (reached_of it ≡ automaton.stopped) × (c.in-Err.fault ≡ lex.Memory refused → ⊥)) (λ it. Leads c.args.text.now (reached_of it))
    (λ it (is, other). inr (λ toks listed. other (only_memory c.args.text.now toks c.in-Err.fault c.in-Err.ensures.cause listed), is)) c.lead_nowhere.ensures
