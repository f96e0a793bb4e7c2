use Rattle.std.proofs.Common.{◌≡◌, ◌++◌, OnOk, subst, sym}
use Rattle.replay_reason_spec.specs.declared.reason.Reason.{Reason}
use Rattle.message_log.specs.Refused.{sentence}
use Rattle.message_log.proofs.refused.add_sentence.Goals as goal

pub returns-in-BeyondEnd : goal.returns-in-BeyondEnd
returns-in-BeyondEnd c =
    subst (λ (why : Reason). OnOk c.add_both.result (c.add_both.new.text ≡ c.args.text.now ++ sentence c.args.names.now why)) (sym c.in-BeyondEnd.is) c.add_both.ensures

pub returns-in-NoneDue : goal.returns-in-NoneDue
returns-in-NoneDue c =
    subst (λ (why : Reason). OnOk c.add_behind.result (c.add_behind.new.text ≡ c.args.text.now ++ sentence c.args.names.now why)) (sym c.in-NoneDue.is) c.add_behind.ensures

pub returns-in-Acted : goal.returns-in-Acted
returns-in-Acted c =
    subst (λ (why : Reason). OnOk c.add_between.result (c.add_between.new.text ≡ c.args.text.now ++ sentence c.args.names.now why)) (sym c.in-Acted.is) c.add_between.ensures
