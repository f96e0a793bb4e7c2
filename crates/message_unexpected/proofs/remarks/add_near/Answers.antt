use Rattle.std.proofs.Common.{◌≡◌, ◌++◌, sym, subst}
use Rattle.std.specs.Prelude.{codes, option_map}
use Rattle.std.proofs.lemmas.Result.{on_ok_weaker}
use Rattle.message_unexpected.specs.Remarks.{near}
use Rattle.message_unexpected.proofs.Joined.{joined}
use Rattle.message_unexpected.proofs.remarks.add_near.Goals as goal

pub returns-in_ok-extend-in-Some-2 : goal.returns-in_ok-extend-in-Some-2
returns-in_ok-extend-in-Some-2 c =
    on_ok_weaker c.extend-in-Some-2.result
    (λ put.
    subst (λ name. c.extend-in-Some-2.new.self ≡ c.args.message.now ++ near (option_map (λ it. it.now) name)) (sym c.in-Some.is)
    (joined c.args.message.now (codes "the nearest of these is `") c.in-Some.name.now (codes "`") c.extend.new.self c.extend-in-Some.new.self c.extend-in-Some-2.new.self
    c.in_ok-extend-in-Some.ensures.ok c.in_ok-extend-in-Some-2.ensures.ok put)) c.extend-in-Some-2.ensures.ok
