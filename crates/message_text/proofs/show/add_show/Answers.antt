use Rattle.std.proofs.Common.{◌≡◌, ◌++◌, ℕ, List, OnOk, subst}
use Rattle.message_text.specs.Shown.{show, show_line}
use Rattle.message_text.proofs.show.add_show.Goals as goal

pub returns : goal.returns
unfolding show
returns c =
    subst (λ (bytes : List ℕ). OnOk c.add_line.result (c.add_line.new.text ≡ c.args.text.now ++ show_line bytes c.args.number c.args.column c.args.width))
    c.line.ensures c.add_line.ensures
