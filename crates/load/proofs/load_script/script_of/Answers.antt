use Rattle.std.proofs.Common.{◌≡◌, ◌≤◌, suc, ◌+◌, ◌∷◌, [], ◌*◌, ◌++◌, ◌-◌, ℕ, List, codes, refl, ap, ◌∙◌, arith, rules, w32}
use Rattle.std.specs.Prelude.{FitsSigned}
use Rattle.std.proofs.lemmas.Int.{to_z-of_z}
use Rattle.script.specs.Saying.{set, text_of}
use Rattle.load.specs.Draws.{next, state}
use Rattle.load.proofs.Lines.{rest, all-lines, one_more, ending-is}
use Rattle.load.proofs.load_script.script_of.Goals as goal

pub loop-before-init : goal.loop-before-init
loop-before-init c = (refl, ap (λ (t : List ℕ). t ++ rest c.args.key c.args.count 0 (20 - 0)) c.new-text.ensures ∙ all-lines c.args.key c.args.count)

-- the line with the value that was drawn
put : (c : goal.In_ok-add_setting) → c.add_setting.new.text ≡ c.loop-before.text ++ text_of (set (1000 * c.args.count * c.loop-before.before) (codes "src") c.draw_value-value.result ∷ [])
put c =
    let fits : FitsSigned w32 c.draw_value-value.result = search rules in
    simp to_z-of_z at c.in_ok-add_setting.ensures

pub loop-before-preserved : goal.loop-before-preserved
loop-before-preserved c =
    let at = c.loop-before.before in
    let same = c.draw_value-value.ensures.value c.args.key at c.loop-before.invariant.0 in
    let after : suc at ≡ at + 1 = omega arith in (
      c.draw_value-value.ensures.state ∙ ap next c.loop-before.invariant.0 ∙ ap (state c.args.key) after,
      one_more c.args.key c.args.count at c.loop-before.text c.add_setting.new.text c.loop-before-test.true c.loop-before.invariant.1
          (put c ∙ ap (λ z. c.loop-before.text ++ text_of (set (1000 * c.args.count * at) (codes "src") z ∷ [])) same),
    )

pub returns : goal.returns
returns c =
    let all : 20 ≤ c.loop-before.before = omega (arith, c.loop-before-test.false) in
    ending-is c.args.key c.args.count c.loop-before.before c.loop-before.text c.add_number.new.text c.extend.new.self all c.loop-before.invariant.1
    c.in_ok-add_number.ensures c.in_ok-extend.ensures.ok
