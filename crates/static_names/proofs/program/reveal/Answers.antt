use Rattle.std.proofs.Common.{◌≡◌, ◌∷◌, map, true, false, is_some, ap, sym, ◌∙◌}
use Rattle.std.proofs.lemmas.Result.{on_ok_weaker}
use Rattle.syntax_tree.specs.Plain.{Name}
use Rattle.syntax_tree.specs.Placed.{constant, placed_constant, placed_decl}
use Rattle.static_names.specs.declared.kind.Declared.{Declared}
use Rattle.static_names.specs.declared.kind.Kind.TheVariants.{Constant}
use Rattle.static_names.specs.Occurrences.{decl_name, others}
use Rattle.static_names.specs.Seen.{entry_of, meaning, add, add_all, put}
use Rattle.static_names.proofs.Scopes.{add-present, first-same}
use Rattle.static_names.proofs.Programs.{put-before}
use Rattle.static_names.proofs.program.reveal.Goals as goal

pub returns-then-taken : goal.returns-then-taken
returns-then-taken c seen rest known h =
    let s = meaning seen in
    let d = placed_decl c.args.decl.now in
    let e : d ≡ constant c.in-Const.name c.in-Const.place (placed_constant c.in-Const.value) = ap placed_decl c.in-Const.is in
    let there : is_some (s (decl_name d).0) ≡ true = sym known ∙ c.if-taken.true in
    h ∙ ap (λ x. add_all s (others (x ∷ rest))) e
    ∙ ap (λ r. add_all r (others rest)) (add-present s (decl_name d) (λ n q. first-same (map entry_of seen) n (decl_name d).0 q) there)

pub returns-in-Const : goal.returns-in-Const
returns-in-Const c = on_ok_weaker c.set.result (λ told seen rest known h.
    let s = meaning seen in
    let name : Name = c.in-Const.name in
    let here : Declared = record { place = c.in-Const.place; kind = Constant } in
    let e : placed_decl c.args.decl.now ≡ constant name c.in-Const.place (placed_constant c.in-Const.value) = ap placed_decl c.in-Const.is in
    let unseen : is_some (s name) ≡ false = ap (λ d. is_some (s (decl_name d).0)) (sym e) ∙ sym known ∙ c.if-taken.false in
    told
    ∙ ap (λ n. put (meaning c.args.program.now.entries) (n, here)) c.as_bytes.ensures
    ∙ ap (λ r. put r (name, here)) (h ∙ ap (λ d. add_all s (others (d ∷ rest))) e)
    ∙ put-before s (name, here) (others rest) (λ n q. first-same (map entry_of seen) n name q) unseen
    ∙ ap (λ d. add_all (add s (decl_name d)) (others rest)) (sym e)) c.set.ensures
