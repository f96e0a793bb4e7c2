use Rattle.std.proofs.Common.{◌≡◌, ◌∙◌, sym, ap, subst, List, ◌∷◌, [], take, length}
use Rattle.std.proofs.Math.Seq.{take-append_seam}
use Rattle.code_names.specs.Texts.{texts_of, HasFirsts, with_first, first_text, text_index, owner_of}
use Rattle.code_names.specs.declared.text.Body.{Body}
use Rattle.code_names.proofs.NumberingTable.{firsts-pushed}
use Rattle.code_names.proofs.text_list.TextList.push.Goals as goal

pub invariant_of-self-in-Ok : goal.invariant_of-self-in-Ok
invariant_of-self-in-Ok c =
    let P : List Body → Type 0 = λ ts. HasFirsts c.keep.new.first.entries (texts_of ts) in
    let old = first_text c.self.inside.first.entries in
    subst P (sym c.in_ok-push.ensures.items)
    (firsts-pushed c.self.inside.first.entries c.keep.new.first.entries c.self.inside.texts.items c.args.text c.self.invariant
    (c.in-Ok.ensures.ok ∙ ap (λ m. with_first old c.args.text.owner m (length c.as_slice-index.result.now)) c.as_bytes-name.ensures
    ∙ ap (λ ts. with_first old c.args.text.owner c.args.text.routine.now.name (length ts)) c.as_slice-index.ensures.value))

pub invariant_of-self-in-Err : goal.invariant_of-self-in-Err
invariant_of-self-in-Err c =
    let old = c.self.inside.texts.items in
    let back : c.truncate.new.self.items ≡ old =
    c.truncate.ensures.items ∙ ap (λ ts. take (length ts) c.push.new.self.items) c.as_slice-index.ensures.value
    ∙ ap (take (length old)) c.in_ok-push.ensures.items ∙ take-append_seam old (c.args.text ∷ [])
    in
    record {
      finds = λ o n.
          ap (λ f. f o n) c.in-Err.ensures.err ∙ c.self.invariant.finds o n ∙ ap (λ ts. text_index (owner_of o) n (texts_of ts)) (sym back);
    }
