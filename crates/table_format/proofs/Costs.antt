-- What is left of a cost behind some stays.
use Rattle.std.proofs.Common.{◌≡◌, ◌<◌, ◌≤◌, ◌+◌, ◌-◌, ℕ, List, [], ◌∷◌, length, drop, get_or, ap, sym, ◌∙◌, arith}
use Rattle.std.specs.Prelude.{sum_by}
use Rattle.std.proofs.lemmas.List.{drop_all}
use Rattle.std.proofs.lemmas.List.Sums.{sum_by-cons}
use Rattle.table_format.specs.declared.table.TaskStay.{TaskStay}
use Rattle.table_format.proofs.Turns.{drop_item}

abbrev pub spent_in : List TaskStay → ℕ
spent_in stays = sum_by (λ s. 15 + s.ticks) stays

pub left_next : (stays : List TaskStay) (i : ℕ) (s : TaskStay) (old new whole : ℕ) → i < length stays → s ≡ get_or stays i s
    → old - spent_in (drop i stays) ≡ whole → new ≡ old - 15 - s.ticks → new - spent_in (drop (i + 1) stays) ≡ whole
left_next stays i s old new whole below is so_far next =
    let here : spent_in (drop i stays) ≡ 15 + s.ticks + spent_in (drop (i + 1) stays) = ap spent_in (drop_item stays i s below is) ∙ sum_by-cons (λ (u : TaskStay). 15 + u.ticks) s (drop (i + 1) stays) in
    omega (arith, here, so_far, next)

pub left_last : (stays : List TaskStay) (i old whole : ℕ) → length stays ≤ i → old - spent_in (drop i stays) ≡ whole → old ≡ whole
left_last stays i old whole all so_far =
    let none : spent_in (drop i stays) ≡ 0 = ap spent_in (drop_all i stays all) in
    omega (arith, none, so_far)
