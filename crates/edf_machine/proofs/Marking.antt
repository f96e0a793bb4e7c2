-- Marks as code changes them.
use Rattle.std.proofs.Common.{◌≡◌, ◌≤◌, ◌<◌, ◌+◌, inl, inr, ℕ, zero, suc, List, [], ◌∷◌, Some, length, map, arith, refl, ap, sym, subst, ◌∙◌, true, false}
use Rattle.std.specs.Prelude.{slice_get, slice_set}
use Rattle.std.proofs.lemmas.List.{length-set, length-map}
use Rattle.std.proofs.lemmas.Option.{slice_get_within}
use Rattle.base.proofs.Lists.{some_at}
use Rattle.machine_semantics.specs.Image.{Image, Process}
use Rattle.machine_semantics.specs.State.{Thread}
use Rattle.edf_semantics.specs.Choice.{Mark}
use Rattle.edf_semantics.specs.Run.{begin, first_marks, mark_of, marks_of}
use Rattle.edf_semantics.proofs.Marking.{begin_at, begin_other, length_begin, length_marks, marks_at}
use Rattle.edf_machine.specs.declared.marks.DeadlineState.{DeadlineState as Kept}
use Rattle.edf_machine.specs.Marks.{AreMarks, AreNoted, HasDeadlines, IsMark, first_kept, is_idle}
use Rattle.edf_machine.proofs.Lists.{at_set}

-- ---- at first

first_each : (ps : List Process) (k : ℕ) (p : Process) (kept : Kept) (m : Mark) → slice_get ps k ≡ Some p → slice_get (map first_kept (map (λ (x : Process). x.deadline) ps)) k ≡ Some kept
    → slice_get (map (λ (x : Process). record { release = 0; begun = false }) ps) k ≡ Some m → IsMark p kept m
first_each [] k p kept m at_p at_k at_m = absurd cc
first_each (x ∷ ps) zero p kept m at_p at_k at_m =
    let same : x ≡ p = cc in
    let is : first_kept x.deadline ≡ kept = cc in
    let mark : record { release = 0; begun = false } ≡ m = cc in
    let deadline : kept.deadline ≡ p.deadline = sym (ap (λ (y : Kept). y.deadline) is) ∙ ap (λ (y : Process). y.deadline) same in
    let due : kept.due ≡ p.deadline = sym (ap (λ (y : Kept). y.due) is) ∙ ap (λ (y : Process). y.deadline) same in
    let release : 0 ≡ m.release = ap (λ (y : Mark). y.release) mark in
    record {
      deadline = deadline;
      due = omega (arith, due, release);
      begun = sym (ap (λ (y : Kept). y.begun) is) ∙ ap (λ (y : Mark). y.begun) mark;
    }
first_each (x ∷ ps) (suc k) p kept m at_p at_k at_m = first_each ps k p kept m at_p at_k at_m

-- marks made of the deadlines are those before the first tick
pub first_are : (image : Image) (deadlines : List ℕ) → HasDeadlines image deadlines → AreMarks image (map first_kept deadlines) (first_marks image)
first_are image deadlines has =
    subst (λ (ds : List ℕ). AreMarks image (map first_kept ds) (first_marks image)) has (record {
      many = length-map (map (λ (x : Process). x.deadline) image.processes) first_kept ∙ length-map image.processes (λ (x : Process). x.deadline);
      count = length-map image.processes (λ (x : Process). record { release = 0; begun = false });
      each = λ k p kept m at_p at_k at_m. first_each image.processes k p kept m at_p at_k at_m;
    })

-- ---- one mark

pub one_set : (image : Image) (kepts : List Kept) (ms : List Mark) (k : ℕ) (kept new : Kept) → AreMarks image kepts ms → slice_get kepts k ≡ Some kept → ((p : Process) (m : Mark) → IsMark p kept m → IsMark p new m) → AreMarks image (slice_set kepts k new) ms
one_set image kepts ms k kept new are at keeps = record {
  many = length-set kepts k new ∙ are.many;
  count = are.count;
  each = λ j p x m at_p at_x at_m. elim (at_set kepts k new j x at_x) [
    | inl here ↦ subst (λ (y : Kept). IsMark p y m) here.1 (keeps p m (are.each j p kept m at_p (ap (λ (i : ℕ). slice_get kepts i) (sym here.0) ∙ at) at_m))
    | inr other ↦ are.each j p x m at_p other.1 at_m
  ];
}

-- the activation of process k has had a tick
pub one_begins : (image : Image) (kepts : List Kept) (ms : List Mark) (k : ℕ) (kept : Kept) → AreMarks image kepts ms → slice_get kepts k ≡ Some kept → AreMarks image (slice_set kepts k (record kept { begun = true })) (begin k ms)
one_begins image kepts ms k kept are at = record {
  many = length-set kepts k (record kept { begun = true }) ∙ are.many;
  count = length_begin k ms ∙ are.count;
  each = λ j p x m at_p at_x at_m. elim (at_set kepts k (record kept { begun = true }) j x at_x) [
    | inl here ↦
        let old = some_at ms k (let within = slice_get_within kepts k kept at in omega (arith, within, are.many, are.count)) in
        let both : Some (record { release = (old.0).release; begun = true }) ≡ Some m = sym (begin_at k ms old.0 old.1) ∙ ap (λ (i : ℕ). slice_get (begin k ms) i) here.0 ∙ at_m in
        let mark : record { release = (old.0).release; begun = true } ≡ m = cc in
        let was : IsMark p kept old.0 = are.each j p kept old.0 at_p (ap (λ (i : ℕ). slice_get kepts i) (sym here.0) ∙ at) (ap (λ (i : ℕ). slice_get ms i) (sym here.0) ∙ old.1) in
        let is : IsMark p (record kept { begun = true }) (record { release = (old.0).release; begun = true }) = record { deadline = was.deadline; due = was.due; begun = refl } in
        subst (λ (y : Kept). IsMark p y m) here.1 (subst (λ (y : Mark). IsMark p (record kept { begun = true }) y) mark is)
    | inr other ↦ are.each j p x m at_p other.1 (sym (begin_other k j ms other.0) ∙ at_m)
  ];
}

-- ---- who is idle

-- it is noted of the processes below k, and no mark means another than before
pub record Noting (start kepts : List Kept) (threads : List Thread) (k : ℕ) : Type 0 where
  pub many : length kepts ≡ length start
  pub marks : (image : Image) (ms : List Mark) → AreMarks image start ms → AreMarks image kepts ms
  pub noted : (j : ℕ) (th : Thread) (kept : Kept) → j < k → slice_get threads j ≡ Some th → slice_get kepts j ≡ Some kept → kept.idle ≡ is_idle th

pub note_one : (start kepts : List Kept) (threads : List Thread) (k : ℕ) (kept new : Kept) (th : Thread) → Noting start kepts threads k → slice_get kepts k ≡ Some kept → slice_get threads k ≡ Some th → new ≡ record kept { idle = is_idle th } → Noting start (slice_set kepts k new) threads (k + 1)
note_one start kepts threads k kept new th was at at_th is = record {
  many = length-set kepts k new ∙ was.many;
  marks = λ image ms are.
      one_set image kepts ms k kept new (was.marks image ms are) at (λ p m old. subst (λ (y : Kept). IsMark p y m) (sym is) (let new_is : IsMark p (record kept { idle = is_idle th }) m = record { deadline = old.deadline; due = old.due; begun = old.begun } in new_is));
  noted = λ j other x below at_other at_x. elim (at_set kepts k new j x at_x) [
    | inl here ↦
        let both : Some th ≡ Some other = sym at_th ∙ ap (λ (i : ℕ). slice_get threads i) here.0 ∙ at_other in
        let same : th ≡ other = cc in
        ap (λ (y : Kept). y.idle) (sym here.1 ∙ is) ∙ ap (λ (y : Thread). is_idle y) same
    | inr apart ↦ was.noted j other x (let differ = apart.0 in omega (arith, below, differ)) at_other apart.1
  ];
}

pub noted_all : (start kepts : List Kept) (threads : List Thread) (k : ℕ) → Noting start kepts threads k → length kepts ≤ k → AreNoted threads kepts
noted_all start kepts threads k was all j th kept at_th at = was.noted j th kept (let within = slice_get_within kepts j kept at in omega (arith, within, all)) at_th at

-- ---- releases

-- those of the processes below k are marked
pub record Releasing (t : ℕ) (image : Image) (olds news : List Thread) (kepts : List Kept) (ms : List Mark) (k : ℕ) : Type 0 where
  pub many : length kepts ≡ length image.processes
  pub done : (j : ℕ) (p : Process) (kept : Kept) (o n : Thread) (m : Mark) → j < k → slice_get image.processes j ≡ Some p → slice_get kepts j ≡ Some kept → slice_get olds j ≡ Some o → slice_get news j ≡ Some n → slice_get ms j ≡ Some m → IsMark p kept (mark_of t o n m)
  pub coming : (j : ℕ) (p : Process) (kept : Kept) (o : Thread) (m : Mark) → k ≤ j → slice_get image.processes j ≡ Some p → slice_get kepts j ≡ Some kept → slice_get olds j ≡ Some o → slice_get ms j ≡ Some m → IsMark p kept m × (kept.idle ≡ is_idle o)

pub release_one : (t : ℕ) (image : Image) (olds news : List Thread) (kepts : List Kept) (ms : List Mark) (k : ℕ) (kept new : Kept) (th : Thread) → Releasing t image olds news kepts ms k → slice_get kepts k ≡ Some kept → slice_get news k ≡ Some th
    → ((p : Process) (old : Thread) (m : Mark) → IsMark p kept m → kept.idle ≡ is_idle old → IsMark p new (mark_of t old th m)) → Releasing t image olds news (slice_set kepts k new) ms (k + 1)
release_one t image olds news kepts ms k kept new th was at at_th released = record {
  many = length-set kepts k new ∙ was.many;
  done = λ j p x o n m below at_p at_x at_o at_n at_m. elim (at_set kepts k new j x at_x) [
    | inl here ↦
        let both : Some th ≡ Some n = sym at_th ∙ ap (λ (i : ℕ). slice_get news i) here.0 ∙ at_n in
        let same : th ≡ n = cc in
        let le : k ≤ j = omega (arith, here.0) in
        let old = was.coming j p kept o m le at_p (ap (λ (i : ℕ). slice_get kepts i) (sym here.0) ∙ at) at_o at_m in
        subst (λ (y : Kept). IsMark p y (mark_of t o n m)) here.1 (subst (λ (y : Thread). IsMark p new (mark_of t o y m)) same (released p o m old.0 old.1))
    | inr apart ↦ was.done j p x o n m (let differ = apart.0 in omega (arith, below, differ)) at_p apart.1 at_o at_n at_m
  ];
  coming = λ j p x o m above at_p at_x at_o at_m. elim (at_set kepts k new j x at_x) [
    | inl here ↦ absurd (omega (arith, here.0, above))
    | inr apart ↦ was.coming j p x o m (omega (arith, above)) at_p apart.1 at_o at_m
  ];
}

pub release_all : (t : ℕ) (image : Image) (olds news : List Thread) (kepts : List Kept) (ms : List Mark) (k : ℕ) → Releasing t image olds news kepts ms k → length image.processes ≤ k → length olds ≡ length image.processes → length news ≡ length image.processes → length ms ≡ length image.processes
    → AreMarks image kepts (marks_of t olds news ms)
release_all t image olds news kepts ms k was all olds_count news_count marks_count = record {
  many = was.many;
  count = length_marks t olds news ms (olds_count ∙ sym marks_count) (news_count ∙ sym marks_count) ∙ marks_count;
  each = λ j p x m at_p at_x at_m.
      let within : j < length image.processes = slice_get_within image.processes j p at_p in
      let o = some_at olds j (omega (arith, within, olds_count)) in
      let n = some_at news j (omega (arith, within, news_count)) in
      let old = some_at ms j (omega (arith, within, marks_count)) in
      let both : Some (mark_of t o.0 n.0 old.0) ≡ Some m = sym (marks_at t olds news ms j o.0 n.0 old.0 o.1 n.1 old.1) ∙ at_m in
      let same : mark_of t o.0 n.0 old.0 ≡ m = cc in
      subst (λ (y : Mark). IsMark p x y) same (was.done j p x o.0 n.0 old.0 (omega (arith, within, all)) at_p at_x o.1 n.1 old.1);
}
