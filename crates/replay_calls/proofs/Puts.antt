-- What a store comes to, by what it comes to among the call's own variables and those beside them.
use Rattle.std.specs.Prelude.{◌≡◌, Bool, true, false, cond, Option, Some, None, ℤ, option_map}
use Rattle.std.proofs.Common.{refl, sym, ◌∙◌, ap}
use Rattle.base.specs.Words.{word, raised}
use Rattle.syntax_tree.specs.Plain.{Name}
use Rattle.source_semantics.specs.Store.{Held, Slot, Vars, in_range, slot_named, replaced, stored}
use Rattle.source_semantics.specs.Run as run
use Rattle.replay_calls.specs.Stores.{put, put_found, put_named, IsStored, accepted, store_run}
use Rattle.replay_calls.specs.declared.storing.StoreResult.{StoreResult}
use Rattle.replay_calls.specs.declared.storing.StoreResult.TheVariants as stored_is

abbrev after_put : run.Home → run.Memory → Name → Option Held → run.Run
after_put h m x None = run.fails 3 m
after_put h m x (Some held) = run.goes (run.memory_after h m x (slot_named x m.own) held)

held_put : (h : run.Home) (m : run.Memory) (x : Name) (o : Option Held) → run.stored_held h m x o ≡ after_put h m x o
held_put h m x None = refl
held_put h m x (Some held) = refl

slot_put : (h : run.Home) (m : run.Memory) (t : run.Target) (v : ℤ) (s : Slot) (b : Bool)
    → run.with_value (cond b (word v) (raised 3)) m (λ w. run.stored_held h m t.name (stored s.held t.index w)) ≡ after_put h m t.name (cond b (stored s.held t.index v) None)
slot_put h m t v s true = held_put h m t.name (stored s.held t.index v)
slot_put h m t v s false = refl

found_put : (h : run.Home) (m : run.Memory) (t : run.Target) (v : ℤ) (s : Slot) → run.slot_in h m t.name ≡ Some s → run.store_to h m t v ≡ after_put h m t.name (put t.index v s)
found_put h m t v s e = ap (run.stored_slot h m t v) e ∙ slot_put h m t v s (in_range s.range v)

-- what a store comes to, by the variables after it, if it is not refused
abbrev put_run : (Vars → run.Memory) → run.Memory → Option Vars → run.Run
put_run into m None = run.fails 3 m
put_run into m (Some vs) = run.goes (into vs)

beside_held : (h : run.Home) (m : run.Memory) (x : Name) (p : Option Held) → slot_named x m.own ≡ None → after_put h m x p ≡ put_run (λ vs. run.with_outer h m vs) m (option_map (λ k. replaced x k (run.outer h m)) p)
beside_held h m x None is = refl
beside_held h m x (Some held) is = ap (λ o. run.goes (run.memory_after h m x o held)) is

one_some : {A : Type 0} {a b : A} → Some a ≡ Some b → a ≡ b
one_some e = cc

-- no variable of that name, where no store finds one
none_named : (x : Name) (i : Option ℤ) (v : ℤ) (vs : Vars) → put_named x i v vs ≡ None → slot_named x vs ≡ None
none_named x i v vs told = by_slot (slot_named x vs) refl
  where
    by_slot : (o : Option Slot) → slot_named x vs ≡ o → slot_named x vs ≡ None
    by_slot None is = is
    by_slot (Some s) is = let some : Some (option_map (λ k. replaced x k vs) (put i v s)) ≡ None = sym (ap (put_found x i v vs) is) ∙ told in absurd cc

beside_put : (h : run.Home) (m : run.Memory) (t : run.Target) (v : ℤ) (e : Option Vars) → put_named t.name t.index v m.own ≡ None → put_named t.name t.index v (run.outer h m) ≡ Some e → run.store_to h m t v ≡ put_run (λ vs. run.with_outer h m vs) m e
beside_put h m t v e none told = by_slot (slot_named t.name (run.outer h m)) refl
  where
    by_slot : (o : Option Slot) → slot_named t.name (run.outer h m) ≡ o → run.store_to h m t v ≡ put_run (λ vs. run.with_outer h m vs) m e
    by_slot None is = let n : None ≡ Some e = sym (ap (put_found t.name t.index v (run.outer h m)) is) ∙ told in absurd cc
    by_slot (Some s) is =
        let own : slot_named t.name m.own ≡ None = none_named t.name t.index v m.own none in
        let found : run.slot_in h m t.name ≡ Some s = ap (λ o. run.or_else o (slot_named t.name (run.outer h m))) own ∙ is in
        let one : option_map (λ k. replaced t.name k (run.outer h m)) (put t.index v s) ≡ e = one_some (sym (ap (put_found t.name t.index v (run.outer h m)) is) ∙ told) in
        found_put h m t v s found ∙ (beside_held h m t.name (put t.index v s) own ∙ ap (put_run (λ vs. run.with_outer h m vs) m) one)

absent_put : (h : run.Home) (m : run.Memory) (t : run.Target) (v : ℤ) → put_named t.name t.index v m.own ≡ None → put_named t.name t.index v (run.outer h m) ≡ None → run.store_to h m t v ≡ run.goes m
absent_put h m t v none beside =
    let own : slot_named t.name m.own ≡ None = none_named t.name t.index v m.own none in
    let out : slot_named t.name (run.outer h m) ≡ None = none_named t.name t.index v (run.outer h m) beside in
    ap (run.stored_slot h m t v) (ap (λ o. run.or_else o (slot_named t.name (run.outer h m))) own ∙ out)

kept_outer : (h : run.Home) (m : run.Memory) → run.with_outer h m (run.outer h m) ≡ m
kept_outer run.of_program m = refl
kept_outer run.of_process m = refl
kept_outer (run.of_monitor k) m = refl

-- a store among the variables beside them
pub beside_done : (h : run.Home) (m : run.Memory) (t : run.Target) (v : ℤ) (r : StoreResult) (new : Vars) → put_named t.name t.index v m.own ≡ None → IsStored (put_named t.name t.index v (run.outer h m)) (run.outer h m) r new
    → store_run (accepted r) (run.with_outer h m new) ≡ run.store_to h m t v
beside_done h m t v stored_is.Absent new none told = ap (λ vs. run.goes (run.with_outer h m vs)) told.1 ∙ (ap run.goes (kept_outer h m) ∙ sym (absent_put h m t v none told.0))
beside_done h m t v stored_is.Refused new none told = ap (λ vs. run.fails 3 (run.with_outer h m vs)) told.1 ∙ (ap (run.fails 3) (kept_outer h m) ∙ sym (beside_put h m t v None none told.0))
beside_done h m t v stored_is.Done new none told = sym (beside_put h m t v (Some new) none told)

pub beside_over : (h : run.Home) (m : run.Memory) (t : run.Target) (v : ℤ) (r : StoreResult) (own new : Vars) → put_named t.name t.index v m.own ≡ None → own ≡ m.own → IsStored (put_named t.name t.index v (run.outer h m)) (run.outer h m) r new
    → store_run (accepted r) (run.with_outer h (run.with_own m own) new) ≡ run.store_to h m t v
beside_over h m t v r own new none same told = ap (λ o. store_run (accepted r) (run.with_outer h (run.with_own m o) new)) same ∙ beside_done h m t v r new none told
