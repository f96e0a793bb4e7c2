-- The routines and entries of a tree that is that of a table's program apart from places.
use Rattle.std.proofs.Common.{◌≡◌, ◌∙◌, ◌⊎◌, ℕ, suc, List, [], ◌∷◌, ◌++◌, refl, ap, sym, subst, inl, inr}
use Rattle.std.specs.Prelude.{Contains}
use Rattle.base.proofs.Members.{none_in, front_or_behind}
use Rattle.syntax_tree.specs.Plain as plain_of
use Rattle.syntax_tree.specs.Plain.{Name}
use Rattle.syntax_tree.specs.declared.place.Place.{Place}
use Rattle.syntax_tree.specs.Placed.{Routine, Decl, routine, Prog, plain_routine}
use Rattle.syntax_tree.specs.Bare.{bare_routine}
use Rattle.code_spec.specs.Layout.{by_process, by_monitor}
use Rattle.code_cost.specs.Rules.{PlacedText, placed_texts_of, placed_texts_from}
use Rattle.load_text_law.proofs.Plain.{plain-bare}
use Rattle.table_format.specs.declared.table.TaskTable.{TaskTable}
use Rattle.table_format.specs.Spending.{Nowhere}
use Rattle.table_law.proofs.Lists.{Every, both}
use Rattle.table_law.proofs.Shapes.{IsSomeEntry, IsDeclOf, an_event, a_monitor, a_process}

pub of_each : {A : Type 0} (P : A → Type 0) (xs : List A) → Every P xs → (x : A) → Contains xs x → P x
of_each P [] all x has = absurd (none_in x has)
of_each P (y ∷ xs) all x has = by (of_each P xs all.1 x) (front_or_behind y xs x has)
  where
    by : (Contains xs x → P x) → (y ≡ x) ⊎ Contains xs x → P x
    by rest (inl is) = subst P is all.0
    by rest (inr more) = rest more

-- ---- a routine without places

-- the program that has just this routine
abbrev alone : Routine Place → Prog Place
alone r = record { name = []; place = r.place; decls = routine r ∷ []; close = []; close_place = r.place }

pub plain_like : (r : Routine Place) (s : Routine Nowhere) → bare_routine r ≡ s → plain_routine r ≡ plain_routine s
plain_like r s like =
    let same : plain_of.routine (plain_routine (bare_routine r)) ∷ [] ≡ plain_of.routine (plain_routine r) ∷ [] = ap (λ (p : plain_of.Program). p.decls) (plain-bare (alone r)) in
    let one : plain_routine (bare_routine r) ≡ plain_routine r = cc in
    sym one ∙ ap plain_routine like

-- ---- where routines and entries stand

-- an entry of the table in a monitor
pub record IsEntryText (tail : Name) (x : PlacedText) : Type 0 where
  pub monitor : ℕ
  pub is : x.owner ≡ by_monitor monitor
  pub entry : IsSomeEntry tail x.routine

module _ (tail : Name) (t : TaskTable) where
  of_monitor : (m : ℕ) (rs : List (Routine Place)) → Every (IsSomeEntry tail) rs → Every (IsEntryText tail) (placed_texts_of (by_monitor m) rs)
  of_monitor m [] are = tt
  of_monitor m (r ∷ rs) are = (record { monitor = m; is = refl; entry = are.0 }, of_monitor m rs are.1)

  pub entries_alone : (k m : ℕ) (ds : List (Decl Place)) → Every (IsDeclOf tail t) ds → Every (IsEntryText tail) (placed_texts_from k m ds)
  entries_alone k m [] are = tt
  entries_alone k m (d ∷ ds) are = one d are.0 (λ k m. entries_alone k m ds are.1)
    where
      one : (d : Decl Place) → IsDeclOf tail t d → ((k m : ℕ) → Every (IsEntryText tail) (placed_texts_from k m ds)) → Every (IsEntryText tail) (placed_texts_from k m (d ∷ ds))
      one d (an_event name place) rest = rest k m
      one d (a_monitor name mon is) rest =
          both (IsEntryText tail) (placed_texts_of (by_monitor m) mon.entries) (placed_texts_from k (suc m) ds) (of_monitor m mon.entries is.entries) (rest k (suc m))
      one d (a_process line p is) rest = subst (λ rs. Every (IsEntryText tail) (placed_texts_of (by_process k) rs ++ placed_texts_from (suc k) m ds)) (sym is.routines) (rest (suc k) m)
